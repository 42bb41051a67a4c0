-- The notes that each address is sent are those of the release.
use Rattle.std.proofs.Common.{List, ℕ, IfOk, OnErr, map, sym, ap, subst, ◌∙◌}
use Rattle.cds_outside.specs.declared.link.LinkRequest.{LinkRequest}
use Rattle.cds_serve.specs.Sent.{GivesEach, GivesFront, note_request, release_requests}
use Rattle.cds_serve.proofs.sending.send_notes.Goals as goal

pub returns-in-Some-clause-given : goal.returns-in-Some-clause-given
returns-in-Some-clause-given g c =
    subst (λ (l : List LinkRequest). IfOk c.send_each.result (λ _. GivesEach l (g.L.Link.told c.args.link.now).requests (g.L.Link.told c.send_each.new.link).requests))
    (ap (λ (b : List ℕ). map (note_request b) c.as_slice.result.now) c.as_slice-in-Some.ensures
    ∙ ap (map (note_request c.in-Some.notes.body)) c.as_slice.ensures
    ∙ sym (ap release_requests c.in-Some.is)) c.send_each.ensures.given

pub returns-in-Some-clause-front : goal.returns-in-Some-clause-front
returns-in-Some-clause-front g c =
    subst (λ (l : List LinkRequest). OnErr c.send_each.result (GivesFront l (g.L.Link.told c.args.link.now).requests (g.L.Link.told c.send_each.new.link).requests))
    (ap (λ (b : List ℕ). map (note_request b) c.as_slice.result.now) c.as_slice-in-Some.ensures
    ∙ ap (map (note_request c.in-Some.notes.body)) c.as_slice.ensures
    ∙ sym (ap release_requests c.in-Some.is)) c.send_each.ensures.front
