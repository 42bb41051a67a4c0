use Rattle.std.proofs.Common.{◌-◌, ℕ, List, length, refl, sym, ap, subst, ◌∙◌, ne_eqb}
use Rattle.std.specs.Prelude.{slice_get}
use Rattle.std.proofs.lemmas.Option.{slice_get_read}
use Rattle.cds_replay.specs.declared.sent.KeptNote.{KeptNote}
use Rattle.cds_replay.specs.Sending.{carries}
use Rattle.cds_replay.proofs.Sending.{request-of}
use Rattle.cds_replay.proofs.sent.Sent.request.Goals as goal

pub returns : goal.returns
returns c =
    let was = c.self.inside in
    let kept = c.in-Some.ensures.lookup in
    let body = c.in-Some-get.ensures.lookup in
    request-of was.bodies.items was.notes.items c.args.self.now c.args.number c.in-Some.note.now c.in-Some-get.body.now c.in_ok-carrying.field-0
    c.self.view_is (ne_eqb c.args.number 0 c.if-number-eq0.false)
    (ap (λ (l : List KeptNote). slice_get l (c.args.number - 1)) (sym c.deref.ensures.value)
    ∙ slice_get_read c.deref.result.now (length c.deref.result.now) (c.args.number - 1) c.in-Some.note.now refl kept.3.0 kept.1)
    (ap (λ (l : List (List ℕ)). slice_get l c.in-Some.note.now.body) (sym c.deref-2.ensures.value)
    ∙ slice_get_read c.deref-2.result.now (length c.deref-2.result.now) c.in-Some.note.now.body c.in-Some-get.body.now refl body.3.0 body.1)
    (subst (λ (b : List ℕ). carries c.in-Some.note.now.to b c.in_ok-carrying.field-0) c.as_slice.ensures c.in_ok-carrying.ensures)
