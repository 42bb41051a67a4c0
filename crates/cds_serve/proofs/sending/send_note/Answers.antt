-- The request that is exchanged is that of the note.
use Rattle.std.proofs.Common.{◌≡◌, ◌∙◌}
use Rattle.cds_serve.specs.Sent.{note_limit, note_request}
use Rattle.cds_serve.proofs.Sends.{note-written, same-request}
use Rattle.cds_serve.proofs.sending.send_note.Goals as goal

pub returns-clause-given : goal.returns-clause-given
returns-clause-given g c =
    let to = c.args.to.now in
    let body = c.args.body.now in
    let text = note-written to body _ _ c.requires.delivered c.new-request.ensures.items c.in_ok-write_notify.ensures.ok in
    let is : record { url = c.as_str.result.now; bytes = c.as_slice.result.now; limit = note_limit } ≡ note_request body to =
    λ i. record { url = c.as_str.ensures i; bytes = (c.as_slice.ensures.value ∙ text) i; limit = note_limit } in
    c.sent.ensures (note_request body to) _ _ (same-request c.exchange-exchanged.result _ (note_request body to) _ _ is c.exchange-exchanged.ensures.requests)
