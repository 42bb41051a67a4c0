use Rattle.std.proofs.Common.{sym}
use Rattle.cds_http.proofs.StageForms.{no_head, no_framing, begins_body}
use Rattle.cds_http.proofs.reader.end_head.Goals as goal

pub returns-in-Err : goal.returns-in-Err
returns-in-Err c ends = no_head c.args.side c.args.text.now c.args.rest.now c.in-Err.refusal (c.in-Err.ensures ends) ends c.requires

pub returns-in-Ok-frame : goal.returns-in-Ok-frame
returns-in-Ok-frame c ends =
    let head = c.in-Ok.head in
    c.take_rest.ensures c.args.side c.args.text.now c.new_body.ensures.fits
    (begins_body c.args.side c.args.text.now head c.in-Ok-frame.framing c.new_body.result (c.in-Ok.ensures ends) ends c.requires (sym c.in-Ok-frame.ensures.value) c.new_body.ensures.known)

pub returns-in-Err-frame : goal.returns-in-Err-frame
returns-in-Err-frame c ends =
    no_framing c.args.side c.args.text.now c.args.rest.now c.in-Ok.head c.in-Err-frame.refusal (c.in-Ok.ensures ends) ends c.requires (sym c.in-Err-frame.ensures.value) c.in-Err-frame.ensures.causes
