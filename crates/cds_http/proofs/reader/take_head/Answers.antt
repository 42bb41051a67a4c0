use Rattle.cds_http.specs.declared.lines.LinePlace.TheVariants.{Before}
use Rattle.cds_http.proofs.StageForms.{takes_front, long_head}
use Rattle.cds_http.proofs.reader.take_head.Goals as goal

pub returns-in-Ok-Whole : goal.returns-in-Ok-Whole
returns-in-Ok-Whole c fits =
    let collected = rw c.in-Ok-Whole.field-0-is at (c.in-Ok-Whole.ensures.collects Before fits) in
    let uses = rw c.in-Ok-Whole.field-0-is at c.in-Ok-Whole.ensures.uses in
    let by_text = rw c.as_slice.ensures at c.end_head.ensures in
    let takes = rw c.split_at.ensures.back at by_text in
    takes_front c.args.side c.args.front.text c.args.piece.now c.in-Ok-Whole.text c.in-Ok-Whole.used c.end_head.result uses.1 collected.0 (takes collected.1)

pub returns-in-Err : goal.returns-in-Err
returns-in-Err c fits = long_head c.args.side c.args.front.text c.args.piece.now c.in-Err.refusal (c.in-Err.ensures.collects Before fits)
