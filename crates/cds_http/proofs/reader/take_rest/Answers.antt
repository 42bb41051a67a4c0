use Rattle.cds_http.proofs.Counting.{take_full}
use Rattle.cds_http.proofs.StageForms.{keeps_body, ends_body, refuses_body}
use Rattle.cds_http.proofs.reader.take_rest.Goals as goal

pub behind-requires : goal.behind-requires
behind-requires c = rw c.in-Ok-Whole.field-0-is at c.in-Ok-Whole.ensures.uses

pub returns-in-Ok-More : goal.returns-in-Ok-More
returns-in-Ok-More c side bytes fits so_far =
    let goes = rw c.in-Ok-More.field-0-is at (c.in-Ok-More.ensures.goes fits) in
    let all = rw c.in-Ok-More.field-0-is at c.in-Ok-More.ensures.uses in
    keeps_body side bytes c.args.piece.now c.args.head c.args.body c.in-Ok-More.body c.in-Ok-More.field-0-1 so_far all goes (take_full c.args.piece.now)

pub returns-in-Ok-Whole : goal.returns-in-Ok-Whole
returns-in-Ok-Whole c side bytes fits so_far =
    let goes = rw c.in-Ok-Whole.field-0-is at (c.in-Ok-Whole.ensures.goes fits) in
    rw c.behind.ensures (ends_body side bytes c.args.piece.now c.in-Ok-Whole.body c.args.head c.args.body c.in-Ok-Whole.used c.with_body.result c.with_body.ensures so_far goes)

pub returns-in-Err : goal.returns-in-Err
returns-in-Err c side bytes fits so_far =
    refuses_body side bytes c.args.piece.now c.args.head c.args.body c.in-Err.refusal so_far (c.in-Err.ensures.goes fits)
