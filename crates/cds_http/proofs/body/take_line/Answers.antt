use Rattle.cds_http.specs.declared.lines.LinePlace.TheVariants.{InLine}
use Rattle.cds_http.proofs.Chunking.{goes_line, refuses_line, keeps_line, long_line}
use Rattle.cds_http.proofs.body.take_line.Goals as goal

pub returns-in-Ok-clause-goes : goal.returns-in-Ok-clause-goes
returns-in-Ok-clause-goes c fits =
    let collected = rw c.in-Ok-Whole.field-0-is at (c.in-Ok-Whole.ensures.collects InLine fits) in
    let uses = rw c.in-Ok-Whole.field-0-is at c.in-Ok-Whole.ensures.uses in
    let turns = rw c.as_slice.ensures at c.in-Ok.ensures in
    goes_line c.args.bytes c.in-Ok-Whole.text c.args.piece.now c.args.front c.in-Ok-Whole.used c.in-Ok.body uses.1 collected.0 (turns collected.1 collected.2)

pub returns-in-Ok-Whole-clause-goes : goal.returns-in-Ok-Whole-clause-goes
returns-in-Ok-Whole-clause-goes c fits =
    let collected = rw c.in-Ok-Whole.field-0-is at (c.in-Ok-Whole.ensures.collects InLine fits) in
    let turns = rw c.as_slice.ensures at c.in-Err-end_line.ensures in
    refuses_line c.args.bytes c.in-Ok-Whole.text c.args.piece.now c.args.front c.in-Ok-Whole.used c.in-Err-end_line.refusal collected.0 (turns collected.1 collected.2)

pub returns-in-Ok-Going-clause-goes : goal.returns-in-Ok-Going-clause-goes
returns-in-Ok-Going-clause-goes c fits =
    let collected = rw c.in-Ok-Going.field-0-is at (c.in-Ok-Going.ensures.collects InLine fits) in
    keeps_line c.args.bytes c.args.piece.now c.args.front c.in-Ok-Going.front collected.0 collected.1

pub returns-clause-goes : goal.returns-clause-goes
returns-clause-goes c fits = long_line c.args.bytes c.args.piece.now c.args.front c.in-Err.refusal (c.in-Err.ensures.collects InLine fits)
