use Rattle.cds_http.specs.declared.lines.LinePlace.TheVariants.{Fresh}
use Rattle.cds_http.proofs.Chunking.{goes_trailer, refuses_trailer, keeps_trailer, long_trailer}
use Rattle.cds_http.proofs.body.take_trailer.Goals as goal

pub returns-then-is_trailer-clause-goes : goal.returns-then-is_trailer-clause-goes
returns-then-is_trailer-clause-goes c fits =
    let collected = rw c.in-Ok-Whole.field-0-is at (c.in-Ok-Whole.ensures.collects Fresh fits) in
    let uses = rw c.in-Ok-Whole.field-0-is at c.in-Ok-Whole.ensures.uses in
    let read = rw c.as_slice.ensures at c.if-is_trailer.ensures in
    goes_trailer c.args.bytes c.in-Ok-Whole.text c.args.piece.now c.args.front c.in-Ok-Whole.used uses.1 collected.0 (read collected.1) collected.1 collected.2

pub returns-else-is_trailer-clause-goes : goal.returns-else-is_trailer-clause-goes
returns-else-is_trailer-clause-goes c fits =
    let collected = rw c.in-Ok-Whole.field-0-is at (c.in-Ok-Whole.ensures.collects Fresh fits) in
    let read = rw c.as_slice.ensures at c.if-is_trailer.ensures in
    refuses_trailer c.args.bytes c.in-Ok-Whole.text c.args.piece.now c.args.front c.in-Ok-Whole.used collected.0 (read collected.1) collected.1 collected.2

pub returns-in-Ok-Going-clause-goes : goal.returns-in-Ok-Going-clause-goes
returns-in-Ok-Going-clause-goes c fits =
    let collected = rw c.in-Ok-Going.field-0-is at (c.in-Ok-Going.ensures.collects Fresh fits) in
    keeps_trailer c.args.bytes c.args.piece.now c.args.front c.in-Ok-Going.front collected.0 collected.1

pub returns-in-Err-clause-goes : goal.returns-in-Err-clause-goes
returns-in-Err-clause-goes c fits = long_trailer c.args.bytes c.args.piece.now c.args.front c.in-Err.refusal (c.in-Err.ensures.collects Fresh fits)
