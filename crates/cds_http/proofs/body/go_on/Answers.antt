use Rattle.std.proofs.Common.{ap, ◌∙◌, ℕ}
use Rattle.cds_http.specs.declared.body.Part.TheVariants.{Counted, Line, Data, Close, Trailer}
use Rattle.cds_http.proofs.Walking.{at_part}
use Rattle.cds_http.proofs.body.go_on.Goals as goal

pub returns-in-Counted-clause-goes : goal.returns-in-Counted-clause-goes
returns-in-Counted-clause-goes c = at_part c.args.body (Counted c.in-Counted.left) c.args.piece.now c.take_counted.result c.in-Counted.is (λ _. c.take_counted.ensures.goes)

pub returns-in-Line-clause-goes : goal.returns-in-Line-clause-goes
returns-in-Line-clause-goes c = at_part c.args.body (Line c.in-Line.front) c.args.piece.now c.take_line.result c.in-Line.is c.take_line.ensures.goes

pub returns-in-Close-clause-goes : goal.returns-in-Close-clause-goes
returns-in-Close-clause-goes c = at_part c.args.body Close c.args.piece.now c.take_close.result c.in-Close.is (λ _. c.take_close.ensures.goes)

pub returns-in-Trailer-clause-goes : goal.returns-in-Trailer-clause-goes
returns-in-Trailer-clause-goes c = at_part c.args.body (Trailer c.in-Trailer.front) c.args.piece.now c.take_trailer.result c.in-Trailer.is c.take_trailer.ensures.goes

pub returns-else-left-eq0-clause-goes : goal.returns-else-left-eq0-clause-goes
returns-else-left-eq0-clause-goes c = at_part c.args.body (Data c.in-Data.left) c.args.piece.now c.take_data.result c.in-Data.is (λ _. c.take_data.ensures.goes)

pub returns-then-left-eq0-clause-goes : goal.returns-then-left-eq0-clause-goes
returns-then-left-eq0-clause-goes c =
    at_part c.args.body (Data 0) c.args.piece.now c.take_return.result (c.in-Data.is ∙ ap (λ (n : ℕ). Data n) c.if-left-eq0.true) (λ _. c.take_return.ensures.goes)
