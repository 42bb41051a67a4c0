use Rattle.cds_markup.specs.Reader.{Finished}
use Rattle.cds_markup.proofs.Readings.{err_is, element_refused}
use Rattle.cds_markup.proofs.reader.Reader.finish.Goals as goal

pub returns-in_err-finish_placed-clause-finished : goal.returns-in_err-finish_placed-clause-finished
returns-in_err-finish_placed-clause-finished c =
    err_is (Finished c.args.self) c.from_residual.result c.in_err-finish_placed.field-0.0 c.from_residual.ensures.1 (element_refused c.args.self c.in_err-finish_placed.field-0.0 c.in_err-finish_placed.ensures.finished)

pub returns-clause-finished : goal.returns-clause-finished
returns-clause-finished c = λ bytes read. (c.in_ok-finish_placed.ensures.finished bytes read).0
