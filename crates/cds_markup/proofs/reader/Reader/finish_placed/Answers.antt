use Rattle.std.proofs.Common.{sym, ◌∙◌}
use Rattle.cds_markup.specs.Reader.{FinishedPlaced}
use Rattle.cds_markup.proofs.Readings.{err_is, end_refused, end_read}
use Rattle.cds_markup.proofs.reader.Reader.finish_placed.Goals as goal

pub returns-in_err-finish-clause-finished : goal.returns-in_err-finish-clause-finished
returns-in_err-finish-clause-finished c =
    err_is (FinishedPlaced c.args.self) c.from_residual.result c.in_err-finish.field-0.0 c.from_residual.ensures.1
    (end_refused c.args.self c.self.inside.parts c.self.inside.builder c.self.view_is c.in_err-finish.field-0.0 c.in_err-finish.ensures.ends)

pub returns-in-Some-clause-finished : goal.returns-in-Some-clause-finished
returns-in-Some-clause-finished c = λ bytes read. rw (sym c.into_placed.ensures ∙ c.in-Some.is) at (end_read c.args.self c.self.inside.parts c.self.inside.builder c.self.view_is c.in_ok-finish.ensures.ends bytes read)

pub returns-in-None-clause-finished : goal.returns-in-None-clause-finished
returns-in-None-clause-finished c = λ bytes read. rw (sym c.into_placed.ensures ∙ c.in-None.is) at (end_read c.args.self c.self.inside.parts c.self.inside.builder c.self.view_is c.in_ok-finish.ensures.ends bytes read)
