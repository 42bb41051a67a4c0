-- A line that is made and then written.
use Rattle.std.proofs.Common.{◌∙◌}
use Rattle.cds_outside.specs.Outside.{Rose}
use Rattle.cds_serve.specs.declared.fault.Fault.TheVariants as fault
use Rattle.cds_serve.specs.Life.{IsCaused, WritesLine, serving_line}
use Rattle.cds_serve.proofs.Lives.{exit, line-as, line-none}
use Rattle.cds_serve.proofs.life.write_serving.Goals as goal

pub returns-in_err-line-clause-written : goal.returns-in_err-line-clause-written
returns-in_err-line-clause-written g c =
    exit (λ r. WritesLine r (serving_line c.args.port) (g.K.Sink.told c.args.sink.now).holds (g.K.Sink.told c.args.sink.now).holds) c.from_residual.result fault.Mem c.from_residual.ensures.1
    (line-none fault.Mem (serving_line c.args.port) (g.K.Sink.told c.args.sink.now).holds)

pub returns-in_err-line-clause-cause : goal.returns-in_err-line-clause-cause
returns-in_err-line-clause-cause g c = exit (λ r. IsCaused r (Rose (g.K.Sink.told c.args.sink.now).faults (g.K.Sink.told c.args.sink.now).faults) ⊥) c.from_residual.result fault.Mem c.from_residual.ensures.1 tt

pub returns-clause-written : goal.returns-clause-written
returns-clause-written g c =
    line-as c.write_line.result _ (serving_line c.args.port) (g.K.Sink.told c.args.sink.now).holds (g.K.Sink.told c.write_line.new.sink).holds
    (c.as_str.ensures.value ∙ c.in_ok-line.ensures) c.write_line.ensures.written
