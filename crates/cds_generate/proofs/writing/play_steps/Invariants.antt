-- So far this many steps were written.
use Rattle.std.proofs.Common.{◌≡◌, Ok}
use Rattle.cds_generate.specs.Generated.{steps_text}
use Rattle.cds_generate.specs.History.{after_steps}
use Rattle.cds_generate.specs.Writing.{Took}
use Rattle.cds_generate.proofs.writing.play_steps.Given as goal

abbrev pub invariant-loop-done : goal.invariant-loop-done
invariant-loop-done g l = record {
  took : Took (Ok tt) (g.K.Sink.told l.initial.sink) (steps_text l.done l.fn.history) (g.K.Sink.told l.sink);
  after : l.history ≡ after_steps l.done l.fn.history;
}
