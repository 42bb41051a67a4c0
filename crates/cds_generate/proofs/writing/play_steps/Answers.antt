-- Each step follows the ones before it.
use Rattle.std.proofs.Common.{◌+◌, ℕ, Ok, Err, ap, sym, subst, ◌∙◌, arith}
use Rattle.std.proofs.lemmas.Result.{err_from_is_err_and}
use Rattle.cds_generate.specs.Generated.{text_of_step}
use Rattle.cds_generate.specs.History.{HistoryState, after_step, after_steps}
use Rattle.cds_generate.specs.Writing.{Took}
use Rattle.cds_generate.proofs.Pieces.{loop_none, loop_more, loop_stops}
use Rattle.cds_generate.proofs.Tracks.{steps-none, steps-more}
use Rattle.cds_generate.proofs.writing.play_steps.Goals as goal

pub loop-done-init : goal.loop-done-init
loop-done-init g c = record {
  took = loop_none (g.K.Sink.told c.args.sink.now) (λ (done : ℕ). text_of_step (done + 1) (after_steps done c.args.history.now));
  after = sym (steps-none c.args.history.now);
}

pub loop-done-preserved : goal.loop-done-preserved
loop-done-preserved g c = record {
  took = loop_more c.loop-done.done (λ (done : ℕ). text_of_step (done + 1) (after_steps done c.args.history.now)) (g.K.Sink.told c.args.sink.now) (g.K.Sink.told c.loop-done.sink) (g.K.Sink.told c.play_step.new.sink) c.loop-done.invariant.took
      (subst (λ (h : HistoryState). Took (Ok tt) (g.K.Sink.told c.loop-done.sink) (text_of_step (c.loop-done.done + 1) h) (g.K.Sink.told c.play_step.new.sink)) c.loop-done.invariant.after c.in_ok-play_step.ensures.took);
  after = c.in_ok-play_step.ensures.after ∙ ap (after_step (c.loop-done.done + 1)) c.loop-done.invariant.after ∙ sym (steps-more c.loop-done.done c.args.history.now);
}

pub returns-in_err-play_step-clause-took : goal.returns-in_err-play_step-clause-took
returns-in_err-play_step-clause-took g c =
    let error = err_from_is_err_and c.from_residual.result c.from_residual.ensures.1 in
    rw (error.1, error.2)
    (loop_stops c.in_err-play_step.field-0.0 c.loop-done.done c.args.steps (λ (done : ℕ). text_of_step (done + 1) (after_steps done c.args.history.now)) (g.K.Sink.told c.args.sink.now) (g.K.Sink.told c.loop-done.sink) (g.K.Sink.told c.play_step.new.sink) (omega arith) c.loop-done.invariant.took
    (subst (λ (h : HistoryState). Took (Err c.in_err-play_step.field-0.0) (g.K.Sink.told c.loop-done.sink) (text_of_step (c.loop-done.done + 1) h) (g.K.Sink.told c.play_step.new.sink)) c.loop-done.invariant.after c.in_err-play_step.ensures.took))
