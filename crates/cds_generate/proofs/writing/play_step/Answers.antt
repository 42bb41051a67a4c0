-- The tracks stay as many, and the step is the history's.
use Rattle.std.proofs.Common.{◌≡◌, ℕ, List, length, ap, subst, ◌∙◌, arith}
use Rattle.cds_generate.specs.Generated.{step_text}
use Rattle.cds_generate.specs.History.{HistoryState}
use Rattle.cds_generate.specs.Writing.{Took}
use Rattle.cds_generate.proofs.Tracks.{step-length}
use Rattle.cds_generate.proofs.writing.play_step.Goals as goal

pub write_step-requires : goal.write_step-requires
write_step-requires g c =
    let same : length c.tracks.result.now ≡ length c.args.history.now.library.tracks =
    ap length c.tracks.ensures ∙ ap (λ (h : HistoryState). length h.library.tracks) c.advance-step.ensures.after ∙ step-length c.args.number c.args.history.now in
    omega (arith, same, c.requires.few)

pub returns-clause-took : goal.returns-clause-took
returns-clause-took g c =
    subst (λ (t : List ℕ). Took c.write_step.result (g.K.Sink.told c.args.sink.now) t (g.K.Sink.told c.write_step.new.sink))
    (λ i. step_text ((c.tracks.ensures ∙ ap (λ (h : HistoryState). h.library.tracks) c.advance-step.ensures.after) i) (c.advance-step.ensures.step i)) c.write_step.ensures
