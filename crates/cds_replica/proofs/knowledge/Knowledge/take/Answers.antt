use Rattle.std.proofs.Common.{◌≡◌, ◌∙◌, List, sym, subst}
use Rattle.cds_object.specs.declared.event.Event.{Event}
use Rattle.cds_load.specs.Stages.{taken}
use Rattle.cds_replica.specs.Holding.{held_in}
use Rattle.cds_replica.specs.Phases.{phase_in}
use Rattle.cds_replica.specs.State.{NoCopy, KeptKnown}
use Rattle.cds_replica.specs.Steps.{IsStep, answers, load_takes, with_phase}
use Rattle.cds_replica.proofs.Phased.{kept_in, with-same, step-kept}
use Rattle.cds_replica.proofs.knowledge.Knowledge.take.Goals as goal

pub returns-in-Load-clause-outcome : goal.returns-in-Load-clause-outcome
returns-in-Load-clause-outcome c =
    let old = c.self.inside in
    let held = held_in c.in-Load.stage in
    let phase = phase_in c.take-phase.result.0 in
    let kept = kept_in old.base old.last_note old.changes.items (NoCopy held) in
    let is : kept ≡ c.args.self.now = (λ i. kept_in old.base old.last_note old.changes.items (phase_in (c.in-Load.ensures.value i))) ∙ c.self.view_is in
    let step = step-kept old.base old.last_note old.changes.items held (load_takes old.changes.items (taken held c.args.shown)) phase c.take-phase.result.1
    (subst (λ (changes : List Event). IsStep (load_takes changes (taken held c.args.shown)) (NoCopy held) phase c.take-phase.result.1) c.as_slice.ensures.value c.take-phase.ensures.outcome) in
    subst (λ (new : KeptKnown). IsStep (answers c.args.self.now c.args.self.now.phase c.args.shown) c.args.self.now new c.take-phase.result.1)
    (sym (c.goes_to.ensures ∙ with-same old.base old.last_note old.changes.items (phase_in c.replace.new.dest) (NoCopy held) phase))
    (subst (λ (k : KeptKnown). IsStep (answers k k.phase c.args.shown) k (with_phase kept phase) c.take-phase.result.1) is step)
