use Rattle.std.proofs.Common.{sym, subst, refl}
use Rattle.cds_load.specs.Stages.{taken}
use Rattle.cds_replica.specs.Holding.{held_in}
use Rattle.cds_replica.specs.Steps.{IsStep, load_takes}
use Rattle.cds_replica.specs.Phases.{phase_in}
use Rattle.cds_replica.specs.declared.stage.Stage.{Stage}
use Rattle.cds_replica.specs.declared.stage.Stage.TheVariants.{Idle, Begun, HasToken, HasNumber, HasRoot, Lists}
use Rattle.cds_replica.proofs.stage.Stage.take.Goals as goal
use Rattle.cds_replica.specs.State.{NoCopy}

pub returns-in-Idle-clause-outcome : goal.returns-in-Idle-clause-outcome
returns-in-Idle-clause-outcome c =
    subst (λ (s : Stage). IsStep (load_takes c.args.changes.now (taken (held_in s) c.args.shown)) (NoCopy (held_in s)) (phase_in c.goes_on.result.0) c.goes_on.result.1) (sym c.in-Idle.is)
    (c.goes_on.ensures.step (taken (held_in Idle) c.args.shown) (held_in Idle) c.args.changes.now (refl, refl))

pub returns-in-Begun-clause-outcome : goal.returns-in-Begun-clause-outcome
returns-in-Begun-clause-outcome c =
    subst (λ (s : Stage). IsStep (load_takes c.args.changes.now (taken (held_in s) c.args.shown)) (NoCopy (held_in s)) (phase_in c.goes_on-in-Begun.result.0) c.goes_on-in-Begun.result.1) (sym c.in-Begun.is)
    (c.goes_on-in-Begun.ensures.step (taken (held_in Begun) c.args.shown) (held_in Begun) c.args.changes.now c.take_token.ensures.outcome)

pub returns-in-HasToken-clause-outcome : goal.returns-in-HasToken-clause-outcome
returns-in-HasToken-clause-outcome c =
    subst (λ (s : Stage). IsStep (load_takes c.args.changes.now (taken (held_in s) c.args.shown)) (NoCopy (held_in s)) (phase_in c.goes_on-in-HasToken.result.0) c.goes_on-in-HasToken.result.1) (sym c.in-HasToken.is)
    (c.goes_on-in-HasToken.ensures.step (taken (held_in HasToken) c.args.shown) (held_in HasToken) c.args.changes.now c.take_number.ensures.outcome)

pub returns-in-HasNumber-clause-outcome : goal.returns-in-HasNumber-clause-outcome
returns-in-HasNumber-clause-outcome c =
    subst (λ (s : Stage). IsStep (load_takes c.args.changes.now (taken (held_in s) c.args.shown)) (NoCopy (held_in s)) (phase_in c.goes_on-in-HasNumber.result.0) c.goes_on-in-HasNumber.result.1) (sym c.in-HasNumber.is)
    (c.goes_on-in-HasNumber.ensures.step (taken (held_in (HasNumber c.in-HasNumber.number)) c.args.shown) (held_in (HasNumber c.in-HasNumber.number)) c.args.changes.now c.take_root.ensures.outcome)

pub returns-in-HasRoot-clause-outcome : goal.returns-in-HasRoot-clause-outcome
returns-in-HasRoot-clause-outcome c =
    subst (λ (s : Stage). IsStep (load_takes c.args.changes.now (taken (held_in s) c.args.shown)) (NoCopy (held_in s)) (phase_in c.goes_on-in-HasRoot.result.0) c.goes_on-in-HasRoot.result.1) (sym c.in-HasRoot.is)
    (c.goes_on-in-HasRoot.ensures.step (taken (held_in (HasRoot c.in-HasRoot.number c.in-HasRoot.root)) c.args.shown) (held_in (HasRoot c.in-HasRoot.number c.in-HasRoot.root)) c.args.changes.now c.take_number_after_root.ensures.outcome)

pub returns-in-Lists-clause-outcome : goal.returns-in-Lists-clause-outcome
returns-in-Lists-clause-outcome c =
    subst (λ (s : Stage). IsStep (load_takes c.args.changes.now (taken (held_in s) c.args.shown)) (NoCopy (held_in s)) (phase_in c.goes_on-in-Lists.result.0) c.goes_on-in-Lists.result.1) (sym c.in-Lists.is)
    (c.goes_on-in-Lists.ensures.step (taken (held_in (Lists c.in-Lists.number c.in-Lists.listing)) c.args.shown) (held_in (Lists c.in-Lists.number c.in-Lists.listing)) c.args.changes.now c.take_page.ensures.outcome)
