-- What a reply leads to in what is kept, by what it leads to in the load.
use Rattle.std.proofs.Common.{◌≡◌, ℕ, List, Result, Ok, Err, refl, ap}
use Rattle.cds_object.specs.declared.event.Event.{Event}
use Rattle.cds_load.specs.Outcome.{Outcome, outcome_map}
use Rattle.cds_load.specs.Stages.{Held}
use Rattle.cds_load.specs.declared.exchange.Read.{Read}
use Rattle.cds_replica.specs.State.{KeptPhase, NoCopy, Copies, KeptKnown}
use Rattle.cds_replica.specs.Steps.{IsStep, with_phase}
use Rattle.cds_replica.specs.declared.error.AnswerError.{AnswerError}
use Rattle.cds_replica.specs.declared.error.AnswerError.TheVariants.{Unreadable, Jump, Torn, Mem}

module _ (base last_note : ℕ) (changes : List Event) where
  abbrev pub kept_in : KeptPhase → KeptKnown
  kept_in phase = record { phase = phase; base = base; last_note = last_note; changes = changes }

  -- the phase before does not matter
  pub with-same : (one other phase : KeptPhase) → with_phase (kept_in one) phase ≡ with_phase (kept_in other) phase
  with-same one other (NoCopy held) = refl
  with-same one other (Copies number copy) = refl

  pub step-kept : (held : Held) (becomes : Outcome KeptPhase) (phase : KeptPhase) (result : Result Read AnswerError) → IsStep becomes (NoCopy held) phase result
      → IsStep (outcome_map (with_phase (kept_in (NoCopy held))) becomes) (kept_in (NoCopy held)) (with_phase (kept_in (NoCopy held)) phase) result
  step-kept held becomes phase (Ok read) is = ap (outcome_map (with_phase (kept_in (NoCopy held)))) is
  step-kept held becomes phase (Err Unreadable) is = (ap (outcome_map (with_phase (kept_in (NoCopy held)))) is.0, ap (with_phase (kept_in (NoCopy held))) is.1)
  step-kept held becomes phase (Err (Jump expected first)) is = (ap (outcome_map (with_phase (kept_in (NoCopy held)))) is.0, ap (with_phase (kept_in (NoCopy held))) is.1)
  step-kept held becomes phase (Err (Torn id)) is = (ap (outcome_map (with_phase (kept_in (NoCopy held)))) is.0, ap (with_phase (kept_in (NoCopy held))) is.1)
  step-kept held becomes phase (Err Mem) is = ap (with_phase (kept_in (NoCopy held))) is
