-- What `summary` answers for a script that stops.
use Rattle.std.proofs.Common.{◌≡◌, ℕ, List, Option, Some, Result, Err, IfErr, ◌⊎◌}
use Rattle.cds_outside.specs.Outside.{Told}
use Rattle.cds_script.specs.Report.{limit_ending, outside_ending}
use Rattle.cds_summary.specs.Summary.{summary_ending}
use Rattle.cds_replay.specs.declared.script.ScriptStop.{ScriptStop}
use Rattle.cds_replay.specs.declared.script.ScriptStop.TheVariants.{Outside, Limit as PastLimit}
use Rattle.cds_replay.specs.declared.play.ReplayError.{ReplayError}
use Rattle.cds_replay.specs.declared.play.ReplayError.TheVariants.{WriteFault, Mem}
use Rattle.cds_replay.specs.Replay.{Holds, OnLimit, OnLine, answer_of}
use Rattle.cds_replay.specs.Summing.{Sums}
use Rattle.cds_replay.proofs.Tallied.{halt-case, sums-limit, sums-line}

abbrev Answered : Result (Unit {0}) ReplayError → ScriptStop → Type 0
Answered result stop = (result ≡ Err Mem) ⊎ ((result ≡ Err WriteFault) ⊎ (result ≡ answer_of (Some stop)))

module _ (result : Result (Unit {0}) ReplayError) (told before after : Option (List ℕ)) where
  pub halts-line : (line : ℕ) → Answered result (Outside line) → ((bytes : List ℕ) → told ≡ Some bytes → summary_ending bytes ≡ outside_ending line) →
      (result ≡ answer_of (Some (Outside line)) → Holds before (outside_ending line).text after) → IfErr result (λ e. OnLine e (λ n. Told told (Sums 1 before after)))
  halts-line line answer stops held =
      halt-case (λ r. IfErr r (λ e. OnLine e (λ n. Told told (Sums 1 before after)))) result (Outside line) answer tt tt
      (λ same bytes is. sums-line line before after bytes (stops bytes is) (held same))

  pub halts-number : (line : ℕ) → Answered result (Outside line) → ((bytes : List ℕ) → told ≡ Some bytes → summary_ending bytes ≡ outside_ending line) →
      IfErr result (λ e. OnLine e (λ n. Told told (λ script. summary_ending script ≡ outside_ending n)))
  halts-number line answer stops =
      halt-case (λ r. IfErr r (λ e. OnLine e (λ n. Told told (λ script. summary_ending script ≡ outside_ending n)))) result (Outside line) answer tt tt (λ same. stops)

  pub halts-limit : Answered result PastLimit → ((bytes : List ℕ) → told ≡ Some bytes → summary_ending bytes ≡ limit_ending) →
      (result ≡ answer_of (Some PastLimit) → Holds before limit_ending.text after) → IfErr result (λ e. OnLimit e (Told told (Sums 6 before after)))
  halts-limit answer stops held =
      halt-case (λ r. IfErr r (λ e. OnLimit e (Told told (Sums 6 before after)))) result PastLimit answer tt tt
      (λ same bytes is. sums-limit before after bytes (stops bytes is) (held same))
