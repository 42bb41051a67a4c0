-- Over a wire that leaves all as it is a replay reports what the script reports.
use Rattle.std.proofs.Common.{◌≡◌, ℕ, List, ◌++◌, Option, None, Result, IfErr, OnOk, ap, sym, subst, ◌∙◌}
use Rattle.std.proofs.lemmas.Result.{on_ok_weaker, IfErr-weaker}
use Rattle.cds_outside.specs.Outside.{Told}
use Rattle.cds_script.specs.Report.{Ending, outside_ending, script_ending}
use Rattle.cds_replay.specs.declared.play.ReplayError.{ReplayError}
use Rattle.cds_replay.specs.declared.play.ReplayError.TheVariants.{Line, ReadFault, WriteFault, Limit, Refused, Mem}
use Rattle.cds_replay.specs.Replay.{OnLine, OnLimit, Holds, Reports, EndsWith}
use Rattle.cds_replay.specs.Wire.{OnWire, straight_reports_are_the_scripts}

on-line : (e : ReplayError) (P Q : ℕ → Type 0) → ((line : ℕ) → P line → Q line) → OnLine e P → OnLine e Q
on-line (Line line) P Q from p = from line p
on-line ReadFault P Q from p = tt
on-line WriteFault P Q from p = tt
on-line Limit P Q from p = tt
on-line (Refused line) P Q from p = tt
on-line Mem P Q from p = tt

on-limit : (e : ReplayError) (P Q : Type 0) → (P → Q) → OnLimit e P → OnLimit e Q
on-limit (Line line) P Q from p = tt
on-limit ReadFault P Q from p = tt
on-limit WriteFault P Q from p = tt
on-limit Limit P Q from p = from p
on-limit (Refused line) P Q from p = tt
on-limit Mem P Q from p = tt

module _ (law : straight_reports_are_the_scripts) (carried : List ℕ → List ℕ) (same : (bytes : List ℕ) → carried bytes ≡ bytes) (told before after : Option (List ℕ))
    (result : Result (Unit {0}) ReplayError) where
  abbrev Reported : Option ℕ → ℕ → List ℕ → Type 0
  Reported refused status script = OnWire carried script (Reports refused status before after)

  status-is : (refused : Option ℕ) (status : ℕ) (script : List ℕ) → Reported refused status script → (script_ending script).status ≡ status
  status-is refused status script w = ap (λ (e : Ending). e.status) (sym (law carried script w.0 same w.1).1) ∙ w.2.is

  report-is : (refused : Option ℕ) (status : ℕ) (script : List ℕ) → Reported refused status script → Holds before (script_ending script).text after
  report-is refused status script w = subst (λ (e : Ending). Holds before e.text after) (law carried script w.0 same w.1).1 w.2.report

  pub ok-status : OnOk result (Told told (Reported None 0)) → OnOk result (Told told (λ script. (script_ending script).status ≡ 0))
  ok-status = on_ok_weaker result (λ from script is. status-is None 0 script (from script is))

  pub ok-report : OnOk result (Told told (Reported None 0)) → OnOk result (Told told (λ script. Holds before (script_ending script).text after))
  ok-report = on_ok_weaker result (λ from script is. report-is None 0 script (from script is))

  pub line-status : IfErr result (λ e. OnLine e (λ line. Told told (Reported None 1))) →
      IfErr result (λ e. OnLine e (λ line. Told told (λ script. (script_ending script).status ≡ 1)))
  line-status =
      IfErr-weaker result _ _
      (λ e. on-line e (λ line. Told told (Reported None 1)) (λ line. Told told (λ script. (script_ending script).status ≡ 1))
      (λ line from script is. status-is None 1 script (from script is)))

  pub line-report : IfErr result (λ e. OnLine e (λ line. Told told (Reported None 1))) →
      IfErr result (λ e. OnLine e (λ line. Told told (λ script. Holds before (script_ending script).text after)))
  line-report =
      IfErr-weaker result _ _
      (λ e. on-line e (λ line. Told told (Reported None 1)) (λ line. Told told (λ script. Holds before (script_ending script).text after))
      (λ line from script is. report-is None 1 script (from script is)))

  pub line-number : IfErr result (λ e. OnLine e (λ line. Told told (λ script. OnWire carried script (EndsWith (outside_ending line).text)))) →
      IfErr result (λ e. OnLine e (λ line. Told told (λ script. (front : List ℕ) × ((script_ending script).text ≡ front ++ (outside_ending line).text))))
  line-number =
      IfErr-weaker result _ _
      (λ e. on-line e (λ line. Told told (λ script. OnWire carried script (EndsWith (outside_ending line).text)))
      (λ line. Told told (λ script. (front : List ℕ) × ((script_ending script).text ≡ front ++ (outside_ending line).text)))
      (λ line from script is.
      let w = from script is in
      (w.2.0, ap (λ (e : Ending). e.text) (sym (law carried script w.0 same w.1).1) ∙ w.2.1)))

  pub limit-status : IfErr result (λ e. OnLimit e (Told told (Reported None 6))) →
      IfErr result (λ e. OnLimit e (Told told (λ script. (script_ending script).status ≡ 6)))
  limit-status =
      IfErr-weaker result _ _
      (λ e. on-limit e (Told told (Reported None 6)) (Told told (λ script. (script_ending script).status ≡ 6)) (λ from script is. status-is None 6 script (from script is)))

  pub limit-report : IfErr result (λ e. OnLimit e (Told told (Reported None 6))) →
      IfErr result (λ e. OnLimit e (Told told (λ script. Holds before (script_ending script).text after)))
  limit-report =
      IfErr-weaker result _ _
      (λ e. on-limit e (Told told (Reported None 6)) (Told told (λ script. Holds before (script_ending script).text after))
      (λ from script is. report-is None 6 script (from script is)))
