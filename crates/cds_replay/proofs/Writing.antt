-- What a written answer says of the script that it ends.
use Rattle.std.proofs.Common.{◌≡◌, ℕ, List, [], ◌++◌, Option, Some, None, Result, Err, IfErr, OnOk, refl, ap, sym, subst, ◌∙◌, ◌⊎◌, inl, inr}
use Rattle.cds_replay.specs.Script.{AtLimit, AtRefusal, EndsAt}
use Rattle.cds_replay.specs.declared.script.ScriptStop.{ScriptStop}
use Rattle.cds_replay.specs.declared.script.ScriptStop.TheVariants.{Outside, Limit as PastLimit, Refused as RefusedAt}
use Rattle.cds_replay.specs.declared.play.ReplayError.{ReplayError}
use Rattle.cds_replay.specs.declared.play.ReplayError.TheVariants.{WriteFault}
use Rattle.cds_replay.specs.Replay.{OnLimit, OnRefused, Holds, Closes, StopsIn, Stopped, answer_of}

-- a script that goes on
pub written-ok : (result : Result (Unit {0}) ReplayError) (stop : Option ScriptStop) (P : Type 0) → (result ≡ Err WriteFault) ⊎ (result ≡ answer_of stop) →
    (stop ≡ None → result ≡ answer_of stop → P) → OnOk result P
written-ok result stop P (inl is) from = subst (λ r. OnOk r P) (sym is) tt
written-ok result None P (inr is) from = subst (λ r. OnOk r P) (sym is) (from refl is)
written-ok result (Some (Outside line)) P (inr is) from = subst (λ r. OnOk r P) (sym is) tt
written-ok result (Some PastLimit) P (inr is) from = subst (λ r. OnOk r P) (sym is) tt
written-ok result (Some (RefusedAt line)) P (inr is) from = subst (λ r. OnOk r P) (sym is) tt

-- a script that stops
pub written-stops : (carried : List ℕ → List ℕ) (result : Result (Unit {0}) ReplayError) (stop : Option ScriptStop) (bytes written : List ℕ) (before after : Option (List ℕ)) →
    (result ≡ Err WriteFault) ⊎ (result ≡ answer_of stop) →
    ((by : ScriptStop) → stop ≡ Some by → result ≡ answer_of stop → StopsIn carried bytes written by before after) →
    IfErr result (λ e. Stopped carried e bytes written before after)
written-stops carried result stop bytes written before after (inl is) from = subst (λ r. IfErr r (λ e. Stopped carried e bytes written before after)) (sym is) tt
written-stops carried result None bytes written before after (inr is) from = subst (λ r. IfErr r (λ e. Stopped carried e bytes written before after)) (sym is) tt
written-stops carried result (Some (Outside line)) bytes written before after (inr is) from =
    subst (λ r. IfErr r (λ e. Stopped carried e bytes written before after)) (sym is) (from (Outside line) refl is)
written-stops carried result (Some PastLimit) bytes written before after (inr is) from =
    subst (λ r. IfErr r (λ e. Stopped carried e bytes written before after)) (sym is) (from PastLimit refl is)
written-stops carried result (Some (RefusedAt line)) bytes written before after (inr is) from =
    subst (λ r. IfErr r (λ e. Stopped carried e bytes written before after)) (sym is) (from (RefusedAt line) refl is)

-- a script that stops at no limit
pub written-no-limit : (result : Result (Unit {0}) ReplayError) (stop : Option ScriptStop) → (result ≡ Err WriteFault) ⊎ (result ≡ answer_of stop) →
    AtLimit stop ⊥ → IfErr result (λ e. OnLimit e ⊥)
written-no-limit result stop (inl is) none = subst (λ r. IfErr r (λ e. OnLimit e ⊥)) (sym is) tt
written-no-limit result None (inr is) none = subst (λ r. IfErr r (λ e. OnLimit e ⊥)) (sym is) tt
written-no-limit result (Some (Outside line)) (inr is) none = subst (λ r. IfErr r (λ e. OnLimit e ⊥)) (sym is) tt
written-no-limit result (Some PastLimit) (inr is) none = absurd none
written-no-limit result (Some (RefusedAt line)) (inr is) none = subst (λ r. IfErr r (λ e. OnLimit e ⊥)) (sym is) tt

-- a script that nothing is refused in
pub written-unrefused : (result : Result (Unit {0}) ReplayError) (stop : Option ScriptStop) → (result ≡ Err WriteFault) ⊎ (result ≡ answer_of stop) →
    AtRefusal stop ⊥ → IfErr result (λ e. OnRefused e (λ line. ⊥))
written-unrefused result stop (inl is) none = subst (λ r. IfErr r (λ e. OnRefused e (λ line. ⊥))) (sym is) tt
written-unrefused result None (inr is) none = subst (λ r. IfErr r (λ e. OnRefused e (λ line. ⊥))) (sym is) tt
written-unrefused result (Some (Outside line)) (inr is) none = subst (λ r. IfErr r (λ e. OnRefused e (λ line. ⊥))) (sym is) tt
written-unrefused result (Some PastLimit) (inr is) none = subst (λ r. IfErr r (λ e. OnRefused e (λ line. ⊥))) (sym is) tt
written-unrefused result (Some (RefusedAt line)) (inr is) none = absurd none

-- the text that a script ends with, where it was all that a sink took
pub closes : (carried : List ℕ → List ℕ) (bytes written : List ℕ) (refused : Option ℕ) (status : ℕ) (last text old new : List ℕ) (before after : Option (List ℕ)) →
    EndsAt carried bytes written refused status last old new → old ≡ [] → text ≡ new → Holds before text after → Closes carried bytes written refused status last before after
closes carried bytes written refused status last text old new before after ends empty same held = record {
  ending = ends.ending;
  is = ends.is;
  at = ends.at;
  ends = ap (λ e. e.status) ends.ends;
  front = ends.front;
  text = ap (λ e. e.text) ends.ends;
  holds = subst (λ t. Holds before t after) (same ∙ ends.out ∙ ap (λ t. t ++ (ends.front ++ last)) empty) held;
}
