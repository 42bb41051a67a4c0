-- A script ends over a wire in one way.
use Rattle.std.proofs.Common.{◌≡◌, ℕ, ◌+◌, List, [], ◌∷◌, length, Bool, true, false, nat_lt, Option, Some, None, ap, sym, subst, ◌∙◌}
use Rattle.std.specs.Prelude.{nat_le}
use Rattle.cds_exchange.proofs.OneReading.{readings-are-one}
use Rattle.cds_load.specs.Server.{Moment}
use Rattle.cds_load.specs.declared.exchange.Ask.{Ask as Asked}
use Rattle.cds_load.specs.declared.exchange.Shown.{Shown}
use Rattle.cds_follow.specs.Follow.{known_by, next_ask}
use Rattle.cds_script.specs.Lines.{script_limit, line_limit}
use Rattle.cds_script.specs.Script.{meaning_of}
use Rattle.cds_script.specs.Report.{outside_ending, limit_ending}
use Rattle.cds_script.specs.declared.turn.Meaning.{Meaning}
use Rattle.cds_script.specs.declared.turn.Meaning.TheVariants.{Nothing, Means, Outside}
use Rattle.cds_script.specs.declared.turn.ScriptTurn.{ScriptTurn}
use Rattle.cds_script.specs.declared.turn.ScriptTurn.TheVariants.{Folder, Track, Tag, Scan, Load, Read, Ask, First, Wrap, At, Subscribe, Accept, Renew, Unsubscribe, Deliver, ReadFault}
use Rattle.cds_replay.specs.Wire.{WiredEnding, unrefused, refused_at, wired_first, server_reply, Either, IsLeftOf, IsReadBy, EndsAtStep, EndsAtTurn, EndsAtLine, EndsFrom, EndsOver, lines_in, wires_end_once}
use Rattle.cds_replay.specs.Wired.{ReplayStep, played_by, moment_by, may_stand_by, refuses, written_on}

-- whichever way a test goes
either-same : (b : Bool) (P Q R S : Type 0) (T : Type 0) → (P → R → T) → (Q → S → T) → Either b P Q → Either b R S → T
either-same true P Q R S T first second one other = first one other
either-same false P Q R S T first second one other = second one other

left-once : (carried : List ℕ → List ℕ) (moment : Moment) (o : Option Asked) (one other : Option Shown) → IsLeftOf carried moment o one → IsLeftOf carried moment o other → one ≡ other
left-once carried moment None one other is also = is ∙ sym also
left-once carried moment (Some ask) one other is also = readings-are-one ask (carried (server_reply moment ask)) one other is also

read-once : (carried : List ℕ → List ℕ) (older : List ReplayStep) (turn : ScriptTurn) (one other : Option Shown) → IsReadBy carried older turn one → IsReadBy carried older turn other → one ≡ other
read-once carried older (Folder path) one other is also = is ∙ sym also
read-once carried older (Track path info size) one other is also = is ∙ sym also
read-once carried older (Tag comment) one other is also = is ∙ sym also
read-once carried older Scan one other is also = is ∙ sym also
read-once carried older Load one other is also = is ∙ sym also
read-once carried older Read one other is also = left-once carried (moment_by older) (next_ask (known_by (played_by older).replica)) one other is also
read-once carried older Ask one other is also = is ∙ sym also
read-once carried older (First number) one other is also = is ∙ sym also
read-once carried older (Wrap number) one other is also = is ∙ sym also
read-once carried older (At moment) one other is also = is ∙ sym also
read-once carried older Subscribe one other is also = is ∙ sym also
read-once carried older Accept one other is also = is ∙ sym also
read-once carried older Renew one other is also = is ∙ sym also
read-once carried older Unsubscribe one other is also = is ∙ sym also
read-once carried older (Deliver note) one other is also = is ∙ sym also
read-once carried older ReadFault one other is also = is ∙ sym also

module _ (carried : List ℕ → List ℕ) (Later : List ReplayStep → WiredEnding → Type 0) (once : (now : List ReplayStep) (a b : WiredEnding) → Later now a → Later now b → a ≡ b) where
  step-once : (older : List ReplayStep) (step : ReplayStep) (number : ℕ) (one other : WiredEnding) → EndsAtStep older step number Later one → EndsAtStep older step number Later other → one ≡ other
  step-once older step number one other ends also =
      either-same (refuses older step) (one ≡ refused_at (step ∷ older) number)
      ((later : WiredEnding) × Later (step ∷ older) later × (one ≡ wired_first (written_on older step) later))
      (other ≡ refused_at (step ∷ older) number)
      ((later : WiredEnding) × Later (step ∷ older) later × (other ≡ wired_first (written_on older step) later))
      (one ≡ other) (λ a b. a ∙ sym b)
      (λ a b. a.2 ∙ ap (wired_first (written_on older step)) (once (step ∷ older) a.0 b.0 a.1 b.1) ∙ sym b.2) ends also

  turn-once : (older : List ReplayStep) (turn : ScriptTurn) (number : ℕ) (one other : WiredEnding) → EndsAtTurn carried older turn number Later one →
      EndsAtTurn carried older turn number Later other → one ≡ other
  turn-once older turn number one other ends also =
      either-same (may_stand_by older turn)
      ((read : Option Shown) × IsReadBy carried older turn read × EndsAtStep older (record { turn = turn; read = read }) number Later one)
      (one ≡ unrefused older (outside_ending number))
      ((read : Option Shown) × IsReadBy carried older turn read × EndsAtStep older (record { turn = turn; read = read }) number Later other)
      (other ≡ unrefused older (outside_ending number))
      (one ≡ other)
      (λ a b. step-once older (record { turn = turn; read = a.0 }) number one other a.2
      (subst (λ read. EndsAtStep older (record { turn = turn; read = read }) number Later other) (sym (read-once carried older turn a.0 b.0 a.1 b.1)) b.2))
      (λ a b. a ∙ sym b) ends also

  line-once : (steps : List ReplayStep) (meaning : Meaning) (number : ℕ) (one other : WiredEnding) → EndsAtLine carried steps meaning number Later one →
      EndsAtLine carried steps meaning number Later other → one ≡ other
  line-once steps Nothing number one other ends also = once steps one other ends also
  line-once steps (Means turn) number one other ends also = turn-once steps turn number one other ends also
  line-once steps Outside number one other ends also = ends ∙ sym also

from-once : (carried : List ℕ → List ℕ) (lines : List (List ℕ)) (whole : Bool) (number : ℕ) (steps : List ReplayStep) (one other : WiredEnding) →
    EndsFrom carried steps number lines whole one → EndsFrom carried steps number lines whole other → one ≡ other
from-once carried [] whole number steps one other ends also = ends ∙ sym also
from-once carried (line ∷ lines) whole number steps one other ends also =
    either-same (nat_lt line_limit (length line)) (one ≡ unrefused steps limit_ending)
    (EndsAtLine carried steps (meaning_of line) number (λ now later. EndsFrom carried now (number + 1) lines whole later) one)
    (other ≡ unrefused steps limit_ending)
    (EndsAtLine carried steps (meaning_of line) number (λ now later. EndsFrom carried now (number + 1) lines whole later) other)
    (one ≡ other) (λ a b. a ∙ sym b)
    (line-once carried (λ now later. EndsFrom carried now (number + 1) lines whole later) (λ now a b. from-once carried lines whole (number + 1) now a b)
    steps (meaning_of line) number one other) ends also

pub ends-once : wires_end_once
unfolding EndsOver
ends-once carried script one other ends also = from-once carried (lines_in script_limit script) (nat_le (length script) script_limit) 1 [] one other ends also
