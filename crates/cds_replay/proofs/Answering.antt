-- A turn that is taken or refused, as a line of its script.
use Rattle.std.proofs.Common.{◌≡◌, ℕ, true, false, List, [], ◌∷◌, ◌++◌, Option, Some, None, Result, Ok, Err, refl, ap, sym, subst, ◌∙◌}
use Rattle.std.specs.Prelude.{OnOk, IfOk}
use Rattle.std.proofs.lemmas.Bool.{true≢false}
use Rattle.std.proofs.lemmas.List.{append-nil}
use Rattle.cds_base.specs.declared.mem.Mem.{Mem}
use Rattle.cds_load.specs.declared.exchange.Shown.{Shown}
use Rattle.cds_script.specs.Report.{outside_ending}
use Rattle.cds_script.specs.declared.turn.Meaning.{Meaning}
use Rattle.cds_script.specs.declared.turn.Meaning.TheVariants.{Nothing, Means, Outside as IsOutside}
use Rattle.cds_script.specs.declared.turn.ScriptTurn.{ScriptTurn}
use Rattle.cds_replay.specs.Script.{stop_text, Continued, LineTaken, LineStops, LineRead}
use Rattle.cds_replay.specs.Session.{Playing, IsAfter, Grows, IsPlayed, TurnTaken, QuietTaken, quiet, of_memory}
use Rattle.cds_replay.specs.Wire.{WiredEnding, EndsAtStep, IsReadBy, unrefused, refused_at, wired_first, straight_wires_are_taken}
use Rattle.cds_replay.specs.Wired.{ReplayStep, may_stand_by, refuses, written_on}
use Rattle.cds_replay.specs.declared.script.ScriptStop.{ScriptStop}
use Rattle.cds_replay.specs.declared.script.ScriptStop.TheVariants.{Outside, Refused as RefusedAt}
use Rattle.cds_replay.specs.declared.session.TurnError.{TurnError}
use Rattle.cds_replay.specs.declared.session.TurnError.TheVariants.{Refused, Mem as NoMemory}
use Rattle.cds_replay.proofs.Ends.{either-first, either-second}
use Rattle.cds_replay.proofs.Turned.{grown}

-- ---- a turn without a reply

pub quiet-answer : (carried : List ℕ → List ℕ) (steps : List ReplayStep) (turn : ScriptTurn) (old new : List ℕ) (playing : Playing) (result : Result (Unit {0}) TurnError) →
    IsReadBy carried steps turn None → QuietTaken steps turn old new playing result → TurnTaken carried steps turn old new playing result
quiet-answer carried steps turn old new playing (Ok done) none taken = (None, none, taken)
quiet-answer carried steps turn old new playing (Err Refused) none taken = (None, none, taken)
quiet-answer carried steps turn old new playing (Err NoMemory) none taken = tt

pub quiet-turn : (carried : List ℕ → List ℕ) (steps : List ReplayStep) (turn : ScriptTurn) (old new : List ℕ) (playing : Playing) (answer : Result (Unit {0}) Mem)
    (result : Result (Unit {0}) TurnError) → result ≡ of_memory answer → IsReadBy carried steps turn None → refuses steps (quiet turn) ≡ false →
    OnOk answer (IsAfter playing (quiet turn ∷ steps)) → OnOk answer (new ≡ old ++ written_on steps (quiet turn)) → TurnTaken carried steps turn old new playing result
quiet-turn carried steps turn old new playing (Ok done) result is none takes after wrote =
    subst (TurnTaken carried steps turn old new playing) (sym is) (None, none, record { takes = takes; after = after; out = wrote })
quiet-turn carried steps turn old new playing (Err e) result is none takes after wrote = subst (TurnTaken carried steps turn old new playing) (sym is) tt

-- one that writes nothing
pub silent-turn : (carried : List ℕ → List ℕ) (steps : List ReplayStep) (turn : ScriptTurn) (out : List ℕ) (playing : Playing) (answer : Result (Unit {0}) Mem)
    (result : Result (Unit {0}) TurnError) → result ≡ of_memory answer → IsReadBy carried steps turn None → refuses steps (quiet turn) ≡ false →
    written_on steps (quiet turn) ≡ [] → OnOk answer (IsAfter playing (quiet turn ∷ steps)) → TurnTaken carried steps turn out out playing result
silent-turn carried steps turn out playing (Ok done) result is none takes nothing after =
    subst (TurnTaken carried steps turn out out playing) (sym is)
    (None, none, record { takes = takes; after = after; out = sym (append-nil out) ∙ ap (λ text. out ++ text) (sym nothing) })
silent-turn carried steps turn out playing (Err e) result is none takes nothing after = subst (TurnTaken carried steps turn out out playing) (sym is) tt

-- one that is taken raises what it may
pub turn-grows : (carried : List ℕ → List ℕ) (steps : List ReplayStep) (turn : ScriptTurn) (old new : List ℕ) (was playing : Playing) (result : Result (Unit {0}) TurnError) → IsAfter was steps →
    TurnTaken carried steps turn old new playing result → OnOk result (Grows was playing)
turn-grows carried steps turn old new was playing (Ok done) after t = grown was playing (record { turn = turn; read = t.0 }) steps after t.2.after
turn-grows carried steps turn old new was playing (Err Refused) after t = tt
turn-grows carried steps turn old new was playing (Err NoMemory) after t = tt

-- ---- as a line

module _ (carried : List ℕ → List ℕ) (steps : List ReplayStep) (turn : ScriptTurn) (number : ℕ) (old new : List ℕ) where
  pub turn-taken : (session : Playing) → may_stand_by steps turn ≡ true → TurnTaken carried steps turn old new session (Ok tt) →
      LineTaken carried steps (Means turn) number old new session
  turn-taken session may t = record {
    now = record { turn = turn; read = t.0 } ∷ steps;
    added = written_on steps (record { turn = turn; read = t.0 });
    after = t.2.after;
    out = t.2.out;
    first = λ lines whole later ends.
        let Later : List ReplayStep → WiredEnding → Type 0 = Continued carried number lines whole in
        let step : ReplayStep = record { turn = turn; read = t.0 } in
        let ending : WiredEnding = wired_first (written_on steps step) later in
        let goes : EndsAtStep steps step number Later ending =
        either-second (refuses steps step) (ending ≡ refused_at (step ∷ steps) number)
        ((e : WiredEnding) × Later (step ∷ steps) e × (ending ≡ wired_first (written_on steps step) e)) t.2.takes (later, ends, refl) in
        either-first (may_stand_by steps turn)
        ((read : Option Shown) × IsReadBy carried steps turn read × EndsAtStep steps (record { turn = turn; read = read }) number Later ending)
        (ending ≡ unrefused steps (outside_ending number)) may (t.0, t.1, goes);
  }

  pub turn-refused : may_stand_by steps turn ≡ true → (session : Playing) → TurnTaken carried steps turn old new session (Err Refused) →
      LineStops carried steps (Means turn) number (RefusedAt number) old new
  turn-refused may session t = record {
    now = record { turn = turn; read = t.0 } ∷ steps;
    out = t.2.out ∙ sym (append-nil old);
    ends = λ lines whole.
        let Later : List ReplayStep → WiredEnding → Type 0 = Continued carried number lines whole in
        let step : ReplayStep = record { turn = turn; read = t.0 } in
        let ending : WiredEnding = refused_at (step ∷ steps) number in
        let stops : EndsAtStep steps step number Later ending =
        either-first (refuses steps step) (ending ≡ refused_at (step ∷ steps) number)
        ((e : WiredEnding) × Later (step ∷ steps) e × (ending ≡ wired_first (written_on steps step) e)) t.2.refused refl in
        either-first (may_stand_by steps turn)
        ((read : Option Shown) × IsReadBy carried steps turn read × EndsAtStep steps (record { turn = turn; read = read }) number Later ending)
        (ending ≡ unrefused steps (outside_ending number)) may (t.0, t.1, stops);
  }

  pub turn-outside : may_stand_by steps turn ≡ false → new ≡ old ++ stop_text (Outside number) → LineStops carried steps (Means turn) number (Outside number) old new
  turn-outside may wrote = record {
    now = steps;
    out = wrote;
    ends = λ lines whole.
        let Later : List ReplayStep → WiredEnding → Type 0 = Continued carried number lines whole in
        let ending : WiredEnding = unrefused steps (outside_ending number) in
        either-second (may_stand_by steps turn)
        ((read : Option Shown) × IsReadBy carried steps turn read × EndsAtStep steps (record { turn = turn; read = read }) number Later ending)
        (ending ≡ unrefused steps (outside_ending number)) may refl;
  }

-- a session that stood for steps whose replies a wire left stands for such ones
pub played-more : (carried : List ℕ → List ℕ) (turn : ScriptTurn) (old new : List ℕ) (was session : Playing) → (played : IsPlayed carried was) →
    TurnTaken carried played.steps turn old new session (Ok tt) → IsPlayed carried session
played-more carried turn old new was session played t = record {
  steps = record { turn = turn; read = t.0 } ∷ played.steps;
  read = (t.1, played.read);
  after = t.2.after;
}

-- nothing is refused over a straight wire
pub never-refused : straight_wires_are_taken → (carried : List ℕ → List ℕ) (turn : ScriptTurn) (old new : List ℕ) (was session : Playing) → (played : IsPlayed carried was) →
    ((bytes : List ℕ) → carried bytes ≡ bytes) → may_stand_by played.steps turn ≡ true → TurnTaken carried played.steps turn old new session (Err Refused) → ⊥
never-refused law carried turn old new was session played same may t =
    true≢false (sym t.2.refused ∙ law carried played.steps (record { turn = turn; read = t.0 }) same played.after.may played.read may t.1)

-- a line that means nothing, and one outside the grammar
pub line-nothing : (carried : List ℕ → List ℕ) (steps : List ReplayStep) (meaning : Meaning) (number : ℕ) (out : List ℕ) (session : Playing) → meaning ≡ Nothing → IsAfter session steps →
    LineTaken carried steps meaning number out out session
line-nothing carried steps meaning number out session is after =
    subst (λ (m : Meaning). LineTaken carried steps m number out out session) (sym is)
    (record { now = steps; added = []; after = after; out = sym (append-nil out); first = λ lines whole later ends. ends })

pub line-outside : (carried : List ℕ → List ℕ) (steps : List ReplayStep) (meaning : Meaning) (number : ℕ) (old new : List ℕ) → meaning ≡ IsOutside →
    new ≡ old ++ stop_text (Outside number) → LineStops carried steps meaning number (Outside number) old new
line-outside carried steps meaning number old new is wrote =
    subst (λ (m : Meaning). LineStops carried steps m number (Outside number) old new) (sym is)
    (record { now = steps; out = wrote; ends = λ lines whole. refl })

-- a line that was written to be outside the grammar
pub outside-read : (carried : List ℕ → List ℕ) (steps : List ReplayStep) (meaning : Meaning) (number : ℕ) (old new : List ℕ) (session : Playing) (result : Result (Option ScriptStop) Mem) →
    IfOk result (λ (stop : Option ScriptStop). stop ≡ Some (Outside number)) → OnOk result (new ≡ old ++ stop_text (Outside number)) →
    (new ≡ old ++ stop_text (Outside number) → LineStops carried steps meaning number (Outside number) old new) →
    IfOk result (λ (stop : Option ScriptStop). LineRead carried stop steps meaning number old new session)
outside-read carried steps meaning number old new session (Ok stop) is wrote from =
    subst (λ (s : Option ScriptStop). LineRead carried s steps meaning number old new session) (sym is) (from wrote)
outside-read carried steps meaning number old new session (Err e) is wrote from = tt
