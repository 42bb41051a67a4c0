-- A script over a wire writes what its steps write, and a last line.
use Rattle.std.proofs.Common.{◌≡◌, inl, inr, ℕ, suc, ◌+◌, List, [], ◌∷◌, length, take, Bool, true, false, cond, nat_lt, Option, None, refl, ap, sym, subst, ◌∙◌, append_assoc}
use Rattle.std.specs.Prelude.{nat_le}
use Rattle.std.specs.List.{cons_option, filter_map}
use mathlib.Core.List.{reverse_aux}
use Rattle.cds_load.specs.declared.exchange.Shown.{Shown}
use Rattle.cds_script.specs.Lines.{script_limit, line_limit}
use Rattle.cds_script.specs.Played.{turn_in}
use Rattle.cds_script.specs.Report.{Ending, written_first, outside_ending, limit_ending}
use Rattle.cds_script.specs.Script.{meaning_of}
use Rattle.cds_script.specs.declared.turn.Meaning.{Meaning}
use Rattle.cds_script.specs.declared.turn.Meaning.TheVariants.{Nothing, Means, Outside}
use Rattle.cds_script.specs.declared.turn.ScriptTurn.{ScriptTurn}
use Rattle.cds_replay.specs.Reported.{AreTaken, AreTakenBut, IsLast, ends_well, taken_of, wires_report_steps, written_of}
use Rattle.cds_replay.specs.Wire.{WiredEnding, unrefused, refused_at, wired_first, Either, IsReadBy, AreReadBy, EndsAtStep, EndsAtLine, EndsFrom, EndsOver, lines_in}
use Rattle.cds_replay.specs.Wired.{ReplayStep, turns_in, may_stand_by, refuses, written_on}

-- whichever way a test goes
either : (b : Bool) (P Q T : Type 0) → (b ≡ true → P → T) → (b ≡ false → Q → T) → Either b P Q → T
either true P Q T first second one = first refl one
either false P Q T first second one = second refl one

-- the turns that lines mean, the oldest first
abbrev turns_by : List (List ℕ) → List ScriptTurn
turns_by lines = filter_map (λ line. turn_in (meaning_of line)) lines

-- what is left of a script after steps, of which the first lines that are left give the others
pub record Comes (carried : List ℕ → List ℕ) (steps : List ReplayStep) (lines : List (List ℕ)) (ending : WiredEnding) : Type 0 where
  pub count : ℕ
  pub turns : turns_in ending.steps ≡ reverse_aux (turns_by (take count lines)) (turns_in steps)
  pub read : AreReadBy carried ending.steps
  pub taken : AreTakenBut ending.refused ending.steps
  pub last : Ending
  pub is_last : IsLast ending.refused last
  pub report : written_first (written_of steps) ending.ending ≡ written_first (written_of (taken_of ending.refused ending.steps)) last

none-taken : (xs : List (List ℕ)) → take 0 xs ≡ []
none-taken [] = refl
none-taken (x ∷ xs) = refl

module _ (carried : List ℕ → List ℕ) where
  -- it ends where it is
  here : (steps : List ReplayStep) (lines : List (List ℕ)) (ending : WiredEnding) (last : Ending) → AreReadBy carried steps → AreTaken steps → IsLast None last →
      ending ≡ unrefused steps last → Comes carried steps lines ending
  here steps lines ending last read taken is e =
      subst (Comes carried steps lines) (sym e) (record {
        count = 0;
        turns = ap (λ ls. reverse_aux (turns_by ls) (turns_in steps)) (sym (none-taken lines));
        read = read;
        taken = taken;
        last = last;
        is_last = is;
        report = refl;
      })

  -- where no line is left
  at-end : (whole : Bool) → IsLast None (cond whole ends_well limit_ending)
  at-end true = inl refl
  at-end false = inr (inl refl)

  -- one line further, which means nothing
  nothing-next : (steps : List ReplayStep) (line : List ℕ) (lines : List (List ℕ)) (ending : WiredEnding) → meaning_of line ≡ Nothing → Comes carried steps lines ending →
      Comes carried steps (line ∷ lines) ending
  nothing-next steps line lines ending means c = record {
    count = suc c.count;
    turns = c.turns ∙ ap (λ (m : Meaning). reverse_aux (cons_option (turn_in m) (turns_by (take c.count lines))) (turns_in steps)) (sym means);
    read = c.read;
    taken = c.taken;
    last = c.last;
    is_last = c.is_last;
    report = c.report;
  }

  -- a turn that is refused
  refused-here : (steps : List ReplayStep) (turn : ScriptTurn) (read : Option Shown) (line : List ℕ) (lines : List (List ℕ)) (number : ℕ) (ending : WiredEnding) →
      meaning_of line ≡ Means turn → AreReadBy carried steps → AreTaken steps → may_stand_by steps turn ≡ true → IsReadBy carried steps turn read →
      refuses steps (record { turn = turn; read = read }) ≡ true → ending ≡ refused_at (record { turn = turn; read = read } ∷ steps) number →
      Comes carried steps (line ∷ lines) ending
  refused-here steps turn read line lines number ending means reads taken may is refused e =
      subst (Comes carried steps (line ∷ lines)) (sym e) (record {
        count = 1;
        turns = ap (λ (m : Meaning). reverse_aux (cons_option (turn_in m) []) (turns_in steps)) (sym means)
            ∙ ap (λ ls. reverse_aux (cons_option (turn_in (meaning_of line)) (turns_by ls)) (turns_in steps)) (sym (none-taken lines));
        read = (is, reads);
        taken = (may, refused, taken);
        last = ends_well;
        is_last = refl;
        report = refl;
      })

  -- one that is taken
  turn-next : (steps : List ReplayStep) (turn : ScriptTurn) (read : Option Shown) (line : List ℕ) (lines : List (List ℕ)) (later ending : WiredEnding) →
      meaning_of line ≡ Means turn → Comes carried (record { turn = turn; read = read } ∷ steps) lines later →
      ending ≡ wired_first (written_on steps (record { turn = turn; read = read })) later → Comes carried steps (line ∷ lines) ending
  turn-next steps turn read line lines later ending means c e =
      subst (Comes carried steps (line ∷ lines)) (sym e) (record {
        count = suc c.count;
        turns = c.turns ∙ ap (λ (m : Meaning). reverse_aux (cons_option (turn_in m) (turns_by (take c.count lines))) (turns_in steps)) (sym means);
        read = c.read;
        taken = c.taken;
        last = c.last;
        is_last = c.is_last;
        report = ap (λ text. record { status = later.ending.status; text = text })
            (sym (append_assoc (written_of steps) (written_on steps (record { turn = turn; read = read })) later.ending.text))
            ∙ c.report;
      })

  module _ (line : List ℕ) (lines : List (List ℕ)) (number : ℕ) (whole : Bool)
      (go_on : (now : List ReplayStep) (ending : WiredEnding) → AreReadBy carried now → AreTaken now → EndsFrom carried now (number + 1) lines whole ending →
      Comes carried now lines ending) (steps : List ReplayStep) (ending : WiredEnding) (reads : AreReadBy carried steps) (taken : AreTaken steps) where
    abbrev Later : List ReplayStep → WiredEnding → Type 0
    Later now later = EndsFrom carried now (number + 1) lines whole later

    at-step : (turn : ScriptTurn) (read : Option Shown) → meaning_of line ≡ Means turn → may_stand_by steps turn ≡ true → IsReadBy carried steps turn read →
        EndsAtStep steps (record { turn = turn; read = read }) number Later ending → Comes carried steps (line ∷ lines) ending
    at-step turn read means may is ends =
        let step : ReplayStep = record { turn = turn; read = read } in
        either (refuses steps step) (ending ≡ refused_at (step ∷ steps) number)
        ((later : WiredEnding) × Later (step ∷ steps) later × (ending ≡ wired_first (written_on steps step) later))
        (Comes carried steps (line ∷ lines) ending)
        (λ refused e. refused-here steps turn read line lines number ending means reads taken may is refused e)
        (λ takes e. turn-next steps turn read line lines e.0 ending means (go_on (step ∷ steps) e.0 (is, reads) (may, takes, taken) e.1) e.2) ends

    outside-here : ending ≡ unrefused steps (outside_ending number) → Comes carried steps (line ∷ lines) ending
    outside-here e = here steps (line ∷ lines) ending (outside_ending number) reads taken (inr (inr (number, refl))) e

    at-line : (m : Meaning) → meaning_of line ≡ m → EndsAtLine carried steps m number Later ending → Comes carried steps (line ∷ lines) ending
    at-line Nothing means ends = nothing-next steps line lines ending means (go_on steps ending reads taken ends)
    at-line (Means turn) means ends =
        either (may_stand_by steps turn)
        ((read : Option Shown) × IsReadBy carried steps turn read × EndsAtStep steps (record { turn = turn; read = read }) number Later ending)
        (ending ≡ unrefused steps (outside_ending number))
        (Comes carried steps (line ∷ lines) ending)
        (λ may e. at-step turn e.0 means may e.1 e.2) (λ cannot e. outside-here e) ends
    at-line Outside means ends = outside-here ends

comes : (carried : List ℕ → List ℕ) (lines : List (List ℕ)) (whole : Bool) (number : ℕ) (steps : List ReplayStep) (ending : WiredEnding) → AreReadBy carried steps → AreTaken steps →
    EndsFrom carried steps number lines whole ending → Comes carried steps lines ending
comes carried [] whole number steps ending reads taken ends = here carried steps [] ending (cond whole ends_well limit_ending) reads taken (at-end carried whole) ends
comes carried (line ∷ lines) whole number steps ending reads taken ends =
    either (nat_lt line_limit (length line)) (ending ≡ unrefused steps limit_ending)
    (EndsAtLine carried steps (meaning_of line) number (λ now later. EndsFrom carried now (number + 1) lines whole later) ending)
    (Comes carried steps (line ∷ lines) ending)
    (λ long e. here carried steps (line ∷ lines) ending limit_ending reads taken (inr (inl refl)) e)
    (λ short e. at-line carried line lines number whole (λ now e reads taken ends. comes carried lines whole (number + 1) now e reads taken ends) steps ending reads taken
    (meaning_of line) refl e) ends

pub reports-steps : wires_report_steps
unfolding EndsOver
reports-steps carried script ending ends =
    let c = comes carried (lines_in script_limit script) (nat_le (length script) script_limit) 1 [] ending tt tt ends in
    record {
      lines = c.count;
      turns = c.turns;
      read = c.read;
      taken = c.taken;
      last = c.last;
      is_last = c.is_last;
      report = c.report;
    }
