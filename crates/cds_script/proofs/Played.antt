-- The report of a script is that of its turns and its last line, and its turns may be a script's.
use Rattle.std.proofs.Common.{◌≡◌, ℕ, suc, ◌+◌, List, [], ◌∷◌, length, take, drop, reverse, Bool, true, false, cond, not, ◌&&◌, refl, ap, sym, ◌∙◌, arith, append_assoc, Option, Some, None}
use Rattle.std.specs.Prelude.{nat_le}
use Rattle.std.specs.List.{filter_map, cons_option}
use mathlib.Core.List.{reverse_aux}
use Rattle.cds_script.specs.Report.{Ending, written_first, outside_ending, limit_ending, may_stand, written_by, ending_at, ending_from, script_ending}
use Rattle.cds_script.specs.Lines.{lines_of, ended_lines, script_limit}
use Rattle.cds_script.specs.Played.{is_long, turn_in, is_within, is_answered, and_meant, answered_lines, report_of, stop_at, reports_are_of_turns}
use Rattle.cds_script.specs.declared.turn.Meaning.{Meaning}
use Rattle.cds_script.specs.declared.turn.Meaning.TheVariants.{Nothing, Means, Outside}
use Rattle.cds_script.specs.declared.turn.ScriptTurn.{ScriptTurn}
use Rattle.cds_script.specs.Script.{meaning_of}

-- the turns of lines, the oldest first
abbrev pub turns_in : List (List ℕ) → List ScriptTurn
turns_in lines = filter_map (λ line. turn_in (meaning_of line)) lines

-- what is left of the report after turns, by the lines that come, the first of which has this number and so many of which are
-- answered
abbrev End : List ScriptTurn → ℕ → ℕ → List (List ℕ) → Bool → Ending
End turns number n lines whole =
    written_first (report_of (reverse_aux (turns_in (take n lines)) turns)) (stop_at (number + n) (drop n lines) whole)

-- a line that is answered leads to the next
end-next : (turns : List ScriptTurn) (number m : ℕ) (line : List ℕ) (lines : List (List ℕ)) (whole : Bool) (n : ℕ) → n ≡ m + 1 →
    End turns number n (line ∷ lines) whole ≡ End (and_meant (turn_in (meaning_of line)) turns) (number + 1) m lines whole
end-next turns number m line lines whole n is =
    (λ i. written_first (report_of (reverse_aux (turns_in (take (size i) (line ∷ lines))) turns)) (stop_at (number + size i) (drop (size i) (line ∷ lines)) whole))
    ∙ (λ i. written_first (report_of (reverse_aux (cons_option (turn_in (meaning_of line)) (turns_in (take m lines))) turns)) (stop_at (count i) (drop m lines) whole))
    ∙ by (turn_in (meaning_of line))
  where
    size : n ≡ suc m
    size = omega (arith, is)

    count : number + suc m ≡ number + 1 + m
    count = omega arith

    by : (o : Option ScriptTurn) →
        written_first (report_of (reverse_aux (cons_option o (turns_in (take m lines))) turns)) (stop_at (number + 1 + m) (drop m lines) whole)
        ≡ End (and_meant o turns) (number + 1) m lines whole
    by None = refl
    by (Some turn) = refl

-- a line that is not answered ends the script
end-here : (turns : List ScriptTurn) (number : ℕ) (line : List ℕ) (lines : List (List ℕ)) (whole : Bool) →
    End turns number 0 (line ∷ lines) whole ≡ written_first (report_of turns) (cond (is_long line) limit_ending (outside_ending number))
end-here turns number line lines whole = λ i. written_first (report_of turns) (cond (is_long line) limit_ending (outside_ending (same i)))
  where
    same : number + 0 ≡ number
    same = omega arith

-- what a script leaves is what its turns and its last line leave
goes : (turns : List ScriptTurn) (number : ℕ) (lines : List (List ℕ)) (whole : Bool) →
    written_first (report_of turns) (ending_from turns number lines whole) ≡ End turns number (answered_lines turns lines) lines whole
goes turns number [] whole = λ i. written_first (report_of turns) (stop_at (same (i)) [] whole)
  where
    same : number ≡ number + 0
    same = omega arith
goes turns number (line ∷ lines) whole = by_length (is_long line) refl (λ now. goes now (number + 1) lines whole)
  where
    Later : Type 0
    Later = (now : List ScriptTurn) → written_first (report_of now) (ending_from now (number + 1) lines whole) ≡ End now (number + 1) (answered_lines now lines) lines whole

    next : List ScriptTurn
    next = and_meant (turn_in (meaning_of line)) turns

    after : Meaning → Ending
    after meaning = written_first (report_of turns) (ending_at meaning turns number (λ now. ending_from now (number + 1) lines whole))

    -- how many lines are answered, by whether this one is
    counted : (b : Bool) → is_answered turns line ≡ b → answered_lines turns (line ∷ lines) ≡ cond b (answered_lines next lines + 1) 0
    counted b e = ap (λ v. cond v (answered_lines next lines + 1) 0) e

    test : (b : Bool) → is_long line ≡ b → is_answered turns line ≡ (not b && is_within turns (meaning_of line))
    test b e = ap (λ v. not v && is_within turns (meaning_of line)) e

    onwards : is_answered turns line ≡ true → (o : Option ScriptTurn) → turn_in (meaning_of line) ≡ o →
        written_first (report_of (and_meant o turns)) (ending_from (and_meant o turns) (number + 1) lines whole) ≡ End (and_meant o turns) (number + 1) (answered_lines (and_meant o turns) lines) lines whole →
        written_first (report_of (and_meant o turns)) (ending_from (and_meant o turns) (number + 1) lines whole) ≡ End turns number (answered_lines turns (line ∷ lines)) (line ∷ lines) whole
    onwards passes o e later =
        later
        ∙ ap (λ p. End (and_meant p turns) (number + 1) (answered_lines (and_meant p turns) lines) lines whole) (sym e)
        ∙ sym (end-next turns number (answered_lines next lines) line lines whole (answered_lines turns (line ∷ lines)) (counted true passes))

    stops : is_answered turns line ≡ false → written_first (report_of turns) (cond (is_long line) limit_ending (outside_ending number))
        ≡ End turns number (answered_lines turns (line ∷ lines)) (line ∷ lines) whole
    stops fails = sym (ap (λ n. End turns number n (line ∷ lines) whole) (counted false fails) ∙ end-here turns number line lines whole)

    by_stand : is_long line ≡ false → Later → (turn : ScriptTurn) → meaning_of line ≡ Means turn → (b : Bool) → may_stand turns turn ≡ b →
        written_first (report_of turns) (cond b (written_first (written_by turns turn) (ending_from (turn ∷ turns) (number + 1) lines whole)) (outside_ending number))
        ≡ End turns number (answered_lines turns (line ∷ lines)) (line ∷ lines) whole
    by_stand short later turn e true stands =
        ap (λ text. record { status = (ending_from (turn ∷ turns) (number + 1) lines whole).status; text = text })
        (sym (append_assoc (report_of turns) (written_by turns turn) (ending_from (turn ∷ turns) (number + 1) lines whole).text))
        ∙ onwards (test false short ∙ ap (is_within turns) e ∙ stands) (Some turn) (ap turn_in e) (later (turn ∷ turns))
    by_stand short later turn e false stands =
        ap (λ b. written_first (report_of turns) (cond b limit_ending (outside_ending number))) (sym short)
        ∙ stops (test false short ∙ ap (is_within turns) e ∙ stands)

    by_meaning : is_long line ≡ false → Later → (meaning : Meaning) → meaning_of line ≡ meaning →
        after meaning ≡ End turns number (answered_lines turns (line ∷ lines)) (line ∷ lines) whole
    by_meaning short later Nothing e = onwards (test false short ∙ ap (is_within turns) e) None (ap turn_in e) (later turns)
    by_meaning short later (Means turn) e = by_stand short later turn e (may_stand turns turn) refl
    by_meaning short later Outside e =
        ap (λ b. written_first (report_of turns) (cond b limit_ending (outside_ending number))) (sym short)
        ∙ stops (test false short ∙ ap (is_within turns) e)

    by_length : (b : Bool) → is_long line ≡ b → Later →
        written_first (report_of turns) (cond b limit_ending (ending_at (meaning_of line) turns number (λ now. ending_from now (number + 1) lines whole)))
        ≡ End turns number (answered_lines turns (line ∷ lines)) (line ∷ lines) whole
    by_length true e later =
        ap (λ b. written_first (report_of turns) (cond b limit_ending (outside_ending number))) (sym e) ∙ stops (test true e)
    by_length false e later = by_meaning e later (meaning_of line) refl

pub reports-of_turns : reports_are_of_turns
unfolding script_ending
reports-of_turns bytes = by (nat_le (length bytes) script_limit)
  where
    at-one : (lines : List (List ℕ)) (whole : Bool) → ending_from [] 1 lines whole
        ≡ written_first (report_of (reverse (turns_in (take (answered_lines [] lines) lines)))) (stop_at (answered_lines [] lines + 1) (drop (answered_lines [] lines) lines) whole)
    at-one lines whole = goes [] 1 lines whole
        ∙ ap (λ n. written_first (report_of (reverse (turns_in (take (answered_lines [] lines) lines)))) (stop_at n (drop (answered_lines [] lines) lines) whole))
        (let e : 1 + answered_lines [] lines ≡ answered_lines [] lines + 1 = omega arith in e)

    by : (b : Bool) →
        cond b (ending_from [] 1 (lines_of bytes) true) (ending_from [] 1 (ended_lines (take script_limit bytes)) false)
        ≡ written_first (report_of (reverse (turns_in (take (answered_lines [] (cond b (lines_of bytes) (ended_lines (take script_limit bytes)))) (cond b (lines_of bytes) (ended_lines (take script_limit bytes)))))))
        (stop_at (answered_lines [] (cond b (lines_of bytes) (ended_lines (take script_limit bytes))) + 1)
        (drop (answered_lines [] (cond b (lines_of bytes) (ended_lines (take script_limit bytes)))) (cond b (lines_of bytes) (ended_lines (take script_limit bytes)))) b)
    by true = at-one (lines_of bytes) true
    by false = at-one (ended_lines (take script_limit bytes)) false
