-- Turns of a text, one after the other: that each may stand, and what holds after them.
use Rattle.std.proofs.Common.{◌≡◌, ◌+◌, ◌<◌, ◌≤◌, ℕ, zero, suc, Bool, true, false, cond, not, nat_lt, nat_le, List, [], ◌∷◌, ◌++◌, map, length, take, drop, refl, sym, ap, subst, ◌∙◌, arith, append_assoc, add-one}
use Rattle.std.specs.List.{AllByRecursion, filter_map, cons_option}
use Rattle.std.proofs.lemmas.Bool.{and_from, not_from_false, ltb-true, le-leb}
use mathlib.Core.List.{reverse_aux}
use Rattle.cds_script.specs.Lines.{lines_of, ended_lines, line_limit, script_limit, is_unbroken}
use Rattle.cds_script.specs.LineLaws.{with_feeds, AreUnbroken}
use Rattle.cds_script.specs.Script.{meaning_of}
use Rattle.cds_script.specs.Report.{may_stand}
use Rattle.cds_script.specs.Played.{turn_in, is_within, is_answered, and_meant, answered_lines, answered_of, script_lines, script_turns, script_stop, stop_at, turns_of}
use Rattle.cds_script.specs.declared.turn.Meaning.{Meaning}
use Rattle.cds_script.specs.declared.turn.Meaning.TheVariants.{Means}
use Rattle.cds_script.specs.declared.turn.ScriptTurn.{ScriptTurn}
use Rattle.cds_script.proofs.LineLaws.{ended-read}
use Rattle.cds_generate.specs.Generated.{texts_below}
use Rattle.cds_generate.specs.Language.{IsTurnLine}
use Rattle.cds_generate.proofs.Spoken.{IsSpoken}

-- ---- lines and their turns

pub record SpokenLine : Type 0 where
  pub line : List ℕ
  pub turn : ScriptTurn
  pub whole : is_unbroken line ≡ true
  pub means : meaning_of line ≡ Means turn
  pub short : length line ≤ line_limit

abbrev pub line_in : SpokenLine → List ℕ
line_in spoken = spoken.line

abbrev pub text_of : List SpokenLine → List ℕ
text_of lines = with_feeds (map line_in lines)

-- the turns of lines put before the older ones: the newest is the first
abbrev pub onto : List SpokenLine → List ScriptTurn → List ScriptTurn
onto [] older = older
onto (spoken ∷ lines) older = onto lines (spoken.turn ∷ older)

-- each turn may stand after the older ones
abbrev pub AllMay : List ScriptTurn → List SpokenLine → Type 0
AllMay older [] = Unit {0}
AllMay older (spoken ∷ lines) = (may_stand older spoken.turn ≡ true) × AllMay (spoken.turn ∷ older) lines

-- after turns of which something holds the lines of a text may stand, and something holds after them
pub record Plays (Before : List ScriptTurn → Type 0) (text : List ℕ) (After : List ScriptTurn → Type 0) : Type 0 where
  pub lines : List SpokenLine
  pub is : text ≡ text_of lines
  pub goes : (older : List ScriptTurn) → Before older → AllMay older lines × After (onto lines older)

-- ---- one text after another

text-append : (xs ys : List SpokenLine) → text_of (xs ++ ys) ≡ text_of xs ++ text_of ys
text-append [] ys = refl
text-append (spoken ∷ xs) ys = ap (λ (t : List ℕ). spoken.line ++ 10 ∷ t) (text-append xs ys) ∙ sym (append_assoc spoken.line (10 ∷ text_of xs) (text_of ys))

onto-append : (xs ys : List SpokenLine) (older : List ScriptTurn) → onto (xs ++ ys) older ≡ onto ys (onto xs older)
onto-append [] ys older = refl
onto-append (spoken ∷ xs) ys older = onto-append xs ys (spoken.turn ∷ older)

may-append : (xs ys : List SpokenLine) (older : List ScriptTurn) → AllMay older xs → AllMay (onto xs older) ys → AllMay older (xs ++ ys)
may-append [] ys older one two = two
may-append (spoken ∷ xs) ys older one two = (one.0, may-append xs ys (spoken.turn ∷ older) one.1 two)

pub play-none : (P : List ScriptTurn → Type 0) → Plays P [] P
play-none P = record { lines = []; is = refl; goes = λ older before. (tt, before) }

pub play-join : (P Q R : List ScriptTurn → Type 0) (a b : List ℕ) → Plays P a Q → Plays Q b R → Plays P (a ++ b) R
play-join P Q R a b one two = record {
  lines = one.lines ++ two.lines;
  is = (λ i. one.is i ++ two.is i) ∙ sym (text-append one.lines two.lines);
  goes = λ older before.
      let first = one.goes older before in
      let second = two.goes (onto one.lines older) first.1 in
      (may-append one.lines two.lines older first.0 second.0, subst R (sym (onto-append one.lines two.lines older)) second.1);
}

pub play-after : (P Q R : List ScriptTurn → Type 0) (text : List ℕ) → ((older : List ScriptTurn) → Q older → R older) → Plays P text Q → Plays P text R
play-after P Q R text weaker plays = record {
  lines = plays.lines;
  is = plays.is;
  goes = λ older before. let went = plays.goes older before in (went.0, weaker (onto plays.lines older) went.1);
}

pub play-line : (P Q : List ScriptTurn → Type 0) (text : List ℕ) (turn : ScriptTurn) → IsSpoken text turn
    → ((older : List ScriptTurn) → P older → (may_stand older turn ≡ true) × Q (turn ∷ older)) → Plays P text Q
play-line P Q text turn spoken goes = record {
  lines = record { line = spoken.line; turn = turn; whole = spoken.whole; means = spoken.means; short = spoken.short } ∷ [];
  is = spoken.is;
  goes = λ older before. let went = goes older before in ((went.0, tt), went.1);
}

pub play-texts : (P : ℕ → List ScriptTurn → Type 0) (n : ℕ) (text : ℕ → List ℕ) → ((k : ℕ) → k < n → Plays (P k) (text k) (P (suc k))) → Plays (P 0) (texts_below n text) (P n)
unfolding texts_below
play-texts P zero text each = play-none (P 0)
play-texts P (suc n) text each =
    play-join (P 0) (P n) (P (suc n)) (texts_below n text) (text n) (play-texts P n text (λ k low. each k (omega (arith, low)))) (each n (omega arith))

-- ---- a whole script

unbroken : (lines : List SpokenLine) → AreUnbroken (map line_in lines)
unbroken [] = tt
unbroken (spoken ∷ lines) = (spoken.whole, unbroken lines)

turn-lines : (lines : List SpokenLine) → AllByRecursion IsTurnLine (map line_in lines)
turn-lines [] = tt
turn-lines (spoken ∷ lines) = (record { turn = spoken.turn; means = spoken.means; short = spoken.short }, turn-lines lines)

is-answered : (older : List ScriptTurn) (spoken : SpokenLine) → may_stand older spoken.turn ≡ true → is_answered older spoken.line ≡ true
is-answered older spoken may =
    and_from (not (nat_lt line_limit (length spoken.line))) (is_within older (meaning_of spoken.line))
    (not_from_false (nat_lt line_limit (length spoken.line)) (by (nat_lt line_limit (length spoken.line)) refl))
    (ap (is_within older) spoken.means ∙ may)
  where
    by : (b : Bool) → nat_lt line_limit (length spoken.line) ≡ b → nat_lt line_limit (length spoken.line) ≡ false
    by true e = let long = ltb-true line_limit (length spoken.line) e in let short = spoken.short in absurd (omega (arith, long, short))
    by false e = e

all-answered : (older : List ScriptTurn) (lines : List SpokenLine) → AllMay older lines → answered_lines older (map line_in lines) ≡ length (map line_in lines)
all-answered older [] may = refl
all-answered older (spoken ∷ lines) may =
    ap (λ b. cond b (answered_lines (and_meant (turn_in (meaning_of spoken.line)) older) (map line_in lines) + 1) 0) (is-answered older spoken may.0)
    ∙ ap (λ (meaning : Meaning). answered_lines (and_meant (turn_in meaning) older) (map line_in lines) + 1) spoken.means
    ∙ ap (λ n. n + 1) (all-answered (spoken.turn ∷ older) lines may.1)
    ∙ add-one (length (map line_in lines))

turns-onto : (lines : List SpokenLine) (older : List ScriptTurn) → reverse_aux (filter_map (λ (line : List ℕ). turn_in (meaning_of line)) (map line_in lines)) older ≡ onto lines older
turns-onto [] older = refl
turns-onto (spoken ∷ lines) older =
    ap (λ (meaning : Meaning). reverse_aux (cons_option (turn_in meaning) (filter_map (λ (line : List ℕ). turn_in (meaning_of line)) (map line_in lines))) older) spoken.means
    ∙ turns-onto lines (spoken.turn ∷ older)

take-all : {X : Type 0} (xs : List X) → take (length xs) xs ≡ xs
take-all [] = refl
take-all (x ∷ xs) = ap (λ ys. x ∷ ys) (take-all xs)

drop-all : {X : Type 0} (xs : List X) → drop (length xs) xs ≡ []
drop-all [] = refl
drop-all (x ∷ xs) = drop-all xs

module _ (Q : List ScriptTurn → Type 0) (text : List ℕ) (plays : Plays (λ older. older ≡ []) text Q) (short : length text ≤ script_limit) where
  abbrev lines : List (List ℕ)
  lines = map line_in plays.lines

  pub played-lines : (lines_of text ≡ lines) × (ended_lines text ≡ lines)
  played-lines =
      let read = ended-read lines (unbroken plays.lines) in
      (ap lines_of plays.is ∙ read.0, ap ended_lines plays.is ∙ read.1)

  pub played-turns : AllByRecursion IsTurnLine lines
  played-turns = turn-lines plays.lines

  fits : nat_le (length text) script_limit ≡ true
  fits = le-leb (length text) script_limit short

  its-lines : script_lines text ≡ lines
  its-lines = ap (λ b. cond b (lines_of text) (ended_lines (take script_limit text))) fits ∙ played-lines.0

  its-count : answered_of text ≡ length lines
  its-count = ap (answered_lines []) its-lines ∙ all-answered [] plays.lines (plays.goes [] refl).0

  pub played-well : script_stop text ≡ record { status = 0; text = [] }
  played-well =
      (λ i. stop_at (its-count i + 1) (drop (its-count i) (its-lines i)) (fits i))
      ∙ ap (λ (rest : List (List ℕ)). stop_at (length lines + 1) rest true) (drop-all lines)

  pub played-after : Q (script_turns text)
  played-after =
      let turns : script_turns text ≡ onto plays.lines [] = (λ i. turns_of (take (its-count i) (its-lines i))) ∙ ap turns_of (take-all lines) ∙ turns-onto plays.lines [] in
      subst Q (sym turns) (plays.goes [] refl).1
