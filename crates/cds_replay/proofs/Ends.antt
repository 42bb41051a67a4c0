-- How a script goes on over a wire at its next line, at its end, and where a limit is passed.
use Rattle.std.proofs.Common.{◌≡◌, ℕ, ◌+◌, ◌-◌, ◌<◌, ◌≤◌, List, [], ◌∷◌, ◌++◌, length, take, Bool, true, false, cond, nat_lt, refl, ap, sym, subst, ◌∙◌, arith, ◌⊎◌, inl, inr, length-append}
use Rattle.std.specs.Prelude.{nat_le}
use Rattle.std.proofs.lemmas.Bool.{le-leb, lt-leb, lt-ltb, le-ltb, cases_lt}
use Rattle.cds_script.specs.Lines.{lines_of, ended_lines, is_unbroken, line_limit}
use Rattle.cds_script.specs.Report.{limit_ending}
use Rattle.cds_script.specs.Script.{meaning_of}
use Rattle.cds_script.proofs.Lines.{lines-append, ended-append, ended-none, lines-last, take-past, lines-begin, ended-begin, take-through, take-within}
use Rattle.cds_replay.specs.Wire.{WiredEnding, unrefused, Either, EndsAtLine, EndsFrom, EndsOf, lines_in}
use Rattle.cds_replay.specs.Wired.{ReplayStep}

-- a test that holds, and one that does not
pub either-first : (b : Bool) (P Q : Type 0) → b ≡ true → P → Either b P Q
either-first b P Q is p = subst (λ c. Either c P Q) (sym is) p

pub either-second : (b : Bool) (P Q : Type 0) → b ≡ false → Q → Either b P Q
either-second b P Q is q = subst (λ c. Either c P Q) (sym is) q

-- the same told with other numbers and bytes
pub ends-same : (carried : List ℕ → List ℕ) (steps : List ReplayStep) (ending : WiredEnding) (number line room left : ℕ) (bytes others : List ℕ) → number ≡ line → room ≡ left →
    bytes ≡ others → EndsOf carried steps number room bytes ending → EndsOf carried steps line left others ending
ends-same carried steps ending number line room left bytes others n r b ends =
    subst (λ bs. EndsOf carried steps line left bs ending) b
    (subst (λ m. EndsOf carried steps line m bytes ending) r
    (subst (λ k. EndsOf carried steps k room bytes ending) n ends))

-- ---- the lines of bytes within the room

fits-next : (line after : List ℕ) (room : ℕ) → length line + 1 ≤ room → nat_le (length (line ++ 10 ∷ after)) room ≡ nat_le (length after) (room - (length line + 1))
fits-next line after room enough =
    elim (cases_lt (room - (length line + 1)) (length after))
    as (λ _. nat_le (length (line ++ 10 ∷ after)) room ≡ nat_le (length after) (room - (length line + 1))) [
      | inl over ↦ lt-leb (length (line ++ 10 ∷ after)) room (omega (arith, length-append line (10 ∷ after), over, enough)) ∙ sym (lt-leb _ _ over)
      | inr fits ↦ le-leb (length (line ++ 10 ∷ after)) room (omega (arith, length-append line (10 ∷ after), fits, enough)) ∙ sym (le-leb _ _ fits)
    ]

lines-next : (line after : List ℕ) (room : ℕ) → is_unbroken line ≡ true → length line + 1 ≤ room →
    lines_in room (line ++ 10 ∷ after) ≡ line ∷ lines_in (room - (length line + 1)) after
lines-next line after room whole enough =
    ap (λ b. cond b (lines_of (line ++ 10 ∷ after)) (ended_lines (take room (line ++ 10 ∷ after)))) (fits-next line after room enough)
    ∙ by (nat_le (length after) (room - (length line + 1)))
  where
    by : (b : Bool) → cond b (lines_of (line ++ 10 ∷ after)) (ended_lines (take room (line ++ 10 ∷ after)))
        ≡ line ∷ cond b (lines_of after) (ended_lines (take (room - (length line + 1)) after))
    by true = lines-append line after whole
    by false = ap ended_lines (take-past line after room enough) ∙ ended-append line (take (room - (length line + 1)) after) whole

-- the next line and its LF, where they are within the room that is left and the line is no longer than it may be
pub ends-line : (carried : List ℕ → List ℕ) (steps : List ReplayStep) (ending : WiredEnding) (number room : ℕ) (line after : List ℕ) → is_unbroken line ≡ true →
    length line + 1 ≤ room → length line ≤ line_limit →
    EndsAtLine carried steps (meaning_of line) number (λ now later. EndsOf carried now (number + 1) (room - (length line + 1)) after later) ending →
    EndsOf carried steps number room (line ++ 10 ∷ after) ending
ends-line carried steps ending number room line after whole enough short ends =
    subst (λ ls. EndsFrom carried steps number ls (nat_le (length (line ++ 10 ∷ after)) room) ending) (sym (lines-next line after room whole enough))
    (subst (λ b. EndsFrom carried steps number (line ∷ lines_in (room - (length line + 1)) after) b ending) (sym (fits-next line after room enough))
    (either-second (nat_lt line_limit (length line)) (ending ≡ unrefused steps limit_ending)
    (EndsAtLine carried steps (meaning_of line) number (λ now later. EndsOf carried now (number + 1) (room - (length line + 1)) after later) ending)
    (le-ltb line_limit (length line) short) ends))

-- a last line without its LF
pub ends-last : (carried : List ℕ → List ℕ) (steps : List ReplayStep) (ending : WiredEnding) (number room : ℕ) (line : List ℕ) → is_unbroken line ≡ true →
    length line ≤ room → length line ≤ line_limit → (length line ≡ 0 → ⊥) →
    EndsAtLine carried steps (meaning_of line) number (λ now later. later ≡ unrefused now (record { status = 0; text = [] })) ending →
    EndsOf carried steps number room line ending
ends-last carried steps ending number room [] whole enough short some ends = absurd (some refl)
ends-last carried steps ending number room (b ∷ line) whole enough short some ends =
    subst (λ ls. EndsFrom carried steps number ls (nat_le (length (b ∷ line)) room) ending) (sym lines)
    (subst (λ c. EndsFrom carried steps number ((b ∷ line) ∷ []) c ending) (sym (le-leb (length (b ∷ line)) room enough))
    (either-second (nat_lt line_limit (length (b ∷ line))) (ending ≡ unrefused steps limit_ending)
    (EndsAtLine carried steps (meaning_of (b ∷ line)) number (λ now later. later ≡ unrefused now (record { status = 0; text = [] })) ending)
    (le-ltb line_limit (length (b ∷ line)) short) ends))
  where
    lines : lines_in room (b ∷ line) ≡ (b ∷ line) ∷ []
    lines =
        ap (λ c. cond c (lines_of (b ∷ line)) (ended_lines (take room (b ∷ line)))) (le-leb (length (b ∷ line)) room enough)
        ∙ lines-last b line whole

-- the end of a script
pub ends-none : (carried : List ℕ → List ℕ) (steps : List ReplayStep) (number room : ℕ) → EndsOf carried steps number room [] (unrefused steps (record { status = 0; text = [] }))
ends-none carried steps number room =
    subst (λ c. EndsFrom carried steps number (cond c (lines_of []) (ended_lines (take room []))) c (unrefused steps (record { status = 0; text = [] })))
    (sym (le-leb 0 room (omega arith))) refl

-- more bytes than there is room for, without a line that ends within it
ends-over : (carried : List ℕ → List ℕ) (steps : List ReplayStep) (number room : ℕ) (bytes : List ℕ) → is_unbroken (take room bytes) ≡ true → room < length bytes →
    EndsOf carried steps number room bytes (unrefused steps limit_ending)
ends-over carried steps number room bytes whole over =
    subst (λ c. EndsFrom carried steps number (cond c (lines_of bytes) (ended_lines (take room bytes))) c (unrefused steps limit_ending))
    (sym (lt-leb (length bytes) room over))
    (subst (λ ls. EndsFrom carried steps number ls false (unrefused steps limit_ending)) (sym (ended-none (take room bytes) whole)) refl)

-- a line that is too long ends the script, however it goes on
ends-long : (carried : List ℕ → List ℕ) (steps : List ReplayStep) (number room : ℕ) (front more : List ℕ) → is_unbroken front ≡ true → line_limit < length front →
    EndsOf carried steps number room (front ++ more) (unrefused steps limit_ending)
ends-long carried steps number room [] more whole long = absurd (omega (arith, long))
ends-long carried steps number room (b ∷ front) more whole long =
    elim (cases_lt room (length (b ∷ front))) as (λ _. EndsOf carried steps number room ((b ∷ front) ++ more) (unrefused steps limit_ending)) [
      | inl small ↦ ends-over carried steps number room ((b ∷ front) ++ more) (take-within (b ∷ front) more room small whole)
          (omega (arith, small, length-append (b ∷ front) more))
      | inr enough ↦ by enough (nat_le (length ((b ∷ front) ++ more)) room)
    ]
  where
    at_limit : WiredEnding
    at_limit = unrefused steps limit_ending

    longer : (rest : List ℕ) → line_limit < length ((b ∷ front) ++ rest)
    longer rest = omega (arith, length-append (b ∷ front) rest, long)

    first : (rest : List ℕ) (lines : List (List ℕ)) (ends : Bool) → EndsFrom carried steps number (((b ∷ front) ++ rest) ∷ lines) ends at_limit
    first rest lines ends =
        either-first (nat_lt line_limit (length ((b ∷ front) ++ rest))) (at_limit ≡ unrefused steps limit_ending)
        (EndsAtLine carried steps (meaning_of ((b ∷ front) ++ rest)) number (λ now later. EndsFrom carried now (number + 1) lines ends later) at_limit)
        (lt-ltb line_limit (length ((b ∷ front) ++ rest)) (longer rest)) refl

    ended : (left : List ℕ) → (ended_lines ((b ∷ front) ++ left) ≡ [])
        ⊎ ((rest : List ℕ) × (lines : List (List ℕ)) × (ended_lines ((b ∷ front) ++ left) ≡ ((b ∷ front) ++ rest) ∷ lines)) →
        EndsFrom carried steps number (ended_lines ((b ∷ front) ++ left)) false at_limit
    ended left (inl e) = subst (λ ls. EndsFrom carried steps number ls false at_limit) (sym e) refl
    ended left (inr t) = subst (λ ls. EndsFrom carried steps number ls false at_limit) (sym t.2) (first t.0 t.1 false)

    by : length (b ∷ front) ≤ room → (c : Bool) →
        EndsFrom carried steps number (cond c (lines_of ((b ∷ front) ++ more)) (ended_lines (take room ((b ∷ front) ++ more)))) c at_limit
    by enough true = let t = lines-begin b front more whole in subst (λ ls. EndsFrom carried steps number ls true at_limit) (sym t.2) (first t.0 t.1 true)
    by enough false =
        subst (λ bytes. EndsFrom carried steps number (ended_lines bytes) false at_limit) (sym (take-through (b ∷ front) more room enough))
        (ended (take (room - length (b ∷ front)) more) (ended-begin b front (take (room - length (b ∷ front)) more) whole))

-- a line of which more has come than one of both limits allows
pub ends-limit : (carried : List ℕ → List ℕ) (steps : List ReplayStep) (number room : ℕ) (front more : List ℕ) → is_unbroken front ≡ true →
    ((is_unbroken (take room (front ++ more)) ≡ true) × (room < length (front ++ more))) ⊎ (line_limit < length front) →
    EndsOf carried steps number room (front ++ more) (unrefused steps limit_ending)
ends-limit carried steps number room front more whole (inl over) = ends-over carried steps number room (front ++ more) over.0 over.1
ends-limit carried steps number room front more whole (inr long) = ends-long carried steps number room front more whole long
