-- How a script with notes goes on at its next line, at its end, and where a limit is passed.
use Rattle.std.proofs.Common.{◌≡◌, ℕ, zero, suc, ◌+◌, ◌-◌, ◌<◌, ◌≤◌, List, [], ◌∷◌, ◌++◌, length, take, Bool, true, false, cond, nat_lt, nat_eq, refl, ap, sym, ◌∙◌, arith, ◌⊎◌, inl, inr, length-append}
use Rattle.std.specs.Prelude.{nat_le}
use Rattle.std.specs.List.{onto_first}
use Rattle.std.proofs.lemmas.Bool.{and_parts, and_from, le-leb, lt-leb, lt-ltb, not-true, cases_lt}
use Rattle.cds_script.specs.declared.turn.ScriptTurn.{ScriptTurn}
use Rattle.cds_script.specs.Lines.{lines_of, ended_lines, onto_line, is_unbroken, line_limit}
use Rattle.cds_script.specs.Script.{meaning_of}
use Rattle.cds_script.specs.Report.{Ending, limit_ending, ending_at, ending_from, ending_of}

-- bytes without an LF, and one more line behind them
pub lines-append : (line after : List ℕ) → is_unbroken line ≡ true → lines_of (line ++ 10 ∷ after) ≡ line ∷ lines_of after
lines-append [] after whole = refl
lines-append (b ∷ line) after whole =
    ap (λ c. cond c ([] ∷ lines_of (line ++ 10 ∷ after)) (onto_first b (lines_of (line ++ 10 ∷ after)))) (not-true (nat_eq b 10) (and_parts _ _ whole).0)
    ∙ ap (onto_first b) (lines-append line after (and_parts _ _ whole).1)

pub ended-append : (line after : List ℕ) → is_unbroken line ≡ true → ended_lines (line ++ 10 ∷ after) ≡ line ∷ ended_lines after
ended-append [] after whole = refl
ended-append (b ∷ line) after whole =
    ap (λ c. cond c ([] ∷ ended_lines (line ++ 10 ∷ after)) (onto_line b (ended_lines (line ++ 10 ∷ after)))) (not-true (nat_eq b 10) (and_parts _ _ whole).0)
    ∙ ap (onto_line b) (ended-append line after (and_parts _ _ whole).1)

-- bytes without an LF end no line
pub ended-none : (bytes : List ℕ) → is_unbroken bytes ≡ true → ended_lines bytes ≡ []
ended-none [] whole = refl
ended-none (b ∷ bytes) whole =
    ap (λ c. cond c ([] ∷ ended_lines bytes) (onto_line b (ended_lines bytes))) (not-true (nat_eq b 10) (and_parts _ _ whole).0)
    ∙ ap (onto_line b) (ended-none bytes (and_parts _ _ whole).1)

-- and are one line, if there are any
pub lines-last : (b : ℕ) (bytes : List ℕ) → is_unbroken (b ∷ bytes) ≡ true → lines_of (b ∷ bytes) ≡ (b ∷ bytes) ∷ []
lines-last b [] whole = ap (λ c. cond c ([] ∷ []) (onto_first b [])) (not-true (nat_eq b 10) (and_parts _ _ whole).0)
lines-last b (next ∷ bytes) whole =
    ap (λ c. cond c ([] ∷ lines_of (next ∷ bytes)) (onto_first b (lines_of (next ∷ bytes)))) (not-true (nat_eq b 10) (and_parts _ _ whole).0)
    ∙ ap (onto_first b) (lines-last next bytes (and_parts _ _ whole).1)

-- a front that reaches past a line
pub take-past : (line after : List ℕ) (room : ℕ) → length line + 1 ≤ room → take room (line ++ 10 ∷ after) ≡ line ++ 10 ∷ take (room - (length line + 1)) after
take-past [] after zero enough = absurd (omega (arith, enough))
take-past [] after (suc room) enough = ap (λ n. 10 ∷ take n after) (let e : room ≡ suc room - (0 + 1) = omega arith in e)
take-past (b ∷ line) after zero enough = absurd (omega (arith, enough))
take-past (b ∷ line) after (suc room) enough =
    ap (λ bytes. b ∷ bytes) (take-past line after room (omega (arith, enough)))
    ∙ ap (λ n. b ∷ (line ++ 10 ∷ take n after)) (let e : room - (length line + 1) ≡ suc room - (suc (length line) + 1) = omega arith in e)

-- the next line and its LF, if they are within the room that is left
pub ending-line : (turns : List ScriptTurn) (number room : ℕ) (line after : List ℕ) → is_unbroken line ≡ true → length line + 1 ≤ room →
    ending_of turns number room (line ++ 10 ∷ after)
    ≡ cond (nat_lt line_limit (length line)) limit_ending
    (ending_at (meaning_of line) turns number (λ now. ending_of now (number + 1) (room - (length line + 1)) after))
ending-line turns number room line after whole enough = by (nat_le (length after) (room - (length line + 1))) refl
  where
    test : nat_le (length (line ++ 10 ∷ after)) room ≡ nat_le (length after) (room - (length line + 1))
    test = elim (cases_lt (room - (length line + 1)) (length after))
        as (λ _. nat_le (length (line ++ 10 ∷ after)) room ≡ nat_le (length after) (room - (length line + 1))) [
          | inl over ↦ lt-leb (length (line ++ 10 ∷ after)) room (omega (arith, length-append line (10 ∷ after), over, enough)) ∙ sym (lt-leb _ _ over)
          | inr fits ↦ le-leb (length (line ++ 10 ∷ after)) room (omega (arith, length-append line (10 ∷ after), fits, enough)) ∙ sym (le-leb _ _ fits)
        ]

    rest : Bool → List ScriptTurn → Ending
    rest b now =
        cond b (ending_from now (number + 1) (lines_of after) true) (ending_from now (number + 1) (ended_lines (take (room - (length line + 1)) after)) false)

    step : Bool → Ending
    step b = cond (nat_lt line_limit (length line)) limit_ending (ending_at (meaning_of line) turns number (rest b))

    by : (b : Bool) → nat_le (length after) (room - (length line + 1)) ≡ b →
        ending_of turns number room (line ++ 10 ∷ after) ≡ step (nat_le (length after) (room - (length line + 1)))
    by true e =
        ap (λ b. cond b (ending_from turns number (lines_of (line ++ 10 ∷ after)) true) (ending_from turns number (ended_lines (take room (line ++ 10 ∷ after))) false)) (test ∙ e)
        ∙ ap (λ lines. ending_from turns number lines true) (lines-append line after whole)
        ∙ sym (ap step e)
    by false e =
        ap (λ b. cond b (ending_from turns number (lines_of (line ++ 10 ∷ after)) true) (ending_from turns number (ended_lines (take room (line ++ 10 ∷ after))) false)) (test ∙ e)
        ∙ ap (λ bytes. ending_from turns number (ended_lines bytes) false) (take-past line after room enough)
        ∙ ap (λ lines. ending_from turns number lines false) (ended-append line (take (room - (length line + 1)) after) whole)
        ∙ sym (ap step e)

-- a last line without its LF
pub ending-last : (turns : List ScriptTurn) (number room : ℕ) (line : List ℕ) → is_unbroken line ≡ true → length line ≤ room → (length line ≡ 0 → ⊥) →
    ending_of turns number room line
    ≡ cond (nat_lt line_limit (length line)) limit_ending (ending_at (meaning_of line) turns number (λ now. record { status = 0; text = [] }))
ending-last turns number room [] whole enough some = absurd (some refl)
ending-last turns number room (b ∷ line) whole enough some =
    ap (λ c. cond c (ending_from turns number (lines_of (b ∷ line)) true) (ending_from turns number (ended_lines (take room (b ∷ line))) false))
    (le-leb (length (b ∷ line)) room enough)
    ∙ ap (λ lines. ending_from turns number lines true) (lines-last b line whole)

-- the end of a script
pub ending-none : (turns : List ScriptTurn) (number room : ℕ) → ending_of turns number room [] ≡ record { status = 0; text = [] }
ending-none turns number room =
    ap (λ c. cond c (ending_from turns number [] true) (ending_from turns number (ended_lines (take room [])) false)) (le-leb 0 room (omega arith))

-- more bytes than there is room for, without a line that ends within it
pub ending-over : (turns : List ScriptTurn) (number room : ℕ) (bytes : List ℕ) → is_unbroken (take room bytes) ≡ true → room < length bytes →
    ending_of turns number room bytes ≡ limit_ending
ending-over turns number room bytes whole over =
    ap (λ c. cond c (ending_from turns number (lines_of bytes) true) (ending_from turns number (ended_lines (take room bytes)) false))
    (lt-leb (length bytes) room over)
    ∙ ap (λ lines. ending_from turns number lines false) (ended-none (take room bytes) whole)

-- what begins with bytes without an LF has a first line that begins with them
pub lines-begin : (b : ℕ) (front more : List ℕ) → is_unbroken (b ∷ front) ≡ true →
    (rest : List ℕ) × (lines : List (List ℕ)) × (lines_of ((b ∷ front) ++ more) ≡ ((b ∷ front) ++ rest) ∷ lines)
lines-begin b [] more whole = by (lines_of more) refl
  where
    head : lines_of (b ∷ more) ≡ onto_first b (lines_of more)
    head = ap (λ c. cond c ([] ∷ lines_of more) (onto_first b (lines_of more))) (not-true (nat_eq b 10) (and_parts _ _ whole).0)

    by : (ls : List (List ℕ)) → lines_of more ≡ ls → (rest : List ℕ) × (lines : List (List ℕ)) × (lines_of (b ∷ more) ≡ (b ∷ rest) ∷ lines)
    by [] e = ([], [], head ∙ ap (onto_first b) e)
    by (line ∷ lines) e = (line, lines, head ∙ ap (onto_first b) e)
lines-begin b (next ∷ front) more whole = by (lines-begin next front more (and_parts _ _ whole).1)
  where
    by : (rest : List ℕ) × (lines : List (List ℕ)) × (lines_of ((next ∷ front) ++ more) ≡ ((next ∷ front) ++ rest) ∷ lines) →
        (rest : List ℕ) × (lines : List (List ℕ)) × (lines_of ((b ∷ next ∷ front) ++ more) ≡ ((b ∷ next ∷ front) ++ rest) ∷ lines)
    by t = (
      t.0,
      t.1,
      ap (λ c. cond c ([] ∷ lines_of ((next ∷ front) ++ more)) (onto_first b (lines_of ((next ∷ front) ++ more)))) (not-true (nat_eq b 10) (and_parts _ _ whole).0)
          ∙ ap (onto_first b) t.2,
    )

-- likewise where only what an LF ended counts, if any line was
pub ended-begin : (b : ℕ) (front more : List ℕ) → is_unbroken (b ∷ front) ≡ true →
    (ended_lines ((b ∷ front) ++ more) ≡ [])
    ⊎ ((rest : List ℕ) × (lines : List (List ℕ)) × (ended_lines ((b ∷ front) ++ more) ≡ ((b ∷ front) ++ rest) ∷ lines))
ended-begin b [] more whole = by (ended_lines more) refl
  where
    head : ended_lines (b ∷ more) ≡ onto_line b (ended_lines more)
    head = ap (λ c. cond c ([] ∷ ended_lines more) (onto_line b (ended_lines more))) (not-true (nat_eq b 10) (and_parts _ _ whole).0)

    by : (ls : List (List ℕ)) → ended_lines more ≡ ls →
        (ended_lines (b ∷ more) ≡ []) ⊎ ((rest : List ℕ) × (lines : List (List ℕ)) × (ended_lines (b ∷ more) ≡ (b ∷ rest) ∷ lines))
    by [] e = inl (head ∙ ap (onto_line b) e)
    by (line ∷ lines) e = inr (line, lines, head ∙ ap (onto_line b) e)
ended-begin b (next ∷ front) more whole = by (ended-begin next front more (and_parts _ _ whole).1)
  where
    head : ended_lines ((b ∷ next ∷ front) ++ more) ≡ onto_line b (ended_lines ((next ∷ front) ++ more))
    head = ap (λ c. cond c ([] ∷ ended_lines ((next ∷ front) ++ more)) (onto_line b (ended_lines ((next ∷ front) ++ more)))) (not-true (nat_eq b 10) (and_parts _ _ whole).0)

    by : (ended_lines ((next ∷ front) ++ more) ≡ [])
        ⊎ ((rest : List ℕ) × (lines : List (List ℕ)) × (ended_lines ((next ∷ front) ++ more) ≡ ((next ∷ front) ++ rest) ∷ lines)) →
        (ended_lines ((b ∷ next ∷ front) ++ more) ≡ [])
        ⊎ ((rest : List ℕ) × (lines : List (List ℕ)) × (ended_lines ((b ∷ next ∷ front) ++ more) ≡ ((b ∷ next ∷ front) ++ rest) ∷ lines))
    by (inl e) = inl (head ∙ ap (onto_line b) e)
    by (inr t) = inr (t.0, t.1, head ∙ ap (onto_line b) t.2)

-- a front that reaches past what comes first
pub take-through : (front more : List ℕ) (room : ℕ) → length front ≤ room → take room (front ++ more) ≡ front ++ take (room - length front) more
take-through [] more room enough = ap (λ n. take n more) (let e : room ≡ room - 0 = omega arith in e)
take-through (b ∷ front) more zero enough = absurd (omega (arith, enough))
take-through (b ∷ front) more (suc room) enough =
    ap (λ bytes. b ∷ bytes) (take-through front more room (omega (arith, enough)))
    ∙ ap (λ n. b ∷ (front ++ take n more)) (let e : room - length front ≡ suc room - suc (length front) = omega arith in e)

pub take-within : (front more : List ℕ) (room : ℕ) → room < length front → is_unbroken front ≡ true → is_unbroken (take room (front ++ more)) ≡ true
take-within [] more room small whole = absurd (omega (arith, small))
take-within (b ∷ front) more zero small whole = refl
take-within (b ∷ front) more (suc room) small whole =
    and_from _ _ (and_parts _ _ whole).0 (take-within front more room (omega (arith, small)) (and_parts _ _ whole).1)

-- a line that is too long ends the script, however it goes on
pub ending-long : (turns : List ScriptTurn) (number room : ℕ) (front more : List ℕ) → is_unbroken front ≡ true → line_limit < length front →
    ending_of turns number room (front ++ more) ≡ limit_ending
ending-long turns number room [] more whole long = absurd (omega (arith, long))
ending-long turns number room (b ∷ front) more whole long =
    elim (cases_lt room (length (b ∷ front))) as (λ _. ending_of turns number room ((b ∷ front) ++ more) ≡ limit_ending) [
      | inl small ↦ ending-over turns number room ((b ∷ front) ++ more) (take-within (b ∷ front) more room small whole)
          (omega (arith, small, length-append (b ∷ front) more))
      | inr enough ↦ by enough (nat_le (length ((b ∷ front) ++ more)) room)
    ]
  where
    longer : (rest : List ℕ) → line_limit < length ((b ∷ front) ++ rest)
    longer rest = omega (arith, length-append (b ∷ front) rest, long)

    first : (rest : List ℕ) (lines : List (List ℕ)) (ends : Bool) → ending_from turns number (((b ∷ front) ++ rest) ∷ lines) ends ≡ limit_ending
    first rest lines ends =
        ap (λ c. cond c limit_ending (ending_at (meaning_of ((b ∷ front) ++ rest)) turns number (λ now. ending_from now (number + 1) lines ends)))
        (lt-ltb line_limit (length ((b ∷ front) ++ rest)) (longer rest))

    by : length (b ∷ front) ≤ room → (c : Bool) →
        cond c (ending_from turns number (lines_of ((b ∷ front) ++ more)) true) (ending_from turns number (ended_lines (take room ((b ∷ front) ++ more))) false)
        ≡ limit_ending
    by enough true = let t = lines-begin b front more whole in ap (λ lines. ending_from turns number lines true) t.2 ∙ first t.0 t.1 true
    by enough false =
        ap (λ bytes. ending_from turns number (ended_lines bytes) false) (take-through (b ∷ front) more room enough)
        ∙ ended (ended-begin b front (take (room - length (b ∷ front)) more) whole)
      where
        ended : (ended_lines ((b ∷ front) ++ take (room - length (b ∷ front)) more) ≡ [])
            ⊎ ((rest : List ℕ) × (lines : List (List ℕ)) × (ended_lines ((b ∷ front) ++ take (room - length (b ∷ front)) more) ≡ ((b ∷ front) ++ rest) ∷ lines)) →
            ending_from turns number (ended_lines ((b ∷ front) ++ take (room - length (b ∷ front)) more)) false ≡ limit_ending
        ended (inl e) = ap (λ lines. ending_from turns number lines false) e
        ended (inr t) = ap (λ lines. ending_from turns number lines false) t.2 ∙ first t.0 t.1 false
