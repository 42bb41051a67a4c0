-- The reading of a text, one step after the other.
use Rattle.std.proofs.Common.{◌≡◌, ◌+◌, ◌-◌, ◌<◌, ◌≤◌, ℕ, suc, zero, min, max, List, [], ◌∷◌, length, drop, Bool, true, false, Option, Some, None, Result, Err, refl, sym, ap, ◌∙◌, ◌⊎◌, inl, inr, length-drop, arith}
use Rattle.std.proofs.lemmas.Bool.{cases_lt}
use Rattle.std.proofs.lemmas.List.{drop_all}
use Rattle.cds_criteria.specs.Criteria.{Criteria, is_space}
use Rattle.cds_criteria.specs.Tokens.{token_found, token_then, less_one, tokens_from}
use Rattle.cds_criteria.specs.Reading.{Reading, next, read_on}
use Rattle.cds_criteria.specs.Taken.{with_size, taken}

passed_over : (skip at : ℕ) (text : List ℕ) → tokens_from skip at text ≡ tokens_from 0 (at + skip) (drop skip text)
passed_over zero at text = let same : at ≡ at + 0 = omega arith in ap (λ n. tokens_from 0 n text) same
passed_over (suc skip) at [] = refl
passed_over (suc skip) at (b ∷ text) =
    let same : at + 1 + skip ≡ at + suc skip = omega arith in
    passed_over skip (at + 1) text ∙ ap (λ n. tokens_from 0 n (drop skip text)) same

-- the outcome after a step from a place
abbrev pub outcome_after : ℕ → ℕ → List ℕ → Option (Reading × ℕ) → Result Criteria ℕ
outcome_after size at rest None = Err at
outcome_after size at rest (Some step) = read_on size step.0 (tokens_from 0 (at + max step.1 1) (drop (max step.1 1) rest))

at_least_one : (n : ℕ) → suc (less_one n) ≡ max n 1
at_least_one zero = refl
at_least_one (suc n) = omega arith

by_token : (size at b : ℕ) (text : List ℕ) (n : ℕ) (o : Option Reading)
    → (elim o [ None ↦ Err at | Some further ↦ read_on size further (tokens_from (less_one n) (at + 1) text) ]) ≡ outcome_after size at (b ∷ text) (with_size n o)
by_token size at b text n None = refl
by_token size at b text n (Some further) =
    let one : suc (less_one n) ≡ max n 1 = at_least_one n in
    let place : at + 1 + less_one n ≡ at + max n 1 = omega (arith, one) in
    ap (read_on size further) (passed_over (less_one n) (at + 1) text ∙ (λ i. tokens_from 0 (place i) (drop (one i) (b ∷ text))))

by_byte : (v : Bool) (size at : ℕ) (reading : Reading) (b : ℕ) (text : List ℕ)
    → read_on size reading (elim v [ true ↦ tokens_from 0 (at + 1) text | false ↦ token_then at (token_found b text) (λ skip. tokens_from skip (at + 1) text) ])
    ≡ outcome_after size at (b ∷ text) (elim v [ true ↦ Some (reading, 1) | false ↦ with_size (token_found b text).size (next reading (token_found b text).token) ])
by_byte true size at reading b text = refl
by_byte false size at reading b text = by_token size at b text (token_found b text).size (next reading (token_found b text).token)

step_on : (size at : ℕ) (reading : Reading) (rest : List ℕ) → 0 < length rest → read_on size reading (tokens_from 0 at rest) ≡ outcome_after size at rest (taken reading rest)
step_on size at reading [] there = absurd (omega (arith, there))
step_on size at reading (b ∷ text) there = by_byte (is_space b) size at reading b text

-- what is left of a text of a size, read on
abbrev pub left_on : ℕ → Reading → List ℕ → Result Criteria ℕ
left_on size reading rest = read_on size reading (tokens_from 0 (size - length rest) rest)

-- a token that cannot stand refuses the text at its place
pub step_refused : (size : ℕ) (reading : Reading) (rest : List ℕ) → 0 < length rest → None ≡ taken reading rest → left_on size reading rest ≡ Err (size - length rest)
step_refused size reading rest there e = step_on size (size - length rest) reading rest there ∙ ap (outcome_after size (size - length rest) rest) (sym e)

left_place : (size n : ℕ) (rest : List ℕ) → length rest ≤ size
    → tokens_from 0 (size - length rest + n) (drop n rest) ≡ tokens_from 0 (size - length (drop (min n (length rest)) rest)) (drop (min n (length rest)) rest)
left_place size n rest within = by (cases_lt n (length rest))
  where
    by : (n < length rest) ⊎ (length rest ≤ n)
        → tokens_from 0 (size - length rest + n) (drop n rest) ≡ tokens_from 0 (size - length (drop (min n (length rest)) rest)) (drop (min n (length rest)) rest)
    by (inl less) =
        let few : n ≡ min n (length rest) = omega (arith, less) in
        let long = length-drop n rest in
        let place : size - length rest + n ≡ size - length (drop n rest) = omega (arith, less, within, long) in
        ap (λ m. tokens_from 0 m (drop n rest)) place ∙ ap (λ m. tokens_from 0 (size - length (drop m rest)) (drop m rest)) few
    by (inr all) =
        let few : length rest ≡ min n (length rest) = omega (arith, all) in
        let full : length rest ≤ length rest = omega arith in
        ap (tokens_from 0 (size - length rest + n)) (drop_all n rest all)
        ∙ sym (ap (tokens_from 0 (size - length (drop (length rest) rest))) (drop_all (length rest) rest full))
        ∙ ap (λ m. tokens_from 0 (size - length (drop m rest)) (drop m rest)) few

-- a step leaves the rest of the text
pub step_further : (size : ℕ) (reading further : Reading) (n : ℕ) (rest more : List ℕ) → 0 < length rest → length rest ≤ size → Some (further, n) ≡ taken reading rest
    → more ≡ drop (min (max n 1) (length rest)) rest → left_on size reading rest ≡ left_on size further more
step_further size reading further n rest more there within e left =
    step_on size (size - length rest) reading rest there
    ∙ ap (outcome_after size (size - length rest) rest) (sym e)
    ∙ ap (read_on size further) (left_place size (max n 1) rest within)
    ∙ ap (left_on size further) (sym left)

-- the whole text is left at first
pub all_left : (text : List ℕ) (reading : Reading) → read_on (length text) reading (tokens_from 0 0 text) ≡ left_on (length text) reading text
all_left text reading = let none : 0 ≡ length text - length text = omega arith in ap (λ n. read_on (length text) reading (tokens_from 0 n text)) none
