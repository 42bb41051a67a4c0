-- Tokens stand at their places.
use Rattle.std.proofs.Common.{◌≡◌, ◌+◌, ℕ, zero, suc, List, [], ◌∷◌, Bool, true, false, length, refl, ap, ◌∙◌, arith}
use Rattle.std.specs.List.{AllByRecursion}
use Rattle.cds_criteria.specs.Criteria.{is_space}
use Rattle.cds_criteria.specs.Tokens.{Placed, token_found, token_then, less_one, tokens_from}
use Rattle.cds_criteria.specs.Laws as laws
use Rattle.cds_criteria.specs.Laws.{StandsAt}

further : (b at : ℕ) (text : List ℕ) (xs : List Placed) → AllByRecursion (StandsAt (at + 1) text) xs → AllByRecursion (StandsAt at (b ∷ text)) xs
further b at text [] a = tt
further b at text (x ∷ xs) a =
    let s : StandsAt (at + 1) text x = a.0 in
    let e = s.place in
    let step : at + 1 + length s.front ≡ at + suc (length s.front) = omega arith in (
      record {
        front = b ∷ s.front;
        first = s.first;
        rest = s.rest;
        same = ap (λ t. b ∷ t) s.same;
        place = e ∙ step;
        solid = s.solid;
        begins = s.begins;
      },
      further b at text xs a.1,
    )

by : (v : Bool) (b at : ℕ) (text : List ℕ) → is_space b ≡ v → ((skip : ℕ) → AllByRecursion (StandsAt (at + 1) text) (tokens_from skip (at + 1) text))
    → AllByRecursion (StandsAt at (b ∷ text)) (elim v [ true ↦ tokens_from 0 (at + 1) text | false ↦ token_then at (token_found b text) (λ skip. tokens_from skip (at + 1) text) ])
by true b at text s go = further b at text (tokens_from 0 (at + 1) text) (go 0)
by false b at text s go =
    let none : at ≡ at + 0 = omega arith in (
      record { front = []; first = b; rest = text; same = refl; place = none; solid = s; begins = refl },
      further b at text (tokens_from (less_one (token_found b text).size) (at + 1) text) (go (less_one (token_found b text).size)),
    )

stand : (text : List ℕ) (skip at : ℕ) → AllByRecursion (StandsAt at text) (tokens_from skip at text)
stand [] zero at = tt
stand [] (suc skip) at = tt
stand (b ∷ text) (suc skip) at = further b at text (tokens_from skip (at + 1) text) (stand text skip (at + 1))
stand (b ∷ text) zero at = by (is_space b) b at text refl (λ skip. stand text skip (at + 1))

pub places : laws.tokens_stand_at_their_places
places text = stand text 0 0
