-- Bytes that come in pieces, and then their end. A reader answers each piece. If it refused none, it answers the end.
use Rattle.std.specs.Prelude.{◌≡◌, ℕ, Result, Ok, Err, List, [], ◌∷◌, ◌++◌}

-- The pieces of some bytes.
abbrev pub together : List (List ℕ) → List ℕ
together [] = []
together (piece ∷ more) = piece ++ together more

-- The first refusal is the answer. If there is none, it is what the end gives.
abbrev pub goes_on : {A E : Type 0} → Result (Unit {0}) E → Result A E → Type 0 → Type 0
goes_on (Ok done) result onwards = onwards
goes_on (Err e) result onwards = result ≡ Err e

abbrev pub Gives : {A E R : Type 0} → (R → List ℕ → Result (Unit {0}) E → R → Type 0) → (R → Result A E → Type 0) → R → List (List ℕ) → Result A E → Type 0
Gives fed ended now [] result = ended now result
Gives {A} {E} {R} fed ended now (piece ∷ more) result =
    (answer : Result (Unit {0}) E) × (next : R) × fed now piece answer next × goes_on answer result (Gives fed ended next more result)
