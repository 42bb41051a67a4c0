-- The first byte of a text.
use Rattle.std.specs.Prelude.{ℕ, nat_eq, Bool, false, List, [], ◌∷◌}

-- whether a text begins with a byte
abbrev pub first_is : ℕ → List ℕ → Bool
first_is a [] = false
first_is a (b ∷ text) = nat_eq a b
