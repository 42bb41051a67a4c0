-- The first element of a list that a test refuses. The test may look at the elements before it.
use Rattle.std.specs.Prelude.{◌≡◌, Bool, true, false, List, ◌∷◌, ◌++◌}

-- the test refuses no element, given those before it
abbrev pub NoneRefused : {X : Type 0} → (List X → X → Bool) → List X → Type 0
NoneRefused {X} refuses xs = (before rest : List X) (x : X) → xs ≡ before ++ x ∷ rest → refuses before x ≡ false

-- the element after these is the first that the test refuses
pub record IsFirstRefused {X : Type 0} (refuses : List X → X → Bool) (xs before : List X) (x : X) (rest : List X) : Type 0 where
  pub split : xs ≡ before ++ x ∷ rest
  pub refused : refuses before x ≡ true
  pub none_before : NoneRefused refuses before
