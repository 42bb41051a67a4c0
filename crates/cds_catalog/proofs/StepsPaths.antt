-- When two places are one, and how a place differs from its parent.
use Rattle.std.proofs.Common.{◌≡◌, ℕ, suc, Bool, false, List, [], ◌∷◌, length, refl, ◌∙◌, ap, arith, true≢false}
use Rattle.std.proofs.lemmas.Bool.{false_from_ne_true}
use Rattle.cds_object.specs.Path.{same_path, parent_of}
use Rattle.cds_catalog.proofs.Paths.{same_path_is, same_path_swap}

abbrev pub Place : Type 0
Place = List (List ℕ)

pub swapped : (p q : Place) (b : Bool) → same_path p q ≡ b → same_path q p ≡ b
swapped p q b e = same_path_swap q p ∙ e

pub length-parent : (name : List ℕ) (names : Place) → length (parent_of (name ∷ names)) ≡ length names
length-parent name [] = refl
length-parent name (next ∷ names) = ap suc (length-parent next names)

longer : (p : Place) (name : List ℕ) (names : Place) → p ≡ name ∷ names → length p ≡ length names → ⊥
longer p name names e l = let k : length p ≡ suc (length names) = ap length e in absurd (omega arith)

-- a place with a name is not its own parent
pub parent_differs : (p : Place) → same_path p [] ≡ false → same_path (parent_of p) p ≡ false
parent_differs [] e = absurd (true≢false e)
parent_differs (name ∷ names) e =
    false_from_ne_true _ (λ s. longer (parent_of (name ∷ names)) name names (same_path_is _ _ s) (length-parent name names))
