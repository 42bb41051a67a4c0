-- Sums over lists of views, and lists in which one element is changed.
use Rattle.std.proofs.Common.{◌≡◌, ◌≢◌, ℕ, zero, suc, ◌+◌, ◌<◌, ◌≤◌, Bool, cond, List, [], ◌∷◌, ◌++◌, length, set, sym, ap, ◌∙◌, refl, subst, ⊎_elim, arith}
use mathlib.Core.Option.{some, some-injective, some-ne-none}
use lib.ListN.{get_elem?}
use Rattle.std.specs.List.{count_by}
use Rattle.std.proofs.lemmas.List.Sums.{sum_by-append}
use Rattle.atomic_table.proofs.Lists.{at_set, set_here}
use Rattle.cds_turn.specs.Line.{total}

module _ {A : Type 0} where
  pub at_below : (views : List A) (i : ℕ) (v : A) → get_elem? views i ≡ some v → i < length views
  at_below [] i v e = absurd (some-ne-none v (sym e))
  at_below (x ∷ xs) zero v e = omega arith
  at_below (x ∷ xs) (suc i) v e = let below = at_below xs i v e in omega arith

  pub total_set : (f : A → ℕ) (views : List A) (i : ℕ) (v w : A) → get_elem? views i ≡ some v → total f (set views i w) + f v ≡ total f views + f w
  total_set f [] i v w e = absurd (some-ne-none v (sym e))
  total_set f (x ∷ xs) zero v w e = let same : f x ≡ f v = ap f (some-injective x v e) in omega arith
  total_set f (x ∷ xs) (suc i) v w e = let rest = total_set f xs i v w e in omega arith

  pub total_snoc : (f : A → ℕ) (views : List A) (w : A) → total f (views ++ w ∷ []) ≡ total f views + f w
  total_snoc f [] w = omega arith
  total_snoc f (x ∷ xs) w = let rest = total_snoc f xs w in omega arith

  pub total_at : (f : A → ℕ) (views : List A) (i : ℕ) (v : A) → get_elem? views i ≡ some v → f v ≤ total f views
  total_at f [] i v e = absurd (some-ne-none v (sym e))
  total_at f (x ∷ xs) zero v e = let same : f x ≡ f v = ap f (some-injective x v e) in omega arith
  total_at f (x ∷ xs) (suc i) v e = let rest = total_at f xs i v e in omega arith

  pub total_le : (f g : A → ℕ) (views : List A) → ((j : ℕ) (v : A) → get_elem? views j ≡ some v → f v ≤ g v) → total f views ≤ total g views
  total_le f g [] each = omega arith
  total_le f g (x ∷ xs) each = let first = each zero x refl in let rest = total_le f g xs (λ j v e. each (suc j) v e) in omega arith

  pub total_none : (f : A → ℕ) (views : List A) → ((j : ℕ) (v : A) → get_elem? views j ≡ some v → f v ≡ 0) → total f views ≡ 0
  total_none f [] each = refl
  total_none f (x ∷ xs) each = let first = each zero x refl in let rest = total_none f xs (λ j v e. each (suc j) v e) in omega arith

  pub count_append : (test : A → Bool) (xs ys : List A) → count_by test (xs ++ ys) ≡ count_by test xs + count_by test ys
  count_append test xs ys = sum_by-append (λ x. cond (test x) 1 0) xs ys

  -- what holds of the new element and of all others holds of each
  pub each_set : (P : ℕ → A → Type 0) (views : List A) (i : ℕ) (w : A) → P i w → ((j : ℕ) (v : A) → j ≢ i → get_elem? views j ≡ some v → P j v)
      → (j : ℕ) (v : A) → get_elem? (set views i w) j ≡ some v → P j v
  each_set P views i w mine others j v e = ⊎_elim (λ (t : (j ≡ i) × (w ≡ v)). subst (λ (x : ℕ × A). P x.0 x.1) (λ k. (sym t.0 k, t.1 k)) mine)
      (λ (t : (j ≢ i) × (get_elem? views j ≡ some v)). others j v t.0 t.1) (at_set views i j w v e)

  pub set_at_own : (views : List A) (i : ℕ) (v w : A) → get_elem? views i ≡ some v → get_elem? (set views i w) i ≡ some w
  set_at_own views i v w e = set_here views i w (at_below views i v e)

  -- one place has one element
  pub one_there : (views : List A) (i : ℕ) (v w : A) → get_elem? views i ≡ some v → get_elem? views i ≡ some w → v ≡ w
  one_there views i v w a b = some-injective v w (sym a ∙ b)
