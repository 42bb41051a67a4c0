-- Places above others.
use Rattle.std.proofs.Common.{◌≡◌, ◌⊎◌, inl, inr, ◌&&◌, ◌||◌, ℕ, Bool, true, false, List, [], ◌∷◌, Less, refl, sym, ap, ◌∙◌, true≢false, nat_eq}
use Rattle.std.specs.Ordering.{ordering_then}
use Rattle.std.specs.Cmp.{tied_itself}
use Rattle.std.specs.Cmp.Lexicographic.{pointwise, bytes_decides, nat_list_cmp_total}
use Rattle.cds_object.specs.Path.{path_cmp, same_path, parent_of}
use Rattle.cds_catalog.proofs.Paths.{same_path_itself}
use Rattle.cds_catalog.proofs.StepsPaths.{Place}
use Rattle.cds_changes.specs.Events.{is_below}
use Rattle.cds_changes.specs.Subtrees.{is_over}

false-true : {A : Type 0} (b : Bool) → b ≡ false → b ≡ true → A
false-true b f t = absurd (true≢false (sym t ∙ f))

pub both-parts : (a b : Bool) → a && b ≡ true → (a ≡ true) × (b ≡ true)
both-parts true b e = (refl, e)
both-parts false b e = absurd (true≢false (sym e))

pub both-true : (a b : Bool) → a ≡ true → b ≡ true → a && b ≡ true
both-true a b p q = λ i. p i && q i

below-parts : (n m : List ℕ) (t p : Place) → is_below (n ∷ t) (m ∷ p) ≡ true → (n ≡ m) × (is_below t p ≡ true)
below-parts n m t p e =
    let parts = both-parts (pointwise nat_eq n m) (is_below t p) e in
    ((bytes_decides n m).0 parts.0, parts.1)

pub over-parts : (n m : List ℕ) (t p : Place) → is_over (n ∷ t) (m ∷ p) ≡ true → (n ≡ m) × (is_over t p ≡ true)
over-parts n m t p e = by (pointwise nat_eq n m) refl e
  where
    by : (b : Bool) → pointwise nat_eq n m ≡ b → (b && same_path t p) || (b && is_below t p) ≡ true → (n ≡ m) × (is_over t p ≡ true)
    by true k e = ((bytes_decides n m).0 k, e)
    by false k e = absurd (true≢false (sym e))

below-cons : (n m : List ℕ) (t p : Place) → n ≡ m → is_below t p ≡ true → is_below (n ∷ t) (m ∷ p) ≡ true
below-cons n m t p e b = both-true _ _ ((bytes_decides n m).1 e) b

pub over-itself : (p : Place) → is_over p p ≡ true
over-itself p = λ i. same_path_itself p i || is_below p p

pub over-from-below : (t p : Place) → is_below t p ≡ true → is_over t p ≡ true
over-from-below t p e = by (same_path t p)
  where
    by : (b : Bool) → b || is_below t p ≡ true
    by true = refl
    by false = e

pub below-from-over : (t p : Place) → is_over t p ≡ true → same_path t p ≡ false → is_below t p ≡ true
below-from-over t p e d = (λ i. sym d i || is_below t p) ∙ e

pub not-below-itself : (p : Place) → is_below p p ≡ false
not-below-itself [] = refl
not-below-itself (name ∷ names) = by (pointwise nat_eq name name) (not-below-itself names)
  where
    by : (b : Bool) → is_below names names ≡ false → b && is_below names names ≡ false
    by true rest = rest
    by false rest = refl

pub below-over : (a b c : Place) → is_below a b ≡ true → is_over b c ≡ true → is_below a c ≡ true
below-over [] [] c e o = absurd (true≢false (sym e))
below-over [] (m ∷ b) [] e o = o
below-over [] (m ∷ b) (k ∷ c) e o = refl
below-over (n ∷ a) [] c e o = absurd (true≢false (sym e))
below-over (n ∷ a) (m ∷ b) [] e o = absurd (true≢false (sym o))
below-over (n ∷ a) (m ∷ b) (k ∷ c) e o =
    let p = below-parts n m a b e in
    let q = over-parts m k b c o in
    below-cons n k a c (p.0 ∙ q.0) (below-over a b c p.1 q.1)

-- of two places above one, or the same, one is above the other
pub comparable : (h t p : Place) → is_over h p ≡ true → is_over t p ≡ true → (h ≡ t) ⊎ ((is_below h t ≡ true) ⊎ (is_below t h ≡ true))
comparable [] [] p a b = inl refl
comparable [] (m ∷ t) p a b = inr (inl refl)
comparable (n ∷ h) [] p a b = inr (inr refl)
comparable (n ∷ h) (m ∷ t) [] a b = absurd (true≢false (sym a))
comparable (n ∷ h) (m ∷ t) (k ∷ p) a b =
    let x = over-parts n k h p a in
    let y = over-parts m k t p b in
    by (x.0 ∙ sym y.0) (comparable h t p x.1 y.1)
  where
    by : n ≡ m → (h ≡ t) ⊎ ((is_below h t ≡ true) ⊎ (is_below t h ≡ true))
        → (n ∷ h ≡ m ∷ t) ⊎ ((is_below (n ∷ h) (m ∷ t) ≡ true) ⊎ (is_below (m ∷ t) (n ∷ h) ≡ true))
    by e (inl s) = inl (λ i. e i ∷ s i)
    by e (inr (inl s)) = inr (inl (below-cons n m h t e s))
    by e (inr (inr s)) = inr (inr (below-cons m n t h (sym e) s))

-- a place is below its parent
pub below-parent : (p : Place) → same_path p [] ≡ false → is_below (parent_of p) p ≡ true
below-parent [] d = absurd (true≢false d)
below-parent (name ∷ []) d = refl
below-parent (name ∷ next ∷ names) d = below-cons name name (parent_of (next ∷ names)) (next ∷ names) refl (below-parent (next ∷ names) refl)

-- what is above a place is its parent, or above that
pub over-parent : (t p : Place) → is_below t p ≡ true → is_over t (parent_of p) ≡ true
over-parent [] [] e = absurd (true≢false (sym e))
over-parent [] (m ∷ p) e = by (parent_of (m ∷ p))
  where
    by : (q : Place) → is_over [] q ≡ true
    by [] = refl
    by (k ∷ q) = refl
over-parent (n ∷ t) [] e = absurd (true≢false (sym e))
over-parent (n ∷ t) (m ∷ []) e = none t (below-parts n m t [] e).1
  where
    none : (t : Place) → is_below t [] ≡ true → is_over (n ∷ t) [] ≡ true
    none [] e = absurd (true≢false (sym e))
    none (k ∷ t) e = absurd (true≢false (sym e))
over-parent (n ∷ t) (m ∷ k ∷ p) e =
    let parts = below-parts n m t (k ∷ p) e in
    let rest = over-parent t (k ∷ p) parts.1 in
    cons-over n m t (parent_of (k ∷ p)) parts.0 rest
  where
    cons-over : (n m : List ℕ) (t p : Place) → n ≡ m → is_over t p ≡ true → is_over (n ∷ t) (m ∷ p) ≡ true
    cons-over n m t p e o = (λ i. ((bytes_decides n m).1 e i && same_path t p) || ((bytes_decides n m).1 e i && is_below t p)) ∙ o

-- a place comes before what is below it
pub below-before : (t p : Place) → is_below t p ≡ true → path_cmp t p ≡ Less
below-before [] [] e = absurd (true≢false (sym e))
below-before [] (m ∷ p) e = refl
below-before (n ∷ t) [] e = absurd (true≢false (sym e))
below-before (n ∷ t) (m ∷ p) e =
    let parts = below-parts n m t p e in
    ap (λ (k : List ℕ). path_cmp (n ∷ t) (k ∷ p)) (sym parts.0)
    ∙ ap (λ r. ordering_then r (path_cmp t p)) (tied_itself nat_list_cmp_total n) ∙ below-before t p parts.1
