-- What the ids of rows tell of the places that stand.
use Rattle.std.proofs.Common.{◌≡◌, ◌<◌, ℕ, Bool, true, false, cond, nat_eq, [], ◌∷◌, Some, refl, sym, ap, ◌∙◌, arith, eq-eqb, ne_eqb}
use Rattle.std.specs.List.{AllByRecursion}
use Rattle.std.proofs.lemmas.Bool.{false_from_ne_true}
use Rattle.cds_object.specs.Path.{same_path}
use Rattle.cds_object.specs.declared.content.Content.{Content}
use Rattle.cds_catalog.specs.Library.{FolderMap}
use Rattle.cds_catalog.proofs.Paths.{same_path_is}
use Rattle.cds_catalog.proofs.StepsPaths.{Place}
use Rattle.cds_catalog.proofs.StepsFind.{Entry, find_in, Rising, each-weaker, found_holds}

-- of places whose numbers rise, one number is that of a place exactly at the place
pub numbers-tell : (f : Place → ℕ) (es : FolderMap) (at : Place) (content : Content) → Rising f es → find_in es at ≡ Some content
    → AllByRecursion (λ (e : Entry). nat_eq (f e.0) (f at) ≡ same_path at e.0) es
numbers-tell f [] at content h k = tt
numbers-tell f (e ∷ es) at content h k = by (same_path at e.0) refl k (numbers-tell f es at content h.1)
  where
    by : (b : Bool) → same_path at e.0 ≡ b → cond b (Some e.1) (find_in es at) ≡ Some content
        → (find_in es at ≡ Some content → AllByRecursion (λ (o : Entry). nat_eq (f o.0) (f at) ≡ same_path at o.0) es)
        → (nat_eq (f e.0) (f at) ≡ b) × AllByRecursion (λ (o : Entry). nat_eq (f o.0) (f at) ≡ same_path at o.0) es
    by true x k r = (
      eq-eqb (f e.0) (f at) (ap f (sym (same_path_is at e.0 x))),
      each-weaker (λ (o : Entry). f e.0 < f o.0) (λ (o : Entry). nat_eq (f o.0) (f at) ≡ same_path at o.0) later es h.0,
    )
      where
        later : (o : Entry) → f e.0 < f o.0 → nat_eq (f o.0) (f at) ≡ same_path at o.0
        later o l =
            let same : f at ≡ f e.0 = ap f (same_path_is at e.0 x) in
            ne_eqb (f o.0) (f at) (λ q. omega (arith, l, same, q))
            ∙ sym (false_from_ne_true (same_path at o.0) (λ s. let other : f at ≡ f o.0 = ap f (same_path_is at o.0 s) in omega (arith, l, same, other)))
    by false x k r =
        let l : f e.0 < f at = found_holds (λ (o : Entry). f e.0 < f o.0) es at content h.0 k in
        (ne_eqb (f e.0) (f at) (λ q. omega (arith, l, q)), r k)
