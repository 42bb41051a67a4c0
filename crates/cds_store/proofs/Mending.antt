-- The index of children after a scan, and the changes of a scan made by ids.
use Rattle.std.proofs.Common.{◌≡◌, ℕ, Bool, true, false, cond, not, nat_eq, nat_cmp, filter, List, [], ◌∷◌, ◌++◌, refl, sym, ◌∙◌, ap}
use Rattle.std.specs.List.{filter_map}
use Rattle.std.proofs.lemmas.List.{map-append}
use Rattle.std.proofs.lemmas.List.Elements.{filter-append}
use Rattle.cds_catalog.specs.Catalog.{PlacedRow}
use Rattle.std.specs.BTreeSet.{contains}
use Rattle.cds_catalog.specs.Steps.{Standing, stepped}
use Rattle.cds_store.specs.ChangeEvents.{changes_in}
use Rattle.cds_store.specs.Resolution.{IsResolutionOf}
use Rattle.cds_store.specs.declared.resolving.Resolution.{Resolution}
use Rattle.cds_store.specs.declared.subtrees.MarkedChange.{MarkedChange}
use Rattle.cds_store.specs.Offspring.{AreChildren, of_parent, child_of, ids_in}
use Rattle.cds_store.specs.Resolved.{children_staying, IsMended}
use Rattle.cds_store.specs.declared.offspring.Child.{Child}
use Rattle.cds_store.proofs.OffspringOf.{in_row_order}

filters_swap : (parent : ℕ) (goes : ℕ → Bool) (cs : List Child) → filter (of_parent parent) (children_staying goes cs) ≡ children_staying goes (filter (of_parent parent) cs)
filters_swap parent goes [] = refl
filters_swap parent goes (c ∷ cs) = by (nat_eq c.parent parent) (not (goes c.id)) refl refl (filters_swap parent goes cs)
  where
    by : (a b : Bool) → nat_eq c.parent parent ≡ a → not (goes c.id) ≡ b → filter (of_parent parent) (children_staying goes cs) ≡ children_staying goes (filter (of_parent parent) cs)
        → filter (of_parent parent) (cond b (c ∷ children_staying goes cs) (children_staying goes cs)) ≡ children_staying goes (cond a (c ∷ filter (of_parent parent) cs) (filter (of_parent parent) cs))
    by true true x y r = (λ i. cond (x i) (c ∷ r i) (r i)) ∙ (λ i. cond (sym y i) (c ∷ children_staying goes (filter (of_parent parent) cs)) (children_staying goes (filter (of_parent parent) cs)))
    by true false x y r = r ∙ (λ i. cond (sym y i) (c ∷ children_staying goes (filter (of_parent parent) cs)) (children_staying goes (filter (of_parent parent) cs)))
    by false true x y r = (λ i. cond (x i) (c ∷ r i) (r i))
    by false false x y r = r

-- the ids that stay
abbrev ids_staying : (ℕ → Bool) → List ℕ → List ℕ
ids_staying goes ids = filter (λ id. not (goes id)) ids

ids_of_staying : (goes : ℕ → Bool) (cs : List Child) → ids_in (children_staying goes cs) ≡ ids_staying goes (ids_in cs)
ids_of_staying goes [] = refl
ids_of_staying goes (c ∷ cs) = by (not (goes c.id)) (ids_of_staying goes cs)
  where
    by : (b : Bool) → ids_in (children_staying goes cs) ≡ ids_staying goes (ids_in cs)
        → ids_in (cond b (c ∷ children_staying goes cs) (children_staying goes cs)) ≡ cond b (c.id ∷ ids_staying goes (ids_in cs)) (ids_staying goes (ids_in cs))
    by true r = ap (λ (l : List ℕ). c.id ∷ l) r
    by false r = r

-- the ids of an object's children among those that stay of some and others
staying_ids : (goes : ℕ → Bool) (parent : ℕ) (first come : List Child)
    → ids_in (filter (of_parent parent) (children_staying goes (first ++ come))) ≡ ids_staying goes (ids_in (filter (of_parent parent) first) ++ ids_in (filter (of_parent parent) come))
staying_ids goes parent first come =
    ap ids_in (filters_swap parent goes (first ++ come)) ∙ ids_of_staying goes (filter (of_parent parent) (first ++ come))
    ∙ ap (λ (l : List Child). ids_staying goes (ids_in l)) (filter-append (of_parent parent) first come)
    ∙ ap (ids_staying goes) (map-append (λ (c : Child). c.id) (filter (of_parent parent) first) (filter (of_parent parent) come))

pub mended : (goes : ℕ → Bool) (before after : List PlacedRow) (offspring come now : List Child) → AreChildren before offspring → IsMended goes (offspring ++ come) now
    → children_staying goes (filter_map child_of before ++ come) ≡ filter_map child_of after → AreChildren after now
mended goes before after offspring come now are is children = record {
  rising = is.rising;
  each = λ parent.
      ap ids_in (is.each parent) ∙ staying_ids goes parent offspring come
      ∙ ap (λ (l : List ℕ). ids_staying goes (l ++ ids_in (filter (of_parent parent) come))) (are.each parent ∙ sym (in_row_order parent before))
      ∙ sym (staying_ids goes parent (filter_map child_of before) come)
      ∙ ap (λ (l : List Child). ids_in (filter (of_parent parent) l)) children
      ∙ in_row_order parent after;
}

-- the index of children after the changes of a scan
pub mended_by : (s after : Standing) (plan : List MarkedChange) (scan : Resolution) (offspring now : List Child) → AreChildren s.rows offspring
    → IsMended (contains nat_cmp scan.gone) (offspring ++ scan.come.items) now → IsResolutionOf s plan scan → after ≡ stepped s (changes_in plan) → AreChildren after.rows now
mended_by s after plan scan offspring now are is follows steps =
    mended (contains nat_cmp scan.gone) s.rows after.rows offspring scan.come.items now are is
    (follows.children ∙ ap (λ (t : Standing). filter_map child_of t.rows) (sym steps))
