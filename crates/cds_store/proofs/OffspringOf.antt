-- The children of each object, sorted by their parents, and those of one parent found by halving.
use Rattle.std.proofs.Common.{◌≡◌, ◌<◌, ◌≤◌, ◌&&◌, ℕ, zero, suc, Bool, true, false, cond, not, nat_eq, nat_lt, nat_le, filter, map, List, [], ◌∷◌, ◌++◌, length, take, drop, get_or, Option, Some, None, Less, Equal, Greater, nat_cmp, is_lt, refl, sym, ◌∙◌, ap, arith}
use Rattle.std.specs.List.{AllByRecursion, filter_map, cons_option, AllWithin}
use Rattle.std.specs.Option.{option_map, option_eq}
use Rattle.std.specs.Cmp.{nat_cmp_is}
use Rattle.std.proofs.lemmas.Bool.Decides.{nat_tests}
use Rattle.std.proofs.lemmas.List.{take-append-drop}
use Rattle.std.proofs.lemmas.List.Elements.{filter-append}
use Rattle.cds_object.specs.Object.{ObjectRow}
use Rattle.cds_object.specs.Tree.{children_of}
use Rattle.cds_catalog.specs.Catalog.{PlacedRow}
use Rattle.cds_catalog.proofs.StepsFind.{each-weaker, each-both}
use Rattle.cds_store.specs.Offspring.{ids_in, of_parent, child_of, Rises}
use Rattle.cds_store.specs.Rows.{rows_of}
use Rattle.cds_store.specs.declared.offspring.Child.{Child}

-- ---- in the order of rows

pub in_row_order : (parent : ℕ) (rows : List PlacedRow) → ids_in (filter (of_parent parent) (filter_map child_of rows)) ≡ map (λ (r : ObjectRow). r.id) (children_of parent (rows_of rows))
in_row_order parent [] = refl
in_row_order parent (p ∷ rows) = by p.1.parent (in_row_order parent rows)
  where
    one : (q : ℕ) (b : Bool) → ids_in (filter (of_parent parent) (filter_map child_of rows)) ≡ map (λ (r : ObjectRow). r.id) (children_of parent (rows_of rows))
        → ids_in (cond b (record { parent = q; id = p.1.id } ∷ filter (of_parent parent) (filter_map child_of rows)) (filter (of_parent parent) (filter_map child_of rows)))
        ≡ map (λ (r : ObjectRow). r.id) (cond b (p.1 ∷ children_of parent (rows_of rows)) (children_of parent (rows_of rows)))
    one q true r = ap (λ (l : List ℕ). p.1.id ∷ l) r
    one q false r = r

    by : (o : Option ℕ) → ids_in (filter (of_parent parent) (filter_map child_of rows)) ≡ map (λ (r : ObjectRow). r.id) (children_of parent (rows_of rows))
        → ids_in (filter (of_parent parent) (cons_option (option_map (λ q. record { parent = q; id = p.1.id }) o) (filter_map child_of rows)))
        ≡ map (λ (r : ObjectRow). r.id) (cond (option_eq nat_eq o (Some parent)) (p.1 ∷ children_of parent (rows_of rows)) (children_of parent (rows_of rows)))
    by None r = r
    by (Some q) r = one q (nat_eq q parent) r

-- ---- sorted by parents

pub ties_same : (p q : ℕ) → not (is_lt (nat_cmp p q)) && not (is_lt (nat_cmp q p)) ≡ nat_eq q p
ties_same p q = by (nat_lt p q) (nat_lt q p) refl refl
  where
    less : (a b : ℕ) → nat_lt a b ≡ true → a < b
    less a b e = grind (arith, nat_tests)

    same : (a b : ℕ) → nat_lt a b ≡ false → nat_lt b a ≡ false → a ≡ b
    same a b e k = grind (arith, nat_tests)

    differs : (a b : ℕ) → a < b → false ≡ nat_eq b a
    differs a b h = grind (arith, nat_tests)

    differs-2 : (a b : ℕ) → b < a → false ≡ nat_eq b a
    differs-2 a b h = grind (arith, nat_tests)

    alike : (a b : ℕ) → a ≡ b → true ≡ nat_eq b a
    alike a b h = grind (arith, nat_tests)

    by : (b c : Bool) → nat_lt p q ≡ b → nat_lt q p ≡ c → not (is_lt (nat_cmp p q)) && not (is_lt (nat_cmp q p)) ≡ nat_eq q p
    by true c x y =
        ap (λ o. not (is_lt o) && not (is_lt (nat_cmp q p))) (sym (nat_cmp_is p q Less (less p q x))) ∙ differs p q (less p q x)
    by false true x y =
        (λ i. not (is_lt (sym (nat_cmp_is p q Greater (less q p y)) i)) && not (is_lt (sym (nat_cmp_is q p Less (less q p y)) i))) ∙ differs-2 p q (less q p y)
    by false false x y =
        (λ i. not (is_lt (sym (nat_cmp_is p q Equal (same p q x y)) i)) && not (is_lt (sym (nat_cmp_is q p Equal (sym (same p q x y))) i))) ∙ alike p q (same p q x y)

filter_same : (f g : Child → Bool) → ((c : Child) → f c ≡ g c) → (cs : List Child) → filter f cs ≡ filter g cs
filter_same f g same [] = refl
filter_same f g same (c ∷ cs) = λ i. cond (same c i) (c ∷ filter_same f g same cs i) (filter_same f g same cs i)

-- what a stable sort by the parent keeps
pub sorted_same : (parent : ℕ) (before sorted : List Child)
    → ((x : Child) → filter (λ (c : Child). not (is_lt (nat_cmp x.parent c.parent)) && not (is_lt (nat_cmp c.parent x.parent))) sorted
    ≡ filter (λ (c : Child). not (is_lt (nat_cmp x.parent c.parent)) && not (is_lt (nat_cmp c.parent x.parent))) before)
    → filter (of_parent parent) sorted ≡ filter (of_parent parent) before
sorted_same parent before sorted stable =
    let x : Child = record { parent = parent; id = 0 } in
    filter_same (of_parent parent) (λ (c : Child). not (is_lt (nat_cmp parent c.parent)) && not (is_lt (nat_cmp c.parent parent))) (λ c. sym (ties_same parent c.parent)) sorted
    ∙ stable x
    ∙ filter_same (λ (c : Child). not (is_lt (nat_cmp parent c.parent)) && not (is_lt (nat_cmp c.parent parent))) (of_parent parent) (λ c. ties_same parent c.parent) before

-- ---- by halving

within_take : (P : Child → Type 0) (cs : List Child) (i : ℕ) → ((k : ℕ) (d : Child) → k < i → P (get_or cs k d)) → i ≤ length cs → AllByRecursion P (take i cs)
within_take P [] zero h l = tt
within_take P [] (suc i) h l = absurd (omega arith)
within_take P (c ∷ cs) zero h l = tt
within_take P (c ∷ cs) (suc i) h l = (h 0 c (omega arith), within_take P cs i (λ k d m. h (suc k) d (omega (arith, m))) (omega arith))

within_drop : (P : Child → Type 0) (cs : List Child) (i : ℕ) → ((k : ℕ) (d : Child) → i ≤ k → k < length cs → P (get_or cs k d)) → AllByRecursion P (drop i cs)
within_drop P [] zero h = tt
within_drop P [] (suc i) h = tt
within_drop P (c ∷ cs) zero h =
    (h 0 c (omega arith) (omega arith), within_drop P cs zero (λ k d m n. h (suc k) d (omega arith) (omega (arith, n))))
within_drop P (c ∷ cs) (suc i) h = within_drop P cs i (λ k d m n. h (suc k) d (omega (arith, m)) (omega (arith, n)))

each_take : (P : Child → Type 0) (i : ℕ) (cs : List Child) → AllByRecursion P cs → AllByRecursion P (take i cs)
each_take P zero cs all = tt
each_take P (suc i) [] all = tt
each_take P (suc i) (c ∷ cs) all = (all.0, each_take P i cs all.1)

none_of : (parent : ℕ) (cs : List Child) → AllByRecursion (λ c. nat_eq c.parent parent ≡ false) cs → filter (of_parent parent) cs ≡ []
none_of parent [] all = refl
none_of parent (c ∷ cs) all = (λ i. cond (all.0 i) (c ∷ filter (of_parent parent) cs) (filter (of_parent parent) cs)) ∙ none_of parent cs all.1

all_of : (parent : ℕ) (cs : List Child) → AllByRecursion (λ c. nat_eq c.parent parent ≡ true) cs → filter (of_parent parent) cs ≡ cs
all_of parent [] all = refl
all_of parent (c ∷ cs) all =
    (λ i. cond (all.0 i) (c ∷ filter (of_parent parent) cs) (filter (of_parent parent) cs)) ∙ ap (λ (l : List Child). c ∷ l) (all_of parent cs all.1)

below : (a p : ℕ) → nat_lt a p ≡ true → nat_eq a p ≡ false
below a p e = grind (arith, nat_tests)

above : (a p : ℕ) → nat_le a p ≡ false → nat_eq a p ≡ false
above a p e = grind (arith, nat_tests)

between : (a p : ℕ) → nat_lt a p ≡ false → nat_le a p ≡ true → nat_eq a p ≡ true
between a p e k = grind (arith, nat_tests)

append_nothing : (l : List Child) → l ++ [] ≡ l
append_nothing [] = refl
append_nothing (c ∷ l) = ap (λ (r : List Child). c ∷ r) (append_nothing l)

pub halved : (parent : ℕ) (cs : List Child) (i k : ℕ) → i ≤ length cs → AllWithin (λ (c : Child). nat_lt c.parent parent ≡ true) cs 0 i
    → AllWithin (λ (c : Child). nat_lt c.parent parent ≡ false) cs i (length cs)
    → k ≤ length (drop i cs) → AllWithin (λ (c : Child). nat_le c.parent parent ≡ true) (drop i cs) 0 k
    → AllWithin (λ (c : Child). nat_le c.parent parent ≡ false) (drop i cs) k (length (drop i cs))
    → take k (drop i cs) ≡ filter (of_parent parent) cs
halved parent cs i k l low high m upto behind =
    let rest : List Child = drop i cs in
    let first = none_of parent (take i cs) (each-weaker (λ (c : Child). nat_lt c.parent parent ≡ true) (λ (c : Child). nat_eq c.parent parent ≡ false)
    (λ c e. below c.parent parent e) (take i cs) (within_take (λ (c : Child). nat_lt c.parent parent ≡ true) cs i (λ n d w. low n d (omega arith) w) l)) in
    let last = none_of parent (drop k rest) (each-weaker (λ (c : Child). nat_le c.parent parent ≡ false) (λ (c : Child). nat_eq c.parent parent ≡ false)
    (λ c e. above c.parent parent e) (drop k rest) (within_drop (λ (c : Child). nat_le c.parent parent ≡ false) rest k behind)) in
    let middle = all_of parent (take k rest) (each-weaker (λ (c : Child). (nat_lt c.parent parent ≡ false) × (nat_le c.parent parent ≡ true)) (λ (c : Child). nat_eq c.parent parent ≡ true)
    (λ c e. between c.parent parent e.0 e.1) (take k rest)
    (each-both (λ (c : Child). nat_lt c.parent parent ≡ false) (λ (c : Child). nat_le c.parent parent ≡ true) (take k rest)
    (each_take (λ (c : Child). nat_lt c.parent parent ≡ false) k rest (within_drop (λ (c : Child). nat_lt c.parent parent ≡ false) cs i high))
    (within_take (λ (c : Child). nat_le c.parent parent ≡ true) rest k (λ n d w. upto n d (omega arith) w) m))) in
    sym (ap (filter (of_parent parent)) (sym (take-append-drop i cs)) ∙ filter-append (of_parent parent) (take i cs) rest
    ∙ ap (λ (l : List Child). l ++ filter (of_parent parent) rest) first
    ∙ ap (filter (of_parent parent)) (sym (take-append-drop k rest)) ∙ filter-append (of_parent parent) (take k rest) (drop k rest)
    ∙ (λ j. middle j ++ last j) ∙ append_nothing (take k rest))

pub rises_drop : (cs : List Child) (i : ℕ) → Rises cs → Rises (drop i cs)
rises_drop [] zero rises = rises
rises_drop [] (suc i) rises = rises
rises_drop (c ∷ cs) zero rises = rises
rises_drop (c ∷ cs) (suc i) rises = rises_drop cs i (λ a b d l m. rises (suc a) (suc b) d (omega (arith, l)) (omega (arith, m)))
