-- Rows and children of which some go by their ids.
use Rattle.std.proofs.Common.{◌≡◌, ◌+◌, ◌≤◌, ◌||◌, ℕ, Bool, true, false, cond, not, nat_eq, filter, map, List, [], ◌∷◌, ◌++◌, Option, Some, None, refl, sym, ◌∙◌, ap, subst, true≢false, arith}
use Rattle.std.specs.List.{AllByRecursion, filter_map, cons_option}
use Rattle.std.specs.Option.{option_map}
use Rattle.std.proofs.lemmas.Bool.Decides.{nat_tests}
use Rattle.std.proofs.lemmas.List.Elements.{filter-append}
use Rattle.cds_object.specs.Path.{same_path, parent_of}
use Rattle.cds_object.specs.Object.{ObjectRow}
use Rattle.cds_catalog.specs.Catalog.{PlacedRow}
use Rattle.cds_catalog.specs.History.{place_of, is_addition, is_deletion}
use Rattle.cds_catalog.specs.Steps.{Standing, touched, touch, id_at, child_added, child_modified, child_deleted, modified, new_row, step}
use Rattle.cds_catalog.specs.declared.change.Change.{Change}
use Rattle.cds_catalog.specs.declared.change.Change.TheVariants.{Deletion, Addition, Modification}
use Rattle.cds_catalog.proofs.StepsPaths.{Place}
use Rattle.cds_catalog.proofs.StepsFind.{each-filter}
use Rattle.cds_store.specs.Found.{touched_by_id, IsOnlyAt, CanFind}
use Rattle.cds_store.specs.Offspring.{child_of}
use Rattle.cds_store.specs.Resolved.{IsResolved, drawn_after, rows_by_ids, staying, children_staying}
use Rattle.cds_store.specs.Rows.{child_event}
use Rattle.cds_store.specs.declared.offspring.Child.{Child}
use Rattle.cds_store.specs.declared.resolving.Resolved.{Resolved}
use Rattle.cds_store.specs.declared.touch.ChildEvent.TheVariants.{Modified}
use Rattle.cds_store.proofs.ByIds.{Keeps, touched-keeps, by_place, only_mapped}

-- ---- rows that go

pub staying_mapped : (goes : ℕ → Bool) (g : PlacedRow → PlacedRow) → Keeps g → (rows : List PlacedRow) → staying goes (map g rows) ≡ map g (staying goes rows)
staying_mapped goes g keeps [] = refl
staying_mapped goes g keeps (p ∷ rows) =
    (λ i. cond (not (goes (keeps.id p i))) (g p ∷ staying_mapped goes g keeps rows i) (staying_mapped goes g keeps rows i))
    ∙ by (not (goes p.1.id))
  where
    by : (b : Bool) → cond b (g p ∷ map g (staying goes rows)) (map g (staying goes rows)) ≡ map g (cond b (p ∷ staying goes rows) (staying goes rows))
    by true = refl
    by false = refl

-- the rows at the place of an id that goes need not be removed before
pub staying_removed : (goes : ℕ → Bool) (own : ℕ) (path : Place) (rows : List PlacedRow) → IsOnlyAt path own rows → goes own ≡ true
    → staying goes (filter (λ placed. not (same_path path placed.0)) rows) ≡ staying goes rows
staying_removed goes own path [] only went = refl
staying_removed goes own path (p ∷ rows) only went =
    by (same_path path p.0) (nat_eq p.1.id own) (goes p.1.id) refl refl refl (staying_removed goes own path rows only.1 went)
  where
    same : (a b : ℕ) → nat_eq a b ≡ true → a ≡ b
    same a b e = grind (arith, nat_tests)

    by : (a b c : Bool) → same_path path p.0 ≡ a → nat_eq p.1.id own ≡ b → goes p.1.id ≡ c
        → staying goes (filter (λ placed. not (same_path path placed.0)) rows) ≡ staying goes rows
        → staying goes (cond (not a) (p ∷ filter (λ placed. not (same_path path placed.0)) rows) (filter (λ placed. not (same_path path placed.0)) rows))
        ≡ cond (not c) (p ∷ staying goes rows) (staying goes rows)
    by true b true x y z r = r
    by true true false x y z r = absurd (true≢false (sym went ∙ ap goes (sym (same p.1.id own y)) ∙ z))
    by true false false x y z r = absurd (true≢false (sym x ∙ only.0 ∙ y))
    by false b c x y z r =
        (λ i. cond (not (z i)) (p ∷ r i) (r i))

-- one change by ids where some have gone already
pub made_staying : (t : Standing) (goes : ℕ → Bool) (r : Resolved) → CanFind t r.change → IsResolved goes t r → (is_addition r.change ≡ true → goes (t.drawn + 1) ≡ false)
    → rows_by_ids (t.number + 1) (drawn_after t.drawn r.change) r.change r.own r.parent (staying goes t.rows) ≡ staying goes (step t r.change).rows
made_staying t goes r can is fresh = by r.change r.own r.parent can is.own is.parent is.leaves fresh
  where
    stays : (path : Place) (id : ℕ) → IsOnlyAt path id t.rows → IsOnlyAt path id (staying goes t.rows)
    stays path id only = each-filter (λ placed. same_path path placed.0 ≡ nat_eq placed.1.id id) (λ placed. not (goes placed.1.id)) t.rows only

    by : (change : Change) (own parent : ℕ) → CanFind t change → own ≡ id_at (place_of change) t.rows → parent ≡ id_at (parent_of (place_of change)) t.rows
        → (is_deletion change ≡ true → goes own ≡ true) → (is_addition change ≡ true → goes (t.drawn + 1) ≡ false)
        → rows_by_ids (t.number + 1) (drawn_after t.drawn change) change own parent (staying goes t.rows) ≡ staying goes (step t change).rows
    by (Deletion path) own parent can o q goes_own fresh =
        let only : IsOnlyAt (parent_of path) parent t.rows = subst (λ n. IsOnlyAt (parent_of path) n t.rows) (sym q) can.parent in
        let here : IsOnlyAt path own t.rows = subst (λ n. IsOnlyAt path n t.rows) (sym o) can.own in
        by_place (parent_of path) parent (child_deleted (t.number + 1)) (staying goes t.rows) (stays (parent_of path) parent only)
        ∙ ap (touch (parent_of path) (child_deleted (t.number + 1))) (sym (staying_removed goes own path t.rows here (goes_own refl)))
        ∙ sym (staying_mapped goes (touched (parent_of path) (child_deleted (t.number + 1)))
        (touched-keeps (parent_of path) (child_deleted (t.number + 1)) (λ row. refl)) (filter (λ placed. not (same_path path placed.0)) t.rows))
    by (Addition path content) own parent can o q goes_own fresh =
        let only : IsOnlyAt (parent_of path) parent t.rows = subst (λ n. IsOnlyAt (parent_of path) n t.rows) (sym q) can.parent in
        let row : PlacedRow = (path, new_row (t.drawn + 1) (id_at (parent_of path) t.rows) (t.number + 1) content) in
        (λ i. by_place (parent_of path) parent (child_added (t.number + 1)) (staying goes t.rows) (stays (parent_of path) parent only) i
        ++ (path, new_row (t.drawn + 1) (q i) (t.number + 1) content) ∷ [])
        ∙ ap (λ (l : List PlacedRow). l ++ row ∷ [])
        (sym (staying_mapped goes (touched (parent_of path) (child_added (t.number + 1))) (touched-keeps (parent_of path) (child_added (t.number + 1)) (λ row. refl)) t.rows))
        ∙ ap (λ (b : Bool). staying goes (touch (parent_of path) (child_added (t.number + 1)) t.rows) ++ cond (not b) (row ∷ []) []) (sym (fresh refl))
        ∙ sym (filter-append (λ placed. not (goes placed.1.id)) (touch (parent_of path) (child_added (t.number + 1)) t.rows) (row ∷ []))
    by (Modification path content) own parent can o q goes_own fresh =
        let only : IsOnlyAt (parent_of path) parent t.rows = subst (λ n. IsOnlyAt (parent_of path) n t.rows) (sym q) can.parent in
        let here : IsOnlyAt path own t.rows = subst (λ n. IsOnlyAt path n t.rows) (sym o) can.own in
        let keeps = touched-keeps path (modified (t.number + 1) content) (λ row. refl) in
        ap (map (touched_by_id parent (child_event Modified (t.number + 1))))
        (by_place path own (modified (t.number + 1) content) (staying goes t.rows) (stays path own here)
        ∙ sym (staying_mapped goes (touched path (modified (t.number + 1) content)) keeps t.rows))
        ∙ by_place (parent_of path) parent (child_modified (t.number + 1)) (staying goes (touch path (modified (t.number + 1) content) t.rows))
        (each-filter (λ placed. same_path (parent_of path) placed.0 ≡ nat_eq placed.1.id parent) (λ placed. not (goes placed.1.id)) (touch path (modified (t.number + 1) content) t.rows)
        (only_mapped (touched path (modified (t.number + 1) content)) keeps (parent_of path) parent t.rows only))
        ∙ sym (staying_mapped goes (touched (parent_of path) (child_modified (t.number + 1)))
        (touched-keeps (parent_of path) (child_modified (t.number + 1)) (λ row. refl)) (touch path (modified (t.number + 1) content) t.rows))

-- ---- children that go

-- a change of rows that keeps the children that they are
pub record KeepsChild (g : PlacedRow → PlacedRow) : Type 0 where
  pub child : (placed : PlacedRow) → child_of (g placed) ≡ child_of placed

pub touched-keeps-child : (path : Place) (f : ObjectRow → ObjectRow) → ((row : ObjectRow) → (f row).id ≡ row.id) → ((row : ObjectRow) → (f row).parent ≡ row.parent) → KeepsChild (touched path f)
touched-keeps-child path f same parent = record { child = λ placed. by placed (same_path path placed.0) }
  where
    by : (placed : PlacedRow) (b : Bool) → child_of (cond b (placed.0, f placed.1) placed) ≡ child_of placed
    by placed true = λ i. option_map (λ q. record { parent = q; id = same placed.1 i }) (parent placed.1 i)
    by placed false = refl

pub children_mapped : (g : PlacedRow → PlacedRow) → KeepsChild g → (rows : List PlacedRow) → filter_map child_of (map g rows) ≡ filter_map child_of rows
children_mapped g keeps [] = refl
children_mapped g keeps (p ∷ rows) = λ i. cons_option (keeps.child p i) (children_mapped g keeps rows i)

-- the children without the one of an id, by rows without those at its place
pub children_removed : (own : ℕ) (path : Place) (rows : List PlacedRow) → IsOnlyAt path own rows
    → filter (λ (c : Child). not (nat_eq c.id own)) (filter_map child_of rows) ≡ filter_map child_of (filter (λ placed. not (same_path path placed.0)) rows)
children_removed own path [] only = refl
children_removed own path (p ∷ rows) only =
    by p.1.parent (nat_eq p.1.id own) refl (children_removed own path rows only.1)
    ∙ split (nat_eq p.1.id own)
    ∙ ap (λ (b : Bool). filter_map child_of (cond (not b) (p ∷ filter (λ placed. not (same_path path placed.0)) rows) (filter (λ placed. not (same_path path placed.0)) rows)))
    (sym only.0)
  where
    by : (o : Option ℕ) (b : Bool) → nat_eq p.1.id own ≡ b
        → filter (λ (c : Child). not (nat_eq c.id own)) (filter_map child_of rows) ≡ filter_map child_of (filter (λ placed. not (same_path path placed.0)) rows)
        → filter (λ (c : Child). not (nat_eq c.id own)) (cons_option (option_map (λ q. record { parent = q; id = p.1.id }) o) (filter_map child_of rows))
        ≡ cond (not b) (cons_option (option_map (λ q. record { parent = q; id = p.1.id }) o) (filter_map child_of (filter (λ placed. not (same_path path placed.0)) rows)))
        (filter_map child_of (filter (λ placed. not (same_path path placed.0)) rows))
    by None true e r = r
    by None false e r = r
    by (Some q) b e r = λ i. cond (not (e i)) (record { parent = q; id = p.1.id } ∷ r i) (r i)

    split : (b : Bool) → cond (not b) (cons_option (child_of p) (filter_map child_of (filter (λ placed. not (same_path path placed.0)) rows)))
        (filter_map child_of (filter (λ placed. not (same_path path placed.0)) rows))
        ≡ filter_map child_of (cond (not b) (p ∷ filter (λ placed. not (same_path path placed.0)) rows) (filter (λ placed. not (same_path path placed.0)) rows))
    split true = refl
    split false = refl

-- ---- what is known of the rows that are left

-- ids that go leave no row that has one
pub left_removed : (goes : ℕ → Bool) (own : ℕ) (path : Place) (rows : List PlacedRow) → IsOnlyAt path own rows → AllByRecursion (λ (placed : PlacedRow). goes placed.1.id ≡ false) rows
    → AllByRecursion (λ (placed : PlacedRow). nat_eq placed.1.id own || goes placed.1.id ≡ false) (filter (λ placed. not (same_path path placed.0)) rows)
left_removed goes own path [] only left = tt
left_removed goes own path (p ∷ rows) only left =
    by (same_path path p.0) refl (left_removed goes own path rows only.1 left.1)
  where
    by : (b : Bool) → same_path path p.0 ≡ b
        → AllByRecursion (λ (placed : PlacedRow). nat_eq placed.1.id own || goes placed.1.id ≡ false) (filter (λ placed. not (same_path path placed.0)) rows)
        → AllByRecursion (λ (placed : PlacedRow). nat_eq placed.1.id own || goes placed.1.id ≡ false)
        (cond (not b) (p ∷ filter (λ placed. not (same_path path placed.0)) rows) (filter (λ placed. not (same_path path placed.0)) rows))
    by true e r = r
    by false e r = (ap (λ (b : Bool). b || goes p.1.id) (sym only.0 ∙ e) ∙ left.0, r)

pub left_mapped : (goes : ℕ → Bool) (g : PlacedRow → PlacedRow) → Keeps g → (rows : List PlacedRow) → AllByRecursion (λ (placed : PlacedRow). goes placed.1.id ≡ false) rows
    → AllByRecursion (λ (placed : PlacedRow). goes placed.1.id ≡ false) (map g rows)
left_mapped goes g keeps [] left = tt
left_mapped goes g keeps (p ∷ rows) left = (ap goes (keeps.id p) ∙ left.0, left_mapped goes g keeps rows left.1)

-- where no row has an id that goes, all stay
pub all_stay : (goes : ℕ → Bool) (rows : List PlacedRow) → AllByRecursion (λ (placed : PlacedRow). goes placed.1.id ≡ false) rows → staying goes rows ≡ rows
all_stay goes [] left = refl
all_stay goes (p ∷ rows) left = λ i. cond (not (left.0 i)) (p ∷ all_stay goes rows left.1 i) (all_stay goes rows left.1 i)

-- an id that is looked up was drawn
pub id_at_drawn : (path : Place) (drawn : ℕ) (rows : List PlacedRow) → AllByRecursion (λ (placed : PlacedRow). placed.1.id ≤ drawn) rows → id_at path rows ≤ drawn
id_at_drawn path drawn [] low = omega arith
id_at_drawn path drawn (p ∷ rows) low = by (same_path path p.0) (id_at_drawn path drawn rows low.1)
  where
    by : (b : Bool) → id_at path rows ≤ drawn → cond b p.1.id (id_at path rows) ≤ drawn
    by true r = low.0
    by false r = r

-- the children that stay where one more goes
pub children_staying_more : (own : ℕ) (goes : ℕ → Bool) (children : List Child)
    → children_staying (λ id. nat_eq id own || goes id) children ≡ filter (λ (c : Child). not (nat_eq c.id own)) (children_staying goes children)
children_staying_more own goes [] = refl
children_staying_more own goes (c ∷ children) = by (nat_eq c.id own) (goes c.id) refl (children_staying_more own goes children)
  where
    by : (a b : Bool) → nat_eq c.id own ≡ a
        → children_staying (λ id. nat_eq id own || goes id) children ≡ filter (λ (c : Child). not (nat_eq c.id own)) (children_staying goes children)
        → cond (not (a || b)) (c ∷ children_staying (λ id. nat_eq id own || goes id) children) (children_staying (λ id. nat_eq id own || goes id) children)
        ≡ filter (λ (c : Child). not (nat_eq c.id own)) (cond (not b) (c ∷ children_staying goes children) (children_staying goes children))
    by true true e r = r
    by true false e r = r ∙ (λ i. cond (not (sym e i)) (c ∷ filter (λ (c : Child). not (nat_eq c.id own)) (children_staying goes children)) (filter (λ (c : Child). not (nat_eq c.id own)) (children_staying goes children)))
    by false true e r = r
    by false false e r = ap (λ (l : List Child). c ∷ l) r
        ∙ (λ i. cond (not (sym e i)) (c ∷ filter (λ (c : Child). not (nat_eq c.id own)) (children_staying goes children)) (filter (λ (c : Child). not (nat_eq c.id own)) (children_staying goes children)))
