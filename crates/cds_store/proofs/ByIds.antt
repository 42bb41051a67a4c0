-- Rows that are changed by their ids, and the ids of places.
use Rattle.std.proofs.Common.{◌≡◌, ◌+◌, ◌<◌, ℕ, Bool, true, false, cond, not, nat_eq, is_some, filter, map, List, [], ◌∷◌, ◌++◌, length, get_or, Option, Some, None, refl, sym, ◌∙◌, ap, subst, true≢false, arith}
use Rattle.std.specs.List.{AllByRecursion}
use Rattle.std.specs.BTreeMap.{is_at}
use Rattle.std.proofs.Math.ListN.{set}
use Rattle.std.proofs.lemmas.Bool.Decides.{nat_tests}
use Rattle.std.proofs.lemmas.List.{map-append}
use Rattle.cds_object.specs.Path.{path_cmp, same_path, parent_of}
use Rattle.cds_object.specs.Object.{ObjectRow, is_folder}
use Rattle.cds_object.specs.Tree.{IdsAscend}
use Rattle.cds_object.specs.declared.content.Content.{Content}
use Rattle.cds_catalog.specs.Catalog.{PlacedRow}
use Rattle.cds_catalog.specs.Steps.{Standing, touched, touch, id_at, child_added, child_modified, child_deleted, modified, new_row, step}
use Rattle.cds_catalog.specs.declared.change.Change.{Change}
use Rattle.cds_catalog.specs.declared.change.Change.TheVariants.{Deletion, Addition, Modification}
use Rattle.cds_catalog.proofs.Paths.{same_path_is, same_path_at, same_path_swap}
use Rattle.cds_catalog.proofs.StepsPaths.{Place}
use Rattle.cds_catalog.proofs.StepsFind.{each-weaker, each-both, each-filter, each-map, map-agree}
use Rattle.cds_store.specs.Rows.{rows_of, HasRoom, KeepsKind, child_event}
use Rattle.cds_store.specs.Found.{HasNone, IsPlaceOf, touched_by_id, id_found, id_or_none, KnowsPlaces, IsOnlyAt, CanFind, KeepsKindById, Puts, Learns}
use Rattle.cds_store.specs.declared.touch.ChildEvent.{ChildEvent}
use Rattle.cds_store.specs.declared.touch.ChildEvent.TheVariants.{Added, Modified, Deleted}
use Rattle.cds_store.proofs.RowsFound.{is_here}

-- ---- one row by its id

pub untouched : (id : ℕ) (f : ObjectRow → ObjectRow) (rows : List PlacedRow) → HasNone id rows → rows ≡ map (touched_by_id id f) rows
untouched id f [] none = refl
untouched id f (p ∷ rows) none = λ i. cond (sym none.0 i) (p.0, f p.1) p ∷ untouched id f rows none.1 i

set_front : (front : List PlacedRow) (here y : PlacedRow) (back : List PlacedRow) → set (front ++ here ∷ back) (length front) y ≡ front ++ y ∷ back
set_front [] here y back = refl
set_front (p ∷ front) here y back = ap (λ (l : List PlacedRow). p ∷ l) (set_front front here y back)

itself : (a b : ℕ) → a ≡ b → nat_eq a b ≡ true
itself a b e = grind (arith, nat_tests)

pub touched_here : (id at : ℕ) (f : ObjectRow → ObjectRow) (rows : List PlacedRow) (x : PlacedRow) → IsPlaceOf id rows at → x ≡ get_or rows at x
    → set rows at (x.0, f x.1) ≡ map (touched_by_id id f) rows
touched_here id at f rows x place is =
    ap (λ (q : PlacedRow). set rows at (q.0, f q.1)) (is_here id at rows x place is)
    ∙ (λ i. set (place.parts i) (sym place.place i) (place.here.0, f place.here.1))
    ∙ set_front place.front place.here (place.here.0, f place.here.1) place.back
    ∙ (λ i. untouched id f place.front place.before i
    ++ cond (sym (itself place.here.1.id id place.is) i) (place.here.0, f place.here.1) place.here ∷ untouched id f place.back place.behind i)
    ∙ sym (ap (map (touched_by_id id f)) place.parts ∙ map-append (touched_by_id id f) place.front (place.here ∷ place.back))

each_placed : (P : PlacedRow → Type 0) (front : List PlacedRow) (here : PlacedRow) (back : List PlacedRow) → AllByRecursion P (front ++ here ∷ back) → P here
each_placed P [] here back all = all.0
each_placed P (p ∷ front) here back all = each_placed P front here back all.1

-- what holds of each row holds of the one that is found
pub holds_here : (P : PlacedRow → Type 0) (id at : ℕ) (rows : List PlacedRow) (x : PlacedRow) → AllByRecursion P rows → IsPlaceOf id rows at → x ≡ get_or rows at x → P x
holds_here P id at rows x all place is =
    subst P (sym (is_here id at rows x place is)) (each_placed P place.front place.here place.back (subst (AllByRecursion P) place.parts all))

pub kind_here : (id at : ℕ) (content : Content) (rows : List PlacedRow) (x : PlacedRow) → AllByRecursion (KeepsKindById id content) rows → IsPlaceOf id rows at
    → x ≡ get_or rows at x → is_folder x.1.content ≡ is_folder content
kind_here id at content rows x all place is =
    holds_here (KeepsKindById id content) id at rows x all place is
    (itself x.1.id id (ap (λ (q : PlacedRow). q.1.id) (is_here id at rows x place is) ∙ place.is))

-- by the id is by the place, where exactly the rows at the place have the id
pub by_place : (path : Place) (id : ℕ) (f : ObjectRow → ObjectRow) (rows : List PlacedRow) → IsOnlyAt path id rows → map (touched_by_id id f) rows ≡ touch path f rows
by_place path id f rows only =
    map-agree (touched_by_id id f) (touched path f) rows
    (each-weaker (λ placed. same_path path placed.0 ≡ nat_eq placed.1.id id) (λ placed. touched_by_id id f placed ≡ touched path f placed)
    (λ placed e. ap (λ (b : Bool). cond b (placed.0, f placed.1) placed) (sym e)) rows only)

pub kinds_by_id : (path : Place) (id : ℕ) (content : Content) (rows : List PlacedRow) → IsOnlyAt path id rows → AllByRecursion (KeepsKind path content) rows
    → AllByRecursion (KeepsKindById id content) rows
kinds_by_id path id content rows only kinds =
    each-weaker (λ placed. (same_path path placed.0 ≡ nat_eq placed.1.id id) × KeepsKind path content placed) (KeepsKindById id content)
    (λ placed h e. h.1 (h.0 ∙ e)) rows
    (each-both (λ placed. same_path path placed.0 ≡ nat_eq placed.1.id id) (KeepsKind path content) rows only kinds)

-- ---- what stays

-- a change of rows that keeps their places and ids
pub record Keeps (g : PlacedRow → PlacedRow) : Type 0 where
  pub place : (placed : PlacedRow) → (g placed).0 ≡ placed.0
  pub id : (placed : PlacedRow) → (g placed).1.id ≡ placed.1.id

pub touched-keeps : (path : Place) (f : ObjectRow → ObjectRow) → ((row : ObjectRow) → (f row).id ≡ row.id) → Keeps (touched path f)
touched-keeps path f same = record {
  place = λ placed. place placed (same_path path placed.0);
  id = λ placed. id placed (same_path path placed.0);
}
  where
    place : (placed : PlacedRow) (b : Bool) → (cond b (placed.0, f placed.1) placed).0 ≡ placed.0
    place placed true = refl
    place placed false = refl

    id : (placed : PlacedRow) (b : Bool) → (cond b (placed.0, f placed.1) placed).1.id ≡ placed.1.id
    id placed true = same placed.1
    id placed false = refl

pub ascend_mapped : (g : PlacedRow → PlacedRow) → Keeps g → (rows : List PlacedRow) → IdsAscend (rows_of rows) → IdsAscend (rows_of (map g rows))
ascend_mapped g keeps [] a = tt
ascend_mapped g keeps (p ∷ []) a = tt
ascend_mapped g keeps (p ∷ q ∷ rows) a = (
  let one = keeps.id p in let two = keeps.id q in let less = a.0 in omega (arith, one, two, less),
  ascend_mapped g keeps (q ∷ rows) a.1,
)

pub only_mapped : (g : PlacedRow → PlacedRow) → Keeps g → (path : Place) (id : ℕ) (rows : List PlacedRow) → IsOnlyAt path id rows → IsOnlyAt path id (map g rows)
only_mapped g keeps path id rows only =
    each-map (λ placed. same_path path placed.0 ≡ nat_eq placed.1.id id) g rows
    (each-weaker (λ placed. same_path path placed.0 ≡ nat_eq placed.1.id id) (λ placed. same_path path (g placed).0 ≡ nat_eq (g placed).1.id id)
    (λ placed e. ap (same_path path) (keeps.place placed) ∙ e ∙ ap (λ n. nat_eq n id) (sym (keeps.id placed))) rows only)

pub by-id-keeps : (id : ℕ) (f : ObjectRow → ObjectRow) → ((row : ObjectRow) → (f row).id ≡ row.id) → Keeps (touched_by_id id f)
by-id-keeps id f same = record {
  place = λ placed. place placed (nat_eq placed.1.id id);
  id = λ placed. own placed (nat_eq placed.1.id id);
}
  where
    place : (placed : PlacedRow) (b : Bool) → (cond b (placed.0, f placed.1) placed).0 ≡ placed.0
    place placed true = refl
    place placed false = refl

    own : (placed : PlacedRow) (b : Bool) → (cond b (placed.0, f placed.1) placed).1.id ≡ placed.1.id
    own placed true = same placed.1
    own placed false = refl

pub ascend_modified : (id number : ℕ) (content : Content) (rows : List PlacedRow) → IdsAscend (rows_of rows) → IdsAscend (rows_of (map (touched_by_id id (modified number content)) rows))
ascend_modified id number content rows a =
    ascend_mapped (touched_by_id id (modified number content)) (by-id-keeps id (modified number content) (λ row. refl)) rows a

pub room_modified : (id number : ℕ) (content : Content) (rows : List PlacedRow) → AllByRecursion (λ (placed : PlacedRow). HasRoom placed.1) rows
    → AllByRecursion (λ (placed : PlacedRow). HasRoom placed.1) (map (touched_by_id id (modified number content)) rows)
room_modified id number content rows room =
    each-map (λ (placed : PlacedRow). HasRoom placed.1) (touched_by_id id (modified number content)) rows
    (each-weaker (λ (placed : PlacedRow). HasRoom placed.1) (λ placed. HasRoom (touched_by_id id (modified number content) placed).1) one rows room)
  where
    one : (placed : PlacedRow) → HasRoom placed.1 → HasRoom (touched_by_id id (modified number content) placed).1
    one placed h = elim (nat_eq placed.1.id id) as (λ b. HasRoom (cond b (placed.0, modified number content placed.1) placed).1) [ true ↦ h | false ↦ h ]

ascend_cons : (p : PlacedRow) (rows : List PlacedRow) → AllByRecursion (λ placed. p.1.id < placed.1.id) rows → IdsAscend (rows_of rows) → IdsAscend (rows_of (p ∷ rows))
ascend_cons p [] above a = tt
ascend_cons p (q ∷ rows) above a = (above.0, a)

ascend_head : (p : PlacedRow) (rows : List PlacedRow) → IdsAscend (rows_of (p ∷ rows)) → AllByRecursion (λ placed. p.1.id < placed.1.id) rows
ascend_head p [] a = tt
ascend_head p (q ∷ rows) a =
    (a.0, each-weaker (λ placed. q.1.id < placed.1.id) (λ placed. p.1.id < placed.1.id) (λ r h. let k = a.0 in omega (arith, h, k)) rows (ascend_head q rows a.1))

ascend_tail : (p : PlacedRow) (rows : List PlacedRow) → IdsAscend (rows_of (p ∷ rows)) → IdsAscend (rows_of rows)
ascend_tail p [] a = tt
ascend_tail p (q ∷ rows) a = a.1

pub ascend_filtered : (test : PlacedRow → Bool) (rows : List PlacedRow) → IdsAscend (rows_of rows) → IdsAscend (rows_of (filter test rows))
ascend_filtered test [] a = tt
ascend_filtered test (p ∷ rows) a =
    by (test p) (ascend_filtered test rows (ascend_tail p rows a)) (each-filter (λ placed. p.1.id < placed.1.id) test rows (ascend_head p rows a))
  where
    by : (b : Bool) → IdsAscend (rows_of (filter test rows)) → AllByRecursion (λ placed. p.1.id < placed.1.id) (filter test rows)
        → IdsAscend (rows_of (cond b (p ∷ filter test rows) (filter test rows)))
    by true r above = ascend_cons p (filter test rows) above r
    by false r above = r

-- ---- the ids of places

pub found_or_none : (path : Place) (rows : List PlacedRow) → id_or_none (id_found path rows) ≡ id_at path rows
found_or_none path [] = refl
found_or_none path (p ∷ rows) = by (same_path path p.0) (found_or_none path rows)
  where
    by : (b : Bool) → id_or_none (id_found path rows) ≡ id_at path rows
        → id_or_none (cond b (Some p.1.id) (id_found path rows)) ≡ cond b p.1.id (id_at path rows)
    by true r = refl
    by false r = r

pub looked_up : (ids : Place → Option ℕ) (path : Place) (rows : List PlacedRow) → KnowsPlaces ids rows → id_or_none (ids path) ≡ id_at path rows
looked_up ids path rows knows = ap id_or_none (knows path) ∙ found_or_none path rows

found_mapped : (g : PlacedRow → PlacedRow) → Keeps g → (path : Place) (rows : List PlacedRow) → id_found path (map g rows) ≡ id_found path rows
found_mapped g keeps path [] = refl
found_mapped g keeps path (p ∷ rows) = λ i. cond (same_path path (keeps.place p i)) (Some (keeps.id p i)) (found_mapped g keeps path rows i)

none_either : (b : Bool) → ◌≡◌ {A = Option ℕ} None (cond b None None)
none_either true = refl
none_either false = refl

found_filtered : (at path : Place) (rows : List PlacedRow) → id_found at (filter (λ placed. not (same_path path placed.0)) rows) ≡ cond (same_path at path) None (id_found at rows)
found_filtered at path [] = none_either (same_path at path)
found_filtered at path (p ∷ rows) = by (same_path path p.0) (same_path at p.0) (same_path at path) refl refl refl (found_filtered at path rows)
  where
    by : (a b c : Bool) → same_path path p.0 ≡ a → same_path at p.0 ≡ b → same_path at path ≡ c
        → id_found at (filter (λ placed. not (same_path path placed.0)) rows) ≡ cond c None (id_found at rows)
        → id_found at (cond (not a) (p ∷ filter (λ placed. not (same_path path placed.0)) rows) (filter (λ placed. not (same_path path placed.0)) rows))
        ≡ cond c None (cond b (Some p.1.id) (id_found at rows))
    by true b true x y z r = r
    by true true false x y z r =
        absurd (true≢false (sym (ap (same_path at) (same_path_is path p.0 x) ∙ y) ∙ z))
    by true false false x y z r = r
    by false true true x y z r =
        absurd (true≢false (sym (ap (λ q. same_path q p.0) (sym (same_path_is at path z)) ∙ y) ∙ x))
    by false true false x y z r = ap (λ (b : Bool). cond b (Some p.1.id) (id_found at (filter (λ placed. not (same_path path placed.0)) rows))) y
    by false false c x y z r = ap (λ (b : Bool). cond b (Some p.1.id) (id_found at (filter (λ placed. not (same_path path placed.0)) rows))) y ∙ r

abbrev or_found : Option ℕ → Option ℕ → Option ℕ
or_found None other = other
or_found (Some id) other = Some id

found_append : (at : Place) (rows : List PlacedRow) (p : PlacedRow) → id_found at (rows ++ p ∷ []) ≡ or_found (id_found at rows) (cond (same_path at p.0) (Some p.1.id) None)
found_append at [] p = refl
found_append at (q ∷ rows) p = by (same_path at q.0) (found_append at rows p)
  where
    by : (b : Bool) → id_found at (rows ++ p ∷ []) ≡ or_found (id_found at rows) (cond (same_path at p.0) (Some p.1.id) None)
        → cond b (Some q.1.id) (id_found at (rows ++ p ∷ [])) ≡ or_found (cond b (Some q.1.id) (id_found at rows)) (cond (same_path at p.0) (Some p.1.id) None)
    by true r = refl
    by false r = r

-- ---- while rows are gone through

pub knows_more : (before now : Place → Option ℕ) (x : PlacedRow) (rows : List PlacedRow) → KnowsPlaces before rows → Puts before now x → KnowsPlaces now (x ∷ rows)
knows_more before now x rows knows puts = λ at. puts at ∙ ap (cond (same_path at x.0) (Some x.1.id)) (knows at)

pub row_put : (before now : Place → Option ℕ) (k : Place) (x : PlacedRow) (id : ℕ) → k ≡ x.0 → id ≡ x.1.id
    → ((at : Place) → now at ≡ cond (is_at (path_cmp k) at) (Some id) (before at)) → Puts before now x
row_put before now k x id is same updates = λ at.
    updates at ∙ ap (λ (b : Bool). cond b (Some id) (before at)) (sym (same_path_at k at) ∙ same_path_swap k at ∙ ap (same_path at) is)
    ∙ ap (λ n. cond (same_path at x.0) (Some n) (before at)) same

-- ---- what a change does to them

-- a place that was put in, and one that was taken out
pub put_at : (before now : Place → Option ℕ) (k path : Place) (next : ℕ) → k ≡ path
    → ((at : Place) → now at ≡ cond (is_at (path_cmp k) at) (Some next) (before at)) → (at : Place) → now at ≡ cond (same_path at path) (Some next) (before at)
put_at before now k path next is updates at =
    updates at ∙ ap (λ (b : Bool). cond b (Some next) (before at)) (sym (same_path_at k at) ∙ same_path_swap k at ∙ ap (same_path at) is)

pub taken_at : (before now : Place → Option ℕ) (path : Place)
    → ((at : Place) → now at ≡ cond (is_at (path_cmp path) at) None (before at)) → (at : Place) → now at ≡ cond (same_path at path) None (before at)
taken_at before now path updates at =
    updates at ∙ ap (λ (b : Bool). cond b None (before at)) (sym (same_path_at path at) ∙ same_path_swap path at)

pub knows_next : (s : Standing) (before now : Place → Option ℕ) (change : Change) (next : ℕ) → next ≡ s.drawn + 1 → CanFind s change → KnowsPlaces before s.rows
    → Learns before now change next → KnowsPlaces now (step s change).rows
knows_next s before now (Deletion path) next is can knows learns = λ at.
    learns at ∙ ap (cond (same_path at path) None) (knows at) ∙ sym (found_filtered at path s.rows)
    ∙ sym (found_mapped (touched (parent_of path) (child_deleted (s.number + 1))) (touched-keeps (parent_of path) (child_deleted (s.number + 1)) (λ row. refl)) at
    (filter (λ placed. not (same_path path placed.0)) s.rows))
knows_next s before now (Addition path content) next is can knows learns = λ at.
    learns at ∙ ap (cond (same_path at path) (Some next)) (knows at) ∙ by at (same_path at path) refl (id_found at s.rows) refl
    ∙ ap (λ n. or_found (id_found at s.rows) (cond (same_path at path) (Some n) None)) is
    ∙ ap (λ o. or_found o (cond (same_path at path) (Some (s.drawn + 1)) None))
    (sym (found_mapped (touched (parent_of path) (child_added (s.number + 1))) (touched-keeps (parent_of path) (child_added (s.number + 1)) (λ row. refl)) at s.rows))
    ∙ sym (found_append at (touch (parent_of path) (child_added (s.number + 1)) s.rows) (path, new_row (s.drawn + 1) (id_at (parent_of path) s.rows) (s.number + 1) content))
  where
    by : (at : Place) (b : Bool) → same_path at path ≡ b → (o : Option ℕ) → id_found at s.rows ≡ o
        → cond b (Some next) (id_found at s.rows) ≡ or_found (id_found at s.rows) (cond b (Some next) None)
    by at true e None h = sym (ap (λ o. or_found o (Some next)) h)
    by at true e (Some id) h = absurd (true≢false (ap is_some (sym h ∙ ap (λ q. id_found q s.rows) (same_path_is at path e) ∙ can.own)))
    by at false e None h = h ∙ sym (ap (λ o. or_found o None) h)
    by at false e (Some id) h = h ∙ sym (ap (λ o. or_found o None) h)
knows_next s before now (Modification path content) next is can knows learns = λ at.
    learns at ∙ knows at
    ∙ sym (found_mapped (touched path (modified (s.number + 1) content)) (touched-keeps path (modified (s.number + 1) content) (λ row. refl)) at s.rows)
    ∙ sym (found_mapped (touched (parent_of path) (child_modified (s.number + 1))) (touched-keeps (parent_of path) (child_modified (s.number + 1)) (λ row. refl)) at
    (touch path (modified (s.number + 1) content) s.rows))

pub event-keeps : (event : ChildEvent) (number : ℕ) (row : ObjectRow) → (child_event event number row).id ≡ row.id
event-keeps Added number row = refl
event-keeps Modified number row = refl
event-keeps Deleted number row = refl
