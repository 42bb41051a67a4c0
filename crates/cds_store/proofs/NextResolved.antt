-- What is known of a scan's changes while they are resolved one by one.
use Rattle.std.proofs.Common.{◌≡◌, ◌+◌, ◌<◌, ◌≤◌, ◌^◌, ◌&&◌, ◌||◌, ℕ, Bool, true, false, cond, not, nat_eq, nat_cmp, filter, List, [], ◌∷◌, ◌++◌, reverse, Option, Some, None, refl, sym, ◌∙◌, ap, subst, true≢false, append_assoc, arith}
use Rattle.std.specs.List.{AllByRecursion, filter_map}
use Rattle.std.specs.BTreeSet.{contains, IsEmpty}
use Rattle.std.proofs.lemmas.Bool.{false_from_ne_true}
use Rattle.std.proofs.lemmas.Bool.Decides.{nat_tests}
use Rattle.std.proofs.lemmas.List.{map-append, reverse-append}
use Rattle.std.proofs.lemmas.List.Elements.{filter-append, filter_map-append}
use Rattle.std.specs.declared.cmp.Ordering.TheVariants.{Less}
use Rattle.cds_object.specs.Path.{path_cmp, same_path, parent_of}
use Rattle.cds_catalog.specs.Catalog.{PlacedRow}
use Rattle.cds_catalog.specs.History.{latest, place_of, is_addition, is_deletion}
use Rattle.cds_catalog.specs.Steps.{Standing, touched, touch, id_at, child_added, child_modified, child_deleted, modified, new_row, step, stepped}
use Rattle.cds_catalog.specs.declared.change.Change.{Change}
use Rattle.cds_catalog.specs.declared.change.Change.TheVariants.{Deletion, Addition, Modification}
use Rattle.cds_catalog.proofs.Maps.{latest_is_library}
use Rattle.cds_catalog.proofs.StepsPaths.{Place}
use Rattle.cds_catalog.proofs.StepsFind.{each-append, each-weaker, each-all}
use Rattle.cds_changes.specs.declared.event_with_parent.EventWithParent.{EventWithParent}
use Rattle.cds_changes.specs.Subtrees.{Follows, InOrder}
use Rattle.cds_changes.proofs.Orderly.{found-orderly}
use Rattle.cds_changes.proofs.Marks.{order-behind}
use Rattle.cds_store.specs.ChangeEvents.{changes_in, event_by, event_with, events_by, events_with, done_by, done_with, all_events_by}
use Rattle.cds_store.specs.Found.{IsOnlyAt, KnowsPlaces, CanFind}
use Rattle.cds_store.specs.Offspring.{child_of}
use Rattle.cds_store.specs.Resolution.{Takes, IsResolutionOf}
use Rattle.cds_store.specs.Resolved.{ids_by, changes_resolved, IsResolved, AreResolved, goes_after, come_after, drawn_after, children_staying}
use Rattle.cds_store.specs.Stands.{IsScan}
use Rattle.cds_store.specs.declared.offspring.Child.{Child}
use Rattle.cds_store.specs.declared.resolving.Resolution.{Resolution}
use Rattle.cds_store.specs.declared.resolving.Resolved.{Resolved}
use Rattle.cds_store.specs.declared.subtrees.MarkedChange.{MarkedChange}
use Rattle.cds_store.proofs.ByIds.{touched-keeps, looked_up, knows_next}
use Rattle.cds_store.proofs.Finding.{can-find-marked}
use Rattle.cds_store.proofs.Making.{reversed_parts}
use Rattle.cds_store.proofs.MakingAll.{can-make-marked_change}
use Rattle.cds_store.proofs.Staying.{KeepsChild, touched-keeps-child, children_mapped, children_removed, left_removed, left_mapped, id_at_drawn, children_staying_more}

-- ---- how many ids are drawn

pub drawn_step : (s : Standing) (change : Change) → (step s change).drawn ≡ drawn_after s.drawn change
drawn_step s (Deletion path) = omega arith
drawn_step s (Addition path content) = refl
drawn_step s (Modification path content) = omega arith

drawn_more : (drawn : ℕ) (change : Change) → drawn ≤ drawn_after drawn change
drawn_more drawn (Deletion path) = omega arith
drawn_more drawn (Addition path content) = omega arith
drawn_more drawn (Modification path content) = omega arith

pub drawn_rises : (s : Standing) (changes : List Change) → s.drawn ≤ (stepped s changes).drawn
drawn_rises s [] = omega arith
drawn_rises s (change ∷ older) =
    let now = drawn_step (stepped s older) change in
    let more = drawn_more (stepped s older).drawn change in
    let before = drawn_rises s older in
    omega (arith, now, more, before)

pub drawn_rises_more : (s : Standing) (later older : List Change) → (stepped s older).drawn ≤ (stepped s (later ++ older)).drawn
drawn_rises_more s [] older = omega arith
drawn_rises_more s (change ∷ later) older =
    let now = drawn_step (stepped s (later ++ older)) change in
    let more = drawn_more (stepped s (later ++ older)).drawn change in
    let before = drawn_rises_more s later older in
    omega (arith, now, more, before)

none_drawn : (s : Standing) (older : List Change) → AllByRecursion (λ change. is_deletion change ≡ true) older → (stepped s older).drawn ≡ s.drawn
none_drawn s [] all = refl
none_drawn s (change ∷ older) all = by change all.0 (none_drawn s older all.1)
  where
    by : (c : Change) → is_deletion c ≡ true → (stepped s older).drawn ≡ s.drawn → (step (stepped s older) c).drawn ≡ s.drawn
    by (Deletion at) d r = r
    by (Addition at content) d r = absurd (true≢false (sym d))
    by (Modification at content) d r = absurd (true≢false (sym d))

-- deletions come first in a scan, so before one no id is drawn
pub deletions_first : (s : Standing) (changes : List Change) → IsScan s changes → (later older : List Change) (change : Change) → changes ≡ later ++ change ∷ older
    → is_deletion change ≡ true → (stepped s older).drawn ≡ s.drawn
deletions_first s changes scan later older change parted deletes =
    let orderly = found-orderly (latest scan.history.maps) scan.library (latest_is_library scan.history.maps scan.stands.0) scan.is_library in
    let order : InOrder (change ∷ older) = order-behind later (change ∷ older) (subst InOrder (sym scan.made ∙ parted) orderly.in_order) in
    by change deletes order.1
  where
    by : (c : Change) → is_deletion c ≡ true → Follows c older → (stepped s older).drawn ≡ s.drawn
    by (Deletion path) d f =
        none_drawn s older
        (each-weaker (λ change. (is_deletion change ≡ true) × (path_cmp path (place_of change) ≡ Less)) (λ change. is_deletion change ≡ true) (λ change h. h.0) older f)
    by (Addition at content) d f = absurd (true≢false (sym d))
    by (Modification at content) d f = absurd (true≢false (sym d))

-- ---- one change more

pub number_step : (s : Standing) (change : Change) → (step s change).number ≡ s.number + 1
number_step s (Deletion path) = refl
number_step s (Addition path content) = refl
number_step s (Modification path content) = refl

event_told : (t : Standing) (change : Change) (st : Bool)
    → event_with (t.number + 1) (t.drawn + 1) (id_at (place_of change) t.rows) (id_at (parent_of (place_of change)) t.rows) change st ≡ event_by t change st
event_told t (Deletion path) st = refl
event_told t (Addition path content) st = refl
event_told t (Modification path content) st = refl

done_told : (t : Standing) (head : Option Place) → done_with (λ path. id_at path t.rows) t.number head ≡ done_by t head
done_told t None = refl
done_told t (Some head) = refl

events_told : (t : Standing) (p : MarkedChange) → events_with (λ path. id_at path t.rows) t.number t.drawn p ≡ events_by t p
events_told t p = λ i. record { event = event_told t p.change p.st i; parent = Some (id_at (parent_of (place_of p.change)) t.rows) } ∷ done_told t p.done i

-- ids stay resolved where more go
more_go : (goes now : ℕ → Bool) (s : Standing) (resolved : List Resolved) → ((id : ℕ) → goes id ≡ true → now id ≡ true) → AreResolved goes s resolved → AreResolved now s resolved
more_go goes now s [] more are = tt
more_go goes now s (r ∷ older) more are =
    (more_go goes now s older more are.0, record { own = are.1.own; parent = are.1.parent; leaves = λ deletes. more r.own (are.1.leaves deletes) })

or_true : (a b : Bool) → b ≡ true → a || b ≡ true
or_true true b e = refl
or_true false b e = e

or_nothing : (b : Bool) → b || false ≡ b
or_nothing true = refl
or_nothing false = refl

itself : (n : ℕ) → nat_eq n n ≡ true
itself n = grind (arith, nat_tests)

same : (a b : ℕ) → nat_eq a b ≡ true → a ≡ b
same a b e = grind (arith, nat_tests)

event_keeps_child : (path : Place) (number : ℕ) → KeepsChild (touched path (child_deleted number)) × KeepsChild (touched path (child_added number)) × KeepsChild (touched path (child_modified number))
event_keeps_child path number = (
  touched-keeps-child path (child_deleted number) (λ row. refl) (λ row. refl),
  touched-keeps-child path (child_added number) (λ row. refl) (λ row. refl),
  touched-keeps-child path (child_modified number) (λ row. refl) (λ row. refl),
)

append_none : (l : List Child) → l ++ [] ≡ l
append_none [] = refl
append_none (c ∷ l) = ap (λ (r : List Child). c ∷ r) (append_none l)

-- the rows that are left after one more change have no id that goes
left_next : (t : Standing) (goes : ℕ → Bool) (change : Change) (own : ℕ) → CanFind t change → own ≡ id_at (place_of change) t.rows
    → (is_addition change ≡ true → goes (t.drawn + 1) ≡ false) → AllByRecursion (λ (placed : PlacedRow). goes placed.1.id ≡ false) t.rows
    → AllByRecursion (λ (placed : PlacedRow). goes_after change own goes placed.1.id ≡ false) (step t change).rows
left_next t goes (Deletion path) own can o fresh left =
    left_mapped (λ id. nat_eq id own || goes id) (touched (parent_of path) (child_deleted (t.number + 1)))
    (touched-keeps (parent_of path) (child_deleted (t.number + 1)) (λ row. refl)) (filter (λ placed. not (same_path path placed.0)) t.rows)
    (left_removed goes own path t.rows (subst (λ n. IsOnlyAt path n t.rows) (sym o) can.own) left)
left_next t goes (Addition path content) own can o fresh left =
    each-append (λ (placed : PlacedRow). goes placed.1.id ≡ false) (touch (parent_of path) (child_added (t.number + 1)) t.rows)
    ((path, new_row (t.drawn + 1) (id_at (parent_of path) t.rows) (t.number + 1) content) ∷ [])
    (left_mapped goes (touched (parent_of path) (child_added (t.number + 1))) (touched-keeps (parent_of path) (child_added (t.number + 1)) (λ row. refl)) t.rows left)
    (fresh refl, tt)
left_next t goes (Modification path content) own can o fresh left =
    left_mapped goes (touched (parent_of path) (child_modified (t.number + 1))) (touched-keeps (parent_of path) (child_modified (t.number + 1)) (λ row. refl))
    (touch path (modified (t.number + 1) content) t.rows)
    (left_mapped goes (touched path (modified (t.number + 1) content)) (touched-keeps path (modified (t.number + 1) content) (λ row. refl)) t.rows left)

-- the children that stay are those by rows after one more change
children_next : (t : Standing) (goes : ℕ → Bool) (change : Change) (own : ℕ) (first come : List Child) → CanFind t change → own ≡ id_at (place_of change) t.rows
    → (is_addition change ≡ true → goes (t.drawn + 1) ≡ false) → children_staying goes (first ++ come) ≡ filter_map child_of t.rows
    → children_staying (goes_after change own goes) (first ++ come_after change (t.drawn + 1) (id_at (parent_of (place_of change)) t.rows) come) ≡ filter_map child_of (step t change).rows
children_next t goes (Deletion path) own first come can o fresh so_far =
    ap (λ (l : List Child). children_staying (λ id. nat_eq id own || goes id) (first ++ l)) (append_none come)
    ∙ children_staying_more own goes (first ++ come)
    ∙ ap (filter (λ (c : Child). not (nat_eq c.id own))) so_far
    ∙ children_removed own path t.rows (subst (λ n. IsOnlyAt path n t.rows) (sym o) can.own)
    ∙ sym (children_mapped (touched (parent_of path) (child_deleted (t.number + 1))) (event_keeps_child (parent_of path) (t.number + 1)).0
    (filter (λ placed. not (same_path path placed.0)) t.rows))
children_next t goes (Addition path content) own first come can o fresh so_far =
    let c : Child = record { parent = id_at (parent_of path) t.rows; id = t.drawn + 1 } in
    ap (children_staying goes) (sym (append_assoc first come (c ∷ [])))
    ∙ filter-append (λ (d : Child). not (goes d.id)) (first ++ come) (c ∷ [])
    ∙ (λ i. so_far i ++ cond (not (fresh refl i)) (c ∷ []) [])
    ∙ ap (λ (l : List Child). l ++ c ∷ [])
    (sym (children_mapped (touched (parent_of path) (child_added (t.number + 1))) (event_keeps_child (parent_of path) (t.number + 1)).1 t.rows))
    ∙ sym (filter_map-append child_of (touch (parent_of path) (child_added (t.number + 1)) t.rows)
    ((path, new_row (t.drawn + 1) (id_at (parent_of path) t.rows) (t.number + 1) content) ∷ []))
children_next t goes (Modification path content) own first come can o fresh so_far =
    ap (λ (l : List Child). children_staying goes (first ++ l)) (append_none come)
    ∙ so_far
    ∙ sym (children_mapped (touched path (modified (t.number + 1) content)) (touched-keeps-child path (modified (t.number + 1) content) (λ row. refl) (λ row. refl)) t.rows)
    ∙ sym (children_mapped (touched (parent_of path) (child_modified (t.number + 1))) (event_keeps_child (parent_of path) (t.number + 1)).2
    (touch path (modified (t.number + 1) content) t.rows))

own_drawn : (t : Standing) (change : Change) (own : ℕ) → CanFind t change → own ≡ id_at (place_of change) t.rows → own ≤ t.drawn
own_drawn t change own can o = let low = id_at_drawn (place_of change) t.drawn t.rows can.drawn in omega (arith, low, o)

low_next : (change : Change) (own drawn : ℕ) (goes : ℕ → Bool) → ((id : ℕ) → goes id ≡ true → id ≤ drawn) → (is_deletion change ≡ true → own ≤ drawn)
    → (id : ℕ) → goes_after change own goes id ≡ true → id ≤ drawn
low_next (Deletion path) own drawn goes low deleted id e = by (nat_eq id own) refl e
  where
    by : (b : Bool) → nat_eq id own ≡ b → b || goes id ≡ true → id ≤ drawn
    by true h k = let is = same id own h in let at = deleted refl in omega (arith, is, at)
    by false h k = low id k
low_next (Addition path content) own drawn goes low deleted id e = low id e
low_next (Modification path content) own drawn goes low deleted id e = low id e

goes_more : (change : Change) (own : ℕ) (goes : ℕ → Bool) (id : ℕ) → goes id ≡ true → goes_after change own goes id ≡ true
goes_more change own goes id e = or_true (is_deletion change && nat_eq id own) (goes id) e

goes_own : (change : Change) (own : ℕ) (goes : ℕ → Bool) → is_deletion change ≡ true → goes_after change own goes own ≡ true
goes_own (Deletion path) own goes d = ap (λ (b : Bool). b || goes own) (itself own)
goes_own (Addition path content) own goes d = absurd (true≢false (sym d))
goes_own (Modification path content) own goes d = absurd (true≢false (sym d))

pub fresh_next : (s : Standing) (changes : List Change) (goes : ℕ → Bool) → ((id : ℕ) → goes id ≡ true → id ≤ s.drawn) → goes ((stepped s changes).drawn + 1) ≡ false
fresh_next s changes goes low =
    false_from_ne_true (goes ((stepped s changes).drawn + 1))
    (λ e. let k = low ((stepped s changes).drawn + 1) e in let rises = drawn_rises s changes in omega (arith, k, rises))

pub resolved_next : (s : Standing) (made : List MarkedChange) (p : MarkedChange) (before now : Resolution) (ids ids_now : Place → Option ℕ)
    → CanFind (stepped s (changes_in made)) p.change → (is_deletion p.change ≡ true → (stepped s (changes_in made)).drawn ≡ s.drawn)
    → KnowsPlaces ids (stepped s (changes_in made)).rows → IsResolutionOf s made before → Takes ids ids_now before now p → IsResolutionOf s (p ∷ made) now
resolved_next s made p before now ids ids_now can first knows follows takes = record {
  number = takes.number ∙ ap (λ n. n + 1) follows.number ∙ sym (number_step t p.change);
  drawn = takes.drawn ∙ ap (λ n. drawn_after n p.change) follows.drawn ∙ sym (drawn_step t p.change);
  changes = ap changes_resolved reversed ∙ ap (λ (l : List Change). p.change ∷ l) follows.changes;
  resolved = subst (AreResolved (contains nat_cmp now.gone) s) (sym reversed) (
    more_go (contains nat_cmp before.gone) (contains nat_cmp now.gone) s (reverse before.resolved.items)
        (λ id e. takes.goes id ∙ goes_more p.change own (contains nat_cmp before.gone) id e) follows.resolved,
    subst (λ (l : List Change). IsResolved (contains nat_cmp now.gone) (stepped s l) last) (sym follows.changes) (record {
      own = at (place_of p.change);
      parent = at (parent_of (place_of p.change));
      leaves = λ deletes. takes.goes own ∙ goes_own p.change own (contains nat_cmp before.gone) deletes;
    }),
  );
  told = takes.told ∙ (λ i. follows.told i ++ events_with (λ path. at path i) (follows.number i) (follows.drawn i) p)
      ∙ ap (λ (l : List EventWithParent). all_events_by s made ++ l) (events_told t p);
  low = λ id e. low_next p.change own s.drawn (contains nat_cmp before.gone) follows.low
      (λ deletes. let most = own_drawn t p.change own can (at (place_of p.change)) in let none = first deletes in omega (arith, most, none)) id (sym (takes.goes id) ∙ e);
  left = subst (λ (goes : ℕ → Bool). AllByRecursion (λ (placed : PlacedRow). goes placed.1.id ≡ false) (step t p.change).rows) (λ i id. sym (takes.goes id) i)
      (left_next t (contains nat_cmp before.gone) p.change own can (at (place_of p.change)) (λ _. fresh) follows.left);
  children = (λ i. children_staying (λ id. takes.goes id i) (filter_map child_of s.rows ++ takes.come i))
      ∙ (λ i. children_staying (goes_after p.change own (contains nat_cmp before.gone))
      (filter_map child_of s.rows ++ come_after p.change (follows.drawn i + 1) (at (parent_of (place_of p.change)) i) before.come.items))
      ∙ children_next t (contains nat_cmp before.gone) p.change own (filter_map child_of s.rows) before.come.items can (at (place_of p.change)) (λ _. fresh) follows.children;
}
  where
    t : Standing
    t = stepped s (changes_in made)

    own : ℕ
    own = ids_by ids (place_of p.change)

    last : Resolved
    last = record { change = p.change; own = ids_by ids (place_of p.change); parent = ids_by ids (parent_of (place_of p.change)) }

    at : (path : Place) → ids_by ids path ≡ id_at path t.rows
    at path = looked_up ids path t.rows knows

    reversed : reverse now.resolved.items ≡ last ∷ reverse before.resolved.items
    reversed = ap reverse takes.resolved ∙ reverse-append before.resolved.items (last ∷ [])

    fresh : contains nat_cmp before.gone (t.drawn + 1) ≡ false
    fresh = fresh_next s (changes_in made) (contains nat_cmp before.gone) follows.low

-- before any change nothing goes, and all children stay
pub resolved_none : (s : Standing) (r : Resolution) → r.number ≡ s.number → r.drawn ≡ s.drawn → r.resolved.items ≡ [] → r.told.items ≡ []
    → IsEmpty r.gone → r.come.items ≡ [] → IsResolutionOf s [] r
resolved_none s r number drawn none told empty come = record {
  number = number;
  drawn = drawn;
  changes = ap (λ (l : List Resolved). changes_resolved (reverse l)) none;
  resolved = subst (λ (l : List Resolved). AreResolved (contains nat_cmp r.gone) s (reverse l)) (sym none) tt;
  told = told;
  low = λ id e. absurd (true≢false (sym e ∙ goes id));
  left = each-all (λ (placed : PlacedRow). contains nat_cmp r.gone placed.1.id ≡ false) (λ placed. goes placed.1.id) s.rows;
  children = (λ i. children_staying (λ id. goes id i) (filter_map child_of s.rows ++ come i)) ∙ all (filter_map child_of s.rows ++ []) ∙ append_none (filter_map child_of s.rows);
}
  where
    goes : (id : ℕ) → contains nat_cmp r.gone id ≡ false
    goes id = rw empty refl

    all : (children : List Child) → children_staying (λ id. false) children ≡ children
    all [] = refl
    all (c ∷ children) = ap (λ (l : List Child). c ∷ l) (all children)

-- ---- the next change of a plan

pub plan_parts : (plan made left rest : List MarkedChange) (p : MarkedChange) → plan ≡ made ++ left → left ≡ p ∷ rest
    → changes_in (reverse plan) ≡ changes_in (reverse rest) ++ p.change ∷ changes_in (reverse made)
plan_parts plan made left rest p parted next =
    ap changes_in (reversed_parts plan made left rest p parted next) ∙ map-append (λ (q : MarkedChange). q.change) (reverse rest) (p ∷ reverse made)

pub number_within : (s : Standing) (plan made left rest : List MarkedChange) (p : MarkedChange) (r : Resolution) → IsScan s (changes_in (reverse plan)) → plan ≡ made ++ left → left ≡ p ∷ rest
    → IsResolutionOf s (reverse made) r → (r.number + 1 < 2 ^ 32) × (r.drawn + 1 < 2 ^ 32)
number_within s plan made left rest p r scan parted next follows =
    let can = can-make-marked_change s (stepped s (changes_in (reverse made))) plan scan made left rest p parted next refl in (
      subst (λ n. n + 1 < 2 ^ 32) (sym follows.number) can.number,
      subst (λ n. n + 1 < 2 ^ 32) (sym follows.drawn) can.drawn,
    )

pub resolving_next : (s : Standing) (plan made left rest : List MarkedChange) (p : MarkedChange) (before now : Resolution) (ids ids_now : Place → Option ℕ)
    → IsScan s (changes_in (reverse plan)) → plan ≡ made ++ left → left ≡ p ∷ rest → KnowsPlaces ids (stepped s (changes_in (reverse made))).rows
    → IsResolutionOf s (reverse made) before → Takes ids ids_now before now p
    → IsResolutionOf s (reverse (made ++ p ∷ [])) now × KnowsPlaces ids_now (stepped s (changes_in (reverse (made ++ p ∷ [])))).rows
resolving_next s plan made left rest p before now ids ids_now scan parted next knows follows takes =
    let can = can-find-marked s (stepped s (changes_in (reverse made))) plan scan made left rest p parted next refl in
    subst (λ (l : List MarkedChange). IsResolutionOf s l now × KnowsPlaces ids_now (stepped s (changes_in l)).rows) (sym (reverse-append made (p ∷ []))) (
      resolved_next s (reverse made) p before now ids ids_now can
          (deletions_first s (changes_in (reverse plan)) scan (changes_in (reverse rest)) (changes_in (reverse made)) p.change (plan_parts plan made left rest p parted next))
          knows follows takes,
      knows_next (stepped s (changes_in (reverse made))) ids ids_now p.change (before.drawn + 1) (ap (λ n. n + 1) follows.drawn) can knows takes.learns,
    )
