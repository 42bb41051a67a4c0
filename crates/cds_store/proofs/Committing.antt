-- The resolved changes of a scan made one by one, where what is deleted has gone before.
use Rattle.std.proofs.Common.{◌≡◌, ◌+◌, ◌<◌, ◌≤◌, ◌^◌, ℕ, Bool, true, false, not, nat_cmp, List, [], ◌∷◌, ◌++◌, reverse, refl, sym, ◌∙◌, ap, subst, true≢false, arith}
use Rattle.std.specs.List.{AllByRecursion}
use Rattle.std.specs.BTreeSet.{contains}
use Rattle.std.proofs.lemmas.List.{map-append, reverse-append}
use Rattle.cds_object.specs.Tree.{IdsAscend}
use Rattle.cds_catalog.specs.Catalog.{PlacedRow}
use Rattle.cds_catalog.specs.History.{place_of, is_addition}
use Rattle.cds_catalog.specs.Steps.{Standing, id_at, step, stepped}
use Rattle.cds_catalog.specs.declared.change.Change.{Change}
use Rattle.cds_catalog.specs.declared.change.Change.TheVariants.{Deletion, Addition, Modification}
use Rattle.cds_catalog.proofs.StepsFind.{each-filter}
use Rattle.cds_store.specs.ChangeEvents.{changes_in}
use Rattle.cds_store.specs.Found.{IsOnlyAt, CanFind, KeepsKindById}
use Rattle.cds_store.specs.Resolution.{IsResolution}
use Rattle.cds_store.specs.Resolved.{changes_resolved, IsResolved, AreResolved, drawn_after, rows_by_ids, staying, KeepsKindsById}
use Rattle.cds_store.specs.Rows.{HasRoom, CanMake, rows_of}
use Rattle.cds_store.specs.Stands.{IsScan}
use Rattle.cds_store.specs.declared.resolving.Resolution.{Resolution}
use Rattle.cds_store.specs.declared.resolving.Resolved.{Resolved}
use Rattle.cds_store.proofs.ByIds.{ascend_filtered, kinds_by_id}
use Rattle.cds_store.proofs.Finding.{can_find_next}
use Rattle.cds_store.proofs.Making.{can_make_next, reversed_parts}
use Rattle.cds_store.proofs.NextResolved.{drawn_rises, drawn_rises_more, drawn_step, number_step, fresh_next}
use Rattle.cds_store.proofs.Staying.{made_staying, all_stay}

-- how a catalog is while the first of the changes are made
pub record IsMade (s : Standing) (goes : ℕ → Bool) (first : List Resolved) (now : Standing) : Type 0 where
  pub number : now.number ≡ (stepped s (changes_resolved (reverse first))).number
  pub drawn : now.drawn ≡ (stepped s (changes_resolved (reverse first))).drawn
  pub rows : now.rows ≡ staying goes (stepped s (changes_resolved (reverse first))).rows

pub drawn_by_scan : (s : Standing) (r : Resolution) → IsResolution s r → s.drawn ≤ r.drawn
drawn_by_scan s r is = let rises = drawn_rises s (changes_in is.plan) in let at = is.follows.drawn in omega (arith, rises, at)

resolved_within : (goes : ℕ → Bool) (s : Standing) (later older : List Resolved) (r : Resolved) → AreResolved goes s (later ++ r ∷ older)
    → IsResolved goes (stepped s (changes_resolved older)) r
resolved_within goes s [] older r are = are.1
resolved_within goes s (q ∷ later) older r are = resolved_within goes s later older r are.0

-- what the next change wants
pub record Wants (s t : Standing) (scan : Resolution) (r : Resolved) (now : Standing) : Type 0 where
  pub number_fits : now.number + 1 < 2 ^ 32
  pub drawn_fits : now.drawn + 1 < 2 ^ 32
  pub ascending : IdsAscend (rows_of now.rows)
  pub room : AllByRecursion (λ (placed : PlacedRow). HasRoom placed.1) now.rows
  pub kinds : KeepsKindsById r.change r.own now.rows
  pub within : is_addition r.change ≡ true → now.drawn < scan.drawn
  pub made : rows_by_ids (now.number + 1) (drawn_after now.drawn r.change) r.change r.own r.parent now.rows ≡ staying (contains nat_cmp scan.gone) (step t r.change).rows

kinds_staying : (goes : ℕ → Bool) (t : Standing) (change : Change) (own : ℕ) → CanMake t change → CanFind t change → own ≡ id_at (place_of change) t.rows
    → KeepsKindsById change own (staying goes t.rows)
kinds_staying goes t (Deletion path) own make find o = tt
kinds_staying goes t (Addition path content) own make find o = tt
kinds_staying goes t (Modification path content) own make find o =
    each-filter (KeepsKindById own content) (λ placed. not (goes placed.1.id)) t.rows
    (kinds_by_id path own content t.rows (subst (λ n. IsOnlyAt path n t.rows) (sym o) find.own) make.kinds)

adds_one : (t : Standing) (change : Change) → is_addition change ≡ true → (step t change).drawn ≡ t.drawn + 1
adds_one t (Deletion path) a = absurd (true≢false (sym a))
adds_one t (Addition path content) a = refl
adds_one t (Modification path content) a = absurd (true≢false (sym a))

parts_resolved : (all made left rest : List Resolved) (r : Resolved) → all ≡ made ++ left → left ≡ r ∷ rest
    → changes_resolved (reverse all) ≡ changes_resolved (reverse rest) ++ r.change ∷ changes_resolved (reverse made)
parts_resolved all made left rest r parted next =
    ap changes_resolved (reversed_parts all made left rest r parted next) ∙ map-append (λ (q : Resolved). q.change) (reverse rest) (r ∷ reverse made)

pub wants_next : (s : Standing) (scan : Resolution) (made left rest : List Resolved) (r : Resolved) (now : Standing) → IsResolution s scan
    → scan.resolved.items ≡ made ++ left → left ≡ r ∷ rest → IsMade s (contains nat_cmp scan.gone) made now
    → Wants s (stepped s (changes_resolved (reverse made))) scan r now
wants_next s scan made left rest r now is parted next before =
    let goes = contains nat_cmp scan.gone in
    let older : List Change = changes_resolved (reverse made) in
    let t : Standing = stepped s older in
    let all : List Change = changes_resolved (reverse scan.resolved.items) in
    let scanned : IsScan s all = subst (IsScan s) (sym is.follows.changes) is.scan in
    let parts = parts_resolved scan.resolved.items made left rest r parted next in
    let make = can_make_next s all scanned (changes_resolved (reverse rest)) older r.change parts in
    let find = can_find_next s all scanned (changes_resolved (reverse rest)) older r.change parts in
    let at = resolved_within goes s (reverse rest) (reverse made) r (subst (AreResolved goes s) (reversed_parts scan.resolved.items made left rest r parted next) is.follows.resolved) in
    let fresh = fresh_next s older goes is.follows.low in
    let total : scan.drawn ≡ (stepped s (changes_resolved (reverse rest) ++ r.change ∷ older)).drawn =
    is.follows.drawn ∙ ap (λ l. (stepped s l).drawn) (sym is.follows.changes ∙ parts) in
    let rises = drawn_rises_more s (changes_resolved (reverse rest)) (r.change ∷ older) in
    let drawn_is = before.drawn in
    record {
      number_fits = subst (λ n. n + 1 < 2 ^ 32) (sym before.number) make.number;
      drawn_fits = subst (λ n. n + 1 < 2 ^ 32) (sym before.drawn) make.drawn;
      ascending = subst (λ (l : List PlacedRow). IdsAscend (rows_of l)) (sym before.rows) (ascend_filtered (λ placed. not (goes placed.1.id)) t.rows find.ascending);
      room = subst (AllByRecursion (λ (placed : PlacedRow). HasRoom placed.1)) (sym before.rows)
          (each-filter (λ (placed : PlacedRow). HasRoom placed.1) (λ placed. not (goes placed.1.id)) t.rows make.room);
      kinds = subst (KeepsKindsById r.change r.own) (sym before.rows) (kinds_staying goes t r.change r.own make find at.own);
      within = λ adds. let one = adds_one t r.change adds in omega (arith, one, rises, total, drawn_is);
      made = (λ i. rows_by_ids (before.number i + 1) (drawn_after (before.drawn i) r.change) r.change r.own r.parent (before.rows i))
          ∙ made_staying t goes r find at (λ _. fresh);
    }

one_more : (made : List Resolved) (r : Resolved) → changes_resolved (reverse (made ++ r ∷ [])) ≡ r.change ∷ changes_resolved (reverse made)
one_more made r = ap changes_resolved (reverse-append made (r ∷ []))

-- once it is made
pub made_next : (s : Standing) (scan : Resolution) (made : List Resolved) (r : Resolved) (before now : Standing)
    → IsMade s (contains nat_cmp scan.gone) made before → Wants s (stepped s (changes_resolved (reverse made))) scan r before
    → now.number ≡ before.number + 1 → now.drawn ≡ drawn_after before.drawn r.change
    → now.rows ≡ rows_by_ids (before.number + 1) (drawn_after before.drawn r.change) r.change r.own r.parent before.rows
    → IsMade s (contains nat_cmp scan.gone) (made ++ r ∷ []) now
made_next s scan made r before now is wants n d rows =
    let t : Standing = stepped s (changes_resolved (reverse made)) in
    record {
      number = n ∙ ap (λ k. k + 1) is.number ∙ sym (number_step t r.change) ∙ ap (λ l. (stepped s l).number) (sym (one_more made r));
      drawn = d ∙ ap (λ k. drawn_after k r.change) is.drawn ∙ sym (drawn_step t r.change) ∙ ap (λ l. (stepped s l).drawn) (sym (one_more made r));
      rows = rows ∙ wants.made ∙ ap (λ l. staying (contains nat_cmp scan.gone) (stepped s l).rows) (sym (one_more made r));
    }

-- before any is made the rows that go are gone
pub made_none : (s : Standing) (goes : ℕ → Bool) (inside : Standing) (rows : List PlacedRow) → inside ≡ s → rows ≡ staying goes inside.rows
    → IsMade s goes [] (record { number = inside.number; drawn = inside.drawn; rows = rows })
made_none s goes inside rows is r = record {
  number = ap (λ (t : Standing). t.number) is;
  drawn = ap (λ (t : Standing). t.drawn) is;
  rows = r ∙ ap (λ (t : Standing). staying goes t.rows) is;
}

-- once all are made
pub made_all : (s : Standing) (scan : Resolution) (now : Standing) → IsResolution s scan → IsMade s (contains nat_cmp scan.gone) scan.resolved.items now
    → now ≡ stepped s (changes_resolved (reverse scan.resolved.items))
made_all s scan now is made =
    let left = subst (λ l. AllByRecursion (λ (placed : PlacedRow). contains nat_cmp scan.gone placed.1.id ≡ false) (stepped s l).rows) (sym is.follows.changes) is.follows.left in
    let all = made.rows ∙ all_stay (contains nat_cmp scan.gone) (stepped s (changes_resolved (reverse scan.resolved.items))).rows left in
    λ i. record { number = made.number i; drawn = made.drawn i; rows = all i }

-- ---- room for what is added

pub room_for : (change : Change) (drawn next total len capacity : ℕ) → is_addition change ≡ true → next ≡ drawn_after drawn change → drawn < total
    → len + total ≤ capacity + drawn → (0 < next) × (len < capacity)
room_for (Deletion path) drawn next total len capacity adds n within spare = absurd (true≢false (sym adds))
room_for (Addition path content) drawn next total len capacity adds n within spare = (omega (arith, n), omega (arith, within, spare))
room_for (Modification path content) drawn next total len capacity adds n within spare = absurd (true≢false (sym adds))

pub spare_next : (change : Change) (drawn next total len capacity now_len now_capacity : ℕ) → next ≡ drawn_after drawn change → now_len ≡ drawn_after len change
    → capacity ≤ now_capacity → len + total ≤ capacity + drawn → now_len + total ≤ now_capacity + next
spare_next (Deletion path) drawn next total len capacity now_len now_capacity n l c spare = omega (arith, n, l, c, spare)
spare_next (Addition path content) drawn next total len capacity now_len now_capacity n l c spare = omega (arith, n, l, c, spare)
spare_next (Modification path content) drawn next total len capacity now_len now_capacity n l c spare = omega (arith, n, l, c, spare)

append_none : (l : List Resolved) → l ++ [] ≡ l
append_none [] = refl
append_none (r ∷ l) = ap (λ (m : List Resolved). r ∷ m) (append_none l)

pub all_yielded : (all yielded rest : List Resolved) → all ≡ yielded ++ rest → rest ≡ [] → yielded ≡ all
all_yielded all yielded rest parted none = sym (parted ∙ ap (λ (l : List Resolved). yielded ++ l) none ∙ append_none yielded)
