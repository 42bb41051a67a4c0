-- What is known of the changes of a scan after they are resolved, while nothing is changed yet.
use Rattle.std.specs.Prelude.{◌≡◌, ◌+◌, ◌≤◌, ℕ, true, false, List, [], ◌∷◌, ◌++◌, reverse, Option}
use Rattle.std.specs.List.{AllByRecursion, filter_map}
use Rattle.std.specs.Ordering.{nat_cmp}
use Rattle.std.specs.BTreeSet.{contains}
use Rattle.cds_object.specs.Path.{parent_of}
use Rattle.cds_catalog.specs.History.{place_of}
use Rattle.cds_catalog.specs.Steps.{Standing, stepped}
use Rattle.cds_store.specs.ChangeEvents.{changes_in, all_events_by, events_with}
use Rattle.cds_store.specs.Found.{Learns}
use Rattle.cds_store.specs.Offspring.{child_of}
use Rattle.cds_store.specs.Resolved.{ids_by, changes_resolved, AreResolved, goes_after, come_after, drawn_after, children_staying}
use Rattle.cds_store.specs.Stands.{IsScan}
use Rattle.cds_store.specs.declared.resolving.Resolution.{Resolution}
use Rattle.cds_store.specs.declared.subtrees.MarkedChange.{MarkedChange}

-- whether these are the ids of the object of a change and of its parent
abbrev pub Notes : (List (List ℕ) → Option ℕ) → MarkedChange → ℕ × ℕ → Type 0
Notes ids p own_and_parent =
    (own_and_parent.0 ≡ ids_by ids (place_of p.change)) × (own_and_parent.1 ≡ ids_by ids (parent_of (place_of p.change)))

-- what follows from one more change, by the ids of what it names; it is not put among the resolved changes yet
pub record Comes (ids_before ids_now : List (List ℕ) → Option ℕ) (before now : Resolution) (p : MarkedChange) (ids : ℕ × ℕ) : Type 0 where
  pub names : Notes ids_before p ids
  pub number : now.number ≡ before.number + 1
  pub drawn : now.drawn ≡ drawn_after before.drawn p.change
  pub resolved : now.resolved.items ≡ before.resolved.items
  pub told : now.told.items ≡ before.told.items ++ events_with (ids_by ids_before) before.number before.drawn p
  pub goes : (id : ℕ) → contains nat_cmp now.gone id ≡ goes_after p.change (ids_by ids_before (place_of p.change)) (contains nat_cmp before.gone) id
  pub come : now.come.items ≡ come_after p.change (before.drawn + 1) (ids_by ids_before (parent_of (place_of p.change))) before.come.items
  pub learns : Learns ids_before ids_now p.change (before.drawn + 1)

-- what one more change adds
pub record Takes (ids_before ids_now : List (List ℕ) → Option ℕ) (before now : Resolution) (p : MarkedChange) : Type 0 where
  pub number : now.number ≡ before.number + 1
  pub drawn : now.drawn ≡ drawn_after before.drawn p.change
  pub resolved : now.resolved.items
      ≡ before.resolved.items ++ record { change = p.change; own = ids_by ids_before (place_of p.change); parent = ids_by ids_before (parent_of (place_of p.change)) } ∷ []
  pub told : now.told.items ≡ before.told.items ++ events_with (ids_by ids_before) before.number before.drawn p
  pub goes : (id : ℕ) → contains nat_cmp now.gone id ≡ goes_after p.change (ids_by ids_before (place_of p.change)) (contains nat_cmp before.gone) id
  pub come : now.come.items ≡ come_after p.change (before.drawn + 1) (ids_by ids_before (parent_of (place_of p.change))) before.come.items
  pub learns : Learns ids_before ids_now p.change (before.drawn + 1)

-- what is known after changes, the newest first, are resolved, from what stands before any is made
pub record IsResolutionOf (s : Standing) (made : List MarkedChange) (r : Resolution) : Type 0 where
  pub number : r.number ≡ (stepped s (changes_in made)).number
  pub drawn : r.drawn ≡ (stepped s (changes_in made)).drawn
  pub changes : changes_resolved (reverse r.resolved.items) ≡ changes_in made
  pub resolved : AreResolved (contains nat_cmp r.gone) s (reverse r.resolved.items)
  pub told : r.told.items ≡ all_events_by s made
  -- only ids that were drawn before go, and no row has one of them afterwards
  pub low : (id : ℕ) → contains nat_cmp r.gone id ≡ true → id ≤ s.drawn
  pub left : AllByRecursion (λ placed. contains nat_cmp r.gone placed.1.id ≡ false) (stepped s (changes_in made)).rows
  pub children : children_staying (contains nat_cmp r.gone) (filter_map child_of s.rows ++ r.come.items) ≡ filter_map child_of (stepped s (changes_in made)).rows

-- whether it is what is known of the changes of some scan
pub record IsResolution (s : Standing) (r : Resolution) : Type 0 where
  pub plan : List MarkedChange
  pub scan : IsScan s (changes_in plan)
  pub follows : IsResolutionOf s plan r
