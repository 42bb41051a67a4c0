-- The changes of a scan with the ids of what they name, and what they do to rows by these ids.
use Rattle.std.specs.Prelude.{◌≡◌, ◌+◌, ◌&&◌, ◌||◌, ℕ, Bool, true, not, cond, nat_eq, filter, map, List, [], ◌∷◌, ◌++◌, Option}
use Rattle.std.specs.List.{AllByRecursion}
use Rattle.cds_object.specs.Path.{parent_of}
use Rattle.cds_catalog.specs.Catalog.{PlacedRow}
use Rattle.cds_catalog.specs.History.{place_of, is_addition, is_deletion}
use Rattle.cds_catalog.specs.Steps.{Standing, id_at, stepped, modified, new_row}
use Rattle.cds_catalog.specs.declared.change.Change.{Change}
use Rattle.cds_catalog.specs.declared.change.Change.TheVariants.{Deletion, Addition, Modification}
use Rattle.cds_store.specs.Rows.{child_event}
use Rattle.cds_store.specs.Found.{id_or_none, touched_by_id, KeepsKindById}
use Rattle.cds_store.specs.Offspring.{Rises, of_parent}
use Rattle.cds_store.specs.declared.offspring.Child.{Child}
use Rattle.cds_store.specs.declared.resolving.Resolved.{Resolved}
use Rattle.cds_store.specs.declared.touch.ChildEvent.TheVariants.{Added, Modified, Deleted}

-- the ids that a map from places to ids gives
abbrev pub ids_by : (List (List ℕ) → Option ℕ) → List (List ℕ) → ℕ
ids_by ids path = id_or_none (ids path)

-- the changes
abbrev pub changes_resolved : List Resolved → List Change
changes_resolved resolved = map (λ (r : Resolved). r.change) resolved

-- whether the ids are the ids of what a change names; the id of what it deletes is among those that go
pub record IsResolved (goes : ℕ → Bool) (s : Standing) (r : Resolved) : Type 0 where
  pub own : r.own ≡ id_at (place_of r.change) s.rows
  pub parent : r.parent ≡ id_at (parent_of (place_of r.change)) s.rows
  pub leaves : is_deletion r.change ≡ true → goes r.own ≡ true

-- whether the ids are right for changes that come one after the other, in a list with the newest first
abbrev pub AreResolved : (ℕ → Bool) → Standing → List Resolved → Type 0
AreResolved goes s [] = Unit {0}
AreResolved goes s (r ∷ older) = AreResolved goes s older × IsResolved goes (stepped s (changes_resolved older)) r

-- the ids that go, with the id of what a change deletes
abbrev pub goes_after : Change → ℕ → (ℕ → Bool) → ℕ → Bool
goes_after change own goes id = is_deletion change && nat_eq id own || goes id

-- the children that come, with the one of an id that a change adds
abbrev pub come_after : Change → ℕ → ℕ → List Child → List Child
come_after change id parent come = come ++ cond (is_addition change) (record { parent = parent; id = id } ∷ []) []

-- how many ids are drawn after a change
abbrev pub drawn_after : ℕ → Change → ℕ
drawn_after drawn change = drawn + cond (is_addition change) 1 0

-- rows after the change with this number, by the ids of its object and of its parent; what it adds gets an id
abbrev pub rows_by_ids : ℕ → ℕ → Change → ℕ → ℕ → List PlacedRow → List PlacedRow
rows_by_ids number id (Deletion path) own parent rows = map (touched_by_id parent (child_event Deleted number)) rows
rows_by_ids number id (Addition path content) own parent rows =
    map (touched_by_id parent (child_event Added number)) rows ++ (path, new_row id parent number content) ∷ []
rows_by_ids number id (Modification path content) own parent rows =
    map (touched_by_id parent (child_event Modified number)) (map (touched_by_id own (modified number content)) rows)

-- whether the object with an id is of the kind that a modification gives it
abbrev pub KeepsKindsById : Change → ℕ → List PlacedRow → Type 0
KeepsKindsById (Deletion path) own rows = Unit {0}
KeepsKindsById (Addition path content) own rows = Unit {0}
KeepsKindsById (Modification path content) own rows = AllByRecursion (KeepsKindById own content) rows

-- the rows that stay if some ids go
abbrev pub staying : (ℕ → Bool) → List PlacedRow → List PlacedRow
staying goes rows = filter (λ placed. not (goes placed.1.id)) rows

-- the children that stay
abbrev pub children_staying : (ℕ → Bool) → List Child → List Child
children_staying goes children = filter (λ (c : Child). not (goes c.id)) children

-- whether children are the earlier ones without those of some ids; children of one parent stand together, in the order
-- that they had
pub record IsMended (goes : ℕ → Bool) (before now : List Child) : Type 0 where
  pub rising : Rises now
  pub each : (parent : ℕ) → filter (of_parent parent) now ≡ filter (of_parent parent) (children_staying goes before)
