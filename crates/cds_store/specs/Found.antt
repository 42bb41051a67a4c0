-- Rows that are found by their ids, and ids by their places.
use Rattle.std.specs.Prelude.{◌≡◌, ◌<◌, ◌≤◌, ℕ, true, false, cond, nat_eq, List, [], ◌∷◌, ◌++◌, length, Option, Some, None}
use Rattle.std.specs.List.{AllByRecursion}
use Rattle.cds_object.specs.Path.{same_path, parent_of}
use Rattle.cds_object.specs.Object.{ObjectRow, is_folder}
use Rattle.cds_object.specs.declared.content.Content.{Content}
use Rattle.cds_object.specs.Tree.{IdsAscend}
use Rattle.cds_catalog.specs.Catalog.{PlacedRow}
use Rattle.cds_catalog.specs.History.{place_of}
use Rattle.cds_catalog.specs.Steps.{Standing, id_at}
use Rattle.cds_catalog.specs.declared.change.Change.{Change}
use Rattle.cds_catalog.specs.declared.change.Change.TheVariants.{Deletion, Addition, Modification}
use Rattle.cds_store.specs.Rows.{rows_of}

-- no row has the id
abbrev pub HasNone : ℕ → List PlacedRow → Type 0
HasNone id rows = AllByRecursion (λ placed. nat_eq placed.1.id id ≡ false) rows

-- the only row of the id stands this many rows from the first
pub record IsPlaceOf (id : ℕ) (rows : List PlacedRow) (at : ℕ) : Type 0 where
  pub front : List PlacedRow
  pub here : PlacedRow
  pub back : List PlacedRow
  pub parts : rows ≡ front ++ here ∷ back
  pub place : length front ≡ at
  pub within : at < length rows
  pub is : here.1.id ≡ id
  pub before : HasNone id front
  pub behind : HasNone id back

-- the row of an id changed, and every other row kept
abbrev pub touched_by_id : ℕ → (ObjectRow → ObjectRow) → PlacedRow → PlacedRow
touched_by_id id change placed = cond (nat_eq placed.1.id id) (placed.0, change placed.1) placed

-- the id of the first row at a place
abbrev pub id_found : List (List ℕ) → List PlacedRow → Option ℕ
id_found path [] = None
id_found path (placed ∷ others) = cond (same_path path placed.0) (Some placed.1.id) (id_found path others)

-- an id that was looked up, or 0 if there is none
abbrev pub id_or_none : Option ℕ → ℕ
id_or_none None = 0
id_or_none (Some id) = id

-- whether a map from places to ids is the map of some rows
abbrev pub KnowsPlaces : (List (List ℕ) → Option ℕ) → List PlacedRow → Type 0
KnowsPlaces ids rows = (path : List (List ℕ)) → ids path ≡ id_found path rows

-- exactly the rows at a place have the id
abbrev pub IsOnlyAt : List (List ℕ) → ℕ → List PlacedRow → Type 0
IsOnlyAt path id rows = AllByRecursion (λ placed. same_path path placed.0 ≡ nat_eq placed.1.id id) rows

-- what a change finds: a deletion and a modification find their own row by its id, an addition finds no row at its
-- place
abbrev pub OwnIsFound : Change → List PlacedRow → Type 0
OwnIsFound (Deletion path) rows = IsOnlyAt path (id_at path rows) rows
OwnIsFound (Addition path content) rows = id_found path rows ≡ None
OwnIsFound (Modification path content) rows = IsOnlyAt path (id_at path rows) rows

-- whether the rows that a change names can be found by their ids
pub record CanFind (s : Standing) (change : Change) : Type 0 where
  pub ascending : IdsAscend (rows_of s.rows)
  pub parent : IsOnlyAt (parent_of (place_of change)) (id_at (parent_of (place_of change)) s.rows) s.rows
  pub own : OwnIsFound change s.rows
  pub drawn : AllByRecursion (λ placed. placed.1.id ≤ s.drawn) s.rows

-- the object with an id is of the kind of a content
abbrev pub KeepsKindById : ℕ → Content → PlacedRow → Type 0
KeepsKindById id content placed = nat_eq placed.1.id id ≡ true → is_folder placed.1.content ≡ is_folder content

-- the ids by places before a row and after it: its own is at its place, and every other place is as before
abbrev pub Puts : (List (List ℕ) → Option ℕ) → (List (List ℕ) → Option ℕ) → PlacedRow → Type 0
Puts before now placed = (path : List (List ℕ)) → now path ≡ cond (same_path path placed.0) (Some placed.1.id) (before path)

-- what a change does to the ids of places, if the next addition draws this id
abbrev pub Learns : (List (List ℕ) → Option ℕ) → (List (List ℕ) → Option ℕ) → Change → ℕ → Type 0
Learns before now (Deletion path) next = (at : List (List ℕ)) → now at ≡ cond (same_path at path) None (before at)
Learns before now (Addition path content) next = (at : List (List ℕ)) → now at ≡ cond (same_path at path) (Some next) (before at)
Learns before now (Modification path content) next = (at : List (List ℕ)) → now at ≡ before at
