-- Rows as a tree (UPnP ContentDirectory:4 on the hierarchy of objects). Each row except the root's stands under a
-- container of a lower id, and each container counts its children.
use Rattle.std.specs.Prelude.{◌≡◌, ◌<◌, ℕ, Bool, true, false, cond, nat_eq, filter, List, [], ◌∷◌, Option, Some, None, MatchOption}
use Rattle.std.specs.List.{count_by, AllByRecursion}
use Rattle.std.specs.Option.{option_eq}
use Rattle.cds_object.specs.Object.{ObjectRow, IsRow, is_folder}

-- the row of an id
abbrev pub row_of : ℕ → List ObjectRow → Option ObjectRow
row_of id [] = None
row_of id (row ∷ rows) = cond (nat_eq row.id id) (Some row) (row_of id rows)

-- whether a row is the row of a child of an object
abbrev pub is_child_of : ℕ → ObjectRow → Bool
is_child_of id row = option_eq nat_eq row.parent (Some id)

-- the rows of an object's children, in their order
abbrev pub children_of : ℕ → List ObjectRow → List ObjectRow
children_of id rows = filter (is_child_of id) rows

-- whether there is a row, and it is the row of a container
abbrev pub is_container_row : Option ObjectRow → Bool
is_container_row None = false
is_container_row (Some row) = is_folder row.content

-- the ids rise strictly
abbrev pub IdsAscend : List ObjectRow → Type 0
IdsAscend [] = Unit {0}
IdsAscend (row ∷ []) = Unit {0}
IdsAscend (row ∷ next ∷ rows) = (row.id < next.id) × IdsAscend (next ∷ rows)

-- a row, except the row of the root, stands under a container of a lower id
abbrev pub IsHeld : List ObjectRow → ObjectRow → Type 0
IsHeld rows row = MatchOption row.parent (row.id ≡ 0) (λ parent. (parent < row.id) × (is_container_row (row_of parent rows) ≡ true))

-- a container counts the rows of its children
abbrev pub CountsChildren : List ObjectRow → ObjectRow → Type 0
CountsChildren rows row = MatchOption row.trackers (Unit {0}) (λ t. t.child_count ≡ count_by (is_child_of row.id) rows)

-- rows that are a tree under the root
pub record IsTree (rows : List ObjectRow) : Type 0 where
  pub ascending : IdsAscend rows
  pub rooted : is_container_row (row_of 0 rows) ≡ true
  pub each : AllByRecursion IsRow rows
  pub held : AllByRecursion (IsHeld rows) rows
  pub counted : AllByRecursion (CountsChildren rows) rows
