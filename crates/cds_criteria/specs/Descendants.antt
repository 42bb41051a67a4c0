-- The descendants of a container among rows that need not be a tree (UPnP ContentDirectory:4 on Search; this project's profile).
use Rattle.std.specs.Prelude.{◌≡◌, ℕ, suc, zero, Bool, true, false, cond, nat_eq, List, filter, length, Option, Some, None}
use Rattle.cds_object.specs.Object.{ObjectRow}
use Rattle.cds_object.specs.Tree.{row_of}

-- a row is this many parents below a child of a container: from its parent on, each is the row of the next one's parent
pub data Under (rows : List ObjectRow) (container : ℕ) : ℕ → ObjectRow → Type 0 where
  child : (row : ObjectRow) → row.parent ≡ Some container → Under rows container 0 row
  deeper : (n : ℕ) (row parent : ObjectRow) (id : ℕ) → row.parent ≡ Some id → row_of id rows ≡ Some parent → Under rows container n parent → Under rows container (suc n) row

abbrev pub parent_in : Option ObjectRow → Option ℕ
parent_in None = None
parent_in (Some row) = row.parent

-- whether parents, from this one on, lead to a container in at most this many steps
abbrev pub leads_within : ℕ → List ObjectRow → ℕ → Option ℕ → Bool
leads_within zero rows container parent = false
leads_within (suc steps) rows container None = false
leads_within (suc steps) rows container (Some id) =
    elim (nat_eq id container) [ true ↦ true | false ↦ leads_within steps rows container (parent_in (row_of id rows)) ]

-- Whether a row is a descendant of a container: its parents lead to the container, and it is not the container itself. A way
-- without a circle has at most as many steps as there are rows.
abbrev pub is_below : List ObjectRow → ℕ → ObjectRow → Bool
is_below rows container row = cond (nat_eq row.id container) false (leads_within (length rows) rows container row.parent)

abbrev pub descendants : ℕ → List ObjectRow → List ObjectRow
descendants container rows = filter (is_below rows container) rows
