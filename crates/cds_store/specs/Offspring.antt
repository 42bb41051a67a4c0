-- The children of each object, by rows. Children of one parent stand together, in ascending order of ids.
use Rattle.std.specs.Prelude.{◌≡◌, ℕ, Bool, nat_eq, filter, map, List, Option}
use Rattle.std.specs.List.Sorted.{IsNonDecreasingBy}
use Rattle.std.specs.Option.{option_map}
use Rattle.cds_object.specs.Object.{ObjectRow}
use Rattle.cds_object.specs.Tree.{children_of}
use Rattle.cds_catalog.specs.Catalog.{PlacedRow}
use Rattle.cds_store.specs.Rows.{rows_of}
use Rattle.cds_store.specs.Stands.{Stored, IsStore}
use Rattle.cds_store.specs.declared.offspring.Child.{Child}

-- the ids of children
abbrev pub ids_in : List Child → List ℕ
ids_in children = map (λ (c : Child). c.id) children

-- whether a child is a child of an object
abbrev pub of_parent : ℕ → Child → Bool
of_parent parent child = nat_eq child.parent parent

-- a row's object under its parent; the root has none
abbrev pub child_of : PlacedRow → Option Child
child_of placed = option_map (λ parent. record { parent = parent; id = placed.1.id }) placed.1.parent

-- the ids of parents do not fall
abbrev pub Rises : List Child → Type 0
Rises children = IsNonDecreasingBy (λ (c : Child). c.parent) children

-- whether they are the children by rows
pub record AreChildren (rows : List PlacedRow) (children : List Child) : Type 0 where
  pub rising : Rises children
  pub each : (parent : ℕ) → ids_in (filter (of_parent parent) children) ≡ map (λ (r : ObjectRow). r.id) (children_of parent (rows_of rows))

-- a store whose children are found by halving
pub record IsIndexed (stored : Stored) (offspring : List Child) : Type 0 where
  pub store : IsStore stored
  pub children : AreChildren stored.standing.rows offspring
