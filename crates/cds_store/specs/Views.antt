-- What is shown of a library at a moment: a number, and rows in ascending order of ids. The rows need not be a tree.
use Rattle.std.specs.Prelude.{◌≡◌, ◌<◌, ◌^◌, ℕ, List, length}
use Rattle.std.specs.List.{AllByRecursion}
use Rattle.cds_object.specs.Object.{ObjectRow}
use Rattle.cds_object.specs.Tree.{IdsAscend}
use Rattle.cds_catalog.specs.Catalog.{catalog}
use Rattle.cds_catalog.specs.History.{History, end_of}

-- ids are of 32 bits
abbrev pub IdsFit : List ObjectRow → Type 0
IdsFit = AllByRecursion (λ row. row.id < 2 ^ 32)

-- what holds of the rows of every view
pub record IsView (rows : List ObjectRow) : Type 0 where
  pub ascending : IdsAscend rows
  pub fit : IdsFit rows
  pub few : length rows < 2 ^ 32

-- whether a number and rows are those that are counted afresh over a history of scans
abbrev pub ShowsHistory : ℕ → List ObjectRow → History → Type 0
ShowsHistory number rows history = (number ≡ end_of history) × (rows ≡ catalog history)
