-- Which rows a replica was shown, whatever server replied.
use Rattle.std.specs.Prelude.{◌≡◌, ◌⊎◌, List, [], ◌∷◌}
use Rattle.std.specs.List.{AllByRecursion}
use Rattle.cds_object.specs.Object.{ObjectRow}
use Rattle.cds_load.specs.Stages.{ReplicaTurn, Begins, Shows, held_by, copied}
use Rattle.cds_load.specs.declared.exchange.Shown.{Shown}
use Rattle.cds_load.specs.declared.exchange.Shown.TheVariants.{Text, Number, Page, Fault}

-- the rows that a reply shows
abbrev pub rows_shown : Shown → List ObjectRow
rows_shown (Text token) = []
rows_shown (Number n) = []
rows_shown (Page rows total update) = rows
rows_shown (Fault code) = []

-- one of the rows has the id, the content and the objectUpdateID of a row
abbrev pub HasVersion : ObjectRow → List ObjectRow → Type 0
HasVersion row [] = ⊥
HasVersion row (other ∷ others) =
    ((other.id ≡ row.id) × (other.content ≡ row.content) × (other.object_update ≡ row.object_update)) ⊎ HasVersion row others

-- one of the replies that were shown has a row with the id, the content and the objectUpdateID of a row
abbrev pub WasShown : ObjectRow → List ReplicaTurn → Type 0
WasShown row [] = ⊥
WasShown row (Begins ∷ older) = WasShown row older
WasShown row (Shows shown ∷ older) = HasVersion row (rows_shown shown) ⊎ WasShown row older

-- after any turns each row of the copy was shown
abbrev pub copied_rows_were_shown : Type 0
copied_rows_were_shown = (turns : List ReplicaTurn) → AllByRecursion (λ row. WasShown row turns) (copied (held_by turns))
