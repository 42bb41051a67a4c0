-- Laws of sort criteria and of the order that they name, beside their definitions, and the law of descendants.
use Rattle.std.specs.Prelude.{◌≡◌, ◌≤◌, ℕ, true, List, [], length, Ok}
use Rattle.std.specs.Cmp.{IsTotalOrder}
use Rattle.std.specs.List.{Contains}
use Rattle.std.specs.List.Sorted.{IsPermutation}
use Rattle.cds_object.specs.Object.{ObjectRow}
use Rattle.cds_object.specs.Tree.{IdsAscend}
use Rattle.cds_criteria.specs.Sorting.{SortKey, keys_read, keys_text, row_order, ordered, IsOrdered}
use Rattle.cds_criteria.specs.Descendants.{Under, leads_within, is_below}

-- an accepted text is the text of its keys
abbrev pub keys_are_spelled : Type 0
keys_are_spelled = (text : List ℕ) (keys : List SortKey) → keys_read text ≡ Ok keys → keys_text keys ≡ text

-- each text of keys is accepted with them, if it has at most 4,096 bytes
abbrev pub spelled_keys_are_read : Type 0
spelled_keys_are_read = (keys : List SortKey) → length (keys_text keys) ≤ 4096 → keys_read (keys_text keys) ≡ Ok keys

-- the order by keys and then by ids is total
abbrev pub order_is_total : Type 0
order_is_total = (keys : List SortKey) → IsTotalOrder (row_order keys)

-- putting rows in order loses none and adds none
abbrev pub ordered_are_the_same : Type 0
ordered_are_the_same = (keys : List SortKey) (rows : List ObjectRow) → IsPermutation rows (ordered keys rows)

-- rows are put in order, each once
abbrev pub rows_are_ordered : Type 0
rows_are_ordered = (keys : List SortKey) (rows : List ObjectRow) → IsOrdered keys rows (ordered keys rows)

-- no other list of the rows is in order; so a sort by the order gives this one
abbrev pub order_is_unique : Type 0
order_is_unique = (keys : List SortKey) (rows sorted : List ObjectRow) → IdsAscend rows → IsOrdered keys rows sorted → sorted ≡ ordered keys rows

-- without keys, rows in ascending order of ids stay as they are
abbrev pub no_keys_keep : Type 0
no_keys_keep = (rows : List ObjectRow) → IdsAscend rows → ordered [] rows ≡ rows

-- from each descendant parents lead to the container
abbrev pub ways_lead_down : Type 0
ways_lead_down =
    (rows : List ObjectRow) (container : ℕ) (row : ObjectRow) → is_below rows container row ≡ true → (n : ℕ) × Under rows container n row

-- from a row, each way to the container, of whatever length, is found in as many steps as there are rows
abbrev pub ways_are_found : Type 0
ways_are_found =
    (rows : List ObjectRow) (container n : ℕ) (row : ObjectRow) → Contains rows row → Under rows container n row →
    leads_within (length rows) rows container row.parent ≡ true
