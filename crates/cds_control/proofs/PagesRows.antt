-- The rows that are written of the ids of a slice are the slice.
use Rattle.std.proofs.Common.{◌≡◌, ◌<◌, ℕ, zero, suc, Bool, true, false, cond, nat_eq, List, [], ◌∷◌, map, filter, take, drop, Some, refl, ◌∙◌, ap, arith}
use Rattle.std.specs.List.{AllByRecursion, cons_option}
use Rattle.std.proofs.lemmas.Bool.Decides.{nat_tests}
use Rattle.std.specs.Ordering.{is_le}
use Rattle.cds_object.specs.Object.{ObjectRow}
use Rattle.cds_object.specs.Tree.{row_of, IdsAscend}
use Rattle.cds_criteria.specs.Sorting.{insert_row, ordered, row_order}
use Rattle.cds_criteria.specs.declared.sort.SortKey.{SortKey}
use Rattle.cds_browse.proofs.Alone.{AllAbove, above_head, tail_ascends}
use Rattle.cds_control.specs.Answering.{rows_with}
use Rattle.cds_control.specs.Laws.{pages_have_their_rows}

-- a row is found by its id
abbrev IsFound : List ObjectRow → ObjectRow → Type 0
IsFound rows row = row_of row.id rows ≡ Some row

is-same : (n : ℕ) → nat_eq n n ≡ true
is-same n = grind (arith, nat_tests)

differs : (a b : ℕ) → a < b → nat_eq a b ≡ false
differs a b below = grind (arith, nat_tests)

found-behind : (first : ObjectRow) (all rows : List ObjectRow) → AllAbove first.id rows → AllByRecursion (IsFound all) rows
    → AllByRecursion (IsFound (first ∷ all)) rows
found-behind first all [] above found = tt
found-behind first all (row ∷ rows) above found =
    (ap (λ b. cond b (Some first) (row_of row.id all)) (differs first.id row.id above.0) ∙ found.0, found-behind first all rows above.1 found.1)

each-found : (rows : List ObjectRow) → IdsAscend rows → AllByRecursion (IsFound rows) rows
each-found [] ascend = tt
each-found (row ∷ rows) ascend = (
  ap (λ b. cond b (Some row) (row_of row.id rows)) (is-same row.id),
  found-behind row rows rows (above_head row rows ascend) (each-found rows (tail_ascends row rows ascend)),
)

-- what holds of each row holds of those that are kept of them
module _ (P : ObjectRow → Type 0) where
  filtered : (test : ObjectRow → Bool) (rows : List ObjectRow) → AllByRecursion P rows → AllByRecursion P (filter test rows)
  filtered test [] all = tt
  filtered test (row ∷ rows) all = by (test row) (filtered test rows all.1)
    where
      by : (b : Bool) → AllByRecursion P (filter test rows) → AllByRecursion P (cond b (row ∷ filter test rows) (filter test rows))
      by true further = (all.0, further)
      by false further = further

  dropped : (n : ℕ) (rows : List ObjectRow) → AllByRecursion P rows → AllByRecursion P (drop n rows)
  dropped zero rows all = all
  dropped (suc n) [] all = tt
  dropped (suc n) (row ∷ rows) all = dropped n rows all.1

  taken : (n : ℕ) (rows : List ObjectRow) → AllByRecursion P rows → AllByRecursion P (take n rows)
  taken zero rows all = tt
  taken (suc n) [] all = tt
  taken (suc n) (row ∷ rows) all = (all.0, taken n rows all.1)

-- rows that are found by their ids are those of their ids
rows-back : (all rows : List ObjectRow) → AllByRecursion (IsFound all) rows → rows_with (map (λ (r : ObjectRow). r.id) rows) all ≡ rows
rows-back all [] found = refl
rows-back all (row ∷ rows) found = (λ i. cons_option (found.0 i) (rows-back all rows found.1 i))

-- and so are they in the order of keys
inserted : (P : ObjectRow → Type 0) (keys : List SortKey) (row : ObjectRow) (rows : List ObjectRow) → P row → AllByRecursion P rows
    → AllByRecursion P (insert_row keys row rows)
inserted P keys row [] here all = (here, tt)
inserted P keys row (next ∷ rows) here all = by (is_le (row_order keys row next)) (inserted P keys row rows here all.1)
  where
    by : (b : Bool) → AllByRecursion P (insert_row keys row rows) → AllByRecursion P (cond b (row ∷ next ∷ rows) (next ∷ insert_row keys row rows))
    by true further = (here, all)
    by false further = (all.0, further)

sorted : (P : ObjectRow → Type 0) (keys : List SortKey) (rows : List ObjectRow) → AllByRecursion P rows → AllByRecursion P (ordered keys rows)
sorted P keys [] all = tt
sorted P keys (row ∷ rows) all = inserted P keys row (ordered keys rows) all.0 (sorted P keys rows all.1)

-- without keys
pub found-have : (rows : List ObjectRow) (matches : ObjectRow → Bool) (start count : ℕ) → IdsAscend rows
    → rows_with (map (λ (r : ObjectRow). r.id) (take count (drop start (filter matches rows)))) rows ≡ take count (drop start (filter matches rows))
found-have rows matches start count ascend =
    rows-back rows (take count (drop start (filter matches rows)))
    (taken (IsFound rows) count _ (dropped (IsFound rows) start _ (filtered (IsFound rows) matches rows (each-found rows ascend))))

-- with keys
pub pages-have : pages_have_their_rows
pages-have rows matches keys start count ascend =
    rows-back rows (take count (drop start (ordered keys (filter matches rows))))
    (taken (IsFound rows) count _ (dropped (IsFound rows) start _
    (sorted (IsFound rows) keys _ (filtered (IsFound rows) matches rows (each-found rows ascend)))))
