-- A page that is made of the ids of all rows that match.
use Rattle.std.proofs.Common.{◌≡◌, ◌<◌, ◌≤◌, ◌^◌, ℕ, Bool, List, take, drop, length, filter, sym, ◌∙◌, ap, arith}
use Rattle.std.proofs.lemmas.List.{take-map, drop-map, length-map}
use Rattle.std.proofs.lemmas.List.Sorted.{length_permutation}
use Rattle.std.proofs.lemmas.List.Sums.{length-filter, count_by-le-length}
use Rattle.cds_object.specs.Object.{ObjectRow}
use Rattle.cds_object.specs.Tree.{is_child_of, children_of}
use Rattle.cds_criteria.specs.Criteria.{Criteria}
use Rattle.cds_criteria.specs.Descendants.{is_below, descendants}
use Rattle.cds_criteria.specs.Meaning.{meets}
use Rattle.cds_criteria.specs.Sorting.{ordered}
use Rattle.cds_criteria.specs.declared.sort.SortKey.{SortKey}
use Rattle.cds_criteria.proofs.Order.{same_rows}
use Rattle.cds_object.specs.Updates.{update_of}
use Rattle.cds_browse.specs.Paging.{ids_of, most_rows, page_of}
use Rattle.cds_browse.specs.Searching.{found_in}
use Rattle.cds_browse.proofs.Alone.{made, same_page}

length_ids : (rows : List ObjectRow) → length (ids_of rows) ≡ length rows
length_ids rows = length-map rows (λ (r : ObjectRow). r.id)

pub length_ordered : (keys : List SortKey) (rows : List ObjectRow) → length (ids_of (ordered keys rows)) ≡ length rows
length_ordered keys rows = length_ids (ordered keys rows) ∙ length_permutation rows (ordered keys rows) (same_rows keys rows)

-- the ids of a slice are the slice of the ids
pub slice_ids : (start count : ℕ) (rows : List ObjectRow) → ids_of (take count (drop start rows)) ≡ take count (drop start (ids_of rows))
slice_ids start count rows =
    sym (ap (take count) (drop-map (λ (r : ObjectRow). r.id) start rows) ∙ take-map (λ (r : ObjectRow). r.id) count (drop start rows))

pub page_is : (number : ℕ) (rows : List ObjectRow) (row : ObjectRow) (keys : List SortKey) (start count : ℕ) (matches : List ObjectRow) (ids : List ℕ) (update : ℕ)
    → ids ≡ ids_of (ordered keys matches) → update ≡ update_of number row rows
    → made (take (most_rows count) (drop start ids)) (length ids) update ≡ page_of number rows row keys start count matches
page_is number rows row keys start count matches ids update are told =
    same_page (take (most_rows count) (drop start ids)) (ids_of (take (most_rows count) (drop start (ordered keys matches)))) (length ids) (length matches) update
    (update_of number row rows)
    (ap (λ (l : List ℕ). take (most_rows count) (drop start l)) are ∙ sym (slice_ids start (most_rows count) (ordered keys matches)))
    (ap length are ∙ length_ordered keys matches) told

-- ---- there are few of them

filtered_few : (test : ObjectRow → Bool) (rows : List ObjectRow) → length (filter test rows) ≤ length rows
filtered_few test rows = let long = length-filter test rows in let most = count_by-le-length test rows in omega (arith, long, most)

few : (keys : List SortKey) (matches rows : List ObjectRow) (ids : List ℕ) → ids ≡ ids_of (ordered keys matches) → length matches ≤ length rows → length rows < 2 ^ 32
    → length ids < 2 ^ 32
few keys matches rows ids are most fits = let long = ap length are in let same = length_ordered keys matches in omega (arith, long, same, most, fits)

pub few_children : (keys : List SortKey) (id : ℕ) (rows : List ObjectRow) (ids : List ℕ) → ids ≡ ids_of (ordered keys (children_of id rows)) → length rows < 2 ^ 32
    → length ids < 2 ^ 32
few_children keys id rows ids are fits = few keys (children_of id rows) rows ids are (filtered_few (is_child_of id) rows) fits

pub few_found : (keys : List SortKey) (criteria : Criteria) (id : ℕ) (rows : List ObjectRow) (ids : List ℕ) → ids ≡ ids_of (ordered keys (found_in criteria id rows))
    → length rows < 2 ^ 32 → length ids < 2 ^ 32
few_found keys criteria id rows ids are fits =
    few keys (found_in criteria id rows) rows ids are
    (let below = filtered_few (is_below rows id) rows in let met = filtered_few (meets criteria) (descendants id rows) in omega (arith, below, met)) fits
