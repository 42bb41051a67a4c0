-- Laws of pages, beside their definitions.
use Rattle.std.specs.Prelude.{◌≡◌, ◌≢◌, ◌+◌, ◌≤◌, ◌<◌, ℕ, List, [], ◌∷◌, length, take, Some, Result, Ok}
use Rattle.std.specs.List.{flat_map, AllPairs}
use Rattle.std.specs.List.Sorted.{IsPermutation}
use Rattle.cds_object.specs.Object.{ObjectRow}
use Rattle.cds_object.specs.Tree.{children_of, IdsAscend}
use Rattle.cds_soap.specs.declared.action.BrowseRequest.{BrowseRequest}
use Rattle.cds_soap.specs.declared.action.SearchRequest.{SearchRequest}
use Rattle.cds_criteria.specs.Criteria.{Criteria}
use Rattle.cds_criteria.specs.Reading.{criteria_read}
use Rattle.cds_criteria.specs.Sorting.{keys_read, ordered}
use Rattle.cds_criteria.specs.declared.sort.SortKey.{SortKey}
use Rattle.cds_browse.specs.declared.error.BrowseError.{BrowseError}
use Rattle.cds_browse.specs.declared.page.Page.{Page}
use Rattle.cds_browse.specs.declared.page.Target.TheVariants.{Itself, Children}
use Rattle.cds_browse.specs.Paging.{row_named, ids_of}
use Rattle.cds_browse.specs.Browsing.{target_named, browse_answer}
use Rattle.cds_browse.specs.Searching.{found_in, search_answer}

-- ---- pages that are asked one after the other

-- the answer to Browse from a place on, for a count
abbrev pub browsed : ℕ → List ObjectRow → BrowseRequest → ℕ → ℕ → Result Page BrowseError
browsed number rows asked start count = browse_answer number rows (record asked { start = start; count = count })

-- the answer to Search from a place on, for a count
abbrev pub searched : ℕ → List ObjectRow → SearchRequest → ℕ → ℕ → Result Page BrowseError
searched number rows asked start count = search_answer number rows (record asked { start = start; count = count })

-- Each page begins at the place at which those before it ended, and has a count of its own.
abbrev pub InTurn : (ℕ → ℕ → Result Page BrowseError) → ℕ → List (ℕ × Page) → Type 0
InTurn answer start [] = Unit {0}
InTurn answer start (next ∷ others) = (answer start next.0 ≡ Ok next.1) × InTurn answer (start + length next.1.ids) others

-- the ids of all these pages together
abbrev pub shown_by : List (ℕ × Page) → List ℕ
shown_by pages = flat_map (λ next. next.1.ids) pages

-- Pages from the first place on show the first of the rows that match, in the order of the keys, and none twice. Once they are as
-- many as the total, they show every row that matches, each in exactly one place. Without keys the ids rise.
pub record ShowsEach (keys : List SortKey) (matches : List ObjectRow) (pages : List (ℕ × Page)) : Type 0 where
  pub first : shown_by pages ≡ take (length (shown_by pages)) (ids_of (ordered keys matches))
  pub once : AllPairs (λ (one later : ℕ). one ≢ later) (shown_by pages)
  pub whole : length (shown_by pages) ≡ length matches → shown_by pages ≡ ids_of (ordered keys matches)
  pub every : length (shown_by pages) ≡ length matches → IsPermutation (ids_of matches) (shown_by pages)
  pub rising : keys ≡ [] → AllPairs (λ (one later : ℕ). one < later) (shown_by pages)

abbrev pub pages_show_each_child_once : Type 0
pages_show_each_child_once =
    (number : ℕ) (rows : List ObjectRow) (asked : BrowseRequest) (container : ObjectRow) (keys : List SortKey) (pages : List (ℕ × Page))
    → IdsAscend rows → target_named asked.flag ≡ Some Children → row_named asked.object rows ≡ Some container → keys_read asked.sort ≡ Ok keys
    → InTurn (browsed number rows asked) 0 pages → ShowsEach keys (children_of container.id rows) pages

abbrev pub pages_show_each_match_once : Type 0
pages_show_each_match_once =
    (number : ℕ) (rows : List ObjectRow) (asked : SearchRequest) (container : ObjectRow) (criteria : Criteria) (keys : List SortKey) (pages : List (ℕ × Page))
    → IdsAscend rows → row_named asked.container rows ≡ Some container → criteria_read asked.criteria ≡ Ok criteria → keys_read asked.sort ≡ Ok keys
    → InTurn (searched number rows asked) 0 pages → ShowsEach keys (found_in criteria container.id rows) pages

-- ---- one page

-- A page has at most 4,096 rows, and no more than the total. If a count above 0 was asked for, it has at most that many. It has
-- no row only if it begins at the total or after it.
pub record IsBounded (start count : ℕ) (page : Page) : Type 0 where
  pub longest : length page.ids ≤ 4096
  pub counted : 0 < count → length page.ids ≤ count
  pub within : length page.ids ≤ page.total
  pub advances : start < page.total → 0 < length page.ids

abbrev pub pages_are_bounded : Type 0
pages_are_bounded =
    (number : ℕ) (rows : List ObjectRow) (asked : BrowseRequest) (page : Page) → browse_answer number rows asked ≡ Ok page →
    IsBounded asked.start asked.count page

abbrev pub found_pages_are_bounded : Type 0
found_pages_are_bounded =
    (number : ℕ) (rows : List ObjectRow) (asked : SearchRequest) (page : Page) → search_answer number rows asked ≡ Ok page →
    IsBounded asked.start asked.count page

-- The page of an object itself is its one row, whatever count is asked for.
abbrev pub an_object_is_one_row : Type 0
an_object_is_one_row =
    (number : ℕ) (rows : List ObjectRow) (asked : BrowseRequest) (row : ObjectRow) (page : Page) → IdsAscend rows →
    target_named asked.flag ≡ Some Itself → row_named asked.object rows ≡ Some row → browse_answer number rows asked ≡ Ok page →
    (page.ids ≡ row.id ∷ []) × (page.total ≡ 1)
