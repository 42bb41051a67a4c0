-- Pages of rows, and the update number of the object that was asked for (UPnP ContentDirectory:4 on TotalMatches and UpdateID). The
-- form of ids and the longest page are this project's profile.
use Rattle.std.specs.Prelude.{◌≡◌, ◌⊎◌, ℕ, Bool, cond, nat_eq, min, List, map, take, drop, length, Option, Result, Ok, Err}
use Rattle.std.specs.List.{find}
use Rattle.std.specs.Str.{bytes_eq}
use Rattle.std.specs.Fmt.{decimal}
use Rattle.cds_object.specs.Object.{ObjectRow}
use Rattle.cds_object.specs.Updates.{update_of}
use Rattle.cds_criteria.specs.Sorting.{ordered}
use Rattle.cds_criteria.specs.declared.sort.SortKey.{SortKey}
use Rattle.cds_browse.specs.declared.page.Page.{Page}
use Rattle.cds_browse.specs.declared.error.BrowseError.{BrowseError}
use Rattle.cds_browse.specs.declared.error.BrowseError.TheVariants.{BadSort, Mem}

-- ---- the object that is asked for

-- the object whose id is this text, in plain decimal
abbrev pub has_id_text : List ℕ → ObjectRow → Bool
has_id_text text row = bytes_eq text (decimal row.id)

abbrev pub row_named : List ℕ → List ObjectRow → Option ObjectRow
row_named text rows = find (has_id_text text) rows

-- ---- the page

-- the ids of rows, in their order
abbrev pub ids_of : List ObjectRow → List ℕ
ids_of rows = map (λ (row : ObjectRow). row.id) rows

-- the number of rows of the longest page
abbrev pub longest_page : ℕ
longest_page = 4096

-- the largest number of rows of a page; a count of 0 stands for the longest page
abbrev pub most_rows : ℕ → ℕ
most_rows count = cond (nat_eq count 0) longest_page (min count longest_page)

-- the ids of a slice of the rows that match, in the order of the keys; how many match in all; and the update number of the object
-- that was asked for
abbrev pub page_of : ℕ → List ObjectRow → ObjectRow → List SortKey → ℕ → ℕ → List ObjectRow → Page
page_of number rows row keys start count matches = record {
  ids = ids_of (take (most_rows count) (drop start (ordered keys matches)));
  total = length matches;
  update = update_of number row rows;
}

-- the page, if the sort criteria are in their form
abbrev pub sorted_page : ℕ → List ObjectRow → ObjectRow → ℕ → ℕ → List ObjectRow → Result (List SortKey) ℕ → Result Page BrowseError
sorted_page number rows row start count matches (Err at) = Err (BadSort at)
sorted_page number rows row start count matches (Ok keys) = Ok (page_of number rows row keys start count matches)

-- ---- answers

-- A refusal is the answer that is owed. `Mem` may stand in place of any answer.
abbrev pub IsOwed : Result Page BrowseError → BrowseError → Type 0
IsOwed answer error = (error ≡ Mem) ⊎ (answer ≡ Err error)

-- An answer is the one that is owed, or `Mem`.
abbrev pub Answers : Result Page BrowseError → Result Page BrowseError → Type 0
Answers owed (Ok page) = owed ≡ Ok page
Answers owed (Err error) = IsOwed owed error
