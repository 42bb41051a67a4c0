-- What Browse is answered with, counted over all rows (UPnP ContentDirectory:4 on Browse). The order of checks is this project's
-- profile.
use Rattle.std.specs.Prelude.{ℕ, Bool, true, cond, nat_eq, List, filter, codes, Option, Some, None, Result, Err}
use Rattle.std.specs.Str.{bytes_eq}
use Rattle.cds_object.specs.Object.{ObjectRow, is_folder}
use Rattle.cds_object.specs.Tree.{children_of}
use Rattle.cds_soap.specs.declared.action.BrowseRequest.{BrowseRequest}
use Rattle.cds_criteria.specs.Sorting.{keys_read}
use Rattle.cds_browse.specs.declared.page.Page.{Page}
use Rattle.cds_browse.specs.declared.error.BrowseError.{BrowseError}
use Rattle.cds_browse.specs.declared.error.BrowseError.TheVariants.{InvalidArgs, NoObject, NoContainer}
use Rattle.cds_browse.specs.declared.page.Target.{Target}
use Rattle.cds_browse.specs.declared.page.Target.TheVariants.{Itself, Children}
use Rattle.cds_browse.specs.Paging.{row_named, sorted_page}

-- ---- what is asked

-- the object itself or its children, by the flag
abbrev pub target_named : List ℕ → Option Target
target_named flag =
    cond (bytes_eq flag (codes "BrowseMetadata")) (Some Itself) (cond (bytes_eq flag (codes "BrowseDirectChildren")) (Some Children) None)

-- An object itself can be asked only from the place 0.
abbrev pub target_at : ℕ → Option Target → Option Target
target_at start None = None
target_at start (Some Itself) = cond (nat_eq start 0) (Some Itself) None
target_at start (Some Children) = Some Children

abbrev pub target_asked : BrowseRequest → Option Target
target_asked asked = target_at asked.start (target_named asked.flag)

-- whether an object has what is asked of it: only containers have children
abbrev pub can_answer : Target → ObjectRow → Bool
can_answer Itself row = true
can_answer Children row = is_folder row.content

-- the rows that match, among all rows in ascending order of ids
abbrev pub matches : Target → ObjectRow → List ObjectRow → List ObjectRow
matches Itself row rows = filter (λ other. nat_eq other.id row.id) rows
matches Children row rows = children_of row.id rows

-- ---- the answer, by the checks in their order

abbrev pub row_answer : ℕ → List ObjectRow → BrowseRequest → Target → Option ObjectRow → Result Page BrowseError
row_answer number rows asked target None = Err NoObject
row_answer number rows asked target (Some row) =
    cond (can_answer target row) (sorted_page number rows row asked.start asked.count (matches target row rows) (keys_read asked.sort))
    (Err NoContainer)

abbrev pub target_answer : ℕ → List ObjectRow → BrowseRequest → Option Target → Result Page BrowseError
target_answer number rows asked None = Err InvalidArgs
target_answer number rows asked (Some target) = row_answer number rows asked target (row_named asked.object rows)

-- what Browse is answered with, if this is the newest number and these are all rows in ascending order of ids
abbrev pub browse_answer : ℕ → List ObjectRow → BrowseRequest → Result Page BrowseError
browse_answer number rows asked = target_answer number rows asked (target_asked asked)
