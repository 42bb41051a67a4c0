-- What Search is answered with, counted over all rows (UPnP ContentDirectory:4 on Search). The order of checks is this project's
-- profile.
use Rattle.std.specs.Prelude.{ℕ, cond, List, filter, Option, Some, None, Result, Ok, Err}
use Rattle.cds_object.specs.Object.{ObjectRow, is_folder}
use Rattle.cds_soap.specs.declared.action.SearchRequest.{SearchRequest}
use Rattle.cds_criteria.specs.Criteria.{Criteria}
use Rattle.cds_criteria.specs.Descendants.{descendants}
use Rattle.cds_criteria.specs.Meaning.{meets}
use Rattle.cds_criteria.specs.Reading.{criteria_read}
use Rattle.cds_criteria.specs.Sorting.{keys_read}
use Rattle.cds_browse.specs.declared.page.Page.{Page}
use Rattle.cds_browse.specs.declared.error.BrowseError.{BrowseError}
use Rattle.cds_browse.specs.declared.error.BrowseError.TheVariants.{NoContainer, BadCriteria}
use Rattle.cds_browse.specs.Paging.{row_named, sorted_page}

-- only a container can be searched in
abbrev pub container_in : Option ObjectRow → Option ObjectRow
container_in None = None
container_in (Some row) = cond (is_folder row.content) (Some row) None

-- the descendants of a container that meet criteria, in the order of the rows
abbrev pub found_in : Criteria → ℕ → List ObjectRow → List ObjectRow
found_in criteria container rows = filter (meets criteria) (descendants container rows)

-- ---- the answer, by the checks in their order

abbrev pub criteria_answer : ℕ → List ObjectRow → SearchRequest → ObjectRow → Result Criteria ℕ → Result Page BrowseError
criteria_answer number rows asked row (Err at) = Err (BadCriteria at)
criteria_answer number rows asked row (Ok criteria) =
    sorted_page number rows row asked.start asked.count (found_in criteria row.id rows) (keys_read asked.sort)

abbrev pub container_answer : ℕ → List ObjectRow → SearchRequest → Option ObjectRow → Result Page BrowseError
container_answer number rows asked None = Err NoContainer
container_answer number rows asked (Some row) = criteria_answer number rows asked row (criteria_read asked.criteria)

-- what Search is answered with, if this is the newest number and these are all rows in ascending order of ids
abbrev pub search_answer : ℕ → List ObjectRow → SearchRequest → Result Page BrowseError
search_answer number rows asked = container_answer number rows asked (container_in (row_named asked.container rows))
