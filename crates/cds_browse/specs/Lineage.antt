-- Where the parents of a row lead, found row by row.
use Rattle.std.specs.Prelude.{◌≡◌, ◌<◌, ◌&&◌, ℕ, suc, Bool, cond, nat_eq, List, length, slice_get, slice_index_or, Option, Some, None, MatchOption}
use Rattle.cds_object.specs.Object.{ObjectRow}
use Rattle.cds_criteria.specs.Criteria.{Criteria}
use Rattle.cds_criteria.specs.Descendants.{parent_in, leads_within, is_below}
use Rattle.cds_criteria.specs.Meaning.{meets}
use Rattle.cds_browse.specs.declared.descendants.Last.{Last}
use Rattle.cds_browse.specs.declared.descendants.Next.{Next}
use Rattle.cds_browse.specs.declared.descendants.Next.TheVariants.{Answer, Further}

-- whether the parents of the row at a place lead to a container in at most this many steps
abbrev pub leads_from : ℕ → List ObjectRow → ℕ → ℕ → Bool
leads_from steps rows container place = leads_within steps rows container (parent_in (slice_get rows place))

-- whether they lead there at all
abbrev pub leads : List ObjectRow → ℕ → ℕ → Bool
leads rows container place = leads_from (length rows) rows container place

-- the answer of the row at a place, or the place of its parent's row, from which the way goes on
abbrev pub LeadsTo : List ObjectRow → ℕ → ℕ → Next → Type 0
LeadsTo rows container place (Answer below) = leads rows container place ≡ below
LeadsTo rows container place (Further next) =
    (next < length rows) × ((steps : ℕ) → leads_from (suc steps) rows container place ≡ leads_from steps rows container next)

-- whether all that is known of the rows is so
abbrev pub Knows : List ObjectRow → ℕ → ℕ → Option Bool → Type 0
Knows rows container place known = MatchOption known (Unit {0}) (λ below. leads rows container place ≡ below)

pub record AreKnown (rows : List ObjectRow) (container : ℕ) (known : List (Option Bool)) : Type 0 where
  pub long : length known ≡ length rows
  pub right : (place : ℕ) (d : Option Bool) → place < length rows → Knows rows container place (slice_index_or known place d)

-- whether the last answer is that of each row with this parent
abbrev pub IsLast : List ObjectRow → ℕ → Option Last → Type 0
IsLast rows container last =
    MatchOption last (Unit {0}) (λ (l : Last). leads_within (length rows) rows container (Some l.parent) ≡ l.below)

-- the last answer, if it was that of a row with this parent
abbrev pub last_of : ℕ → Option Last → Option Bool
last_of parent None = None
last_of parent (Some last) = cond (nat_eq last.parent parent) (Some last.below) None

-- whether a row meets criteria and is below a container
abbrev pub is_found : Criteria → ℕ → List ObjectRow → ObjectRow → Bool
is_found criteria container rows row = meets criteria row && is_below rows container row
