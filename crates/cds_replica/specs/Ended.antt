-- The end of a load: the changes that notes told meanwhile are counted on the copy that it gives.
use Rattle.std.specs.Prelude.{◌≡◌, ◌+◌, ◌≤◌, ◌&&◌, ℕ, Bool, not, nat_le, is_some, List, [], ◌++◌, map, length, vec_capacity}
use Rattle.std.specs.List.{AllByRecursion, list_any}
use Rattle.std.specs.Global.{Vec}
use Rattle.cds_object.specs.Object.{ObjectRow}
use Rattle.cds_object.specs.declared.event.Event.{Event}
use Rattle.cds_load.specs.Outcome.{Outcome, Goes, Jumps, Tears}
use Rattle.cds_load.specs.Stages.{Listing as Progress, put_rows}
use Rattle.cds_commands.specs.Notes.{changes_above}
use Rattle.cds_replica.specs.CopyState.{KeptCopy, copy_of}
use Rattle.cds_replica.specs.CopySteps.{loaded_row, rows_changed_by, additions, AddsNoRoot, count_from}
use Rattle.cds_replica.specs.Holding.{listing_in}
use Rattle.cds_replica.specs.declared.count_error.CountError.{CountError}
use Rattle.cds_replica.specs.declared.count_error.CountError.TheVariants.{Jump, Torn, Mem}
use Rattle.cds_replica.specs.declared.ending.Ending.{Ending}
use Rattle.cds_replica.specs.declared.listing.Listing.{Listing}

-- what becomes of the changes above the number that a load read, of those kept meanwhile, on its rows
abbrev pub end_count : List ObjectRow → ℕ → List Event → Outcome KeptCopy
end_count rows number kept = count_from (copy_of rows []) number (changes_above number kept)

-- the rows of a listing with its part and a page
abbrev pub whole_rows : Progress → List ObjectRow → List ObjectRow
whole_rows listing page = put_rows (listing.part ++ page) listing.rows

-- whether a load ends with a page that is its container's last: no other container waits, and none was shown under this one
abbrev pub tracks : ObjectRow → Bool
tracks row = is_some row.trackers

abbrev pub is_end : Progress → List ObjectRow → Bool
is_end listing page = nat_le (length listing.waiting) 1 && not (list_any tracks listing.part) && not (list_any tracks page)

-- a refusal is what becomes of changes; or that memory ran out
abbrev pub IsRefusal : Outcome KeptCopy → CountError → Type 0
IsRefusal becomes (Jump expected first) = becomes ≡ Jumps expected first
IsRefusal becomes (Torn id) = becomes ≡ Tears id
IsRefusal becomes Mem = Unit {0}

-- an end is prepared for rows: its changes are counted on them, and there is room for all of it
pub record IsReady (rows : List ObjectRow) (number : ℕ) (kept : List Event) (ending : Ending) : Type 0 where
  pub counts : end_count rows number kept ≡ Goes (record { rows = rows_changed_by (map loaded_row rows) ending.changes.items; read_up_to = 0 })
  pub above : AllByRecursion AddsNoRoot ending.changes.items
  pub empty : ending.rows.items ≡ []
  pub room : length rows + additions ending.changes.items ≤ vec_capacity ending.rows

-- a listing and a page as they were, with a refusal
abbrev pub GivesBackRefused : Listing → Vec ObjectRow → ℕ → List Event → Listing × Vec ObjectRow × CountError → Type 0
GivesBackRefused listing page number kept back =
    (listing_in back.0 ≡ listing_in listing) × (back.1.items ≡ page.items)
    × IsRefusal (end_count (whole_rows (listing_in listing) page.items) number kept) back.2
