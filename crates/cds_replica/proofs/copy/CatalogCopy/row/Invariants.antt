use Rattle.std.proofs.Common.{◌≡◌, map, drop}
use Rattle.std.specs.Prelude.{slice_get}
use Rattle.std.specs.List.{filter_map}
use Rattle.cds_follow.specs.Copy.{shown_row}
use Rattle.cds_replica.specs.CopyState.{KeptRow}
use Rattle.cds_replica.proofs.copy.CatalogCopy.row.Given as goal

-- so many known rows are still to be passed
abbrev pub invariant-loop-row : goal.invariant-loop-row
invariant-loop-row l =
    slice_get (filter_map shown_row (map (λ (kept : KeptRow). kept.row) (drop l.row-index l.row-items))) l.left
    ≡ slice_get (filter_map shown_row (map (λ (kept : KeptRow). kept.row) l.row-items)) l.at
