use Rattle.std.proofs.Common.{◌≡◌, map, filter, drop}
use Rattle.cds_follow.specs.Copy.{least}
use Rattle.cds_replica.specs.CopyState.{kept_id, is_wanted, lesser_of}
use Rattle.cds_replica.proofs.copy.CatalogCopy.unread.Given as goal

-- the least of those so far and of those that are left
abbrev pub invariant-loop-row : goal.invariant-loop-row
invariant-loop-row l =
    lesser_of l.least (least (map kept_id (filter is_wanted (drop l.row-index l.row-items)))) ≡ least (map kept_id (filter is_wanted l.row-items))
