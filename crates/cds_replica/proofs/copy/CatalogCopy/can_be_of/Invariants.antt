use Rattle.std.proofs.Common.{◌≡◌, map, drop}
use Rattle.cds_follow.specs.Copy.{known_of}
use Rattle.cds_follow.specs.Follow.{is_of}
use Rattle.cds_replica.specs.CopyState.{KeptRow}
use Rattle.cds_replica.proofs.copy.CatalogCopy.can_be_of.Given as goal

abbrev pub invariant-loop-kept : goal.invariant-loop-kept
invariant-loop-kept l =
    is_of l.id l.row (known_of l.id (map (λ (kept : KeptRow). kept.row) (drop l.kept-index l.kept-items)))
    ≡ is_of l.id l.row (known_of l.id (map (λ (kept : KeptRow). kept.row) l.kept-items))
