use Rattle.std.proofs.Common.{◌≡◌, take, drop}
use Rattle.cds_load.specs.Stages.{all_new, known_ids}
use Rattle.cds_replica.specs.Holding.{listing_in}
use Rattle.cds_replica.proofs.Pages.{ids_after}
use Rattle.cds_replica.proofs.listing.Listing.are_new.Given as goal

-- the answer is that on the rest, where the ids so far are known too
abbrev pub invariant-loop-at : goal.invariant-loop-at
invariant-loop-at l =
    all_new (known_ids (listing_in l.self)) l.page ≡ all_new (ids_after (take l.at l.page) (known_ids (listing_in l.self))) (drop l.at l.page)
