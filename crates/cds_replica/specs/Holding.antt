-- What a replica's state stands for.
use Rattle.std.specs.Prelude.{◌≡◌, List, ◌++◌}
use Rattle.std.specs.Global.{Vec}
use Rattle.cds_object.specs.Object.{ObjectRow}
use Rattle.cds_load.specs.Stages.{Held, Loads, Listing as Progress, Idle as HoldsNothing, Begun as HoldsBegun, HasToken as HoldsToken, HasNumber as HoldsNumber, HasRoot as HoldsRoot, Lists as HoldsListing, HasPage as HoldsPage}
use Rattle.cds_replica.specs.declared.listing.Listing.{Listing}
use Rattle.cds_replica.specs.declared.stage.Stage.{Stage}
use Rattle.cds_replica.specs.declared.stage.Stage.TheVariants.{Idle, Begun, HasToken, HasNumber, HasRoot, Lists, HasPage}

-- the listing that a replica's lists stand for
abbrev pub listing_in : Listing → Progress
listing_in listing = record { rows = listing.rows.items; waiting = listing.waiting.items; part = listing.part.items }

-- the listing with more rows in its part
abbrev pub with_part : Progress → List ObjectRow → Progress
with_part listing page = record { rows = listing.rows; waiting = listing.waiting; part = listing.part ++ page }

-- a listing and a page as they were
abbrev pub GivesBack : Listing → Vec ObjectRow → Listing × Vec ObjectRow → Type 0
GivesBack listing page back = (listing_in back.0 ≡ listing_in listing) × (back.1.items ≡ page.items)

-- what is held in each stage of a load
abbrev pub held_in : Stage → Held
held_in Idle = HoldsNothing
held_in Begun = Loads HoldsBegun
held_in HasToken = Loads HoldsToken
held_in (HasNumber number) = Loads (HoldsNumber number)
held_in (HasRoot number root) = Loads (HoldsRoot number root)
held_in (Lists number listing) = Loads (HoldsListing number (listing_in listing))
held_in (HasPage number listing page) = Loads (HoldsPage number (listing_in listing) page)
