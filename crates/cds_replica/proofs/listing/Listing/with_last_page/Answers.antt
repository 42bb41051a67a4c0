use Rattle.std.proofs.Common.{◌≡◌, ◌++◌, drop, rules}
use Rattle.cds_load.specs.Stages.{put_rows, put_containers}
use Rattle.cds_replica.specs.Holding.{listing_in}
use Rattle.cds_replica.proofs.Listings.{listed-on}
use Rattle.cds_replica.proofs.listing.Listing.with_last_page.Goals as goal

pub returns-clause-ok : goal.returns-clause-ok
returns-clause-ok c number =
    let rows : c.put_objects.new.rows.items ≡ put_rows (c.args.self.part.items ++ c.args.page.items) c.args.self.rows.items = search rules in
    let waiting : c.put_objects.new.waiting.items ≡ put_containers (c.args.self.part.items ++ c.args.page.items) (drop 1 c.args.self.waiting.items) = search rules in
    listed-on number (listing_in c.args.self) c.args.page.items c.put_objects.new.rows.items c.new-part.result.items c.put_objects.new.waiting.items c.requires.goes_on c.new-part.ensures.items
    rows waiting
