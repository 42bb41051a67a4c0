use Rattle.std.proofs.Common.{◌≡◌, true, nat_eq, length, ◌++◌, ◌∙◌, sym}
use Rattle.std.proofs.lemmas.Result.{IfOk-weaker}
use Rattle.cds_load.specs.Stages.{listed_children}
use Rattle.cds_replica.specs.Holding.{listing_in}
use Rattle.cds_replica.proofs.Listings.{page-on}
use Rattle.cds_replica.proofs.listing.Listing.with_page.Goals as goal

pub returns-then-is_last-clause-ok : goal.returns-then-is_last-clause-ok
returns-then-is_last-clause-ok c =
    let last : nat_eq (length (c.args.self.part.items ++ c.args.page.items)) (listed_children (listing_in c.args.self)) ≡ true =
    (λ i. nat_eq (length (c.args.self.part.items ++ sym c.as_slice.ensures.value i)) (listed_children (listing_in c.args.self))) ∙ sym c.is_last.ensures ∙ c.if-is_last.true in
    IfOk-weaker c.with_last_page.result _ _ (λ listing h number. page-on number (listing_in c.args.self) (listing_in listing) c.args.page.items last (h number)) c.with_last_page.ensures.ok
