use Rattle.std.proofs.Common.{◌≡◌, length, arith}
use Rattle.std.proofs.lemmas.Bool.{eqb-true}
use Rattle.cds_replica.proofs.listing.Listing.fits.Goals as goal

pub returns-then-are_new-clause-short : goal.returns-then-are_new-clause-short
returns-then-are_new-clause-short c =
    λ same.
    let as_many : length c.args.page.now ≡ c.next_page_len.result = eqb-true _ _ same in
    omega (arith, c.next_page_len.ensures.short)
