use Rattle.cds_catalog.proofs.Numbers.{equal_ends_equal_changes, equal_ends_equal_maps, equal_ends_equal_catalogs}
use Rattle.cds_catalog.proofs.laws.equal_numbers_have_equal_catalogs.Goals as goal

pub returns : goal.returns
returns c = λ first newer older all ends.
    (equal_ends_equal_changes first newer older ends, equal_ends_equal_maps first newer older all ends, equal_ends_equal_catalogs first newer older all ends)
