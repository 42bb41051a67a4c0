use Rattle.std.proofs.Common.{refl}
use Rattle.url.proofs.OnLiterals.{url_on_literals}
use Rattle.cds_ssdp.proofs.examples.locations_are_addresses.Goals as goal

pub returns : goal.returns
unfolding url_on_literals
returns c = (refl, refl, refl, refl, refl, refl, refl, refl, refl, refl, refl, refl)
