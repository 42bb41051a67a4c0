use Rattle.std.proofs.Common.{refl}
use Rattle.std.specs.Char.{encode_utf8}
use Rattle.std.specs.Str.{chars, is_utf8}
use Rattle.cds_ssdp.specs.Finding.{found_by}
use Rattle.cds_ssdp.proofs.examples.others_tell_nothing.Goals as goal

pub returns : goal.returns
unfolding chars is_utf8 encode_utf8 found_by
returns c = (refl, refl, refl, refl, refl, refl, refl, refl, refl, refl, refl)
