use Rattle.std.proofs.Common.{refl}
use Rattle.std.specs.Char.{encode_utf8}
use Rattle.std.specs.Str.{chars, is_utf8}
use Rattle.url.proofs.OnLiterals.{url_on_literals}
use Rattle.cds_ssdp.specs.Finding.{found_by}
use Rattle.cds_ssdp.proofs.examples.replies_tell.Goals as goal

pub returns : goal.returns
unfolding url_on_literals chars is_utf8 encode_utf8 found_by
returns c = (refl, refl, refl, refl)
