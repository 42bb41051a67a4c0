-- Where a script's server is asked.
use Rattle.std.proofs.Common.{◌≡◌, None, Ok, refl, sym, ◌∙◌}
use Rattle.std.specs.Prelude.{codes}
use Rattle.url.specs.Parser.{parse_url}
use Rattle.url.specs.Parts.{Parts}
use Rattle.url.proofs.OnLiterals.{url_on_literals}
use Rattle.cds_soap.specs.Written.{host_in}
use Rattle.cds_replay.specs.Events.{control_url}

control-parsed : parse_url None (codes "http://127.0.0.1:49152/control") ≡ Ok control_url
unfolding url_on_literals
control-parsed = refl

pub control-is : (url : Parts) → parse_url None (codes "http://127.0.0.1:49152/control") ≡ Ok url → url ≡ control_url
control-is url is = let e : Ok control_url ≡ Ok url = sym control-parsed ∙ is in cc

pub control-host : host_in control_url ≡ codes "127.0.0.1:49152"
unfolding url_on_literals
control-host = refl
