use Rattle.std.proofs.Common.{ap, ◌∙◌}
use Rattle.cds_gena.specs.Leased.{lease_in}
use Rattle.cds_replay.proofs.events.lease_of.Goals as goal

pub returns : goal.returns
returns c = (c.requires.0, c.requires.1, c.read_lease.ensures ∙ ap lease_in (c.in_ok-message.ensures c.requires.0 c.requires.1))
