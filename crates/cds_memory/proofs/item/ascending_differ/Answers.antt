use Rattle.std.proofs.Common.{sym, ◌∙◌}
use Rattle.cds_memory.proofs.Ascending.{ascending_differ}
use Rattle.cds_memory.proofs.item.ascending_differ.Goals as goal

pub returns : goal.returns
returns c = λ is_so. ascending_differ c.args.items.now (sym c.is_ascending.ensures ∙ is_so)
