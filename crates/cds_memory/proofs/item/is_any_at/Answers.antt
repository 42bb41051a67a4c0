use Rattle.std.proofs.Common.{sym, ◌∙◌}
use Rattle.cds_outside.specs.Entries.{is_at}
use Rattle.cds_memory.specs.Folders.{entry_of}
use Rattle.cds_memory.proofs.Items.{any_of_map}
use Rattle.cds_memory.proofs.item.is_any_at.Goals as goal

pub returns : goal.returns
returns c = c.any_at.ensures ∙ sym (any_of_map (is_at c.args.path.now) entry_of c.args.items.now)
