use Rattle.std.proofs.Common.{sym, ◌∙◌}
use Rattle.cds_outside.specs.Entries.{is_held}
use Rattle.cds_memory.specs.Folders.{entry_of, entries_of}
use Rattle.cds_memory.proofs.Items.{all_of_map}
use Rattle.cds_memory.proofs.item.all_are_held.Goals as goal

pub returns : goal.returns
returns c = c.all_held.ensures ∙ sym (all_of_map (is_held (entries_of c.args.items.now)) entry_of c.args.items.now)
