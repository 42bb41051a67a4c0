use Rattle.std.proofs.Common.{sym, subst}
use Rattle.cds_outside.specs.declared.folder.Entry.{Entry}
use Rattle.cds_outside.specs.Entries.{IsEntryBehind}
use Rattle.cds_memory.specs.Folders.{entries_of}
use Rattle.cds_memory.proofs.Items.{is_entry_behind}
use Rattle.cds_memory.proofs.item.entry_behind.Goals as goal

pub returns : goal.returns
returns c =
    let P : Entry → Type 0 = λ e. IsEntryBehind (entries_of c.args.items.now) c.args.at e in
    subst P (sym c.in_ok-entry.ensures) (is_entry_behind c.args.items.now c.args.at c.index-items-at.result c.requires c.index-items-at.is)
