use Rattle.std.proofs.Common.{List, subst}
use Rattle.std.specs.Bool.{IsTrue}
use Rattle.cds_memory.specs.declared.item.MemItem.{MemItem}
use Rattle.cds_outside.specs.Entries.{IsEntryBehind, is_new}
use Rattle.cds_memory.specs.Folders.{FolderState, entries_of, given_of}
use Rattle.cds_memory.proofs.Items.{on_entry, new_behind}
use Rattle.cds_memory.proofs.folder.MemFolderFolder.entry.Goals as goal

pub returns-in-Ok-clause-new : goal.returns-in-Ok-clause-new
returns-in-Ok-clause-new c =
    let entry = c.in-Ok.entry in
    let Behind : List MemItem → Type 0 = λ items. IsEntryBehind (entries_of items) c.self.inside.at entry in
    let behind : IsEntryBehind (entries_of c.self.inside.items) c.self.inside.at entry = subst Behind c.as_slice-2.ensures c.in-Ok.ensures in
    let New : FolderState → Type 0 = λ folder. IsTrue (is_new (given_of folder) entry) in
    on_entry entry _ _ c.in-Ok.ensures.there (
    subst New c.self.view_is (new_behind (entries_of c.self.inside.items) c.self.inside.at entry c.self.invariant.1 behind)
    )
