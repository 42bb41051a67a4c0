use Rattle.std.proofs.Common.{ap}
use Rattle.cds_outside.specs.Entries.{FolderTold}
use Rattle.cds_subcommands.proofs.Scanned.{can_stand, gives_back, scan_ends, scan_writes}
use Rattle.cds_subcommands.proofs.scanning.scan_given.Goals as goal

pub write_found-requires : goal.write_found-requires
write_found-requires g c = can_stand c.scan-found.result _ _ c.scan-found.ensures.found c.scan-found.ensures.stands

pub returns-clause-ends : goal.returns-clause-ends
returns-clause-ends g c =
    scan_ends _ _ _ c.scan-found.result _ _ _ _ _ c.end_folder.ensures.ended c.scan-found.ensures.goes.0 c.scan-found.ensures.goes.1
    (ap (λ (t : FolderTold). t.entry_faults) c.requires.unasked) (ap (λ (t : FolderTold). t.file_faults) c.requires.unasked) c.scan-found.ensures.found c.scan-found.ensures.refused c.scan-found.ensures.read_faults
    c.write_found.ensures.ends

pub returns-clause-writes : goal.returns-clause-writes
returns-clause-writes g c = λ bytes held.
    scan_writes _ _ _ c.scan-found.result _ _ _ _ _ bytes _ c.end_folder.ensures.ended c.scan-found.ensures.goes.0 c.scan-found.ensures.goes.1
    (ap (λ (t : FolderTold). t.entry_faults) c.requires.unasked) (ap (λ (t : FolderTold). t.file_faults) c.requires.unasked) c.scan-found.ensures.found c.scan-found.ensures.refused c.scan-found.ensures.read_faults
    c.write_found.ensures.ends (c.write_found.ensures.writes bytes held)

pub returns-clause-back : goal.returns-clause-back
returns-clause-back g c =
    gives_back _ _ _ _ _ _ c.end_folder.ensures.ended (ap (λ (t : FolderTold). t.opened) c.requires.unasked) (ap (λ (t : FolderTold). t.returned) c.requires.unasked) (ap (λ (t : FolderTold). t.entries) c.requires.unasked)
    c.scan-found.ensures.goes.3 c.scan-found.ensures.goes.2
