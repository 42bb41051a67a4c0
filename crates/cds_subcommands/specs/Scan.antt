-- What `scan` answers to a folder (this project's profile).
use Rattle.std.specs.Prelude.{◌≡◌, ◌⊎◌, ◌≤◌, ℕ, List, [], ◌∷◌, ◌++◌, Option, Some, codes}
use Rattle.std.specs.List.{count_by, flat_map}
use Rattle.cds_outside.specs.Asked.{Asked, ForFolder}
use Rattle.cds_outside.specs.Entries.{FolderTold}
use Rattle.cds_outside.specs.Outside.{Told}
use Rattle.cds_object.specs.Fragment.{full_text}
use Rattle.cds_object.specs.declared.record.Record.{Record}
use Rattle.cds_catalog.specs.Catalog.{catalog}
use Rattle.cds_catalog.specs.History.{History}
use Rattle.cds_catalog.specs.Library.{map_of}
use Rattle.cds_script.specs.Report.{Ending, limit_ending}
use Rattle.cds_script.specs.Word.{encoded}
use Rattle.cds_scan.specs.Scanning.{Covers, IsScan, IsStop, is_read_fault}
use Rattle.cds_scan.specs.declared.error.ScanError.{ScanError}
use Rattle.cds_scan.specs.declared.scanned.RefusedFile.{RefusedFile}
use Rattle.cds_scan.specs.declared.scanned.Scan.{Scan}
use Rattle.cds_subcommands.specs.Run.{IsFault}

-- the history of one scan that found these records, from the first number 0
abbrev pub one_scan : List Record → History
one_scan records = record { first = 0; maps = map_of records ∷ [] }

-- the line of a refused file: its path as a word of a script, so that it has no space and no line end
abbrev pub refused_line : RefusedFile → List ℕ
refused_line file = codes "refused " ++ encoded file.path ++ codes "\n"

-- what is written of a scan: each row of its catalog and a line feed, then a line for each refused file
abbrev pub scan_ending : Scan → Ending
scan_ending scan = record { status = 0; text = full_text (catalog (one_scan scan.records)) ++ flat_map refused_line scan.refused }

-- a folder was scanned to its end: what is owed is what the scan found. At most as many files count as not read as the folder
-- counted faults of files
pub record IsWhole (folder : FolderTold) (ending : Ending) : Type 0 where
  pub scan : Scan
  pub found : IsScan folder.tree folder.contents scan
  pub unread : Covers (count_by (λ (file : RefusedFile). is_read_fault file.error) scan.refused) 0 folder.file_faults
  pub owed : ending ≡ scan_ending scan

-- a scan stopped at an entry: a path that no object may have, an object or an entry too many. At most as many files count as not
-- read until there as the folder counted faults of files
pub record IsStopped (folder : FolderTold) (ending : Ending) : Type 0 where
  pub error : ScanError
  pub stop : IsStop folder.tree folder.contents 0 folder.file_faults error
  pub owed : ending ≡ limit_ending

-- a folder came back to the outside, which tells what came back
abbrev pub Returns : Option (List FolderTold) → Option (List FolderTold) → FolderTold → Type 0
Returns before after folder = Told before (λ folders. after ≡ Some (folders ++ folder ∷ []))

-- what is owed for a folder that was scanned and came back
pub record IsOwed (before after : Option (List FolderTold)) (ending : Ending) : Type 0 where
  pub folder : FolderTold
  pub returned : Returns before after folder
  pub owed : IsWhole folder ending ⊎ IsStopped folder ending

-- the status is the one that is owed, or a fault
abbrev pub EndsScan : Option (List FolderTold) → Option (List FolderTold) → ℕ → Type 0
EndsScan ended_old ended_new status = ((ending : Ending) × IsOwed ended_old ended_new ending × (status ≡ ending.status)) ⊎ IsFault status

-- what was written is what is owed, or there was a fault
abbrev pub WritesScan : Option (List FolderTold) → Option (List FolderTold) → ℕ → List ℕ → Option (List ℕ) → Type 0
WritesScan ended_old ended_new status before after =
    ((ending : Ending) × IsOwed ended_old ended_new ending × (status ≡ ending.status) × (after ≡ Some (before ++ ending.text)))
    ⊎ IsFault status

-- the outside was asked for one folder, the one at this path
abbrev pub AsksFor : List ℕ → Option (List Asked) → Option (List Asked) → Type 0
AsksFor path before after = Told before (λ list. after ≡ Some (list ++ ForFolder path ∷ []))

-- a folder that came back has each file that it opened, and gave at most 1,048,577 entries
abbrev pub IsDone : FolderTold → Type 0
IsDone folder = (folder.opened ≡ folder.returned) × (folder.entries ≤ 1048577)

-- no folder was given, or the one that was given came back so
abbrev pub GivesBack : Option (List FolderTold) → Option (List FolderTold) → Type 0
GivesBack before after = (after ≡ before) ⊎ ((folder : FolderTold) × Returns before after folder × IsDone folder)
