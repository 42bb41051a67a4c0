-- What the parts of `scan` owe to each other.
use Rattle.std.specs.Prelude.{◌≡◌, ◌⊎◌, ◌≤◌, ⊤, ℕ, List, [], ◌∷◌, ◌++◌, length, Option, Some, None, Result, Ok, Err}
use Rattle.cds_outside.specs.Entries.{FolderTold}
use Rattle.cds_object.specs.Fragment.{fragment}
use Rattle.cds_object.specs.Object.{ObjectRow}
use Rattle.cds_catalog.specs.Scans.{bad_record}
use Rattle.cds_script.specs.Report.{limit_ending}
use Rattle.cds_scan.specs.declared.error.ScanError.{ScanError}
use Rattle.cds_scan.specs.declared.error.ScanError.TheVariants.{FolderFault, TooDeep, Full, TooMany, Mem}
use Rattle.cds_scan.specs.declared.scanned.Scan.{Scan}
use Rattle.cds_subcommands.specs.Run.{Ends, Writes}
use Rattle.cds_subcommands.specs.Scan.{IsDone, Returns, scan_ending}

-- records that all can stand, and that are not too many
abbrev pub CanStand : Scan → Type 0
CanStand scan = (bad_record scan.records ≡ None) × (length scan.records ≤ 65535)

-- the status by what a scan answered
abbrev pub EndsFound : Result Scan ScanError → ℕ → Type 0
EndsFound (Ok scan) status = Ends status 0
EndsFound (Err FolderFault) status = status ≡ 2
EndsFound (Err Mem) status = status ≡ 4
EndsFound (Err (TooDeep bytes)) status = Ends status 6
EndsFound (Err (Full objects)) status = Ends status 6
EndsFound (Err TooMany) status = Ends status 6

-- what is written of that; of a fault nothing is owed
abbrev pub WritesFound : Result Scan ScanError → ℕ → List ℕ → Option (List ℕ) → Type 0
WritesFound (Ok scan) status before after = Writes status (scan_ending scan).text before after
WritesFound (Err FolderFault) status before after = ⊤
WritesFound (Err Mem) status before after = ⊤
WritesFound (Err (TooDeep bytes)) status before after = Writes status limit_ending.text before after
WritesFound (Err (Full objects)) status before after = Writes status limit_ending.text before after
WritesFound (Err TooMany) status before after = Writes status limit_ending.text before after

-- one folder came back, with all its files
abbrev pub ReturnsDone : Option (List FolderTold) → Option (List FolderTold) → Type 0
ReturnsDone before after = (folder : FolderTold) × Returns before after folder × IsDone folder

-- the line of a row, if there is one
abbrev pub line_of : Option ObjectRow → List ℕ
line_of None = []
line_of (Some row) = fragment row ++ 10 ∷ []
