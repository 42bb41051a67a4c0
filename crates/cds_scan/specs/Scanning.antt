-- What a scan of a folder answers.
use Rattle.std.specs.Prelude.{◌≡◌, ◌+◌, ◌-◌, ◌^◌, ◌<◌, ◌≤◌, ◌⊎◌, ℕ, zero, suc, ⊤, Bool, true, false, IsTrue, List, [], ◌∷◌, ◌++◌, length, Option, Err}
use Rattle.std.specs.List.{count_by}
use Rattle.cds_outside.specs.declared.folder.Entry.{Entry}
use Rattle.cds_outside.specs.declared.folder.Entry.TheVariants.{Folder, File, End}
use Rattle.cds_outside.specs.Entries.{Contents, FolderTold, is_tree}
use Rattle.cds_outside.specs.Outside.{Told, Rose, raised}
use Rattle.cds_flac.specs.declared.error.FlacError.{FlacError}
use Rattle.cds_flac.specs.declared.error.FlacError.TheVariants.{ReadFault}
use Rattle.cds_object.specs.declared.record.Record.{Record}
use Rattle.cds_object.specs.Path.{path_read}
use Rattle.cds_catalog.specs.Library.{map_of}
use Rattle.cds_scan.specs.declared.scanned.Scan.{Scan}
use Rattle.cds_scan.specs.declared.error.ScanError.{ScanError}
use Rattle.cds_scan.specs.declared.error.ScanError.TheVariants.{FolderFault, TooDeep, Full, TooMany, Mem}
use Rattle.cds_scan.specs.Outcomes.{AreOutcomes, IsOutcome, Kept, Outcome, records_of, refusals_of}
use Rattle.cds_scan.specs.Found.{Refusals, paired, placed, refusals_from}

-- whether a file could not be read
abbrev pub is_read_fault : FlacError → Bool
is_read_fault ReadFault = true
is_read_fault _ = false

-- A count rose by at least n, or it stands at the last value of a u64.
abbrev pub Covers : ℕ → ℕ → ℕ → Type 0
Covers n old new = (old + n ≤ new) ⊎ (2 ^ 64 - 1 ≤ new)

-- how many of the refused files could not be read
abbrev pub faults_in : Refusals → ℕ
faults_in refusals = count_by (λ entry. is_read_fault entry.1) refusals

-- A scan got through these entries. Each had its outcome, and there were not too many of them, nor too many records.
pub record GotThrough (contents : Option Contents) (seen : List Entry) (outcomes : List Outcome) : Type 0 where
  pub each : AreOutcomes contents seen outcomes
  pub few : length seen ≤ 1048576
  pub room : length (records_of outcomes) ≤ 65535

-- A scan got through a whole tree, and this is what it found.
pub record IsScan (tree : Option (List Entry)) (contents : Option Contents) (scan : Scan) : Type 0 where
  pub seen : List Entry
  pub outcomes : List Outcome
  pub whole : IsTrue (is_tree seen)
  pub told : Told tree (λ entries. entries ≡ seen)
  pub through : GotThrough contents seen outcomes
  pub records : placed scan.records ≡ map_of (records_of outcomes)
  pub refused : paired scan.refused ≡ refusals_from [] (refusals_of outcomes)

-- an entry's path; the end has none
abbrev pub has_path : Entry → List ℕ → Type 0
has_path (Folder own) path = own ≡ path
has_path (File own size) path = own ≡ path
has_path End path = ⊥

-- a path of this many bytes that is no place in the library
pub record IsTooDeep (at : Entry) (bytes : ℕ) : Type 0 where
  pub path : List ℕ
  pub its : has_path at path
  pub long : length path ≡ bytes
  pub place : ℕ
  pub no_path : path_read path ≡ Err place

-- why a scan stops at an entry, after those that it got through
abbrev pub StopsAt : ScanError → Option Contents → List Entry → List Outcome → Entry → Type 0
StopsAt (TooDeep bytes) contents seen outcomes at = (length seen < 1048576) × IsTooDeep at bytes
StopsAt (Full objects) contents seen outcomes at =
    (objects ≡ 65536) × (length seen < 1048576) × (length (records_of outcomes) ≡ 65535)
    × ((kept : Record) × IsOutcome contents at (Kept kept))
StopsAt TooMany contents seen outcomes at = length seen ≡ 1048576
StopsAt FolderFault contents seen outcomes at = ⊥
StopsAt Mem contents seen outcomes at = ⊥

-- A scan stopped at the first entry that is a cause. The files left out until there as not read are at most as many as the
-- folder's count of faults of files rose by.
pub record IsStop (tree : Option (List Entry)) (contents : Option Contents) (before now : ℕ) (error : ScanError) : Type 0 where
  pub seen : List Entry
  pub outcomes : List Outcome
  pub at : Entry
  pub told : Told tree (λ entries. (rest : List Entry) × (entries ≡ seen ++ at ∷ rest))
  pub through : GotThrough contents seen outcomes
  pub unread : Covers (faults_in (refusals_from [] (refusals_of outcomes))) before now
  pub stops : StopsAt error contents seen outcomes at

-- A scan is refused for one of its entries, for a fault of its folder, which the count shows, or because memory ran out. The
-- first two counts are those of faults of entries, and the other two those of faults of files.
abbrev pub IsRefused : Option (List Entry) → Option Contents → ℕ → ℕ → ℕ → ℕ → ScanError → Type 0
IsRefused tree contents old new before now FolderFault = Rose old new
IsRefused tree contents old new before now Mem = ⊤
IsRefused tree contents old new before now (TooDeep bytes) = IsStop tree contents before now (TooDeep bytes)
IsRefused tree contents old new before now (Full objects) = IsStop tree contents before now (Full objects)
IsRefused tree contents old new before now TooMany = IsStop tree contents before now TooMany

-- a count after it rose by one, this many times
abbrev pub climbed : ℕ → ℕ → ℕ
climbed zero count = count
climbed (suc times) count = climbed times (raised count 1)

-- Every file that was opened came back: both counts rose equally often.
abbrev pub CameBack : ℕ → ℕ → ℕ → ℕ → Type 0
CameBack opened_old opened_new returned_old returned_new =
    (times : ℕ) × (opened_new ≡ climbed times opened_old) × (returned_new ≡ climbed times returned_old)

-- the same, for a folder by what it tells before and after
abbrev pub IsScanOf : FolderTold → Scan → Type 0
IsScanOf folder scan = IsScan folder.tree folder.contents scan

abbrev pub IsRefusedBy : FolderTold → FolderTold → ScanError → Type 0
IsRefusedBy old new error = IsRefused old.tree old.contents old.entry_faults new.entry_faults old.file_faults new.file_faults error

-- What a scan leaves of a folder. What it tells of its tree and its files stays. It gave 1,048,577 entries at most, every file
-- came back, and its counts of faults never fell.
abbrev pub GoesOn : FolderTold → FolderTold → Type 0
GoesOn old new =
    (new.tree ≡ old.tree)
    × (new.contents ≡ old.contents)
    × (new.entries ≤ old.entries + 1048577)
    × CameBack old.opened new.opened old.returned new.returned
    × (old.entry_faults ≤ new.entry_faults)
    × (old.file_faults ≤ new.file_faults)
