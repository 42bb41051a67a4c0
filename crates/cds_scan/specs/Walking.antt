-- The steps of a scan over the entries of a folder.
use Rattle.std.specs.Prelude.{◌≡◌, ◌≤◌, ℕ, ⊤, Bool, true, false, IsTrue, List, [], ◌∷◌, ◌++◌, length, Option, Result, Ok, Err}
use Rattle.std.specs.List.{list_any}
use Rattle.cds_outside.specs.declared.folder.Entry.{Entry}
use Rattle.cds_outside.specs.declared.folder.Entry.TheVariants.{Folder, File, End}
use Rattle.cds_outside.specs.Entries.{Contents, is_file_at, is_tree}
use Rattle.cds_outside.specs.Outside.{Told, Rose}
use Rattle.cds_object.specs.declared.record.Record.{Record}
use Rattle.cds_object.specs.Path.{path_read}
use Rattle.cds_catalog.specs.Library.{map_of}
use Rattle.cds_scan.specs.declared.error.ScanError.{ScanError}
use Rattle.cds_scan.specs.declared.error.ScanError.TheVariants.{FolderFault, TooDeep, Full, TooMany, Mem}
use Rattle.cds_scan.specs.declared.file.Reading.{Reading}
use Rattle.cds_scan.specs.declared.file.Reading.TheVariants.{Read, Unread}
use Rattle.cds_scan.specs.Outcomes.{AreOutcomes, IsOutcome, Outcome, Kept, Refused, Passed, folder_record, records_of, refusals_of, track_record}
use Rattle.cds_scan.specs.Found.{Adds, FoundState, IsKeepFault, refusals_from}
use Rattle.cds_scan.specs.Reading.{FaultRose}
use Rattle.cds_scan.specs.Scanning.{Covers, IsTooDeep, faults_in}

-- the place that a path names, or why there is none
abbrev pub IsPlaceAnswer : List ℕ → Result (List (List ℕ)) ScanError → Type 0
IsPlaceAnswer path (Ok place) = path_read path ≡ Ok place
IsPlaceAnswer path (Err (TooDeep bytes)) = (bytes ≡ length path) × ((at : ℕ) × (path_read path ≡ Err at))
IsPlaceAnswer path (Err (Full objects)) = ⊥
IsPlaceAnswer path (Err FolderFault) = ⊥
IsPlaceAnswer path (Err TooMany) = ⊥
IsPlaceAnswer path (Err Mem) = ⊤

-- an entry other than the end; if it is a file, it was given, so it can be opened
abbrev pub IsGiven : Entry → List Entry → Type 0
IsGiven (Folder path) given = ⊤
IsGiven (File path size) given = IsTrue (list_any (is_file_at path) given)
IsGiven End given = ⊥

-- If a file could not be read, the count of faults of files rose.
abbrev pub OutcomeRose : Outcome → ℕ → ℕ → Type 0
OutcomeRose (Kept r) before now = ⊤
OutcomeRose (Refused file) before now = FaultRose file.error before now
OutcomeRose Passed before now = ⊤

-- An entry was taken with its outcome.
pub record TakesEntry (contents : Option Contents) (entry : Entry) (old new : FoundState) (before now : ℕ) : Type 0 where
  pub outcome : Outcome
  pub is : IsOutcome contents entry outcome
  pub adds : Adds outcome old new
  pub rose : OutcomeRose outcome before now

-- why an entry was not taken
abbrev pub IsEntryFault : Option Contents → Entry → FoundState → ScanError → Type 0
IsEntryFault contents entry old (TooDeep bytes) = IsTooDeep entry bytes
IsEntryFault contents entry old (Full objects) = (objects ≡ 65536) × (old.kept ≡ 65535) × ((r : Record) × IsOutcome contents entry (Kept r))
IsEntryFault contents entry old FolderFault = ⊥
IsEntryFault contents entry old TooMany = ⊥
IsEntryFault contents entry old Mem = ⊤

-- why a folder was not kept
abbrev pub IsFolderLeft : List ℕ → FoundState → ScanError → Type 0
IsFolderLeft path old e = (contents : Option Contents) → IsEntryFault contents (Folder path) old e

-- The next entry was taken.
pub record TakesNext (tree : Option (List Entry)) (contents : Option Contents) (given_old given_new : List Entry) (old new : FoundState) (before now : ℕ) : Type 0 where
  pub entry : Entry
  pub given : given_new ≡ given_old ++ entry ∷ []
  pub told : Told tree (λ entries. (rest : List Entry) × (entries ≡ given_old ++ entry ∷ rest))
  pub takes : TakesEntry contents entry old new before now

-- The tree ended with the entries given.
pub record Ends (tree : Option (List Entry)) (given : List Entry) (old new : FoundState) : Type 0 where
  pub whole : IsTrue (is_tree given)
  pub told : Told tree (λ entries. entries ≡ given)
  pub same : new ≡ old

abbrev pub IsStep : Bool → Option (List Entry) → Option Contents → List Entry → List Entry → FoundState → FoundState → ℕ → ℕ → Type 0
IsStep true tree contents given_old given_new old new before now = Ends tree given_old old new
IsStep false tree contents given_old given_new old new before now = TakesNext tree contents given_old given_new old new before now

-- why the next entry was not taken
pub record NotTaken (tree : Option (List Entry)) (contents : Option Contents) (given : List Entry) (old : FoundState) (error : ScanError) : Type 0 where
  pub entry : Entry
  pub told : Told tree (λ entries. (rest : List Entry) × (entries ≡ given ++ entry ∷ rest))
  pub fault : IsEntryFault contents entry old error

abbrev pub IsStepFault : Option (List Entry) → Option Contents → List Entry → FoundState → ℕ → ℕ → ScanError → Type 0
IsStepFault tree contents given old before now FolderFault = Rose before now
IsStepFault tree contents given old before now Mem = ⊤
IsStepFault tree contents given old before now TooMany = ⊥
IsStepFault tree contents given old before now (TooDeep bytes) = NotTaken tree contents given old (TooDeep bytes)
IsStepFault tree contents given old before now (Full objects) = NotTaken tree contents given old (Full objects)

-- What was found is what the entries seen give.
pub record Reached (contents : Option Contents) (seen : List Entry) (found : FoundState) (before now : ℕ) : Type 0 where
  pub outcomes : List Outcome
  pub each : AreOutcomes contents seen outcomes
  pub records : found.records ≡ map_of (records_of outcomes)
  pub refused : found.refused ≡ refusals_from [] (refusals_of outcomes)
  pub kept : found.kept ≡ length (records_of outcomes)
  pub room : found.kept ≤ 65535
  pub faults : Covers (faults_in found.refused) before now

-- The whole tree was walked.
pub record Walked (tree : Option (List Entry)) (contents : Option Contents) (found : FoundState) (before now : ℕ) : Type 0 where
  pub seen : List Entry
  pub whole : IsTrue (is_tree seen)
  pub told : Told tree (λ entries. entries ≡ seen)
  pub few : length seen ≤ 1048576
  pub reached : Reached contents seen found before now

-- whether an entry is the end of a tree
abbrev pub is_the_end : Entry → Bool
is_the_end (Folder path) = false
is_the_end (File path size) = false
is_the_end End = true

-- The tree ended with the entries given, or one more came after them.
abbrev pub IsOver : Bool → Option (List Entry) → List Entry → Type 0
IsOver true tree given = IsTrue (is_tree given) × Told tree (λ entries. entries ≡ given)
IsOver false tree given = (entry : Entry) × Told tree (λ entries. (rest : List Entry) × (entries ≡ given ++ entry ∷ rest))

-- why a folder gave no entry
abbrev pub IsFolderFault : ℕ → ℕ → ScanError → Type 0
IsFolderFault before now FolderFault = Rose before now
IsFolderFault before now Mem = ⊤
IsFolderFault before now TooMany = ⊥
IsFolderFault before now (TooDeep bytes) = ⊥
IsFolderFault before now (Full objects) = ⊥

-- A folder was kept.
abbrev pub TakesFolder : List ℕ → FoundState → FoundState → Type 0
TakesFolder path old new = (place : List (List ℕ)) × (path_read path ≡ Ok place) × Adds (Kept (folder_record place)) old new

-- the outcome of a file, by the answer of its reading
abbrev pub outcome_of : List ℕ → List (List ℕ) → ℕ → Reading → Outcome
outcome_of path place size (Read info) = Kept (track_record place info size)
outcome_of path place size (Unread error) = Refused (record { path = path; error = error })

-- why a file that was read or refused was not taken
abbrev pub IsNoMemory : ScanError → Type 0
IsNoMemory Mem = ⊤
IsNoMemory FolderFault = ⊥
IsNoMemory TooMany = ⊥
IsNoMemory (TooDeep bytes) = ⊥
IsNoMemory (Full objects) = ⊥

abbrev pub IsTrackFault : Reading → FoundState → ScanError → Type 0
IsTrackFault (Read info) old e = IsKeepFault old e
IsTrackFault (Unread error) old e = IsNoMemory e
