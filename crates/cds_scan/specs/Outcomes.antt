-- What becomes of the entries of a folder in a scan (this project's profile). A folder is kept. A file whose name ends in `.flac`
-- is kept by what its metadata says (RFC 9639), or refused. Every other file is passed over.
use Rattle.std.specs.Prelude.{◌≡◌, ◌-◌, ◌&&◌, ℕ, ⊤, Bool, true, false, nat_le, List, [], ◌∷◌, length, drop, Option, Some, None, Ok, Err, codes}
use Rattle.std.specs.List.{filter_map}
use Rattle.std.specs.Str.{str_to_ascii_lowercase}
use Rattle.cds_outside.specs.declared.folder.Entry.{Entry}
use Rattle.cds_outside.specs.declared.folder.Entry.TheVariants.{Folder, File, End}
use Rattle.cds_outside.specs.Entries.{Contents}
use Rattle.cds_outside.specs.Outside.{Told}
use Rattle.cds_flac.specs.declared.error.FlacError.{FlacError}
use Rattle.cds_flac.specs.declared.error.FlacError.TheVariants.{ReadFault, Mem}
use Rattle.cds_flac.specs.Reading.{metadata}
use Rattle.cds_object.specs.declared.info.FlacInfo.{FlacInfo}
use Rattle.cds_object.specs.declared.record.Record.{Record}
use Rattle.cds_object.specs.Content.{same_text}
use Rattle.cds_object.specs.ContentOf.{folder_of, track_of}
use Rattle.cds_object.specs.Path.{name_of, path_read}
use Rattle.cds_scan.specs.declared.scanned.RefusedFile.{RefusedFile}

-- whether a name ends in `.flac` in any ASCII case
abbrev pub ends_in_flac : List ℕ → Bool
ends_in_flac name = nat_le 5 (length name) && same_text (str_to_ascii_lowercase (drop (length name - 5) name)) (codes ".flac")

-- what becomes of an entry
pub data Outcome : Type 0 where
  Kept : Record → Outcome
  Refused : RefusedFile → Outcome
  Passed : Outcome

-- The bytes of a file are those of FLAC metadata that says this.
abbrev pub SayInfo : Option (List ℕ) → FlacInfo → Type 0
SayInfo None info = ⊥
SayInfo (Some bytes) info = (rest : List ℕ) × (metadata bytes ≡ Ok (info, rest))

-- The bytes of a file are refused for this reason.
abbrev pub AreRefused : Option (List ℕ) → FlacError → Type 0
AreRefused None refusal = ⊥
AreRefused (Some bytes) refusal = metadata bytes ≡ Err refusal

-- what the file at a path says, if the contents are told
abbrev pub IsInfo : Option Contents → List ℕ → FlacInfo → Type 0
IsInfo contents path info = Told contents (λ c. SayInfo (c path) info)

-- Why the file at a path is refused: by its bytes, if they are told, or because it could not be read. If memory runs out, no file
-- is refused.
abbrev pub IsRefusal : Option Contents → List ℕ → FlacError → Type 0
IsRefusal contents path ReadFault = ⊤
IsRefusal contents path Mem = ⊥
IsRefusal contents path refusal = Told contents (λ c. AreRefused (c path) refusal)

abbrev pub folder_record : List (List ℕ) → Record
folder_record place = record { path = place; content = folder_of (name_of place) }

abbrev pub track_record : List (List ℕ) → FlacInfo → ℕ → Record
track_record place info size = record { path = place; content = track_of info (name_of place) size }

-- what becomes of a file whose name ends in `.flac`
abbrev pub IsTrackOutcome : Option Contents → List ℕ → List (List ℕ) → ℕ → Outcome → Type 0
IsTrackOutcome contents path place size (Kept r) = (info : FlacInfo) × (r ≡ track_record place info size) × IsInfo contents path info
IsTrackOutcome contents path place size (Refused file) = (file.path ≡ path) × IsRefusal contents path file.error
IsTrackOutcome contents path place size Passed = ⊥

-- what becomes of a file; the flag says whether its name ends in `.flac`
abbrev pub IsFileOutcome : Bool → Option Contents → List ℕ → List (List ℕ) → ℕ → Outcome → Type 0
IsFileOutcome true contents path place size outcome = IsTrackOutcome contents path place size outcome
IsFileOutcome false contents path place size outcome = outcome ≡ Passed

-- what becomes of an entry; its path has to be a place in the library
abbrev pub IsOutcome : Option Contents → Entry → Outcome → Type 0
IsOutcome contents (Folder path) outcome =
    (place : List (List ℕ)) × (path_read path ≡ Ok place) × (outcome ≡ Kept (folder_record place))
IsOutcome contents (File path size) outcome =
    (place : List (List ℕ)) × (path_read path ≡ Ok place) × IsFileOutcome (ends_in_flac (name_of place)) contents path place size outcome
IsOutcome contents End outcome = ⊥

-- what becomes of several entries, in their order
abbrev pub AreOutcomes : Option Contents → List Entry → List Outcome → Type 0
AreOutcomes contents [] [] = ⊤
AreOutcomes contents [] (outcome ∷ outcomes) = ⊥
AreOutcomes contents (entry ∷ entries) [] = ⊥
AreOutcomes contents (entry ∷ entries) (outcome ∷ outcomes) = IsOutcome contents entry outcome × AreOutcomes contents entries outcomes

-- the record that an outcome kept, and the file that it refused
abbrev pub kept_of : Outcome → Option Record
kept_of (Kept r) = Some r
kept_of (Refused file) = None
kept_of Passed = None

abbrev pub refused_of : Outcome → Option RefusedFile
refused_of (Kept r) = None
refused_of (Refused file) = Some file
refused_of Passed = None

abbrev pub records_of : List Outcome → List Record
records_of outcomes = filter_map kept_of outcomes

abbrev pub refusals_of : List Outcome → List RefusedFile
refusals_of outcomes = filter_map refused_of outcomes
