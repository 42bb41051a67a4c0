-- What a scan found so far.
use Rattle.std.specs.Prelude.{◌≡◌, ◌+◌, ◌<◌, ℕ, List, [], ◌∷◌, ⊤, map}
use Rattle.std.specs.BTreeMap.{insert_entry}
use Rattle.std.specs.Cmp.Lexicographic.{slice_cmp}
use Rattle.std.specs.Ordering.{nat_cmp}
use Rattle.cds_flac.specs.declared.error.FlacError.{FlacError}
use Rattle.cds_object.specs.declared.record.Record.{Record}
use Rattle.cds_object.specs.Path.{path_cmp}
use Rattle.cds_catalog.specs.Library.{FolderMap}
use Rattle.cds_scan.specs.declared.scanned.RefusedFile.{RefusedFile}
use Rattle.cds_scan.specs.declared.error.ScanError.{ScanError}
use Rattle.cds_scan.specs.declared.error.ScanError.TheVariants.{FolderFault, TooDeep, Full, TooMany, Mem}
use Rattle.cds_scan.specs.Outcomes.{Outcome, Kept, Refused, Passed}

-- the refused files in ascending order of the bytes of their paths, each with its refusal
abbrev pub Refusals : Type 0
Refusals = List (List ℕ × FlacError)

abbrev pub put_refusal : Refusals → RefusedFile → Refusals
put_refusal refusals file = insert_entry (slice_cmp nat_cmp) refusals file.path file.error

abbrev pub refusals_from : Refusals → List RefusedFile → Refusals
refusals_from refusals [] = refusals
refusals_from refusals (file ∷ files) = refusals_from (put_refusal refusals file) files

-- what a scan found so far: what stands at each place, the refused files, and how many records it kept
pub record FoundState : Type 0 where
  pub records : FolderMap
  pub refused : Refusals
  pub kept : ℕ

-- what an entry's outcome adds
abbrev pub Adds : Outcome → FoundState → FoundState → Type 0
Adds (Kept r) old new =
    (old.kept < 65535) × (new ≡ record {
      records = insert_entry path_cmp old.records r.path r.content;
      refused = old.refused;
      kept = old.kept + 1;
    })
Adds (Refused file) old new = new ≡ record { records = old.records; refused = put_refusal old.refused file; kept = old.kept }
Adds Passed old new = new ≡ old

-- why a record is not kept: as many are kept as there may be, or memory ran out
abbrev pub IsKeepFault : FoundState → ScanError → Type 0
IsKeepFault old (Full objects) = (objects ≡ 65536) × (old.kept ≡ 65535)
IsKeepFault old Mem = ⊤
IsKeepFault old FolderFault = ⊥
IsKeepFault old (TooDeep bytes) = ⊥
IsKeepFault old TooMany = ⊥

-- records and refused files as pairs
abbrev pub placed : List Record → FolderMap
placed records = map (λ r. (r.path, r.content)) records

abbrev pub paired : List RefusedFile → Refusals
paired files = map (λ file. (file.path, file.error)) files
