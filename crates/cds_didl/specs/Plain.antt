-- Contents that are plain. What a server reads of files and folders is plain, and so is what it shows of plain records. What it
-- writes of that is read back.
use Rattle.std.specs.Prelude.{◌≡◌, ◌<◌, ◌≤◌, ◌^◌, ℕ, IfSome, None, Ok, List, length, map}
use Rattle.std.specs.List.{AllByRecursion}
use Rattle.cds_base.specs.declared.limits.TheConstants.{INPUT_LIMIT}
use Rattle.cds_base.specs.Characters.{AreAllowed}
use Rattle.cds_object.specs.declared.content.Content.{Content}
use Rattle.cds_object.specs.declared.content.TrackContent.{TrackContent}
use Rattle.cds_object.specs.declared.content.Content.TheVariants.{Folder, Track}
use Rattle.cds_object.specs.declared.info.FlacInfo.{FlacInfo}
use Rattle.cds_object.specs.declared.record.Record.{Record}
use Rattle.cds_object.specs.ContentOf.{track_of, folder_of}
use Rattle.cds_catalog.specs.Library.{map_of}
use Rattle.cds_catalog.specs.History.{History, end_of}
use Rattle.cds_catalog.specs.Catalog.{catalog}
use Rattle.cds_catalog.specs.Scans.{bad_record}
use Rattle.cds_didl.specs.Fragment.{didl_text}
use Rattle.cds_didl.specs.Didl.{Answers}
use Rattle.cds_didl.specs.ReadBack.{HasNumbers}

-- a text of allowed characters, of at most 255 bytes
pub record IsPlainText (text : List ℕ) : Type 0 where
  pub allowed : AreAllowed text
  pub short : length text ≤ 255

pub record ArePlainTexts (track : TrackContent) : Type 0 where
  pub title : IsPlainText track.title
  pub artist : IfSome track.artist IsPlainText
  pub album : IfSome track.album IsPlainText
  pub genre : IfSome track.genre IsPlainText

abbrev pub HasPlainTexts : Content → Type 0
HasPlainTexts (Folder title) = IsPlainText title
HasPlainTexts (Track track) = ArePlainTexts track

-- a content of such texts, with numbers in the ranges of their types
pub record IsPlain (content : Content) : Type 0 where
  pub texts : HasPlainTexts content
  pub numbers : HasNumbers content

-- the numbers of a file's sound as a reader of files gives them: samples below 2^36, and the others in the ranges of their types
pub record HasSoundNumbers (info : FlacInfo) : Type 0 where
  pub rate : info.rate < 2 ^ 32
  pub channels : info.channels < 2 ^ 8
  pub bits : info.bits < 2 ^ 8
  pub samples : info.samples < 2 ^ 36

-- what is said of a file and of a folder is plain, whatever the comments and the names are
pub record ContentsArePlain : Type 0 where
  pub folder : (name : List ℕ) → IsPlain (folder_of name)
  pub track : (info : FlacInfo) (name : List ℕ) (size : ℕ) → HasSoundNumbers info → size < 2 ^ 64 → IsPlain (track_of info name size)

-- the history of scans that found these records, the newest first
abbrev pub history_of : ℕ → List (List Record) → History
history_of first scans = record { first = first; maps = map map_of scans }

abbrev pub ArePlainRecords : List Record → Type 0
ArePlainRecords = AllByRecursion (λ r. IsPlain r.content)

-- if all records are plain, so is what each row of the catalog says
abbrev pub RowsArePlain : Type 0
RowsArePlain =
    (first : ℕ) (scans : List (List Record)) → AllByRecursion ArePlainRecords scans → AllByRecursion (λ row. IsPlain row.content) (catalog (history_of first scans))

-- scans that a server may show in one document. Their records are plain, none is refused, the numbers fit, and so does the
-- document
pub record CanBeShown (base : List ℕ) (first : ℕ) (scans : List (List Record)) : Type 0 where
  pub base_allowed : AreAllowed base
  pub plain : AllByRecursion ArePlainRecords scans
  pub accepted : AllByRecursion (λ records. bad_record records ≡ None) scans
  pub numbers : end_of (history_of first scans) < 2 ^ 32
  pub short : length (didl_text None base (catalog (history_of first scans))) ≤ INPUT_LIMIT

-- the catalog of such scans, written with the whole filter, is read back
abbrev pub CatalogsAreReadBack : Type 0
CatalogsAreReadBack =
    (base : List ℕ) (first : ℕ) (scans : List (List Record)) → CanBeShown base first scans
    → Answers (didl_text None base (catalog (history_of first scans))) (Ok (catalog (history_of first scans)))
