-- What is written of rows with the whole filter is read back as these rows.
use Rattle.std.specs.Prelude.{◌≡◌, ◌<◌, ◌≤◌, ◌^◌, ℕ, IfSome, Option, None, Ok, List, length}
use Rattle.std.specs.List.{AllByRecursion}
use Rattle.cds_base.specs.declared.limits.TheConstants.{INPUT_LIMIT}
use Rattle.cds_base.specs.Characters.{AreAllowed}
use Rattle.cds_object.specs.declared.content.Content.{Content}
use Rattle.cds_object.specs.declared.content.TrackContent.{TrackContent}
use Rattle.cds_object.specs.declared.content.Content.TheVariants.{Folder, Track}
use Rattle.cds_object.specs.declared.row.Trackers.{Trackers}
use Rattle.cds_object.specs.Object.{ObjectRow, IsRow}
use Rattle.cds_didl.specs.Fragment.{didl_text}
use Rattle.cds_didl.specs.Didl.{Answers}

-- the texts of a track and of a folder have allowed characters only
pub record AreTrackTexts (track : TrackContent) : Type 0 where
  pub title : AreAllowed track.title
  pub artist : IfSome track.artist AreAllowed
  pub album : IfSome track.album AreAllowed
  pub genre : IfSome track.genre AreAllowed

abbrev pub HasAllowedTexts : Content → Type 0
HasAllowedTexts (Folder title) = AreAllowed title
HasAllowedTexts (Track track) = AreTrackTexts track

-- the numbers of a track, of trackers and of a row are in the ranges of their types
pub record AreTrackNumbers (track : TrackContent) : Type 0 where
  pub number : IfSome track.number (λ n. n < 2 ^ 32)
  pub size : track.size < 2 ^ 64
  pub duration : IfSome track.duration (λ n. n < 2 ^ 64)
  pub rate : track.rate < 2 ^ 32
  pub channels : track.channels < 2 ^ 8
  pub bits : track.bits < 2 ^ 8

abbrev pub HasNumbers : Content → Type 0
HasNumbers (Folder title) = Unit {0}
HasNumbers (Track track) = AreTrackNumbers track

pub record AreCounts (trackers : Trackers) : Type 0 where
  pub container_update : trackers.container_update < 2 ^ 32
  pub child_count : trackers.child_count < 2 ^ 32
  pub deleted : trackers.deleted < 2 ^ 32

pub record HasRanges (row : ObjectRow) : Type 0 where
  pub is : IsRow row
  pub id : row.id < 2 ^ 32
  pub parent : IfSome row.parent (λ n. n < 2 ^ 32)
  pub numbers : HasNumbers row.content
  pub object_update : row.object_update < 2 ^ 32
  pub trackers : IfSome row.trackers AreCounts

-- a row that is written so that it is read back
pub record IsWritable (row : ObjectRow) : Type 0 where
  pub ranges : HasRanges row
  pub texts : HasAllowedTexts row.content

-- Rows that are written with the whole filter, in a document within the limit of bytes, are what is read of it. The base may be
-- any text of allowed characters.
abbrev pub RowsAreReadBack : Type 0
RowsAreReadBack =
    (base : List ℕ) (rows : List ObjectRow) → AreAllowed base → AllByRecursion IsWritable rows → length (didl_text None base rows) ≤ INPUT_LIMIT
    → Answers (didl_text None base rows) (Ok rows)

-- the same for what a call is given, whose numbers are in their ranges: the whole filter, and texts and base of allowed
-- characters
pub record CanBeReadBack (filter : Option (List (List ℕ))) (base : List ℕ) (rows : List ObjectRow) : Type 0 where
  pub whole : filter ≡ None
  pub base_allowed : AreAllowed base
  pub texts : AllByRecursion (λ row. HasAllowedTexts row.content) rows
  pub short : length (didl_text filter base rows) ≤ INPUT_LIMIT

abbrev pub IsReadBack : Option (List (List ℕ)) → List ℕ → List ObjectRow → Type 0
IsReadBack filter base rows = CanBeReadBack filter base rows → Answers (didl_text filter base rows) (Ok rows)
