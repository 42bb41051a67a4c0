-- A file that a script says was found (this project's profile).
use Rattle.std.specs.Prelude.{ℕ, List, [], ◌∷◌, ◌++◌}
use Rattle.cds_object.specs.Path.{name_of}
use Rattle.cds_object.specs.ContentOf.{track_of}
use Rattle.cds_object.specs.declared.info.Comment.{Comment}
use Rattle.cds_object.specs.declared.info.FlacInfo.{FlacInfo}
use Rattle.cds_object.specs.declared.record.Record.{Record}

-- its place, what it says, and its size in bytes
pub record FoundFile : Type 0 where
  pub path : List (List ℕ)
  pub info : FlacInfo
  pub size : ℕ

-- with a comment after those that it has
abbrev pub with_comment : Comment → FoundFile → FoundFile
with_comment comment file = record file { info = record file.info { comments = file.info.comments ++ comment ∷ [] } }

-- the record of a track: what its file says
abbrev pub track_record : FoundFile → Record
track_record file = record { path = file.path; content = track_of file.info (name_of file.path) file.size }
