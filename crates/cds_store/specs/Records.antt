-- Tests on the records of a scan and on their places.
use Rattle.std.specs.Prelude.{◌&&◌, ◌||◌, ℕ, Bool, not, List, []}
use Rattle.cds_object.specs.Path.{same_path, parent_of}
use Rattle.cds_object.specs.Object.{is_folder}
use Rattle.cds_object.specs.declared.record.Record.{Record}

-- whether a record is the record of a folder at a place
abbrev pub is_folder_at : List (List ℕ) → Record → Bool
is_folder_at path r = same_path path r.path && is_folder r.content

-- whether the root, or one of some folders, is at a place
abbrev pub holds_place : (List (List ℕ) → Bool) → List (List ℕ) → Bool
holds_place is_folder_there path = same_path path [] || is_folder_there path

-- whether nothing can stand at a place, given the places of the folders and the places that came before
abbrev pub cannot_stand : (List (List ℕ) → Bool) → (List (List ℕ) → Bool) → List (List ℕ) → Bool
cannot_stand is_folder_there came_before path =
    same_path path [] || not (holds_place is_folder_there (parent_of path)) || came_before path
