-- A history of scans, and the number of each change (UPnP ContentDirectory:4 on SystemUpdateID; which changes a scan
-- makes is this project's profile).
use Rattle.std.specs.Prelude.{◌+◌, ℕ, Bool, true, false, cond, List, [], ◌∷◌, ◌++◌, length}
use Rattle.cds_object.specs.Path.{same_path, parent_of}
use Rattle.cds_catalog.specs.Library.{FolderMap, found}
use Rattle.cds_catalog.specs.declared.change.Change.{Change}
use Rattle.cds_catalog.specs.declared.change.Change.TheVariants.{Deletion, Addition, Modification}

-- the number that the server began at, and the folder maps of its scans, the newest first
pub record History : Type 0 where
  pub first : ℕ
  pub maps : List FolderMap

-- the folder map of the newest scan; before any the library is empty
abbrev pub latest : List FolderMap → FolderMap
latest [] = []
latest (library ∷ older) = library

-- all changes, the newest first
abbrev pub changes_of : List FolderMap → List Change
changes_of [] = []
changes_of (library ∷ older) = found (latest older) library ++ changes_of older

-- the number of the newest change, or the first number: a scan end
abbrev pub end_of : History → ℕ
end_of history = history.first + length (changes_of history.maps)

-- the history with one more scan
abbrev pub with_scan : History → FolderMap → History
with_scan history library = record { first = history.first; maps = library ∷ history.maps }

-- the place that a change names
abbrev pub place_of : Change → List (List ℕ)
place_of (Deletion path) = path
place_of (Addition path content) = path
place_of (Modification path content) = path

-- whether a change is an addition, or a deletion
abbrev pub is_addition : Change → Bool
is_addition (Addition path content) = true
is_addition other = false

abbrev pub is_deletion : Change → Bool
is_deletion (Deletion path) = true
is_deletion other = false

-- whether a change adds what stands at a place; and whether it adds it or modifies it
abbrev pub adds : List (List ℕ) → Change → Bool
adds path (Addition at content) = same_path path at
adds path other = false

abbrev pub sets : List (List ℕ) → Change → Bool
sets path (Deletion at) = false
sets path (Addition at content) = same_path path at
sets path (Modification at content) = same_path path at

-- whether a change names a place as its parent; and whether it also deletes
abbrev pub is_under : List (List ℕ) → Change → Bool
is_under path change = same_path path (parent_of (place_of change))

abbrev pub deletes_under : List (List ℕ) → Change → Bool
deletes_under path (Deletion at) = same_path path (parent_of at)
deletes_under path other = false

-- the changes up to and with the newest one that passes a test
abbrev pub up_to : (Change → Bool) → List Change → List Change
up_to test [] = []
up_to test (change ∷ older) = cond (test change) (change ∷ older) (up_to test older)

-- the changes after the newest one that passes a test
abbrev pub after : (Change → Bool) → List Change → List Change
after test [] = []
after test (change ∷ older) = cond (test change) [] (change ∷ after test older)
