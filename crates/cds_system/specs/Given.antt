-- What is known of the entries that a folder gave, by their paths.
use Rattle.std.specs.Prelude.{◌≡◌, ⊤, ℕ, Bool, true, false, IsTrue, List, [], ◌∷◌, ◌++◌, Option, Some, None}
use Rattle.std.specs.List.{list_any}
use Rattle.std.specs.Ordering.{nat_cmp}
use Rattle.std.specs.Cmp.Lexicographic.{slice_cmp}
use Rattle.std.specs.BTreeMap.{BTreeMap, get}
use Rattle.cds_outside.specs.declared.folder.Entry.{Entry}
use Rattle.cds_outside.specs.declared.folder.Entry.TheVariants.{Folder, File, End}
use Rattle.cds_outside.specs.Entries.{is_at, is_folder_at, is_new, is_path_held, is_tree}

-- what is known of a path: nothing was given there (`None`), a folder was given there (`Some true`), or nothing is claimed (`Some
-- false`)
abbrev pub IsKind : List ℕ → List Entry → Option Bool → Type 0
IsKind path given None = list_any (is_at path) given ≡ false
IsKind path given (Some true) = list_any (is_folder_at path) given ≡ true
IsKind path given (Some false) = ⊤

-- Each path that was given stands in the map. If the map says that it is a folder's, a folder was given there.
abbrev pub Knows : BTreeMap (List ℕ) Bool → List Entry → Type 0
Knows places given = (path : List ℕ) → IsKind path given (get (slice_cmp nat_cmp) places path)

-- a path that is new, and stands right in the root or in a folder that was given
abbrev pub Fits : List Entry → List ℕ → Type 0
Fits given path = (list_any (is_at path) given ≡ false) × IsTrue (is_path_held given path)

-- the path of an entry is this one; the end has none
abbrev pub IsEntryAt : List ℕ → Entry → Type 0
IsEntryAt path (Folder at) = at ≡ path
IsEntryAt path (File at size) = at ≡ path
IsEntryAt path End = ⊥

abbrev pub is_folder_entry : Entry → Bool
is_folder_entry (Folder at) = true
is_folder_entry (File at size) = false
is_folder_entry End = false

-- the path of an entry, or none for the end
abbrev pub IsPathOf : Option (List ℕ) → Entry → Type 0
IsPathOf (Some path) entry = IsEntryAt path entry
IsPathOf None entry = entry ≡ End

-- A new entry was given, or a whole tree ended.
abbrev pub GivesEntry : List Entry → Entry → List Entry → Type 0
GivesEntry before (Folder at) now = (now ≡ before ++ Folder at ∷ []) × IsTrue (is_new before (Folder at))
GivesEntry before (File at size) now = (now ≡ before ++ File at size ∷ []) × IsTrue (is_new before (File at size))
GivesEntry before End now = (now ≡ before) × IsTrue (is_tree before)
