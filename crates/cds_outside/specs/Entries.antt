-- The words of folders: the entries of a tree, in their order, and what a folder tells of itself.
use Rattle.std.specs.Prelude.{◌≡◌, ◌==◌, ◌+◌, ℕ, Bool, true, false, not, ◌&&◌, ◌||◌, Option, Some, None, Result, Ok, Err, List, [], ◌∷◌, ◌++◌, length, take, drop}
use Rattle.std.specs.List.{list_any, list_all}
use Rattle.std.specs.Str.{bytes_eq}
use Rattle.cds_outside.specs.declared.folder.Entry.{Entry}
use Rattle.cds_outside.specs.declared.folder.Entry.TheVariants.{Folder, File, End}
use Rattle.cds_outside.specs.declared.folder.FolderFault.{FolderFault}
use Rattle.cds_outside.specs.declared.folder.FolderFault.TheVariants.{Failed, Mem}
use Rattle.cds_outside.specs.Outside.{Rose}

-- What files hold, by their paths. A path without a file has no bytes.
abbrev pub Contents : Type 0
Contents = List ℕ → Option (List ℕ)

-- Whether an entry is a file at a path; whether it is a folder at a path; whether it is either.
abbrev pub is_file_at : List ℕ → Entry → Bool
is_file_at path (File at size) = bytes_eq at path
is_file_at path (Folder at) = false
is_file_at path End = false

abbrev pub is_folder_at : List ℕ → Entry → Bool
is_folder_at path (Folder at) = bytes_eq at path
is_folder_at path (File at size) = false
is_folder_at path End = false

abbrev pub is_at : List ℕ → Entry → Bool
is_at path (File at size) = bytes_eq at path
is_at path (Folder at) = bytes_eq at path
is_at path End = false

-- Whether a text is one name, without a `/`.
abbrev pub is_name : List ℕ → Bool
is_name text = not (list_any (λ byte. byte == 47) text)

-- Whether a text is a `/` and a name; whether a path is a folder's path followed by that.
abbrev pub is_slash_and_name : List ℕ → Bool
is_slash_and_name [] = false
is_slash_and_name (byte ∷ name) = byte == 47 && is_name name

abbrev pub is_in : List ℕ → List ℕ → Bool
is_in folder path = bytes_eq (take (length folder) path) folder && is_slash_and_name (drop (length folder) path)

-- Whether an entry is the folder that a path is in.
abbrev pub is_parent_of : List ℕ → Entry → Bool
is_parent_of path (Folder at) = is_in at path
is_parent_of path (File at size) = false
is_parent_of path End = false

-- Whether a path stands right in the root, or in a folder among the entries.
abbrev pub is_path_held : List Entry → List ℕ → Bool
is_path_held entries path = is_name path || list_any (is_parent_of path) entries

-- Whether an entry's path is held; the end has no path.
abbrev pub is_held : List Entry → Entry → Bool
is_held entries (Folder path) = is_path_held entries path
is_held entries (File path size) = is_path_held entries path
is_held entries End = false

-- Whether an entry's path differs from the path of each of the entries.
abbrev pub is_new : List Entry → Entry → Bool
is_new entries (Folder path) = not (list_any (is_at path) entries)
is_new entries (File path size) = not (list_any (is_at path) entries)
is_new entries End = false

-- Whether no path comes twice.
abbrev pub all_differ : List Entry → Bool
all_differ [] = true
all_differ (entry ∷ rest) = is_new rest entry && all_differ rest

-- Whether the entries are a whole tree. The paths differ, and the parent of each is the root or stands among them as a folder.
abbrev pub is_tree : List Entry → Bool
is_tree entries = all_differ entries && list_all (is_held entries) entries

-- One thing if the entry is a file or a folder, another if it is the end.
abbrev pub OnEntry : Entry → Type 0 → Type 0 → Type 0
OnEntry (Folder path) there over = there
OnEntry (File path size) there over = there
OnEntry End there over = over

-- A file or a folder, not the end, stands in the tree after the first `at` entries.
pub record IsEntryBehind (tree : List Entry) (at : ℕ) (entry : Entry) : Type 0 where
  pub there : OnEntry entry (Unit {0}) ⊥
  pub rest : List Entry
  pub stands : tree ≡ take at tree ++ entry ∷ rest
  pub taken : take (at + 1) tree ≡ take at tree ++ entry ∷ []

-- After the entries given, a tree goes on with this entry; or it ends with them.
abbrev pub IsNext : List Entry → List Entry → Entry → Type 0
IsNext tree given entry = OnEntry entry ((rest : List Entry) × (tree ≡ given ++ entry ∷ rest)) (tree ≡ given)

-- A source tells the bytes of a file that is there.
abbrev pub HasBytes : Option (List ℕ) → Option (List ℕ) → Type 0
HasBytes None left = ⊥
HasBytes (Some bytes) left = left ≡ Some bytes

-- The same, from a place on. A place past the end of the file has no bytes after it.
abbrev pub HasBytesFrom : ℕ → Option (List ℕ) → Option (List ℕ) → Type 0
HasBytesFrom at None left = ⊥
HasBytesFrom at (Some bytes) left = left ≡ Some (drop at bytes)

-- The paths that files were asked for at a place, if they are told, with one more.
abbrev pub and_path : List ℕ → Option (List (List ℕ)) → Option (List (List ℕ))
and_path path None = None
and_path path (Some asked) = Some (asked ++ path ∷ [])

-- The same after a call. If memory ran out, the path is not added.
abbrev pub asked_after : {A : Type 0} → Result A FolderFault → List ℕ → Option (List (List ℕ)) → Option (List (List ℕ))
asked_after (Ok value) path asked = and_path path asked
asked_after (Err Failed) path asked = and_path path asked
asked_after (Err Mem) path asked = asked

-- No path, if paths are told.
abbrev pub none_asked : Option (List (List ℕ)) → Option (List (List ℕ))
none_asked None = None
none_asked (Some asked) = Some []

-- A count of faults after a call. If the call failed, the count rose; otherwise it stays.
abbrev pub FailedRose : {A : Type 0} → Result A FolderFault → ℕ → ℕ → Type 0
FailedRose (Ok value) old new = new ≡ old
FailedRose (Err Failed) old new = Rose old new
FailedRose (Err Mem) old new = new ≡ old

-- Whether a call of a folder failed.
abbrev pub has_failed : {A : Type 0} → Result A FolderFault → Bool
has_failed (Ok value) = false
has_failed (Err Failed) = true
has_failed (Err Mem) = false

-- What a folder tells of itself.
pub record FolderTold : Type 0 where
  -- the entries of the whole tree in the order in which they are given, and what its files hold, if it tells them
  pub tree : Option (List Entry)
  pub contents : Option Contents
  -- the entries given since the tree began
  pub given : List Entry
  -- how many entries it gave, how many files it opened, and how many files came back
  pub entries : ℕ
  pub opened : ℕ
  pub returned : ℕ
  -- the paths that `open_at` was asked for, in order, if it tells them
  pub asked : Option (List (List ℕ))
  -- how many faults of entries and of files there were
  pub entry_faults : ℕ
  pub file_faults : ℕ

-- Nothing was asked of the folder yet.
abbrev pub IsUnasked : FolderTold → Type 0
IsUnasked told =
    told
    ≡ record told { given = []; entries = 0; opened = 0; returned = 0; asked = none_asked told.asked; entry_faults = 0; file_faults = 0 }
