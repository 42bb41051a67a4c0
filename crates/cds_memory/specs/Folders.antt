-- What callers see of the folders in memory.
use Rattle.std.specs.Prelude.{ℕ, Bool, true, ◌&&◌, if◌then◌else◌, Option, Some, None, List, [], ◌∷◌, map, take}
use Rattle.std.specs.Option.{option_map}
use Rattle.std.specs.Ordering.{is_lt, nat_cmp}
use Rattle.std.specs.Cmp.Lexicographic.{slice_cmp}
use Rattle.cds_outside.specs.declared.folder.Entry.{Entry}
use Rattle.cds_outside.specs.declared.folder.Entry.TheVariants.{Folder, File}
use Rattle.cds_memory.specs.declared.item.MemItem.{MemItem}
use Rattle.cds_memory.specs.declared.item.MemItem.TheVariants.{FolderItem, FileItem}
use Rattle.cds_memory.specs.Memory.{SourceState}
use Rattle.cds_outside.specs.Entries.{Contents, FolderTold, is_file_at}

-- The entry that an item is given as.
abbrev pub entry_of : MemItem → Entry
entry_of (FolderItem path) = Folder path
entry_of (FileItem path size bytes fails) = File path size

abbrev pub entries_of : List MemItem → List Entry
entries_of items = map entry_of items

-- A file's source as it is opened. If the item has no bytes, the file cannot be opened.
abbrev pub source_of : MemItem → Option SourceState
source_of (FolderItem path) = None
source_of (FileItem path size None fails) = None
source_of (FileItem path size (Some bytes) fails) = Some (record { left = bytes; moved = 0; calls = 0; faults = 0; fails = fails })

-- The source of the first file at a path.
abbrev pub source_at : List MemItem → List ℕ → Option SourceState
source_at [] path = None
source_at (item ∷ items) path = if is_file_at path (entry_of item) then source_of item else source_at items path

-- What the files hold.
abbrev pub contents_of : List MemItem → Contents
contents_of items path = option_map (λ source. source.left) (source_at items path)

-- A folder in memory.
pub record FolderState : Type 0 where
  -- what it has, in the order in which it is given
  pub items : List MemItem
  -- how many of these were given since the tree began
  pub at : ℕ
  -- how many entries it gave, how many files it opened and how many came back
  pub entries : ℕ
  pub opened : ℕ
  pub returned : ℕ
  -- the paths that `open_at` was asked for, in order
  pub asked : List (List ℕ)
  -- how many calls of `entry`, `open` and `open_at` it answered, and how many faults there were of entries and of files
  pub calls : ℕ
  pub entry_faults : ℕ
  pub file_faults : ℕ
  -- the numbers, counted from 1, of the calls that are to fail
  pub fails : List ℕ

-- The entries given since the tree began.
abbrev pub given_of : FolderState → List Entry
given_of folder = take folder.at (entries_of folder.items)

-- A folder that nothing was asked of yet.
abbrev pub fresh_folder : List MemItem → List ℕ → FolderState
fresh_folder items fails = record {
  items = items;
  at = 0;
  entries = 0;
  opened = 0;
  returned = 0;
  asked = [];
  calls = 0;
  entry_faults = 0;
  file_faults = 0;
  fails = fails;
}

-- What a folder in memory tells of itself.
abbrev pub told_of : FolderState → FolderTold
told_of folder = record {
  tree = Some (entries_of folder.items);
  contents = Some (contents_of folder.items);
  given = given_of folder;
  entries = folder.entries;
  opened = folder.opened;
  returned = folder.returned;
  asked = Some folder.asked;
  entry_faults = folder.entry_faults;
  file_faults = folder.file_faults;
}

-- An item's path.
abbrev pub item_path : MemItem → List ℕ
item_path (FolderItem path) = path
item_path (FileItem path size bytes fails) = path

-- Whether an item's path comes before another's in the order of bytes.
abbrev pub is_before : MemItem → MemItem → Bool
is_before item next = is_lt (slice_cmp nat_cmp (item_path item) (item_path next))

-- Whether an item's path comes before that of the first of a list.
abbrev pub is_before_first : MemItem → List MemItem → Bool
is_before_first item [] = true
is_before_first item (next ∷ items) = is_before item next

-- Whether each item's path comes before the next one's.
abbrev pub ascends : List MemItem → Bool
ascends [] = true
ascends (item ∷ items) = is_before_first item items && ascends items
