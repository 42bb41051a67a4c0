-- Items whose paths are in ascending order have paths that differ.
use Rattle.std.proofs.Common.{◌≡◌, ℕ, Bool, true, false, ◌||◌, List, [], ◌∷◌, refl, ◌∙◌, ap}
use Rattle.std.specs.declared.cmp.Ordering.{Ordering}
use Rattle.std.specs.declared.cmp.Ordering.TheVariants.{Less, Equal, Greater}
use Rattle.std.specs.Ordering.{is_lt, is_eq, nat_cmp}
use Rattle.std.specs.List.{list_any}
use Rattle.std.specs.Str.{bytes_eq}
use Rattle.std.specs.Cmp.Lexicographic.{slice_cmp, nat_list_cmp_total, nat_list_eq_equiv, texts_ties}
use Rattle.std.proofs.lemmas.Bool.{and_parts, and_from, not_from_false}
use Rattle.cds_memory.specs.declared.item.MemItem.{MemItem}
use Rattle.cds_memory.specs.declared.item.MemItem.TheVariants.{FolderItem, FileItem}
use Rattle.cds_outside.specs.Entries.{all_differ, is_at, is_new}
use Rattle.cds_memory.specs.Folders.{ascends, entry_of, entries_of, is_before_first, item_path}

is_less : (order : Ordering) → is_lt order ≡ true → order ≡ Less
is_less Less less = refl
is_less Equal less = cc
is_less Greater less = cc

less_passes : (order : Ordering) → order ≡ Less → is_lt order ≡ true
less_passes order less = ap is_lt less

-- a path that comes before another is not that one
unlike : (a b : List ℕ) → slice_cmp nat_cmp a b ≡ Less → bytes_eq b a ≡ false
unlike a b less = nat_list_eq_equiv.symm b a ∙ texts_ties a b ∙ ap is_eq less

at_its_path : (path : List ℕ) (item : MemItem) → is_at path (entry_of item) ≡ bytes_eq (item_path item) path
at_its_path path (FolderItem own) = refl
at_its_path path (FileItem own size bytes fails) = refl

neither : (x y : Bool) → x ≡ false → y ≡ false → (x || y) ≡ false
neither x y first second = rw (first, second) refl

before_next : (item next : MemItem) (items : List MemItem) → slice_cmp nat_cmp (item_path item) (item_path next) ≡ Less → is_before_first next items ≡ true → is_before_first item items ≡ true
before_next item next [] less before = refl
before_next item next (third ∷ items) less before =
    less_passes (slice_cmp nat_cmp (item_path item) (item_path third)) (
    nat_list_cmp_total.trans (item_path item) (item_path next) (item_path third) less (
    is_less (slice_cmp nat_cmp (item_path next) (item_path third)) before
    )
    )

-- none of the items behind has the path
none_behind : (item : MemItem) (items : List MemItem) → is_before_first item items ≡ true → ascends items ≡ true → list_any (is_at (item_path item)) (entries_of items) ≡ false
none_behind item [] before ascend = refl
none_behind item (next ∷ items) before ascend =
    let parts = and_parts (is_before_first next items) (ascends items) ascend in
    let less = is_less (slice_cmp nat_cmp (item_path item) (item_path next)) before in
    neither (is_at (item_path item) (entry_of next)) (list_any (is_at (item_path item)) (entries_of items))
    (at_its_path (item_path item) next ∙ unlike (item_path item) (item_path next) less)
    (none_behind item items (before_next item next items less parts.0) parts.1)

new_where_none : (item : MemItem) (items : List MemItem) → list_any (is_at (item_path item)) (entries_of items) ≡ false → is_new (entries_of items) (entry_of item) ≡ true
new_where_none (FolderItem path) items none = not_from_false (list_any (is_at path) (entries_of items)) none
new_where_none (FileItem path size bytes fails) items none = not_from_false (list_any (is_at path) (entries_of items)) none

pub ascending_differ : (items : List MemItem) → ascends items ≡ true → all_differ (entries_of items) ≡ true
ascending_differ [] ascend = refl
ascending_differ (item ∷ items) ascend =
    let parts = and_parts (is_before_first item items) (ascends items) ascend in
    and_from (is_new (entries_of items) (entry_of item)) (all_differ (entries_of items))
    (new_where_none item items (none_behind item items parts.0 parts.1))
    (ascending_differ items parts.1)
