-- Lemmas on lists of items and the entries that they are given as.
use Rattle.std.proofs.Common.{◌≡◌, ℕ, suc, ◌<◌, Bool, true, false, not, ◌||◌, ◌&&◌, if◌then◌else◌, Option, Some, None, unwrap_or, List, [], ◌∷◌, ◌++◌, length, map, take, drop, get_or, refl, sym, ◌∙◌, ap, subst, arith}
use Rattle.std.specs.List.{list_any, list_all}
use Rattle.std.specs.Option.{option_map}
use Rattle.std.specs.Str.{bytes_eq}
use Rattle.std.specs.Cmp.Lexicographic.{nat_list_eq_equiv}
use Rattle.std.proofs.lemmas.Bool.{and_parts, or_parts, not-true, not_from_false}
use Rattle.std.proofs.lemmas.List.{take-append-drop, take_more, get_or-map, length-map}
use Rattle.std.proofs.Math.Seq.{drop-cons}
use Rattle.cds_outside.specs.declared.folder.Entry.{Entry}
use Rattle.cds_outside.specs.declared.folder.Entry.TheVariants.{Folder, File, End}
use Rattle.cds_memory.specs.declared.item.MemItem.{MemItem}
use Rattle.cds_memory.specs.declared.item.MemItem.TheVariants.{FolderItem, FileItem}
use Rattle.cds_outside.specs.Entries.{OnEntry, IsEntryBehind, all_differ, is_at, is_file_at, is_new, is_tree}
use Rattle.cds_memory.specs.Memory.{SourceState}
use Rattle.cds_memory.specs.Folders.{entry_of, entries_of, source_of, source_at}

-- a test of what a list is mapped to is a test of the list
pub any_of_map : {X Y : Type 0} (test : Y → Bool) (f : X → Y) (xs : List X) → list_any test (map f xs) ≡ list_any (λ x. test (f x)) xs
any_of_map test f [] = refl
any_of_map test f (x ∷ xs) = ap (λ b. test (f x) || b) (any_of_map test f xs)

pub all_of_map : {X Y : Type 0} (test : Y → Bool) (f : X → Y) (xs : List X) → list_all test (map f xs) ≡ list_all (λ x. test (f x)) xs
all_of_map test f [] = refl
all_of_map test f (x ∷ xs) = ap (λ b. test (f x) && b) (all_of_map test f xs)

-- an item is given as an entry, and not as the end
entry_is_there : (item : MemItem) → OnEntry (entry_of item) (Unit {0}) ⊥
entry_is_there (FolderItem path) = tt
entry_is_there (FileItem path size bytes fails) = tt

-- an item of the list is the entry behind those before it
pub is_entry_behind : (items : List MemItem) (at : ℕ) (item : MemItem) → at < length items → item ≡ get_or items at item → IsEntryBehind (entries_of items) at (entry_of item)
is_entry_behind items at item here same =
    let tree : List Entry = entries_of items in
    let within : at < length tree = omega (arith, length-map items entry_of, here) in
    let got : get_or tree at (entry_of item) ≡ entry_of item = get_or-map entry_of items at item (entry_of item) here ∙ ap entry_of (sym same) in
    record {
      there = entry_is_there item;
      rest = drop (suc at) tree;
      stands =
          sym (take-append-drop at tree)
          ∙ ap (λ x. take at tree ++ x) (drop-cons tree at (entry_of item) within ∙ ap (λ y. y ∷ drop (suc at) tree) got);
      taken = take_more tree at (entry_of item) within ∙ ap (λ y. take at tree ++ y ∷ []) got;
    }

-- a test that no element of a list passes is passed by none in its middle
absent : {X : Type 0} (test : X → Bool) (front : List X) (x : X) (rest : List X) → list_any test (front ++ x ∷ rest) ≡ false → test x ≡ false
absent test [] x rest none = (or_parts (test x) (list_any test rest) none).0
absent test (y ∷ front) x rest none = absent test front x rest (or_parts (test y) (list_any test (front ++ x ∷ rest)) none).1

neither : (x y : Bool) → x ≡ false → y ≡ false → (x || y) ≡ false
neither x y first second = rw (first, second) refl

-- two paths differ either way round
apart : (q p : List ℕ) (front rest : List Entry) (e : Entry) → is_at q e ≡ bytes_eq p q → not (list_any (is_at q) (front ++ e ∷ rest)) ≡ true → not (list_any (is_at p) front) ≡ true → not (bytes_eq q p || list_any (is_at p) front) ≡ true
apart q p front rest e is new free =
    not_from_false (bytes_eq q p || list_any (is_at p) front) (
    neither (bytes_eq q p) (list_any (is_at p) front)
    (nat_list_eq_equiv.symm q p ∙ sym is ∙ absent (is_at q) front e rest (not-true (list_any (is_at q) (front ++ e ∷ rest)) new))
    (not-true (list_any (is_at p) front) free)
    )

false_is_true : false ≡ true → ⊥
false_is_true same = cc

differs_from_head : (f e : Entry) (front rest : List Entry) → OnEntry e (Unit {0}) ⊥ → is_new (front ++ e ∷ rest) f ≡ true → is_new front e ≡ true → is_new (f ∷ front) e ≡ true
differs_from_head End e front rest there new free = absurd (false_is_true new)
differs_from_head (Folder q) End front rest there new free = absurd there
differs_from_head (File q size) End front rest there new free = absurd there
differs_from_head (Folder q) (Folder p) front rest there new free = apart q p front rest (Folder p) refl new free
differs_from_head (Folder q) (File p size) front rest there new free = apart q p front rest (File p size) refl new free
differs_from_head (File q more) (Folder p) front rest there new free = apart q p front rest (Folder p) refl new free
differs_from_head (File q more) (File p size) front rest there new free = apart q p front rest (File p size) refl new free

new_at_first : (e : Entry) → OnEntry e (Unit {0}) ⊥ → is_new [] e ≡ true
new_at_first (Folder path) there = refl
new_at_first (File path size) there = refl
new_at_first End there = absurd there

-- where no path comes twice, each entry is new behind those before it
pub differs_before : (front : List Entry) (e : Entry) (rest : List Entry) → OnEntry e (Unit {0}) ⊥ → all_differ (front ++ e ∷ rest) ≡ true → is_new front e ≡ true
differs_before [] e rest there differ = new_at_first e there
differs_before (f ∷ front) e rest there differ =
    let parts = and_parts (is_new (front ++ e ∷ rest) f) (all_differ (front ++ e ∷ rest)) differ in
    differs_from_head f e front rest there parts.0 (differs_before front e rest there parts.1)

pub on_entry : (e : Entry) (P Q : Type 0) → OnEntry e (Unit {0}) ⊥ → P → OnEntry e P Q
on_entry (Folder path) P Q there p = p
on_entry (File path size) P Q there p = p
on_entry End P Q there p = absurd there

-- an entry of a tree is new behind those before it
pub new_behind : (tree : List Entry) (at : ℕ) (e : Entry) → is_tree tree ≡ true → IsEntryBehind tree at e → is_new (take at tree) e ≡ true
new_behind tree at e whole behind =
    let differ = (and_parts (all_differ tree) _ whole).0 in
    differs_before (take at tree) e behind.rest behind.there (let P : List Entry → Type 0 = λ t. all_differ t ≡ true in subst P behind.stands differ)

none_is_some : {source : SourceState} → None ≡ Some source → ⊥
none_is_some same = cc

-- a source that is opened was not read yet
opened_afresh : (item : MemItem) (source : SourceState) → source_of item ≡ Some source → (source.faults ≡ 0) × (source.moved ≡ 0)
opened_afresh (FolderItem path) source is = absurd (none_is_some is)
opened_afresh (FileItem path size None fails) source is = absurd (none_is_some is)
opened_afresh (FileItem path size (Some bytes) fails) source is =
    (sym (ap (λ o. unwrap_or (option_map (λ s. s.faults) o) 0) is), sym (ap (λ o. unwrap_or (option_map (λ s. s.moved) o) 0) is))

chosen_is_fresh : (here : Bool) (item : MemItem) (source : SourceState) (other : Option SourceState) → (other ≡ Some source → (source.faults ≡ 0) × (source.moved ≡ 0)) → (if here then source_of item else other) ≡ Some source → (source.faults ≡ 0) × (source.moved ≡ 0)
chosen_is_fresh true item source other else_fresh is = opened_afresh item source is
chosen_is_fresh false item source other else_fresh is = else_fresh is

pub source_is_fresh : (items : List MemItem) (path : List ℕ) (source : SourceState) → source_at items path ≡ Some source → (source.faults ≡ 0) × (source.moved ≡ 0)
source_is_fresh [] path source is = absurd (none_is_some is)
source_is_fresh (item ∷ items) path source is =
    chosen_is_fresh (is_file_at path (entry_of item)) item source (source_at items path) (source_is_fresh items path source) is
