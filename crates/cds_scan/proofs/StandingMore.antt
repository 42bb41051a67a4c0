-- The records of a scan of a whole tree can all stand: entries, records and the folder map.
use Rattle.std.proofs.Common.{◌≡◌, ℕ, Bool, true, false, not, cond, ◌||◌, ◌&&◌, List, [], ◌∷◌, ◌++◌, Option, Some, None, refl, sym, ap, subst, ◌∙◌, true≢false}
use Rattle.std.specs.List.{AllByRecursion, list_any, list_all, cons_option}
use Rattle.std.specs.Str.{bytes_eq}
use Rattle.std.specs.BTreeMap.{insert_entry}
use Rattle.std.specs.declared.cmp.Ordering.TheVariants.{Less}
use Rattle.std.specs.Cmp.Lexicographic.{nat_list_eq_equiv}
use Rattle.std.proofs.lemmas.Bool.{and_parts, and_from, or_parts, not-true, not_from_true, cond-true, cond-false}
use Rattle.std.proofs.Math.Bool.{or-true}
use Rattle.std.proofs.lemmas.Slice.Eq.{bytes_eq-Decides}
use Rattle.cds_outside.specs.declared.folder.Entry.{Entry}
use Rattle.cds_outside.specs.declared.folder.Entry.TheVariants.{Folder, File, End}
use Rattle.cds_outside.specs.Entries.{Contents, all_differ, is_at, is_folder_at, is_held, is_in, is_name, is_new, is_parent_of, is_path_held, is_tree}
use Rattle.cds_object.specs.declared.content.Content.{Content}
use Rattle.cds_object.specs.declared.record.Record.{Record}
use Rattle.cds_object.specs.Object.{is_folder}
use Rattle.cds_object.specs.Path.{name_of, parent_of, path_cmp, same_path}
use Rattle.cds_catalog.specs.Library.{FolderMap, content_at, map_from, map_of}
use Rattle.cds_catalog.specs.Laws.{Ascends, IsLibrary, holds}
use Rattle.cds_catalog.specs.Scans.{bad_record, is_container}
use Rattle.cds_catalog.proofs.BadLines.{bad_lines}
use Rattle.cds_catalog.proofs.Inserted.{insert_ascends, insert_each, insert_found}
use Rattle.cds_catalog.proofs.Maps.{ascends_head, ascends_tail, content_at_step, folder_there, holds_below_root}
use Rattle.cds_catalog.proofs.Paths.{same_path_is, same_path_itself, same_path_Greater}
use Rattle.cds_scan.specs.Outcomes.{AreOutcomes, IsFileOutcome, IsOutcome, Outcome, Kept, Refused, Passed, ends_in_flac, folder_record, kept_of, records_of}
use Rattle.cds_scan.specs.Found.{placed}
use Rattle.cds_scan.proofs.Standing.{names, read_is_names, one_name, first_name, parent_in, same_names}

neither : (x y : Bool) → x ≡ false → y ≡ false → (x || y) ≡ false
neither x y first second = rw (first, second) refl

-- ---- entries

same_text_is : (a b : List ℕ) → bytes_eq a b ≡ true → a ≡ b
same_text_is a b e = (bytes_eq-Decides a b).0 e

new_at : (f : List ℕ) (e : Entry) (es : List Entry) → is_at f e ≡ true → is_new es e ≡ true → list_any (is_at f) es ≡ false
new_at f (Folder p) es at new = subst (λ t. list_any (is_at t) es ≡ false) (same_text_is p f at) (not-true (list_any (is_at p) es) new)
new_at f (File p size) es at new = subst (λ t. list_any (is_at t) es ≡ false) (same_text_is p f at) (not-true (list_any (is_at p) es) new)
new_at f End es at new = absurd (true≢false (sym at))

folder_is_at : (f : List ℕ) (e : Entry) → is_folder_at f e ≡ true → is_at f e ≡ true
folder_is_at f (Folder p) at = at
folder_is_at f (File p size) at = absurd (true≢false (sym at))
folder_is_at f End at = absurd (true≢false (sym at))

any_more : {X : Type 0} (test : X → Bool) (x : X) (xs : List X) → list_any test xs ≡ true → list_any test (x ∷ xs) ≡ true
any_more test x xs any = ap (λ b. test x || b) any ∙ or-true (test x)

any_here : {X : Type 0} (test : X → Bool) (x : X) (xs : List X) → test x ≡ true → list_any test (x ∷ xs) ≡ true
any_here test x xs here = ap (λ b. b || list_any test xs) here

-- one of a list that passes is here or behind
any_later : {X : Type 0} (test : X → Bool) (x : X) (xs : List X) → test x ≡ false → list_any test (x ∷ xs) ≡ true → list_any test xs ≡ true
any_later test x xs here any = sym (ap (λ b. b || list_any test xs) here) ∙ any

any_at : (f : List ℕ) (es : List Entry) → list_any (is_folder_at f) es ≡ true → list_any (is_at f) es ≡ true
any_at f [] any = absurd (true≢false (sym any))
any_at f (e ∷ es) any = by (is_folder_at f e) refl (λ k. any_at f es k)
  where
    by : (b : Bool) → is_folder_at f e ≡ b → (list_any (is_folder_at f) es ≡ true → list_any (is_at f) es ≡ true) → list_any (is_at f) (e ∷ es) ≡ true
    by true is behind = any_here (is_at f) e es (folder_is_at f e is)
    by false is behind = any_more (is_at f) e es (behind (any_later (is_folder_at f) e es is any))

-- an entry at the path of a folder is that folder
abbrev IsOnly : List ℕ → Entry → Type 0
IsOnly f e = is_at f e ≡ true → is_folder_at f e ≡ true

absent_only : (f : List ℕ) (es : List Entry) → list_any (is_at f) es ≡ false → AllByRecursion (IsOnly f) es
absent_only f [] none = tt
absent_only f (e ∷ es) none =
    let parts = or_parts (is_at f e) (list_any (is_at f) es) none in
    (λ at. absurd (true≢false (sym at ∙ parts.0)), absent_only f es parts.1)

only : (f : List ℕ) (es : List Entry) → all_differ es ≡ true → list_any (is_folder_at f) es ≡ true → AllByRecursion (IsOnly f) es
only f [] differ any = tt
only f (e ∷ es) differ any = by (is_folder_at f e) refl (λ k. only f es later k)
  where
    new : is_new es e ≡ true
    new = (and_parts (is_new es e) (all_differ es) differ).0

    later : all_differ es ≡ true
    later = (and_parts (is_new es e) (all_differ es) differ).1

    by : (b : Bool) → is_folder_at f e ≡ b → (list_any (is_folder_at f) es ≡ true → AllByRecursion (IsOnly f) es) → AllByRecursion (IsOnly f) (e ∷ es)
    by true is rest = (λ at. is, absent_only f es (new_at f e es (folder_is_at f e is) new))
    by false is rest =
        let behind = any_later (is_folder_at f) e es is any in
        (λ at. absurd (true≢false (sym (any_at f es behind) ∙ new_at f e es at new)), rest behind)

some_parent : (path : List ℕ) (es : List Entry) → list_any (is_parent_of path) es ≡ true → (f : List ℕ) × (is_in f path ≡ true) × (list_any (is_folder_at f) es ≡ true)
some_parent path [] any = absurd (true≢false (sym any))
some_parent path (e ∷ es) any = by e (is_parent_of path e) refl refl (λ k. some_parent path es k)
  where
    by : (x : Entry) (b : Bool) → x ≡ e → is_parent_of path x ≡ b → (list_any (is_parent_of path) es ≡ true → (f : List ℕ) × (is_in f path ≡ true) × (list_any (is_folder_at f) es ≡ true)) → (f : List ℕ) × (is_in f path ≡ true) × (list_any (is_folder_at f) (e ∷ es) ≡ true)
    by (Folder f) true same is rest = (f, is, any_here (is_folder_at f) e es (subst (λ x. is_folder_at f x ≡ true) same (nat_list_eq_equiv.refl f)))
    by (File f size) true same is rest = absurd (true≢false (sym is))
    by End true same is rest = absurd (true≢false (sym is))
    by x false same is rest =
        let behind = rest (any_later (is_parent_of path) e es (ap (is_parent_of path) (sym same) ∙ is) any) in
        (behind.0, behind.1, any_more (is_folder_at behind.0) e es behind.2)

held_at : (seen : List Entry) (e : Entry) (path : List ℕ) → is_at path e ≡ true → is_held seen e ≡ true → is_path_held seen path ≡ true
held_at seen (Folder p) path at held = subst (λ t. is_path_held seen t ≡ true) (same_text_is p path at) held
held_at seen (File p size) path at held = subst (λ t. is_path_held seen t ≡ true) (same_text_is p path at) held
held_at seen End path at held = absurd (true≢false (sym at))

-- ---- records of entries

record FromEntry (e : Entry) (r : Record) : Type 0 where
  path : List ℕ
  at : is_at path e ≡ true
  place : r.path ≡ names path

kept_is : (a b : Record) → ◌≡◌ {A = Outcome} (Kept a) (Kept b) → a ≡ b
kept_is a b e = cc

kept_passed : (r : Record) → ◌≡◌ {A = Outcome} (Kept r) Passed → ⊥
kept_passed r e = cc

from_file : (flac : Bool) (contents : Option Contents) (path : List ℕ) (place : List (List ℕ)) (size : ℕ) (r : Record) → IsFileOutcome flac contents path place size (Kept r) → r.path ≡ place
from_file true contents path place size r is = ap (λ x. x.path) is.1
from_file false contents path place size r is = absurd (kept_passed r is)

from_entry : (contents : Option Contents) (e : Entry) (r : Record) → IsOutcome contents e (Kept r) → FromEntry e r
from_entry contents (Folder path) r is = record {
  path = path;
  at = nat_list_eq_equiv.refl path;
  place = ap (λ x. x.path) (kept_is r (folder_record is.0) is.2) ∙ read_is_names path is.0 is.1;
}
from_entry contents (File path size) r is = record {
  path = path;
  at = nat_list_eq_equiv.refl path;
  place = from_file (ends_in_flac (name_of is.0)) contents path is.0 size r is.2 ∙ read_is_names path is.0 is.1;
}
from_entry contents End r is = absurd is

folder_kept : (contents : Option Contents) (e : Entry) (r : Record) (f : List ℕ) → is_folder_at f e ≡ true → IsOutcome contents e (Kept r) → is_folder r.content ≡ true
folder_kept contents (Folder path) r f at is = ap (λ x. is_folder x.content) (kept_is r (folder_record is.0) is.2)
folder_kept contents (File path size) r f at is = absurd (true≢false (sym at))
folder_kept contents End r f at is = absurd (true≢false (sym at))

abbrev is_folder_record : List (List ℕ) → Record → Bool
is_folder_record q r = same_path q r.path && is_folder r.content

record FolderKept (f : List ℕ) (o : Outcome) : Type 0 where
  kept : Record
  is : o ≡ Kept kept
  folder : is_folder_record (names f) kept ≡ true

folder_outcome : (contents : Option Contents) (f : List ℕ) (e : Entry) (o : Outcome) → is_folder_at f e ≡ true → IsOutcome contents e o → FolderKept f o
folder_outcome contents f (Folder path) o at is =
    let same : is.0 ≡ names f = read_is_names path is.0 is.1 ∙ ap names (same_text_is path f at) in
    record {
      kept = folder_record is.0;
      is = is.2;
      folder = and_from (same_path (names f) is.0) true (subst (λ q. same_path (names f) q ≡ true) (sym same) (same_path_itself (names f))) refl;
    }
folder_outcome contents f (File path size) o at is = absurd (true≢false (sym at))
folder_outcome contents f End o at is = absurd (true≢false (sym at))

any_option : (test : Record → Bool) (x : Option Record) (rs : List Record) → list_any test rs ≡ true → list_any test (cons_option x rs) ≡ true
any_option test None rs any = any
any_option test (Some r) rs any = any_more test r rs any

has_folder : (contents : Option Contents) (f : List ℕ) (es : List Entry) (os : List Outcome) → AreOutcomes contents es os → list_any (is_folder_at f) es ≡ true → list_any (is_folder_record (names f)) (records_of os) ≡ true
has_folder contents f [] [] all any = absurd (true≢false (sym any))
has_folder contents f [] (o ∷ os) all any = absurd all
has_folder contents f (e ∷ es) [] all any = absurd all
has_folder contents f (e ∷ es) (o ∷ os) all any = by (is_folder_at f e) refl (λ k. has_folder contents f es os all.1 k)
  where
    by : (b : Bool) → is_folder_at f e ≡ b → (list_any (is_folder_at f) es ≡ true → list_any (is_folder_record (names f)) (records_of os) ≡ true) → list_any (is_folder_record (names f)) (records_of (o ∷ os)) ≡ true
    by true is rest =
        let kept = folder_outcome contents f e o is all.0 in
        ap (λ x. list_any (is_folder_record (names f)) (cons_option (kept_of x) (records_of os))) kept.is
        ∙ any_here (is_folder_record (names f)) kept.kept (records_of os) kept.folder
    by false is rest = any_option (is_folder_record (names f)) (kept_of o) (records_of os) (rest (any_later (is_folder_at f) e es is any))

each_record : (contents : Option Contents) (E : Entry → Type 0) (Q : Record → Type 0) → ((e : Entry) → E e → (r : Record) → IsOutcome contents e (Kept r) → Q r) → (es : List Entry) (os : List Outcome) → AreOutcomes contents es os → AllByRecursion E es → AllByRecursion Q (records_of os)
each_record contents E Q step [] [] all each = tt
each_record contents E Q step [] (o ∷ os) all each = absurd all
each_record contents E Q step (e ∷ es) [] all each = absurd all
each_record contents E Q step (e ∷ es) (Kept r ∷ os) all each = (step e each.0 r all.0, each_record contents E Q step es os all.1 each.1)
each_record contents E Q step (e ∷ es) (Refused file ∷ os) all each = each_record contents E Q step es os all.1 each.1
each_record contents E Q step (e ∷ es) (Passed ∷ os) all each = each_record contents E Q step es os all.1 each.1

abbrev IsFolderAt : List (List ℕ) → Record → Type 0
IsFolderAt q r = same_path q r.path ≡ true → is_folder r.content ≡ true

only_folders : (contents : Option Contents) (f : List ℕ) (es : List Entry) (os : List Outcome) → AreOutcomes contents es os → AllByRecursion (IsOnly f) es → AllByRecursion (IsFolderAt (names f)) (records_of os)
only_folders contents f es os all each =
    each_record contents (IsOnly f) (IsFolderAt (names f)) (λ e is_only r is same.
    let from = from_entry contents e r is in
    let text : from.path ≡ f = sym (same_names f from.path (same_path_is (names f) r.path same ∙ from.place)) in
    folder_kept contents e r f (is_only (subst (λ t. is_at t e ≡ true) text from.at)) is
    ) es os all each

-- ---- the folder map

put_folder : (q : List (List ℕ)) (r : Record) (m : FolderMap) (b : Bool) → same_path q r.path ≡ b → (b ≡ true → is_folder r.content ≡ true) → (b ≡ false → folder_there (content_at m q) ≡ true) → folder_there (content_at (insert_entry path_cmp m r.path r.content) q) ≡ true
put_folder q r m true same here else_ =
    ap folder_there (insert_found q r.path r.content m ∙ cond-true (same_path q r.path) (Some r.content) (content_at m q) same) ∙ here refl
put_folder q r m false same here else_ =
    ap folder_there (insert_found q r.path r.content m ∙ cond-false (same_path q r.path) (Some r.content) (content_at m q) same) ∙ else_ refl

stays : (q : List (List ℕ)) (rs : List Record) (m : FolderMap) → folder_there (content_at m q) ≡ true → AllByRecursion (IsFolderAt q) rs → folder_there (content_at (map_from m rs) q) ≡ true
stays q [] m there all = there
stays q (r ∷ rs) m there all =
    stays q rs (insert_entry path_cmp m r.path r.content) (put_folder q r m (same_path q r.path) refl all.0 (λ other. there)) all.1

comes : (q : List (List ℕ)) (rs : List Record) (m : FolderMap) → list_any (is_folder_record q) rs ≡ true → AllByRecursion (IsFolderAt q) rs → folder_there (content_at (map_from m rs) q) ≡ true
comes q [] m any all = absurd (true≢false (sym any))
comes q (r ∷ rs) m any all = by (is_folder_record q r) refl (λ k. comes q rs (insert_entry path_cmp m r.path r.content) k all.1)
  where
    by : (b : Bool) → is_folder_record q r ≡ b → (list_any (is_folder_record q) rs ≡ true → folder_there (content_at (map_from m (r ∷ rs)) q) ≡ true) → folder_there (content_at (map_from m (r ∷ rs)) q) ≡ true
    by true is rest =
        let parts = and_parts (same_path q r.path) (is_folder r.content) is in
        stays q rs (insert_entry path_cmp m r.path r.content) (put_folder q r m true parts.0 (λ same. parts.1) (λ other. absurd (true≢false other))) all.1
    by false is rest = rest (any_later (is_folder_record q) r rs is any)

map_each : (P : List (List ℕ) → Type 0) (rs : List Record) (m : FolderMap) → AllByRecursion (λ e. P e.0) m → AllByRecursion (λ r. P r.path) rs → AllByRecursion (λ e. P e.0) (map_from m rs)
map_each P [] m all each = all
map_each P (r ∷ rs) m all each = map_each P rs (insert_entry path_cmp m r.path r.content) (insert_each P r.path r.content m each.0 all) each.1

map_ascends : (rs : List Record) (m : FolderMap) → Ascends m → Ascends (map_from m rs)
map_ascends [] m ascends = ascends
map_ascends (r ∷ rs) m ascends = map_ascends rs (insert_entry path_cmp m r.path r.content) (insert_ascends r.path r.content m ascends)

below_root : (text : List ℕ) → same_path (names text) [] ≡ false
below_root text = ap (λ ns. same_path ns []) (first_name text).2

all_from : (test : Entry → Bool) (es : List Entry) → list_all test es ≡ true → AllByRecursion (λ e. test e ≡ true) es
all_from test [] all = tt
all_from test (e ∷ es) all =
    let parts = and_parts (test e) (list_all test es) all in
    (parts.0, all_from test es parts.1)

-- the folder map of a whole tree's records
pub is_library : (contents : Option Contents) (seen : List Entry) (os : List Outcome) → is_tree seen ≡ true → AreOutcomes contents seen os → IsLibrary (map_of (records_of os))
is_library contents seen os whole all =
    let parts = and_parts (all_differ seen) (list_all (is_held seen) seen) whole in
    let m : FolderMap = map_of (records_of os) in
    let held_each = all_from (is_held seen) seen parts.1 in
    record {
      ascending = map_ascends (records_of os) [] tt;
      rootless =
          map_each (λ k. same_path k [] ≡ false) (records_of os) [] tt (
          each_record contents (λ e. is_held seen e ≡ true) (λ r. same_path r.path [] ≡ false) (λ e held r is.
          let from = from_entry contents e r is in
          subst (λ k. same_path k [] ≡ false) (sym from.place) (below_root from.path)
          ) seen os all held_each
          );
      held =
          map_each (λ k. holds m (parent_of k) ≡ true) (records_of os) [] tt (
          each_record contents (λ e. is_held seen e ≡ true) (λ r. holds m (parent_of r.path) ≡ true) (λ e held r is.
          let from = from_entry contents e r is in
          subst (λ k. holds m (parent_of k) ≡ true) (sym from.place) (
          parent_held contents seen os parts.0 all from.path (held_at seen e from.path from.at held)
          )
          ) seen os all held_each
          );
    }
  where
    parent_held : (contents : Option Contents) (seen : List Entry) (os : List Outcome) → all_differ seen ≡ true → AreOutcomes contents seen os → (path : List ℕ) → is_path_held seen path ≡ true → holds (map_of (records_of os)) (parent_of (names path)) ≡ true
    parent_held contents seen os differ all path held = by (is_name path) refl
      where
        by : (b : Bool) → is_name path ≡ b → holds (map_of (records_of os)) (parent_of (names path)) ≡ true
        by true is = ap (λ ns. holds (map_of (records_of os)) (parent_of ns)) (one_name path is)
        by false is =
            let parent = some_parent path seen (sym (ap (λ b. b || list_any (is_parent_of path) seen) is) ∙ held) in
            let f = parent.0 in
            ap (holds (map_of (records_of os))) (parent_in f path parent.1)
            ∙ holds_below_root (map_of (records_of os)) (names f) (below_root f)
            ∙ comes (names f) (records_of os) [] (has_folder contents f seen os all parent.2) (only_folders contents f seen os all (only f seen differ parent.2))

-- ---- records that stand

at_split : (P : List (List ℕ) × Content → Type 0) (before rest : List Record) (r : Record) → AllByRecursion P (placed (before ++ r ∷ rest)) → P (r.path, r.content)
at_split P [] rest r all = all.0
at_split P (x ∷ before) rest r all = at_split P before rest r all.1

no_other : (before rest : List Record) (r : Record) → Ascends (placed (before ++ r ∷ rest)) → list_any (λ other. same_path r.path other.path) before ≡ false
no_other [] rest r ascends = refl
no_other (x ∷ before) rest r ascends =
    let x_entry : List (List ℕ) × Content = (x.path, x.content) in
    let behind : FolderMap = placed (before ++ r ∷ rest) in
    let less = at_split (λ e. path_cmp x.path e.0 ≡ Less) before rest r (ascends_head x_entry behind ascends) in
    neither (same_path r.path x.path) (list_any (λ other. same_path r.path other.path) before) (same_path_Greater x.path r.path less)
    (no_other before rest r (ascends_tail x_entry behind ascends))

container_below : (q : List (List ℕ)) (records : List Record) → folder_there (content_at (placed records) q) ≡ true → list_any (is_folder_record q) records ≡ true
container_below q [] there = absurd (true≢false (sym there))
container_below q (r ∷ rs) there = by (same_path q r.path) refl (λ k. container_below q rs k)
  where
    entry : List (List ℕ) × Content
    entry = (r.path, r.content)

    step : content_at (placed (r ∷ rs)) q ≡ cond (same_path q r.path) (Some r.content) (content_at (placed rs) q)
    step = content_at_step (r.path, r.content) (placed rs) q

    by : (b : Bool) → same_path q r.path ≡ b → (folder_there (content_at (placed rs) q) ≡ true → list_any (is_folder_record q) rs ≡ true) → list_any (is_folder_record q) (r ∷ rs) ≡ true
    by true same rest =
        any_here (is_folder_record q) r rs (
        and_from (same_path q r.path) (is_folder r.content) same (
        sym (ap folder_there (step ∙ cond-true (same_path q r.path) (Some r.content) (content_at (placed rs) q) same)) ∙ there
        )
        )
    by false other rest =
        any_more (is_folder_record q) r rs (
        rest (sym (ap folder_there (step ∙ cond-false (same_path q r.path) (Some r.content) (content_at (placed rs) q) other)) ∙ there)
        )

contains : (records : List Record) (q : List (List ℕ)) → holds (placed records) q ≡ true → is_container records q ≡ true
contains records [] held = refl
contains records (n ∷ ns) held = container_below (n ∷ ns) records (sym (holds_below_root (placed records) (n ∷ ns) refl) ∙ held)

-- records of a folder map can all stand
pub all_stand : (records : List Record) → IsLibrary (placed records) → bad_record records ≡ None
all_stand records is =
    (bad_lines.1 records).1 (λ before rest r split.
    let Split : List Record → Type 0 = λ rs. IsLibrary (placed rs) in
    let here = subst Split split is in
    neither (same_path r.path [] || not (is_container records (parent_of r.path))) (list_any (λ other. same_path r.path other.path) before)
    (neither (same_path r.path []) (not (is_container records (parent_of r.path)))
    (at_split (λ e. same_path e.0 [] ≡ false) before rest r here.rootless)
    (not_from_true (is_container records (parent_of r.path)) (
    contains records (parent_of r.path) (
    subst (λ rs. holds (placed rs) (parent_of r.path) ≡ true) (sym split) (
    at_split (λ e. holds (placed (before ++ r ∷ rest)) (parent_of e.0) ≡ true) before rest r here.held
    )
    )
    )))
    (no_other before rest r here.ascending)
    )
