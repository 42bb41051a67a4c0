-- Folder maps: what is looked up in a list of entries that is in order.
use Rattle.std.proofs.Common.{◌≡◌, ℕ, Bool, true, false, cond, List, [], ◌∷◌, ◌++◌, Option, Some, None, Ordering, Less, Equal, Greater, refl, sym, ap, ◌∙◌, subst, true≢false, is_lt, is_some}
use Rattle.std.specs.List.{AllByRecursion}
use Rattle.std.proofs.lemmas.Option.{same_Some}
use Rattle.std.proofs.lemmas.Bool.{cond-true, cond-false}
use Rattle.cds_object.specs.Path.{path_cmp, same_path, parent_of}
use Rattle.cds_object.specs.Object.{is_folder}
use Rattle.cds_object.specs.declared.content.Content.{Content}
use Rattle.cds_catalog.specs.Library.{FolderMap, content_at}
use Rattle.cds_catalog.specs.Laws.{Ascends, holds, IsLibrary, AreLibraries}
use Rattle.cds_catalog.specs.History.{latest}
use Rattle.cds_catalog.proofs.Paths.{same_path_is, same_path_itself, same_path_at, same_path_Less, same_path_Greater, same_path_swap, paths_total}

-- a place with what stands there
abbrev pub Entry : Type 0
Entry = List (List ℕ) × Content

-- ---- what holds of each entry

pub All-both : (P Q S : Entry → Type 0) → ((e : Entry) → P e → Q e → S e) → (es : FolderMap) → AllByRecursion P es → AllByRecursion Q es → AllByRecursion S es
All-both P Q S step [] p q = tt
All-both P Q S step (e ∷ es) p q = (step e p.0 q.0, All-both P Q S step es p.1 q.1)

pub All-map : (P S : Entry → Type 0) → ((e : Entry) → P e → S e) → (es : FolderMap) → AllByRecursion P es → AllByRecursion S es
All-map P S step [] p = tt
All-map P S step (e ∷ es) p = (step e p.0, All-map P S step es p.1)

-- ---- one look-up

pub content_at_step : (e : Entry) (es : FolderMap) (p : List (List ℕ)) → content_at (e ∷ es) p ≡ cond (same_path p e.0) (Some e.1) (content_at es p)
content_at_step e es p = ap (λ b. cond b (Some e.1) (content_at es p)) (sym (same_path_at p e.0))

pub content_at_here : (e : Entry) (es : FolderMap) (p : List (List ℕ)) → same_path p e.0 ≡ true → content_at (e ∷ es) p ≡ Some e.1
content_at_here e es p same = content_at_step e es p ∙ cond-true _ _ _ same

pub content_at_past : (e : Entry) (es : FolderMap) (p : List (List ℕ)) → same_path p e.0 ≡ false → content_at (e ∷ es) p ≡ content_at es p
content_at_past e es p other = content_at_step e es p ∙ cond-false _ _ _ other

-- what holds of each entry holds of what is looked up
pub at_entry : (P : Entry → Type 0) (es : FolderMap) → AllByRecursion P es → (p : List (List ℕ)) (x : Content) → content_at es p ≡ Some x → P (p, x)
at_entry P [] all p x found = absurd (true≢false (sym (ap is_some found)))
at_entry P (e ∷ es) all p x found =
    elim (same_path p e.0) as (λ b. same_path p e.0 ≡ b → P (p, x)) [
      | true ↦ λ same.
          let place : e.0 ≡ p = sym (same_path_is p e.0 same) in
          let value : e.1 ≡ x = same_Some e.1 x (sym (content_at_here e es p same) ∙ found) in
          subst P (λ i. (place i, value i)) all.0
      | false ↦ λ other. at_entry P es all.1 p x (sym (content_at_past e es p other) ∙ found)
    ] refl

-- ---- entries in order

-- a place before each of some entries
abbrev pub IsBefore : List (List ℕ) → FolderMap → Type 0
IsBefore p es = AllByRecursion (λ e. path_cmp p e.0 ≡ Less) es

less : (r : Ordering) → is_lt r ≡ true → r ≡ Less
less Less e = refl
less Equal e = absurd (true≢false (sym e))
less Greater e = absurd (true≢false (sym e))

pub before_more : (p q : List (List ℕ)) (es : FolderMap) → path_cmp p q ≡ Less → IsBefore q es → IsBefore p es
before_more p q es first before = All-map (λ e. path_cmp q e.0 ≡ Less) (λ e. path_cmp p e.0 ≡ Less) (λ e. paths_total.trans p q e.0 first) es before

pub ascends_tail : (e : Entry) (es : FolderMap) → Ascends (e ∷ es) → Ascends es
ascends_tail e [] ascends = tt
ascends_tail e (f ∷ fs) ascends = ascends.1

pub ascends_head : (e : Entry) (es : FolderMap) → Ascends (e ∷ es) → IsBefore e.0 es
ascends_head e [] ascends = tt
ascends_head e (f ∷ fs) ascends =
    let first = less (path_cmp e.0 f.0) ascends.0 in
    (first, before_more e.0 f.0 fs first (ascends_head f fs ascends.1))

pub ascends_more : (e : Entry) (es : FolderMap) → IsBefore e.0 es → Ascends es → Ascends (e ∷ es)
ascends_more e [] before ascends = tt
ascends_more e (f ∷ fs) before ascends = (ap is_lt before.0, ascends)

-- nothing is looked up before the first place
pub absent_before : (p : List (List ℕ)) (es : FolderMap) → IsBefore p es → content_at es p ≡ None
absent_before p [] before = refl
absent_before p (e ∷ es) before = content_at_past e es p (same_path_Less p e.0 before.0) ∙ absent_before p es before.1

-- each entry is looked up at its place
pub each_found : (es : FolderMap) → Ascends es → AllByRecursion (λ e. content_at es e.0 ≡ Some e.1) es
each_found [] ascends = tt
each_found (e ∷ es) ascends = (
  content_at_here e es e.0 (same_path_itself e.0),
  All-both (λ f. path_cmp e.0 f.0 ≡ Less) (λ f. content_at es f.0 ≡ Some f.1) (λ f. content_at (e ∷ es) f.0 ≡ Some f.1)
      (λ f later here. content_at_past e es f.0 (same_path_Greater e.0 f.0 later) ∙ here)
      es (ascends_head e es ascends) (each_found es (ascends_tail e es ascends)),
)

-- after each entry comes all that the map has behind its place
abbrev pub Reaches : FolderMap → FolderMap → Type 0
Reaches all [] = Unit {0}
Reaches all (e ∷ es) = ((p : List (List ℕ)) → path_cmp e.0 p ≡ Less → content_at es p ≡ content_at all p) × Reaches all es

reaches_from : (all : FolderMap) (e : Entry) (es : FolderMap) → Ascends (e ∷ es) →
    ((p : List (List ℕ)) → path_cmp e.0 p ≡ Less → content_at (e ∷ es) p ≡ content_at all p) → Reaches all (e ∷ es)
reaches_from all e [] ascends whole = (λ p later. sym (content_at_past e [] p (same_path_Greater e.0 p later)) ∙ whole p later, tt)
reaches_from all e (f ∷ fs) ascends whole =
    let behind : (p : List (List ℕ)) → path_cmp e.0 p ≡ Less → content_at (f ∷ fs) p ≡ content_at all p
    = λ p later. sym (content_at_past e (f ∷ fs) p (same_path_Greater e.0 p later)) ∙ whole p later in
    (behind, reaches_from all f fs ascends.1 (λ p later. behind p (paths_total.trans e.0 f.0 p (less _ ascends.0) later)))

pub reaches_all : (all : FolderMap) → Ascends all → Reaches all all
reaches_all [] ascends = tt
reaches_all (e ∷ es) ascends = reaches_from (e ∷ es) e es ascends (λ p later. refl)

-- ---- libraries

pub empty_is_library : IsLibrary []
empty_is_library = record { ascending = tt; rootless = tt; held = tt }

pub latest_is_library : (maps : List FolderMap) → AreLibraries maps → IsLibrary (latest maps)
latest_is_library [] all = empty_is_library
latest_is_library (library ∷ older) all = all.0

pub older_are_libraries : (newer older : List FolderMap) → AreLibraries (newer ++ older) → AreLibraries older
older_are_libraries [] older all = all
older_are_libraries (library ∷ newer) older all = older_are_libraries newer older all.1

-- nothing stands at the root's place
pub absent_root : (library : FolderMap) → IsLibrary library → content_at library [] ≡ None
absent_root library is = none library is.rootless
  where
    none : (es : FolderMap) → AllByRecursion (λ e. same_path e.0 [] ≡ false) es → content_at es [] ≡ None
    none [] all = refl
    none (e ∷ es) all = content_at_past e es [] (same_path_swap [] e.0 ∙ all.0) ∙ none es all.1

-- whether what stands at a place, if anything, is a folder
abbrev pub folder_there : Option Content → Bool
folder_there None = false
folder_there (Some content) = is_folder content

pub holds_below_root : (library : FolderMap) (p : List (List ℕ)) → same_path p [] ≡ false → holds library p ≡ folder_there (content_at library p)
holds_below_root library [] root = absurd (true≢false root)
holds_below_root library (name ∷ names) other = refl

-- what holds another object is a folder
pub parent_is_folder : (library : FolderMap) → IsLibrary library → (p : List (List ℕ)) (x : Content) → content_at library p ≡ Some x →
    same_path (parent_of p) [] ≡ false → folder_there (content_at library (parent_of p)) ≡ true
parent_is_folder library is p x found below =
    sym (holds_below_root library (parent_of p) below) ∙ at_entry (λ e. holds library (parent_of e.0) ≡ true) library is.held p x found
