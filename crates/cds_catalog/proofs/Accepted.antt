-- Records none of which is bad: the map that is made of them is a library with a place for each.
use Rattle.std.proofs.Common.{◌≡◌, ℕ, suc, ◌+◌, Bool, true, false, cond, not, ◌&&◌, ◌||◌, List, [], ◌∷◌, ◌++◌, length, Some, None, refl, sym, ap, ◌∙◌, subst, true≢false, is_some, append_assoc, append-nil, length-append, arith}
use Rattle.std.specs.List.{AllByRecursion, list_any}
use Rattle.std.specs.BTreeMap.{insert_entry}
use Rattle.std.proofs.lemmas.Bool.{cond-true, cond-false, or_parts, or_from, and_parts}
use Rattle.cds_object.specs.Path.{path_cmp, same_path, parent_of}
use Rattle.cds_object.specs.Object.{is_folder}
use Rattle.cds_object.specs.declared.record.Record.{Record}
use Rattle.cds_catalog.specs.Library.{FolderMap, content_at, map_from, map_of}
use Rattle.cds_catalog.specs.Scans.{is_container, is_bad, bad_from, bad_record}
use Rattle.cds_catalog.specs.Laws.{Ascends, holds, IsLibrary}
use Rattle.cds_catalog.proofs.Paths.{same_path_is, same_path_itself, same_path_swap}
use Rattle.cds_catalog.proofs.Maps.{All-map, folder_there}
use Rattle.cds_catalog.proofs.Inserted.{insert_ascends, insert_found, insert_each, insert_length}

-- what holds of each record and of one more
all_push : (P : Record → Type 0) (rs : List Record) (r : Record) → AllByRecursion P rs → P r → AllByRecursion P (rs ++ r ∷ [])
all_push P [] r all one = (one, tt)
all_push P (x ∷ rs) r all one = (all.0, all_push P rs r all.1 one)

all_both : (P Q S : Record → Type 0) → ((r : Record) → P r → Q r → S r) → (rs : List Record) → AllByRecursion P rs → AllByRecursion Q rs → AllByRecursion S rs
all_both P Q S step [] p q = tt
all_both P Q S step (r ∷ rs) p q = (step r p.0 q.0, all_both P Q S step rs p.1 q.1)

none_passes : (test : Record → Bool) (rs : List Record) → list_any test rs ≡ false → AllByRecursion (λ r. test r ≡ false) rs
none_passes test [] none = tt
none_passes test (r ∷ rs) none = let parts = or_parts (test r) (list_any test rs) none in (parts.0, none_passes test rs parts.1)

any_push : (test : Record → Bool) (rs : List Record) (r : Record) → list_any test (rs ++ r ∷ []) ≡ false → (list_any test rs ≡ false) × (test r ≡ false)
any_push test [] r none = (refl, (or_parts (test r) false none).0)
any_push test (x ∷ rs) r none =
    let parts = or_parts (test x) (list_any test (rs ++ r ∷ [])) none in
    let rest = any_push test rs r parts.1 in
    (or_from (test x) (list_any test rs) parts.0 rest.0, rest.1)

not_false : (b : Bool) → not b ≡ false → b ≡ true
not_false true e = refl
not_false false e = absurd (true≢false e)

-- where a place is not the root's, and a folder of the records or the root holds it
abbrev Stands : List Record → List (List ℕ) → Type 0
Stands records p = (same_path p [] ≡ false) × (is_container records (parent_of p) ≡ true)

-- a map made of the records that came before
record Built (records before : List Record) (library : FolderMap) : Type 0 where
  ascending : Ascends library
  long : length library ≡ length before
  recorded : AllByRecursion (λ r. content_at library r.path ≡ Some r.content) before
  absent : (p : List (List ℕ)) → list_any (λ r. same_path p r.path) before ≡ false → content_at library p ≡ None
  placed : AllByRecursion (λ e. Stands records e.0) library

grow_one : (records before : List Record) (r : Record) (library : FolderMap) → Built records before library → is_bad records before r ≡ false →
    Built records (before ++ r ∷ []) (insert_entry path_cmp library r.path r.content)
grow_one records before r library built good =
    let parts = or_parts (same_path r.path [] || not (is_container records (parent_of r.path))) (list_any (λ other. same_path r.path other.path) before) good in
    let place = or_parts (same_path r.path []) (not (is_container records (parent_of r.path))) parts.0 in
    let new : content_at library r.path ≡ None = built.absent r.path parts.1 in
    record {
      ascending = insert_ascends r.path r.content library built.ascending;
      long = insert_length r.path r.content library new ∙ ap suc built.long ∙ one_more (length before) ∙ sym (length-append before (r ∷ []));
      recorded = all_push (λ s. content_at (insert_entry path_cmp library r.path r.content) s.path ≡ Some s.content) before r
          (all_both
          (λ s. content_at library s.path ≡ Some s.content) (λ s. same_path r.path s.path ≡ false)
          (λ s. content_at (insert_entry path_cmp library r.path r.content) s.path ≡ Some s.content)
          (λ s here other. insert_found s.path r.path r.content library ∙ cond-false _ _ _ (same_path_swap s.path r.path ∙ other) ∙ here)
          before built.recorded (none_passes (λ s. same_path r.path s.path) before parts.1))
          (insert_found r.path r.path r.content library ∙ cond-true _ _ _ (same_path_itself r.path));
      absent = λ p none.
          let apart = any_push (λ s. same_path p s.path) before r none in
          insert_found p r.path r.content library ∙ cond-false _ _ _ apart.1 ∙ built.absent p apart.0;
      placed = insert_each (Stands records) r.path r.content library (place.0, not_false _ place.1) built.placed;
    }
  where
    one_more : (n : ℕ) → suc n ≡ n + length (r ∷ [])
    one_more n = omega arith

grow : (records before rest : List Record) (library : FolderMap) → Built records before library → bad_from records before rest ≡ None →
    Built records (before ++ rest) (map_from library rest)
grow records before [] library built good = subst (λ (l : List Record). Built records l library) (sym (append-nil before)) built
grow records before (r ∷ rest) library built good =
    elim (is_bad records before r) as (λ b. is_bad records before r ≡ b →
    cond b (Some (length before + 1)) (bad_from records (before ++ r ∷ []) rest) ≡ None →
    Built records (before ++ r ∷ rest) (map_from (insert_entry path_cmp library r.path r.content) rest)) [
      | true ↦ λ bad good. absurd (true≢false (ap is_some good))
      | false ↦ λ fine good.
          subst (λ (l : List Record). Built records l (map_from (insert_entry path_cmp library r.path r.content) rest))
          (append_assoc before (r ∷ []) rest)
          (grow records (before ++ r ∷ []) rest (insert_entry path_cmp library r.path r.content) (grow_one records before r library built fine) good)
    ] refl good

-- a folder of the records holds in their map
folder_held : (library : FolderMap) (p : List (List ℕ)) (rs : List Record) → AllByRecursion (λ r. content_at library r.path ≡ Some r.content) rs →
    list_any (λ r. same_path p r.path && is_folder r.content) rs ≡ true → folder_there (content_at library p) ≡ true
folder_held library p [] recorded some = absurd (true≢false (sym some))
folder_held library p (r ∷ rs) recorded some =
    elim (same_path p r.path && is_folder r.content) as (λ b. (same_path p r.path && is_folder r.content) ≡ b →
    (b || list_any (λ r. same_path p r.path && is_folder r.content) rs) ≡ true → folder_there (content_at library p) ≡ true) [
      | true ↦ λ here _.
          let parts = and_parts (same_path p r.path) (is_folder r.content) here in
          ap (λ q. folder_there (content_at library q)) (same_path_is p r.path parts.0) ∙ ap folder_there recorded.0 ∙ parts.1
      | false ↦ λ other rest. folder_held library p rs recorded.1 rest
    ] refl some

container_held : (records : List Record) (library : FolderMap) → Built records records library → (p : List (List ℕ)) →
    is_container records p ≡ true → holds library p ≡ true
container_held records library built [] container = refl
container_held records library built (name ∷ names) container = folder_held library (name ∷ names) records built.recorded container

nothing : (records : List Record) → Built records [] []
nothing records = record { ascending = tt; long = refl; recorded = tt; absent = λ p none. refl; placed = tt }

built_of : (records : List Record) → bad_record records ≡ None → Built records records (map_of records)
built_of records good = grow records [] records [] (nothing records) good

pub accepted_map : (records : List Record) → bad_record records ≡ None → IsLibrary (map_of records) × (length (map_of records) ≡ length records)
accepted_map records good =
    let built = built_of records good in (
      record {
        ascending = built.ascending;
        rootless = All-map (λ e. Stands records e.0) (λ e. same_path e.0 [] ≡ false) (λ e stands. stands.0) (map_of records) built.placed;
        held = All-map (λ e. Stands records e.0) (λ e. holds (map_of records) (parent_of e.0) ≡ true)
            (λ e stands. container_held records (map_of records) built (parent_of e.0) stands.1) (map_of records) built.placed;
      },
      built.long,
    )

pub accepted_stand : (records : List Record) → bad_record records ≡ None →
    AllByRecursion (λ r. content_at (map_of records) r.path ≡ Some r.content) records
    × ((path : List (List ℕ)) → list_any (λ r. same_path path r.path) records ≡ false → content_at (map_of records) path ≡ None)
accepted_stand records good =
    let built = built_of records good in (built.recorded, built.absent)
