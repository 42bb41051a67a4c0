-- Folder maps: an entry that is put in its place, and maps with the same look-ups.
use Rattle.std.proofs.Common.{◌≡◌, ℕ, suc, Bool, true, false, cond, T, ◌&&◌, List, [], ◌∷◌, length, Some, None, Ordering, Less, Equal, Greater, refl, sym, ap, ◌∙◌, true≢false, is_lt, is_some}
use Rattle.std.specs.List.{AllByRecursion}
use Rattle.std.specs.Bool.{passes}
use Rattle.std.specs.Ordering.{match_ordering, ordering_reverse}
use Rattle.std.specs.BTreeMap.{insert_entry}
use Rattle.std.specs.FinMap.Entries.{below_all, is_sorted, put, by_order, find-put, same_entries}
use Rattle.cds_object.specs.Path.{path_cmp, same_path}
use Rattle.cds_object.specs.declared.content.Content.{Content}
use Rattle.cds_catalog.specs.Library.{FolderMap, content_at}
use Rattle.cds_catalog.specs.Laws.{Ascends}
use Rattle.cds_catalog.proofs.Paths.{path_cmp_Equal, same_path_at, same_path_itself, paths_total, same_path_Greater}
use Rattle.cds_catalog.proofs.Maps.{Entry, IsBefore, before_more, ascends_head, ascends_tail, ascends_more, content_at_here, content_at_past}

-- an entry put among some, by how its place and the first one stand
abbrev pub put_by : Ordering → Entry → FolderMap → List (List ℕ) → Content → FolderMap
put_by r e es k v = match_ordering r ((k, v) ∷ e ∷ es) ((e.0, v) ∷ es) (e ∷ insert_entry path_cmp es k v)

insert_before : (p k : List (List ℕ)) (v : Content) (es : FolderMap) → path_cmp p k ≡ Less → IsBefore p es → IsBefore p (insert_entry path_cmp es k v)
insert_before p k v [] first before = (first, tt)
insert_before p k v (e ∷ es) first before =
    elim (path_cmp k e.0) as (λ r. IsBefore p (put_by r e es k v)) [
      | Less ↦ (first, before)
      | Equal ↦ before
      | Greater ↦ (before.0, insert_before p k v es first before.1)
    ]

pub insert_ascends : (k : List (List ℕ)) (v : Content) (es : FolderMap) → Ascends es → Ascends (insert_entry path_cmp es k v)
insert_ascends k v [] ascends = tt
insert_ascends k v (e ∷ es) ascends =
    elim (path_cmp k e.0) as (λ r. path_cmp k e.0 ≡ r → Ascends (put_by r e es k v)) [
      | Less ↦ λ first. ascends_more (k, v) (e ∷ es) (first, before_more k e.0 es first (ascends_head e es ascends)) ascends
      | Equal ↦ λ tie. ascends_more (e.0, v) es (ascends_head e es ascends) (ascends_tail e es ascends)
      | Greater ↦ λ later.
          ascends_more e (insert_entry path_cmp es k v)
          (insert_before e.0 k v es (paths_total.antisymm e.0 k ∙ ap ordering_reverse later) (ascends_head e es ascends))
          (insert_ascends k v es (ascends_tail e es ascends))
    ] refl

insert_is_put : (k : List (List ℕ)) (v : Content) (es : FolderMap) → insert_entry path_cmp es k v ≡ put path_cmp k v es
insert_is_put k v [] = refl
insert_is_put k v (e ∷ es) =
    elim (path_cmp k e.0) as (λ r. put_by r e es k v ≡ by_order r ((k, v) ∷ e ∷ es) ((e.0, v) ∷ es) (e ∷ put path_cmp k v es)) [
      | Less ↦ refl
      | Equal ↦ refl
      | Greater ↦ ap (λ (l : FolderMap). e ∷ l) (insert_is_put k v es)
    ]

pub insert_found : (q k : List (List ℕ)) (v : Content) (es : FolderMap) →
    content_at (insert_entry path_cmp es k v) q ≡ cond (same_path q k) (Some v) (content_at es q)
insert_found q k v es =
    ap (λ l. content_at l q) (insert_is_put k v es) ∙ find-put path_cmp paths_total q k v es ∙ ap (λ b. cond b (Some v) (content_at es q)) (sym (same_path_at q k))

-- what holds of each place and of the new one holds of each place then
pub insert_each : (P : List (List ℕ) → Type 0) (k : List (List ℕ)) (v : Content) (es : FolderMap) → P k → AllByRecursion (λ e. P e.0) es →
    AllByRecursion (λ e. P e.0) (insert_entry path_cmp es k v)
insert_each P k v [] new all = (new, tt)
insert_each P k v (e ∷ es) new all =
    elim (path_cmp k e.0) as (λ r. AllByRecursion (λ f. P f.0) (put_by r e es k v)) [
      | Less ↦ (new, all)
      | Equal ↦ all
      | Greater ↦ (all.0, insert_each P k v es new all.1)
    ]

pub insert_length : (k : List (List ℕ)) (v : Content) (es : FolderMap) → content_at es k ≡ None → length (insert_entry path_cmp es k v) ≡ suc (length es)
insert_length k v [] absent = refl
insert_length k v (e ∷ es) absent =
    elim (path_cmp k e.0) as (λ r. path_cmp k e.0 ≡ r → length (put_by r e es k v) ≡ suc (suc (length es))) [
      | Less ↦ λ first. refl
      | Equal ↦ λ tie. absurd (true≢false (ap is_some (sym (content_at_here e es k (ap (same_path k) (sym (path_cmp_Equal k e.0 tie)) ∙ same_path_itself k)) ∙ absent)))
      | Greater ↦ λ later.
          ap suc (insert_length k v es (sym (content_at_past e es k (same_path_Greater e.0 k (paths_total.antisymm e.0 k ∙ ap ordering_reverse later))) ∙ absent))
    ] refl

-- ---- maps with the same look-ups

both : (a b : Bool) → T a → T b → T (a && b)
both true b p q = q
both false b p q = p

before_all : (p : List (List ℕ)) (es : FolderMap) → IsBefore p es → T (below_all path_cmp p es)
before_all p [] before = tt
before_all p (e ∷ es) before = both _ _ (passes _ (ap is_lt before.0)) (before_all p es before.1)

sorted : (es : FolderMap) → Ascends es → T (is_sorted path_cmp es)
sorted [] ascends = tt
sorted (e ∷ es) ascends = both _ _ (before_all e.0 es (ascends_head e es ascends)) (sorted es (ascends_tail e es ascends))

pub same_library : (es fs : FolderMap) → Ascends es → Ascends fs → ((p : List (List ℕ)) → content_at es p ≡ content_at fs p) → es ≡ fs
same_library es fs one other same = same_entries path_cmp paths_total path_cmp_Equal es fs (sorted es one) (sorted fs other) same
