-- The changes that a scan found, one by one: what stands after some of them, and that each may follow those before it.
use Rattle.std.proofs.Common.{◌≡◌, ℕ, Bool, true, false, cond, List, [], ◌∷◌, ◌++◌, reverse, Option, Some, None, Less, refl, sym, ap, ◌∙◌, subst, true≢false, is_some, append_assoc}
use Rattle.std.specs.List.{AllByRecursion, filter_map, cons_option}
use mathlib.Core.List.{reverse-cons}
use Rattle.std.proofs.lemmas.Bool.{cond-true, cond-false}
use Rattle.cds_object.specs.Path.{path_cmp, same_path, parent_of}
use Rattle.cds_object.specs.Content.{same_content, same_kind}
use Rattle.cds_object.specs.Object.{is_folder}
use Rattle.cds_object.specs.declared.content.Content.{Content}
use Rattle.cds_object.specs.declared.content.Content.TheVariants.{Folder, Track}
use Rattle.cds_catalog.specs.Library.{FolderMap, content_at, departure, arrival, found}
use Rattle.cds_catalog.specs.Laws.{Ascends, IsLibrary, AreLibraries}
use Rattle.cds_catalog.specs.History.{latest, changes_of}
use Rattle.cds_catalog.specs.Replay.{stands, holds_after, MayFollow, IsLegal}
use Rattle.cds_catalog.specs.declared.change.Change.{Change}
use Rattle.cds_catalog.specs.declared.change.Change.TheVariants.{Deletion, Addition, Modification}
use Rattle.cds_catalog.proofs.Paths.{same_path_is, same_path_itself, parent_before}
use Rattle.cds_catalog.proofs.Contents.{same_content_is}
use Rattle.cds_catalog.proofs.Maps.{Entry, IsBefore, Reaches, folder_there, content_at_here, content_at_past, at_entry, absent_before, ascends_head, ascends_tail, each_found, reaches_all, parent_is_folder, before_more, latest_is_library}

-- what is left of what stood at a place once the deletions are done, by what stands there in the new map
abbrev pub kept_of : Option Content → Option Content → Option Content
kept_of None now = None
kept_of (Some before) None = None
kept_of (Some before) (Some now) = cond (same_kind before now) (Some before) None

abbrev pub kept : FolderMap → FolderMap → List (List ℕ) → Option Content
kept old new p = kept_of (content_at old p) (content_at new p)

-- the change of an entry, by what is looked up at its place
abbrev pub departs : Entry → Option Content → Option Change
departs e None = Some (Deletion e.0)
departs e (Some now) = cond (same_kind e.1 now) None (Some (Deletion e.0))

abbrev pub arrives : Entry → Option Content → Option Change
arrives e None = Some (Addition e.0 e.1)
arrives e (Some before) =
    cond (same_kind before e.1)
    (cond (same_content before e.1) None (Some (Modification e.0 e.1)))
    (Some (Addition e.0 e.1))

pub departure_is : (new : FolderMap) (e : Entry) → departure new e ≡ departs e (content_at new e.0)
departure_is new e = refl

pub arrival_is : (old : FolderMap) (e : Entry) → arrival old e ≡ arrives e (content_at old e.0)
arrival_is old e = refl

cons_more : (change : Option Change) (changes older : List Change) → cons_option change changes ++ older ≡ cons_option change (changes ++ older)
cons_more None changes older = refl
cons_more (Some change) changes older = refl

reverse_more : (change : Option Change) (changes older : List Change) → reverse (cons_option change changes) ++ older ≡ reverse changes ++ cons_option change older
reverse_more None changes older = refl
reverse_more (Some change) changes older =
    ap (λ (l : List Change). l ++ older) (reverse-cons change changes) ∙ append_assoc (reverse changes) (change ∷ []) older

pub same_branches : {A : Type 0} (b : Bool) (x : A) → cond b x x ≡ x
same_branches true x = refl
same_branches false x = refl

-- ---- the deletions

-- what stands once the deletions of some entries of the old map are done
abbrev pub Departed : FolderMap → FolderMap → FolderMap → List Change → Type 0
Departed old new es changes =
    (p : List (List ℕ)) → stands changes p ≡ cond (is_some (content_at es p)) (kept old new p) (content_at old p)

departed_here : (e : Entry) (c : Option Content) (changes : List Change) (p : List (List ℕ)) (b : Bool) → same_path p e.0 ≡ true →
    stands changes p ≡ cond b (kept_of (Some e.1) c) (Some e.1) → stands (cons_option (departs e c) changes) p ≡ kept_of (Some e.1) c
departed_here e None changes p b same s = cond-true _ _ _ same
departed_here e (Some now) changes p b same s =
    elim (same_kind e.1 now) as (λ k.
    stands changes p ≡ cond b (cond k (Some e.1) None) (Some e.1) →
    stands (cons_option (cond k None (Some (Deletion e.0))) changes) p ≡ cond k (Some e.1) None) [
      | true ↦ λ s. s ∙ same_branches b (Some e.1)
      | false ↦ λ s. cond-true _ _ _ same
    ] s

departed_past : (e : Entry) (c : Option Content) (changes : List Change) (p : List (List ℕ)) → same_path p e.0 ≡ false →
    stands (cons_option (departs e c) changes) p ≡ stands changes p
departed_past e None changes p other = cond-false _ _ _ other
departed_past e (Some now) changes p other =
    elim (same_kind e.1 now) as (λ k. stands (cons_option (cond k None (Some (Deletion e.0))) changes) p ≡ stands changes p) [
      | true ↦ refl
      | false ↦ cond-false _ _ _ other
    ]

departed_more : (old new : FolderMap) (e : Entry) (es : FolderMap) (changes : List Change) → content_at old e.0 ≡ Some e.1 →
    Departed old new es changes → Departed old new (e ∷ es) (cons_option (departure new e) changes)
departed_more old new e es changes here before p =
    elim (same_path p e.0) as (λ b. same_path p e.0 ≡ b →
    stands (cons_option (departs e (content_at new e.0)) changes) p
    ≡ cond (is_some (content_at (e ∷ es) p)) (kept old new p) (content_at old p)) [
      | true ↦ λ same.
          let place : p ≡ e.0 = same_path_is p e.0 same in
          let was : content_at old p ≡ Some e.1 = ap (content_at old) place ∙ here in
          let left : kept old new p ≡ kept_of (Some e.1) (content_at new e.0) = λ i. kept_of (was i) (content_at new (place i)) in
          let s : stands changes p ≡ cond (is_some (content_at es p)) (kept_of (Some e.1) (content_at new e.0)) (Some e.1)
          = before p ∙ (λ i. cond (is_some (content_at es p)) (left i) (was i)) in
          departed_here e (content_at new e.0) changes p (is_some (content_at es p)) same s
          ∙ sym left ∙ ap (λ o. cond (is_some o) (kept old new p) (content_at old p)) (sym (content_at_here e es p same))
      | false ↦ λ other.
          departed_past e (content_at new e.0) changes p other ∙ before p
          ∙ ap (λ o. cond (is_some o) (kept old new p) (content_at old p)) (sym (content_at_past e es p other))
    ] refl

folders_stay : (x : Content) (c : Option Content) → is_folder x ≡ true → folder_there c ≡ true → kept_of (Some x) c ≡ Some x
folders_stay x None f g = absurd (true≢false (sym g))
folders_stay (Folder a) (Some (Folder b)) f g = refl
folders_stay (Folder a) (Some (Track b)) f g = absurd (true≢false (sym g))
folders_stay (Track a) (Some c) f g = absurd (true≢false (sym f))

none_is_not : {A : Type 0} (x : A) → Some x ≡ None → ⊥
none_is_not x e = true≢false (ap is_some e)

-- what a later deletion leaves of a child, where its folder goes
child_gone : (x : Option Content) (y : Option Content) →
    ((before now : Content) → x ≡ Some before → y ≡ Some now → ⊥) → cond (is_some x) (kept_of x y) x ≡ None
child_gone None y both = refl
child_gone (Some before) None both = refl
child_gone (Some before) (Some now) both = absurd (both before now refl refl)

may_be_deleted : (old new : FolderMap) → IsLibrary old → IsLibrary new → (e : Entry) (es : FolderMap) (changes : List Change) →
    content_at old e.0 ≡ Some e.1 → IsBefore e.0 es →
    ((p : List (List ℕ)) → path_cmp e.0 p ≡ Less → content_at es p ≡ content_at old p) →
    Departed old new es changes → kept_of (Some e.1) (content_at new e.0) ≡ None → MayFollow changes (Deletion e.0)
may_be_deleted old new is_old is_new e es changes here before reach departed leaves = (
  e.1,
  departed e.0 ∙ ap (λ o. cond (is_some o) (kept old new e.0) (content_at old e.0)) (absent_before e.0 es before) ∙ here,
  no_child,
)
  where
    below_root : same_path e.0 [] ≡ false
    below_root = at_entry (λ f. same_path f.0 [] ≡ false) old is_old.rootless e.0 e.1 here

    no_child : (path : List (List ℕ)) → same_path path [] ≡ false → same_path e.0 (parent_of path) ≡ true → stands changes path ≡ None
    no_child [] other same = absurd (true≢false other)
    no_child (name ∷ names) other same =
        let path : List (List ℕ) = name ∷ names in
        let place : e.0 ≡ parent_of path = same_path_is e.0 (parent_of path) same in
        let parent_below : same_path (parent_of path) [] ≡ false = ap (λ p. same_path p []) (sym place) ∙ below_root in
        let later : path_cmp e.0 path ≡ Less = ap (λ p. path_cmp p path) place ∙ parent_before name names in
        departed path ∙ ap (λ o. cond (is_some o) (kept old new path) (content_at old path)) (reach path later)
        ∙ child_gone (content_at old path) (content_at new path)
        (λ x y was now.
        let f : is_folder e.1 ≡ true
        = ap folder_there (sym here) ∙ ap (λ p. folder_there (content_at old p)) place ∙ parent_is_folder old is_old path x was parent_below in
        let g : folder_there (content_at new e.0) ≡ true
        = ap (λ p. folder_there (content_at new p)) place ∙ parent_is_folder new is_new path y now parent_below in
        none_is_not e.1 (sym (folders_stay e.1 (content_at new e.0) f g) ∙ leaves))

may_depart : (e : Entry) (c : Option Content) (changes : List Change) → IsLegal changes →
    (kept_of (Some e.1) c ≡ None → MayFollow changes (Deletion e.0)) → IsLegal (cons_option (departs e c) changes)
may_depart e None changes legal deletable = (legal, deletable refl)
may_depart e (Some now) changes legal deletable =
    elim (same_kind e.1 now) as (λ k.
    (cond k (Some e.1) None ≡ None → MayFollow changes (Deletion e.0)) →
    IsLegal (cons_option (cond k None (Some (Deletion e.0))) changes)) [
      | true ↦ λ d. legal
      | false ↦ λ d. (legal, d refl)
    ] deletable

-- changes that are legal, after which stands what the second fact says
abbrev Legally : (List Change → Type 0) → List Change → Type 0
Legally Standing changes = IsLegal changes × Standing changes

departures : (old new : FolderMap) → IsLibrary old → IsLibrary new → (es : FolderMap) → Ascends es →
    AllByRecursion (λ e. content_at old e.0 ≡ Some e.1) es → Reaches old es → (older : List Change) → IsLegal older →
    ((p : List (List ℕ)) → stands older p ≡ content_at old p) →
    Legally (Departed old new es) (filter_map (departure new) es ++ older)
departures old new is_old is_new [] ascends here reach older legal s = (legal, s)
departures old new is_old is_new (e ∷ es) ascends here reach older legal s =
    let rest = departures old new is_old is_new es (ascends_tail e es ascends) here.1 reach.1 older legal s in
    let changes : List Change = filter_map (departure new) es ++ older in
    subst (Legally (Departed old new (e ∷ es))) (sym (cons_more (departure new e) (filter_map (departure new) es) older)) (
      may_depart e (content_at new e.0) changes rest.0
          (may_be_deleted old new is_old is_new e es changes here.0 (ascends_head e es ascends) reach.0 rest.1),
      departed_more old new e es changes here.0 rest.1,
    )

-- ---- the additions and modifications

-- what stands once all deletions are done, and the additions and modifications but those of some entries of the new map
abbrev pub Arriving : FolderMap → FolderMap → FolderMap → List Change → Type 0
Arriving old new es changes =
    (p : List (List ℕ)) → stands changes p ≡ cond (is_some (content_at es p)) (kept old new p) (content_at new p)

turned : (before now : Option Content) → cond (is_some before) (kept_of before now) before ≡ cond (is_some now) (kept_of before now) now
turned None None = refl
turned None (Some now) = refl
turned (Some before) None = refl
turned (Some before) (Some now) = refl

arriving_from_departed : (old new : FolderMap) (changes : List Change) → Departed old new old changes → Arriving old new new changes
arriving_from_departed old new changes departed p = departed p ∙ turned (content_at old p) (content_at new p)

arrived_here : (e : Entry) (o : Option Content) (changes : List Change) (p : List (List ℕ)) → same_path p e.0 ≡ true →
    stands changes p ≡ kept_of o (Some e.1) → stands (cons_option (arrives e o) changes) p ≡ Some e.1
arrived_here e None changes p same s = cond-true _ _ _ same
arrived_here e (Some before) changes p same s =
    elim (same_kind before e.1) as (λ k.
    stands changes p ≡ cond k (Some before) None →
    stands (cons_option (cond k (cond (same_content before e.1) None (Some (Modification e.0 e.1))) (Some (Addition e.0 e.1))) changes) p ≡ Some e.1) [
      | true ↦ λ s. elim (same_content before e.1) as (λ b. same_content before e.1 ≡ b →
          stands (cons_option (cond b None (Some (Modification e.0 e.1))) changes) p ≡ Some e.1) [
            | true ↦ λ equal. s ∙ ap Some (same_content_is before e.1 equal)
            | false ↦ λ unequal. cond-true _ _ _ same
          ] refl
      | false ↦ λ s. cond-true _ _ _ same
    ] s

arrived_past : (e : Entry) (o : Option Content) (changes : List Change) (p : List (List ℕ)) → same_path p e.0 ≡ false →
    stands (cons_option (arrives e o) changes) p ≡ stands changes p
arrived_past e None changes p other = cond-false _ _ _ other
arrived_past e (Some before) changes p other =
    elim (same_kind before e.1) as (λ k.
    stands (cons_option (cond k (cond (same_content before e.1) None (Some (Modification e.0 e.1))) (Some (Addition e.0 e.1))) changes) p
    ≡ stands changes p) [
      | true ↦ elim (same_content before e.1) as (λ b.
          stands (cons_option (cond b None (Some (Modification e.0 e.1))) changes) p ≡ stands changes p) [
            | true ↦ refl
            | false ↦ cond-false _ _ _ other
          ]
      | false ↦ cond-false _ _ _ other
    ]

-- what stands at the place of an entry whose change comes next
arriving_here : (old new : FolderMap) (e : Entry) (es : FolderMap) (changes : List Change) → content_at new e.0 ≡ Some e.1 →
    Arriving old new (e ∷ es) changes → (p : List (List ℕ)) → same_path p e.0 ≡ true →
    stands changes p ≡ kept_of (content_at old e.0) (Some e.1)
arriving_here old new e es changes here before p same =
    before p ∙ ap (λ o. cond (is_some o) (kept old new p) (content_at new p)) (content_at_here e es p same)
    ∙ ap (kept old new) (same_path_is p e.0 same) ∙ ap (kept_of (content_at old e.0)) here

arriving_more : (old new : FolderMap) (e : Entry) (es : FolderMap) (changes : List Change) → content_at new e.0 ≡ Some e.1 → IsBefore e.0 es →
    Arriving old new (e ∷ es) changes → Arriving old new es (cons_option (arrival old e) changes)
arriving_more old new e es changes here first before p =
    elim (same_path p e.0) as (λ b. same_path p e.0 ≡ b →
    stands (cons_option (arrives e (content_at old e.0)) changes) p
    ≡ cond (is_some (content_at es p)) (kept old new p) (content_at new p)) [
      | true ↦ λ same.
          let place : p ≡ e.0 = same_path_is p e.0 same in
          let absent : content_at es p ≡ None = ap (content_at es) place ∙ absent_before e.0 es first in
          let now : content_at new p ≡ Some e.1 = ap (content_at new) place ∙ here in
          arrived_here e (content_at old e.0) changes p same (arriving_here old new e es changes here before p same)
          ∙ sym now ∙ ap (λ o. cond (is_some o) (kept old new p) (content_at new p)) (sym absent)
      | false ↦ λ other.
          arrived_past e (content_at old e.0) changes p other ∙ before p
          ∙ ap (λ o. cond (is_some o) (kept old new p) (content_at new p)) (content_at_past e es p other)
    ] refl

pub holds_after_below_root : (changes : List Change) (p : List (List ℕ)) → same_path p [] ≡ false → holds_after changes p ≡ folder_there (stands changes p)
holds_after_below_root changes [] root = absurd (true≢false root)
holds_after_below_root changes (name ∷ names) other = refl

parent_stands_before : (p : List (List ℕ)) → same_path p [] ≡ false → path_cmp (parent_of p) p ≡ Less
parent_stands_before [] root = absurd (true≢false root)
parent_stands_before (name ∷ names) other = parent_before name names

parent_arrived : (old new : FolderMap) → IsLibrary new → (e : Entry) (es : FolderMap) (changes : List Change) →
    content_at new e.0 ≡ Some e.1 → same_path e.0 [] ≡ false → IsBefore e.0 es → Arriving old new (e ∷ es) changes →
    holds_after changes (parent_of e.0) ≡ true
parent_arrived old new is_new e es changes here below first before =
    elim (same_path (parent_of e.0) []) as (λ b. same_path (parent_of e.0) [] ≡ b → holds_after changes (parent_of e.0) ≡ true) [
      | true ↦ λ root. ap (holds_after changes) (same_path_is (parent_of e.0) [] root)
      | false ↦ λ other.
          let parent : List (List ℕ) = parent_of e.0 in
          let order : path_cmp parent e.0 ≡ Less = parent_stands_before e.0 below in
          let absent : content_at (e ∷ es) parent ≡ None = absent_before parent (e ∷ es) (order, before_more parent e.0 es order first) in
          holds_after_below_root changes parent other
          ∙ ap folder_there (before parent ∙ ap (λ o. cond (is_some o) (kept old new parent) (content_at new parent)) absent)
          ∙ parent_is_folder new is_new e.0 e.1 here other
    ] refl

may_arrive : (e : Entry) (o : Option Content) (changes : List Change) → IsLegal changes → same_path e.0 [] ≡ false →
    holds_after changes (parent_of e.0) ≡ true → stands changes e.0 ≡ kept_of o (Some e.1) → IsLegal (cons_option (arrives e o) changes)
may_arrive e None changes legal below held s = (legal, (below, s, held))
may_arrive e (Some before) changes legal below held s =
    elim (same_kind before e.1) as (λ k. same_kind before e.1 ≡ k →
    stands changes e.0 ≡ cond k (Some before) None →
    IsLegal (cons_option (cond k (cond (same_content before e.1) None (Some (Modification e.0 e.1))) (Some (Addition e.0 e.1))) changes)) [
      | true ↦ λ kind s. elim (same_content before e.1) as (λ b. IsLegal (cons_option (cond b None (Some (Modification e.0 e.1))) changes)) [
        | true ↦ legal
        | false ↦ (legal, (before, s, kind))
      ]
      | false ↦ λ kind s. (legal, (below, s, held))
    ] refl s

arrivals : (old new : FolderMap) → IsLibrary new → (es : FolderMap) → Ascends es → AllByRecursion (λ e. content_at new e.0 ≡ Some e.1) es →
    (changes : List Change) → Legally (Arriving old new es) changes →
    Legally (Arriving old new []) (reverse (filter_map (arrival old) es) ++ changes)
arrivals old new is_new [] ascends here changes done = done
arrivals old new is_new (e ∷ es) ascends here changes done =
    let first : IsBefore e.0 es = ascends_head e es ascends in
    let below : same_path e.0 [] ≡ false = at_entry (λ f. same_path f.0 [] ≡ false) new is_new.rootless e.0 e.1 here.0 in
    subst (Legally (Arriving old new [])) (sym (reverse_more (arrival old e) (filter_map (arrival old) es) changes))
    (arrivals old new is_new es (ascends_tail e es ascends) here.1 (cons_option (arrival old e) changes) (
      may_arrive e (content_at old e.0) changes done.0 below
          (parent_arrived old new is_new e es changes here.0 below first done.1)
          (arriving_here old new e es changes here.0 done.1 e.0 (same_path_itself e.0)),
      arriving_more old new e es changes here.0 first done.1,
    ))

-- ---- all changes of a scan

-- the changes of a scan may follow those before it, and lead to what it found
pub scan_is_legal : (old new : FolderMap) → IsLibrary old → IsLibrary new → (older : List Change) → IsLegal older →
    ((p : List (List ℕ)) → stands older p ≡ content_at old p) →
    IsLegal (found old new ++ older) × ((p : List (List ℕ)) → stands (found old new ++ older) p ≡ content_at new p)
scan_is_legal old new is_old is_new older legal s =
    let gone : List Change = filter_map (departure new) old ++ older in
    let first = departures old new is_old is_new old is_old.ascending (each_found old is_old.ascending) (reaches_all old is_old.ascending) older legal s in
    let second = arrivals old new is_new new is_new.ascending (each_found new is_new.ascending) gone (first.0, arriving_from_departed old new gone first.1) in
    subst (λ (l : List Change). IsLegal l × ((p : List (List ℕ)) → stands l p ≡ content_at new p))
    (sym (append_assoc (reverse (filter_map (arrival old) new)) (filter_map (departure new) old) older))
    second

-- all changes of a history: each may follow those before it, and they lead to the newest map
pub history_is_legal : (maps : List FolderMap) → AreLibraries maps →
    IsLegal (changes_of maps) × ((p : List (List ℕ)) → stands (changes_of maps) p ≡ content_at (latest maps) p)
history_is_legal [] all = (tt, λ p. refl)
history_is_legal (library ∷ older) all =
    let before = history_is_legal older all.1 in
    scan_is_legal (latest older) library (latest_is_library older all.1) all.0 (changes_of older) before.0 before.1
