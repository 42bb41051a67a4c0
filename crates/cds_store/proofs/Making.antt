-- Each change of a scan can be made when those before it are: the numbers that it raises stay below 2^32, and what is
-- modified is of the same kind.
use Rattle.std.proofs.Common.{◌≡◌, ◌+◌, ◌<◌, ◌≤◌, ◌^◌, ℕ, true, false, cond, List, [], ◌∷◌, ◌++◌, length, Option, Some, None, MatchOption, refl, sym, ◌∙◌, ap, subst, arith, append_assoc, reverse}
use Rattle.std.specs.List.{AllByRecursion, count_by}
use Rattle.std.proofs.lemmas.List.{reverse-append}
use Rattle.std.proofs.lemmas.List.Sums.{count_by-le-length}
use Rattle.cds_object.specs.Path.{same_path}
use Rattle.cds_object.specs.Content.{same_kind}
use Rattle.cds_object.specs.Object.{is_folder}
use Rattle.cds_object.specs.declared.content.Content.{Content}
use Rattle.cds_object.specs.declared.content.Content.TheVariants.{Folder, Track}
use Rattle.cds_object.specs.declared.row.Trackers.{Trackers}
use Rattle.cds_catalog.specs.Library.{found}
use Rattle.cds_catalog.specs.History.{latest, changes_of, is_addition}
use Rattle.cds_catalog.specs.Laws.{IsWithin}
use Rattle.cds_catalog.specs.Catalog.{PlacedRow}
use Rattle.cds_catalog.specs.Replay.{stands, IsLegal}
use Rattle.cds_catalog.specs.Steps.{Standing, stepped, touch, touched, modified}
use Rattle.cds_catalog.specs.declared.change.Change.{Change}
use Rattle.cds_catalog.specs.declared.change.Change.TheVariants.{Deletion, Addition, Modification}
use Rattle.cds_catalog.proofs.Paths.{same_path_is}
use Rattle.cds_catalog.proofs.StepsFind.{find_in, each-both, each-weaker, each-map, each_from_found, none≢some, Apart_from_Rising}
use Rattle.cds_catalog.proofs.StepsIds.{ids_rise}
use Rattle.cds_catalog.proofs.StepsLive.{shown, find_live, rootless}
use Rattle.cds_catalog.proofs.StepsRows.{row_over, rows_over, standing_over}
use Rattle.cds_catalog.proofs.StepsScan.{legal_within_scan, standing_within_scan, number_within_scan, rows_over_within, children_within}
use Rattle.cds_store.specs.Rows.{HasRoom, KeepsKind, KeepsKinds, CanMake}
use Rattle.cds_store.specs.Stands.{IsScan}
use Rattle.cds_catalog.proofs.Live.{live}

folders_alike : (before content : Content) → same_kind before content ≡ true → is_folder before ≡ is_folder content
folders_alike (Folder a) (Folder b) h = refl
folders_alike (Folder a) (Track b) h = sym h
folders_alike (Track a) (Folder b) h = h
folders_alike (Track a) (Track b) h = refl

-- what stands at a place that is modified is of the kind that it has then
kinds_kept : (first : ℕ) (older : List Change) (path : List (List ℕ)) (content : Content) → IsLegal (Modification path content ∷ older) →
    AllByRecursion (KeepsKind path content) (rows_over first older)
kinds_kept first older path content legal =
    each-map (KeepsKind path content) (row_over first older) (shown older) (
      at_root,
      each_from_found (λ e. same_path path e.0 ≡ true → is_folder e.1 ≡ is_folder content) (live older)
          (Apart_from_Rising _ (live older) (ids_rise older legal.0).1) at,
    )
  where
    at_root : same_path path [] ≡ true → true ≡ is_folder content
    at_root same = none≢some (stands older path) legal.1.0 (ap (stands older) (same_path_is path [] same) ∙ rootless older legal.0) legal.1.1

    at : (p : List (List ℕ)) (c : Content) → find_in (live older) p ≡ Some c → same_path path p ≡ true → is_folder c ≡ is_folder content
    at p c is same =
        let there : stands older path ≡ Some c = ap (stands older) (same_path_is path p same) ∙ sym (find_live older legal.0 p) ∙ is in
        let before : stands older path ≡ Some legal.1.0 = legal.1.1 in
        let alike : c ≡ legal.1.0 = cc in
        ap is_folder alike ∙ folders_alike legal.1.0 content legal.1.2

keeps_kinds : (first : ℕ) (older : List Change) (change : Change) → IsLegal (change ∷ older) → KeepsKinds change (rows_over first older)
keeps_kinds first older (Deletion path) legal = tt
keeps_kinds first older (Addition path content) legal = tt
keeps_kinds first older (Modification path content) legal = kinds_kept first older path content legal

-- the counts of a row are at most the number and the ids drawn
Counts : ℕ → PlacedRow → Type 0
Counts most placed = MatchOption placed.1.trackers (Unit {0}) (λ t. t.child_count ≤ most)

has_room : (number drawn : ℕ) (trackers : Option Trackers) → number + 1 < 2 ^ 32 → drawn + 1 < 2 ^ 32 →
    MatchOption trackers (Unit {0}) (λ t. (t.container_update ≤ number) × (t.deleted ≤ number)) →
    MatchOption trackers (Unit {0}) (λ t. t.child_count ≤ drawn) →
    MatchOption trackers (Unit {0}) (λ t. (t.child_count + 1 < 2 ^ 32) × (t.deleted + 1 < 2 ^ 32))
has_room number drawn None n d deleted children = tt
has_room number drawn (Some t) n d deleted children =
    let a : t.deleted ≤ number = deleted.1 in
    (omega arith, omega arith)

all_have_room : (first : ℕ) (older : List Change) → first + length older + 1 < 2 ^ 32 → count_by is_addition older + 1 < 2 ^ 32 →
    AllByRecursion (λ (placed : PlacedRow). HasRoom placed.1) (rows_over first older)
all_have_room first older n d =
    each-weaker
    (λ (placed : PlacedRow). IsWithin (standing_over first older) placed.1
    × MatchOption placed.1.trackers (Unit {0}) (λ t. t.child_count ≤ count_by is_addition older))
    (λ (placed : PlacedRow). HasRoom placed.1)
    (λ placed h. has_room (first + length older) (count_by is_addition older) placed.1.trackers n d h.0.trackers h.1)
    (rows_over first older)
    (each-both (λ (placed : PlacedRow). IsWithin (standing_over first older) placed.1)
    (λ (placed : PlacedRow). MatchOption placed.1.trackers (Unit {0}) (λ t. t.child_count ≤ count_by is_addition older))
    (rows_over first older) (rows_over_within first older) (children_within first older))

over_can_make : (first : ℕ) (older : List Change) (change : Change) → IsLegal (change ∷ older) → first + length (change ∷ older) < 2 ^ 32 →
    CanMake (standing_over first older) change
over_can_make first older change legal fits =
    let drawn = count_by-le-length is_addition older in
    let n : first + length older + 1 < 2 ^ 32 = omega arith in
    let d : count_by is_addition older + 1 < 2 ^ 32 = omega (arith, drawn) in
    record {
      number = n;
      drawn = d;
      room = all_have_room first older n d;
      kinds = keeps_kinds first older change legal;
    }

pub can_make_next : (s : Standing) (changes : List Change) → IsScan s changes → (later newer : List Change) (change : Change) →
    changes ≡ later ++ change ∷ newer → CanMake (stepped s newer) change
can_make_next s changes scan later newer change parted =
    let all = scan.stands.0 in
    let past = changes_of scan.history.maps in
    let made : found (latest scan.history.maps) scan.library ≡ later ++ (change ∷ newer) = sym scan.made ∙ parted in
    let legal = legal_within_scan scan.history scan.library all scan.is_library later (change ∷ newer) made in
    let number = number_within_scan scan.history scan.library later (change ∷ newer) made in
    let apart : found (latest scan.history.maps) scan.library ≡ (later ++ change ∷ []) ++ newer = made ∙ sym (append_assoc later (change ∷ []) newer) in
    let standing = standing_within_scan scan.history scan.library all scan.is_library (later ++ change ∷ []) newer apart in
    let fits = scan.fits in
    subst (λ (t : Standing). CanMake t change)
    (sym (ap (λ (t : Standing). stepped t newer) scan.stands.1 ∙ standing))
    (over_can_make scan.history.first (newer ++ past) change legal (omega arith))

pub reversed_parts : {X : Type 0} (all made left rest : List X) (change : X) → all ≡ made ++ left → left ≡ change ∷ rest →
    reverse all ≡ reverse rest ++ change ∷ reverse made
reversed_parts all made left rest change parted next =
    ap reverse (parted ∙ ap (λ l. made ++ l) next) ∙ reverse-append made (change ∷ rest)
    ∙ ap (λ l. l ++ reverse made) (reverse-append (change ∷ []) rest)
    ∙ append_assoc (reverse rest) (change ∷ []) (reverse made)

pub room_when_modified : (path : List (List ℕ)) (number : ℕ) (content : Content) (rows : List PlacedRow) →
    AllByRecursion (λ (placed : PlacedRow). HasRoom placed.1) rows → AllByRecursion (λ (placed : PlacedRow). HasRoom placed.1) (touch path (modified number content) rows)
room_when_modified path number content rows room =
    each-map (λ (placed : PlacedRow). HasRoom placed.1) (touched path (modified number content)) rows
    (each-weaker (λ (placed : PlacedRow). HasRoom placed.1) (λ placed. HasRoom (touched path (modified number content) placed).1) one rows room)
  where
    one : (placed : PlacedRow) → HasRoom placed.1 → HasRoom (touched path (modified number content) placed).1
    one placed h = elim (same_path path placed.0) as (λ b. HasRoom (cond b (placed.0, modified number content placed.1) placed).1) [ true ↦ h | false ↦ h ]
