-- The events of a scan by the rows that stand before each change are those by the history.
use Rattle.std.proofs.Common.{◌≡◌, ◌+◌, ℕ, Bool, true, false, cond, List, [], ◌∷◌, ◌++◌, map, length, Option, Some, None, MatchOption, refl, sym, ap, ◌∙◌, subst, arith, append_assoc}
use Rattle.std.specs.Option.{option_to_list}
use Rattle.std.proofs.lemmas.List.{append-nil}
use Rattle.cds_object.specs.Path.{same_path, parent_of}
use Rattle.cds_object.specs.declared.content.Content.{Content}
use Rattle.cds_object.specs.declared.event.Event.{Event}
use Rattle.cds_object.specs.declared.event.Event.TheVariants.{ObjAdd, ObjMod, ObjDel, StDone}
use Rattle.cds_catalog.specs.Library.{FolderMap, found}
use Rattle.cds_catalog.specs.History.{History, latest, changes_of, place_of}
use Rattle.cds_catalog.specs.Catalog.{id_of, root_entry}
use Rattle.cds_catalog.specs.Laws.{IsLibrary, AreLibraries}
use Rattle.cds_catalog.specs.Replay.{stands, IsLegal}
use Rattle.cds_catalog.specs.Steps.{Standing, standing_of, stepped, id_at}
use Rattle.cds_catalog.specs.declared.change.Change.{Change}
use Rattle.cds_catalog.specs.declared.change.Change.TheVariants.{Deletion, Addition, Modification}
use Rattle.cds_catalog.proofs.Paths.{same_path_is, same_path_itself}
use Rattle.cds_catalog.proofs.StepsPaths.{Place}
use Rattle.cds_catalog.proofs.StepsFind.{find_in, none≢some}
use Rattle.cds_catalog.proofs.StepsLive.{shown, shown_holder, find_live, stands_named, held, holds_is}
use Rattle.cds_catalog.proofs.StepsIds.{id_new, id_kept}
use Rattle.cds_catalog.proofs.StepsRows.{row_over, rows_over, standing_over}
use Rattle.cds_catalog.proofs.StepsScan.{legal_within_scan, standing_within_scan}
use Rattle.cds_changes.specs.declared.event_with_parent.EventWithParent.{EventWithParent}
use Rattle.cds_changes.specs.Events.{event_of, done_events, heads_done}
use Rattle.cds_changes.specs.EventsWithParents.{without_parent, change_with_parents, scan_with_parents}
use Rattle.cds_changes.specs.Subtrees.{InOrder, StoodAt, IsMarked}
use Rattle.cds_changes.proofs.Marks.{added-stands}
use Rattle.cds_changes.proofs.Orderly.{found-orderly}
use Rattle.cds_catalog.proofs.Maps.{latest_is_library}
use Rattle.cds_store.specs.ChangeEvents.{changes_in, event_by, done_by, events_by, all_events_by}
use Rattle.cds_store.specs.SubtreeIndex.{AreMarked}
use Rattle.cds_store.specs.declared.subtrees.MarkedChange.{MarkedChange}
use Rattle.cds_catalog.proofs.Live.{live}
use Rattle.cds_object.specs.Events.{class_of}

-- ---- ids

pub id-found : (first : ℕ) (changes : List Change) (es : FolderMap) (p : Place) (content : Content) → find_in es p ≡ Some content
    → id_at p (map (row_over first changes) es) ≡ id_of changes p
id-found first changes [] p content f = none≢some None content refl f
id-found first changes (e ∷ es) p content f = by (same_path p e.0) refl f (id-found first changes es p content)
  where
    by : (b : Bool) → same_path p e.0 ≡ b → cond b (Some e.1) (find_in es p) ≡ Some content
        → (find_in es p ≡ Some content → id_at p (map (row_over first changes) es) ≡ id_of changes p)
        → cond b (id_of changes e.0) (id_at p (map (row_over first changes) es)) ≡ id_of changes p
    by true x k r = ap (id_of changes) (sym (same_path_is p e.0 x))
    by false x k r = r k

-- what stands has its id in the rows, and so has its parent
pub id-standing : (first : ℕ) (changes : List Change) → IsLegal changes → (p : Place) (content : Content) → stands changes p ≡ Some content
    → id_at p (rows_over first changes) ≡ id_of changes p
id-standing first changes legal p content e =
    id-found first changes (shown changes) p content
    ((λ i. cond (stands_named changes p content legal e i) (Some root_entry.1) (find_in (live changes) p)) ∙ find_live changes legal p ∙ e)

pub id-parent : (first : ℕ) (change : Change) (older : List Change) → IsLegal (change ∷ older)
    → id_at (parent_of (place_of change)) (rows_over first older) ≡ id_of older (parent_of (place_of change))
id-parent first (Deletion path) older l =
    let holder = shown_holder older l.0 (parent_of path) (held older path l.1.0 l.0 l.1.1) in
    id-found first older (shown older) (parent_of path) holder.0 holder.1
id-parent first (Addition path content) older l =
    let holder = shown_holder older l.0 (parent_of path) (sym (holds_is older (parent_of path)) ∙ l.1.2) in
    id-found first older (shown older) (parent_of path) holder.0 holder.1
id-parent first (Modification path content) older l =
    let holder = shown_holder older l.0 (parent_of path) (held older path l.1.0 l.0 l.1.1) in
    id-found first older (shown older) (parent_of path) holder.0 holder.1

-- ---- one change

next : (first : ℕ) (older : List Change) (change : Change) → first + length older + 1 ≡ first + length (change ∷ older)
next first older change = omega arith

plus-one : (a b : ℕ) → a ≡ 1 + b → b + 1 ≡ a
plus-one a b e = omega (arith, e)

event-is : (first : ℕ) (change : Change) (older : List Change) (st : Bool) → IsLegal (change ∷ older)
    → event_by (standing_over first older) change st ≡ event_of (first + length (change ∷ older)) older change st
event-is first (Deletion path) older st l =
    λ i. ObjDel (id-standing first older l.0 path l.1.0 l.1.1 i) (next first older (Deletion path) i) st
event-is first (Addition path content) older st l =
    λ i. ObjAdd (plus-one _ _ (id_new path content older path (same_path_itself path)) i) (next first older (Addition path content) i) st
    (id-parent first (Addition path content) older l i) (class_of content)
event-is first (Modification path content) older st l =
    λ i. ObjMod (id-standing first older l.0 path l.1.0 l.1.1 i) (next first older (Modification path content) i) st

-- the head whose subtree is done stands before the change, with the id that it has after it
head-id : (first : ℕ) (change : Change) (earlier past : List Change) (head : Place) → IsLegal (change ∷ earlier ++ past) → InOrder earlier
    → StoodAt change earlier head → id_at head (rows_over first (earlier ++ past)) ≡ id_of (change ∷ earlier ++ past) head
head-id first (Deletion path) earlier past head l order is =
    ap (λ p. id_at p (rows_over first (earlier ++ past))) is
    ∙ id-standing first (earlier ++ past) l.0 path l.1.0 l.1.1
    ∙ ap (id_of (earlier ++ past)) (sym is)
head-id first (Addition path content) earlier past head l order stood =
    let there = added-stands earlier past head order stood.1 in
    id-standing first (earlier ++ past) l.0 head there.0 there.1
    ∙ sym (id_kept path content (earlier ++ past) head stood.0)
head-id first (Modification path content) earlier past head l order never = absurd never

done-by-places : (number : ℕ) (changes heads : List Change)
    → done_events number changes heads ≡ map (λ p. StDone (id_of changes p) number) (map place_of heads)
done-by-places number changes [] = refl
done-by-places number changes (head ∷ heads) = ap (λ (l : List Event). StDone (id_of changes (place_of head)) number ∷ l) (done-by-places number changes heads)

done-is : (first : ℕ) (scan : List Change) (change : Change) (earlier past : List Change) (done : Option Place) → IsLegal (change ∷ earlier ++ past) → InOrder earlier
    → option_to_list done ≡ map place_of (heads_done scan change) → MatchOption done (Unit {0}) (StoodAt change earlier)
    → done_by (standing_over first (earlier ++ past)) done
    ≡ map without_parent (done_events (first + length (change ∷ earlier ++ past)) (change ∷ earlier ++ past) (heads_done scan change))
done-is first scan change earlier past done l order heads stood =
    by done stood
    ∙ ap (λ (ps : List Place). map without_parent (map (λ p. StDone (id_of (change ∷ earlier ++ past) p) (first + length (change ∷ earlier ++ past))) ps)) heads
    ∙ ap (map without_parent) (sym (done-by-places (first + length (change ∷ earlier ++ past)) (change ∷ earlier ++ past) (heads_done scan change)))
  where
    by : (done : Option Place) → MatchOption done (Unit {0}) (StoodAt change earlier)
        → done_by (standing_over first (earlier ++ past)) done
        ≡ map without_parent (map (λ p. StDone (id_of (change ∷ earlier ++ past) p) (first + length (change ∷ earlier ++ past))) (option_to_list done))
    by None stood = refl
    by (Some head) stood = λ i. record {
      event = StDone (head-id first change earlier past head l order stood i) (next first (earlier ++ past) change i);
      parent = None;
    } ∷ []

told-one : (first : ℕ) (scan : List Change) (p : MarkedChange) (earlier past : List Change) → IsLegal (p.change ∷ earlier ++ past) → InOrder earlier
    → IsMarked scan p.change earlier p.st p.done
    → events_by (standing_over first (earlier ++ past)) p ≡ change_with_parents first scan p.change (earlier ++ past)
told-one first scan p earlier past l order marked =
    λ i. record {
      event = (event-is first p.change (earlier ++ past) p.st l
          ∙ ap (event_of (first + length (p.change ∷ earlier ++ past)) (earlier ++ past) p.change) marked.belongs) i;
      parent = Some (id-parent first p.change (earlier ++ past) l i);
    } ∷ done-is first scan p.change earlier past p.done l order marked.head marked.stood i

-- ---- a scan

told-part : (history : History) (library : FolderMap) → AreLibraries history.maps → IsLibrary library → (later : List Change) (plan : List MarkedChange)
    → found (latest history.maps) library ≡ later ++ changes_in plan → InOrder (changes_in plan) → AreMarked (found (latest history.maps) library) plan []
    → all_events_by (standing_of history) plan
    ≡ scan_with_parents history.first (changes_of history.maps) (found (latest history.maps) library) (changes_in plan)
told-part history library all is later [] e order marked = refl
told-part history library all is later (p ∷ older) e order marked =
    let apart : found (latest history.maps) library ≡ (later ++ p.change ∷ []) ++ changes_in older = e ∙ sym (append_assoc later (p.change ∷ []) (changes_in older)) in
    ap (λ (l : List EventWithParent). l ++ events_by (stepped (standing_of history) (changes_in older)) p)
    (told-part history library all is (later ++ p.change ∷ []) older apart order.0 marked.0)
    ∙ ap (λ (l : List EventWithParent). scan_with_parents history.first (changes_of history.maps) (found (latest history.maps) library) (changes_in older) ++ l)
    (ap (λ (s : Standing). events_by s p) (standing_within_scan history library all is (later ++ p.change ∷ []) (changes_in older) apart)
    ∙ told-one history.first (found (latest history.maps) library) p (changes_in older) (changes_of history.maps)
    (legal_within_scan history library all is later (changes_in (p ∷ older)) e) order.0
    (subst (λ (earlier : List Change). IsMarked (found (latest history.maps) library) p.change earlier p.st p.done) (append-nil (changes_in older)) marked.1))

pub told-scan : (history : History) (library : FolderMap) (s : Standing) (scan : List Change) (plan : List MarkedChange) → AreLibraries history.maps → IsLibrary library
    → s ≡ standing_of history → scan ≡ found (latest history.maps) library → changes_in plan ≡ scan → AreMarked scan plan []
    → all_events_by s plan
    ≡ scan_with_parents history.first (changes_of history.maps) (found (latest history.maps) library) (found (latest history.maps) library)
told-scan history library s scan plan all is stands made planned marked =
    let orderly = found-orderly (latest history.maps) library (latest_is_library history.maps all) is in
    let whole : changes_in plan ≡ found (latest history.maps) library = planned ∙ made in
    ap (λ (t : Standing). all_events_by t plan) stands
    ∙ told-part history library all is [] plan (sym whole) (subst InOrder (sym whole) orderly.in_order)
    (subst (λ (l : List Change). AreMarked l plan []) made marked)
    ∙ ap (scan_with_parents history.first (changes_of history.maps) (found (latest history.maps) library)) whole
