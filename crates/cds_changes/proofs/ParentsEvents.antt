-- The events of a history with their parents are its events, and lie between the same numbers.
use Rattle.std.proofs.Common.{◌≡◌, ◌+◌, ℕ, List, [], ◌∷◌, ◌++◌, map, length, refl, ap, ◌∙◌}
use Rattle.std.proofs.lemmas.List.{map-append}
use Rattle.cds_object.specs.declared.event.Event.{Event}
use Rattle.cds_catalog.specs.Library.{FolderMap, found}
use Rattle.cds_catalog.specs.History.{latest, changes_of}
use Rattle.cds_catalog.specs.declared.change.Change.{Change}
use Rattle.cds_changes.specs.declared.event_with_parent.EventWithParent.{EventWithParent}
use Rattle.cds_changes.specs.Events.{event_of, scan_events, all_events, done_events, heads_done, is_in_subtree, change_events}
use Rattle.cds_changes.specs.EventsWithParents.{without_parent, change_with_parents, scan_with_parents, all_with_parents}

-- the events without their parents
abbrev pub events_of : List EventWithParent → List Event
events_of items = map (λ (n : EventWithParent). n.event) items

done-events : (events : List Event) → events_of (map without_parent events) ≡ events
done-events [] = refl
done-events (event ∷ events) = ap (λ (l : List Event). event ∷ l) (done-events events)

pub change-with_parents : (first : ℕ) (scan : List Change) (change : Change) (older : List Change)
    → events_of (change_with_parents first scan change older) ≡ change_events first scan change older
change-with_parents first scan change older =
    ap (λ (l : List Event). event_of (first + length (change ∷ older)) older change (is_in_subtree scan change) ∷ l)
    (done-events (done_events (first + length (change ∷ older)) (change ∷ older) (heads_done scan change)))

pub scan-with_parents : (first : ℕ) (before scan part : List Change) → events_of (scan_with_parents first before scan part) ≡ scan_events first before scan part
scan-with_parents first before scan [] = refl
scan-with_parents first before scan (change ∷ earlier) =
    map-append (λ (n : EventWithParent). n.event) (scan_with_parents first before scan earlier) (change_with_parents first scan change (earlier ++ before))
    ∙ ap (λ (l : List Event). l ++ events_of (change_with_parents first scan change (earlier ++ before))) (scan-with_parents first before scan earlier)
    ∙ ap (λ (l : List Event). scan_events first before scan earlier ++ l) (change-with_parents first scan change (earlier ++ before))

pub all-with_parents : (first : ℕ) (maps : List FolderMap) → events_of (all_with_parents first maps) ≡ all_events first maps
all-with_parents first [] = refl
all-with_parents first (library ∷ older) =
    map-append (λ (n : EventWithParent). n.event) (all_with_parents first older) (scan_with_parents first (changes_of older) (found (latest older) library) (found (latest older) library))
    ∙ ap (λ (l : List Event). l ++ events_of (scan_with_parents first (changes_of older) (found (latest older) library) (found (latest older) library))) (all-with_parents first older)
    ∙ ap (λ (l : List Event). all_events first older ++ l) (scan-with_parents first (changes_of older) (found (latest older) library) (found (latest older) library))
