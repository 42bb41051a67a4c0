-- What the containers of a copy count: each change under them once.
use Rattle.std.specs.Prelude.{◌≡◌, ◌≤◌, ◌+◌, ℕ, Bool, true, false, cond, nat_eq, List, [], ◌∷◌, Option, Some}
use Rattle.std.specs.List.{count_by}
use Rattle.std.specs.Option.{option_eq, option_and_then}
use Rattle.cds_object.specs.Object.{ObjectRow}
use Rattle.cds_object.specs.Tree.{row_of}
use Rattle.cds_object.specs.declared.row.Trackers.{Trackers}
use Rattle.cds_object.specs.declared.event.Event.{Event}
use Rattle.cds_object.specs.declared.event.Event.TheVariants.{ObjAdd, ObjMod, ObjDel, StDone}
use Rattle.cds_load.specs.Stages.{HasCopy}
use Rattle.cds_follow.specs.Copy.{KnownRow, known_of, parent_in, Happening, Changes, Reads, rows_after}
use Rattle.cds_follow.specs.Inbox.{ReplicaTurn}
use Rattle.cds_follow.specs.Follow.{known_by}
use Rattle.cds_follow.specs.LoadTurns.{ShowsRows}
use Rattle.cds_object.specs.Events.{update_of}

-- whether a change is of an object under a container: the parent is the one that an addition names, and otherwise that of the
-- object's row before the change
abbrev pub is_under : ℕ → List KnownRow → Event → Bool
is_under id rows (ObjAdd object number st parent class) = nat_eq parent id
is_under id rows (ObjMod object number st) = option_eq nat_eq (parent_in object rows) (Some id)
is_under id rows (ObjDel object number st) = option_eq nat_eq (parent_in object rows) (Some id)
is_under id rows (StDone object number) = false

-- whether a change adds the object of an id; and whether it is an addition, or a deletion
abbrev pub adds_object : ℕ → Event → Bool
adds_object id (ObjAdd object number st parent class) = nat_eq object id
adds_object id (ObjMod object number st) = false
adds_object id (ObjDel object number st) = false
adds_object id (StDone object number) = false

abbrev pub is_added : Event → Bool
is_added (ObjAdd object number st parent class) = true
is_added (ObjMod object number st) = false
is_added (ObjDel object number st) = false
is_added (StDone object number) = false

abbrev pub is_deleted : Event → Bool
is_deleted (ObjAdd object number st parent class) = false
is_deleted (ObjMod object number st) = false
is_deleted (ObjDel object number st) = true
is_deleted (StDone object number) = false

-- the changes under a container since a note added it, or since the load if none did, the newest first
abbrev pub changes_under : ℕ → List ObjectRow → List Happening → List Event
changes_under id rows [] = []
changes_under id rows (Changes event ∷ older) =
    cond (adds_object id event) []
    (cond (is_under id (rows_after rows older) event) (event ∷ changes_under id rows older) (changes_under id rows older))
changes_under id rows (Reads other v ∷ older) = changes_under id rows older

-- the trackers that a container began with: none but its number if a note added it, and else those that the load read
abbrev pub began_with : ℕ → List ObjectRow → List Happening → Option Trackers
began_with id rows [] = option_and_then (λ (row : ObjectRow). row.trackers) (row_of id rows)
began_with id rows (Changes event ∷ older) =
    cond (adds_object id event) (Some (record { container_update = update_of event; child_count = 0; deleted = 0 })) (began_with id rows older)
began_with id rows (Reads other v ∷ older) = began_with id rows older

-- the number of the last of some changes, or else the one at the beginning
abbrev pub last_number : Trackers → List Event → ℕ
last_number begun [] = begun.container_update
last_number begun (event ∷ older) = update_of event

-- what a container counts after changes: the number of the last one; its children, with one more for each addition and one
-- less for each deletion; and the deletions. The counts are those while no count passes its last value
abbrev pub CountEach : Trackers → List Event → Trackers → Type 0
CountEach begun changes now =
    (now.container_update ≡ last_number begun changes)
    × (begun.child_count + count_by is_added changes ≤ 4294967295 →
    now.child_count + count_by is_deleted changes ≡ begun.child_count + count_by is_added changes)
    × (begun.deleted + count_by is_deleted changes ≤ 4294967295 → now.deleted ≡ begun.deleted + count_by is_deleted changes)

-- each container of a copy counts each change under it once, from what it began with, whatever server replied with rows and
-- whoever sent notes
abbrev pub trackers_count_each_change_once : Type 0
trackers_count_each_change_once = (turns : List ReplicaTurn) (number : ℕ) (rows : List ObjectRow) (id : ℕ) (row : KnownRow) (now : Trackers) → ShowsRows turns →
    (known_by turns).held ≡ HasCopy number rows → known_of id (rows_after rows (known_by turns).happenings) ≡ Some row → row.trackers ≡ Some now →
    (begun : Trackers) × (began_with id rows (known_by turns).happenings ≡ Some begun)
    × CountEach begun (changes_under id rows (known_by turns).happenings) now
