-- A copy that goes on with the changes of notes: its rows, what was read of them since, and what is still to be read (this
-- project's profile, over UPnP ContentDirectory:4 on tracking changes).
use Rattle.std.specs.Prelude.{◌+◌, ◌-◌, ◌&&◌, ◌||◌, ℕ, Bool, false, cond, not, nat_eq, nat_lt, nat_le, max, min, List, [], ◌∷◌, map, filter, Option, Some, None}
use Rattle.std.specs.List.{list_any, filter_map}
use Rattle.std.specs.Option.{option_map, option_eq}
use Rattle.cds_object.specs.Object.{ObjectRow, is_folder}
use Rattle.cds_object.specs.declared.content.Content.{Content}
use Rattle.cds_object.specs.declared.row.Trackers.{Trackers}
use Rattle.cds_object.specs.declared.event.Class.{Class}
use Rattle.cds_object.specs.declared.event.Event.{Event}
use Rattle.cds_object.specs.declared.event.Event.TheVariants.{ObjAdd, ObjMod, ObjDel, StDone}
use Rattle.cds_object.specs.Events.{object_of, is_container}

-- what an object says, and the number of the change since which it says so
pub record Version : Type 0 where
  pub content : Content
  pub object_update : ℕ

-- a row of a copy: of an object that a note added, it is not known yet what it says
pub record KnownRow : Type 0 where
  pub id : ℕ
  pub parent : Option ℕ
  pub folder : Bool
  pub says : Option Version
  pub trackers : Option Trackers

-- a row that was read whole
abbrev pub known_row : ObjectRow → KnownRow
known_row row = record {
  id = row.id;
  parent = row.parent;
  folder = is_folder row.content;
  says = Some (record { content = row.content; object_update = row.object_update });
  trackers = row.trackers;
}

-- the row of the object, if it is known what it says
abbrev pub shown_row : KnownRow → Option ObjectRow
shown_row row = option_map (λ (v : Version). record {
  id = row.id;
  parent = row.parent;
  content = v.content;
  object_update = v.object_update;
  trackers = row.trackers;
}) row.says

-- the row of an id
abbrev pub known_of : ℕ → List KnownRow → Option KnownRow
known_of id [] = None
known_of id (row ∷ rows) = cond (nat_eq row.id id) (Some row) (known_of id rows)

-- whether a row of an id stands, and whether it is a container's
abbrev pub knows : ℕ → List KnownRow → Bool
knows id rows = list_any (λ (row : KnownRow). nat_eq row.id id) rows

abbrev pub knows_container : ℕ → List KnownRow → Bool
knows_container id rows = list_any (λ (row : KnownRow). nat_eq row.id id && row.folder) rows

-- whether a row of the copy has it as parent
abbrev pub knows_child : ℕ → List KnownRow → Bool
knows_child id rows = list_any (λ (row : KnownRow). option_eq nat_eq row.parent (Some id)) rows

-- a count that rises stands still at its last value
abbrev pub raised_count : ℕ → ℕ
raised_count n = min (n + 1) 4294967295

-- the trackers of a container at a change under it
abbrev pub counts_addition : ℕ → Trackers → Trackers
counts_addition number t = record t { container_update = number; child_count = raised_count t.child_count }

abbrev pub counts_modification : ℕ → Trackers → Trackers
counts_modification number t = record t { container_update = number }

abbrev pub counts_deletion : ℕ → Trackers → Trackers
counts_deletion number t = record t { container_update = number; child_count = t.child_count - 1; deleted = raised_count t.deleted }

-- the rows with the trackers of one counted anew
abbrev pub counted : (Trackers → Trackers) → Option ℕ → List KnownRow → List KnownRow
counted count parent rows =
    map (λ (row : KnownRow). cond (option_eq nat_eq (Some row.id) parent) (record row { trackers = option_map count row.trackers }) row) rows

-- the parent of an id
abbrev pub parent_in : ℕ → List KnownRow → Option ℕ
parent_in id rows = of_row (known_of id rows)
  where
    of_row : Option KnownRow → Option ℕ
    of_row None = None
    of_row (Some row) = row.parent

-- the row of an object that a note added
abbrev pub added_row : ℕ → ℕ → ℕ → Class → KnownRow
added_row id number parent class = record {
  id = id;
  parent = Some parent;
  folder = is_container class;
  says = None;
  trackers = cond (is_container class) (Some (record { container_update = number; child_count = 0; deleted = 0 })) None;
}

-- a row put among others in ascending order of ids
abbrev pub put_known : KnownRow → List KnownRow → List KnownRow
put_known row [] = row ∷ []
put_known row (next ∷ rows) = cond (nat_lt row.id next.id) (row ∷ next ∷ rows) (next ∷ put_known row rows)

-- whether a change cannot be: it adds an id that stands, or adds under what is no container; it modifies or deletes the root, or
-- what does not stand; or it deletes a container that is the parent of a row
abbrev pub cannot_be : List KnownRow → Event → Bool
cannot_be rows (ObjAdd id number st parent class) = knows id rows || not (knows_container parent rows)
cannot_be rows (ObjMod id number st) = nat_eq id 0 || not (knows id rows)
cannot_be rows (ObjDel id number st) = nat_eq id 0 || not (knows id rows) || knows_child id rows
cannot_be rows (StDone id number) = false

-- the rows after a change
abbrev pub changed : List KnownRow → Event → List KnownRow
changed rows (ObjAdd id number st parent class) = put_known (added_row id number parent class) (counted (counts_addition number) (Some parent) rows)
changed rows (ObjMod id number st) = counted (counts_modification number) (parent_in id rows) rows
changed rows (ObjDel id number st) =
    counted (counts_deletion number) (parent_in id rows) (filter (λ (row : KnownRow). not (nat_eq row.id id)) rows)
changed rows (StDone id number) = rows

-- whether a version takes the place of what is known: a lower one is passed over
abbrev pub newer : Version → Option Version → Version
newer v None = v
newer v (Some before) = cond (nat_lt v.object_update before.object_update) before v

-- the rows after an object's own row was read
abbrev pub read_anew : List KnownRow → ℕ → Version → List KnownRow
read_anew rows id v = map (λ (row : KnownRow). cond (nat_eq row.id id) (record row { says = Some (newer v row.says) }) row) rows

-- what befell a copy since its load: a change of a note, or a read of an object's own row
pub data Happening : Type 0 where
  Changes : Event → Happening
  Reads : ℕ → Version → Happening

-- the rows of a copy after all that befell it; the newest is the first
abbrev pub rows_after : List ObjectRow → List Happening → List KnownRow
rows_after rows [] = map known_row rows
rows_after rows (Changes event ∷ older) = changed (rows_after rows older) event
rows_after rows (Reads id v ∷ older) = read_anew (rows_after rows older) id v

-- whether a happening is the deletion of an id; the number at which it adds or modifies the id; and whether it shows a version of
-- it that is not below a number
abbrev pub deletes : ℕ → Happening → Bool
deletes id (Changes (ObjDel other number st)) = nat_eq other id
deletes id (Changes (ObjAdd other number st parent class)) = false
deletes id (Changes (ObjMod other number st)) = false
deletes id (Changes (StDone other number)) = false
deletes id (Reads other v) = false

abbrev pub marks : ℕ → Happening → Option ℕ
marks id (Changes (ObjAdd other number st parent class)) = cond (nat_eq other id) (Some number) None
marks id (Changes (ObjMod other number st)) = cond (nat_eq other id) (Some number) None
marks id (Changes (ObjDel other number st)) = None
marks id (Changes (StDone other number)) = None
marks id (Reads other v) = None

abbrev pub shows_from : ℕ → ℕ → Happening → Bool
shows_from id number (Changes event) = false
shows_from id number (Reads other v) = nat_eq other id && nat_le number v.object_update

-- what befell since the last deletion of an id
abbrev pub since_deletion : ℕ → List Happening → List Happening
since_deletion id [] = []
since_deletion id (happening ∷ older) = cond (deletes id happening) [] (happening ∷ since_deletion id older)

-- whether an id is unread. It is if, since its last deletion, a change added or modified it at a number, and no read showed this
-- number or a later one
abbrev pub is_unread : ℕ → List Happening → Bool
is_unread id happenings =
    list_any (λ (number : ℕ). not (list_any (shows_from id number) (since_deletion id happenings))) (filter_map (marks id) (since_deletion id happenings))

-- the ids that changes name, and the least one that is unread
abbrev pub named : Happening → Option ℕ
named (Changes event) = Some (object_of event)
named (Reads id v) = None

abbrev pub least : List ℕ → Option ℕ
least [] = None
least (n ∷ ns) = lesser (least ns)
  where
    lesser : Option ℕ → Option ℕ
    lesser None = Some n
    lesser (Some other) = Some (min n other)

abbrev pub least_unread : List Happening → Option ℕ
least_unread happenings = least (filter (λ id. is_unread id happenings) (filter_map named happenings))

-- the greatest objectUpdateID that was read; 0 if nothing was
abbrev pub read_up_to : List Happening → ℕ
read_up_to [] = 0
read_up_to (Changes event ∷ older) = read_up_to older
read_up_to (Reads id v ∷ older) = max v.object_update (read_up_to older)
