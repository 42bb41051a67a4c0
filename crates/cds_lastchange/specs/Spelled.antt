-- How events are written: the one text of a StateEvent (this project's profile of UPnP ContentDirectory:4 on
-- LastChange).
use Rattle.std.specs.Prelude.{ℕ, ◌^◌, ◌<◌, Bool, if◌then◌else◌, List, ◌++◌, codes}
use Rattle.std.specs.List.{flat_map}
use Rattle.cds_object.specs.Writing.{attribute, number_attribute}
use Rattle.cds_object.specs.declared.event.Class.{Class}
use Rattle.cds_object.specs.declared.event.Class.TheVariants.{Container, Track}
use Rattle.cds_object.specs.declared.event.Event.{Event}
use Rattle.cds_object.specs.declared.event.Event.TheVariants.{ObjAdd, ObjMod, ObjDel, StDone}

-- The namespace of StateEvents.
abbrev pub event_space : List ℕ
event_space = codes "urn:schemas-upnp-org:av:cds-event"

-- An object, and the number of a change of it.
unfoldable pub change_text : ℕ → ℕ → List ℕ
change_text id update = number_attribute (codes "objID") id ++ number_attribute (codes "updateID") update

-- Whether the change belongs to a subtree update.
abbrev pub flag_text : Bool → List ℕ
flag_text st = if st then codes "1" else codes "0"

unfoldable pub flagged_text : ℕ → ℕ → Bool → List ℕ
flagged_text id update st = change_text id update ++ attribute (codes "stUpdate") (flag_text st)

-- The classes of objects (UPnP ContentDirectory:4 on classes).
abbrev pub container_class : List ℕ
container_class = codes "object.container"

abbrev pub track_class : List ℕ
track_class = codes "object.item.audioItem.musicTrack"

unfoldable pub class_text : Class → List ℕ
class_text Container = container_class
class_text Track = track_class

unfoldable pub added_text : ℕ → Class → List ℕ
added_text parent class = number_attribute (codes "objParentID") parent ++ attribute (codes "objClass") (class_text class)

-- An event, which is an empty element.
abbrev pub event_text : Event → List ℕ
event_text (ObjAdd id update st parent class) = codes "<objAdd" ++ flagged_text id update st ++ added_text parent class ++ codes "/>"
event_text (ObjMod id update st) = codes "<objMod" ++ flagged_text id update st ++ codes "/>"
event_text (ObjDel id update st) = codes "<objDel" ++ flagged_text id update st ++ codes "/>"
event_text (StDone id update) = codes "<stDone" ++ change_text id update ++ codes "/>"

-- All of a StateEvent.
abbrev pub opening : List ℕ
opening = codes "<StateEvent xmlns=\"urn:schemas-upnp-org:av:cds-event\">"

abbrev pub closing : List ℕ
closing = codes "</StateEvent>"

abbrev pub spelled : List Event → List ℕ
spelled events = opening ++ flat_map event_text events ++ closing

-- The numbers of an event have 32 bits.
abbrev pub IsNumbered : Event → Type 0
IsNumbered (ObjAdd id update st parent class) = (id < 2 ^ 32) × (update < 2 ^ 32) × (parent < 2 ^ 32)
IsNumbered (ObjMod id update st) = (id < 2 ^ 32) × (update < 2 ^ 32)
IsNumbered (ObjDel id update st) = (id < 2 ^ 32) × (update < 2 ^ 32)
IsNumbered (StDone id update) = (id < 2 ^ 32) × (update < 2 ^ 32)
