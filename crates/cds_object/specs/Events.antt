-- What an event names, whatever it tells (this project's profile of UPnP ContentDirectory:4 on LastChange).
use Rattle.std.specs.Prelude.{ℕ, Bool, true, false, cond}
use Rattle.cds_object.specs.Object.{is_folder}
use Rattle.cds_object.specs.declared.content.Content.{Content}
use Rattle.cds_object.specs.declared.event.Class.{Class}
use Rattle.cds_object.specs.declared.event.Class.TheVariants.{Container, Track}
use Rattle.cds_object.specs.declared.event.Event.{Event}
use Rattle.cds_object.specs.declared.event.Event.TheVariants.{ObjAdd, ObjMod, ObjDel, StDone}

-- whether objects of a class hold others
abbrev pub is_container : Class → Bool
is_container Container = true
is_container Track = false

-- the number of the change that an event tells, or of the last one of the subtree update that is done
abbrev pub update_of : Event → ℕ
update_of (ObjAdd id update st parent class) = update
update_of (ObjMod id update st) = update
update_of (ObjDel id update st) = update
update_of (StDone id update) = update

-- the object that an event names
abbrev pub object_of : Event → ℕ
object_of (ObjAdd id update st parent class) = id
object_of (ObjMod id update st) = id
object_of (ObjDel id update st) = id
object_of (StDone id update) = id

-- whether an event tells a change, and not that a subtree update is done
abbrev pub is_change : Event → Bool
is_change (StDone id update) = false
is_change other = true

-- the class of an object, by what it says
abbrev pub class_of : Content → Class
class_of content = cond (is_folder content) Container Track
