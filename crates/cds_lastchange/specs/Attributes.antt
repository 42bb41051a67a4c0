-- What an element of a StateEvent says by its name and its attributes (this project's profile of UPnP ContentDirectory:4 on
-- LastChange). Attributes stand in any order. Others than these are passed over.
use Rattle.std.specs.Prelude.{◌==◌, ℕ, ◌^◌, Bool, true, false, ◌&&◌, ◌||◌, if◌then◌else◌, Option, Some, None, List, codes, find, length}
use Rattle.std.specs.Option.{option_and_then}
use Rattle.std.specs.Str.{bytes_eq}
use Rattle.cds_base.specs.Number.{number_below}
use Rattle.cds_object.specs.declared.event.Class.{Class}
use Rattle.cds_object.specs.declared.event.Class.TheVariants.{Container, Track}
use Rattle.cds_object.specs.declared.event.Event.{Event}
use Rattle.cds_object.specs.declared.event.Event.TheVariants.{ObjAdd, ObjMod, ObjDel, StDone}
use Rattle.cds_markup.specs.declared.name.Name.{Name}
use Rattle.cds_markup.specs.declared.name.Attr.{Attr}
use Rattle.cds_lastchange.specs.Spelled.{event_space, container_class, track_class}

infixl 10 ◌>>=◌
abbrev pub ◌>>=◌ : {A B : Type 0} → Option A → (A → Option B) → Option B
o >>= f = option_and_then f o

-- The value of the attribute of this name that is in no namespace. There is at most one in an element.
abbrev pub is_plain : List ℕ → Attr → Bool
is_plain local a = (length a.name.space == 0) && bytes_eq a.name.local local

abbrev pub value_in : Option Attr → Option (List ℕ)
value_in None = None
value_in (Some a) = Some a.value

abbrev pub value_of : List ℕ → List Attr → Option (List ℕ)
value_of local attrs = value_in (find (is_plain local) attrs)

-- Its value as a number of 32 bits in decimal digits, with or without leading zeros.
abbrev pub number_of : List ℕ → List Attr → Option ℕ
number_of local attrs = value_of local attrs >>= number_below (2 ^ 32)

-- Whether a change belongs to a subtree update.
abbrev pub flag_said : List ℕ → Option Bool
flag_said text =
    if bytes_eq text (codes "0") || bytes_eq text (codes "false") then Some false
    else if bytes_eq text (codes "1") || bytes_eq text (codes "true") then Some true
    else None

unfoldable pub flag_of : List Attr → Option Bool
flag_of attrs = value_of (codes "stUpdate") attrs >>= flag_said

-- The class of an added object.
abbrev pub class_said : List ℕ → Option Class
class_said text =
    if bytes_eq text (container_class) then Some Container
    else if bytes_eq text (track_class) then Some Track
    else None

unfoldable pub class_of : List Attr → Option Class
class_of attrs = value_of (codes "objClass") attrs >>= class_said

-- The four events by their attributes.
unfoldable pub added : List Attr → Option Event
added attrs = do
  id ← number_of (codes "objID") attrs
  update ← number_of (codes "updateID") attrs
  st ← flag_of attrs
  parent ← number_of (codes "objParentID") attrs
  class ← class_of attrs
  Some (ObjAdd id update st parent class)

unfoldable pub modified : List Attr → Option Event
modified attrs = do
  id ← number_of (codes "objID") attrs
  update ← number_of (codes "updateID") attrs
  st ← flag_of attrs
  Some (ObjMod id update st)

unfoldable pub deleted : List Attr → Option Event
deleted attrs = do
  id ← number_of (codes "objID") attrs
  update ← number_of (codes "updateID") attrs
  st ← flag_of attrs
  Some (ObjDel id update st)

unfoldable pub done : List Attr → Option Event
done attrs = do
  id ← number_of (codes "objID") attrs
  update ← number_of (codes "updateID") attrs
  Some (StDone id update)

-- The event of this name.
abbrev pub event_named : List ℕ → List Attr → Option Event
event_named local attrs =
    if bytes_eq local (codes "objAdd") then added attrs
    else if bytes_eq local (codes "objMod") then modified attrs
    else if bytes_eq local (codes "objDel") then deleted attrs
    else if bytes_eq local (codes "stDone") then done attrs
    else None

-- The event that an element is. There is none if it is no event.
unfoldable pub event_of : Name → List Attr → Option Event
event_of name attrs = if bytes_eq name.space event_space then event_named name.local attrs else None

-- Whether an element is a list of events, whatever its attributes.
unfoldable pub is_state_event : Name → Bool
is_state_event name = bytes_eq name.space event_space && bytes_eq name.local (codes "StateEvent")
