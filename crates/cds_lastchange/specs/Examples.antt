-- Small StateEvents, evaluated from the definitions.
use Rattle.std.specs.Prelude.{◌≡◌, ℕ, true, false, List, [], ◌∷◌, ◌++◌, codes}
use Rattle.cds_object.specs.declared.event.Class.TheVariants.{Container, Track}
use Rattle.cds_object.specs.declared.event.Event.TheVariants.{ObjAdd, ObjDel, StDone}
use Rattle.cds_lastchange.specs.declared.error.StateError.TheVariants.{Bad, NotStateEvent}
use Rattle.cds_lastchange.specs.Spelled.{event_text, spelled}
use Rattle.cds_lastchange.specs.StateEvent.{IsStateEvent}
use Rattle.cds_lastchange.specs.Refusal.{IsRefused}

-- The start tag of a StateEvent, which has 54 bytes, and the end tag.
abbrev pub start : List ℕ
start = codes "<StateEvent xmlns=\"urn:schemas-upnp-org:av:cds-event\">"

abbrev pub end : List ℕ
end = codes "</StateEvent>"

-- What is written of a deletion, of a folder that is added with a track in it, and of the end of that update.
abbrev pub deletion : List ℕ
deletion = start ++ codes "<objDel objID=\"7\" updateID=\"9\" stUpdate=\"0\"/>" ++ end

abbrev pub events_are_written : Type 0
events_are_written =
    (spelled (ObjDel 7 9 false ∷ []) ≡ deletion)
    × (event_text (ObjAdd 1 1 true 0 Container) ≡ codes "<objAdd objID=\"1\" updateID=\"1\" stUpdate=\"1\" objParentID=\"0\" objClass=\"object.container\"/>")
    × (event_text (ObjAdd 2 2 true 1 Track) ≡ codes "<objAdd objID=\"2\" updateID=\"2\" stUpdate=\"1\" objParentID=\"1\" objClass=\"object.item.audioItem.musicTrack\"/>")
    × (event_text (StDone 1 2) ≡ codes "<stDone objID=\"1\" updateID=\"2\"/>")

-- What is read: the deletion, single quotes, a prefix, attributes that are passed over, nothing at all, and white space alone.
abbrev pub forms_are_read : Type 0
forms_are_read =
    IsStateEvent deletion (ObjDel 7 9 false ∷ [])
    × IsStateEvent (codes "<StateEvent xmlns='urn:schemas-upnp-org:av:cds-event'/>") []
    × IsStateEvent (codes "<e:StateEvent xmlns:e=\"urn:schemas-upnp-org:av:cds-event\"></e:StateEvent>") []
    × IsStateEvent (codes "<StateEvent xmlns='urn:schemas-upnp-org:av:cds-event' xmlns:xsi='x' xsi:schemaLocation='y'/>") []
    × IsStateEvent [] []
    × IsStateEvent (32 ∷ 9 ∷ 13 ∷ 10 ∷ []) []

-- The deletion without its last byte.
abbrev pub cut : List ℕ
cut = start ++ codes "<objDel objID=\"7\" updateID=\"9\" stUpdate=\"0\"/></StateEvent"

-- What is refused, with its place:
-- - a deletion that is cut off;
-- - an element that is no event, also if only the `/` of its tag came;
-- - a deletion without its number, with a sign before it, and with one of 33 bits;
-- - an element within an event;
-- - what stands after the root.
abbrev pub others_are_refused : Type 0
others_are_refused =
    IsRefused cut (Bad 111)
    × IsRefused (start ++ codes "<objNew/>" ++ end) (NotStateEvent 54)
    × IsRefused (start ++ codes "<objNew/x") (NotStateEvent 54)
    × IsRefused (start ++ codes "<objDel objID=\"7\" stUpdate=\"0\"/>" ++ end) (NotStateEvent 54)
    × IsRefused (start ++ codes "<objDel objID=\"7\" updateID=\"+5\" stUpdate=\"0\"/>" ++ end) (NotStateEvent 54)
    × IsRefused (start ++ codes "<objDel objID=\"7\" updateID=\"4294967296\" stUpdate=\"0\"/>" ++ end) (NotStateEvent 54)
    × IsRefused (start ++ codes "<stDone objID='1' updateID='2'><a>") (NotStateEvent 85)
    × IsRefused (codes "<StateEvent xmlns=\"urn:schemas-upnp-org:av:cds-event\"/>x") (Bad 55)

-- What is refused between tags:
-- - a letter before a fault;
-- - the first byte of a character that is cut off or broken, and a byte that begins none;
-- - a reference to a space, and one that is cut off;
-- - a section without anything in it.
-- A byte order mark alone is no white space.
abbrev pub text_between_is_refused : Type 0
text_between_is_refused =
    IsRefused (start ++ codes "x&bad") (NotStateEvent 54)
    × IsRefused (start ++ 195 ∷ []) (NotStateEvent 54)
    × IsRefused (start ++ 237 ∷ 160 ∷ 128 ∷ []) (NotStateEvent 54)
    × IsRefused (start ++ 193 ∷ 128 ∷ []) (Bad 54)
    × IsRefused (start ++ codes "&#32;" ++ end) (NotStateEvent 54)
    × IsRefused (start ++ codes "&#32") (Bad 58)
    × IsRefused (start ++ codes "<![CDATA[]]>" ++ end) (NotStateEvent 54)
    × IsRefused (239 ∷ 187 ∷ 191 ∷ []) (Bad 3)
