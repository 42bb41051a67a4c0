-- Answers that are computed stand against their bytes.
use Rattle.std.proofs.Common.{◌≡◌, ℕ, false, Ok, Err, List, [], ◌∷◌, ◌++◌, codes, refl, subst}
use Rattle.std.specs.Fmt.{digits}
use Rattle.cds_object.specs.Writing.{attribute, number_attribute}
use Rattle.cds_object.specs.declared.event.Event.{Event}
use Rattle.cds_object.specs.declared.event.Event.TheVariants.{ObjDel}
use Rattle.cds_markup.proofs.Public.{markup_on_literals}
use Rattle.cds_lastchange.specs.declared.error.StateError.{StateError}
use Rattle.cds_lastchange.specs.declared.error.StateError.TheVariants.{Bad, NotStateEvent}
use Rattle.cds_lastchange.specs.Spelled.{class_text, change_text, flagged_text, added_text}
use Rattle.cds_lastchange.specs.Attributes.{flag_of, class_of, added, modified, deleted, done, event_of, is_state_event}
use Rattle.cds_lastchange.specs.StateEvent.{IsStateEvent}
use Rattle.cds_lastchange.specs.Refusal.{IsRefused}
use Rattle.cds_lastchange.specs.Examples.{start, end, deletion, cut, events_are_written, forms_are_read, others_are_refused, text_between_is_refused}
use Rattle.cds_lastchange.proofs.Deciding.{answer, Stands, stands}

is-event : (bytes : List ℕ) (events : List Event) → answer bytes ≡ Ok events → IsStateEvent bytes events
is-event bytes events e = subst (Stands bytes) e (stands bytes)

is-refused : (bytes : List ℕ) (r : StateError) → answer bytes ≡ Err r → IsRefused bytes r
is-refused bytes r e = let s : Stands bytes (Err r) = subst (Stands bytes) e (stands bytes) in s.0

pub are-written : events_are_written
unfolding digits attribute number_attribute change_text flagged_text added_text class_text
are-written = (refl, refl, refl, refl)

pub are-read : forms_are_read
unfolding markup_on_literals flag_of class_of added modified deleted done event_of is_state_event
are-read = (
  is-event deletion (ObjDel 7 9 false ∷ []) refl,
  is-event (codes "<StateEvent xmlns='urn:schemas-upnp-org:av:cds-event'/>") [] refl,
  is-event (codes "<e:StateEvent xmlns:e=\"urn:schemas-upnp-org:av:cds-event\"></e:StateEvent>") [] refl,
  is-event (codes "<StateEvent xmlns='urn:schemas-upnp-org:av:cds-event' xmlns:xsi='x' xsi:schemaLocation='y'/>") [] refl,
  is-event [] [] refl,
  is-event (32 ∷ 9 ∷ 13 ∷ 10 ∷ []) [] refl,
)

pub are-refused : others_are_refused
unfolding markup_on_literals flag_of class_of added modified deleted done event_of is_state_event
are-refused = (
  is-refused cut (Bad 111) refl,
  is-refused (start ++ codes "<objNew/>" ++ end) (NotStateEvent 54) refl,
  is-refused (start ++ codes "<objNew/x") (NotStateEvent 54) refl,
  is-refused (start ++ codes "<objDel objID=\"7\" stUpdate=\"0\"/>" ++ end) (NotStateEvent 54) refl,
  is-refused (start ++ codes "<objDel objID=\"7\" updateID=\"+5\" stUpdate=\"0\"/>" ++ end) (NotStateEvent 54) refl,
  is-refused (start ++ codes "<objDel objID=\"7\" updateID=\"4294967296\" stUpdate=\"0\"/>" ++ end) (NotStateEvent 54) refl,
  is-refused (start ++ codes "<stDone objID='1' updateID='2'><a>") (NotStateEvent 85) refl,
  is-refused (codes "<StateEvent xmlns=\"urn:schemas-upnp-org:av:cds-event\"/>x") (Bad 55) refl,
)

pub are-between : text_between_is_refused
unfolding markup_on_literals flag_of class_of added modified deleted done event_of is_state_event
are-between = (
  is-refused (start ++ codes "x&bad") (NotStateEvent 54) refl,
  is-refused (start ++ 195 ∷ []) (NotStateEvent 54) refl,
  is-refused (start ++ 237 ∷ 160 ∷ 128 ∷ []) (NotStateEvent 54) refl,
  is-refused (start ++ 193 ∷ 128 ∷ []) (Bad 54) refl,
  is-refused (start ++ codes "&#32;" ++ end) (NotStateEvent 54) refl,
  is-refused (start ++ codes "&#32") (Bad 58) refl,
  is-refused (start ++ codes "<![CDATA[]]>" ++ end) (NotStateEvent 54) refl,
  is-refused (239 ∷ 187 ∷ 191 ∷ []) (Bad 3) refl,
)
