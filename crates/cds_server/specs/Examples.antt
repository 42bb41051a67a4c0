-- Small messages and their routes, and what a server publishes, evaluated from the definitions.
use Rattle.std.specs.Prelude.{◌≡◌, ℕ, List, [], ◌∷◌, ◌++◌, false, codes, Some, None, Result, Ok, Err}
use Rattle.http_header.specs.FieldValue.{FieldValue, plain_value}
use Rattle.http_header.specs.HeaderMap.{Entries}
use Rattle.cds_http.specs.declared.message.Start.{Start}
use Rattle.cds_http.specs.declared.message.Start.TheVariants.{Request, Reply}
use Rattle.cds_soap.specs.declared.action.Action.{Action}
use Rattle.cds_soap.specs.declared.action.Action.TheVariants as action
use Rattle.cds_soap.specs.declared.answer.Answer.{Answer}
use Rattle.cds_soap.specs.declared.answer.Answer.TheVariants as answer
use Rattle.cds_catalog.specs.Examples.{one_folder}
use Rattle.cds_object.specs.declared.event.Class.TheVariants.{Track}
use Rattle.cds_object.specs.declared.event.Event.TheVariants.{ObjAdd}
use Rattle.cds_commands.specs.Commands.{Command, Start as Beginning, Scans, Grants, Ticks}
use Rattle.cds_commands.specs.Names.{name_of}
use Rattle.cds_commands.specs.Examples.{grants, one}
use Rattle.cds_gena.specs.declared.error.GenaError.TheVariants.{Incompatible, Precondition, Full}
use Rattle.cds_gena.specs.declared.gena.Gena.{Gena}
use Rattle.cds_gena.specs.declared.gena.Gena.TheVariants.{Renew, Unsubscribe}
use Rattle.cds_gena.specs.declared.error.GenaError.{GenaError}
use Rattle.cds_notify.specs.Propertyset.{propertyset_text}
use Rattle.cds_control.specs.Answering.{answer_to}
use Rattle.cds_server.specs.Route.{Answers, Controls, Subscribes, Goes, route_by}
use Rattle.cds_server.specs.Published.{published_by}
use Rattle.cds_server.specs.Outcome.{Outcome, Refused, Renewed, Ended, field, lease_fields, living_number, outcome_of, refusal_of}
use Rattle.cds_server.specs.Due.{due}

-- ---- ways

abbrev field_named : List ℕ → List ℕ → Entries FieldValue
field_named name value = (name, plain_value value ∷ []) ∷ []

abbrev at_host : List ℕ → Entries FieldValue
at_host host = field_named (codes "host") host

abbrev posted : List ℕ → Start
posted target = Request (codes "POST") target

-- The target comes first, then the method, then HOST, of which the first value counts. A target is another one if it has a query
-- or another host's form round it.
abbrev pub RequestsAreRouted : Type 0
RequestsAreRouted =
    (route_by (posted (codes "/control")) (at_host (codes "10.0.0.1:49152")) ≡ Goes (Controls (codes "10.0.0.1:49152")))
    × (route_by (posted (codes "/control")) (at_host (codes "[fe80::1]")) ≡ Goes (Controls (codes "[fe80::1]")))
    × (route_by (posted (codes "/control")) ((codes "host", plain_value (codes "a") ∷ plain_value (codes " ") ∷ []) ∷ []) ≡ Goes (Controls (codes "a")))
    × (route_by (posted (codes "/control")) [] ≡ Goes (Answers 400))
    × (route_by (posted (codes "/control")) (field_named (codes "hosts") (codes "a")) ≡ Goes (Answers 400))
    × (route_by (posted (codes "/control")) (at_host (codes "")) ≡ Goes (Answers 400))
    × (route_by (posted (codes "/control")) (at_host (codes "a b")) ≡ Goes (Answers 400))
    × (route_by (posted (codes "/control")) (at_host (codes "a/b")) ≡ Goes (Answers 400))
    × (route_by (Request (codes "GET") (codes "/control")) [] ≡ Goes (Answers 405))
    × (route_by (Request (codes "post") (codes "/control")) (at_host (codes "a")) ≡ Goes (Answers 405))
    × (route_by (posted (codes "/control?x")) (at_host (codes "a")) ≡ Goes (Answers 404))
    × (route_by (posted (codes "/Control")) (at_host (codes "a")) ≡ Goes (Answers 404))
    × (route_by (posted (codes "http://a/control")) (at_host (codes "a")) ≡ Goes (Answers 404))
    × (route_by (Request (codes "SUBSCRIBE") (codes "/event")) [] ≡ Subscribes)
    × (route_by (Request (codes "UNSUBSCRIBE") (codes "/event")) [] ≡ Subscribes)
    × (route_by (Request (codes "subscribe") (codes "/event")) [] ≡ Goes (Answers 405))
    × (route_by (posted (codes "/event")) (at_host (codes "a")) ≡ Goes (Answers 405))
    × (route_by (Request (codes "SUBSCRIBE") (codes "/event?x")) [] ≡ Goes (Answers 404))
    × (route_by (Request (codes "SUBSCRIBE") (codes "/control")) (at_host (codes "a")) ≡ Goes (Answers 405))
    × (route_by (Reply 200) (at_host (codes "a")) ≡ Goes (Answers 400))

-- ---- what is published

abbrev beginning : Beginning
beginning = record { high = 0; low = 0; first = 0; wrap = 4294967295 }

-- a request for the number and the token, after one scan of a folder with a track
abbrev answered : Action → Answer
answered asked = answer_to (published_by beginning (Scans one_folder ∷ [])) (codes "h") asked

abbrev pub ActionsAreAnswered : Type 0
ActionsAreAnswered =
    (answered action.GetSystemUpdateId ≡ answer.Number 2)
    × (answered action.GetServiceResetToken ≡ answer.Text (codes "00000000-0000-8000-8000-000000000000"))
    × (answer_to (published_by (record { high = 0; low = 0; first = 7; wrap = 4294967295 }) []) (codes "h") action.GetSystemUpdateId ≡ answer.Number 7)

-- ---- subscriptions

-- one subscription that was granted, and the same after a scan with one track
abbrev subscribed : List Command
subscribed = Grants 0 (codes "http://h/") 1800 ∷ []

abbrev told : List Command
told = Scans one ∷ subscribed

abbrev comes : ℕ → List Command → Result Gena GenaError → Outcome
comes now commands asked = outcome_of (refusal_of now commands) (living_number beginning now commands) asked

abbrev renewal : ℕ → Result Gena GenaError
renewal number = Ok (Renew (record { 0 = name_of beginning number }) 1800)

abbrev giving_up : ℕ → Result Gena GenaError
giving_up number = Ok (Unsubscribe (record { 0 = name_of beginning number }))

-- refusals; a subscription that lives until its end, and one that then takes its room; and what a release sends
abbrev pub SubscriptionsAreAnswered : Type 0
SubscriptionsAreAnswered =
    (comes 0 [] (Err Incompatible) ≡ Refused 400)
    × (comes 0 [] (Err Precondition) ≡ Refused 412)
    × (comes 0 [] (renewal 1) ≡ Refused 412)
    × (comes 1799999 subscribed (renewal 1) ≡ Renewed 1 1800)
    × (comes 1800000 subscribed (renewal 1) ≡ Refused 412)
    × (comes 0 subscribed (renewal 2) ≡ Refused 412)
    × (comes 0 subscribed (giving_up 0) ≡ Refused 412)
    × (comes 0 subscribed (giving_up 1) ≡ Ended 1)
    × (refusal_of 1799999 (grants 63) ≡ None)
    × (refusal_of 1799999 (grants 64) ≡ Some (Full 64))
    × (refusal_of 1800000 (grants 64) ≡ None)
    × (lease_fields (name_of beginning 1) 1800
    ≡ field (codes "SID") (codes "uuid:00000000-0000-8000-8000-000000000001") ∷ field (codes "TIMEOUT") (codes "Second-1800") ∷ [])
    × (due beginning subscribed 1000 ≡ None)
    × (due beginning told 1000
    ≡ Some (record {
      span = record { from = 0; to = 1 };
      body = propertyset_text 1 ((0, 1) ∷ []) (ObjAdd 1 1 false 0 Track ∷ []);
      to = record { sid = record { 0 = name_of beginning 1 }; callback = codes "http://h/"; seq = 1 } ∷ [];
    }))
    × (due beginning told 1800000
    ≡ Some (record { span = record { from = 0; to = 1 }; body = propertyset_text 1 ((0, 1) ∷ []) (ObjAdd 1 1 false 0 Track ∷ []); to = [] }))
    × (due beginning (Ticks 1000 ∷ told) 1200 ≡ None)
