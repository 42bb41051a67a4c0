-- The way of a message, by its target, its method and its HOST, in this order. A message that goes nowhere is answered with a
-- status (RFC 9110 on the statuses 400, 404 and 405; UPnP Device Architecture 2.0 on the URLs of control and of eventing).
use Rattle.std.specs.Prelude.{ℕ, Bool, true, false, ◌&&◌, ◌||◌, List, codes, bytes_eq, Option, Some, None, if◌then◌else◌}
use Rattle.http_header.specs.HeaderMap.{Entries}
use Rattle.http_header.specs.FieldValue.{FieldValue}
use Rattle.cds_http.specs.declared.message.Start.{Start}
use Rattle.cds_http.specs.declared.message.Start.TheVariants.{Request, Reply}
use Rattle.cds_http.specs.declared.message.Message.{Message}
use Rattle.cds_gena.specs.Asked.{asks_of_subscription, field_of}
use Rattle.cds_soap.specs.Laws.{is_host}

-- an answer of a status without a body, or control at a host
pub data Way : Type 0 where
  Answers : ℕ → Way
  Controls : List ℕ → Way

-- A message asks about a subscription, or goes one of these ways.
pub data Route : Type 0 where
  Subscribes : Route
  Goes : Way → Route

-- Control needs a HOST in its form; the first one counts.
abbrev pub control_at : Option (List ℕ) → Way
control_at None = Answers 400
control_at (Some host) = if is_host host then Controls host else Answers 400

-- Control is asked for by POST.
abbrev pub control_by : List ℕ → Entries FieldValue → Way
control_by method fields = if bytes_eq method (codes "POST") then control_at (field_of (codes "host") fields) else Answers 405

-- The target of events takes no other method than those of subscriptions. There is no other target.
abbrev pub status_elsewhere : List ℕ → ℕ
status_elsewhere target = if bytes_eq target (codes "/event") then 405 else 404

-- The target is compared whole, with a `?` and all that follows it.
abbrev pub request_to : List ℕ → List ℕ → Entries FieldValue → Way
request_to method target fields =
    if bytes_eq target (codes "/control") then control_by method fields else Answers (status_elsewhere target)

-- A message that is no request is a bad one.
abbrev pub way_by : Start → Entries FieldValue → Way
way_by (Request method target) fields = request_to method target fields
way_by (Reply status) fields = Answers 400

-- whether a message is a request to a target
abbrev pub goes_to : List ℕ → Start → Bool
goes_to name (Request method target) = bytes_eq target name
goes_to name (Reply status) = false

-- Subscriptions are asked for at the target of events, by SUBSCRIBE and UNSUBSCRIBE.
abbrev pub asks_events : Start → Bool
asks_events start = goes_to (codes "/event") start && asks_of_subscription start

abbrev pub route_by : Start → Entries FieldValue → Route
route_by start fields = if asks_events start then Subscribes else Goes (way_by start fields)

abbrev pub route : Message → Route
route m = route_by m.start m.fields

-- ---- the statuses that need no server

-- whether the target of events takes this method
abbrev pub is_event_method : List ℕ → Bool
is_event_method method = bytes_eq method (codes "SUBSCRIBE") || bytes_eq method (codes "UNSUBSCRIBE")

-- a method that a target does not take gets 405
abbrev pub status_unless : Bool → Option ℕ
status_unless true = None
status_unless false = Some 405

-- The target `/control` takes POST; `/event` takes SUBSCRIBE and UNSUBSCRIBE. Every other target gets 404.
abbrev pub status_at : List ℕ → List ℕ → Option ℕ
status_at target method =
    if bytes_eq target (codes "/control") then status_unless (bytes_eq method (codes "POST"))
    else if bytes_eq target (codes "/event") then status_unless (is_event_method method)
    else Some 404

-- the status of a start line, if the server has no part in it; a line that is no request gets 400
abbrev pub request_status : Start → Option ℕ
request_status (Request method target) = status_at target method
request_status (Reply status) = Some 400
