-- Where a message goes, by its target and its method alone.
use Rattle.std.specs.Prelude.{ℕ, codes, Option, Some, None, if◌then◌else◌}
use Rattle.http_header.specs.HeaderMap.{Entries}
use Rattle.http_header.specs.FieldValue.{FieldValue}
use Rattle.cds_http.specs.declared.message.Start.{Start}
use Rattle.cds_gena.specs.Asked.{field_of}
use Rattle.cds_server.specs.declared.asking.Route.{Route as Routed}
use Rattle.cds_server.specs.declared.asking.Route.TheVariants.{Control, Event, Refused}
use Rattle.cds_server.specs.Route.{Answers, Goes, Route, Subscribes, control_at, goes_to, request_status}

-- A message that goes nowhere is refused with its status. Every other one is a request to the target of control, or to that of
-- events.
abbrev pub unless_refused : Option ℕ → Start → Routed
unless_refused (Some status) start = Refused status
unless_refused None start = if goes_to (codes "/control") start then Control else Event

abbrev pub routed : Start → Routed
routed start = unless_refused (request_status start) start

-- the status of a message that goes nowhere
abbrev pub status_of_route : Routed → Option ℕ
status_of_route Control = None
status_of_route Event = None
status_of_route (Refused status) = Some status

-- the whole way: control also needs a HOST in its form
abbrev pub way_of_route : Routed → Entries FieldValue → Route
way_of_route Control fields = Goes (control_at (field_of (codes "host") fields))
way_of_route Event fields = Subscribes
way_of_route (Refused status) fields = Goes (Answers status)
