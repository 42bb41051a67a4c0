-- Where a message goes, and the status of one that goes nowhere.
use Rattle.std.proofs.Common.{◌≡◌, ◌&&◌, ℕ, List, Bool, true, false, cond, Option, Some, None, refl, sym, ap, ◌∙◌, true≢false}
use Rattle.std.specs.Prelude.{codes, bytes_eq}
use Rattle.std.proofs.lemmas.Slice.Eq.{bytes_eq-Decides}
use Rattle.http_header.specs.HeaderMap.{Entries}
use Rattle.http_header.specs.FieldValue.{FieldValue}
use Rattle.cds_http.specs.declared.message.Start.{Start}
use Rattle.cds_http.specs.declared.message.Start.TheVariants.{Request, Reply}
use Rattle.cds_gena.specs.Asked.{field_of}
use Rattle.cds_server.specs.declared.asking.Route.TheVariants.{Control, Event}
use Rattle.cds_server.specs.Route.{Answers, Goes, Subscribes, control_at, goes_to, is_event_method, request_status, route_by, status_unless}
use Rattle.cds_server.specs.Routed.{routed, status_of_route, unless_refused, way_of_route}

by-status : (refused : Option ℕ) (start : Start) → status_of_route (unless_refused refused start) ≡ refused
by-status (Some status) start = refl
by-status None start = by-target (goes_to (codes "/control") start)
  where
    by-target : (control : Bool) → status_of_route (cond control Control Event) ≡ None
    by-target true = refl
    by-target false = refl

pub routed-status : (start : Start) → status_of_route (routed start) ≡ request_status start
routed-status start = by-status (request_status start) start

-- by whether the target is that of control or that of events, and whether it takes the method
by-way : (control events posts asks : Bool) (method target : List ℕ) (fields : Entries FieldValue) → (control ≡ true → events ≡ true → ⊥)
    → bytes_eq target (codes "/control") ≡ control
    → cond (events && asks) Subscribes (Goes (cond control (cond posts (control_at (field_of (codes "host") fields)) (Answers 405)) (Answers (cond events 405 404))))
    ≡ way_of_route (unless_refused (cond control (status_unless posts) (cond events (status_unless asks) (Some 404))) (Request method target)) fields
by-way true true posts asks method target fields apart is = absurd (apart refl refl)
by-way true false true asks method target fields apart is = sym (ap (λ b. way_of_route (cond b Control Event) fields) is)
by-way true false false asks method target fields apart is = refl
by-way false true posts true method target fields apart is = sym (ap (λ b. way_of_route (cond b Control Event) fields) is)
by-way false true posts false method target fields apart is = refl
by-way false false posts asks method target fields apart is = refl

pub routed-way : (start : Start) (fields : Entries FieldValue) → route_by start fields ≡ way_of_route (routed start) fields
routed-way (Request method target) fields =
    by-way (bytes_eq target (codes "/control")) (bytes_eq target (codes "/event")) (bytes_eq method (codes "POST")) (is_event_method method)
    method target fields apart refl
  where
    apart : bytes_eq target (codes "/control") ≡ true → bytes_eq target (codes "/event") ≡ true → ⊥
    apart one other =
        true≢false (sym ((bytes_eq-Decides (codes "/control") (codes "/event")).1
        (sym ((bytes_eq-Decides target (codes "/control")).0 one) ∙ (bytes_eq-Decides target (codes "/event")).0 other)))
routed-way (Reply status) fields = refl
