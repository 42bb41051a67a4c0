use Rattle.std.proofs.Common.{ap, ◌∙◌}
use Rattle.std.proofs.lemmas.Result.{IfOk-weaker}
use Rattle.cds_server.specs.Routed.{way_of_route}
use Rattle.cds_server.proofs.reading.read_asked.Goals as goal

pub returns-in-Control : goal.returns-in-Control
returns-in-Control c =
    IfOk-weaker c.read_control.result _ _ (λ asking asks. asks (c.route.ensures.way ∙ ap (λ r. way_of_route r c.args.message.now.fields) c.in-Control.is))
    c.read_control.ensures

pub read_event-requires : goal.read_event-requires
read_event-requires c = record { asks = c.route.ensures.way ∙ ap (λ r. way_of_route r c.args.message.now.fields) c.in-Event.is }

pub returns-in-Refused : goal.returns-in-Refused
returns-in-Refused c =
    IfOk-weaker c.read_refused.result _ _ (λ asking asks. asks (c.route.ensures.way ∙ ap (λ r. way_of_route r c.args.message.now.fields) c.in-Refused.is))
    c.read_refused.ensures
