use Rattle.std.proofs.Common.{ap, ◌∙◌, sym}
use Rattle.cds_server.specs.Routed.{status_of_route, way_of_route}
use Rattle.cds_server.proofs.Routes.{routed-status, routed-way}
use Rattle.cds_server.proofs.routing.route.Goals as goal

pub returns-clause-status : goal.returns-clause-status
returns-clause-status c = ap status_of_route c.routed.ensures ∙ routed-status c.args.message.now.start

pub returns-clause-way : goal.returns-clause-way
returns-clause-way c =
    routed-way c.args.message.now.start c.args.message.now.fields ∙ ap (λ r. way_of_route r c.args.message.now.fields) (sym c.routed.ensures)
