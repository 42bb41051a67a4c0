use Rattle.std.proofs.Common.{List, ℕ, subst, sym}
use Rattle.cds_control.specs.Replies.{IsRequest}
use Rattle.cds_server.specs.Asking.{AsksBy}
use Rattle.cds_server.specs.Route.{Controls}
use Rattle.cds_server.specs.declared.asking.Asking.TheVariants as ask
use Rattle.cds_server.proofs.Asks.{action-asks, refusal-asks}
use Rattle.cds_server.proofs.reading.read_action_at.Goals as goal

pub returns-in-Ok-Asks : goal.returns-in-Ok-Asks
returns-in-Ok-Asks c =
    subst (λ (h : List ℕ). AsksBy c.args.message.now (Controls c.args.host.now) (ask.Action h c.in-Ok-Asks.asked)) (sym c.in_ok-host.ensures)
    (action-asks c.args.message.now c.args.host.now c.in-Ok-Asks.asked
    (subst (IsRequest c.args.message.now) c.in-Ok-Asks.field-0-is c.in-Ok-Asks.ensures))

pub returns-in-Ok-Refused : goal.returns-in-Ok-Refused
returns-in-Ok-Refused c =
    refusal-asks c.args.message.now c.args.host.now c.in-Ok-Refused.text
    (subst (IsRequest c.args.message.now) c.in-Ok-Refused.field-0-is c.in-Ok-Refused.ensures)
