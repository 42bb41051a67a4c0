use Rattle.std.proofs.Common.{Ok, subst}
use Rattle.std.proofs.lemmas.Result.{IfOk-weaker}
use Rattle.cds_control.specs.Replies.{IsRequest}
use Rattle.cds_control.proofs.control.reply.Goals as goal

pub returns-in-Ok-Asks : goal.returns-in-Ok-Asks
returns-in-Ok-Asks g c =
    IfOk-weaker c.answered.result _ _
    (λ text is. (Ok c.in-Ok-Asks.asked, subst (IsRequest c.args.message.now) c.in-Ok-Asks.field-0-is c.in-Ok-Asks.ensures, is))
    c.answered.ensures
