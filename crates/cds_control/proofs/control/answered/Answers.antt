use Rattle.std.proofs.Common.{None, ap, ◌∙◌}
use Rattle.std.proofs.lemmas.Result.{IfOk-weaker}
use Rattle.cds_soap.specs.Written.{written_answer}
use Rattle.cds_soap.specs.declared.answer.Answer.{Answer}
use Rattle.cds_control.specs.Published.{Published}
use Rattle.cds_control.specs.Making.{written_made}
use Rattle.cds_control.proofs.Makes.{answer-made}
use Rattle.cds_control.proofs.control.answered.Goals as goal

pub returns : goal.returns
returns g c =
    let published : Published = record { token = c.args.token.now; number = g.V.View.number c.args.view.now; rows = g.V.View.rows c.args.view.now } in
    IfOk-weaker c.write_made.result _ _
    (λ text is.
    is ∙ ap (written_made c.args.host.now c.args.asked.now) c.in_ok-made.ensures
    ∙ ap (λ (given : Answer). written_answer c.args.asked.now.action c.args.asked.now.version given None)
    (answer-made published c.args.host.now c.args.asked.now.action))
    c.write_made.ensures
