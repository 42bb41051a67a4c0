use Rattle.std.proofs.Common.{List, sym, subst}
use Rattle.std.proofs.lemmas.Result.{on_ok_weaker}
use Rattle.cds_commands.specs.Commands.{Command}
use Rattle.cds_server.specs.Asking.{command_in}
use Rattle.cds_serve.specs.Served.{Stands}
use Rattle.cds_serve.proofs.Adding.{and-added}
use Rattle.cds_serve.proofs.Courses.{answer-given}
use Rattle.cds_serve.proofs.served.Served.answer.Goals as goal

pub returns-clause-given : goal.returns-clause-given
returns-clause-given g c start found stands =
    let here = subst (λ o. Stands g.V.Serving.stands o start found) (sym c.self.view_is) stands in
    answer-given start found c.args.now c.args.asking.now c.answer.result (c.answer.ensures.replied start found here.1)
    (c.answer.ensures.note start found here.1) c.answer.ensures.fits c.answer.ensures.delivered

pub returns-clause-stands : goal.returns-clause-stands
returns-clause-stands g c start found stands =
    let here = subst (λ o. Stands g.V.Serving.stands o start found) (sym c.self.view_is) stands in
    on_ok_weaker c.answer.result
    (λ s. (here.0, subst (λ (l : List Command). g.V.Serving.stands c.answer.new.self start l) (and-added (command_in start found c.args.now c.args.asking.now) found) s))
    (c.answer.ensures.stands start found here.1)

pub returns-clause-accepted : goal.returns-clause-accepted
returns-clause-accepted g c start found stands =
    let here = subst (λ o. Stands g.V.Serving.stands o start found) (sym c.self.view_is) stands in
    c.answer.ensures.accepted start found here.1
