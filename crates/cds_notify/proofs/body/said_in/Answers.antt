use Rattle.std.proofs.Common.{Err, subst, sym}
use Rattle.cds_markup.proofs.Readings.{told-refused}
use Rattle.cds_notify.specs.Gathering.{gathers}
use Rattle.cds_notify.specs.Reading.{IsSaid, SaidTold}
use Rattle.cds_notify.proofs.Gathered.{gathered-said}
use Rattle.cds_notify.proofs.Reading.{document-told}
use Rattle.cds_notify.proofs.body.said_in.Goals as goal

pub returns-in-Ok : goal.returns-in-Ok
returns-in-Ok c =
    subst (λ said. IsSaid c.args.body.now said) (sym c.said_by.ensures)
    (gathered-said c.args.body.now c.new-variables.result c.give_parts.new.to c.in-Ok.ensures.told c.new-variables.ensures)

pub returns-in-Err : goal.returns-in-Err
returns-in-Err c =
    subst (λ e. SaidTold c.args.body.now (Err e)) (sym c.of_document.ensures)
    (document-told c.args.body.now c.in-Err.refusal (told-refused gathers c.args.body.now c.new-variables.result c.give_parts.new.to c.in-Err.refusal c.in-Err.ensures.told))
