use Rattle.std.proofs.Common.{Err, subst, sym}
use Rattle.cds_notify.specs.Reading.{EventsTold}
use Rattle.cds_notify.proofs.Reading.{state-told}
use Rattle.cds_notify.proofs.body.events_in.Goals as goal

pub returns-in-Err : goal.returns-in-Err
returns-in-Err c = subst (λ e. EventsTold c.args.text.now (Err e)) (sym c.of_state.ensures) (state-told c.args.text.now c.in-Err.refusal c.in-Err.ensures)
