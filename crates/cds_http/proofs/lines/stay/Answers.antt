use Rattle.std.proofs.Common.{◌≡◌, drop, subst, sym}
use Rattle.cds_http.specs.declared.lines.LinePlace.{LinePlace}
use Rattle.cds_http.specs.Lines.{scanned, further}
use Rattle.cds_http.proofs.Runs.{runs_inside, runs_in_line}
use Rattle.cds_http.proofs.lines.stay.Goals as goal

pub returns-in-Inside-clause-stays : goal.returns-in-Inside-clause-stays
returns-in-Inside-clause-stays c =
    subst (λ (p : LinePlace). scanned p c.args.bytes.now ≡ further c.before_lf.result (scanned p (drop c.before_lf.result c.args.bytes.now)))
    (sym c.in-Inside.is) (runs_inside c.args.bytes.now c.before_lf.result c.before_lf.ensures.within c.before_lf.ensures.clean)

pub returns-in-InLine-clause-stays : goal.returns-in-InLine-clause-stays
returns-in-InLine-clause-stays c =
    subst (λ (p : LinePlace). scanned p c.args.bytes.now ≡ further c.before_lf-in-InLine.result (scanned p (drop c.before_lf-in-InLine.result c.args.bytes.now)))
    (sym c.in-InLine.is) (runs_in_line c.args.bytes.now c.before_lf-in-InLine.result c.before_lf-in-InLine.ensures.within c.before_lf-in-InLine.ensures.clean)
