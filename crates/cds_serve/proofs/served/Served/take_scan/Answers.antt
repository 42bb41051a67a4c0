use Rattle.std.proofs.Common.{sym, subst}
use Rattle.cds_serve.specs.Served.{Stands}
use Rattle.cds_serve.proofs.Adding.{scan-answered, scan-stands}
use Rattle.cds_serve.proofs.served.Served.take_scan.Goals as goal

pub returns-clause-answer : goal.returns-clause-answer
returns-clause-answer g c start found stands =
    let here = subst (λ o. Stands g.V.Serving.stands o start found) (sym c.self.view_is) stands in
    scan-answered g.V.Serving.told g.V.Serving.stands start found c.args.scan.now.records c.take_scan.result _ c.take_scan.new.self
    (c.take_scan.ensures.takes start found here.1) c.take_scan.ensures.closes

pub returns-clause-stands : goal.returns-clause-stands
returns-clause-stands g c start found stands =
    let here = subst (λ o. Stands g.V.Serving.stands o start found) (sym c.self.view_is) stands in (
      here.0,
      scan-stands g.V.Serving.stands start found c.args.scan.now.records c.take_scan.result c.take_scan.new.self
          (c.take_scan.ensures.takes start found here.1),
    )
