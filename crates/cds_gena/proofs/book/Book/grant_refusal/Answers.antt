use Rattle.std.proofs.Common.{rules, arith, ◌≤◌}
use Rattle.cds_gena.proofs.Granted.{few-alive}
use Rattle.cds_gena.proofs.book.Book.grant_refusal.Goals as goal

pub overflow_cast-result : goal.overflow_cast-result
overflow_cast-result c =
    let few = few-alive c.self.inside.granted c.args.now c.self.inside.living.entries c.self.invariant.among in
    let is = c.count_alive-live.ensures in
    let less : c.count_alive-live.result ≤ c.self.inside.granted = omega (arith, few, is) in search rules
