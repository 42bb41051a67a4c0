use Rattle.std.proofs.Common.{◌≤◌, arith, length, subst, sym}
use Rattle.cds_gena.specs.Subscribed.{Booked, alive}
use Rattle.cds_gena.proofs.Served.{few-of}
use Rattle.cds_gena.proofs.book.Book.live.Goals as goal

pub returns-clause-few : goal.returns-clause-few
returns-clause-few c start commands stands served =
    let most = subst (λ (z : Booked). length (alive c.args.now z.subscribed.living) ≤ 64) (sym c.self.view_is)
    (few-of c.args.self.now start commands c.args.now stands served) in
    let is = c.count_alive.ensures in omega (arith, most, is)
