-- The numbers of the rows are in their ranges by their types.
use Rattle.std.proofs.Common.{Ok, Err, Result, OnOk}
use Rattle.cds_didl.specs.ReadBack.{IsReadBack}
use Rattle.cds_didl.proofs.ReadBack.{is-read-back}
use Rattle.cds_didl.proofs.write.write_didl.Goals as goal

on-any : {A E : Type 0} → (r : Result A E) (P : Type 0) → P → OnOk r P
on-any (Ok x) P p = p
on-any (Err e) P p = tt

pub returns-clause-read_back : goal.returns-clause-read_back
returns-clause-read_back c =
    on-any c.append.result (IsReadBack c.args.filter.now c.args.base.now c.args.rows.now) (is-read-back c.args.filter.now c.args.base.now c.args.rows.now c.in_ok-text.ensures.ranged)
