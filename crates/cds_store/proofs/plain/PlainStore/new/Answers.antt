-- Before any scan there are no maps, the root's is the only row, and there is nothing to forget.
use Rattle.std.proofs.Common.{refl, [], lit≤, arith, ◌+◌, ◌≤◌}
use Rattle.cds_store.proofs.plain.PlainStore.new.Goals as goal

pub invariant_of-result : goal.invariant_of-result
invariant_of-result c =
    let low : c.args.first ≤ c.args.first + 0 = omega arith in
    rw c.in_ok-catalog.ensures (record {
      history = record { first = c.args.first; maps = [] };
      stands = (tt, refl, low, c.new-2.ensures.items);
      few = lit≤ tt;
    })
