use Rattle.std.proofs.Common.{◌≤◌, ◌<◌, length, sym, ◌∙◌, arith}
use Rattle.cds_criteria.proofs.Folds.{ends_first, ends_last}
use Rattle.cds_criteria.proofs.folded.text_order.Goals as goal

pub returns-in-None : goal.returns-in-None
returns-in-None c =
    let ends : length c.args.b.now ≤ c.loop-at.at = omega (arith, c.in-None.ensures.lookup) in
    let more : c.loop-at.at < length c.args.a.now = omega (arith, c.loop-at-test.true) in
    sym (c.loop-at.invariant.left ∙ ends_last c.args.a.now c.args.b.now c.loop-at.at more ends)

pub returns-then-a-b : goal.returns-then-a-b
returns-then-a-b c =
    let ends : length c.args.a.now ≤ c.loop-at.at = omega (arith, c.loop-at-test.false) in
    let more : c.loop-at.at < length c.args.b.now = omega (arith, c.loop-at.auto.at-end, c.if-a-b.true) in
    sym (c.loop-at.invariant.left ∙ ends_first c.args.a.now c.args.b.now c.loop-at.at ends more)
