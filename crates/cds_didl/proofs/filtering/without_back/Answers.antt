use Rattle.std.proofs.Common.{◌≡◌, take, sym, ◌∙◌, arith}
use Rattle.cds_didl.specs.Filter.{without_back}
use Rattle.cds_didl.proofs.Spaces.{one-less, none-less, none-left}
use Rattle.cds_didl.proofs.filtering.without_back.Goals.{then-loop-end-test+else-text-end-eq32, else-loop-end-test}
use Rattle.cds_didl.proofs.filtering.without_back.Goals as goal

pub loop-end-preserved : goal.loop-end-preserved
loop-end-preserved c = (
  omega (arith, c.loop-end.invariant.0),
  one-less c.args.text.now c.loop-end.end c.loop-end-test.true c.loop-end.invariant.0 c.if-text-end-eq32.true ∙ c.loop-end.invariant.1,
)

pub returns : goal.returns
returns c =
    let end = c.loop-end.end in
    let text = c.args.text.now in
    let left : without_back (take end text) ≡ take end text = elim c.loop-end-test.branch [
      | then-loop-end-test+else-text-end-eq32 w ↦ none-less text end w.loop-end-test.true c.loop-end.invariant.0 w.if-text-end-eq32.false
      | else-loop-end-test w ↦ none-left text end (omega (arith, w.loop-end-test.false))
    ] in
    c.split_at.ensures.front ∙ sym left ∙ c.loop-end.invariant.1
