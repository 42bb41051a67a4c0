use Rattle.std.proofs.Common.{sym, ◌∙◌}
use Rattle.cds_browse.proofs.Lineage.{one_more, same_next}
use Rattle.cds_browse.proofs.descendants.Lineage.keep.Goals as goal

pub loop-step-preserved : goal.loop-step-preserved
loop-step-preserved g c =
    let rows = g.V.View.rows c.args.view.now in
    record {
      container = c.loop-step.invariant.container;
      last = c.loop-step.invariant.last;
      within = c.in-Further.ensures.0;
      known = one_more rows c.loop-step.self.container c.loop-step.at c.loop-step.self.known.items c.args.below c.loop-step.invariant.known c.loop-step.invariant.within
          c.loop-step.invariant.answer;
      answer = sym (same_next rows c.loop-step.self.container c.loop-step.at c.in-Further.next c.loop-step.invariant.within c.in-Further.ensures.1) ∙ c.loop-step.invariant.answer;
    }
