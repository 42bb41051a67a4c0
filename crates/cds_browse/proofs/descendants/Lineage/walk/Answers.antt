use Rattle.std.proofs.Common.{◌≡◌, ◌+◌, ℕ, length, sym, ap, subst, ◌∙◌, arith}
use Rattle.cds_browse.specs.Lineage.{leads_from}
use Rattle.cds_browse.proofs.Lineage.{same_next, walked, begun, circle, far}
use Rattle.cds_browse.proofs.descendants.Lineage.walk.Goals.{then-since-most, else-since-most}
use Rattle.cds_browse.proofs.descendants.Lineage.walk.Goals as goal

pub returns-then-at-met : goal.returns-then-at-met
returns-then-at-met g c =
    let rows = g.V.View.rows c.args.view.now in
    let container = c.args.self.now.container in
    let next = c.in-Further.next in
    let on = walked rows container c.loop-step.met c.loop-step.since c.loop-step.at next c.loop-step.invariant.since c.in-Further.ensures.1 in
    let round : (m : ℕ) → leads_from (m + (c.loop-step.since + 1)) rows container next ≡ leads_from m rows container next =
    subst (λ n. (m : ℕ) → leads_from (m + (c.loop-step.since + 1)) rows container n ≡ leads_from m rows container next) (sym c.if-at-met.true) on in
    sym (c.loop-step.invariant.same ∙ same_next rows container c.loop-step.at next c.loop-step.invariant.within c.in-Further.ensures.1
    ∙ circle rows container next c.loop-step.since round (length rows))

pub loop-step-preserved : goal.loop-step-preserved
loop-step-preserved g c =
    let rows = g.V.View.rows c.args.view.now in
    let container = c.args.self.now.container in
    let next = c.in-Further.next in
    let on = walked rows container c.loop-step.met c.loop-step.since c.loop-step.at next c.loop-step.invariant.since c.in-Further.ensures.1 in
    record {
      within = c.in-Further.ensures.0;
      same = c.loop-step.invariant.same ∙ same_next rows container c.loop-step.at next c.loop-step.invariant.within c.in-Further.ensures.1;
      walked = walked rows container c.args.place c.loop-step._step c.loop-step.at next c.loop-step.invariant.walked c.in-Further.ensures.1;
      since = elim c.if-since-most.branch [
        | then-since-most w ↦ λ m.
            ap (λ n. leads_from (m + n) rows container c.if-since-most.met) w.since-is ∙ ap (λ n. leads_from (m + 0) rows container n) w.met-is ∙ begun rows container next m
        | else-since-most w ↦ λ m.
            ap (λ n. leads_from (m + n) rows container c.if-since-most.met) w.since-is ∙ ap (λ n. leads_from (m + (c.loop-step.since + 1)) rows container n) w.met-is ∙ on m
      ];
      few = elim c.if-since-most.branch [
        | then-since-most w ↦ omega (arith, w.since-is)
        | else-since-most w ↦ omega (arith, w.since-is, c.loop-step.invariant.few)
      ];
    }

pub returns : goal.returns
returns g c =
    sym (far (g.V.View.rows c.args.view.now) c.args.self.now.container c.args.place c.loop-step._step c.loop-step.at c.loop-step.invariant.walked
    (let e = c.len-step-end.ensures.exact in omega (arith, e, c.loop-step-test.false)))
