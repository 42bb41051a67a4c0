-- One worker more has its share, until there are four.
use Rattle.std.proofs.Common.{◌≡◌, [], ◌∷◌, ap, sym, subst, ◌∙◌, arith, length, length-append, refl, sum_by}
use Rattle.std.proofs.lemmas.List.Sums.{sum_by_push}
use Rattle.cds_outside.specs.Told.{unasked_door}
use Rattle.cds_serve.proofs.Lives.{all-first, all-more, all-shares, shares-next, shares_below}
use Rattle.cds_serve.proofs.crew.hire_workers.Goals as goal

pub workers-init : goal.workers-init
workers-init g c =
    let gives = c.into_iter-ends-iterator.ensures.into_iter_gives in
    let many = ap length gives.0 in
    record {
      seat = c.requires.seat;
      own = refl;
      passes = omega arith;
      count = ap length c.new-workers.ensures.items;
      left = omega (arith, many, c.requires.few);
      iterator = omega (arith, gives.1, c.args.all.ok.0, many);
      shares = rw c.new-workers.ensures.items refl;
      fresh = rw c.new-workers.ensures.items tt;
      others = rw gives.0 c.requires.fresh;
      hired = rw c.new-workers.ensures.items tt;
    }

pub workers-preserved : goal.workers-preserved
workers-preserved g c =
    let step = c.in-Some.ensures.steps in
    let so = c.workers.invariant in
    let shorter = ap length step.0 in
    let worker = c.in_ok-worker.worker in
    let longer = ap length c.in_ok-push.ensures.items ∙ length-append c.workers.workers.items (worker ∷ []) in
    let both = all-first _ _ _ _ step.0 so.others in
    let sums = ap (sum_by (λ worker. worker.post.share)) c.in_ok-push.ensures.items ∙ sum_by_push (λ worker. worker.post.share) c.workers.workers.items worker in
    record {
      seat = c.hire_worker.ensures.seat;
      own = c.hire_worker.ensures.own ∙ so.own;
      passes = omega (arith, c.in_ok-worker.ensures.passes, so.passes);
      count = omega (arith, longer, so.count);
      left = omega (arith, shorter, so.left);
      iterator = omega (arith, step.1, so.iterator, shorter);
      shares = omega (arith, sums, so.shares, c.in_ok-worker.ensures.share, shares-next c.args.requests c.workers.number);
      fresh = rw c.in_ok-push.ensures.items (all-more _ c.workers.workers.items worker so.fresh (subst (λ door. g.D.Door.told door ≡ unasked_door) (sym c.in_ok-worker.ensures.door) both.0));
      others = both.1;
      hired = rw c.in_ok-push.ensures.items (all-more _ c.workers.workers.items worker so.hired c.in_ok-worker.ensures.hired);
    }

pub returns-clause-workers : goal.returns-clause-workers
returns-clause-workers g c =
    let so = c.workers.invariant in
    let four : c.workers.number ≡ 4 = omega (arith, so.left, so.iterator, c.in-None.ensures.steps.0) in
    so.shares ∙ ap (shares_below c.args.requests) four ∙ all-shares c.args.requests
