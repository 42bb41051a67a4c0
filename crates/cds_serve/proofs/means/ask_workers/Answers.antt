-- One worker more, until there are four.
use Rattle.std.proofs.Common.{[], ◌∷◌, ◌≡◌, ◌==◌, ◌-◌, length, Ok, Err, inr, ap, sym, subst, ◌∙◌, arith, length-append}
use Rattle.cds_outside.specs.Told.{DoorTold, OutsideTold}
use Rattle.cds_serve.specs.Life.{AreFirstWords, worker_asks}
use Rattle.cds_serve.proofs.Lives.{all-more, first-more, first-there, first-words, takes-as, takes-exit, takes-next, takes-no-memory, takes-none, takes-ok, takes-then, worker-next}
use Rattle.cds_serve.proofs.means.ask_workers.Goals as goal

pub returns-in_err-all-clause-takes : goal.returns-in_err-all-clause-takes
returns-in_err-all-clause-takes g c =
    let old : OutsideTold = g.O.Outside.told c.args.outside.now in
    let door : DoorTold = g.O.D.Door.told c.args.door.now in
    takes-no-memory c.from_residual.result tt [] (worker_asks c.args.path.now 4) old old door door c.from_residual.ensures.1 (takes-none old door)

pub returns-in_err-ends-clause-takes : goal.returns-in_err-ends-clause-takes
returns-in_err-ends-clause-takes g c =
    let old : OutsideTold = g.O.Outside.told c.args.outside.now in
    let mid : OutsideTold = g.O.Outside.told c.workers.outside in
    let new : OutsideTold = g.O.Outside.told c.ask_ends.new.outside in
    let door : DoorTold = g.O.D.Door.told c.args.door.now in
    let between : DoorTold = g.O.D.Door.told c.workers.door in
    let after : DoorTold = g.O.D.Door.told c.ask_ends.new.door in
    let k = length c.workers.all.items in
    let e = c.in_err-ends.field-0.0 in
    takes-as c.from_residual-in_err-ends.result _ _ old new door after (worker-next c.args.path.now k (omega (arith, c.workers-test.true)))
    (takes-exit c.from_residual-in_err-ends.result e _ (worker_asks c.args.path.now (3 - k)) old new door after c.from_residual-in_err-ends.ensures.1
    (takes-then (Err e) tt (worker_asks c.args.path.now k) (worker_asks c.args.path.now 1) old mid new door between after c.workers.invariant.takes c.in_err-ends.ensures.takes))

pub returns-in_err-push-clause-takes : goal.returns-in_err-push-clause-takes
returns-in_err-push-clause-takes g c =
    let old : OutsideTold = g.O.Outside.told c.args.outside.now in
    let mid : OutsideTold = g.O.Outside.told c.workers.outside in
    let new : OutsideTold = g.O.Outside.told c.ask_ends.new.outside in
    let door : DoorTold = g.O.D.Door.told c.args.door.now in
    let between : DoorTold = g.O.D.Door.told c.workers.door in
    let after : DoorTold = g.O.D.Door.told c.ask_ends.new.door in
    let k = length c.workers.all.items in
    takes-as c.from_residual-in_err-push.result _ _ old new door after (worker-next c.args.path.now k (omega (arith, c.workers-test.true)))
    (takes-no-memory c.from_residual-in_err-push.result c.in_ok-ends.ends _ (worker_asks c.args.path.now (3 - k)) old new door after c.from_residual-in_err-push.ensures.1
    (takes-then (Ok c.in_ok-ends.ends) tt (worker_asks c.args.path.now k) (worker_asks c.args.path.now 1) old mid new door between after c.workers.invariant.takes c.in_ok-ends.ensures.takes))

pub workers-preserved : goal.workers-preserved
workers-preserved g c =
    let old : OutsideTold = g.O.Outside.told c.args.outside.now in
    let mid : OutsideTold = g.O.Outside.told c.workers.outside in
    let new : OutsideTold = g.O.Outside.told c.ask_ends.new.outside in
    let door : DoorTold = g.O.D.Door.told c.args.door.now in
    let between : DoorTold = g.O.D.Door.told c.workers.door in
    let after : DoorTold = g.O.D.Door.told c.ask_ends.new.door in
    let k = length c.workers.all.items in
    let longer = ap length c.in_ok-push.ensures.items ∙ length-append c.workers.all.items (c.with_boot-first.result ∷ []) in
    record {
      few = omega (arith, longer, c.workers-test.true);
      takes = takes-next c.args.path.now k (length c.push.new.self.items) c.in_ok-ends.ends old mid new door between after longer c.workers.invariant.takes c.in_ok-ends.ensures.takes;
      fresh = rw c.in_ok-push.ensures.items (all-more _ c.workers.all.items c.with_boot-first.result c.workers.invariant.fresh
          (rw c.with_boot-first.ensures.door c.in_ok-ends.ensures.fresh));
      boot = inr (rw c.in_ok-push.ensures.items (first-more _ _ c.workers.all.items c.with_boot-first.result c.is_empty.result (c.is_empty.ensures ∙ ap (λ n. n == 0) c.workers.all.ok.0) c.workers.invariant.boot
          (λ yes. first-words c.args.port (g.O.C.Clock.told c.in_ok-ends.ends.clock) (g.O.C.Clock.told c.with_boot-first.result.clock) _
          c.in_ok-ends.ensures.fresh_clock (c.with_boot-first.ensures.first yes))
          (λ no ends so. subst (λ b. AreFirstWords c.args.port (g.O.C.Clock.told ends.clock) b)
          (sym (c.with_boot-first.ensures.others no)) so)));
    }

pub returns-clause-takes : goal.returns-clause-takes
returns-clause-takes g c =
    let old : OutsideTold = g.O.Outside.told c.args.outside.now in
    let new : OutsideTold = g.O.Outside.told c.workers.outside in
    let door : DoorTold = g.O.D.Door.told c.args.door.now in
    let after : DoorTold = g.O.D.Door.told c.workers.door in
    let four : length c.workers.all.items ≡ 4 = omega (arith, c.workers.invariant.few, c.workers-test.false) in
    takes-as (Ok c.workers.all) _ _ old new door after (ap (worker_asks c.args.path.now) four) (takes-ok tt c.workers.all _ old new door after c.workers.invariant.takes)

pub returns-clause-boot : goal.returns-clause-boot
returns-clause-boot g c =
    let four : length c.workers.all.items ≡ 4 = omega (arith, c.workers.invariant.few, c.workers-test.false) in
    first-there _ c.workers.all.items 4 four (omega arith) c.workers.invariant.boot
