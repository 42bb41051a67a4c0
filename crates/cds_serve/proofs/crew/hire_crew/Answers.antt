-- Each job has a new seat of the one turn, and one is left.
use Rattle.std.proofs.Common.{ap, ◌∙◌, arith, length}
use Rattle.cds_serve.proofs.Crews.{opened-at}
use Rattle.cds_serve.proofs.crew.hire_crew.Goals as goal

pub invariant_of-result : goal.invariant_of-result
invariant_of-result g c = record {
  own = c.hire_notifier.ensures.seat;
  last = (
    omega (arith, c.in_ok-turn.ensures.seats.0, c.in_ok-workers.ensures.passes, c.in_ok-scanner.ensures.passes, c.in_ok-notifier.ensures.passes),
    ap length (c.hire_notifier.ensures.own ∙ c.hire_scanner.ensures.own ∙ c.hire_workers.ensures.own) ∙ c.in_ok-turn.ensures.none,
    c.in_ok-turn.ensures.seats.1,
  );
  few = c.in_ok-workers.ensures.few;
  served = (c.in_ok-workers.ensures.workers, omega (arith, c.ranges.requests));
  workers_own = c.in_ok-workers.ensures.hired;
  scanner_own = c.in_ok-scanner.ensures.hired;
  notifier_own = c.in_ok-notifier.ensures.hired;
}

pub returns-clause-opened : goal.returns-clause-opened
returns-clause-opened g c =
    opened-at c.args.port c.args.means.boot (λ ends. g.T.Clock.told ends.clock) c.args.means.workers.items _ c.requires.boot c.in_ok-turn.ensures.start
