-- All jobs are started, and joined.
use Rattle.std.proofs.Common.{◌≡◌, ◌+◌, Err, ap, refl, sym, subst, not, ◌∙◌, length, sum_by, true≢false, arith}
use denote.Param.Send.{sendable}
use Rattle.std.specs.Arc.{arc_value}
use Rattle.std.specs.List.{AllByRecursion}
use Rattle.cds_outside.specs.Outside.{raised}
use Rattle.cds_server.specs.Serving.{StandsFor}
use Rattle.cds_turn.specs.Turn.{own_by, passes_of, seats_of, seen_by, start_of}
use Rattle.cds_serve.specs.Jobs.{FollowScans, IsHired}
use Rattle.cds_serve.proofs.Crews.{all-given, all-passes, some-of, some-then}
use Rattle.cds_serve.proofs.Crossing.{notified-send, notifier-send, scanned-send, scanner-send, worked-send, worker-send}
use Rattle.cds_serve.proofs.Lives.{all-front, crew-cause, front-few, front-sum, more-folders, none-then, served-cut, six-jobs, some-as}
use Rattle.cds_serve.proofs.crew.run_crew.Goals as goal

pub start_crew-workers-requires-send-W : goal.start_crew-workers-requires-send-W
start_crew-workers-requires-send-W g c κs within = search (worker-send, sendable) depth 20

pub start_crew-workers-requires-send-S : goal.start_crew-workers-requires-send-S
start_crew-workers-requires-send-S g c κs within = search (scanner-send, sendable) depth 20

pub start_crew-workers-requires-send-N : goal.start_crew-workers-requires-send-N
start_crew-workers-requires-send-N g c κs within = search (notifier-send, sendable) depth 20

pub start_crew-workers-requires-send-W-Out : goal.start_crew-workers-requires-send-W-Out
start_crew-workers-requires-send-W-Out g c κs within = search (worked-send, sendable) depth 20

pub start_crew-workers-requires-send-S-Out : goal.start_crew-workers-requires-send-S-Out
start_crew-workers-requires-send-S-Out g c κs within = search (scanned-send, sendable) depth 20

pub start_crew-workers-requires-send-N-Out : goal.start_crew-workers-requires-send-N-Out
start_crew-workers-requires-send-N-Out g c κs within = search (notified-send, sendable) depth 20

pub join_workers-served-requires-clause-fresh : goal.join_workers-served-requires-clause-fresh
join_workers-served-requires-clause-fresh g c κs within =
    let some = c.start_crew-workers.ensures.some in
    rw some.1 (all-front _ some.0 c.args.crew.workers.items c.requires.fresh)

pub join_workers-served-requires-clause-hired : goal.join_workers-served-requires-clause-hired
join_workers-served-requires-clause-hired g c κs within =
    let some = c.start_crew-workers.ensures.some in
    let here = subst (λ turn. AllByRecursion (λ worker. IsHired turn (arc_value worker.turn) worker.seat) c.args.crew.workers.items) (sym c.deref-shared.ensures) c.args.crew.workers_own in
    rw some.1 (all-front _ some.0 c.args.crew.workers.items here)

pub join_workers-served-requires-clause-few : goal.join_workers-served-requires-clause-few
join_workers-served-requires-clause-few g c κs within =
    let some = c.start_crew-workers.ensures.some in
    let least = front-sum (λ worker. worker.post.share) some.0 c.args.crew.workers.items in
    rw some.1 (omega (arith, least, c.args.crew.served.0, c.args.crew.served.1))

pub join_scanner-scanned-requires-clause-hired : goal.join_scanner-scanned-requires-clause-hired
join_scanner-scanned-requires-clause-hired g c κs within =
    some-as c.start_crew-workers.result.scanner c.args.crew.scanner (λ scanner. IsHired c.deref-shared.result.now (arc_value scanner.turn) scanner.seat) c.start_crew-workers.ensures.scanner
    (c.args.crew.scanner_own.0 ∙ sym c.deref-shared.ensures, c.args.crew.scanner_own.1, c.args.crew.scanner_own.2)

pub join_notifier-requires-clause-hired : goal.join_notifier-requires-clause-hired
join_notifier-requires-clause-hired g c κs within =
    some-as c.start_crew-workers.result.notifier c.args.crew.notifier (λ notifier. IsHired c.deref-shared.result.now (arc_value notifier.turn) notifier.seat) c.start_crew-workers.ensures.notifier
    (c.args.crew.notifier_own.0 ∙ sym c.deref-shared.ensures, c.args.crew.notifier_own.1, c.args.crew.notifier_own.2)

pub returns-in-Ok-clause-connections : goal.returns-in-Ok-clause-connections
returns-in-Ok-clause-connections g c = λ n.
    c.join_workers-served.ensures.connections n ∙ ap (λ k. raised (g.O.Outside.told c.args.outside.now).connections (k + n)) c.in-Ok.ensures.ok.2

pub returns-in-Ok-clause-started : goal.returns-in-Ok-clause-started
returns-in-Ok-clause-started g c = λ n.
    c.start_crew-workers.ensures.started (sym c.is_some-started.ensures ∙ c.in-Ok.ensures.ok.1) n
    ∙ ap (raised (g.O.W.Spawner.told c.args.spawner.now).started) (six-jobs _ n (c.args.crew.workers.ok.0 ∙ c.args.crew.few))

pub returns-in-Ok-clause-seen : goal.returns-in-Ok-clause-seen
returns-in-Ok-clause-seen g c =
    let ok = c.in-Ok.ensures.ok in
    let counts = c.in-Ok.counts in
    let there = sym c.is_some-started.ensures ∙ ok.1 in
    let notifier = c.start_crew-workers.result.notifier in
    let s0 = c.args.crew.seat in
    let s1 = c.stop_if.new.seat in
    let s2 = c.join_workers-served.new.seat in
    let s3 = c.stop_if-2.new.seat in
    let s4 = c.join_scanner-scanned.new.seat in
    let s5 = c.join_notifier.new.seat in
    let s6 = c.look_last.new.seat in
    let last = c.args.crew.last in
    let shared = c.deref-shared.result.now in
    let four = some-of c.join_scanner-scanned.result counts (λ counts. FollowScans counts.accepted (own_by s3) (own_by s4)) ok.0 c.join_scanner-scanned.ensures.own in
    let four_passes = some-of c.join_scanner-scanned.result counts (λ _. passes_of s4 ≡ passes_of s3 + 1) ok.0 c.join_scanner-scanned.ensures.passes in
    let five = some-then notifier _ there c.join_notifier.ensures.own in
    let five_passes = some-then notifier (passes_of s5 ≡ passes_of s4 + 1) there c.join_notifier.ensures.passes in
    let workers = ap length (c.start_crew-workers.ensures.all there).0 ∙ c.args.crew.few in
    let seats : seats_of shared ≡ 7 = ap seats_of c.deref-shared.ensures ∙ last.2 in
    let alone : passes_of s5 ≡ seats_of shared =
    all-passes (passes_of s0) (passes_of s1) (passes_of s2) (passes_of s3) (passes_of s4) (passes_of s5) (passes_of s5) (length c.start_crew-workers.result.workers.items) (seats_of shared)
    last.0 c.stop_if.ensures.passes c.join_workers-served.ensures.passes workers c.stop_if-2.ensures.passes four_passes five_passes refl seats in
    record {
      alone = c.look_last.ensures.passes ∙ alone ∙ ap seats_of c.deref-shared.ensures;
      serving = c.look_last.ensures.stands.0;
      stands = subst (λ turn. StandsFor c.look_last.ensures.stands.0 (start_of turn s0) (seen_by s6)) c.deref-shared.ensures c.look_last.ensures.stands.1;
      given = all-given counts.accepted (own_by s0) (own_by s1) (own_by s2) (own_by s3) (own_by s4) (own_by s5) (own_by s6) (seen_by s6)
          last.1 (c.stop_if.ensures.unwanted (ap not ok.1)) c.join_workers-served.ensures.own (c.stop_if-2.ensures.wanted ok.1) four five
          c.look_last.ensures.own (c.look_last.ensures.counted alone);
    }

pub returns-in-Err-clause-cause : goal.returns-in-Err-clause-cause
returns-in-Err-clause-cause g c =
    crew-cause c.is_some-started.result c.join_workers-served.result c.args.crew.requests c.join_scanner-scanned.result _ _
    (λ off. none-then c.start_crew-workers.result.notifier _ (sym c.is_some-started.ensures ∙ off) c.start_crew-workers.ensures.rose)
    (λ started few. served-cut _ _ _ _ c.join_workers-served.ensures.all
    (ap (sum_by (λ worker. worker.post.share)) (c.start_crew-workers.ensures.all (sym c.is_some-started.ensures ∙ started)).0 ∙ c.args.crew.served.0) few)
    (λ started none. true≢false (sym (c.start_crew-workers.ensures.all (sym c.is_some-started.ensures ∙ started)).1
    ∙ sym c.join_scanner-scanned.ensures.started ∙ none))
    (Err c.in-Err.fault) c.in-Err.ensures.err

pub returns-in-Ok-clause-folders : goal.returns-in-Ok-clause-folders
returns-in-Ok-clause-folders g c =
    let some = c.start_crew-workers.ensures.some in
    more-folders _ 4 _ _ (front-few _ some.0 c.start_crew-workers.result.workers.items some.1 c.args.crew.few) c.join_workers-served.ensures.folders

pub returns-in-Err-clause-folders : goal.returns-in-Err-clause-folders
returns-in-Err-clause-folders g c =
    let some = c.start_crew-workers.ensures.some in
    more-folders _ 4 _ _ (front-few _ some.0 c.start_crew-workers.result.workers.items some.1 c.args.crew.few) c.join_workers-served.ensures.folders
