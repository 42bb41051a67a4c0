-- One worker more was joined, and its door and its seat came back.
use Rattle.std.proofs.Common.{◌++◌, [], ◌∷◌, inl, refl, ap, sym, subst, ◌∙◌, append-nil, append_assoc, arith, rules, le_trans, length, length-append}
use Rattle.std.proofs.lemmas.List.Sums.{sum_by_push}
use denote.Param.Send.{sendable}
use Rattle.std.specs.Vec.Iter.{into_iter_items}
use Rattle.cds_outside.specs.Outside.{raised}
use Rattle.cds_outside.specs.Told.{DoorTold, OutsideTold}
use Rattle.cds_turn.specs.Turn.{IsSeatOf, own_by, passes_of}
use Rattle.cds_serve.proofs.Crews.{answers-more, one-pass}
use Rattle.cds_serve.proofs.Crossing.{worked-send, worker-send}
use Rattle.cds_serve.proofs.Lives.{all-from, doors-home, folder-more, gave-more, joined-more, no-folders, served-still}
use Rattle.cds_serve.proofs.crew.join_workers.Goals as goal

pub join-door-requires-send-J : goal.join-door-requires-send-J
join-door-requires-send-J g c κs within = search (worker-send, sendable) depth 20

pub join-door-requires-send-J-Out : goal.join-door-requires-send-J-Out
join-door-requires-send-J-Out g c κs within = search (worked-send, sendable) depth 20

pub join-requires : goal.join-requires
join-requires g c =
    let step = c.in-Some.ensures.steps in
    let worker = c.in-Some.worker in
    let next = into_iter_items c.next.new.self in
    let order = ap (λ l. c.joined.yielded ++ l) (sym step.0) ∙ c.joined.invariant.order in
    let hired = all-from _ _ c.joined.yielded next worker order c.requires.hired in
    (c.joined.invariant.seat, subst (λ t. IsSeatOf t c.join-door.result.seat) hired.0 c.join-door.ensures.0)

pub joined-init : goal.joined-init
joined-init g c = record {
  order = search rules;
  iterator = search rules;
  seat = c.requires.seat;
  passes = omega arith;
  own = ([], tt, sym (append-nil _));
  no_more = omega arith;
  all = inl refl;
  connections = λ n. omega arith;
  never_falls = omega arith;
  folders = no-folders 0 _ _ refl;
  others_stay = refl;
}

pub joined-preserved : goal.joined-preserved
joined-preserved g c =
    let step = c.in-Some.ensures.steps in
    let so = c.joined.invariant in
    let worker = c.in-Some.worker in
    let next = into_iter_items c.next.new.self in
    let order = ap (λ l. c.joined.yielded ++ l) (sym step.0) ∙ so.order in
    let fresh = all-from _ _ c.joined.yielded next worker order c.requires.fresh in
    let hired = all-from _ _ c.joined.yielded next worker order c.requires.hired in
    let theirs = c.join-door.result.seat in
    let one = one-pass (passes_of c.join.new.into) (passes_of c.joined.seat) (passes_of theirs) (passes_of worker.seat) c.join.ensures.passes c.join-door.ensures.1 hired.1 in
    let gave = c.join-door.ensures.3 in
    let back = c.end_door.ensures in
    let home = c.end_folder.ensures in
    let mid : OutsideTold = g.O.Outside.told c.end_folder.new.self in
    let new : OutsideTold = g.O.Outside.told c.end_door.new.self in
    let up = le_trans so.never_falls home.never_falls in
    let sums = sum_by_push (λ worker. worker.post.share) c.joined.yielded worker in
    record {
      order = append_assoc c.joined.yielded (worker ∷ []) next ∙ order;
      iterator = omega (arith, step.1, so.iterator, ap length step.0);
      seat = c.join.ensures.seat;
      passes = omega (arith, one, so.passes, length-append c.joined.yielded (worker ∷ []));
      own = answers-more _ _ (own_by theirs) _ (own_by worker.seat) so.own hired.2 c.join-door.ensures.2 c.join.ensures.own;
      no_more = omega (arith, so.no_more, gave.no_more, c.from-total.ensures, sums);
      all = rw c.from-total.ensures (joined-more c.joined.total c.join-door.result.served _ worker.post.share _ _ _ _ _ _ (served-still _ _ _ _ _ so.all home.never_falls) gave.all (ap (λ (t : DoorTold). t.faults) fresh) back.faults up back.never_falls sums);
      connections = rw c.from-total.ensures (gave-more _ _ _ c.joined.total c.join-door.result.served _ _ (λ n. ap (λ k. raised k n) (ap (λ (t : OutsideTold). t.connections) home.others_stay) ∙ so.connections n) (ap (λ (t : DoorTold). t.connections) fresh) gave.gave back.connections);
      never_falls = le_trans up back.never_falls;
      folders = folder-more _ _ _ _ _ _ (length-append c.joined.yielded (worker ∷ [])) so.folders (λ list told. ap (λ (t : OutsideTold). t.ended) back.others_stay ∙ home.ended list told);
      others_stay = back.others_stay
          ∙ ap (λ (t : OutsideTold). record t { faults = new.faults; connections = new.connections }) home.others_stay
          ∙ ap (λ (t : OutsideTold). record t { faults = new.faults; connections = new.connections; ended = mid.ended }) so.others_stay
          ∙ ap (λ e. doors-home (g.O.Outside.told c.args.outside.now) new e) (sym (ap (λ (t : OutsideTold). t.ended) back.others_stay));
    }
