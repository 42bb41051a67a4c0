-- So far the workers that were joined served these connections, and their seats came back.
use Rattle.std.proofs.Common.{◌≡◌, ◌⊎◌, ◌+◌, ◌≤◌, ◌++◌, ℕ, length, sum_by}
use Rattle.std.specs.Vec.Iter.{into_iter_items, into_iter_len}
use Rattle.cds_outside.specs.Outside.{Rose, raised}
use Rattle.cds_turn.specs.Turn.{IsSeatOf, own_by, passes_of}
use Rattle.cds_serve.specs.Jobs.{FollowAnswers}
use Rattle.cds_serve.specs.Life.{FoldersBack, doors_back}
use Rattle.cds_serve.proofs.crew.join_workers.Given as goal

abbrev pub invariant-joined : goal.invariant-joined
invariant-joined g l = record {
  order : l.yielded ++ into_iter_items l.worker-iterator ≡ l.fn.running.items;
  iterator : into_iter_len l.worker-iterator ≡ length (into_iter_items l.worker-iterator);
  seat : IsSeatOf l.turn l.seat;
  passes : passes_of l.seat ≡ passes_of l.initial.seat + length l.yielded;
  own : FollowAnswers (own_by l.initial.seat) (own_by l.seat);
  no_more : l.total ≤ sum_by (λ worker. worker.post.share) l.yielded;
  all : (l.total ≡ sum_by (λ worker. worker.post.share) l.yielded) ⊎ Rose (g.O.Outside.told l.initial.outside).faults (g.O.Outside.told l.outside).faults;
  connections : (n : ℕ) → raised (g.O.Outside.told l.outside).connections n ≡ raised (g.O.Outside.told l.initial.outside).connections (l.total + n);
  never_falls : (g.O.Outside.told l.initial.outside).faults ≤ (g.O.Outside.told l.outside).faults;
  folders : FoldersBack (length l.yielded) (g.O.Outside.told l.initial.outside).ended (g.O.Outside.told l.outside).ended;
  others_stay : g.O.Outside.told l.outside ≡ doors_back (g.O.Outside.told l.initial.outside) (g.O.Outside.told l.outside);
}
