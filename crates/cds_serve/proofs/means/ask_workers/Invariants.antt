-- So far so many workers have all that they take.
use Rattle.std.proofs.Common.{◌≡◌, ◌⊎◌, ◌≤◌, ◌-◌, [], length, Ok}
use Rattle.std.specs.List.{AllByRecursion}
use Rattle.std.specs.Prelude.{⊤}
use Rattle.cds_outside.specs.Told.{unasked_door}
use Rattle.cds_serve.specs.Life.{AreFirstWords, OfFirst, Takes, worker_asks}
use Rattle.cds_serve.proofs.means.ask_workers.Given as goal

abbrev pub invariant-workers : goal.invariant-workers
invariant-workers g l = record {
  few : length l.all.items ≤ 4;
  takes : Takes {A = ⊤} (Ok tt) (worker_asks l.path (length l.all.items))
      (g.O.Outside.told l.initial.outside)
      (g.O.Outside.told l.outside)
      (g.O.D.Door.told l.initial.door)
      (g.O.D.Door.told l.door);
  fresh : AllByRecursion (λ ends. g.O.D.Door.told ends.door ≡ unasked_door) l.all.items;
  boot : (l.all.items ≡ []) ⊎ OfFirst (λ ends. AreFirstWords l.port (g.O.C.Clock.told ends.clock) l.boot) l.all.items;
}

abbrev pub decreases-workers : goal.decreases-workers
decreases-workers g l = 4 - length l.all.items
