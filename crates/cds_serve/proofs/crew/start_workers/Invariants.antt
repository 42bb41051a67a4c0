-- So far the workers before the one that the loop is at were started.
use Rattle.std.proofs.Common.{◌≡◌, ◌+◌, ◌≤◌, ◌++◌, ℕ, length, vec_capacity}
use Rattle.std.specs.Vec.Iter.{into_iter_items, into_iter_len}
use Rattle.cds_outside.specs.Outside.{raised}
use Rattle.cds_serve.proofs.crew.start_workers.Given as goal

abbrev pub invariant-jobs : goal.invariant-jobs
invariant-jobs g l = record {
  order : l.yielded ++ into_iter_items l.job-iterator ≡ l.fn.jobs.items;
  iterator : into_iter_len l.job-iterator ≡ length (into_iter_items l.job-iterator);
  running : l.running.items ≡ l.yielded;
  room : length l.fn.jobs.items ≤ vec_capacity l.running;
  started : (n : ℕ) → raised (g.W.Spawner.told l.spawner).started n ≡ raised (g.W.Spawner.told l.initial.spawner).started (length l.yielded + n);
  never_falls : (g.W.Spawner.told l.initial.spawner).faults ≤ (g.W.Spawner.told l.spawner).faults;
}
