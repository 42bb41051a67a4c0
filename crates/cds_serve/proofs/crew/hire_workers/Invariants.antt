-- So far so many workers have their shares and seats of one turn.
use Rattle.std.proofs.Common.{◌≡◌, ◌+◌, length, sum_by}
use Rattle.std.specs.Arc.{arc_value}
use Rattle.std.specs.List.{AllByRecursion}
use Rattle.std.specs.Vec.Iter.{into_iter_items, into_iter_len}
use Rattle.cds_outside.specs.Told.{unasked_door}
use Rattle.cds_turn.specs.Turn.{IsSeatOf, own_by, passes_of}
use Rattle.cds_serve.specs.Jobs.{IsHired}
use Rattle.cds_serve.proofs.Lives.{shares_below}
use Rattle.cds_serve.proofs.crew.hire_workers.Given as goal

abbrev pub invariant-workers : goal.invariant-workers
invariant-workers g l = record {
  seat : IsSeatOf (arc_value l.ground.turn.now) l.seat;
  own : own_by l.seat ≡ own_by l.initial.seat;
  passes : passes_of l.seat + l.number ≡ passes_of l.initial.seat;
  count : length l.workers.items ≡ l.number;
  left : l.number + length (into_iter_items l.ends-iterator) ≡ 4;
  iterator : into_iter_len l.ends-iterator ≡ length (into_iter_items l.ends-iterator);
  shares : sum_by (λ worker. worker.post.share) l.workers.items ≡ shares_below l.requests l.number;
  fresh : AllByRecursion (λ worker. g.D.Door.told worker.post.door ≡ unasked_door) l.workers.items;
  others : AllByRecursion (λ ends. g.D.Door.told ends.door ≡ unasked_door) (into_iter_items l.ends-iterator);
  hired : AllByRecursion (λ worker. IsHired (arc_value l.ground.turn.now) (arc_value worker.turn) worker.seat) l.workers.items;
}
