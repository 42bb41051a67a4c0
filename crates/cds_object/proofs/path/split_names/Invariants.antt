-- The names so far are copies of the parts so far.
use Rattle.std.proofs.Common.{◌≡◌, map}
use Rattle.cds_object.proofs.path.split_names.Given as goal

abbrev pub invariant-loop-name : goal.invariant-loop-name
invariant-loop-name l = l.names ≡ map (λ x. x.now) l.yielded
