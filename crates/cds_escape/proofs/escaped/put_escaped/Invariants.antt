-- What was appended and the rest, escaped, are the whole.
use Rattle.std.proofs.Common.{◌≡◌, ◌++◌, ◌≤◌, length, vec_capacity}
use Rattle.cds_base.specs.Escape.{escaped}
use Rattle.cds_escape.proofs.escaped.put_escaped.Given as goal

abbrev pub invariant-loop-piece : goal.invariant-loop-piece
invariant-loop-piece l =
    (l.out.items ++ escaped l.rest ≡ l.fn.out.items ++ escaped l.text) × (vec_capacity l.fn.out ≤ vec_capacity l.out)

abbrev pub decreases-loop-piece : goal.decreases-loop-piece
decreases-loop-piece l = length l.rest
