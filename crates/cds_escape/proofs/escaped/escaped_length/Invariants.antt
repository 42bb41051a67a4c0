-- What is left to add is what the rest has more when it is escaped.
use Rattle.std.proofs.Common.{◌≡◌, ◌+◌, ◌≤◌, ◌*◌, length}
use Rattle.cds_base.specs.Escape.{escaped}
use Rattle.cds_escape.proofs.escaped.escaped_length.Given as goal

abbrev pub invariant-loop-front : goal.invariant-loop-front
invariant-loop-front l =
    (l.more + length l.text + length (escaped l.rest) ≡ length (escaped l.text) + length l.rest) × (l.more + 5 * length l.rest ≤ 5 * length l.text)

abbrev pub decreases-loop-front : goal.decreases-loop-front
decreases-loop-front l = length l.rest
