use Rattle.std.proofs.Common.{◌≡◌, ◌+◌, ◌≤◌, ◌*◌, take, length}
use Rattle.cds_base.specs.Escape.{escaped}
use Rattle.cds_escape.proofs.escaped.more_in.Given as goal

abbrev pub invariant-loop-byte : goal.invariant-loop-byte
invariant-loop-byte l = (l.byte-index + l.more ≡ length (escaped (take l.byte-index l.bytes))) × (l.more ≤ 5 * l.byte-index)
