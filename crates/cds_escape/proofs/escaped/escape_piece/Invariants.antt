use Rattle.std.proofs.Common.{◌≡◌, ◌≤◌, ◌*◌, take}
use Rattle.cds_base.specs.Escape.{escaped}
use Rattle.cds_escape.proofs.escaped.escape_piece.Given as goal

abbrev pub invariant-loop-byte : goal.invariant-loop-byte
invariant-loop-byte l = (take l.at l.buffer ≡ escaped (take l.byte-index l.piece)) × (l.at ≤ 6 * l.byte-index)
