use Rattle.std.proofs.Common.{◌≡◌, take}
use Rattle.cds_memory.proofs.asking.traced.Given as goal

abbrev pub invariant-loop-byte : goal.invariant-loop-byte
invariant-loop-byte l = l.trace ≡ take l.byte-index l.bytes
