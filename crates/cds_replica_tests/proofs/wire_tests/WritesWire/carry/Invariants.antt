-- The bytes so far are written, and the others still stand.
use Rattle.std.proofs.Common.{◌≡◌, ℕ, ◌++◌, map, take, drop, cond, nat_eq}
use Rattle.cds_replica_tests.proofs.wire_tests.WritesWire.carry.Given as goal

abbrev pub invariant-loop-byte : goal.invariant-loop-byte
invariant-loop-byte l =
    l.reply ≡ map (λ (byte : ℕ). cond (nat_eq byte l.self.old) l.self.new byte) (take l.byte-index l.initial.reply) ++ drop l.byte-index l.initial.reply
