-- One more byte is written.
use Rattle.std.proofs.Common.{◌<◌, ℕ, cond, nat_eq, length, get_or, ap, ◌∙◌, arith}
use Rattle.std.proofs.Math.ListN.{set}
use Rattle.std.proofs.lemmas.List.{get_or_default}
use Rattle.std.proofs.lemmas.List.Edits.{map_over_more}
use Rattle.cds_replica_tests.proofs.wire_tests.WritesWire.carry.Goals as goal

pub loop-byte-preserved : goal.loop-byte-preserved
loop-byte-preserved c =
    let bytes = c.loop-byte.reply in
    let at = c.loop-byte.byte-index in
    let within : at < length c.args.reply.now = omega arith in
    let inside : at < length bytes = omega arith in
    ap (set bytes at) c.written.ensures
    ∙ map_over_more (λ (byte : ℕ). cond (nat_eq byte c.args.self.now.old) c.args.self.now.new byte) c.args.reply.now bytes at (get_or bytes at 0) within c.loop-byte.invariant
    (get_or_default bytes at 0 (get_or bytes at 0) inside)
