use Rattle.std.proofs.Common.{◌≡◌, ◌⊎◌, ◌+◌, ◌≤◌, ◌++◌, drop, length, string_bytes}
use Rattle.cds_replay.specs.Lines.{sent_lines}
use Rattle.cds_replay.proofs.report.put_notes.Given as goal

-- what is written, with the lines of the notes that are left, is all
abbrev pub invariant-loop-at : goal.invariant-loop-at
invariant-loop-at l = record {
  told : string_bytes l.out ++ sent_lines (l.at + 1) (drop l.at l.sent) ≡ string_bytes l.fn.out ++ sent_lines (l.from + 1) (drop l.from l.sent);
  within : (l.at ≡ l.from) ⊎ (l.at ≤ length l.sent);
}
