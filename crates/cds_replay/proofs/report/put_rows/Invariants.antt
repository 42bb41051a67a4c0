use Rattle.std.proofs.Common.{◌≡◌, ◌++◌, take, string_bytes}
use Rattle.cds_object.specs.Fragment.{full_text}
use Rattle.cds_replay.specs.Lines.{known_rows}
use Rattle.cds_replay.proofs.report.put_rows.Given as goal

-- the rows so far are written
abbrev pub invariant-loop-kept : goal.invariant-loop-kept
invariant-loop-kept l = string_bytes l.out ≡ string_bytes l.initial.out ++ full_text (known_rows (take l.kept-index l.rows))
