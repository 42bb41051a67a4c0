use Rattle.std.proofs.Common.{◌≡◌, ◌++◌, take}
use Rattle.cds_object.specs.Fragment.{full_text}
use Rattle.cds_store.specs.Rows.{rows_of}
use Rattle.cds_subcommands.proofs.scanning.put_rows.Given as goal

-- the rows so far are written
abbrev pub invariant-loop-at : goal.invariant-loop-at
invariant-loop-at l = l.out.items ≡ l.initial.out.items ++ full_text (take l.at (rows_of l.store.standing.rows))
