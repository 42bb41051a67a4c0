use Rattle.std.proofs.Common.{◌≡◌, ◌++◌}
use Rattle.cds_scan.specs.Found.{placed}
use Rattle.cds_scan.proofs.found.listed_records.Given as goal

abbrev pub invariant-loop-path : goal.invariant-loop-path
invariant-loop-path l = placed l.records ++ l.path-iterator ≡ l.initial.path-iterator
