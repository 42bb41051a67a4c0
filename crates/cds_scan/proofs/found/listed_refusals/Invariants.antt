use Rattle.std.proofs.Common.{◌≡◌, ◌++◌}
use Rattle.cds_scan.specs.Found.{paired}
use Rattle.cds_scan.proofs.found.listed_refusals.Given as goal

abbrev pub invariant-loop-path : goal.invariant-loop-path
invariant-loop-path l = paired l.files ++ l.path-iterator ≡ l.initial.path-iterator
