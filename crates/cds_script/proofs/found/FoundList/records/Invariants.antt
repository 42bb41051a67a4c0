use Rattle.std.proofs.Common.{◌≡◌, map, take}
use Rattle.cds_script.specs.Report.{record_of}
use Rattle.cds_script.proofs.found.FoundList.records.Given as goal

abbrev pub invariant-loop-one : goal.invariant-loop-one
invariant-loop-one l = l.records ≡ map record_of (take l.one-index l.one-items)
