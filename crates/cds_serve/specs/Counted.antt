-- The counts of a scanner after a scan that was refused.
use Rattle.cds_outside.specs.Outside.{raised}
use Rattle.cds_serve.specs.declared.scanner.Counts.{Counts}
use Rattle.cds_serve.specs.declared.scanning.ScanRefused.{ScanRefused}
use Rattle.cds_serve.specs.declared.scanning.ScanRefused.TheVariants as refused

-- A scan refused because memory ran out raises `memory`. Every other refusal raises `refused`.
abbrev pub counted : Counts → ScanRefused → Counts
counted counts (refused.Scan error) = record counts { refused = raised counts.refused 1 }
counted counts (refused.Apply error) = record counts { refused = raised counts.refused 1 }
counted counts refused.Keeper = record counts { refused = raised counts.refused 1 }
counted counts refused.Mem = record counts { memory = raised counts.memory 1 }
