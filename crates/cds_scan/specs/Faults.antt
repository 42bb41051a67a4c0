-- What a scan answers to a fault of its folder.
use Rattle.cds_outside.specs.declared.folder.FolderFault.{FolderFault as Fault}
use Rattle.cds_outside.specs.declared.folder.FolderFault.TheVariants.{Failed, Mem as NoMemory}
use Rattle.cds_scan.specs.declared.error.ScanError.{ScanError}
use Rattle.cds_scan.specs.declared.error.ScanError.TheVariants.{FolderFault, Mem}

abbrev pub scan_fault : Fault → ScanError
scan_fault Failed = FolderFault
scan_fault NoMemory = Mem
