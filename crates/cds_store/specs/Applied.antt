-- What a scan does to a store.
use Rattle.std.specs.Prelude.{◌≡◌, List, reverse, Result, Ok, Err}
use Rattle.cds_object.specs.declared.record.Record.{Record}
use Rattle.cds_catalog.specs.Library.{map_of, found}
use Rattle.cds_catalog.specs.History.{History, latest, end_of, with_scan}
use Rattle.cds_catalog.specs.Scans.{Accepted, BadRecord, TooMany, NoNumbers, scan_answer}
use Rattle.cds_catalog.specs.declared.change.Change.{Change}
use Rattle.cds_store.specs.Stands.{Stored, StandsFor}
use Rattle.cds_store.specs.declared.error.ApplyError.{ApplyError}
use Rattle.cds_store.specs.declared.error.ApplyError.TheVariants.{BadRecords, Full, Spent, Mem}
use Rattle.cds_store.specs.declared.span.Span.{Span}

-- whether a refusal is the answer that is due to a scan; memory may run out in place of any answer
abbrev pub IsRefusal : History → List Record → ApplyError → Type 0
IsRefusal history records (BadRecords line) = scan_answer history records ≡ BadRecord line
IsRefusal history records (Full objects) = scan_answer history records ≡ TooMany objects
IsRefusal history records (Spent needed) = scan_answer history records ≡ NoNumbers needed
IsRefusal history records Mem = Unit {0}

-- what a store is after a scan of records, if it stood for a history before: it stands for the history with the folder
-- map of the scan, the span is that of the changes of the scan, and nothing more is forgotten; or the scan is refused
-- and the store stays as it was
abbrev pub Applied : History → List Record → Result Span ApplyError → Stored → Stored → Type 0
Applied history records (Ok span) before now =
    (scan_answer history records ≡ Accepted)
    × StandsFor now (with_scan history (map_of records))
    × (span ≡ record { from = end_of history; to = end_of (with_scan history (map_of records)) })
    × (now.forgotten ≡ before.forgotten)
Applied history records (Err refusal) before now = IsRefusal history records refusal × (now ≡ before)

-- whether a scan is accepted, and makes exactly these changes, the oldest first
abbrev pub IsPlan : History → List Record → List Change → Type 0
IsPlan history records changes =
    (scan_answer history records ≡ Accepted) × (reverse changes ≡ found (latest history.maps) (map_of records))
