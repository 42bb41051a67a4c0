-- The scans so far were taken.
use Rattle.std.proofs.Common.{take}
use Rattle.cds_catalog.specs.History.{History}
use Rattle.cds_store.specs.Stands.{StandsFor}
use Rattle.cds_browse.proofs.Running.{Taken}
use Rattle.cds_browse.proofs.runs.take_all.Given as goal

abbrev pub invariant-loop-records : goal.invariant-loop-records
invariant-loop-records g l = (history : History) → StandsFor (g.K.Keeping.stored l.initial.keeping) history → Taken history (take l.records-index l.scans) (g.K.Keeping.stored l.keeping)
