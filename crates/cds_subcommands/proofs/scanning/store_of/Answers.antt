use Rattle.cds_store.specs.Stands.{no_scans}
use Rattle.cds_subcommands.proofs.Scanned.{rows-of-one}
use Rattle.cds_subcommands.proofs.scanning.store_of.Goals as goal

pub returns-in-Ok : goal.returns-in-Ok
returns-in-Ok c = rows-of-one c.args.records.now c.in-Ok.field-0 c.in_ok-store.store c.apply.new.self (c.in-Ok.ensures (no_scans 0) c.in_ok-store.ensures.stands)
