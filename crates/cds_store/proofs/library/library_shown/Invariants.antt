use Rattle.std.proofs.Common.{◌≡◌, [], drop}
use Rattle.cds_store.specs.Lent.{shown}
use Rattle.cds_store.specs.Rows.{put_places}
use Rattle.cds_store.proofs.library.library_shown.Given as goal

abbrev pub invariant-loop-placed : goal.invariant-loop-placed
invariant-loop-placed l = put_places (shown l.library.entries) (drop l.placed-index l.rows) ≡ put_places [] l.rows
