-- Laws of what a store shows.
use Rattle.cds_catalog.specs.History.{History}
use Rattle.cds_store.specs.Rows.{rows_of}
use Rattle.cds_store.specs.Stands.{Stored, StandsFor}
use Rattle.cds_store.specs.Views.{ShowsHistory}

-- a store shows the catalog of the history that it stands for
abbrev pub stores_show_their_catalogs : Type 0
stores_show_their_catalogs =
    (store : Stored) (history : History) → StandsFor store history → ShowsHistory store.standing.number (rows_of store.standing.rows) history
