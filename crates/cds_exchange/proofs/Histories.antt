-- What a server has after scans of plain records is plain.
use Rattle.std.proofs.Common.{ℕ, List, [], ◌∷◌}
use Rattle.std.specs.List.{AllByRecursion}
use Rattle.cds_object.specs.Object.{ObjectRow}
use Rattle.cds_catalog.specs.Catalog.{catalog}
use Rattle.cds_catalog.proofs.StepsTree.{catalogs_are_trees-proof}
use Rattle.cds_didl.specs.Plain.{IsPlain, history_of}
use Rattle.cds_didl.specs.ReadBack.{IsWritable}
use Rattle.cds_didl.proofs.Plain.{rows-are-plain}
use Rattle.cds_didl.proofs.CatalogBack.{libraries, catalog-writable}
use Rattle.cds_exchange.specs.Honest.{IsPlainRow}
use Rattle.cds_exchange.specs.Laws.{HistoriesArePlain}

plain-rows : (rows : List ObjectRow) → AllByRecursion IsWritable rows → AllByRecursion (λ row. IsPlain row.content) rows → AllByRecursion IsPlainRow rows
plain-rows [] writable plain = tt
plain-rows (row ∷ rows) writable plain = (record { ranges = writable.0.ranges; texts = plain.0.texts }, plain-rows rows writable.1 plain.1)

pub histories-are-plain : HistoriesArePlain
histories-are-plain token first scans text plain accepted number =
    let history = history_of first scans in
    record {
      token = text;
      number = number;
      tree = catalogs_are_trees-proof history (libraries scans accepted);
      each = plain-rows (catalog history) (catalog-writable first scans plain accepted number) (rows-are-plain first scans plain);
    }
