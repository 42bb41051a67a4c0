use Rattle.std.proofs.Common.{◌≡◌, ℕ, List, take, drop}
use Rattle.std.specs.List.{list_any}
use Rattle.std.specs.BTreeSet.{contains}
use Rattle.cds_object.specs.Path.{path_cmp}
use Rattle.cds_catalog.specs.Scans.{bad_from, bad_record}
use Rattle.cds_store.proofs.records.bad_record.Given as goal
use Rattle.cds_store.proofs.Bad.{stands_at}

abbrev pub invariant-loop-at : goal.invariant-loop-at
invariant-loop-at l = record {
  answer : bad_from l.records (take l.at l.records) (drop l.at l.records) ≡ bad_record l.records;
  seen : (path : List (List ℕ)) → contains path_cmp l.before path ≡ list_any (stands_at path) (take l.at l.records);
}
