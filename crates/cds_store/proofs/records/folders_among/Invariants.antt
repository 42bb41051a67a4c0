use Rattle.std.proofs.Common.{◌≡◌, ℕ, List, take}
use Rattle.std.specs.List.{list_any}
use Rattle.std.specs.BTreeSet.{contains}
use Rattle.cds_object.specs.Path.{path_cmp}
use Rattle.cds_store.specs.Records.{is_folder_at}
use Rattle.cds_store.proofs.records.folders_among.Given as goal

abbrev pub invariant-loop-found : goal.invariant-loop-found
invariant-loop-found l = (path : List (List ℕ)) → contains path_cmp l.folders path ≡ list_any (is_folder_at path) (take l.found-index l.records)
