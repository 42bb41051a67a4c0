use Rattle.std.proofs.Common.{◌∙◌, ap, sym}
use Rattle.std.specs.BTreeSet.{BTreeSet, contains}
use Rattle.cds_object.specs.Path.{path_cmp}
use Rattle.cds_object.specs.declared.path.Path.{Path}
use Rattle.cds_store.proofs.Bad.{put_in, folder_seen, track_seen}
use Rattle.cds_store.proofs.records.folders_among.Goals as goal
use Rattle.cds_store.proofs.records.folders_among.Goals.{then-is_folder+in_ok-path+in_ok-insert, else-is_folder}

pub loop-found-preserved : goal.loop-found-preserved
loop-found-preserved c = λ path. elim c.if-is_folder.branch [
  | then-is_folder+in_ok-path+in_ok-insert w ↦
      ap (λ (s : BTreeSet Path). contains path_cmp s path) w.folders-is
      ∙ folder_seen c.args.records.now c.loop-found.found-index c.found-item.result path (contains path_cmp c.loop-found.folders path)
      (contains path_cmp w.insert.new.self path) c.loop-found-test.true c.found-item.is (sym c.is_folder.ensures ∙ w.if-is_folder.true) (c.loop-found.invariant path)
      (put_in w.in_ok-path.path c.found-item.result.path path (contains path_cmp c.loop-found.folders path) (contains path_cmp w.insert.new.self path)
      w.in_ok-path.ensures (w.in_ok-insert.ensures.updates.0 path))
  | else-is_folder w ↦
      ap (λ (s : BTreeSet Path). contains path_cmp s path) w.folders-is
      ∙ track_seen c.args.records.now c.loop-found.found-index c.found-item.result path (contains path_cmp c.loop-found.folders path)
      c.loop-found-test.true c.found-item.is (sym c.is_folder.ensures ∙ w.if-is_folder.false) (c.loop-found.invariant path)
]
