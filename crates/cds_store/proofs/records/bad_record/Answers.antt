use Rattle.std.proofs.Common.{◌∙◌, take}
use Rattle.std.specs.BTreeSet.{contains}
use Rattle.cds_object.specs.Path.{path_cmp}
use Rattle.cds_store.proofs.Bad.{put_in, place_seen, bad_is, first_bad, none_bad}
use Rattle.cds_store.proofs.records.bad_record.Goals as goal

pub returns-then-branch : goal.returns-then-branch
returns-then-branch c =
    let test = c.in_ok-is_bad.ensures
    ∙ bad_is c.args.records.now (take c.loop-at.at c.args.records.now) c.index-records-at.result (contains path_cmp c.in_ok-folders.folders)
    (contains path_cmp c.loop-at.before) c.in_ok-folders.ensures c.loop-at.invariant.seen in
    first_bad c.args.records.now c.loop-at.at c.index-records-at.result c.in_ok-is_bad.field-0 c.loop-at-test.true c.index-records-at.is test c.if-branch.true
    ∙ c.loop-at.invariant.answer

pub loop-at-preserved : goal.loop-at-preserved
loop-at-preserved c =
    let test = c.in_ok-is_bad.ensures
    ∙ bad_is c.args.records.now (take c.loop-at.at c.args.records.now) c.index-records-at.result (contains path_cmp c.in_ok-folders.folders)
    (contains path_cmp c.loop-at.before) c.in_ok-folders.ensures c.loop-at.invariant.seen in
    record {
      answer = none_bad c.args.records.now c.loop-at.at c.index-records-at.result c.in_ok-is_bad.field-0 c.loop-at-test.true c.index-records-at.is test c.if-branch.false
          ∙ c.loop-at.invariant.answer;
      seen = λ path. place_seen c.args.records.now c.loop-at.at c.index-records-at.result path (contains path_cmp c.loop-at.before path)
          (contains path_cmp c.insert.new.self path) c.loop-at-test.true c.index-records-at.is (c.loop-at.invariant.seen path)
          (put_in c.in_ok-path.path c.index-records-at.result.path path (contains path_cmp c.loop-at.before path) (contains path_cmp c.insert.new.self path)
          c.in_ok-path.ensures (c.in_ok-insert.ensures.updates.0 path));
    }
