use Rattle.std.proofs.Common.{[], ◌∷◌, length-append, arith, ap, sym, ◌∙◌}
use Rattle.cds_object.specs.Object.{ObjectRow}
use Rattle.cds_load.specs.Stages.{put_rows, put_containers}
use Rattle.cds_replica.proofs.Placing.{put_rows-append, put_containers-append}
use Rattle.cds_replica.proofs.growing.put_objects.Goals as goal

pub loop-row-preserved : goal.loop-row-preserved
loop-row-preserved c =
    let row = c.in-Some.row in
    let xs = c.loop-row.yielded in
    let more = length-append {A = ObjectRow} xs (row ∷ []) in
    record {
      rows = c.put_object.ensures.rows ∙ ap (put_rows (row ∷ [])) c.loop-row.invariant.rows ∙ sym (put_rows-append xs (row ∷ []) c.args.rows.now.items);
      waiting = c.put_object.ensures.waiting ∙ ap (put_containers (row ∷ [])) c.loop-row.invariant.waiting ∙ sym (put_containers-append xs (row ∷ []) c.args.waiting.now.items);
      rows_len = omega (arith, more);
      waiting_len = omega (arith, more);
      rows_ascend = c.put_object.ensures.rows_ascend;
      waiting_ascend = c.put_object.ensures.waiting_ascend;
      rows_capacity = omega arith;
      waiting_capacity = omega arith;
    }
