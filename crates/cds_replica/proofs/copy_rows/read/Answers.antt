use Rattle.std.proofs.Common.{◌≡◌, ◌<◌, true, nat_eq, length, ap, sym, ◌∙◌, eq-eqb, arith}
use Rattle.std.specs.Prelude.{slice_set}
use Rattle.std.proofs.lemmas.List.{get_or_default}
use Rattle.cds_replica.specs.CopyState.{KeptRow, kept_id}
use Rattle.cds_replica.specs.CopySteps.{read_of_row, rows_read}
use Rattle.cds_replica.proofs.KeptLoops.{read-here}
use Rattle.cds_replica.proofs.copy_rows.read.Goals as goal

pub returns-then-id : goal.returns-then-id
returns-then-id c =
    let row = c.index-rows-at.result in
    let here : nat_eq c.args.id row.row.id ≡ true = eq-eqb c.args.id row.row.id (sym c.if-id.true ∙ c.id.ensures ∙ ap kept_id (sym c.index-rows-at.is)) in
    let same = ap (length {A = KeptRow}) c.loop-at.invariant.same in
    let within : c.loop-at.at < length c.loop-at.rows = omega (arith, same) in
    ap (slice_set c.loop-at.rows c.loop-at.at)
    (c.read.ensures ∙ ap (read_of_row (record { content = c.args.content; object_update = c.args.version })) (get_or_default c.loop-at.rows c.loop-at.at c.index-rows-at-then-id.result row within ∙ sym c.index-rows-at.is))
    ∙ read-here c.args.id (record { content = c.args.content; object_update = c.args.version }) c.loop-at.rows c.loop-at.at row within c.index-rows-at.is here
    ∙ c.loop-at.invariant.left
    ∙ ap (rows_read c.args.id (record { content = c.args.content; object_update = c.args.version })) c.loop-at.invariant.same
