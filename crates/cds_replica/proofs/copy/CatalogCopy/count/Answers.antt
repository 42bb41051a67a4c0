use Rattle.std.proofs.Common.{List, None, Some, ap, sym, refl, ◌∙◌}
use Rattle.cds_replica.specs.CopyState.{KeptRow, KeptCopy, bare_rows}
use Rattle.cds_replica.specs.CopySteps.{rows_changed_by, count_from}
use Rattle.cds_replica.specs.Outlines.{outlines_of}
use Rattle.cds_replica.proofs.KeptLoops.{decided, count-torn, count-counts, no-root}
use Rattle.cds_replica.proofs.copy.CatalogCopy.count.Goals as goal
use Rattle.cds_load.specs.Outcome.{Goes}

pub returns-in-Some-2 : goal.returns-in-Some-2
returns-in-Some-2 c =
    let copy : KeptCopy = record { rows = c.self.inside.rows.items; read_up_to = c.self.inside.read_up_to } in
    let first = decided copy c.args.events.now c.in_ok-outlines.outlines.items c.in_ok-id.field-0 (Some c.in-Some-2.id)
    (c.in_ok-outlines.ensures ∙ ap outlines_of c.as_slice.ensures.value) c.in_ok-id.ensures c.in-Some-2.is in (
      ap (λ (s : KeptCopy). count_from s c.args.at c.args.events.now) (sym c.self.view_is)
          ∙ count-torn copy c.args.at c.args.events.now c.in-Some-2.id (sym c.leap.ensures ∙ c.in-None.is) first,
      refl,
    )

pub change_all-requires-clause-above : goal.change_all-requires-clause-above
change_all-requires-clause-above c =
    let copy : KeptCopy = record { rows = c.self.inside.rows.items; read_up_to = c.self.inside.read_up_to } in
    no-root (bare_rows copy) c.args.events.now
    (decided copy c.args.events.now c.in_ok-outlines.outlines.items c.in_ok-id.field-0 None
    (c.in_ok-outlines.ensures ∙ ap outlines_of c.as_slice.ensures.value) c.in_ok-id.ensures c.in-None-2.is)

pub returns : goal.returns
returns c =
    let copy : KeptCopy = record { rows = c.self.inside.rows.items; read_up_to = c.self.inside.read_up_to } in
    let first = decided copy c.args.events.now c.in_ok-outlines.outlines.items c.in_ok-id.field-0 None
    (c.in_ok-outlines.ensures ∙ ap outlines_of c.as_slice.ensures.value) c.in_ok-id.ensures c.in-None-2.is in
    ap (λ (s : KeptCopy). count_from s c.args.at c.args.events.now) (sym c.self.view_is)
    ∙ count-counts copy c.args.at c.args.events.now (sym c.leap.ensures ∙ c.in-None.is) first
    ∙ ap (λ (rows : List KeptRow). Goes (record { rows = rows; read_up_to = c.self.inside.read_up_to }))
    (ap (λ (rows : List KeptRow). rows_changed_by rows c.args.events.now) (sym c.reserve.ensures.items) ∙ sym c.change_all.ensures)
