use Rattle.std.proofs.Common.{arith, ap, ◌∙◌, ◌++◌, append_assoc}
use Rattle.std.proofs.lemmas.Grind.{common_steps}
use Rattle.std.proofs.lemmas.List.{length-map}
use Rattle.cds_catalog.specs.Catalog.{PlacedRow}
use Rattle.cds_subcommands.proofs.Scanned.{all_rows, full_step}
use Rattle.cds_subcommands.proofs.scanning.put_rows.Goals as goal

pub loop-at-preserved : goal.loop-at-preserved
loop-at-preserved c = grind (arith, common_steps, full_step, append_assoc)

pub returns : goal.returns
returns c =
    let rows = c.args.store.now.standing.rows in
    c.loop-at.invariant
    ∙ ap (λ more. c.args.out.now.items ++ more) (all_rows rows c.len-at-end.result c.loop-at.at (c.len-at-end.ensures.exact ∙ length-map rows (λ (placed : PlacedRow). placed.1)) c.loop-at-test.false)
