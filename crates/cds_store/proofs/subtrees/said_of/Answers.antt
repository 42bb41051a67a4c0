use Rattle.std.proofs.Common.{sym, ap}
use Rattle.std.proofs.lemmas.Result.{IfOk-weaker}
use Rattle.cds_catalog.specs.History.{place_of, is_addition, is_deletion}
use Rattle.cds_store.specs.declared.subtrees.Kind.TheVariants.{Added, Deleted}
use Rattle.cds_store.proofs.SubtreeIndex.{other-more, said-modified}
use Rattle.cds_store.proofs.subtrees.said_of.Goals as goal

pub returns-in-Deletion : goal.returns-in-Deletion
returns-in-Deletion c =
    IfOk-weaker c.look.result _ _
    (λ found marks scan later earlier gone come orderly parted.
    let change = c.args.change.now in
    let said = marks Deleted scan later earlier change gone orderly parted (ap is_deletion c.in-Deletion.is) (ap place_of (sym c.in-Deletion.is)) in
    (said.0, other-more is_addition scan later change c.args.come.now come (ap is_addition c.in-Deletion.is), said.1))
    c.look.ensures

pub returns-in-Addition : goal.returns-in-Addition
returns-in-Addition c =
    IfOk-weaker c.look-in-Addition.result _ _
    (λ found marks scan later earlier gone come orderly parted.
    let change = c.args.change.now in
    let said = marks Added scan later earlier change come orderly parted (ap is_addition c.in-Addition.is) (ap place_of (sym c.in-Addition.is)) in
    (other-more is_deletion scan later change c.args.gone.now gone (ap is_deletion c.in-Addition.is), said.0, said.1))
    c.look-in-Addition.ensures

pub returns-in-Modification : goal.returns-in-Modification
returns-in-Modification c = λ scan later earlier gone come orderly parted.
    let change = c.args.change.now in (
      other-more is_deletion scan later change c.args.gone.now gone (ap is_deletion c.in-Modification.is),
      other-more is_addition scan later change c.args.come.now come (ap is_addition c.in-Modification.is),
      said-modified scan earlier change c.in-Modification.path c.in-Modification.content c.in-Modification.is,
    )
