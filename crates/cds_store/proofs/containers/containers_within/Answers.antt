use Rattle.std.proofs.Common.{nat_cmp}
use Rattle.std.specs.BTreeSet.{contains}
use Rattle.cds_store.proofs.Touched.{containers-told}
use Rattle.cds_store.proofs.containers.containers_within.Goals as goal

pub returns : goal.returns
returns c = λ count none.
    containers-told c.in_ok-touched.touched.entries (contains nat_cmp c.in_ok-deleted.deleted) c.args.span.from c.args.span.to count c.args.kept.now c.in_ok-containers.containers.items
    c.in_ok-containers.ensures.ordered c.in_ok-touched.ensures c.in_ok-deleted.ensures none c.in_ok-containers.ensures.entries
