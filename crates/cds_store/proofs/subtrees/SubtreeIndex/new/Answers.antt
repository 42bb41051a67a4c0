use Rattle.std.proofs.Common.{ap}
use Rattle.std.specs.List.{list_any}
use Rattle.std.specs.BTreeMap.{is_at}
use Rattle.cds_object.specs.Path.{path_cmp}
use Rattle.cds_store.specs.SubtreeIndex.{is_kind}
use Rattle.cds_store.proofs.SubtreeIndex.{knows-first}
use Rattle.cds_store.proofs.subtrees.SubtreeIndex.new.Goals as goal

pub returns : goal.returns
returns c =
    knows-first (is_kind c.args.kind) c.args.changes.now (record { places = c.in_ok-places.places; folders = c.in_ok-folders.folders; seen = c.new-seen.result })
    c.in_ok-places.ensures c.in_ok-folders.ensures (λ path. ap (list_any (is_at (path_cmp path))) c.new-seen.ensures.empty)
