use Rattle.std.proofs.Common.{sym, subst}
use Rattle.std.specs.BTreeMap.{get}
use Rattle.cds_object.specs.Path.{path_cmp}
use Rattle.cds_catalog.specs.declared.change.Change.{Change}
use Rattle.cds_store.specs.Found.{Learns}
use Rattle.cds_store.proofs.ByIds.{put_at, taken_at}
use Rattle.cds_store.proofs.resolving.learn.Goals as goal

pub returns-in-Deletion : goal.returns-in-Deletion
returns-in-Deletion c =
    subst (λ (d : Change). Learns (get path_cmp c.args.places.now) (get path_cmp c.remove.new.self) d c.args.next) (sym c.in-Deletion.is)
    (taken_at (get path_cmp c.args.places.now) (get path_cmp c.remove.new.self) c.in-Deletion.path c.remove.ensures.updates.0)

pub returns-in_ok-insert-in-Addition : goal.returns-in_ok-insert-in-Addition
returns-in_ok-insert-in-Addition c =
    subst (λ (d : Change). Learns (get path_cmp c.args.places.now) (get path_cmp c.insert.new.self) d c.args.next) (sym c.in-Addition.is)
    (put_at (get path_cmp c.args.places.now) (get path_cmp c.insert.new.self) c.in_ok-path-in-Addition.path c.in-Addition.path c.args.next
    c.in_ok-path-in-Addition.ensures c.in_ok-insert-in-Addition.ensures.updates.0)
