use Rattle.std.proofs.Common.{Bool, sym, subst}
use Rattle.cds_scan.specs.Walking.{IsOver}
use Rattle.cds_scan.proofs.Steps.{over}
use Rattle.cds_scan.proofs.walk.is_over.Goals as goal

pub returns-clause-ok : goal.returns-clause-ok
returns-clause-ok g c =
    let tree = (g.F.Folder.told c.args.folder.now).tree in
    let given = (g.F.Folder.told c.args.folder.now).given in
    let Over : Bool → Type 0 = λ b. IsOver b tree given in
    subst Over (sym c.is_end.ensures) (over tree given c.in_ok-entry.entry _ c.in_ok-entry.ensures.next c.in_ok-entry.ensures.new)
