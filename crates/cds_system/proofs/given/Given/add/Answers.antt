use Rattle.std.proofs.Common.{subst, sym}
use Rattle.cds_system.specs.Given.{Fits}
use Rattle.cds_system.proofs.Guarded.{one_given}
use Rattle.cds_system.proofs.given.Given.add.Goals as goal

pub invariant_of-self-2 : goal.invariant_of-self-2
invariant_of-self-2 c =
    one_given c.self.inside.places c.insert.new.self c.self.inside.entries c.push.new.self c.args.entry c.args.path c.is_folder_entry-is_folder.result
    c.push.ensures.list c.self.invariant (subst (λ given. Fits given c.args.path) (sym c.self.view_is) c.requires.room) c.requires.at
    c.is_folder_entry-is_folder.ensures (λ q. c.in_ok-insert.ensures.updates.0 q)
