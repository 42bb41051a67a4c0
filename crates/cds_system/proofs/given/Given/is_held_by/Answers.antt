use Rattle.std.proofs.Common.{sym, ◌∙◌}
use Rattle.cds_system.proofs.Guarded.{held_there}
use Rattle.cds_system.proofs.given.Given.is_held_by.Goals as goal

pub returns-then-is_in : goal.returns-then-is_in
returns-then-is_in c = λ there. held_there c.args.self.now c.args.holder.now c.args.path.now (sym c.is_in.ensures ∙ c.if-is_in.true) (c.is_folder.ensures there)
