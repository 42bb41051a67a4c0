use Rattle.std.proofs.Common.{ap, sym, ◌∙◌}
use Rattle.cds_replica.specs.CopySteps.{rows_changed}
use Rattle.cds_replica.proofs.copy_rows.change.Goals as goal

pub returns-in-ObjAdd-clause-items : goal.returns-in-ObjAdd-clause-items
returns-in-ObjAdd-clause-items c = c.add.ensures.items c.in-ObjAdd.st ∙ ap (rows_changed c.args.rows.now.items) (sym c.in-ObjAdd.is)

pub returns-in-ObjMod-clause-items : goal.returns-in-ObjMod-clause-items
returns-in-ObjMod-clause-items c = c.modify.ensures.items c.in-ObjMod.st ∙ ap (rows_changed c.args.rows.now.items) (sym c.in-ObjMod.is)

pub returns-in-ObjDel-clause-items : goal.returns-in-ObjDel-clause-items
returns-in-ObjDel-clause-items c = c.delete.ensures.items c.in-ObjDel.st ∙ ap (rows_changed c.args.rows.now.items) (sym c.in-ObjDel.is)
