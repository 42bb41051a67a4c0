use Rattle.cds_serve.proofs.Few.{few-records}
use Rattle.cds_serve.proofs.scanning.scanned.Goals as goal

pub returns-in-Ok-clause-given : goal.returns-in-Ok-clause-given
returns-in-Ok-clause-given g c = record { found = c.in-Ok.ensures.found; unread = c.in-Ok.ensures.read_faults }

pub returns-in-Ok-clause-few : goal.returns-in-Ok-clause-few
returns-in-Ok-clause-few g c =
    few-records (g.F.Folder.told c.args.folder.now).tree (g.F.Folder.told c.args.folder.now).contents c.in-Ok.found c.in-Ok.ensures.found
