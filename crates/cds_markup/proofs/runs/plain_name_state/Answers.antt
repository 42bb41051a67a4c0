use Rattle.cds_markup.proofs.Quiet.{name_ascii}
use Rattle.cds_markup.proofs.runs.plain_name_state.Goals as goal

pub ascii-requires : goal.ascii-requires
ascii-requires c = (name_ascii c.args.prefix.now c.args.local.now c.requires).1

pub ascii-requires-2 : goal.ascii-requires-2
ascii-requires-2 c = (name_ascii c.args.prefix.now c.args.local.now c.requires).0
