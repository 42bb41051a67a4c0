use Rattle.cds_markup.proofs.Quiet.{value_ascii}
use Rattle.cds_markup.proofs.runs.plain_attr.Goals as goal

pub ascii_text-requires : goal.ascii_text-requires
ascii_text-requires c = value_ascii c.args.value.now c.requires.value
