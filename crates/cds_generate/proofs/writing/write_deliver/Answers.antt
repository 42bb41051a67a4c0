use Rattle.cds_generate.specs.Generated.{deliver_line}
use Rattle.cds_generate.proofs.writing.write_deliver.Goals as goal

pub returns : goal.returns
returns g c = c.write_text.ensures (deliver_line c.args.note) c.deliver_text.ensures
