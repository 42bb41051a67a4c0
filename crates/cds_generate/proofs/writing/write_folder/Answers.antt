use Rattle.cds_generate.specs.Generated.{folder_line}
use Rattle.cds_generate.proofs.writing.write_folder.Goals as goal

pub returns : goal.returns
returns g c = c.write_text.ensures (folder_line c.args.folder) c.folder_text.ensures
