use Rattle.std.proofs.Common.{sym, ◌∙◌}
use Rattle.cds_store.proofs.FilesFound.{file_found, no_file}
use Rattle.cds_store.proofs.files.file_by_id.Goals as goal

pub returns-in-None : goal.returns-in-None
returns-in-None c = sym (no_file c.args.id c.args.rows.now c.in-None.ensures)

pub returns-in-Some : goal.returns-in-Some
returns-in-Some c = c.file_in.ensures ∙ file_found c.args.id c.in-Some.at c.args.rows.now c.index-rows-at.result c.in-Some.ensures c.index-rows-at.is
