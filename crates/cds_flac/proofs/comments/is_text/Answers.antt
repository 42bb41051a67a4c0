-- The reader of UTF-8 decides what the test says.
use Rattle.std.proofs.Common.{◌∙◌}
use Rattle.cds_flac.proofs.Names.{text-decided}
use Rattle.cds_flac.proofs.comments.is_text.Goals as goal

pub returns : goal.returns
returns c = c.is_ok.ensures.value ∙ text-decided _ c.args.bytes.now _ _ c.from_utf8.ensures.cases
