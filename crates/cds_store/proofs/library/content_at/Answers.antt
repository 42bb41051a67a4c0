use Rattle.std.proofs.Common.{◌∙◌, ap, option_copied}
use Rattle.cds_store.proofs.Lending.{seen_content}
use Rattle.cds_store.proofs.library.content_at.Goals as goal

pub returns : goal.returns
returns c = ap option_copied (c.copied.ensures ∙ c.get.ensures.value) ∙ seen_content c.args.library.now.entries c.args.path.now
