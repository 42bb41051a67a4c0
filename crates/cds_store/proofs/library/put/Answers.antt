use Rattle.std.proofs.Common.{◌∙◌, ap}
use Rattle.cds_store.specs.Lent.{shown}
use Rattle.cds_store.proofs.Lending.{seen_insert}
use Rattle.cds_store.proofs.library.put.Goals as goal

pub returns : goal.returns
returns c = ap shown c.in_ok-insert.ensures.entries ∙ seen_insert c.args.library.now.entries c.args.path c.args.content
