use Rattle.std.proofs.Common.{inr, refl}
use Rattle.url.specs.Parts.{serialize}
use Rattle.cds_gena.specs.declared.error.GenaError.TheVariants.{Spent}
use Rattle.cds_server.proofs.Done.{goes-none, none-noted, refused-result, spent-refusal}
use Rattle.cds_server.proofs.events.grant.Goals as goal

pub returns-in-None-clause-answers : goal.returns-in-None-clause-answers
returns-in-None-clause-answers c =
    refused-result c.args.book.now c.args.when.moment _ _ c.args.book.now Spent c.args.when.number (serialize c.args.callback.now) c.args.seconds _
    (inr (spent-refusal c.args.when.moment c.args.book.now.subscribed c.in-None.ensures)) c.refused.ensures.ok c.refused.ensures.cause c.refused.ensures.none refl

pub returns-in-None-clause-delivered : goal.returns-in-None-clause-delivered
returns-in-None-clause-delivered c = goes-none _ (none-noted _ c.refused.ensures.none)
