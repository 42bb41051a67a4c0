use Rattle.std.proofs.Common.{rules, ap, refl, Some}
use Rattle.url.specs.Parts.{serialize}
use Rattle.cds_control.specs.Replies.{empty_reply}
use Rattle.cds_server.specs.Outcome.{lease_reply, status_of}
use Rattle.cds_server.proofs.Done.{cut-result, goes-none, made-grant, none-noted, refused-result}
use Rattle.cds_server.proofs.events.grant_named.Goals as goal

pub returns-in-Ok-clause-answers : goal.returns-in-Ok-clause-answers
returns-in-Ok-clause-answers c =
    made-grant c.args.book.now c.args.when.number c.args.when.moment _ _ _ _ (serialize c.args.callback.now) c.args.lease.seconds c.args.lease.sid.0 c.in-Ok.ensures.room
    c.in_ok-put_lease.ensures.ok c.requires.named c.in-Ok.ensures.names c.in-Ok.ensures.wrap c.in-Ok.ensures.granted (ap Some c.in_ok-note.ensures.note) refl

pub returns-in-Err-clause-answers : goal.returns-in-Err-clause-answers
returns-in-Err-clause-answers c =
    refused-result c.args.book.now c.args.when.moment _ _ _ c.in-Err.refusal c.args.when.number (serialize c.args.callback.now) c.args.lease.seconds _ c.in-Err.ensures.errors
    (cut-result _ _ c.args.out.now.items (lease_reply c.args.lease.sid.0 c.args.lease.seconds) _ (empty_reply (status_of c.in-Err.refusal)) _ (search rules) (search rules)
    c.refused_instead.ensures.ok)
    c.refused_instead.ensures.cause c.refused_instead.ensures.none c.in-Err.ensures.kept

pub returns-in-Err-clause-delivered : goal.returns-in-Err-clause-delivered
returns-in-Err-clause-delivered c = goes-none _ (none-noted _ c.refused_instead.ensures.none)
