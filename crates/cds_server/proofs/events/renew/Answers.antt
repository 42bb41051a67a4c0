use Rattle.std.proofs.Common.{rules, refl, sym, true≢false}
use Rattle.cds_control.specs.Replies.{empty_reply}
use Rattle.cds_server.specs.Outcome.{lease_reply, status_of}
use Rattle.cds_server.proofs.Done.{cut-result, none-noted, renewal-made, renewal-result}
use Rattle.cds_server.proofs.events.renew.Goals as goal

pub returns-in-Ok-clause-answers : goal.returns-in-Ok-clause-answers
returns-in-Ok-clause-answers c =
    λ number. renewal-made c.args.book.now number c.args.now c.args.lease.sid.0 _ _ _ c.args.lease.seconds (c.in-Ok.ensures.lives.0 refl) c.in-Ok.ensures.renewed
    c.in-Ok.ensures.names c.in-Ok.ensures.wrap c.in_ok-put_lease.ensures.ok

pub returns-in-Err-clause-answers : goal.returns-in-Err-clause-answers
returns-in-Err-clause-answers c =
    renewal-result c.args.book.now c.args.now _ _ _ c.in-Err.refusal c.args.lease.sid.0 c.args.lease.seconds _ c.in-Err.ensures.errors
    (λ some. true≢false (sym (c.in-Err.ensures.lives.1 some)))
    (cut-result _ _ c.args.out.now.items (lease_reply c.args.lease.sid.0 c.args.lease.seconds) _ (empty_reply (status_of c.in-Err.refusal)) _ (search rules) (search rules)
    c.refused_instead.ensures.ok)
    c.refused_instead.ensures.none c.in-Err.ensures.kept

pub returns-in-Err-clause-none : goal.returns-in-Err-clause-none
returns-in-Err-clause-none c = none-noted _ c.refused_instead.ensures.none
