-- What the reply grants is taken as the name, and what grants nothing as the refusal.
use Rattle.std.proofs.Common.{subst, string_bytes}
use Rattle.cds_replay.specs.Events.{HasLease}
use Rattle.cds_replay.proofs.EventReads.{lease-taken, refusal-held}
use Rattle.cds_replay.proofs.session.take_lease.Goals as goal

pub lease_of-requires : goal.lease_of-requires
lease_of-requires c = (c.requires.reply.1.0, c.requires.reply.1.1)

pub returns-in-Some : goal.returns-in-Some
returns-in-Some c = λ wrap turns held stood is.
    lease-taken wrap turns held c.args.reply.now c.in-Some.lease (string_bytes c.args.out.now) (string_bytes c.take_name.new.out) c.take_name.new.replica c.take_name.result is
    (subst (λ lease. HasLease c.args.reply.now lease) c.in-Some.is c.in_ok-lease.ensures) (λ name at. c.take_name.ensures wrap turns name stood at)

pub returns-in_ok-put_status-in-None : goal.returns-in_ok-put_status-in-None
returns-in_ok-put_status-in-None c = λ wrap turns held stood is.
    refusal-held wrap turns held c.args.reply.now c.args.replica.now c.not_subscribed.new.self (string_bytes c.args.out.now) (string_bytes c.put_status.new.out)
    c.in_ok-status_of-in-None.field-0 stood is (subst (λ lease. HasLease c.args.reply.now lease) c.in-None.is c.in_ok-lease.ensures)
    c.in_ok-status_of-in-None.ensures c.not_subscribed.ensures.stands c.in_ok-put_status-in-None.ensures
