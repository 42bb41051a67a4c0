-- What was read is answered by what is owed.
use Rattle.std.proofs.Common.{inl, inr, refl}
use Rattle.cds_script.specs.Report.{limit_ending}
use Rattle.cds_subcommands.specs.Check.{events_ending, refused_ending}
use Rattle.cds_subcommands.proofs.Feeding.{ends-owed, writes-owed, text-ends, text-writes}
use Rattle.cds_subcommands.proofs.checking.check.Goals as goal

pub returns-in-Ok-clause-ends : goal.returns-in-Ok-clause-ends
returns-in-Ok-clause-ends g c = λ bytes told.
    ends-owed bytes (events_ending c.in-Ok.events) _ (inl (c.in-Ok.events, c.in-Ok.ensures.events bytes told, refl)) c.write_events.ensures.ends

pub returns-in-Ok-clause-writes : goal.returns-in-Ok-clause-writes
returns-in-Ok-clause-writes g c = λ bytes told before held.
    writes-owed bytes (events_ending c.in-Ok.events) _ before _ (inl (c.in-Ok.events, c.in-Ok.ensures.events bytes told, refl))
    c.write_events.ensures.ends (c.write_events.ensures.writes before held)

pub returns-in-Err-Refused-clause-ends : goal.returns-in-Err-Refused-clause-ends
returns-in-Err-Refused-clause-ends g c = λ bytes told.
    ends-owed bytes (refused_ending c.in-Err-Refused.at) _
    (inr (inl (c.in-Err-Refused.at, (rw c.in-Err-Refused.field-0-is at c.in-Err-Refused.ensures.cause) bytes told, refl)))
    c.write_refusal.ensures.ends

pub returns-in-Err-Refused-clause-writes : goal.returns-in-Err-Refused-clause-writes
returns-in-Err-Refused-clause-writes g c = λ bytes told before held.
    writes-owed bytes (refused_ending c.in-Err-Refused.at) _ before _
    (inr (inl (c.in-Err-Refused.at, (rw c.in-Err-Refused.field-0-is at c.in-Err-Refused.ensures.cause) bytes told, refl)))
    c.write_refusal.ensures.ends (c.write_refusal.ensures.writes before held)

pub returns-in-Err-Limit-clause-ends : goal.returns-in-Err-Limit-clause-ends
returns-in-Err-Limit-clause-ends g c = λ bytes told.
    ends-owed bytes limit_ending _ (inr (inr ((rw c.in-Err-Limit.field-0-is at c.in-Err-Limit.ensures.cause) bytes told, refl)))
    (text-ends _ 6 c.write_text.ensures.ends)

pub returns-in-Err-Limit-clause-writes : goal.returns-in-Err-Limit-clause-writes
returns-in-Err-Limit-clause-writes g c = λ bytes told before held.
    writes-owed bytes limit_ending _ before _ (inr (inr ((rw c.in-Err-Limit.field-0-is at c.in-Err-Limit.ensures.cause) bytes told, refl)))
    (text-ends _ 6 c.write_text.ensures.ends) (text-writes _ _ before _ (c.write_text.ensures.writes before held))
