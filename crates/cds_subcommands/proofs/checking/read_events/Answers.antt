use Rattle.cds_subcommands.proofs.Feeding.{finish-cause, finish-events, finish-long, not-failed-at-end}
use Rattle.cds_subcommands.proofs.checking.read_events.Goals as goal

pub cause_of-requires : goal.cause_of-requires
cause_of-requires g c = not-failed-at-end _ c.finish.result c.in-Err.error c.in_ok-feed_all.ensures.stays c.finish.ensures.finished c.in-Err.is

pub returns-in-Ok-clause-events : goal.returns-in-Ok-clause-events
returns-in-Ok-clause-events g c = λ bytes told.
    finish-events _ bytes c.finish.result c.in-Ok.events (c.in_ok-feed_all.ensures.fed bytes told) c.finish.ensures.finished c.in-Ok.is

pub returns-clause-cause : goal.returns-clause-cause
returns-clause-cause g c = λ bytes told.
    finish-cause _ bytes c.finish.result c.in-Err.error c.cause_of.result (c.in_ok-feed_all.ensures.fed bytes told) c.finish.ensures.finished c.in-Err.is c.cause_of.ensures

pub returns-clause-long : goal.returns-clause-long
returns-clause-long g c =
    finish-long _ c.finish.result c.in-Err.error c.cause_of.result _ c.in_ok-feed_all.ensures.stays c.finish.ensures.finished c.in-Err.is c.cause_of.ensures
