use Rattle.cds_subcommands.proofs.Feeding.{not-failed, fed-cause, fed-long}
use Rattle.cds_subcommands.proofs.checking.feed.Goals as goal

pub cause_of-requires : goal.cause_of-requires
cause_of-requires c = not-failed _ _ _ c.in-Err.error c.requires (rw c.in-Err.is at c.feed.ensures.fed)

pub returns-in-Err-clause-cause : goal.returns-in-Err-clause-cause
returns-in-Err-clause-cause c = λ bytes is more.
    fed-cause _ _ _ c.in-Err.error c.cause_of.result bytes more (rw c.in-Err.is at c.feed.ensures.fed) c.cause_of.ensures is

pub returns-in-Err-clause-long : goal.returns-in-Err-clause-long
returns-in-Err-clause-long c = λ bytes is.
    fed-long _ _ _ c.in-Err.error c.cause_of.result bytes (rw c.in-Err.is at c.feed.ensures.fed) c.cause_of.ensures is
