-- What a replica's phase stands for, and what ends a load.
use Rattle.std.specs.Prelude.{◌&&◌, Bool, nat_eq, List, ◌++◌, length}
use Rattle.cds_object.specs.Object.{ObjectRow}
use Rattle.cds_load.specs.Stages.{Listing as Progress, listed_children}
use Rattle.cds_replica.specs.Ended.{is_end}
use Rattle.cds_replica.specs.Holding.{held_in}
use Rattle.cds_replica.specs.State.{KeptPhase, Copies, NoCopy}
use Rattle.cds_replica.specs.declared.count_error.CountError.{CountError}
use Rattle.cds_replica.specs.declared.count_error.CountError.TheVariants.{Jump as CountJump, Torn as CountTorn, Mem as CountMem}
use Rattle.cds_replica.specs.declared.error.AnswerError.{AnswerError}
use Rattle.cds_replica.specs.declared.error.AnswerError.TheVariants.{Jump, Torn, Mem}
use Rattle.cds_replica.specs.declared.phase.Phase.{Phase}
use Rattle.cds_replica.specs.declared.phase.Phase.TheVariants.{Load, Copy}

abbrev pub phase_in : Phase → KeptPhase
phase_in (Load stage) = NoCopy (held_in stage)
phase_in (Copy number copy) = Copies number copy

-- whether a page ends a load: it is its container's last, no other container waits, and none was shown under this one
abbrev pub ends_load : Progress → List ObjectRow → Bool
ends_load listing page = nat_eq (length (listing.part ++ page)) (listed_children listing) && is_end listing page

-- the answer to a reply with which the changes that were kept cannot be counted
abbrev pub answer_of : CountError → AnswerError
answer_of (CountJump expected first) = Jump expected first
answer_of (CountTorn id) = Torn id
answer_of CountMem = Mem
