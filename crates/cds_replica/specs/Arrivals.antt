-- What becomes of a delivered note, as the inbox answers it. The place for which it may be held is the next one.
use Rattle.std.specs.Prelude.{ℕ}
use Rattle.cds_follow.specs.Inbox.{Arrival, IsUnknown, IsRepeat, IsTooMany, IsEarly, IsHeld, IsNext}
use Rattle.cds_replica.specs.declared.inbox.Arrival.{Arrival as Answer}
use Rattle.cds_replica.specs.declared.inbox.Arrival.TheVariants.{Unknown, Repeat, Full, Early, Held, Next}

abbrev pub arrival_of : ℕ → Answer → Arrival
arrival_of next Unknown = IsUnknown
arrival_of next Repeat = IsRepeat
arrival_of next (Full held) = IsTooMany held
arrival_of next Early = IsEarly
arrival_of next Held = IsHeld next
arrival_of next Next = IsNext
