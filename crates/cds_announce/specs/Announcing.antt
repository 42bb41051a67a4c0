-- A device that answers the datagrams which come in (UPnP Device Architecture 2.0 on discovery). That each is answered at once,
-- and in the order in which they came, is this project's profile.
use Rattle.std.specs.Prelude.{◌≡◌, ◌<◌, ◌≤◌, ℕ, List, [], ◌∷◌, ◌++◌, length, map, Some, Result, Ok, Err}
use Rattle.cds_outside.specs.Datagrams.{DatagramsTold}
use Rattle.cds_outside.specs.Outside.{Rose, Told, raised}
use Rattle.cds_outside.specs.declared.datagrams.DatagramFault.{DatagramFault}
use Rattle.cds_outside.specs.declared.datagrams.DatagramFault.TheVariants.{Failed, Mem}
use Rattle.cds_outside.specs.declared.datagrams.DatagramReply.{DatagramReply}
use Rattle.cds_ssdp.specs.declared.device.Device.{Device}
use Rattle.cds_ssdp.specs.Search.{AnswersSearch}

-- A text that goes to the sender of the datagram of this number.
abbrev pub reply_to : ℕ → List ℕ → DatagramReply
reply_to number text = record { datagram = number; bytes = text }

-- The replies of a device to the datagram of this number, in order. If it is no search, or finds nothing, there are none.
abbrev pub Answers : Device → ℕ → List ℕ → List DatagramReply → Type 0
Answers device number datagram replies =
    (texts : List (List ℕ)) × AnswersSearch device datagram [] texts × (replies ≡ map (reply_to number) texts)

-- The replies to datagrams that came one after the other, after this number of others: those to the first, then those to the
-- second, and so on.
abbrev pub AnswersAll : Device → ℕ → List (List ℕ) → List DatagramReply → Type 0
AnswersAll device given [] replies = replies ≡ []
AnswersAll device given (datagram ∷ datagrams) replies =
    (first : List DatagramReply) × (others : List DatagramReply) × Answers device (raised given 1) datagram first
    × AnswersAll device (raised given 1) datagrams others × (replies ≡ first ++ others)

-- A count of datagrams, after these were given too. It stops at the last value of a u64.
abbrev pub counted : ℕ → List (List ℕ) → ℕ
counted given [] = given
counted given (datagram ∷ datagrams) = counted (raised given 1) datagrams

-- A device answered the datagrams that came first. Some that came after them were given and not answered.
pub record Announces (device : Device) (answered unanswered : List (List ℕ)) (old new : DatagramsTold) : Type 0 where
  pub replies : List DatagramReply
  pub answers : AnswersAll device old.given answered replies
  pub sent : Told old.sent (λ list. new.sent ≡ Some (list ++ replies))
  pub came : Told old.left (λ list. (left : List (List ℕ)) × (list ≡ (answered ++ unanswered) ++ left) × (new.left ≡ Some left))
  pub given : new.given ≡ counted old.given (answered ++ unanswered)
  pub never_falls : old.faults ≤ new.faults

-- How answering this number of datagrams ends. All are answered, or fewer. If no datagram could be received, a call failed. If
-- memory runs out, at most one datagram was given and not answered.
abbrev pub EndsAnnouncing : {A : Type 0} → Device → ℕ → Result A DatagramFault → DatagramsTold → DatagramsTold → Type 0
EndsAnnouncing device count (Ok value) old new =
    (answered : List (List ℕ)) × Announces device answered [] old new × (length answered ≡ count)
EndsAnnouncing device count (Err Failed) old new =
    (answered : List (List ℕ)) × Announces device answered [] old new × (length answered < count) × Rose old.faults new.faults
EndsAnnouncing device count (Err Mem) old new =
    (answered : List (List ℕ)) × (unanswered : List (List ℕ)) × Announces device answered unanswered old new × (length answered < count)
    × (length unanswered ≤ 1)
