-- The words of datagrams: those that came in, and the replies to their senders.
use Rattle.std.specs.Prelude.{◌≡◌, ℕ, Option, Some, Result, Ok, Err, List, [], ◌∷◌}
use Rattle.cds_outside.specs.declared.datagrams.DatagramFault.{DatagramFault}
use Rattle.cds_outside.specs.declared.datagrams.DatagramFault.TheVariants.{Failed, Mem}
use Rattle.cds_outside.specs.declared.datagrams.DatagramReply.{DatagramReply}
use Rattle.cds_outside.specs.Outside.{Rose, Told}

-- What a source of datagrams tells of itself.
pub record DatagramsTold : Type 0 where
  -- the datagrams that are left, and the replies that it took, if it tells them
  pub left : Option (List (List ℕ))
  pub sent : Option (List DatagramReply)
  -- how many datagrams it gave so far
  pub given : ℕ
  -- how many calls failed so far
  pub faults : ℕ

-- Nothing was asked of it yet.
abbrev pub IsUnheard : DatagramsTold → Type 0
IsUnheard datagrams = (datagrams.given ≡ 0) × Told datagrams.sent (λ list. list ≡ []) × (datagrams.faults ≡ 0)

-- A datagram is the first of those that were left, and the others are left.
abbrev pub IsNextDatagram : List ℕ → List (List ℕ) → Option (List (List ℕ)) → Type 0
IsNextDatagram datagram datagrams left = (others : List (List ℕ)) × (datagrams ≡ datagram ∷ others) × (left ≡ Some others)

-- A count of faults after a datagram was asked for. If the call failed, the count rose; otherwise it stays.
abbrev pub DatagramRose : {A : Type 0} → Result A DatagramFault → ℕ → ℕ → Type 0
DatagramRose (Ok value) old new = new ≡ old
DatagramRose (Err Failed) old new = Rose old new
DatagramRose (Err Mem) old new = new ≡ old
