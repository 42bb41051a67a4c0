-- A device that is announced at a port, from its start to its end (this project's profile).
use Rattle.std.specs.Prelude.{◌≡◌, ◌⊎◌, ℕ, List, [], ◌∷◌, ◌++◌, Option, Some, Result, Ok, Err, ⊤}
use Rattle.std.specs.Int.{w128, to_be_bytes}
use Rattle.cds_commands.specs.Names.{name_of}
use Rattle.cds_outside.specs.Asked.{Asked, ForDatagrams}
use Rattle.cds_outside.specs.Datagrams.{DatagramsTold, IsUnheard}
use Rattle.cds_outside.specs.Outside.{Rose, Told, raised}
use Rattle.cds_outside.specs.Told.{OutsideTold}
use Rattle.cds_outside.specs.declared.datagrams.DatagramFault.{DatagramFault}
use Rattle.cds_outside.specs.declared.datagrams.DatagramFault.TheVariants.{Failed, Mem}
use Rattle.cds_ssdp.specs.declared.device.Device.{Device}
use Rattle.cds_announce.specs.Announcing.{EndsAnnouncing}

-- The UUID of a device that is given none: the name of number 0 of a server whose boot words are 0.
abbrev pub first_uuid : List ℕ
first_uuid = to_be_bytes w128 (name_of (record { high = 0; low = 0; first = 0; wrap = 4294967295 }) 0)

-- The status by how answering ended.
abbrev pub status_of : {A : Type 0} → Result A DatagramFault → ℕ
status_of (Ok value) = 0
status_of (Err Failed) = 7
status_of (Err Mem) = 4

-- The datagrams of a port were given, answered until this end, and came back to the outside.
pub record Announced {A : Type 0} (device : Device) (count : ℕ) (ended : Result A DatagramFault) (old new : OutsideTold) : Type 0 where
  -- the datagrams when they were given, and when they came back
  pub first : DatagramsTold
  pub last : DatagramsTold
  pub unheard : IsUnheard first
  pub course : EndsAnnouncing device count ended first last
  pub returned : Told old.ended_datagrams (λ list. new.ended_datagrams ≡ Some (list ++ last ∷ []))
  pub given : new.datagrams ≡ raised old.datagrams last.given

-- The outside gave no datagrams.
abbrev pub GaveNone : OutsideTold → OutsideTold → Type 0
GaveNone old new = (new.ended_datagrams ≡ old.ended_datagrams) × (new.datagrams ≡ old.datagrams)

-- The outside was asked for the datagrams of this port, and for nothing else.
abbrev pub AsksForDatagrams : ℕ → Option (List Asked) → Option (List Asked) → Type 0
AsksForDatagrams port before after = Told before (λ list. after ≡ Some (list ++ ForDatagrams port ∷ []))

-- No object but datagrams came back to the outside.
abbrev pub datagrams_back : OutsideTold → OutsideTold → OutsideTold
datagrams_back old new =
    record old { faults = new.faults; asked = new.asked; ended_datagrams = new.ended_datagrams; datagrams = new.datagrams }

-- The status and its cause:
-- - 0: this many datagrams were given, and each was answered
-- - 4: memory ran out
-- - 7: only if the port could not be had, or a datagram not be received
abbrev pub EndsAnnouncement : Device → ℕ → ℕ → OutsideTold → OutsideTold → Type 0
EndsAnnouncement device count status old new =
    ((status ≡ 0) × Announced {A = ⊤} device count (Ok tt) old new × (new.datagrams ≡ raised old.datagrams count))
    ⊎ (((status ≡ 4) × (GaveNone old new ⊎ Announced {A = ⊤} device count (Err Mem) old new))
    ⊎ ((status ≡ 7) × Rose old.faults new.faults × (GaveNone old new ⊎ Announced {A = ⊤} device count (Err Failed) old new)))
