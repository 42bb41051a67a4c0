-- What each object of the outside tells of itself, before and after a call.
use Rattle.std.specs.Prelude.{◌≡◌, ℕ, Option, Some, None, List, [], ◌∷◌, ◌++◌}
use Rattle.cds_outside.specs.Asked.{Asked}
use Rattle.cds_outside.specs.Datagrams.{DatagramsTold}
use Rattle.cds_outside.specs.Entries.{FolderTold}
use Rattle.cds_outside.specs.Links.{LinkTold}
use Rattle.cds_outside.specs.Outside.{SinkTold, SourceTold, Told}

-- A connection: what it tells as a source and as a sink.
pub record ConnTold : Type 0 where
  pub source : SourceTold
  pub sink : SinkTold

-- Nothing was read from the connection or written to it yet.
abbrev pub IsUntouched : SourceTold → SinkTold → Type 0
IsUntouched source sink =
    (source.moved ≡ 0) × (source.faults ≡ 0) × Told sink.holds (λ bytes. bytes ≡ []) × (sink.faults ≡ 0)

pub record ClockTold : Type 0 where
  -- the last moment that it gave, 0 before the first
  pub last : ℕ
  -- the moments that it gave so far, in order, if it tells them
  pub gave : Option (List ℕ)
  -- how many calls failed so far
  pub faults : ℕ

-- The moments that it gave, with one more.
abbrev pub and_moment : ℕ → Option (List ℕ) → Option (List ℕ)
and_moment moment None = None
and_moment moment (Some gave) = Some (gave ++ moment ∷ [])

-- Nothing was asked of the clock yet.
abbrev pub IsFresh : ClockTold → Type 0
IsFresh clock = (clock.last ≡ 0) × Told clock.gave (λ list. list ≡ []) × (clock.faults ≡ 0)

-- A handle of a door.
pub record DoorTold : Type 0 where
  -- how many connections it gave so far
  pub connections : ℕ
  -- how many of its calls failed so far
  pub faults : ℕ

pub record SpawnerTold : Type 0 where
  -- how many jobs it started so far
  pub started : ℕ
  -- how many calls failed so far
  pub faults : ℕ

-- A handle of a door, and a spawner, of which nothing was asked yet.
abbrev pub unasked_door : DoorTold
unasked_door = record { connections = 0; faults = 0 }

abbrev pub unasked_spawner : SpawnerTold
unasked_spawner = record { started = 0; faults = 0 }

-- Nothing was sent over a link yet.
abbrev pub IsUnsent : LinkTold → Type 0
IsUnsent link = Told link.requests (λ list. list ≡ []) × (link.faults ≡ 0)

pub record OutsideTold : Type 0 where
  -- how many calls failed so far, and how many objects with faults came back
  pub faults : ℕ
  -- what it was asked for, in order, if it tells that
  pub asked : Option (List Asked)
  -- what the folders and the links that came back had told, in order, if it tells that
  pub ended : Option (List FolderTold)
  pub ended_links : Option (List LinkTold)
  -- how many connections the doors that came back gave
  pub connections : ℕ
  -- how many jobs the spawners that came back started
  pub started : ℕ
  -- what the sources of datagrams that came back had told, in order, if it tells that
  pub ended_datagrams : Option (List DatagramsTold)
  -- how many datagrams these gave
  pub datagrams : ℕ

-- The outside was asked for one object: it may have failed, and all else stays.
abbrev pub asked_then : OutsideTold → OutsideTold → OutsideTold
asked_then old new = record old { faults = new.faults; asked = new.asked }
