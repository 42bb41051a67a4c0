-- What callers see of the connections, doors and spawners in memory.
use Rattle.std.specs.Prelude.{ℕ, Bool, None, List}
use Rattle.cds_outside.specs.Outside.{SinkTold, SourceTold}
use Rattle.cds_outside.specs.Told.{DoorTold, SpawnerTold}
use Rattle.cds_memory.specs.Memory.{SourceState, SinkState}

-- A connection in memory: what it gives, what it takes, and whether it was finished.
pub record ConnState : Type 0 where
  pub source : SourceState
  pub sink : SinkState
  pub finished : Bool

-- A connection that several threads share: how many bytes it gave, how many reads and writes failed, and whether it was finished.
pub record SharedConnState : Type 0 where
  pub moved : ℕ
  pub read_faults : ℕ
  pub write_faults : ℕ
  pub finished : Bool

-- What such a connection tells of itself, as a source and as a sink: none of its bytes.
abbrev pub shared_source_told : SharedConnState → SourceTold
shared_source_told conn = record { left = None; moved = conn.moved; faults = conn.read_faults }

abbrev pub shared_sink_told : SharedConnState → SinkTold
shared_sink_told conn = record { holds = None; faults = conn.write_faults }

-- A handle of a door in memory: how many connections it gave, and how many of its calls failed.
pub record DoorState : Type 0 where
  pub connections : ℕ
  pub faults : ℕ

-- A spawner that fails at the calls that it was told.
pub record SpawnerState : Type 0 where
  -- how many jobs it started
  pub started : ℕ
  -- how many calls it answered, and how many of them failed
  pub calls : ℕ
  pub faults : ℕ
  -- the numbers, counted from 1, of the calls that are to fail
  pub fails : List ℕ

-- What they tell of themselves.
abbrev pub door_told : DoorState → DoorTold
door_told door = record { connections = door.connections; faults = door.faults }

abbrev pub spawner_told : SpawnerState → SpawnerTold
spawner_told spawner = record { started = spawner.started; faults = spawner.faults }

-- A handle of a door before anything was asked of it.
abbrev pub fresh_door : DoorState
fresh_door = record { connections = 0; faults = 0 }

-- A spawner before anything was asked of it.
abbrev pub fresh_spawner : SpawnerState → SpawnerState
fresh_spawner spawner = record { started = 0; calls = 0; faults = 0; fails = spawner.fails }
