-- What callers see of the outside in memory.
use Rattle.std.specs.Prelude.{◌≡◌, ℕ, Some, List, [], ◌∷◌, map}
use Rattle.cds_memory.specs.declared.asking.Ask.{Ask}
use Rattle.cds_memory.specs.declared.asking.Ask.TheVariants.{Folder, Link, Clock, Door, Spawner, Datagrams}
use Rattle.cds_outside.specs.Asked.{Asked, ForClock, ForDatagrams, ForDoor, ForFolder, ForLink, ForSpawner}
use Rattle.cds_outside.specs.Told.{OutsideTold}
use Rattle.cds_memory.specs.Clocks.{ClockState}
use Rattle.cds_memory.specs.Datagrams.{DatagramsState, datagrams_told}
use Rattle.cds_memory.specs.Doors.{DoorState, SpawnerState}
use Rattle.cds_memory.specs.Folders.{FolderState, fresh_folder, told_of}
use Rattle.cds_memory.specs.Links.{LinkState, link_told_of}

-- The outside in memory, which gives objects in memory.
pub record OutsideState : Type 0 where
  -- the objects that it has left, of each kind the next one first
  pub folders : List FolderState
  pub links : List LinkState
  pub clocks : List ClockState
  pub doors : List DoorState
  pub spawners : List SpawnerState
  pub datagrams : List DatagramsState
  -- what it was asked for
  pub asked : List Asked
  -- the folders, links and datagrams that came back
  pub ended : List FolderState
  pub ended_links : List LinkState
  pub ended_datagrams : List DatagramsState
  -- how many connections the doors that came back gave, how many jobs the spawners started, and how many datagrams were given
  pub connections : ℕ
  pub started : ℕ
  pub given : ℕ
  -- how many calls that ask for an object it answered, and how many faults there were
  pub calls : ℕ
  pub faults : ℕ
  -- the numbers, counted from 1, of the calls that ask for an object that are to fail
  pub fails : List ℕ

-- What it tells of itself.
abbrev pub outside_told : OutsideState → OutsideTold
outside_told outside = record {
  faults = outside.faults;
  asked = Some outside.asked;
  ended = Some (map told_of outside.ended);
  ended_links = Some (map link_told_of outside.ended_links);
  connections = outside.connections;
  started = outside.started;
  ended_datagrams = Some (map datagrams_told outside.ended_datagrams);
  datagrams = outside.given;
}

-- What was asked for, as the outside tells it.
abbrev pub asked_of : Ask → Asked
asked_of (Folder path) = ForFolder path
asked_of Link = ForLink
asked_of Clock = ForClock
asked_of (Door port) = ForDoor port
asked_of Spawner = ForSpawner
asked_of (Datagrams port) = ForDatagrams port

-- A folder before anything was asked of it.
abbrev pub folder_afresh : FolderState → FolderState
folder_afresh folder = fresh_folder folder.items folder.fails

-- The first object of a list, before anything was asked of it, and the others.
abbrev pub IsFirstOf : {A : Type 0} → (A → A) → A → List A → List A → Type 0
IsFirstOf afresh object [] left = ⊥
IsFirstOf afresh object (first ∷ others) left = (object ≡ afresh first) × (left ≡ others)
