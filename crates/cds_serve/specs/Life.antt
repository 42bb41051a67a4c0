-- A server that listens at a port, from its start to its end (this project's profile).
use Rattle.std.specs.Prelude.{◌≡◌, ◌⊎◌, ◌+◌, ◌*◌, ◌/◌, ◌%◌, ◌^◌, ◌≤◌, ◌<◌, ℕ, codes, nat_lt, if◌then◌else◌, slice_index, List, [], ◌∷◌, ◌++◌, length, take, zero, suc, Option, Some, Result, Ok, Err, ⊤}
use Rattle.std.specs.Fmt.{decimal}
use Rattle.cds_outside.specs.Asked.{Asked, ForClock, ForDoor, ForFolder, ForLink, ForSpawner}
use Rattle.cds_outside.specs.Entries.{FolderTold}
use Rattle.cds_outside.specs.Outside.{HoldsPart, Rose, SinkTold, Told, raised}
use Rattle.cds_outside.specs.declared.exterior.OutsideFault.{OutsideFault}
use Rattle.cds_outside.specs.declared.exterior.OutsideFault.TheVariants as outside_fault
use Rattle.cds_commands.specs.Commands.{Command, Start}
use Rattle.cds_server.specs.Serving.{Serving, StandsFor}
use Rattle.cds_outside.specs.Told.{ClockTold, DoorTold, OutsideTold, asked_then}
use Rattle.cds_serve.specs.Jobs.{IsAllGiven}
use Rattle.cds_serve.specs.Told.{IsMoment}
use Rattle.cds_serve.specs.declared.fault.Fault.{Fault}
use Rattle.cds_serve.specs.declared.fault.Fault.TheVariants as fault

-- ---- what is written

abbrev pub serving_line : ℕ → List ℕ
serving_line port = codes "serving " ++ decimal port ++ codes "\n"

-- The number of scans that were accepted, and of those that were refused. `memory` counts the refusals because memory ran out,
-- and `refused` all others.
pub record Counts : Type 0 where
  pub accepted : ℕ
  pub refused : ℕ
  pub memory : ℕ

-- The counts of a scanner: at least one scan is counted, and each count stops at the last value of a u64.
pub record AreCounts (counts : Counts) : Type 0 where
  pub some : 1 ≤ counts.accepted + counts.refused + counts.memory
  pub accepted : counts.accepted < 2 ^ 64
  pub refused : counts.refused < 2 ^ 64
  pub memory : counts.memory < 2 ^ 64

abbrev pub served_line : ℕ → Counts → List ℕ
served_line requests counts =
    codes "served " ++ decimal requests ++ codes " scans " ++ decimal counts.accepted ++ codes " refused " ++ decimal counts.refused
    ++ codes " memory " ++ decimal counts.memory ++ codes "\n"

-- the whole output
abbrev pub life_text : ℕ → ℕ → Counts → List ℕ
life_text port requests counts = serving_line port ++ served_line requests counts

-- ---- what the outside is asked for

-- what n workers are given: each a clock, a link and a folder
abbrev pub worker_asks : List ℕ → ℕ → List Asked
worker_asks path zero = []
worker_asks path (suc workers) = ForClock ∷ ForLink ∷ ForFolder path ∷ worker_asks path workers

-- A door, a spawner, and the scanner's folder. Then what four workers are given. Then a clock for the scanner, and a clock and a link
-- for the notifier.
abbrev pub life_asks : ℕ → List ℕ → List Asked
life_asks port path =
    ForDoor port ∷ ForSpawner ∷ ForFolder path ∷ worker_asks path 4 ++ ForClock ∷ ForClock ∷ ForLink ∷ []

-- ---- the boot words

-- The first word is a moment of the clock modulo 2^48, or 0 if the clock failed. The second word is the port. Both stand in the
-- bits that names keep.
abbrev pub first_word : ℕ → ℕ
first_word moment = (moment % 2 ^ 48) * 2 ^ 16

abbrev pub second_word : ℕ → ℕ
second_word port = port * 2 ^ 32

-- The boot words of a server at a port, by a clock. They are those of the one moment that the clock gave, or of 0 if it gave none
-- and counted a fault.
pub record AreBootWords (port : ℕ) (old new : ClockTold) (boot : List ℕ) : Type 0 where
  pub moment : ℕ
  pub asked : IsMoment old new 0 moment
  pub words : boot ≡ first_word moment ∷ second_word port ∷ []

-- A clock was asked once: it gave this moment and no other. Or it failed, as its count says, gave none, and the moment is 0.
abbrev pub GaveOnce : ClockTold → ℕ → Type 0
GaveOnce clock moment =
    ((clock.last ≡ moment) × Told clock.gave (λ list. list ≡ moment ∷ []))
    ⊎ (Rose 0 clock.faults × (moment ≡ 0) × Told clock.gave (λ list. list ≡ []))

-- The boot words of a server at a port, by a clock that was asked once.
pub record AreFirstWords (port : ℕ) (clock : ClockTold) (boot : List ℕ) : Type 0 where
  pub moment : ℕ
  pub once : GaveOnce clock moment
  pub words : boot ≡ first_word moment ∷ second_word port ∷ []

-- the start of a server with these boot words, at the number 0
abbrev pub start_with : List ℕ → Start
start_with boot = record { high = slice_index boot 0; low = slice_index boot 1; first = 0; wrap = 4294967295 }

-- the start of a server that was opened with the boot words of a moment and a port
abbrev pub start_at : ℕ → ℕ → Start
start_at moment port = start_with (first_word moment ∷ second_word port ∷ [])

-- A server was opened at a port, with the boot words of some moment.
abbrev pub IsOpenedAt : ℕ → Start → Type 0
IsOpenedAt port start = (moment : ℕ) × (start ≡ start_at moment port)

-- A list has a first element, and this holds of it.
abbrev pub OfFirst : {A : Type 0} → (A → Type 0) → List A → Type 0
OfFirst P [] = ⊥
OfFirst P (x ∷ xs) = P x

-- ---- the shares of the workers

-- If the number is no multiple of 4, the first workers serve one connection more.
abbrev pub share_of : ℕ → ℕ → ℕ
share_of requests worker = requests / 4 + (if nat_lt worker (requests % 4) then 1 else 0)

-- ---- the end

-- the outside and the sink, before or after the call
pub record Outer : Type 0 where
  pub outside : OutsideTold
  pub sink : SinkTold

-- All that a server at a port accepted, from its opening to its end. It was opened with the boot words of a moment and the port. At
-- its end a server stands for these commands; the newest stands first. Requests about subscriptions, this many scans, ticks and one
-- stop gave all of them.
pub record AllAccepted (port scans : ℕ) : Type 0 where
  pub commands : List Command
  pub moment : ℕ
  pub serving : Serving
  pub stands : StandsFor serving (start_at moment port) commands
  pub given : IsAllGiven commands scans

-- The server served to its end. Both lines are written, the doors gave as many connections as were asked for, and six jobs were
-- started. Its jobs and its stop gave all that it accepted.
pub record Served (port : ℕ) (path : List ℕ) (requests : ℕ) (old new : Outer) : Type 0 where
  pub counts : Counts
  pub are_counts : AreCounts counts
  pub written : Told old.sink.holds (λ held. new.sink.holds ≡ Some (held ++ life_text port requests counts))
  pub connections : new.outside.connections ≡ raised old.outside.connections requests
  pub started : new.outside.started ≡ raised old.outside.started 6
  pub asked : Told old.outside.asked (λ list. new.outside.asked ≡ Some (list ++ life_asks port path))
  pub accepted : AllAccepted port counts.accepted

-- The server ended early. A prefix of its possible output is written, and the outside was asked for the first n things.
pub record Stops (port : ℕ) (path : List ℕ) (requests : ℕ) (old new : Outer) : Type 0 where
  pub counts : Counts
  pub are_counts : AreCounts counts
  pub written : Told old.sink.holds (λ held. HoldsPart held (life_text port requests counts) new.sink.holds)
  pub asked : Told old.outside.asked (λ list. (n : ℕ) × (new.outside.asked ≡ Some (list ++ take n (life_asks port path))))

-- ---- its parts

-- the status of an end
abbrev pub status_of : {A : Type 0} → Result A Fault → ℕ
status_of (Ok value) = 0
status_of (Err fault.Sink) = 3
status_of (Err fault.Mem) = 4
status_of (Err fault.Outside) = 7

-- A fault of the sink has one cause, and a fault of the outside another.
abbrev pub IsCaused : {A : Type 0} → Result A Fault → Type 0 → Type 0 → Type 0
IsCaused (Ok value) sink outside = ⊤
IsCaused (Err fault.Sink) sink outside = sink
IsCaused (Err fault.Mem) sink outside = ⊤
IsCaused (Err fault.Outside) sink outside = outside

-- Both lines were written, with the counts of all that the server accepted.
pub record WritesBoth (port requests : ℕ) (before after : Option (List ℕ)) : Type 0 where
  pub counts : Counts
  pub are_counts : AreCounts counts
  pub written : Told before (λ held. after ≡ Some (held ++ life_text port requests counts))
  pub accepted : AllAccepted port counts.accepted

-- Both lines were written, or a prefix of a possible output.
abbrev pub WritesLife : {A : Type 0} → Result A Fault → ℕ → ℕ → Option (List ℕ) → Option (List ℕ) → Type 0
WritesLife (Ok value) port requests before after = WritesBoth port requests before after
WritesLife (Err cause) port requests before after =
    Told before (λ held. (counts : Counts) × AreCounts counts × HoldsPart held (life_text port requests counts) after)

-- The outside was asked for all of these, or for the first n of them.
abbrev pub AsksFor : {A : Type 0} → Result A Fault → List Asked → Option (List Asked) → Option (List Asked) → Type 0
AsksFor (Ok value) asks before after = Told before (λ list. after ≡ Some (list ++ asks))
AsksFor (Err cause) asks before after = Told before (λ list. (n : ℕ) × (after ≡ Some (list ++ take n asks)))

-- A line was written, or a prefix of it.
abbrev pub WritesLine : {A : Type 0} → Result A Fault → List ℕ → Option (List ℕ) → Option (List ℕ) → Type 0
WritesLine (Ok value) line before after = Told before (λ held. after ≡ Some (held ++ line))
WritesLine (Err cause) line before after = Told before (λ held. HoldsPart held line after)

-- a fault of the outside, as one of the server
abbrev pub fault_of : OutsideFault → Fault
fault_of outside_fault.Failed = fault.Outside
fault_of outside_fault.Mem = fault.Mem

-- The outside was asked for these, or for the first n of them if it failed or memory ran out. Nothing came back to it.
pub record Asks {A : Type 0} (result : Result A Fault) (asks : List Asked) (old new : OutsideTold) : Type 0 where
  pub asked : AsksFor result asks old.asked new.asked
  pub cause : IsCaused result ⊥ (Rose old.faults new.faults)
  pub others : new ≡ asked_then old new
  pub never_falls : old.faults ≤ new.faults

-- the same, beside a door that may fail too and that gave no connection
pub record Takes {A : Type 0} (result : Result A Fault) (asks : List Asked) (old new : OutsideTold) (door after : DoorTold) : Type 0 where
  pub asked : AsksFor result asks old.asked new.asked
  pub cause : IsCaused result ⊥ (Rose old.faults new.faults ⊎ Rose door.faults after.faults)
  pub others : new ≡ asked_then old new
  pub never_falls : old.faults ≤ new.faults
  pub none_given : after.connections ≡ door.connections
  pub door_never_falls : door.faults ≤ after.faults

-- ---- the whole

-- Doors and folders came back to the outside and nothing else did. Its counts of faults and of connections may rise.
abbrev pub doors_back : OutsideTold → OutsideTold → OutsideTold
doors_back old new = record old { faults = new.faults; ended = new.ended; connections = new.connections }

-- Nothing came back of folders and links.
abbrev pub StaysEnded : OutsideTold → OutsideTold → Type 0
StaysEnded old new = (new.ended ≡ old.ended) × (new.ended_links ≡ old.ended_links)

-- No more than n folders came back.
abbrev pub FoldersBack : ℕ → Option (List FolderTold) → Option (List FolderTold) → Type 0
FoldersBack n old new = Told old (λ list. (folders : List FolderTold) × (length folders ≤ n) × (new ≡ Some (list ++ folders)))

-- The folders of the four workers may have come back, and no other folder. The links that came back are the same as before.
abbrev pub KeepsEnded : OutsideTold → OutsideTold → Type 0
KeepsEnded old new = FoldersBack 4 old.ended new.ended × (new.ended_links ≡ old.ended_links)

-- The status and its cause:
-- - 0: the server served to its end
-- - 3: only if a write to the sink failed
-- - 4: memory ran out
-- - 7: only if the outside failed, or an object that came back to it
abbrev pub EndsLife : ℕ → List ℕ → ℕ → ℕ → Outer → Outer → Type 0
EndsLife port path requests status old new =
    ((status ≡ 0) × Served port path requests old new)
    ⊎ (((status ≡ 3) × Rose old.sink.faults new.sink.faults × Stops port path requests old new)
    ⊎ (((status ≡ 4) × Stops port path requests old new)
    ⊎ ((status ≡ 7) × Rose old.outside.faults new.outside.faults × Stops port path requests old new)))
