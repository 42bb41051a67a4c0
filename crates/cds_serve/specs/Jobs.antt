-- What the three jobs of a server that listens answer, and which commands they and its stop gave.
use Rattle.std.specs.Prelude.{◌≡◌, ◌≢◌, ◌⊎◌, ◌+◌, ◌<◌, ◌≤◌, ℕ, Bool, IsTrue, List, [], ◌∷◌, ◌++◌, length, map, ⊤}
use Rattle.std.specs.List.{AllByRecursion, count_by}
use Rattle.cds_outside.specs.Entries.{FolderTold}
use Rattle.cds_outside.specs.Outside.{raised, Rose}
use Rattle.cds_outside.specs.Told.{DoorTold}
use Rattle.cds_catalog.specs.Library.{FolderMap, map_of}
use Rattle.cds_catalog.specs.Scans.{Accepted, scan_answer}
use Rattle.cds_commands.specs.Commands.{Command, Start, Ends, Grants, Renews, Scans, Stops, Ticks, is_stopped, scans_of}
use Rattle.cds_scan.specs.Scanning.{IsStop}
use Rattle.cds_scan.specs.declared.error.ScanError.{ScanError}
use Rattle.cds_scan.specs.declared.scanned.Scan.{Scan}
use Rattle.cds_server.specs.Serving.{Serving, StandsFor}
use Rattle.cds_turn.specs.declared.seat.Seat.{Seat}
use Rattle.cds_turn.specs.declared.stands.StandsFor.{Ghosts}
use Rattle.cds_turn.specs.declared.turn.Turn.{Turn}
use Rattle.cds_turn.specs.Line.{Extends}
use Rattle.cds_turn.specs.Turn.{SeatTold, own_by, passes_of}
use Rattle.cds_serve.specs.Scanned.{MayGive}

-- ---- a worker

-- A worker answers how many connections its door gave. That is its share, or fewer if the door failed. The door's count stops at
-- the last value of a u64.
pub record EndsWorking (share served : ℕ) (old new : DoorTold) : Type 0 where
  pub gave : raised new.connections 0 ≡ raised old.connections served
  pub no_more : served ≤ share
  pub all : (served ≡ share) ⊎ Rose old.faults new.faults
  pub never_falls : old.faults ≤ new.faults

-- a command that a request about a subscription gives: a grant, a renewal or an end
abbrev pub IsOfMessage : Command → Type 0
IsOfMessage (Grants now callback seconds) = ⊤
IsOfMessage (Renews now number seconds) = ⊤
IsOfMessage (Ends now number) = ⊤
IsOfMessage (Scans library) = ⊥
IsOfMessage (Ticks now) = ⊥
IsOfMessage Stops = ⊥

-- Such commands and no others were added to a list.
abbrev pub AddsAnswers : List Command → List Command → Type 0
AddsAnswers before own = (commands : List Command) × AllByRecursion IsOfMessage commands × (own ≡ commands ++ before)

-- ---- the scanner

-- Scans and no other commands were added to a list, as many as are counted as accepted. The count stops at the last value of a u64.
abbrev pub AddsScans : ℕ → List Command → List Command → Type 0
AddsScans accepted before own = (maps : List FolderMap) × (accepted ≡ raised 0 (length maps)) × (own ≡ map Scans maps ++ before)

-- The maps of what scans gave stand among commands, the newest first, each at a place of its own.
abbrev pub StandAmong : List Scan → List Command → Type 0
StandAmong [] commands = ⊤
StandAmong (scan ∷ scans) [] = ⊥
StandAmong (scan ∷ scans) (command ∷ older) =
    ((command ≡ Scans (map_of scan.records)) × StandAmong scans older) ⊎ StandAmong (scan ∷ scans) older

-- This many scans of the folder were accepted; the count stops at the last value of a u64. The folder may give each of them.
-- Their maps stand among what the seat has seen since the beginning, each at a place of its own. If the seat is the only one,
-- they are all that it has seen since.
pub record AreAccepted (passes seats : ℕ) (old new : FolderTold) (before seen : List Command) (accepted : ℕ) : Type 0 where
  pub scans : List Scan
  pub many : accepted ≡ raised 0 (length scans)
  pub given : AllByRecursion (MayGive old new) scans
  pub since : List Command
  pub begun : seen ≡ since ++ before
  pub stand : StandAmong scans since
  pub alone : passes ≡ seats → seen ≡ map (λ (scan : Scan). Scans (map_of scan.records)) scans ++ before

-- A server that stood for the commands refuses what a scan of the folder may give.
pub record IsUnacceptable (start : Start) (old new : FolderTold) (seen : List Command) : Type 0 where
  pub scan : Scan
  pub given : MayGive old new scan
  pub older : List Command
  pub begun : Extends seen older
  pub refused : scan_answer (scans_of start.first older) scan.records ≢ Accepted

-- why a scan was refused, if memory did not run out:
-- - the folder's count of faults of entries rose;
-- - a scan refuses the folder's tree; or
-- - a server refuses what a scan of the folder may give, at a beginning of what the seat has seen
abbrev pub CanRefuse : Start → FolderTold → FolderTold → List Command → Type 0
CanRefuse start old new seen =
    Rose old.entry_faults new.entry_faults
    ⊎ (((error : ScanError) × IsStop old.tree old.contents old.file_faults new.file_faults error)
    ⊎ IsUnacceptable start old new seen)

-- So far: each scan counted as accepted is one of the folder and stands in what the seat has seen. If a scan is counted as
-- refused, there is a cause. The folder tells the same tree, and its counts of faults never fall.
pub record ScansSoFar (start : Start) (passes seats : ℕ) (old new : FolderTold) (before seen : List Command) (accepted refused : ℕ) : Type 0 where
  pub begun : Extends seen before
  pub stands : AreAccepted passes seats old new before seen accepted
  pub cause : 0 < refused → CanRefuse start old new seen
  pub tree : new.tree ≡ old.tree
  pub contents : new.contents ≡ old.contents
  pub entry_faults : old.entry_faults ≤ new.entry_faults
  pub file_faults : old.file_faults ≤ new.file_faults

-- The scanner ended. It counts at least one scan and has seen the stop. Each scan counted as accepted is one of the folder and
-- stands in what the seat has seen. If a scan is counted as refused, there is a cause. If its seat is the only one, it has added
-- nothing except the scans counted as accepted.
pub record EndsScanning (start : Start) (passes seats : ℕ) (old new : FolderTold) (before seen : List Command) (accepted refused memory : ℕ) : Type 0 where
  pub begun : Extends seen before
  pub stands : AreAccepted passes seats old new before seen accepted
  pub stopped : IsTrue (is_stopped seen)
  pub some : 1 ≤ accepted + refused + memory
  pub cause : 0 < refused → CanRefuse start old new seen

-- ---- the notifier

-- Ticks and nothing else were added to a list.
abbrev pub AddsTicks : List Command → List Command → Type 0
AddsTicks before seen = (moments : List ℕ) × (seen ≡ map Ticks moments ++ before)

-- The notifier ended. The newest command that its seat has seen is a tick, and a stop is among those before it. If its seat is
-- the only one, it has added nothing except ticks.
pub record EndsNotifying (old new : SeatTold Command) : Type 0 where
  pub moment : ℕ
  pub found : List Command
  pub last : new.seen ≡ Ticks moment ∷ found
  pub begun : Extends found old.seen
  pub stopped : IsTrue (is_stopped found)
  pub own : AddsTicks old.own new.own
  pub passes : new.passes ≡ old.passes
  pub alone : old.passes ≡ old.seats → AddsTicks old.seen new.seen

-- ---- all jobs

module _ {V C T : Type 0} {of : Ghosts V C T} where
  -- A job that was not started yet shares this turn. Its seat has one pass and no commands of its own.
  abbrev pub IsHired : Turn V C T → Turn V C T → Seat V C T of → Type 0
  IsHired turn theirs seat = (theirs ≡ turn) × (passes_of seat ≡ 1) × (length (own_by seat) ≡ 0)

-- Answers and no other commands follow a list.
abbrev pub FollowAnswers : List Command → List Command → Type 0
FollowAnswers before own = (answers : List Command) × AllByRecursion IsOfMessage answers × (own ≡ before ++ answers)

-- This many scans and no other commands follow a list. The count stops at the last value of a u64.
abbrev pub FollowScans : ℕ → List Command → List Command → Type 0
FollowScans accepted before own = (maps : List FolderMap) × (accepted ≡ raised 0 (length maps)) × (own ≡ before ++ map Scans maps)

-- Ticks and no other commands follow a list.
abbrev pub FollowTicks : List Command → List Command → Type 0
FollowTicks before own = (moments : List ℕ) × (own ≡ before ++ map Ticks moments)

-- Requests about subscriptions, scans, ticks and one stop gave all of these commands, counted by any test. There are as many scans
-- as were counted as accepted. The count stops at the last value of a u64.
pub record IsAllGiven (commands : List Command) (accepted : ℕ) : Type 0 where
  pub answers : List Command
  pub answered : AllByRecursion IsOfMessage answers
  pub maps : List FolderMap
  pub scanned : accepted ≡ raised 0 (length maps)
  pub moments : List ℕ
  pub all : (test : Command → Bool) → count_by test commands ≡ count_by test (answers ++ map Scans maps ++ map Ticks moments ++ Stops ∷ [])

-- A seat is the only one of its turn. A server stands for what it has seen, from this start. The jobs and one stop gave all of it.
pub record HasSeenAll (start : Start) (seat : SeatTold Command) (accepted : ℕ) : Type 0 where
  pub alone : seat.passes ≡ seat.seats
  pub serving : Serving
  pub stands : StandsFor serving start seat.seen
  pub given : IsAllGiven seat.seen accepted
