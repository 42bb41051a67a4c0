-- What threads need of a server that they share: what comes of a scan that it is to take, and what it tells of faults. Such a server
-- may keep its catalog outside. If that fails, the server is closed: it takes no more scans, and goes on with all else.
use Rattle.std.specs.Prelude.{◌≡◌, ◌≤◌, ℕ, Bool, true, false, List, ◌∷◌, Result, Ok, Err, IsErrOf}
use Rattle.cds_object.specs.declared.record.Record.{Record}
use Rattle.cds_catalog.specs.Library.{map_of}
use Rattle.cds_catalog.specs.Scans.{Accepted, scan_answer}
use Rattle.cds_commands.specs.Commands.{Command, Start, Scans, scans_of}
use Rattle.cds_outside.specs.Outside.{Rose}
use Rattle.cds_store.specs.Applied.{IsRefusal}
use Rattle.cds_store.specs.declared.error.ApplyError.{ApplyError}
use Rattle.cds_store.specs.declared.error.ApplyError.TheVariants as apply_error
use Rattle.cds_server.specs.declared.serving.TakeError.{TakeError}
use Rattle.cds_server.specs.declared.serving.TakeError.TheVariants as take_error

-- What a server tells of faults: how many of what keeps its catalog were counted, and whether one of them closed it.
pub record ServerTold : Type 0 where
  pub faults : ℕ
  pub closed : Bool

-- a server that keeps nothing outside has no faults and never closes
abbrev pub unfailing : ServerTold
unfailing = record { faults = 0; closed = false }

-- What comes of a scan. Either the server stands for it too. Or it is refused exactly as the store refuses it, or memory ran out, or
-- the server is closed; then it stands for what it stood for.
abbrev pub Takes : {A S : Type 0} → (S → Start → List Command → Type 0) → Start → List Command → List Record → Result A TakeError → S → Type 0
Takes stands start commands records (Ok value) now =
    (scan_answer (scans_of start.first commands) records ≡ Accepted) × stands now start (Scans (map_of records) ∷ commands)
Takes stands start commands records (Err (take_error.Apply refusal)) now =
    IsRefusal (scans_of start.first commands) records refusal × stands now start commands
Takes stands start commands records (Err take_error.Keeper) now = stands now start commands
Takes stands start commands records (Err take_error.Mem) now = stands now start commands

-- `Keeper` comes exactly if the server is closed afterwards. It closes only if its count of faults rises in the call, and is never
-- open again.
pub record ClosesBy {A : Type 0} (result : Result A TakeError) (old new : ServerTold) : Type 0 where
  pub keeper : IsErrOf result take_error.Keeper → new.closed ≡ true
  pub closed : new.closed ≡ true → IsErrOf result take_error.Keeper
  pub rose : old.closed ≡ false → new.closed ≡ true → Rose old.faults new.faults
  pub stays_closed : old.closed ≡ true → new.closed ≡ true
  pub never_falls : old.faults ≤ new.faults

-- a refusal of the store, as one of a server
abbrev pub untaken : ApplyError → TakeError
untaken apply_error.Mem = take_error.Mem
untaken (apply_error.BadRecords line) = take_error.Apply (apply_error.BadRecords line)
untaken (apply_error.Full objects) = take_error.Apply (apply_error.Full objects)
untaken (apply_error.Spent needed) = take_error.Apply (apply_error.Spent needed)
