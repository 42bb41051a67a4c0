-- One scan of a folder that a shared server takes.
use Rattle.std.specs.Prelude.{◌≡◌, ◌⊎◌, ℕ, List, ◌∷◌, Result, Ok, Err, ⊤, []}
use Rattle.std.specs.List.{count_by}
use Rattle.cds_outside.specs.Entries.{FolderTold}
use Rattle.cds_outside.specs.Outside.{Rose}
use Rattle.cds_catalog.specs.Library.{map_of}
use Rattle.cds_catalog.specs.Scans.{Accepted, scan_answer}
use Rattle.cds_commands.specs.Commands.{Command, Start, Scans, scans_of}
use Rattle.cds_scan.specs.Scanning.{Covers, IsScan, IsStop, is_read_fault}
use Rattle.cds_scan.specs.declared.error.ScanError.{ScanError}
use Rattle.cds_scan.specs.declared.error.ScanError.TheVariants as scan_error
use Rattle.cds_scan.specs.declared.scanned.RefusedFile.{RefusedFile}
use Rattle.cds_scan.specs.declared.scanned.Scan.{Scan}
use Rattle.cds_store.specs.Applied.{IsRefusal}
use Rattle.cds_store.specs.declared.error.ApplyError.{ApplyError}
use Rattle.cds_store.specs.declared.error.ApplyError.TheVariants as apply_error
use Rattle.cds_server.specs.declared.serving.TakeError.{TakeError}
use Rattle.cds_server.specs.declared.serving.TakeError.TheVariants as take_error
use Rattle.cds_turn.specs.Line.{Extends}
use Rattle.cds_serve.specs.declared.scanning.ScanRefused.{ScanRefused}
use Rattle.cds_serve.specs.declared.scanning.ScanRefused.TheVariants as refused
use Rattle.cds_outside.specs.Told.{ClockTold}
use Rattle.cds_turn.specs.Turn.{SeatTold, after_turn}
use Rattle.cds_serve.specs.Told.{IsAlone, IsMoment}

-- A folder that tells `old` before and `new` after may give this scan. It is what the entries of the folder's tree come to. The
-- files left out as not read are at most as many as the folder's count of faults of files rose by.
pub record MayGive (old new : FolderTold) (scan : Scan) : Type 0 where
  pub found : IsScan old.tree old.contents scan
  pub unread : Covers (count_by (λ (file : RefusedFile). is_read_fault file.error) scan.refused) old.file_faults new.file_faults

-- A refusal of a scan, not because memory ran out: the folder's count of faults of entries rose, or the scan stopped at one of
-- its entries.
abbrev pub IsScanRefusal : FolderTold → FolderTold → ScanError → Type 0
IsScanRefusal old new scan_error.FolderFault = Rose old.entry_faults new.entry_faults
IsScanRefusal old new (scan_error.TooDeep bytes) = IsStop old.tree old.contents old.file_faults new.file_faults (scan_error.TooDeep bytes)
IsScanRefusal old new (scan_error.Full objects) = IsStop old.tree old.contents old.file_faults new.file_faults (scan_error.Full objects)
IsScanRefusal old new scan_error.TooMany = IsStop old.tree old.contents old.file_faults new.file_faults scan_error.TooMany
IsScanRefusal old new scan_error.Mem = ⊥

-- A refusal of what a scan gave, not because memory ran out, by the list of commands that the server stands for. The records of a
-- scan can all stand, so none of them is the cause.
abbrev pub IsApplyRefusal : Start → List Command → Scan → ApplyError → Type 0
IsApplyRefusal start found scan (apply_error.BadRecords line) = ⊥
IsApplyRefusal start found scan (apply_error.Full objects) = IsRefusal (scans_of start.first found) scan.records (apply_error.Full objects)
IsApplyRefusal start found scan (apply_error.Spent needed) = IsRefusal (scans_of start.first found) scan.records (apply_error.Spent needed)
IsApplyRefusal start found scan apply_error.Mem = ⊥

-- a seat, a folder and a clock, before or after a call
pub record Across : Type 0 where
  pub seat : SeatTold Command
  pub folder : FolderTold
  pub clock : ClockTold

-- No turn was taken.
abbrev pub TakesNone : ℕ → ℕ → Across → Across → Type 0
TakesNone before now old new = (new.seat ≡ old.seat) × (now ≡ before) × (new.clock ≡ old.clock)

-- One turn was taken. In it the server stood for the list `found`, and the call appended the commands `added`.
pub record TakesOne (found added : List Command) (before now : ℕ) (old new : Across) : Type 0 where
  pub begun : Extends found old.seat.seen
  pub alone : IsAlone old.seat found
  pub seat : new.seat ≡ after_turn old.seat found added
  pub moment : IsMoment old.clock new.clock before now

-- The scan was accepted: the map of the records that the folder gave was appended in one turn.
pub record Accepts (start : Start) (before now : ℕ) (old new : Across) : Type 0 where
  pub scan : Scan
  pub given : MayGive old.folder new.folder scan
  pub found : List Command
  pub accepted : scan_answer (scans_of start.first found) scan.records ≡ Accepted
  pub turn : TakesOne found (Scans (map_of scan.records) ∷ []) before now old new

-- The server refused the scan in one turn, which appended nothing.
pub record Declines (start : Start) (error : ApplyError) (before now : ℕ) (old new : Across) : Type 0 where
  pub scan : Scan
  pub given : MayGive old.folder new.folder scan
  pub found : List Command
  pub refused : IsApplyRefusal start found scan error
  pub turn : TakesOne found [] before now old new

-- why a folder was not scanned
abbrev pub IsUnscanned : FolderTold → FolderTold → ScanRefused → Type 0
IsUnscanned old new (refused.Scan error) = IsScanRefusal old new error
IsUnscanned old new (refused.Apply error) = ⊥
IsUnscanned old new refused.Keeper = ⊥
IsUnscanned old new refused.Mem = ⊤

-- a refusal of the store, as it is answered
abbrev pub declined_by : ApplyError → ScanRefused
declined_by apply_error.Mem = refused.Mem
declined_by (apply_error.BadRecords line) = refused.Apply (apply_error.BadRecords line)
declined_by (apply_error.Full objects) = refused.Apply (apply_error.Full objects)
declined_by (apply_error.Spent needed) = refused.Apply (apply_error.Spent needed)

-- a refusal of the server, as it is answered
abbrev pub declined : TakeError → ScanRefused
declined (take_error.Apply refusal) = declined_by refusal
declined take_error.Keeper = refused.Keeper
declined take_error.Mem = refused.Mem

-- What comes of a scan, by its answer:
-- - it was accepted;
-- - the folder was not scanned, and no turn was taken;
-- - the server refused what the scan gave;
-- - the server is closed, as it can be with the list found; or
-- - memory ran out, before a turn or in it
abbrev pub ScansOnce : {A : Type 0} → (List Command → Type 0) → Start → Result A ScanRefused → ℕ → ℕ → Across → Across → Type 0
ScansOnce Closes start (Ok value) before now old new = Accepts start before now old new
ScansOnce Closes start (Err (refused.Scan error)) before now old new = IsScanRefusal old.folder new.folder error × TakesNone before now old new
ScansOnce Closes start (Err (refused.Apply error)) before now old new = Declines start error before now old new
ScansOnce Closes start (Err refused.Keeper) before now old new = (found : List Command) × Closes found × TakesOne found [] before now old new
ScansOnce Closes start (Err refused.Mem) before now old new =
    TakesNone before now old new ⊎ ((found : List Command) × TakesOne found [] before now old new)
