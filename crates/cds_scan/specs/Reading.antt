-- What the reading of one file answers.
use Rattle.std.specs.Prelude.{◌≡◌, ◌^◌, ◌<◌, ℕ, ⊤, List, Option, Result, Ok, Err}
use Rattle.cds_base.specs.declared.mem.Mem.{Mem as Memory}
use Rattle.cds_outside.specs.Entries.{Contents}
use Rattle.cds_outside.specs.Outside.{Rose}
use Rattle.cds_flac.specs.declared.error.FlacError.{FlacError}
use Rattle.cds_flac.specs.declared.error.FlacError.TheVariants.{ReadFault, Mem}
use Rattle.cds_object.specs.declared.info.FlacInfo.{FlacInfo}
use Rattle.cds_scan.specs.declared.file.Reading.{Reading}
use Rattle.cds_scan.specs.declared.file.Reading.TheVariants.{Read, Unread}
use Rattle.cds_scan.specs.Outcomes.{IsInfo, IsRefusal}

-- what the file at a path says, or why it is refused
abbrev pub IsReading : Option Contents → List ℕ → Reading → Type 0
IsReading contents path (Read info) = IsInfo contents path info
IsReading contents path (Unread refusal) = IsRefusal contents path refusal

-- If a file is read, it has fewer than 2^36 samples.
abbrev pub HasSamples : Reading → Type 0
HasSamples (Read info) = info.samples < 2 ^ 36
HasSamples (Unread refusal) = ⊤

-- If the answer is a failed read, the count of faults rose.
abbrev pub FaultRose : FlacError → ℕ → ℕ → Type 0
FaultRose ReadFault old new = Rose old new
FaultRose _ old new = ⊤

abbrev pub ReadFaultRose : Reading → ℕ → ℕ → Type 0
ReadFaultRose (Read info) old new = ⊤
ReadFaultRose (Unread refusal) old new = FaultRose refusal old new

-- If memory runs out, the file is not refused.
abbrev pub IsUnread : FlacError → Result Reading Memory → Type 0
IsUnread Mem answer = (memory : Memory) × (answer ≡ Err memory)
IsUnread refusal answer = answer ≡ Ok (Unread refusal)

abbrev pub IsReadingOf : Result FlacInfo FlacError → Result Reading Memory → Type 0
IsReadingOf (Ok info) answer = answer ≡ Ok (Read info)
IsReadingOf (Err refusal) answer = IsUnread refusal answer
