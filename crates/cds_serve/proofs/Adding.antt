-- The commands that a message adds, in two ways of writing them.
use Rattle.std.proofs.Common.{◌≡◌, List, ◌++◌, Option, Some, None, Result, Ok, Err, refl}
use Rattle.cds_commands.specs.Commands.{Command, Start}
use Rattle.cds_object.specs.declared.record.Record.{Record}
use Rattle.cds_server.specs.Outcome.{and_command}
use Rattle.cds_server.specs.Taking.{ClosesBy, ServerTold, Takes}
use Rattle.cds_server.specs.declared.serving.TakeError.{TakeError}
use Rattle.cds_server.specs.declared.serving.TakeError.TheVariants as take_error
use Rattle.cds_serve.specs.Acts.{IsScanAnswer, scan_adds}
use Rattle.cds_serve.specs.Served.{CanBeClosed, added}

pub and-added : (command : Option Command) (found : List Command) → and_command command found ≡ added command ++ found
and-added None found = refl
and-added (Some command) found = refl

-- what comes of a scan, as the list found says it
pub scan-answered : {A S : Type 0} (told : S → ServerTold) (stands : S → Start → List Command → Type 0) (start : Start) (found : List Command) (records : List Record)
    (result : Result A TakeError) (before : ServerTold) (now : S) → Takes stands start found records result now → ClosesBy result before (told now)
    → IsScanAnswer (CanBeClosed told stands start) start found records result
scan-answered told stands start found records (Ok value) before now takes closes = takes.0
scan-answered told stands start found records (Err (take_error.Apply refusal)) before now takes closes = takes.0
scan-answered told stands start found records (Err take_error.Keeper) before now takes closes = (now, closes.keeper refl, takes)
scan-answered told stands start found records (Err take_error.Mem) before now takes closes = tt

pub scan-stands : {A S : Type 0} (stands : S → Start → List Command → Type 0) (start : Start) (found : List Command) (records : List Record)
    (result : Result A TakeError) (now : S) → Takes stands start found records result now → stands now start (scan_adds records result ++ found)
scan-stands stands start found records (Ok value) now takes = takes.1
scan-stands stands start found records (Err (take_error.Apply refusal)) now takes = takes.1
scan-stands stands start found records (Err take_error.Keeper) now takes = takes
scan-stands stands start found records (Err take_error.Mem) now takes = takes
