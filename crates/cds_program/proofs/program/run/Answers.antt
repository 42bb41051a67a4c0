-- A command names a number of tracks that a generated library may have.
use Rattle.std.proofs.Common.{sym}
use Rattle.cds_program.proofs.Tracks.{few-tracks}
use Rattle.cds_program.proofs.program.run.Goals as goal

pub write_script-requires-clause-some : goal.write_script-requires-clause-some
write_script-requires-clause-some g c = (few-tracks c.as_slice.result.now _ _ (sym (rw c.in-Some-Generate.field-0-is at c.in-Some-Generate.ensures))).0

pub write_script-requires-clause-few : goal.write_script-requires-clause-few
write_script-requires-clause-few g c = (few-tracks c.as_slice.result.now _ _ (sym (rw c.in-Some-Generate.field-0-is at c.in-Some-Generate.ensures))).1
