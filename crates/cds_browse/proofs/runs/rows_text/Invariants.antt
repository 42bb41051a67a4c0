-- The text of the rows so far.
use Rattle.std.proofs.Common.{◌≡◌, take, string_bytes}
use Rattle.cds_object.specs.Fragment.{full_text}
use Rattle.cds_browse.proofs.runs.rows_text.Given as goal

abbrev pub invariant-loop-at : goal.invariant-loop-at
invariant-loop-at g l = string_bytes l.text ≡ full_text (take l.at (g.V.View.rows l.view))
