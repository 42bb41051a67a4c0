-- So far this many changes were made.
use Rattle.std.proofs.Common.{◌≡◌}
use Rattle.cds_generate.specs.Library.{drawn_changes}
use Rattle.cds_generate.proofs.library.Library.change_often.Given as goal

abbrev pub invariant-loop : goal.invariant-loop
invariant-loop l = l.self ≡ drawn_changes l.counter l.fn.self
