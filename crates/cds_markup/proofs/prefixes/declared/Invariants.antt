use Rattle.std.proofs.Common.{◌≡◌, drop}
use Rattle.cds_markup.specs.Namespaces.{declared}
use Rattle.cds_markup.proofs.prefixes.declared.Given as goal

abbrev pub invariant-loop-one : goal.invariant-loop-one
invariant-loop-one l = declared (drop l.one-index l.found) l.prefix ≡ declared l.found l.prefix
