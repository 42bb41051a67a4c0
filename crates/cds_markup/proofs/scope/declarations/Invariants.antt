use Rattle.std.proofs.Common.{◌≡◌, ◌++◌, drop}
use Rattle.cds_markup.specs.Namespaces.{declarations}
use Rattle.cds_markup.proofs.scope.declarations.Given as goal

abbrev pub invariant-loop-attr : goal.invariant-loop-attr
invariant-loop-attr l = l.found ++ declarations (drop l.attr-index l.attrs) ≡ declarations l.attrs
