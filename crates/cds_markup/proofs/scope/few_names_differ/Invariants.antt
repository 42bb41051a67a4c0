use Rattle.std.proofs.Common.{◌≡◌, length}
use Rattle.cds_markup.specs.Namespaces.{no_name_twice}
use Rattle.cds_markup.proofs.scope.few_names_differ.Given as goal

abbrev pub invariant-loop-first : goal.invariant-loop-first
invariant-loop-first l = no_name_twice l.left ≡ no_name_twice l.attrs

abbrev pub decreases-loop-first : goal.decreases-loop-first
decreases-loop-first l = length l.left
