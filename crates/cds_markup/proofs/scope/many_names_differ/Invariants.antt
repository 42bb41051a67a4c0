use Rattle.std.proofs.Common.{◌≡◌, drop}
use Rattle.cds_markup.specs.Namespaces.{no_name_twice}
use Rattle.cds_markup.specs.NamesSeen.{has_seen}
use Rattle.cds_markup.proofs.SeenNames.{are_new, name_hash, name_space, name_local}
use Rattle.cds_markup.proofs.scope.many_names_differ.Given as goal

abbrev pub invariant-loop-attr : goal.invariant-loop-attr
invariant-loop-attr l = are_new name_hash name_space name_local (has_seen l.seen) (drop l.attr-index l.attrs) ≡ no_name_twice l.attrs
