use Rattle.std.proofs.Common.{◌≡◌, drop}
use Rattle.cds_markup.specs.Namespaces.{no_attr_twice}
use Rattle.cds_markup.specs.NamesSeen.{has_seen}
use Rattle.cds_markup.proofs.SeenNames.{are_new, attr_hash, attr_prefix, attr_local}
use Rattle.cds_markup.proofs.scope.many_attrs_differ.Given as goal

abbrev pub invariant-loop-attr : goal.invariant-loop-attr
invariant-loop-attr l = are_new attr_hash attr_prefix attr_local (has_seen l.seen) (drop l.attr-index l.attrs) ≡ no_attr_twice l.attrs
