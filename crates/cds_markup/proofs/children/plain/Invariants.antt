use Rattle.std.proofs.Common.{◌≡◌, drop, find}
use Rattle.cds_markup.specs.Children.{is_plain}
use Rattle.cds_markup.proofs.children.plain.Given as goal

abbrev pub invariant-loop-attr : goal.invariant-loop-attr
invariant-loop-attr l = find (is_plain l.local) (drop l.attr-index l.attrs) ≡ find (is_plain l.local) l.attrs
