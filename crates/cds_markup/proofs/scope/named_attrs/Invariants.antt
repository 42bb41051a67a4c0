use Rattle.std.proofs.Common.{◌≡◌, ◌∷◌}
use Rattle.cds_markup.proofs.Terms.{named_attrs, scopes_in}
use Rattle.cds_markup.proofs.Only.{named_behind}
use Rattle.cds_markup.proofs.scope.named_attrs.Given as goal

abbrev pub invariant-loop-attr : goal.invariant-loop-attr
invariant-loop-attr l = named_behind l.found (named_attrs (l.inner ∷ scopes_in l.opens) l.attr-iterator.rest.items) ≡ named_attrs (l.inner ∷ scopes_in l.opens) l.fn.attrs
