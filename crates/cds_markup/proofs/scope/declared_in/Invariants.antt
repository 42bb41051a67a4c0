use Rattle.std.proofs.Common.{◌≡◌, drop}
use Rattle.cds_markup.proofs.Terms.{declared_in, scopes_in}
use Rattle.cds_markup.proofs.scope.declared_in.Given as goal

abbrev pub invariant-loop-open : goal.invariant-loop-open
invariant-loop-open l = declared_in (scopes_in (drop l.open-index l.opens)) l.prefix ≡ declared_in (scopes_in l.opens) l.prefix
