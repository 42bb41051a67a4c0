-- All that is known is so, and the answer is that of the row to which the way has come.
use Rattle.std.proofs.Common.{◌≡◌, ◌<◌, length}
use Rattle.cds_browse.specs.Lineage.{leads, AreKnown}
use Rattle.cds_browse.proofs.descendants.Lineage.keep.Given as goal

abbrev pub invariant-loop-step : goal.invariant-loop-step
invariant-loop-step g l = record {
  container : l.self.container ≡ l.initial.self.container;
  last : l.self.last ≡ l.initial.self.last;
  within : l.at < length (g.V.View.rows l.view);
  known : AreKnown (g.V.View.rows l.view) l.self.container l.self.known.items;
  answer : leads (g.V.View.rows l.view) l.self.container l.at ≡ l.below;
}
