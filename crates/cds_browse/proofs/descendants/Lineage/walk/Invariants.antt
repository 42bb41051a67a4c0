-- From the first row and from the row that was met the way leads to where it has come.
use Rattle.std.proofs.Common.{◌≡◌, ◌+◌, ◌<◌, ◌≤◌, ℕ, length}
use Rattle.cds_browse.specs.Lineage.{leads_from, leads}
use Rattle.cds_browse.proofs.descendants.Lineage.walk.Given as goal

abbrev pub invariant-loop-step : goal.invariant-loop-step
invariant-loop-step g l = record {
  within : l.at < length (g.V.View.rows l.view);
  same : leads (g.V.View.rows l.view) l.self.container l.place ≡ leads (g.V.View.rows l.view) l.self.container l.at;
  walked : (m : ℕ) → leads_from (m + l._step) (g.V.View.rows l.view) l.self.container l.place ≡ leads_from m (g.V.View.rows l.view) l.self.container l.at;
  since : (m : ℕ) → leads_from (m + l.since) (g.V.View.rows l.view) l.self.container l.met ≡ leads_from m (g.V.View.rows l.view) l.self.container l.at;
  few : l.since ≤ l._step;
}
