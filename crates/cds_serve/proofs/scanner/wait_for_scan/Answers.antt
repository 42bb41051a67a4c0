-- Each look sees what was seen before, and the last one the stop.
use Rattle.std.proofs.Common.{[], refl, sym, ap, ◌∙◌}
use Rattle.cds_commands.specs.Commands.{is_stopped}
use Rattle.cds_serve.proofs.Rounds.{read-later}
use Rattle.cds_serve.proofs.scanner.wait_for_scan.Goals as goal

pub looks-init : goal.looks-init
looks-init g c = record { seat = c.requires; passes = refl; begun = ([], refl); own = refl; alone = λ only. refl }

pub looks-preserved : goal.looks-preserved
looks-preserved g c =
    let f = c.with.ensures.found in
    record {
      seat = c.with.ensures.seat;
      passes = c.with.ensures.passes ∙ c.looks.invariant.passes;
      begun = read-later _ _ f.0 _ f.4 f.1 c.looks.invariant.begun;
      own = f.5 ∙ c.looks.invariant.own;
      alone = λ only. f.4 ∙ f.2 (c.looks.invariant.passes ∙ only) ∙ c.looks.invariant.alone only;
    }

pub returns-then-with-clause-begun : goal.returns-then-with-clause-begun
returns-then-with-clause-begun g c =
    let f = c.with.ensures.found in
    read-later _ _ f.0 _ f.4 f.1 c.looks.invariant.begun

pub returns-then-with-clause-own : goal.returns-then-with-clause-own
returns-then-with-clause-own g c = c.with.ensures.found.5 ∙ c.looks.invariant.own

pub returns-then-with-clause-alone : goal.returns-then-with-clause-alone
returns-then-with-clause-alone g c =
    let f = c.with.ensures.found in
    λ only. f.4 ∙ f.2 (c.looks.invariant.passes ∙ only) ∙ c.looks.invariant.alone only

pub returns-then-with-clause-stopped : goal.returns-then-with-clause-stopped
returns-then-with-clause-stopped g c =
    let f = c.with.ensures.found in
    λ stopped. ap is_stopped f.4 ∙ sym f.3 ∙ c.if-with.true

pub returns-then-saturating_sub-ge-PAUSE-clause-begun : goal.returns-then-saturating_sub-ge-PAUSE-clause-begun
returns-then-saturating_sub-ge-PAUSE-clause-begun g c =
    let f = c.with.ensures.found in
    read-later _ _ f.0 _ f.4 f.1 c.looks.invariant.begun

pub returns-then-saturating_sub-ge-PAUSE-clause-own : goal.returns-then-saturating_sub-ge-PAUSE-clause-own
returns-then-saturating_sub-ge-PAUSE-clause-own g c = c.with.ensures.found.5 ∙ c.looks.invariant.own

pub returns-then-saturating_sub-ge-PAUSE-clause-alone : goal.returns-then-saturating_sub-ge-PAUSE-clause-alone
returns-then-saturating_sub-ge-PAUSE-clause-alone g c =
    let f = c.with.ensures.found in
    λ only. f.4 ∙ f.2 (c.looks.invariant.passes ∙ only) ∙ c.looks.invariant.alone only
