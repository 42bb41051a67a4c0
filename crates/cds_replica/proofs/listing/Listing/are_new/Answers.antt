use Rattle.std.proofs.Common.{sym, ◌∙◌}
use Rattle.cds_replica.proofs.Pages.{shown_before, not_shown_before}
use Rattle.cds_replica.proofs.listing.Listing.are_new.Goals as goal

pub returns-then-was_shown : goal.returns-then-was_shown
returns-then-was_shown c =
    sym (c.loop-at.invariant ∙ shown_before c.args.self.now.rows.items c.args.self.now.part.items c.args.page.now c.loop-at.at c.index-page-at.result c.id.result c.split_at.result.0.now c.was_shown.result c.loop-at-test.true c.index-page-at.is c.id.ensures c.split_at.ensures.front c.was_shown.ensures c.if-was_shown.true)

pub loop-at-preserved : goal.loop-at-preserved
loop-at-preserved c =
    c.loop-at.invariant ∙ not_shown_before c.args.self.now.rows.items c.args.self.now.part.items c.args.page.now c.loop-at.at c.index-page-at.result c.id.result c.split_at.result.0.now c.was_shown.result c.loop-at-test.true c.index-page-at.is c.id.ensures c.split_at.ensures.front c.was_shown.ensures c.if-was_shown.false
