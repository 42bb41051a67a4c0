use Rattle.cds_exchange.proofs.Showing.{shown-if}
use Rattle.cds_exchange.proofs.reply.shown_by.Goals as goal

pub returns-in-Page : goal.returns-in-Page
returns-in-Page c =
    shown-if c.args.answer c.as_slice.result.now c.in-Page.returned c.in-Page.total c.in-Page.update c.page_shown.result (cc) (c.page_shown.ensures c.in-Page.returned)
