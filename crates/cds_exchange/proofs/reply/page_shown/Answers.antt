use Rattle.cds_exchange.proofs.Showing.{page-none}
use Rattle.cds_exchange.proofs.reply.page_shown.Goals as goal

pub returns-in-None : goal.returns-in-None
returns-in-None c = λ returned. page-none c.args.page.now returned c.args.total c.args.update c.in_ok-rows.field-0 c.in_ok-rows.ensures c.in-None.is
