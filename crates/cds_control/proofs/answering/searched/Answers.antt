use Rattle.cds_browse.proofs.Pages.{found_bounded}
use Rattle.cds_control.proofs.answering.searched.Goals as goal

pub page_made-requires : goal.page_made-requires
page_made-requires g c = record {
  few = (found_bounded (g.V.View.number c.args.view.now) (g.V.View.rows c.args.view.now) c.args.asked.now c.in-Ok.page c.in-Ok.ensures.answers).longest;
}
