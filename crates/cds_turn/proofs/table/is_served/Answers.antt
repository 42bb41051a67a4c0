use Rattle.std.proofs.Common.{rules, ap, ◌∙◌}
use Rattle.cds_turn.proofs.Keeps.{looks}
use Rattle.cds_turn.proofs.table.is_served.Goals as goal

pub load-requires : goal.load-requires
load-requires g c = let ticket = c.requires.ticket in let waits = c.requires.waits in let still = c.loop.invariant.1 in (
  search rules,
  search rules,
  looks g.V.StandsFor.stands _ _ _ _ _ g.G.Sharing.seats ticket.0 c.requires.seats (ap (λ m. m.0.ticket) still ∙ ticket.2) (ap (λ m. m.0.found) still ∙ waits.0) (ap (λ m. m.1) still ∙ waits.1),
)
