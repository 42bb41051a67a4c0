use Rattle.std.proofs.Common.{rules, ap}
use Rattle.cds_turn.proofs.Keeps.{draws}
use Rattle.cds_turn.proofs.table.draw.Goals as goal

pub fetch_add-requires : goal.fetch_add-requires
fetch_add-requires g c = let rests = c.requires.rests in (
  search rules,
  search rules,
  draws g.V.StandsFor.stands _ _ _ _ _ c.requires.starts (ap (λ z. z.me.0.ticket) rests) (ap (λ z. z.me.0.found) rests),
)
