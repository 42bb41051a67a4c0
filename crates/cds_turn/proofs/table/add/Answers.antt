use Rattle.std.proofs.Common.{rules}
use Rattle.cds_turn.specs.Moves.{found_of}
use Rattle.cds_turn.proofs.Keeps.{adds}
use Rattle.cds_turn.proofs.table.add.Goals as goal

pub fetch_add-requires : goal.fetch_add-requires
fetch_add-requires g c = (
  search rules,
  search rules,
  adds g.V.StandsFor.stands _ _ _ _ _ g.G.Adding.added _ (found_of c.args.place.now) c.requires.turn c.requires.count,
)
