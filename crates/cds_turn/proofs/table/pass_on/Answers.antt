use Rattle.std.proofs.Common.{rules, ap, ◌∙◌}
use Rattle.cds_turn.specs.Moves.{found_of}
use Rattle.cds_turn.proofs.Keeps.{passes_on, rests_of}
use Rattle.cds_turn.proofs.table.pass_on.Goals as goal

pub fetch_add-served-requires : goal.fetch_add-served-requires
fetch_add-served-requires g c = let home = c.requires.home in (
  search rules,
  search rules,
  passes_on g.V.StandsFor.stands _ _ _ _ _ (found_of c.args.place.now) home.0 c.requires.turn home.1 home.2,
)

pub returns-clause-rests : goal.returns-clause-rests
returns-clause-rests g c no_older = let did = c.fetch_add-served.ensures.2 (found_of c.args.place.now) c.requires.turn in
    rests_of c.fetch_add-served.new.seat (ap (λ m. m.1) did) (ap (λ m. m.0.older) did ∙ no_older) (ap (λ m. m.0.ticket) did) (ap (λ m. m.0.found) did)
