use Rattle.std.proofs.Common.{rules, ◌≡◌, List, [], ◌∷◌, Option, Some, sym, ap, subst}
use Rattle.atomic_table.specs.Table.{opening}
use Rattle.cds_turn.specs.Line.{Kept, newcomer}
use Rattle.cds_turn.proofs.Keeps.{opens, rests_of}
use Rattle.cds_turn.proofs.turn.Turn.new.Goals as goal

pub new-requires : goal.new-requires
new-requires g c = let stands = g.V.StandsFor.stands in let start = g.V.StandsFor.start in let same = c.of.ensures in let items : c.push.new.self.items ≡ Some c.args.value ∷ [] = search rules in
    subst (λ (z : g.row.V.Denot × List (Option g.row.V.Denot)). Kept stands (start z.0) c.args.seats (opening (0 ∷ 0 ∷ 0 ∷ []) z.1 (newcomer (start z.0) c.args.seats))) (λ i. (sym same i, sym items i))
    (opens stands (start c.args.value) c.args.seats c.args.value c.requires.value (search rules) (search rules))

pub invariant_of-result-in-Ok : goal.invariant_of-result-in-Ok
invariant_of-result-in-Ok g c = let me = c.in-Ok.ensures.ok.4 in
    record { rests = rests_of c.in-Ok.place (ap (λ m. m.1) me) (ap (λ m. m.0.older) me) (ap (λ m. m.0.ticket) me) (ap (λ m. m.0.found) me) }
