use Rattle.cds_turn.proofs.turn.Turn.with.Given as goal

abbrev pub ghosts-add : goal.ghosts-add
ghosts-add g a = record { added = λ found. g.A.Act.adds a.act.now.value (g.V.StandsFor.start a.lane.now.key.value.value) found a.answer.now }

abbrev pub ghosts-enter : goal.ghosts-enter
ghosts-enter g a = record { seats = a.lane.now.key.seats }
