use Rattle.std.proofs.Common.{rules, ap, ◌∙◌}
use Rattle.cds_turn.proofs.Keeps.{splits, rests_of}
use Rattle.cds_turn.proofs.table.part.Goals as goal

pub split_seat-requires : goal.split_seat-requires
split_seat-requires g c = let rests = c.requires.rests in (
  search rules,
  search rules,
  splits g.V.StandsFor.stands _ _ _ _ c.requires.starts (ap (λ z. z.me.0.ticket) rests) (ap (λ z. z.me.0.found) rests) c.requires.passes,
)

pub returns-clause-rests : goal.returns-clause-rests
returns-clause-rests g c = let mine = c.requires.rests in let left = c.split_seat.ensures.2 in let right = c.split_seat.ensures.4 in
    let older = ap (λ z. z.me.0.older) mine in let ticket = ap (λ z. z.me.0.ticket) mine in let found = ap (λ z. z.me.0.found) mine in (
      rests_of c.split_seat.new.seat (ap (λ m. m.1) left ∙ ap (λ z. z.me.1) mine) (ap (λ m. m.0.older) left ∙ older) (ap (λ m. m.0.ticket) left ∙ ticket) (ap (λ m. m.0.found) left ∙ found),
      rests_of c.split_seat.result (ap (λ m. m.1) right) (ap (λ m. m.0.older) right ∙ older) (ap (λ m. m.0.ticket) right ∙ ticket) (ap (λ m. m.0.found) right ∙ found),
    )
