use Rattle.std.proofs.Common.{ap}
use Rattle.cds_turn.proofs.Keeps.{ends_equal, ends_some, ends_beyond, ends_seen, ends_home, ends_open, ends_own}
use Rattle.cds_turn.proofs.table.end.Goals as goal

pub returns-clause-home : goal.returns-clause-home
returns-clause-home g c = ends_some g.V.StandsFor.stands _ _ _ _ _ _ _ _ _ c.close_with-closed.ensures.values.2 (ap (λ z. z.me.0.ticket) c.requires.rests) c.word.ensures c.word-2.ensures c.take-slot.ensures.value

pub returns-clause-value : goal.returns-clause-value
returns-clause-value g c = ends_beyond g.V.StandsFor.stands _ _ _ _ _ _ _ _ _ c.close_with-closed.ensures.values.2 (ap (λ z. z.me.0.ticket) c.requires.rests) c.word.ensures c.word-2.ensures c.take-slot.ensures.value

pub returns-clause-all : goal.returns-clause-all
returns-clause-all g c = ends_equal g.V.StandsFor.stands _ _ _ _ _ _ _ _ _ c.close_with-closed.ensures.values.2 (ap (λ z. z.me.0.ticket) c.requires.rests) c.word.ensures c.word-2.ensures c.take-slot.ensures.value

pub returns-clause-seen : goal.returns-clause-seen
returns-clause-seen g c = ends_seen g.V.StandsFor.stands _ _ _ _ _ _ _ _ _ c.close_with-closed.ensures.values.2 (ap (λ z. z.me.0.ticket) c.requires.rests) c.word.ensures c.word-2.ensures c.take-slot.ensures.value

pub returns-clause-over : goal.returns-clause-over
returns-clause-over g c = ends_home g.V.StandsFor.stands _ _ _ _ _ _ _ _ _ c.close_with-closed.ensures.values.2 (ap (λ z. z.me.0.ticket) c.requires.rests) c.word.ensures c.word-2.ensures c.take-slot.ensures.value

pub returns-clause-open : goal.returns-clause-open
returns-clause-open g c = ends_open g.V.StandsFor.stands _ _ _ _ _ _ _ _ _ c.close_with-closed.ensures.values.2 (ap (λ z. z.me.0.ticket) c.requires.rests) c.word.ensures c.word-2.ensures c.take-slot.ensures.value

pub returns-clause-own : goal.returns-clause-own
returns-clause-own g c = ends_own g.V.StandsFor.stands _ _ _ _ _ _ _ _ _ c.close_with-closed.ensures.values.2 (ap (λ z. z.me.0.ticket) c.requires.rests) c.word.ensures c.word-2.ensures c.take-slot.ensures.value
