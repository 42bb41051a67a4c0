use Rattle.std.proofs.Common.{rules, ◌∷◌, Some, sym, ap, ◌∙◌}
use Rattle.atomic_table.specs.Table.{rest}
use Rattle.cds_turn.proofs.table.enter.Goals as goal

pub exchange-requires : goal.exchange-requires
exchange-requires g c = let turn = c.await_turn.ensures.turn in let held = ap (λ m. m.1) turn.2 in (search rules, (Some turn.1, held ∙ ap (λ z. (0, Some turn.1) ∷ rest z) (sym held)))
