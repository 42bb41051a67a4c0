-- The sink took a prefix of the piece that came.
use Rattle.std.proofs.Common.{List, ℕ, subst, ◌∙◌}
use Rattle.cds_outside.specs.Outside.{HoldsPart}
use Rattle.cds_media.proofs.Pieces.{part-of-more}
use Rattle.cds_media.proofs.sending.move_piece.Goals as goal

pub returns-in-Err-write_all-clause-part : goal.returns-in-Err-write_all-clause-part
returns-in-Err-write_all-clause-part g c = λ bytes told held holds.
    part-of-more held bytes c.in-Ok.count c.args.left (g.K.Sink.told c.write_all.new.sink).holds c.in-Ok.ensures.few
    (subst (λ (piece : List ℕ). HoldsPart held piece (g.K.Sink.told c.write_all.new.sink).holds)
    (c.split_at.ensures.front ∙ c.in-Ok.ensures.content bytes told)
    (c.in-Err-write_all.ensures.part held holds))
