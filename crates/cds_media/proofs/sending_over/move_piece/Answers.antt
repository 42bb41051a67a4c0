-- The connection took a prefix of the piece that came.
use Rattle.std.proofs.Common.{List, ℕ, subst, ◌∙◌}
use Rattle.cds_outside.specs.Outside.{HoldsPart}
use Rattle.cds_media.proofs.Pieces.{part-of-more}
use Rattle.cds_media.proofs.sending_over.move_piece.Goals as goal

pub returns-in-Err-send_whole-clause-part : goal.returns-in-Err-send_whole-clause-part
returns-in-Err-send_whole-clause-part g c = λ bytes told held holds.
    part-of-more held bytes c.in-Ok.count c.args.left (g.C.Sink.told c.send_whole.new.conn).holds c.in-Ok.ensures.few
    (subst (λ (piece : List ℕ). HoldsPart held piece (g.C.Sink.told c.send_whole.new.conn).holds)
    (c.split_at.ensures.front ∙ c.in-Ok.ensures.content bytes told)
    (c.in-Err-send_whole.ensures.part held holds))
