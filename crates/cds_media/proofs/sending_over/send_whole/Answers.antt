-- Each write takes a front part of what is left of the piece.
use Rattle.std.proofs.Common.{Some, ap, ◌∙◌, arith}
use Rattle.cds_base.proofs.Parts.{append_on}
use Rattle.cds_media.proofs.sending_over.send_whole.Goals as goal

pub pieces-preserved : goal.pieces-preserved
pieces-preserved g c =
    let piece = c.args.piece.now in
    let at = c.pieces.at in
    let n = c.in_ok-at.field-0 in
    record {
      within = omega (arith, c.in_ok-at.ensures.room);
      taken = λ held told. rw c.split_at.ensures.back at (c.in_ok-at.ensures.content _ (c.pieces.invariant.taken held told)) ∙ ap Some (append_on held piece at n);
      never_falls = omega (arith, c.in_ok-at.ensures.never_falls, c.pieces.invariant.never_falls);
      finished_stays = c.in_ok-at.ensures.finished_stays ∙ c.pieces.invariant.finished_stays;
      source_stays = c.in_ok-at.ensures.source_stays ∙ c.pieces.invariant.source_stays;
    }
