-- Each write takes a front part of what is left of the piece.
use Rattle.std.proofs.Common.{Some, ap, ◌∙◌, arith}
use Rattle.cds_base.proofs.Parts.{append_on}
use Rattle.cds_outside.proofs.stream.write_all.Goals as goal

pub loop-at-preserved : goal.loop-at-preserved
loop-at-preserved g c =
    let piece = c.args.piece.now in
    let at = c.loop-at.at in
    let n = c.in_ok-at.field-0 in (
      omega (arith, c.in_ok-at.ensures.room),
      λ bytes told. rw c.split_at.ensures.back at (c.in_ok-at.ensures.content _ (c.loop-at.invariant.1 bytes told)) ∙ ap Some (append_on bytes piece at n),
      omega arith,
    )
