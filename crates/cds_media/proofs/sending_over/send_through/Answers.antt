-- Each piece goes on where the last one ended.
use Rattle.std.proofs.Common.{◌≡◌, ◌-◌, Some, ap, ◌∙◌, arith}
use Rattle.std.proofs.lemmas.List.{drop-drop}
use Rattle.cds_base.proofs.Parts.{append_on}
use Rattle.cds_media.proofs.Pieces.{all-there, ended-there, more-within, nothing-more, part-after, part-at-end, rest-after, rest-at-end}
use Rattle.cds_media.proofs.sending_over.send_through.Goals as goal

pub returns-in-Err-clause-part : goal.returns-in-Err-clause-part
returns-in-Err-clause-part g c = λ bytes told held holds.
    let before = c.pieces.invariant.left bytes told in
    part-after held bytes c.pieces.at (c.args.count - c.pieces.at) c.args.count _ (omega (arith, c.pieces-test.true)) before.0
    (c.in-Err.ensures.part _ before.1 _ (c.pieces.invariant.taken bytes told held holds))

pub returns-in-Err-clause-left : goal.returns-in-Err-clause-left
returns-in-Err-clause-left g c = λ bytes told.
    let before = c.pieces.invariant.left bytes told in
    rest-after bytes c.pieces.at (c.args.count - c.pieces.at) c.args.count _ (omega (arith, c.pieces-test.true)) (c.in-Err.ensures.left _ before.1)

pub returns-in-Ok-eq0-clause-left : goal.returns-in-Ok-eq0-clause-left
returns-in-Ok-eq0-clause-left g c = λ bytes told.
    let before = c.pieces.invariant.left bytes told in
    let zero : c.in-Ok-eq0.field-0 ≡ 0 = omega (arith, c.in-Ok-eq0.field-0-test) in
    rest-at-end bytes c.pieces.at c.in-Ok-eq0.field-0 c.args.count _ c.pieces.invariant.within zero (c.in-Ok-eq0.ensures.rest _ before.1)

pub returns-in-Ok-eq0-clause-part : goal.returns-in-Ok-eq0-clause-part
returns-in-Ok-eq0-clause-part g c = λ bytes told held holds.
    let before = c.pieces.invariant.left bytes told in
    let zero : c.in-Ok-eq0.field-0 ≡ 0 = omega (arith, c.in-Ok-eq0.field-0-test) in
    part-at-end held bytes c.pieces.at c.args.count _ c.pieces.invariant.within before.0
    (nothing-more _ _ c.in-Ok-eq0.field-0 _ zero (c.in-Ok-eq0.ensures.whole _ before.1 _ (c.pieces.invariant.taken bytes told held holds)))

pub returns-in-Ok-eq0-clause-short : goal.returns-in-Ok-eq0-clause-short
returns-in-Ok-eq0-clause-short g c = (
  c.pieces-test.true,
  λ bytes told.
      let before = c.pieces.invariant.left bytes told in
      let zero : c.in-Ok-eq0.field-0 ≡ 0 = omega (arith, c.in-Ok-eq0.field-0-test) in
      ended-there bytes c.pieces.at before.0 (c.in-Ok-eq0.ensures.end zero _ before.1),
)

pub returns-in-Ok-eq0-clause-all : goal.returns-in-Ok-eq0-clause-all
returns-in-Ok-eq0-clause-all g c = λ bytes told held holds.
    let before = c.pieces.invariant.left bytes told in
    let zero : c.in-Ok-eq0.field-0 ≡ 0 = omega (arith, c.in-Ok-eq0.field-0-test) in
    nothing-more _ _ c.in-Ok-eq0.field-0 _ zero (c.in-Ok-eq0.ensures.whole _ before.1 _ (c.pieces.invariant.taken bytes told held holds))
    ∙ ap Some (all-there held bytes c.pieces.at (ended-there bytes c.pieces.at before.0 (c.in-Ok-eq0.ensures.end zero _ before.1)))

pub pieces-preserved : goal.pieces-preserved
pieces-preserved g c =
    let at = c.pieces.at in
    let n = c.in-Ok.moved in
    record {
      within = omega (arith, c.in-Ok.ensures.few, c.pieces-test.true);
      left = λ bytes told.
          let before = c.pieces.invariant.left bytes told in (
            more-within at n bytes before.0 (c.in-Ok.ensures.enough _ before.1),
            c.in-Ok.ensures.rest _ before.1 ∙ ap Some (drop-drop n at bytes),
          );
      taken = λ bytes told held holds.
          let before = c.pieces.invariant.left bytes told in
          c.in-Ok.ensures.whole _ before.1 _ (c.pieces.invariant.taken bytes told held holds) ∙ ap Some (append_on held bytes at n);
      took = omega (arith, c.in-Ok.ensures.moved, c.pieces.invariant.took);
      moved = omega (arith, c.in-Ok.ensures.moved, c.pieces.invariant.moved);
      read_faults = omega (arith, c.move_piece.ensures.read_faults_never_fall, c.pieces.invariant.read_faults);
      source_stays = c.move_piece.ensures.source_stays ∙ c.pieces.invariant.source_stays;
      finished_stays = c.move_piece.ensures.finished_stays ∙ c.pieces.invariant.finished_stays;
      write_faults = omega (arith, c.move_piece.ensures.write_faults_never_fall, c.pieces.invariant.write_faults);
    }
