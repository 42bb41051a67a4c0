-- One comment more, or the refusal of its text.
use Rattle.std.proofs.Common.{◌≡◌, ℕ, suc, ◌+◌, ◌-◌, ◌<◌, List, sym, ap, ◌∙◌, arith}
use Rattle.cds_object.specs.declared.info.Comment.{Comment}
use Rattle.cds_flac.specs.Comment.{comment_of}
use Rattle.cds_flac.specs.Reading.{comments_from}
use Rattle.cds_flac.proofs.Fronts.{with_front, front-stops, front-refused, front-more}
use Rattle.cds_flac.proofs.Steps.{judged-same, agrees-exit}
use Rattle.cds_flac.proofs.comments.read_comments.Goals as goal

-- one comment is to come at least
some_more : (front : List Comment) (more place end : ℕ) (left : List ℕ) → 0 < more → with_front front (comments_from more place end left) ≡ with_front front (comments_from (suc (more - 1)) place end left)
some_more front more place end left h =
    let one : more ≡ suc (more - 1) = omega arith in ap (λ m. with_front front (comments_from m place end left)) one

-- the place behind a text
same_place : (front : List Comment) (more place end n m : ℕ) (left : List ℕ) → n ≡ m → with_front front (comments_from more (place + 4 + n) end left) ≡ with_front front (comments_from more (place + (4 + m)) end left)
same_place front more place end n m left e =
    let same : place + 4 + n ≡ place + (4 + m) = omega arith in ap (λ at. with_front front (comments_from more at end left)) same

pub returns-in_err-text-clause-told : goal.returns-in_err-text-clause-told
returns-in_err-text-clause-told g c = λ bytes told.
    let before = c.loop-more.invariant.3 bytes told in
    let front = c.loop-more.comments in
    let place = c.loop-more.place in
    let more = c.loop-more.more in
    agrees-exit _ c.from_residual.result _ c.in_err-text.field-0.0 c.from_residual.ensures.1
    (judged-same _ (before.2 ∙ some_more front more place c.args.end before.0 c.loop-more-test.true)
    (front-stops front place c.args.end (more - 1) before.0 _ (c.in_err-text.ensures.told before.0 before.1)))

pub returns-in-None-clause-told : goal.returns-in-None-clause-told
returns-in-None-clause-told g c = λ bytes told.
    let before = c.loop-more.invariant.3 bytes told in
    let front = c.loop-more.comments in
    let place = c.loop-more.place in
    let more = c.loop-more.more in
    let text = c.in_ok-text.ensures.told before.0 before.1 in
    before.2
    ∙ some_more front more place c.args.end before.0 c.loop-more-test.true
    ∙ front-refused front place c.args.end (more - 1) before.0 c.in_ok-text.text text.0 text.1
    (ap comment_of (sym c.as_slice.ensures) ∙ sym c.in_ok-comment.ensures ∙ c.in-None.is)

pub loop-more-preserved : goal.loop-more-preserved
loop-more-preserved g c = (
  omega (arith, c.in_ok-text.ensures.in_block, c.len.ensures),
  omega (arith, c.len.ensures),
  omega (arith, c.len.ensures, c.in_ok-text.ensures.took),
  λ bytes told.
      let before = c.loop-more.invariant.3 bytes told in
      let front = c.loop-more.comments in
      let place = c.loop-more.place in
      let more = c.loop-more.more in
      let text = c.in_ok-text.ensures.told before.0 before.1 in (
        text.0,
        text.2,
        before.2
            ∙ some_more front more place c.args.end before.0 c.loop-more-test.true
            ∙ front-more front place c.args.end (more - 1) before.0 c.in_ok-text.text text.0 c.in-Some.comment text.1
            (ap comment_of (sym c.as_slice.ensures) ∙ sym c.in_ok-comment.ensures ∙ c.in-Some.is)
            ∙ same_place _ (more - 1) place c.args.end _ c.len.result text.0 (sym c.len.ensures)
            ∙ ap (λ comments. with_front comments (comments_from (more - 1) (place + (4 + c.len.result)) c.args.end text.0)) (sym c.in_ok-push-in-Some.ensures.ok),
      ),
  omega arith,
)
