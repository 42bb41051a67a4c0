-- The place of the count, the count, and the comments.
use Rattle.std.proofs.Common.{◌≡◌, ℕ, ◌+◌, ◌≤◌, List, Ok, ◌∙◌}
use Rattle.cds_flac.specs.Step.{little_number}
use Rattle.cds_flac.specs.Reading.{comments_from, counted_comments}
use Rattle.cds_flac.proofs.Blocks.{counted-no_count, counted-count}
use Rattle.cds_flac.proofs.Steps.{after-ok, judged-after, judged-same, agrees-exit}
use Rattle.cds_flac.proofs.comments.read_counted.Goals as goal

-- the comments behind a count that was read
behind_count : (at end n : ℕ) (bytes rest : List ℕ) → at + 4 ≤ end → little_number at bytes ≡ Ok (n, rest) → counted_comments at end bytes ≡ comments_from n (at + 4) end rest
behind_count at end n bytes rest inside e = counted-count at end bytes inside ∙ after-ok (λ count rest. comments_from count (at + 4) end rest) e

pub returns-then-end-at-clause-told : goal.returns-then-end-at-clause-told
returns-then-end-at-clause-told g c = λ bytes told. counted-no_count c.args.at c.args.end bytes c.if-end-at.true

pub returns-in_err-count-clause-told : goal.returns-in_err-count-clause-told
returns-in_err-count-clause-told g c = λ bytes told.
    agrees-exit _ c.from_residual.result _ c.in_err-count.field-0.0 c.from_residual.ensures.1
    (judged-same _ (counted-count c.args.at c.args.end bytes c.if-end-at.false)
    (judged-after (little_number c.args.at bytes) _ _ (c.in_err-count.ensures.told bytes told)))

pub returns-in_err-comments-clause-told : goal.returns-in_err-comments-clause-told
returns-in_err-comments-clause-told g c = λ bytes told.
    let count = c.in_ok-count.ensures.told bytes told in
    agrees-exit _ c.from_residual-in_err-comments.result _ c.in_err-comments.field-0.0 c.from_residual-in_err-comments.ensures.1
    (judged-same _ (behind_count c.args.at c.args.end c.in_ok-count.count bytes count.0 c.if-end-at.false count.1) (c.in_err-comments.ensures.told count.0 count.2))

pub returns-clause-told : goal.returns-clause-told
returns-clause-told g c = λ bytes told.
    let count = c.in_ok-count.ensures.told bytes told in
    let comments = c.in_ok-comments.ensures.told count.0 count.2 in
    (comments.0, behind_count c.args.at c.args.end c.in_ok-count.count bytes count.0 c.if-end-at.false count.1 ∙ comments.1, comments.2)
