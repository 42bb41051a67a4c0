-- The place of the length, the length, and the text.
use Rattle.std.proofs.Common.{◌≡◌, ◌+◌, ◌≤◌, Ok, List, ℕ, ◌∙◌}
use Rattle.cds_flac.specs.Step.{little_number}
use Rattle.cds_flac.specs.Reading.{text_at, text_of_length}
use Rattle.cds_flac.proofs.Steps.{after-ok, judged-after, judged-same, agrees-exit}
use Rattle.cds_flac.proofs.Texts.{text-past, text-fits, text-no_length, text-length}
use Rattle.cds_flac.proofs.comments.read_text_at.Goals as goal

-- the text behind a length that was read
behind_length : (at end n : ℕ) (bytes rest : List ℕ) → at + 4 ≤ end → little_number at bytes ≡ Ok (n, rest) → text_at at end bytes ≡ text_of_length at end n rest
behind_length at end n bytes rest inside e = text-length at end bytes inside ∙ after-ok (λ n rest. text_of_length at end n rest) e

pub returns-then-end-at-clause-told : goal.returns-then-end-at-clause-told
returns-then-end-at-clause-told g c = λ bytes told. text-no_length c.args.at c.args.end bytes c.if-end-at.true

pub returns-in_err-n-clause-told : goal.returns-in_err-n-clause-told
returns-in_err-n-clause-told g c = λ bytes told.
    agrees-exit _ c.from_residual.result _ c.in_err-n.field-0.0 c.from_residual.ensures.1
    (judged-same _ (text-length c.args.at c.args.end bytes c.if-end-at.false)
    (judged-after (little_number c.args.at bytes) _ _ (c.in_err-n.ensures.told bytes told)))

pub returns-then-end-at-2-clause-told : goal.returns-then-end-at-2-clause-told
returns-then-end-at-2-clause-told g c = λ bytes told.
    let count = c.in_ok-n.ensures.told bytes told in
    behind_length c.args.at c.args.end c.in_ok-n.n bytes count.0 c.if-end-at.false count.1
    ∙ text-past c.args.at c.args.end count.0 c.in_ok-n.n c.if-end-at-2.true

pub returns-in_err-text-clause-told : goal.returns-in_err-text-clause-told
returns-in_err-text-clause-told g c = λ bytes told.
    let count = c.in_ok-n.ensures.told bytes told in
    let whole = behind_length c.args.at c.args.end c.in_ok-n.n bytes count.0 c.if-end-at.false count.1
    ∙ text-fits c.args.at c.args.end count.0 c.in_ok-n.n c.if-end-at-2.false in
    agrees-exit _ c.from_residual-in_err-text.result _ c.in_err-text.field-0.0 c.from_residual-in_err-text.ensures.1
    (judged-same _ whole (c.in_err-text.ensures.told count.0 count.2))

pub returns-clause-told : goal.returns-clause-told
returns-clause-told g c = λ bytes told.
    let count = c.in_ok-n.ensures.told bytes told in
    let whole = behind_length c.args.at c.args.end c.in_ok-n.n bytes count.0 c.if-end-at.false count.1
    ∙ text-fits c.args.at c.args.end count.0 c.in_ok-n.n c.if-end-at-2.false in
    let text = c.in_ok-text.ensures.told count.0 count.2 in
    (text.0, whole ∙ text.1, text.2)
