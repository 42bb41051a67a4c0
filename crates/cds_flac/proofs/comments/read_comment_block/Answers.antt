-- The vendor, and the comments behind it.
use Rattle.std.proofs.Common.{◌≡◌, ℕ, List, true, false, ◌+◌, length, Ok, sym, ap, ◌∙◌}
use Rattle.std.specs.Str.{is_utf8}
use Rattle.cds_flac.specs.Reading.{comment_block, behind_vendor, counted_comments, text_at}
use Rattle.cds_flac.proofs.Blocks.{vendor-refused, vendor-passed}
use Rattle.cds_flac.proofs.Steps.{after-ok, judged-after, judged-same, agrees-exit}
use Rattle.cds_flac.proofs.comments.read_comment_block.Goals as goal

pub returns-in_err-vendor-clause-told : goal.returns-in_err-vendor-clause-told
unfolding comment_block
returns-in_err-vendor-clause-told g c = λ bytes told.
    agrees-exit _ c.from_residual.result _ c.in_err-vendor.field-0.0 c.from_residual.ensures.1
    (judged-after (text_at c.args.at c.args.end bytes) _ _ (c.in_err-vendor.ensures.told bytes told))

pub returns-then-not-is_text-clause-told : goal.returns-then-not-is_text-clause-told
unfolding comment_block
returns-then-not-is_text-clause-told g c = λ bytes told.
    let vendor = c.in_ok-vendor.ensures.told bytes told in
    let fails : is_utf8 c.in_ok-vendor.vendor ≡ false = ap is_utf8 (sym c.as_slice.ensures) ∙ sym c.if-not-is_text.ensures in
    after-ok (λ vendor rest. behind_vendor c.args.at c.args.end vendor rest) vendor.1
    ∙ vendor-refused c.args.at c.args.end vendor.0 c.in_ok-vendor.vendor fails

-- the comments behind a vendor that passed
behind : (at end n : ℕ) (bytes text rest : List ℕ) → text_at at end bytes ≡ Ok (text, rest) → is_utf8 text ≡ true → n ≡ length text → comment_block at end bytes ≡ counted_comments (at + 4 + n) end rest
unfolding comment_block
behind at end n bytes text rest e passes long =
    after-ok (λ vendor rest. behind_vendor at end vendor rest) e
    ∙ vendor-passed at end rest text passes
    ∙ ap (λ m. counted_comments (at + 4 + m) end rest) (sym long)

pub returns-in_err-comments-clause-told : goal.returns-in_err-comments-clause-told
returns-in_err-comments-clause-told g c = λ bytes told.
    let vendor = c.in_ok-vendor.ensures.told bytes told in
    let passes : is_utf8 c.in_ok-vendor.vendor ≡ true = ap is_utf8 (sym c.as_slice.ensures) ∙ sym c.if-not-is_text.ensures in
    agrees-exit _ c.from_residual-in_err-comments.result _ c.in_err-comments.field-0.0 c.from_residual-in_err-comments.ensures.1
    (judged-same _ (behind c.args.at c.args.end c.len.result bytes c.in_ok-vendor.vendor vendor.0 vendor.1 passes c.len.ensures)
    (c.in_err-comments.ensures.told vendor.0 vendor.2))

pub returns-clause-told : goal.returns-clause-told
returns-clause-told g c = λ bytes told.
    let vendor = c.in_ok-vendor.ensures.told bytes told in
    let passes : is_utf8 c.in_ok-vendor.vendor ≡ true = ap is_utf8 (sym c.as_slice.ensures) ∙ sym c.if-not-is_text.ensures in
    let comments = c.in_ok-comments.ensures.told vendor.0 vendor.2 in (
      comments.0,
      behind c.args.at c.args.end c.len.result bytes c.in_ok-vendor.vendor vendor.0 vendor.1 passes c.len.ensures ∙ comments.1,
      comments.2,
    )
