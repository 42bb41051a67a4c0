-- The body is read where it counts, and passed over elsewhere.
use Rattle.std.proofs.Common.{◌+◌, Some, Ok, sym, ◌∙◌}
use Rattle.cds_flac.specs.Step.{taken}
use Rattle.cds_flac.specs.Reading.{comment_block}
use Rattle.cds_flac.proofs.Walks.{body-comments, body-over}
use Rattle.cds_flac.proofs.Steps.{after-ok, judged-after, judged-same, agrees-exit}
use Rattle.cds_flac.proofs.block.read_body.Goals as goal

pub returns-in_err-comments-clause-told : goal.returns-in_err-comments-clause-told
returns-in_err-comments-clause-told g c = λ bytes told.
    agrees-exit _ c.from_residual.result _ c.in_err-comments.field-0.0 c.from_residual.ensures.1
    (judged-same _ (body-comments c.args.kind c.args.found c.args.at c.args.length bytes (sym c.if-counts.ensures))
    (judged-after (comment_block c.args.at (c.args.at + c.args.length) bytes) _ _ (c.in_err-comments.ensures.told bytes told)))

pub returns-in_err-pass_over-clause-told : goal.returns-in_err-pass_over-clause-told
returns-in_err-pass_over-clause-told g c = λ bytes told.
    agrees-exit _ c.from_residual-in_err-pass_over.result _ c.in_err-pass_over.field-0.0 c.from_residual-in_err-pass_over.ensures.1
    (judged-same _ (body-over c.args.kind c.args.found c.args.at c.args.length bytes (sym c.if-counts.ensures))
    (judged-after (taken c.args.at c.args.length bytes) _ _ (c.in_err-pass_over.ensures.told bytes told)))

pub returns-in_ok-comments-clause-told : goal.returns-in_ok-comments-clause-told
returns-in_ok-comments-clause-told g c = λ bytes told.
    let comments = c.in_ok-comments.ensures.told bytes told in (
      comments.0,
      body-comments c.args.kind c.args.found c.args.at c.args.length bytes (sym c.if-counts.ensures)
          ∙ after-ok (λ comments rest. Ok (Some comments, rest)) comments.1,
      comments.2,
    )

pub returns-in_ok-pass_over-clause-told : goal.returns-in_ok-pass_over-clause-told
returns-in_ok-pass_over-clause-told g c = λ bytes told.
    let body = c.in_ok-pass_over.ensures.told bytes told in (
      body.1.0,
      body-over c.args.kind c.args.found c.args.at c.args.length bytes (sym c.if-counts.ensures)
          ∙ after-ok (λ body rest. Ok (c.args.found, rest)) body.1.1,
      body.1.2,
    )
