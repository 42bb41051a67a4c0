-- Blocks one after another.
use Rattle.std.proofs.Common.{◌≡◌, ℕ, suc, ◌+◌, ◌-◌, ◌<◌, true, false, cond, List, Option, Some, Ok, ap, ◌∙◌, arith}
use Rattle.cds_flac.specs.declared.block.Header.{Header}
use Rattle.cds_flac.specs.declared.error.FlacError.{FlacError}
use Rattle.cds_object.specs.declared.info.Comment.{Comment}
use Rattle.cds_flac.specs.Step.{Step, after, taken}
use Rattle.cds_flac.specs.Agree.{Judged}
use Rattle.cds_flac.specs.Reading.{block_body, blocks_from, comment_block, header_at, is_first_comment}
use Rattle.cds_flac.proofs.Steps.{after-ok, judged-after, judged-same}
use Rattle.cds_flac.proofs.Decided.{taken-then, taken-else}

module _ (kind : ℕ) (found : Option (List Comment)) (at n : ℕ) (left : List ℕ) where
  comments : Step (Option (List Comment))
  comments = after (comment_block at (at + n) left) (λ comments rest. Ok (Some comments, rest))

  over : Step (Option (List Comment))
  over = after (taken at n left) (λ body rest. Ok (found, rest))

  pub body-comments : is_first_comment kind found ≡ true → block_body kind found at n left ≡ after (comment_block at (at + n) left) (λ comments rest. Ok (Some comments, rest))
  unfolding block_body comments over
  body-comments e = taken-then (is_first_comment kind found) comments over e

  pub body-over : is_first_comment kind found ≡ false → block_body kind found at n left ≡ after (taken at n left) (λ body rest. Ok (found, rest))
  unfolding block_body comments over
  body-over e = taken-else (is_first_comment kind found) comments over e

module _ (fewer : ℕ) (found : Option (List Comment)) (at : ℕ) (left : List ℕ) (some : 0 < fewer) where
  then_body : Header → List ℕ → Step (Option (List Comment))
  then_body header rest =
      after (block_body header.kind found (at + 4) header.length rest)
      (λ found rest. cond header.last (Ok (found, rest)) (blocks_from (fewer - 1) found (at + 4 + header.length) rest))

  then_more : Header → Option (List Comment) → List ℕ → Step (Option (List Comment))
  then_more header found rest = cond header.last (Ok (found, rest)) (blocks_from (fewer - 1) found (at + 4 + header.length) rest)

  one_less : blocks_from fewer found at left ≡ after (header_at at left) then_body
  unfolding then_body
  one_less = let less : fewer ≡ suc (fewer - 1) = omega arith in ap (λ m. blocks_from m found at left) less

  pub walk-no_header : (refusal : FlacError) → Judged (header_at at left) refusal → Judged (blocks_from fewer found at left) refusal
  walk-no_header refusal h = judged-same refusal one_less (judged-after (header_at at left) then_body refusal h)

  at_header : (header : Header) (rest : List ℕ) → header_at at left ≡ Ok (header, rest) → blocks_from fewer found at left ≡ after (block_body header.kind found (at + 4) header.length rest) (then_more header)
  unfolding then_body then_more
  at_header header rest e = one_less ∙ after-ok then_body e

  pub walk-no_body : (header : Header) (rest : List ℕ) (refusal : FlacError) → header_at at left ≡ Ok (header, rest) → Judged (block_body header.kind found (at + 4) header.length rest) refusal → Judged (blocks_from fewer found at left) refusal
  walk-no_body header rest refusal e h =
      judged-same refusal (at_header header rest e) (judged-after (block_body header.kind found (at + 4) header.length rest) (then_more header) refusal h)

  at_body : (header : Header) (rest behind : List ℕ) (now : Option (List Comment)) → header_at at left ≡ Ok (header, rest) → block_body header.kind found (at + 4) header.length rest ≡ Ok (now, behind) → blocks_from fewer found at left ≡ then_more header now behind
  at_body header rest behind now e f = at_header header rest e ∙ after-ok (then_more header) f

  pub walk-last : (header : Header) (rest behind : List ℕ) (now : Option (List Comment)) → header_at at left ≡ Ok (header, rest) → block_body header.kind found (at + 4) header.length rest ≡ Ok (now, behind) → header.last ≡ true → blocks_from fewer found at left ≡ Ok (now, behind)
  unfolding then_more
  walk-last header rest behind now e f last =
      let ended : Step (Option (List Comment)) = Ok (now, behind) in
      at_body header rest behind now e f ∙ taken-then header.last ended (blocks_from (fewer - 1) now (at + 4 + header.length) behind) last

  pub walk-more : (header : Header) (rest behind : List ℕ) (now : Option (List Comment)) → header_at at left ≡ Ok (header, rest) → block_body header.kind found (at + 4) header.length rest ≡ Ok (now, behind) → header.last ≡ false → blocks_from fewer found at left ≡ blocks_from (fewer - 1) now (at + 4 + header.length) behind
  unfolding then_more
  walk-more header rest behind now e f more =
      let ended : Step (Option (List Comment)) = Ok (now, behind) in
      at_body header rest behind now e f ∙ taken-else header.last ended (blocks_from (fewer - 1) now (at + 4 + header.length) behind) more
