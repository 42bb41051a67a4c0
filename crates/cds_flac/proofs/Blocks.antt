-- The parts of a comment block's body, judged.
use Rattle.std.proofs.Common.{◌≡◌, ℕ, ◌+◌, ◌<◌, ◌≤◌, nat_lt, true, false, List, length, Err}
use Rattle.std.specs.Str.{is_utf8}
use Rattle.cds_flac.specs.declared.error.FlacError.TheVariants.{BadComment}
use Rattle.cds_object.specs.declared.info.Comment.{Comment}
use Rattle.cds_flac.specs.Step.{Step, after, little_number}
use Rattle.cds_flac.specs.Reading.{behind_vendor, counted_comments, comments_from}
use Rattle.cds_flac.proofs.Decided.{taken-then, taken-else, below-true, below-false}

module _ (at end : ℕ) (left : List ℕ) where
  refused : Step (List Comment)
  refused = Err (BadComment at)

  counted : Step (List Comment)
  counted = after (little_number at left) (λ count rest. comments_from count (at + 4) end rest)

  pub counted-no_count : end < at + 4 → counted_comments at end left ≡ Err (BadComment at)
  unfolding counted_comments refused counted
  counted-no_count h = taken-then (nat_lt end (at + 4)) refused counted (below-true end (at + 4) h)

  pub counted-count : at + 4 ≤ end → counted_comments at end left ≡ after (little_number at left) (λ count rest. comments_from count (at + 4) end rest)
  unfolding counted_comments refused counted
  counted-count h = taken-else (nat_lt end (at + 4)) refused counted (below-false end (at + 4) h)

  pub vendor-refused : (text : List ℕ) → is_utf8 text ≡ false → behind_vendor at end text left ≡ Err (BadComment at)
  vendor-refused text e =
      let refusal : Step (List Comment) = Err (BadComment at) in
      taken-else (is_utf8 text) (counted_comments (at + 4 + length text) end left) refusal e

  pub vendor-passed : (text : List ℕ) → is_utf8 text ≡ true → behind_vendor at end text left ≡ counted_comments (at + 4 + length text) end left
  vendor-passed text e =
      let refusal : Step (List Comment) = Err (BadComment at) in
      taken-then (is_utf8 text) (counted_comments (at + 4 + length text) end left) refusal e
