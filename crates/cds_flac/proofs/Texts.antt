-- The text of a length: refused where its length or itself reaches past the block, and else taken.
use Rattle.std.proofs.Common.{◌≡◌, ℕ, ◌+◌, ◌<◌, ◌≤◌, nat_lt, List, Err}
use Rattle.cds_flac.specs.declared.error.FlacError.TheVariants.{BadComment}
use Rattle.cds_flac.specs.Step.{Step, after, taken, little_number}
use Rattle.cds_flac.specs.Reading.{text_at, text_of_length}
use Rattle.cds_flac.proofs.Decided.{taken-then, taken-else, below-true, below-false}

module _ (at end : ℕ) (left : List ℕ) where
  refused : Step (List ℕ)
  refused = Err (BadComment at)

  pub text-past : (n : ℕ) → end < at + 4 + n → text_of_length at end n left ≡ Err (BadComment at)
  unfolding refused
  text-past n h = taken-then (nat_lt end (at + 4 + n)) refused (taken (at + 4) n left) (below-true end (at + 4 + n) h)

  pub text-fits : (n : ℕ) → at + 4 + n ≤ end → text_of_length at end n left ≡ taken (at + 4) n left
  unfolding refused
  text-fits n h = taken-else (nat_lt end (at + 4 + n)) refused (taken (at + 4) n left) (below-false end (at + 4 + n) h)

  sized : Step (List ℕ)
  sized = after (little_number at left) (λ n rest. text_of_length at end n rest)

  pub text-no_length : end < at + 4 → text_at at end left ≡ Err (BadComment at)
  unfolding text_at refused sized
  text-no_length h = taken-then (nat_lt end (at + 4)) refused sized (below-true end (at + 4) h)

  pub text-length : at + 4 ≤ end → text_at at end left ≡ after (little_number at left) (λ n rest. text_of_length at end n rest)
  unfolding text_at refused sized
  text-length h = taken-else (nat_lt end (at + 4)) refused sized (below-false end (at + 4) h)
