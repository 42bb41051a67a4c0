-- The first bytes of block headers, judged.
use Rattle.std.proofs.Common.{◌≡◌, ℕ, ◌+◌, ◌<◌, ◌≤◌, nat_lt, nat_eq, not, cond, List, Ok, Err, ap, ◌∙◌, arith}
use Rattle.cds_flac.specs.declared.block.Header.{Header}
use Rattle.cds_flac.specs.declared.error.FlacError.TheVariants.{NoStreamInfo, BadStreamInfo, Forbidden, TooLong}
use Rattle.cds_flac.specs.Step.{Step, after, big_number}
use Rattle.cds_flac.specs.Reading.{kind_of, is_last, metadata_limit, stream_head, stream_of_head, stream_of_length, header_at, header_of_head, header_of_length}
use Rattle.cds_flac.proofs.Steps.{after-ok}
use Rattle.cds_flac.proofs.Decided.{taken-then, taken-else, below-true, below-false, equal-true, equal-false}

pub stream-behind : (bytes rest : List ℕ) (head : ℕ) → big_number 4 1 bytes ≡ Ok (head, rest) → stream_head bytes ≡ stream_of_head head rest
unfolding stream_head
stream-behind bytes rest head e = after-ok (λ head rest. stream_of_head head rest) e

pub header-behind : (at : ℕ) (bytes rest : List ℕ) (head : ℕ) → big_number at 1 bytes ≡ Ok (head, rest) → header_at at bytes ≡ header_of_head at head rest
unfolding header_at
header-behind at bytes rest head e = after-ok (λ head rest. header_of_head at head rest) e

module _ (head : ℕ) (left : List ℕ) where
  stream_length : Step ℕ
  stream_length = after (big_number 5 3 left) (λ n rest. stream_of_length head n rest)

  stream_kind : Step ℕ
  stream_kind = cond (not (nat_eq (kind_of head) 0)) (Err NoStreamInfo) (after (big_number 5 3 left) (λ n rest. stream_of_length head n rest))

  pub stream-forbidden : kind_of head ≡ 127 → stream_of_head head left ≡ Err (Forbidden 4)
  unfolding stream_kind
  stream-forbidden e =
      let refusal : Step ℕ = Err (Forbidden 4) in taken-then (nat_eq (kind_of head) 127) refusal stream_kind (equal-true (kind_of head) 127 e)

  allowed : (kind_of head ≡ 127 → ⊥) → stream_of_head head left ≡ stream_kind
  unfolding stream_kind
  allowed e =
      let refusal : Step ℕ = Err (Forbidden 4) in taken-else (nat_eq (kind_of head) 127) refusal stream_kind (equal-false (kind_of head) 127 e)

  pub stream-other : (kind_of head ≡ 127 → ⊥) → (kind_of head ≡ 0 → ⊥) → stream_of_head head left ≡ Err NoStreamInfo
  unfolding stream_kind stream_length
  stream-other e o =
      let refusal : Step ℕ = Err NoStreamInfo in
      allowed e ∙ taken-then (not (nat_eq (kind_of head) 0)) refusal stream_length (ap not (equal-false (kind_of head) 0 o))

  pub stream-right : kind_of head ≡ 0 → stream_of_head head left ≡ after (big_number 5 3 left) (λ n rest. stream_of_length head n rest)
  unfolding stream_kind stream_length
  stream-right z =
      let refusal : Step ℕ = Err NoStreamInfo in
      allowed (λ e. absurd (omega (arith, e, z))) ∙ taken-else (not (nat_eq (kind_of head) 0)) refusal stream_length (ap not (equal-true (kind_of head) 0 z))

  pub stream-length : (n : ℕ) → n ≡ 34 → stream_of_length head n left ≡ Ok (head, left)
  stream-length n e =
      let found : Step ℕ = Ok (head, left) in let refusal : Step ℕ = Err BadStreamInfo in taken-then (nat_eq n 34) found refusal (equal-true n 34 e)

  pub stream-no_length : (n : ℕ) → (n ≡ 34 → ⊥) → stream_of_length head n left ≡ Err BadStreamInfo
  stream-no_length n e =
      let found : Step ℕ = Ok (head, left) in let refusal : Step ℕ = Err BadStreamInfo in taken-else (nat_eq n 34) found refusal (equal-false n 34 e)

module _ (at head : ℕ) (left : List ℕ) where
  header_length : Step Header
  header_length = after (big_number (at + 1) 3 left) (λ n rest. header_of_length at head n rest)

  pub header-forbidden : kind_of head ≡ 127 → header_of_head at head left ≡ Err (Forbidden at)
  unfolding header_length
  header-forbidden e =
      let refusal : Step Header = Err (Forbidden at) in taken-then (nat_eq (kind_of head) 127) refusal header_length (equal-true (kind_of head) 127 e)

  pub header-allowed : (kind_of head ≡ 127 → ⊥) → header_of_head at head left ≡ after (big_number (at + 1) 3 left) (λ n rest. header_of_length at head n rest)
  unfolding header_length
  header-allowed e =
      let refusal : Step Header = Err (Forbidden at) in taken-else (nat_eq (kind_of head) 127) refusal header_length (equal-false (kind_of head) 127 e)

  found : ℕ → Step Header
  found n = Ok (record { last = is_last head; kind = kind_of head; length = n }, left)

  pub header-too_long : (n : ℕ) → metadata_limit < at + n → header_of_length at head n left ≡ Err TooLong
  unfolding found
  header-too_long n h =
      let refusal : Step Header = Err TooLong in taken-then (nat_lt metadata_limit (at + n)) refusal (found n) (below-true metadata_limit (at + n) h)

  pub header-within : (n : ℕ) → at + n ≤ metadata_limit → header_of_length at head n left ≡ Ok (record { last = is_last head; kind = kind_of head; length = n }, left)
  unfolding found
  header-within n h =
      let refusal : Step Header = Err TooLong in taken-else (nat_lt metadata_limit (at + n)) refusal (found n) (below-false metadata_limit (at + n) h)
