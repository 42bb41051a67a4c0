-- The body, and its eight bytes.
use Rattle.std.proofs.Common.{◌≡◌, ℕ, List, ap, sym, ◌∙◌, Ok, arith}
use Rattle.cds_flac.specs.Numbers.{sound_bits}
use Rattle.cds_flac.specs.Step.{taken}
use Rattle.cds_flac.specs.Reading.{sound_at}
use Rattle.cds_flac.proofs.Bits.{sound_bits-bytes}
use Rattle.cds_flac.proofs.Steps.{after-ok, judged-after, agrees-exit}
use Rattle.cds_flac.proofs.read.read_sound.Goals as goal

behind_body : (bytes body rest : List ℕ) → taken 8 34 bytes ≡ Ok (body, rest) → sound_at bytes ≡ Ok (sound_bits body, rest)
unfolding sound_at
behind_body bytes body rest e = after-ok (λ body rest. Ok (sound_bits body, rest)) e

pub returns-in_err-fill-clause-told : goal.returns-in_err-fill-clause-told
unfolding sound_at
returns-in_err-fill-clause-told g c = λ bytes told.
    agrees-exit _ c.from_residual.result _ c.in_err-fill.field-0.0 c.from_residual.ensures.1 (judged-after (taken 8 34 bytes) _ _ (c.in_err-fill.ensures.told bytes told))

pub returns-clause-told : goal.returns-clause-told
returns-clause-told g c = λ bytes told.
    let body = c.in_ok-fill.ensures.told bytes told in
    let bits : sound_bits c.fill.new.into ≡ c.from_be_bytes.result = sound_bits-bytes c.fill.new.into (omega arith) ∙ sym c.from_be_bytes.ensures in (
      body.0,
      behind_body bytes c.fill.new.into body.0 body.1 ∙ ap (λ n. Ok (n, body.0)) bits,
      body.2,
    )
