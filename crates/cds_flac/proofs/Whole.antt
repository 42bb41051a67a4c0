-- The parts of a file's metadata, one after another.
use Rattle.std.proofs.Common.{◌≡◌, ℕ, List, Option, Ok, refl, ◌∙◌}
use Rattle.cds_flac.specs.declared.error.FlacError.{FlacError}
use Rattle.cds_object.specs.declared.info.Comment.{Comment}
use Rattle.cds_object.specs.declared.info.FlacInfo.{FlacInfo}
use Rattle.cds_flac.specs.Step.{Step, after}
use Rattle.cds_flac.specs.Agree.{Judged}
use Rattle.cds_flac.specs.Reading.{further_blocks, info_of, is_last, marker_at, metadata, sound_at, stream_head}
use Rattle.cds_flac.proofs.Steps.{after-ok, judged-after, judged-same}

-- what follows each part
pub from_blocks : ℕ → Option (List Comment) → List ℕ → Step FlacInfo
from_blocks bits found rest = Ok (info_of bits found, rest)

pub from_sound : ℕ → ℕ → List ℕ → Step FlacInfo
from_sound head bits rest = after (further_blocks (is_last head) 42 rest) (from_blocks bits)

pub from_head : ℕ → List ℕ → Step FlacInfo
from_head head rest = after (sound_at rest) (from_sound head)

pub from_marker : Unit {0} → List ℕ → Step FlacInfo
from_marker done rest = after (stream_head rest) from_head

module _ (bytes : List ℕ) where
  pub whole : metadata bytes ≡ after (marker_at bytes) from_marker
  unfolding metadata from_marker from_head from_sound from_blocks
  whole = refl

  pub no_marker : (refusal : FlacError) → Judged (marker_at bytes) refusal → Judged (metadata bytes) refusal
  no_marker refusal h = judged-same refusal whole (judged-after (marker_at bytes) from_marker refusal h)

  module _ (done : Unit {0}) (first : List ℕ) (e : marker_at bytes ≡ Ok (done, first)) where
    pub to_head : metadata bytes ≡ after (stream_head first) from_head
    unfolding from_marker
    to_head = whole ∙ after-ok from_marker e

    pub no_head : (refusal : FlacError) → Judged (stream_head first) refusal → Judged (metadata bytes) refusal
    no_head refusal h = judged-same refusal to_head (judged-after (stream_head first) from_head refusal h)

    module _ (head : ℕ) (second : List ℕ) (f : stream_head first ≡ Ok (head, second)) where
      pub to_sound : metadata bytes ≡ after (sound_at second) (from_sound head)
      unfolding from_head
      to_sound = to_head ∙ after-ok from_head f

      pub no_sound : (refusal : FlacError) → Judged (sound_at second) refusal → Judged (metadata bytes) refusal
      no_sound refusal h = judged-same refusal to_sound (judged-after (sound_at second) (from_sound head) refusal h)

      module _ (bits : ℕ) (third : List ℕ) (k : sound_at second ≡ Ok (bits, third)) where
        pub to_blocks : metadata bytes ≡ after (further_blocks (is_last head) 42 third) (from_blocks bits)
        unfolding from_sound
        to_blocks = to_sound ∙ after-ok (from_sound head) k

        pub no_blocks : (refusal : FlacError) → Judged (further_blocks (is_last head) 42 third) refusal → Judged (metadata bytes) refusal
        no_blocks refusal h = judged-same refusal to_blocks (judged-after (further_blocks (is_last head) 42 third) (from_blocks bits) refusal h)

        pub all : (found : Option (List Comment)) (rest : List ℕ) → further_blocks (is_last head) 42 third ≡ Ok (found, rest) → metadata bytes ≡ Ok (info_of bits found, rest)
        unfolding from_blocks
        all found rest h = to_blocks ∙ after-ok (from_blocks bits) h
