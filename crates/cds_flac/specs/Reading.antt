-- What the metadata of a FLAC file is, read in order (RFC 9639 on the marker and the metadata blocks): the fields, or the first
-- refusal. A block's type decides as soon as its byte has come, and a length or a count as soon as its bytes have come. A text
-- decides when it is whole. A field that reaches past its block decides at its beginning, after all before it was judged.
use Rattle.std.specs.Prelude.{◌==◌, ℕ, suc, zero, ◌+◌, ◌-◌, ◌%◌, nat_lt, nat_le, Bool, true, false, not, ◌&&◌, if◌then◌else◌, Option, Some, None, is_none, unwrap_or, Ok, Err, List, [], ◌∷◌, length, codes}
use Rattle.std.specs.Str.{is_utf8, bytes_eq}
use Rattle.cds_base.specs.declared.limits.TheConstants.{INPUT_LIMIT}
use Rattle.cds_flac.specs.declared.error.FlacError.TheVariants.{NotFlac, NoStreamInfo, BadStreamInfo, Forbidden, BadComment, TooLong}
use Rattle.cds_flac.specs.declared.block.Header.{Header}
use Rattle.cds_object.specs.declared.info.Comment.{Comment}
use Rattle.cds_object.specs.declared.info.FlacInfo.{FlacInfo}
use Rattle.cds_flac.specs.Numbers.{sound_bits, rate_of, channels_of, depth_of, samples_of}
use Rattle.cds_flac.specs.Comment.{comment_of}
use Rattle.cds_flac.specs.Step.{Step, after, taken, big_number, little_number}

-- The text of a length that was read at a place, in a block that ends at a place.
abbrev pub text_of_length : ℕ → ℕ → ℕ → List ℕ → Step (List ℕ)
text_of_length at end n left = if nat_lt end (at + 4 + n) then Err (BadComment at) else taken (at + 4) n left

-- The text whose length field stands at a place. A field that reaches past the block is refused there.
unfoldable pub text_at : ℕ → ℕ → List ℕ → Step (List ℕ)
text_at at end left =
    if nat_lt end (at + 4) then Err (BadComment at) else after (little_number at left) (λ n rest. text_of_length at end n rest)

-- What follows a text that is in its form. Another text is refused at the place of its length field.
abbrev pub in_form : {A B : Type 0} → ℕ → Option A → (A → Step B) → Step B
in_form at None next = Err (BadComment at)
in_form at (Some value) next = next value

-- This many comments from a place on, and then what is left over in the block.
abbrev pub comments_from : ℕ → ℕ → ℕ → List ℕ → Step (List Comment)
comments_from zero at end left = after (taken at (end - at) left) (λ over rest. Ok ([], rest))
comments_from (suc more) at end left =
    after (text_at at end left) (λ text rest.
    in_form at (comment_of text) (λ comment.
    after (comments_from more (at + 4 + length text) end rest) (λ others rest. Ok (comment ∷ others, rest))))

-- The comments whose count stands at a place. A count that reaches past the block is refused there.
unfoldable pub counted_comments : ℕ → ℕ → List ℕ → Step (List Comment)
counted_comments at end left =
    if nat_lt end (at + 4) then Err (BadComment at)
    else after (little_number at left) (λ count rest. comments_from count (at + 4) end rest)

-- The comments after a vendor text that is in UTF-8.
abbrev pub behind_vendor : ℕ → ℕ → List ℕ → List ℕ → Step (List Comment)
behind_vendor at end vendor left =
    if is_utf8 vendor then counted_comments (at + 4 + length vendor) end left else Err (BadComment at)

-- The comments of a VORBIS_COMMENT block's body, from its place to its end.
unfoldable pub comment_block : ℕ → ℕ → List ℕ → Step (List Comment)
comment_block at end left = after (text_at at end left) (λ vendor rest. behind_vendor at end vendor rest)

-- A block header's first byte has the type in seven bits, and in the top one whether the block is the last.
abbrev pub kind_of : ℕ → ℕ
kind_of head = head % 128

abbrev pub is_last : ℕ → Bool
is_last head = nat_le 128 head

-- The body of a block of a type: the first VORBIS_COMMENT counts, everything else is passed over. `found` are the comments so
-- far, if such a block came.
abbrev pub is_first_comment : ℕ → Option (List Comment) → Bool
is_first_comment kind found = kind == 4 && is_none found

unfoldable pub block_body : ℕ → Option (List Comment) → ℕ → ℕ → List ℕ → Step (Option (List Comment))
block_body kind found at n left =
    if is_first_comment kind found then after (comment_block at (at + n) left) (λ comments rest. Ok (Some comments, rest))
    else after (taken at n left) (λ body rest. Ok (found, rest))

-- The most that the blocks may take, their headers with them and without the marker.
abbrev pub metadata_limit : ℕ
metadata_limit = INPUT_LIMIT

-- The header of a block at a place. One whose block would pass the limit is refused.
abbrev pub header_of_length : ℕ → ℕ → ℕ → List ℕ → Step Header
header_of_length at head n left =
    if nat_lt metadata_limit (at + n) then Err TooLong
    else Ok (record { last = is_last head; kind = kind_of head; length = n }, left)

abbrev pub header_of_head : ℕ → ℕ → List ℕ → Step Header
header_of_head at head left =
    if kind_of head == 127 then Err (Forbidden at)
    else after (big_number (at + 1) 3 left) (λ n rest. header_of_length at head n rest)

unfoldable pub header_at : ℕ → List ℕ → Step Header
header_at at left = after (big_number at 1 left) (λ head rest. header_of_head at head rest)

-- At most this many blocks from a place on, to the end of the last one.
abbrev pub blocks_from : ℕ → Option (List Comment) → ℕ → List ℕ → Step (Option (List Comment))
blocks_from zero found at left = Err TooLong
blocks_from (suc fewer) found at left =
    after (header_at at left) (λ header rest.
    after (block_body header.kind found (at + 4) header.length rest) (λ found rest.
    if header.last then Ok (found, rest) else blocks_from fewer found (at + 4 + header.length) rest))

-- Each block takes at least four bytes. So fewer blocks are within the limit than it has bytes.
unfoldable pub most_blocks : ℕ
most_blocks = INPUT_LIMIT

-- The comments of the blocks after the first.
abbrev pub further_blocks : Bool → ℕ → List ℕ → Step (Option (List Comment))
further_blocks true at left = Ok (None, left)
further_blocks false at left = blocks_from most_blocks None at left

-- What STREAMINFO's body and the comments say.
abbrev pub info_of : ℕ → Option (List Comment) → FlacInfo
info_of bits found = record {
  rate = rate_of bits;
  channels = channels_of bits;
  bits = depth_of bits;
  samples = samples_of bits;
  comments = unwrap_or found [];
}

-- The marker, which comes first.
abbrev pub marker : List ℕ
marker = codes "fLaC"

-- The first block, which is STREAMINFO: its first byte and its length. Given is the first byte.
abbrev pub stream_of_length : ℕ → ℕ → List ℕ → Step ℕ
stream_of_length head n left = if n == 34 then Ok (head, left) else Err BadStreamInfo

abbrev pub stream_of_head : ℕ → List ℕ → Step ℕ
stream_of_head head left =
    if kind_of head == 127 then Err (Forbidden 4)
    else if not (kind_of head == 0) then Err NoStreamInfo
    else after (big_number 5 3 left) (λ n rest. stream_of_length head n rest)

unfoldable pub stream_head : List ℕ → Step ℕ
stream_head left = after (big_number 4 1 left) (λ head rest. stream_of_head head rest)

-- The body of STREAMINFO: the bits that describe the sound.
unfoldable pub sound_at : List ℕ → Step ℕ
sound_at left = after (taken 8 34 left) (λ body rest. Ok (sound_bits body, rest))

-- The marker.
abbrev pub is_marker : List ℕ → List ℕ → Step (Unit {0})
is_marker four left = if bytes_eq four marker then Ok (tt, left) else Err NotFlac

unfoldable pub marker_at : List ℕ → Step (Unit {0})
marker_at bytes = after (taken 0 4 bytes) (λ four rest. is_marker four rest)

-- The whole metadata.
unfoldable pub metadata : List ℕ → Step FlacInfo
metadata bytes =
    after (marker_at bytes) (λ done rest.
    after (stream_head rest) (λ head rest.
    after (sound_at rest) (λ bits rest.
    after (further_blocks (is_last head) 42 rest) (λ found rest. Ok (info_of bits found, rest)))))
