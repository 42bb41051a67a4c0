-- Small files evaluated by the definition.
use Rattle.std.specs.Prelude.{◌≡◌, ℕ, Ok, Err, List, [], ◌∷◌, ◌++◌, codes, replicate, length, take}
use Rattle.cds_flac.specs.declared.error.FlacError.TheVariants.{NotFlac, NoStreamInfo, BadStreamInfo, Forbidden, Truncated, BadComment}
use Rattle.cds_flac.specs.Reading.{metadata}

-- The marker and a STREAMINFO block: 44,100 Hz, 2 channels, 16 bits, 441,000 samples. More blocks follow.
abbrev pub sound : List ℕ
sound =
    codes "fLaC" ++ 0 ∷ 0 ∷ 0 ∷ 34 ∷ 3 ∷ 232 ∷ 3 ∷ 232 ∷ replicate 6 0
    ++ 10 ∷ 196 ∷ 66 ∷ 240 ∷ 0 ∷ 6 ∷ 186 ∷ 168 ∷ replicate 16 0

-- A last block of comments: no vendor, one comment.
abbrev pub title : List ℕ
title = 132 ∷ 0 ∷ 0 ∷ 19 ∷ replicate 4 0 ++ 1 ∷ 0 ∷ 0 ∷ 0 ∷ 7 ∷ 0 ∷ 0 ∷ 0 ∷ codes "TITLE=Z"

-- The file is read whole.
abbrev pub TitleIsRead : Type 0
TitleIsRead = metadata (sound ++ title ++ 1 ∷ 2 ∷ []) ≡ Ok (
  record {
    rate = 44100;
    channels = 2;
    bits = 16;
    samples = 441000;
    comments = record { name = codes "TITLE"; value = codes "Z" } ∷ [];
  },
  1 ∷ 2 ∷ [],
)

-- Cut off in the first block's body, in the comment's text and in its length.
abbrev pub CutsAreTruncated : Type 0
CutsAreTruncated =
    (metadata (take 41 (sound ++ title)) ≡ Err (Truncated 41))
    × (metadata (take 64 (sound ++ title)) ≡ Err (Truncated 64))
    × (metadata (take 56 (sound ++ title)) ≡ Err (Truncated 56))

-- A last block of comments with this body of fewer than 256 bytes.
abbrev pub comments_block : List ℕ → List ℕ
comments_block body = 132 ∷ 0 ∷ 0 ∷ length body ∷ body

-- A 32-bit number below 256, the lowest byte first.
abbrev pub low : ℕ → List ℕ
low n = n ∷ 0 ∷ 0 ∷ 0 ∷ []

-- Faults of the marker and of block headers, each with what comes at the fault and nothing after it.
abbrev pub HeaderFaultsAreRefused : Type 0
HeaderFaultsAreRefused =
    (metadata (codes "ID3" ++ 4 ∷ []) ≡ Err NotFlac)
    × (metadata (codes "fLa") ≡ Err (Truncated 3))
    × (metadata (codes "fLaC" ++ 1 ∷ []) ≡ Err NoStreamInfo)
    × (metadata (codes "fLaC" ++ 255 ∷ []) ≡ Err (Forbidden 4))
    × (metadata (codes "fLaC" ++ 0 ∷ 0 ∷ 0 ∷ 33 ∷ []) ≡ Err BadStreamInfo)
    × (metadata (sound ++ 127 ∷ []) ≡ Err (Forbidden 42))

-- Faults of a comment block whose body begins at 46: no room for the vendor's length; a vendor past the block, and one that
-- leaves no room for the count; no room for the first comment's length; a comment past the block, and one that leaves no room for
-- the next one's length.
abbrev pub CommentFieldFaultsAreRefused : Type 0
CommentFieldFaultsAreRefused =
    (metadata (sound ++ comments_block (0 ∷ 0 ∷ 0 ∷ [])) ≡ Err (BadComment 46))
    × (metadata (sound ++ comments_block (low 5 ++ low 0)) ≡ Err (BadComment 46))
    × (metadata (sound ++ comments_block (low 1 ++ low 0)) ≡ Err (BadComment 51))
    × (metadata (sound ++ comments_block (low 0 ++ low 1 ++ 0 ∷ [])) ≡ Err (BadComment 54))
    × (metadata (sound ++ comments_block (low 0 ++ low 1 ++ low 4 ++ codes "A=B")) ≡ Err (BadComment 54))
    × (metadata (sound ++ comments_block (low 0 ++ low 2 ++ low 3 ++ codes "A=B")) ≡ Err (BadComment 61))

-- A text before a field that has no room is judged first: a vendor that is not UTF-8, one that is cut off, a comment out of form,
-- and one that is cut off.
abbrev pub TextsBeforeFieldsDecide : Type 0
TextsBeforeFieldsDecide =
    (metadata (sound ++ 132 ∷ 0 ∷ 0 ∷ 5 ∷ low 1 ++ 255 ∷ []) ≡ Err (BadComment 46))
    × (metadata (sound ++ 132 ∷ 0 ∷ 0 ∷ 5 ∷ low 1) ≡ Err (Truncated 50))
    × (metadata (sound ++ 132 ∷ 0 ∷ 0 ∷ 12 ∷ low 0 ++ low 2 ++ low 0) ≡ Err (BadComment 54))
    × (metadata (sound ++ 132 ∷ 0 ∷ 0 ∷ 15 ∷ low 0 ++ low 2 ++ low 2) ≡ Err (Truncated 58))

-- Texts out of form: no equals sign, no name, a byte in the name, a value and a vendor that are not UTF-8.
abbrev pub TextFaultsAreRefused : Type 0
TextFaultsAreRefused =
    (metadata (sound ++ comments_block (low 0 ++ low 1 ++ low 1 ++ codes "A")) ≡ Err (BadComment 54))
    × (metadata (sound ++ comments_block (low 0 ++ low 1 ++ low 2 ++ codes "=B")) ≡ Err (BadComment 54))
    × (metadata (sound ++ comments_block (low 0 ++ low 1 ++ low 3 ++ 31 ∷ codes "=B")) ≡ Err (BadComment 54))
    × (metadata (sound ++ comments_block (low 0 ++ low 1 ++ low 3 ++ codes "A=" ++ 255 ∷ [])) ≡ Err (BadComment 54))
    × (metadata (sound ++ comments_block (low 1 ++ 128 ∷ low 0)) ≡ Err (BadComment 46))
