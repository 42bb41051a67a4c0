-- Numbers in bytes, and the fields of STREAMINFO (RFC 9639).
use Rattle.std.specs.Prelude.{ℕ, ◌+◌, ◌*◌, ◌/◌, ◌%◌, ◌^◌, List, [], ◌∷◌, length, take, drop}

-- The number with its highest byte first.
abbrev pub big_endian : List ℕ → ℕ
big_endian [] = 0
big_endian (byte ∷ rest) = byte * 256 ^ length rest + big_endian rest

-- The number with its lowest byte first.
abbrev pub little_endian : List ℕ → ℕ
little_endian [] = 0
little_endian (byte ∷ rest) = byte + 256 * little_endian rest

-- The 64 bits of STREAMINFO that describe the sound: the rate in 20, the channels less one in 3, the bits per sample less one in
-- 5 and the samples in 36. They are its bytes 10 to 17, after two block sizes of 16 bits and two frame sizes of 24.
abbrev pub sound_bits : List ℕ → ℕ
sound_bits body = big_endian (take 8 (drop 10 body))

abbrev pub rate_of : ℕ → ℕ
rate_of bits = bits / 2 ^ 44

abbrev pub channels_of : ℕ → ℕ
channels_of bits = bits / 2 ^ 41 % 2 ^ 3 + 1

abbrev pub depth_of : ℕ → ℕ
depth_of bits = bits / 2 ^ 36 % 2 ^ 5 + 1

abbrev pub samples_of : ℕ → ℕ
samples_of bits = bits % 2 ^ 36
