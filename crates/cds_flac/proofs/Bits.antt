-- The number of some bytes in the middle of others.
use Rattle.std.proofs.Common.{◌≡◌, ℕ, suc, ◌+◌, ◌*◌, ◌^◌, ◌<◌, ◌≤◌, List, length, get_or, take, drop, ap, ◌∙◌, arith, drop-cons, length-drop}
use Rattle.std.proofs.lemmas.List.{length-take-le}
use Rattle.cds_flac.specs.Numbers.{big_endian, sound_bits}

-- the highest byte apart
first_apart : (bytes : List ℕ) (k i : ℕ) → i + suc k ≤ length bytes → big_endian (take (suc k) (drop i bytes)) ≡ get_or bytes i 0 * 256 ^ k + big_endian (take k (drop (suc i) bytes))
first_apart bytes k i h =
    let inside : i < length bytes = omega arith in
    let rest : k ≤ length (drop (suc i) bytes) = omega (arith, length-drop (suc i) bytes) in
    ap (λ xs. big_endian (take (suc k) xs)) (drop-cons bytes i 0 inside)
    ∙ ap (λ n. get_or bytes i 0 * 256 ^ n + big_endian (take k (drop (suc i) bytes))) (length-take-le k (drop (suc i) bytes) rest)

-- the eight bytes that describe the sound
pub sound_bits-bytes : (b : List ℕ) → length b ≡ 34 → sound_bits b ≡ get_or b 10 0 * 72057594037927936 + get_or b 11 0 * 281474976710656 + get_or b 12 0 * 1099511627776 + get_or b 13 0 * 4294967296 + get_or b 14 0 * 16777216 + get_or b 15 0 * 65536 + get_or b 16 0 * 256 + get_or b 17 0
sound_bits-bytes b long =
    let e7 = first_apart b 7 10 (omega arith) in
    let e6 = first_apart b 6 11 (omega arith) in
    let e5 = first_apart b 5 12 (omega arith) in
    let e4 = first_apart b 4 13 (omega arith) in
    let e3 = first_apart b 3 14 (omega arith) in
    let e2 = first_apart b 2 15 (omega arith) in
    let e1 = first_apart b 1 16 (omega arith) in
    let e0 = first_apart b 0 17 (omega arith) in
    omega arith
