-- The names of subscriptions on the wire: 128-bit numbers in the form of a version 8 UUID (RFC 9562), made of a server's boot
-- words and the number of the grant (this project's profile).
use Rattle.std.specs.Prelude.{◌≡◌, ◌+◌, ◌-◌, ◌*◌, ◌/◌, ◌%◌, ◌^◌, ◌<◌, ℕ}
use Rattle.cds_commands.specs.Commands.{Start}

-- the upper 64 bits of a name: those of the first boot word, with the four bits of the version at 12 to 15
abbrev pub high_word : ℕ → ℕ
high_word high = high / 2 ^ 16 * 2 ^ 16 + 8 * 2 ^ 12 + high % 2 ^ 12

-- the lower 64 bits of the name of number 0: those of the second boot word, with the two bits of the variant at the top and
-- the lowest 32 bits left for the number
abbrev pub low_word : ℕ → ℕ
low_word low = 2 ^ 63 + low % 2 ^ 62 / 2 ^ 32 * 2 ^ 32

-- the name of number 0, which is a server's reset token, and that of the subscription of a number
abbrev pub names_of : Start → ℕ
names_of start = high_word start.high * 2 ^ 64 + low_word start.low

abbrev pub name_of : Start → ℕ → ℕ
name_of start number = names_of start + number

-- no two of fewer than 2^32 grants of a server have one name
abbrev pub names_differ : Type 0
names_differ = (start : Start) (m n : ℕ) → m < 2 ^ 32 → n < 2 ^ 32 → name_of start m ≡ name_of start n → m ≡ n

-- a name has 128 bits, if the boot words have 64 each and the number 32
abbrev pub names_are_short : Type 0
names_are_short = (start : Start) (n : ℕ) → start.high < 2 ^ 64 → start.low < 2 ^ 64 → n < 2 ^ 32 → name_of start n < 2 ^ 128

-- the names of numbers 0 and 1 of a server whose boot words are 0, and of number 1 of one whose bits are all set
abbrev pub names_evaluated : Type 0
names_evaluated =
    (name_of (record { high = 0; low = 0; first = 0; wrap = 4294967295 }) 0 ≡ 0x80008000000000000000)
    × (name_of (record { high = 0; low = 0; first = 0; wrap = 4294967295 }) 1 ≡ 0x80008000000000000001)
    × (name_of (record { high = 2 ^ 64 - 1; low = 2 ^ 64 - 1; first = 0; wrap = 4294967295 }) 1 ≡ 0xffffffffffff8fffbfffffff00000001)
