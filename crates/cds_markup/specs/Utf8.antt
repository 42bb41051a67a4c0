-- How characters come in bytes (UTF-8).
use Rattle.std.specs.Prelude.{◌==◌, ℕ, ◌+◌, ◌-◌, ◌*◌, nat_lt, nat_le, Bool, ◌&&◌, ◌||◌, if◌then◌else◌, Result, Ok, Err, List, [], ◌∷◌}
use Rattle.cds_base.specs.Characters.{is_allowed}

-- A value and what is left. Otherwise what is left, from the first byte on that cannot stand there.
abbrev pub Step : Type 0 → Type 0
Step A = Result (A × List ℕ) (List ℕ)

abbrev pub after : {A B : Type 0} → Step A → (A → List ℕ → Step B) → Step B
after (Err left) next = Err left
after (Ok found) next = next found.0 found.1

abbrev pub byte_at : (ℕ → Bool) → List ℕ → Step ℕ
byte_at test [] = Err []
byte_at test (b ∷ rest) = if test b then Ok (b, rest) else Err (b ∷ rest)

-- The bytes after the first of a character of more than one byte (Unicode's table of well-formed sequences). U+FFFE and U+FFFF
-- are left out, since they are not allowed.
abbrev pub second_low : ℕ → ℕ
second_low a = if a == 224 then 160 else if a == 240 then 144 else 128

abbrev pub second_high : ℕ → ℕ
second_high a = if a == 237 then 159 else if a == 244 then 143 else 191

abbrev pub third_high : ℕ → ℕ → ℕ
third_high a b = if a == 239 && b == 191 then 189 else 191

abbrev pub is_within : ℕ → ℕ → ℕ → Bool
is_within low high b = nat_le low b && nat_le b high

abbrev pub tail_at : ℕ → ℕ → List ℕ → Step ℕ
tail_at low high left = byte_at (is_within low high) left

abbrev pub two_bytes_at : ℕ → List ℕ → Step ℕ
two_bytes_at a left = after (tail_at 128 191 left) (λ b rest. Ok ((a - 192) * 64 + (b - 128), rest))

abbrev pub three_bytes_at : ℕ → List ℕ → Step ℕ
three_bytes_at a left =
    after (tail_at (second_low a) (second_high a) left) (λ b rest.
    after (tail_at 128 (third_high a b) rest) (λ c rest. Ok ((a - 224) * 4096 + (b - 128) * 64 + (c - 128), rest)))

abbrev pub four_bytes_at : ℕ → List ℕ → Step ℕ
four_bytes_at a left =
    after (tail_at (second_low a) (second_high a) left) (λ b rest.
    after (tail_at 128 191 rest) (λ c rest.
    after (tail_at 128 191 rest) (λ d rest.
    Ok ((a - 240) * 262144 + (b - 128) * 4096 + (c - 128) * 64 + (d - 128), rest))))

-- Any allowed character: one byte of ASCII, or a first byte that says how many follow it.
abbrev pub begins_character : ℕ → Bool
begins_character b = (nat_lt b 128 && is_allowed b) || is_within 194 244 b

abbrev pub behind_first : ℕ → List ℕ → Step ℕ
behind_first b rest =
    if nat_lt b 128 then Ok (b, rest)
    else if nat_lt b 224 then two_bytes_at b rest
    else if nat_lt b 240 then three_bytes_at b rest
    else four_bytes_at b rest

unfoldable pub any_at : List ℕ → Step ℕ
any_at left = after (byte_at begins_character left) behind_first
