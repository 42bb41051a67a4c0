-- How long a resource plays: hours, minutes, seconds and parts of a second, read as milliseconds (UPnP ContentDirectory:4 on
-- res@duration). It is cut to milliseconds, which is this project's profile.
use Rattle.std.specs.Prelude.{◌==◌, ◌+◌, ◌-◌, ◌*◌, ◌^◌, ℕ, nat_lt, if◌then◌else◌, Option, Some, None, List, length, take, drop, position}
use Rattle.std.specs.Option.{option_and_then, option_map}
use Rattle.std.specs.List.{list_all}
use Rattle.std.specs.Char.{is_ascii_digit}
use Rattle.cds_base.specs.Number.{number_below}

infixl 10 ◌>>=◌
abbrev pub ◌>>=◌ : {A B : Type 0} → Option A → (A → Option B) → Option B
o >>= f = option_and_then f o

-- What stands before the first such byte and after it, if there is one.
abbrev pub parts_at : List ℕ → Option ℕ → Option (List ℕ × List ℕ)
parts_at text None = None
parts_at text (Some at) = Some (take at text, drop (at + 1) text)

abbrev pub cut_at : ℕ → List ℕ → Option (List ℕ × List ℕ)
cut_at byte text = parts_at text (position (λ b. b == byte) text)

-- A value, if it is below a limit.
abbrev pub where_below : ℕ → ℕ → Option ℕ
where_below limit value = if nat_lt value limit then Some value else None

-- `00` to `59`.
abbrev pub sixtieth : List ℕ → Option ℕ
sixtieth text = if length text == 2 then number_below 60 text else None

-- Digits after a point as thousandths. The first three count.
abbrev pub scaled : ℕ → ℕ → ℕ
scaled digits value = value * 10 ^ (3 - digits)

abbrev pub thousandths : List ℕ → Option ℕ
thousandths text =
    if list_all is_ascii_digit text then option_map (scaled (length (take 3 text))) (number_below (2 ^ 32) (take 3 text)) else None

-- Seconds in milliseconds, with or without a point and digits after it.
unfoldable pub with_point : List ℕ × List ℕ → Option ℕ
with_point parts = do
  seconds ← sixtieth parts.0
  thousand ← thousandths parts.1
  Some (seconds * 1000 + thousand)

unfoldable pub without_point : List ℕ → Option ℕ
without_point text = do
  seconds ← sixtieth text
  Some (seconds * 1000)

abbrev pub seconds_in : List ℕ → Option (List ℕ × List ℕ) → Option ℕ
seconds_in text None = without_point text
seconds_in text (Some parts) = with_point parts

abbrev pub seconds_read : List ℕ → Option ℕ
seconds_read text = seconds_in text (cut_at 46 text)

-- A duration in milliseconds, below 2^64.
unfoldable pub duration_read : List ℕ → Option ℕ
duration_read text = do
  first ← cut_at 58 text
  second ← cut_at 58 first.1
  hours ← number_below (2 ^ 64) first.0
  minutes ← sixtieth second.0
  milliseconds ← seconds_read second.1
  where_below (2 ^ 64) (hours * 3600000 + (minutes * 60000 + milliseconds))
