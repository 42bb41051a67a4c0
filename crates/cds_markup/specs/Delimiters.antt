-- Comments and CDATA sections, character by character, from after their openings.
use Rattle.std.specs.Prelude.{◌==◌, ℕ, ◌+◌, ◌-◌, nat_lt, Bool, ◌&&◌, if◌then◌else◌, List, ◌++◌, length, take, slice_index, encode_utf8}
use Rattle.cds_markup.specs.Next.{Next, Stuck, On, Done}

-- A comment after this many dashes of those that count. After two only its end may follow, which may have a third dash.
abbrev pub step_comment : ℕ → ℕ → Next ℕ (Unit {0})
step_comment dashes c =
    if nat_lt dashes 2 then On (if c == 45 then dashes + 1 else 0)
    else if c == 62 then Done tt
    else if c == 45 && nat_lt dashes 3 then On (dashes + 1)
    else Stuck

-- How many closing brackets stand right before, as far as they matter.
abbrev pub brackets_with : ℕ → ℕ → ℕ
brackets_with brackets c = if c == 93 then (if brackets == 0 then 1 else 2) else 0

abbrev pub closes_section : ℕ → ℕ → Bool
closes_section brackets c = c == 62 && brackets == 2

abbrev pub without_brackets : List ℕ → List ℕ
without_brackets text = if slice_index text (length text - 2) == 93 then take (length text - 2) text else text

abbrev pub step_section : ℕ → List ℕ → ℕ → Next (ℕ × List ℕ) (List ℕ)
step_section brackets text c =
    if closes_section brackets c then Done (without_brackets text) else On (brackets_with brackets c, text ++ encode_utf8 c)
