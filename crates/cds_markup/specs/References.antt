-- References, character by character, from after their `&`.
use Rattle.std.specs.Prelude.{◌==◌, ℕ, ◌+◌, ◌*◌, nat_le, Bool, true, false, ◌&&◌, if◌then◌else◌, List, [], ◌∷◌, codes}
use Rattle.std.specs.Char.{is_digit, digit_value}
use Rattle.cds_base.specs.Characters.{is_allowed}
use Rattle.cds_markup.specs.declared.mode.ReferenceState.{ReferenceState}
use Rattle.cds_markup.specs.declared.mode.ReferenceState.TheVariants.{Ampersand, EntityA, Entity, Sharp, Number}
use Rattle.cds_markup.specs.Next.{Next, Stuck, On, Done}

abbrev pub base_of : Bool → ℕ
base_of hexadecimal = if hexadecimal then 16 else 10

abbrev pub with_digit : Bool → ℕ → ℕ → ℕ
with_digit hexadecimal value digit = value * base_of hexadecimal + digit_value digit

-- A digit is refused if the number goes above every code point. The `;` is refused if the number is no allowed character.
abbrev pub number_step : Bool → ℕ → ℕ → Next ReferenceState ℕ
number_step hexadecimal value c =
    if is_digit c (base_of hexadecimal)
    then (if nat_le (with_digit hexadecimal value c) 1114111 then On (Number hexadecimal (with_digit hexadecimal value c)) else Stuck)
    else if c == 59 && is_allowed value then Done value
    else Stuck

abbrev pub entity_step : List ℕ → ℕ → ℕ → Next ReferenceState ℕ
entity_step [] code c = Stuck
entity_step (b ∷ []) code c = if c == b then Done code else Stuck
entity_step (b ∷ d ∷ left) code c = if c == b then On (Entity (d ∷ left) code) else Stuck

abbrev pub step_reference : ReferenceState → ℕ → Next ReferenceState ℕ
step_reference Ampersand c =
    if c == 35 then On Sharp
    else if c == 97 then On EntityA
    else if c == 103 then On (Entity (codes "t;") 62)
    else if c == 108 then On (Entity (codes "t;") 60)
    else if c == 113 then On (Entity (codes "uot;") 34)
    else Stuck
step_reference EntityA c =
    if c == 109 then On (Entity (codes "p;") 38) else if c == 112 then On (Entity (codes "os;") 39) else Stuck
step_reference (Entity left code) c = entity_step left code c
step_reference Sharp c = if c == 120 then On (Number true 0) else number_step false 0 c
step_reference (Number hexadecimal value) c = number_step hexadecimal value c
