-- Values of attributes, character by character, from after their first quote.
use Rattle.std.specs.Prelude.{◌==◌, ℕ, Bool, false, ◌&&◌, if◌then◌else◌, Option, Some, None, List, [], ◌∷◌, ◌++◌, encode_utf8}
use Rattle.cds_base.specs.Characters.{is_blank}
use Rattle.cds_markup.specs.declared.mode.ReferenceState.{ReferenceState}
use Rattle.cds_markup.specs.declared.mode.ReferenceState.TheVariants.{Ampersand}
use Rattle.cds_markup.specs.declared.mode.ValueState.{ValueState}
use Rattle.cds_markup.specs.declared.values.ValuePiece.{ValuePiece}
use Rattle.cds_markup.specs.declared.values.ValuePiece.TheVariants.{Literal, Referred}
use Rattle.cds_markup.specs.Next.{Next, Stuck, On, Done, leads}
use Rattle.cds_markup.specs.References.{step_reference}

-- What a piece says. If it is right after a literal carriage return, a literal line feed says nothing.
abbrev pub says_behind : Bool → ValuePiece → List ℕ
says_behind behind (Literal c) = if c == 10 && behind then [] else if is_blank c then (32 ∷ []) else encode_utf8 c
says_behind behind (Referred c) = encode_utf8 c

abbrev pub quote_of : Bool → ℕ
quote_of double = if double then 34 else 39

abbrev pub value_state : Bool → List ℕ → Bool → Option ReferenceState → ValueState
value_state double text behind reference = record { double = double; text = text; behind_return = behind; reference = reference }

abbrev pub literal_step : Bool → List ℕ → Bool → ℕ → Next ValueState (List ℕ)
literal_step double text behind c =
    if c == quote_of double then Done text
    else if c == 38 then On (value_state double text behind (Some Ampersand))
    else if c == 60 then Stuck
    else On (value_state double (text ++ says_behind behind (Literal c)) (c == 13) None)

abbrev pub value_step : Bool → List ℕ → Bool → Option ReferenceState → ℕ → Next ValueState (List ℕ)
value_step double text behind None c = literal_step double text behind c
value_step double text behind (Some r) c =
    leads (step_reference r c) (λ s. value_state double text behind (Some s)) (λ code. On (value_state double (text ++ encode_utf8 code) false None))

abbrev pub step_value : ValueState → ℕ → Next ValueState (List ℕ)
step_value v c = value_step v.double v.text v.behind_return v.reference c

-- A literal carriage return.
abbrev pub is_return : ValuePiece → Bool
is_return (Literal c) = c == 13
is_return (Referred c) = false
