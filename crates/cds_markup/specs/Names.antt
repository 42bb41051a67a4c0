-- Qualified names, character by character.
use Rattle.std.specs.Prelude.{◌==◌, ℕ, Bool, true, false, if◌then◌else◌, Option, Some, None, List, [], ◌∷◌, ◌++◌, encode_utf8}
use Rattle.cds_base.specs.Characters.{begins_name, is_in_name}
use Rattle.cds_markup.specs.declared.mode.NameState.{NameState}
use Rattle.cds_markup.specs.declared.tag.QName.{QName}
use Rattle.cds_markup.specs.Grammar.{qualified}

abbrev pub is_colon : ℕ → Bool
is_colon c = c == 58

abbrev pub name_state : List ℕ → Option (List ℕ) → NameState
name_state first second = record { first = first; second = second }

abbrev pub name_begun : ℕ → NameState
name_begun c = name_state (encode_utf8 c) None

-- A character that goes on with a name, or does not belong to it.
abbrev pub goes_with : List ℕ → Option (List ℕ) → ℕ → Option NameState
goes_with first None c =
    if is_in_name c then Some (name_state (first ++ encode_utf8 c) None)
    else if is_colon c then Some (name_state first (Some []))
    else None
goes_with first (Some []) c = if begins_name c then Some (name_state first (Some (encode_utf8 c))) else None
goes_with first (Some (b ∷ more)) c = if is_in_name c then Some (name_state first (Some (b ∷ (more ++ encode_utf8 c)))) else None

abbrev pub goes_on : NameState → ℕ → Option NameState
goes_on n c = goes_with n.first n.second c

-- A name may end unless it is right after a colon.
abbrev pub is_whole : Option (List ℕ) → Bool
is_whole (Some []) = false
is_whole second = true

abbrev pub name_of : NameState → QName
name_of n = qualified n.first n.second
