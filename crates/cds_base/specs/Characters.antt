-- The characters of documents, as code points (XML 1.0 on characters, white space and names).
use Rattle.std.specs.Prelude.{◌≡◌, ◌==◌, ℕ, nat_le, nat_lt, Bool, true, ◌&&◌, ◌||◌, not, List}
use Rattle.std.specs.Int.{is_in_range}
use Rattle.std.specs.Char.{is_ascii_alphabetic, is_ascii_digit}
use Rattle.std.specs.List.{list_all}
use Rattle.std.specs.Str.{encode_utf8_all}

-- A character that may stand in a document: tab, line feed, carriage return, and all from the space on except surrogates, U+FFFE
-- and U+FFFF.
abbrev pub is_allowed : ℕ → Bool
is_allowed c = ((c == 9 || c == 10) || c == 13) || ((is_in_range 0x20 0xD7FF c || is_in_range 0xE000 0xFFFD c) || is_in_range 0x1_0000 0x10_FFFF c)

-- White space: space, tab, line feed and carriage return.
abbrev pub is_blank : ℕ → Bool
is_blank c = ((c == 32 || c == 9) || c == 10) || c == 13

-- A character that may begin a name. All allowed ones outside ASCII may: this is wider than XML 1.0.
abbrev pub begins_name : ℕ → Bool
begins_name c = (is_ascii_alphabetic c || c == 95) || (nat_le 128 c && is_allowed c)

-- A character that may stand inside a name: one that may begin it, a digit, `-` or `.`.
abbrev pub is_in_name : ℕ → Bool
is_in_name c = begins_name c || ((is_ascii_digit c || c == 45) || c == 46)

-- A byte that is no allowed character by itself: a control byte other than tab, line feed and carriage return.
abbrev pub is_forbidden : ℕ → Bool
is_forbidden byte = nat_lt byte 32 && not ((byte == 9 || byte == 10) || byte == 13)

-- The bytes are allowed characters.
abbrev pub AreAllowed : List ℕ → Type 0
AreAllowed text = (cs : List ℕ) × (list_all is_allowed cs ≡ true) × (encode_utf8_all cs ≡ text)
