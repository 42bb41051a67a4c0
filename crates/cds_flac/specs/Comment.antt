-- The form of one comment of a VORBIS_COMMENT block (RFC 9639).
use Rattle.std.specs.Prelude.{◌==◌, ℕ, ◌+◌, nat_le, Bool, not, ◌&&◌, if◌then◌else◌, Option, Some, None, List, length, take, drop, position}
use Rattle.std.specs.List.{list_all}
use Rattle.std.specs.Str.{is_utf8}
use Rattle.cds_object.specs.declared.info.Comment.{Comment}

-- A byte that a name may have: printable ASCII. The equals sign ends the name.
abbrev pub is_name_byte : ℕ → Bool
is_name_byte b = nat_le 0x20 b && nat_le b 0x7E

-- At least one such byte, and no other.
abbrev pub is_name : List ℕ → Bool
is_name name = not (length name == 0) && list_all is_name_byte name

-- A name, and a value in UTF-8.
abbrev pub named : List ℕ → List ℕ → Option Comment
named name value = if is_name name && is_utf8 value then Some record { name = name; value = value } else None

-- The text cut at its equals sign.
abbrev pub cut_at : Option ℕ → List ℕ → Option Comment
cut_at None text = None
cut_at (Some equals) text = named (take equals text) (drop (equals + 1) text)

-- The comment that a text is: `NAME=value`, cut at the first equals sign.
unfoldable pub comment_of : List ℕ → Option Comment
comment_of text = cut_at (position (λ b. b == 61) text) text
