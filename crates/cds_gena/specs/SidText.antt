-- The name of a subscription in the text of its SID (UPnP Device Architecture 2.0 on the header field SID; RFC 9562 on
-- the text of a UUID).
use Rattle.std.specs.Prelude.{ℕ, List, ◌++◌, codes, nat_eq, drop, Option, None, option_map, if◌then◌else◌}
use Rattle.std.specs.List.{starts_with}
use Rattle.std.specs.Int.{w128, from_be_bytes, to_be_bytes}
use Rattle.uuid.specs.Text.{hyphenated_text, lower, parsed}

-- `uuid:` and the number in hyphenated form
abbrev pub sid_text : ℕ → List ℕ
sid_text name = codes "uuid:" ++ hyphenated_text lower (to_be_bytes w128 name)

-- the number after `uuid:` in any of the four forms of a UUID
abbrev pub sid_in : List ℕ → Option ℕ
sid_in text = if starts_with nat_eq text (codes "uuid:") then option_map (from_be_bytes w128) (parsed (drop 5 text)) else None
