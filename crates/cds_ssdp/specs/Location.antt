-- Where the description of a device is: an `http` address (UPnP Device Architecture 2.0 on LOCATION). The bound on its
-- length and the rule of visible ASCII are this project's profile.
use Rattle.std.specs.Prelude.{ℕ, Bool, ◌&&◌, nat_le, if◌then◌else◌, List, length, codes, bytes_eq, Option, Some, None, is_some, option_and_then}
use Rattle.std.specs.List.{list_all}
use Rattle.std.specs.Result.{result_ok}
use Rattle.url.specs.Parser.{parse_url}
use Rattle.url.specs.Parts.{Parts}

-- The URL, if its scheme is `http`.
abbrev pub where_http : Parts → Option Parts
where_http url = if bytes_eq url.scheme (codes "http") then Some url else None

-- The `http` URL that a text is, if it is one.
abbrev pub http_url : List ℕ → Option Parts
http_url text = option_and_then where_http (result_ok (parse_url None text))

-- A visible byte of ASCII.
abbrev pub is_printed : ℕ → Bool
is_printed b = nat_le 33 b && nat_le b 126

-- A text that may be the location of a device: an `http` address of at most 4,096 visible bytes of ASCII.
abbrev pub is_location : List ℕ → Bool
is_location text = nat_le (length text) 4096 && list_all is_printed text && is_some (http_url text)
