-- The message with which a datagram begins, and what its fields say.
use Rattle.std.specs.Prelude.{ℕ, if◌then◌else◌, List, [], ◌∷◌, Option, Some, None, option_and_then}
use Rattle.std.specs.Str.{is_utf8}
use Rattle.http_header.specs.HeaderMap.{Entries, get_all}
use Rattle.http_header.specs.FieldValue.{FieldValue}
use Rattle.cds_http.specs.declared.message.Side.{Side}
use Rattle.cds_http.specs.declared.message.Message.{Message}
use Rattle.cds_http.specs.Spelled.{IsMessage}

-- The datagram begins with this message of HTTP, or there is no such message. The end of the datagram is the end of the
-- connection. Bytes after the message are passed over, which is this project's profile.
abbrev pub IsMessageIn : Side → List ℕ → Option Message → Type 0
IsMessageIn side datagram (Some message) = (n : ℕ) × IsMessage side datagram message n
IsMessageIn side datagram None = (message : Message) (n : ℕ) → ¬ (IsMessage side datagram message n)

-- The value of a field that comes exactly once. The name of the field is in lower case.
abbrev pub only_value : List FieldValue → Option (List ℕ)
only_value [] = None
only_value (value ∷ []) = Some value.bytes
only_value (value ∷ second ∷ more) = None

abbrev pub only_field : List ℕ → Entries FieldValue → Option (List ℕ)
only_field name fields = only_value (get_all fields name)

-- The value of such a field as a text. Bytes that are not UTF-8 are no text, which is this project's profile.
abbrev pub text_in : List ℕ → Option (List ℕ)
text_in bytes = if is_utf8 bytes then Some bytes else None

abbrev pub only_text : List ℕ → Entries FieldValue → Option (List ℕ)
only_text name fields = option_and_then text_in (only_field name fields)
