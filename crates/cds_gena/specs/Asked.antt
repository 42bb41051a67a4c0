-- What a request about a subscription asks for. Its method and the first value of each of four fields say it (UPnP
-- Device Architecture 2.0 on SUBSCRIBE and UNSUBSCRIBE; the bounds of TIMEOUT are this project's profile).
use Rattle.std.specs.Prelude.{◌≡◌, ◌⊎◌, ◌==◌, ℕ, Bool, false, ◌&&◌, ◌||◌, min, max, List, [], ◌∷◌, codes, bytes_eq, map, take, drop, position, Option, Some, None, is_some, option_map, option_and_then, Result, Ok, Err, MatchResult, IsTrue, ⊤, if◌then◌else◌}
use Rattle.std.specs.Result.{result_ok}
use Rattle.std.specs.Str.{is_utf8}
use Rattle.std.specs.Char.{to_ascii_lowercase}
use Rattle.http_header.specs.HeaderMap.{Entries, get}
use Rattle.http_header.specs.FieldValue.{FieldValue}
use Rattle.url.specs.Parser.{parse_url}
use Rattle.url.specs.Parts.{Parts, has_host}
use Rattle.cds_base.specs.Number.{is_number_in, value_in}
use Rattle.cds_http.specs.declared.message.Start.{Start}
use Rattle.cds_http.specs.declared.message.Start.TheVariants.{Request, Reply}
use Rattle.cds_http.specs.declared.message.Message.{Message}
use Rattle.cds_gena.specs.SidText.{sid_in}
use Rattle.cds_gena.specs.declared.error.GenaError.{GenaError}
use Rattle.cds_gena.specs.declared.error.GenaError.TheVariants.{Mem, Incompatible, Precondition}
use Rattle.cds_gena.specs.declared.gena.Gena.{Gena}
use Rattle.cds_gena.specs.declared.gena.Gena.TheVariants.{Subscribe, Renew, Unsubscribe}

-- ---- what a message has

-- whether it is a request with this method
abbrev pub has_method : List ℕ → Start → Bool
has_method name (Request method target) = bytes_eq method name
has_method name (Reply status) = false

abbrev pub asks_of_subscription : Start → Bool
asks_of_subscription start = has_method (codes "SUBSCRIBE") start || has_method (codes "UNSUBSCRIBE") start

-- the first value of a field, by its name in lower case
abbrev pub field_of : List ℕ → Entries FieldValue → Option (List ℕ)
field_of name fields = option_map (λ value. value.bytes) (get fields name)

-- ---- CALLBACK

-- without the spaces at the start
abbrev pub behind_spaces : List ℕ → List ℕ
behind_spaces [] = []
behind_spaces (b ∷ rest) = if b == 32 then behind_spaces rest else (b ∷ rest)

-- what stands between `<` at the start and the first `>`
abbrev pub enclosed : List ℕ → Option (List ℕ)
enclosed [] = None
enclosed (b ∷ rest) = if b == 60 then option_map (λ at. take at rest) (position (λ c. c == 62) rest) else None

-- a URL at which notes can be delivered: its scheme is `http`, and it has a host
abbrev pub is_deliverable : Parts → Bool
is_deliverable url = bytes_eq url.scheme (codes "http") && has_host url

abbrev pub deliverable : Parts → Option Parts
deliverable url = if is_deliverable url then Some url else None

abbrev pub url_in : List ℕ → Option Parts
url_in text = if is_utf8 text then option_and_then deliverable (result_ok (parse_url None text)) else None

-- the first address of a CALLBACK; what follows it does not count
abbrev pub callback_in : List ℕ → Option Parts
callback_in text = option_and_then url_in (enclosed (behind_spaces text))

-- ---- TIMEOUT

abbrev pub least_seconds : ℕ
least_seconds = 1800

abbrev pub most_seconds : ℕ
most_seconds = 86400

-- any number of digits, within the bounds
abbrev pub seconds_by : List ℕ → ℕ
seconds_by digits = if is_number_in 10 digits then max least_seconds (min (value_in 10 digits) most_seconds) else least_seconds

-- after `Second-`, in letters of either case; any other text says nothing
abbrev pub seconds_in : List ℕ → ℕ
seconds_in text = if bytes_eq (map to_ascii_lowercase (take 7 text)) (codes "second-") then seconds_by (drop 7 text) else least_seconds

abbrev pub seconds_of : Option (List ℕ) → ℕ
seconds_of None = least_seconds
seconds_of (Some text) = seconds_in text

-- ---- the request

-- NT names events
abbrev pub is_event : Option (List ℕ) → Bool
is_event None = false
is_event (Some text) = bytes_eq text (codes "upnp:event")

-- a new subscription, if there is a callback
abbrev pub subscribing : Option Parts → ℕ → Result Gena GenaError
subscribing None seconds = Err Precondition
subscribing (Some url) seconds = Ok (Subscribe url seconds)

-- a renewal, if there is a name
abbrev pub renewing : Option ℕ → ℕ → Result Gena GenaError
renewing None seconds = Err Precondition
renewing (Some name) seconds = Ok (Renew record { 0 = name } seconds)

-- an end, if there is a name
abbrev pub ending : Option ℕ → Result Gena GenaError
ending None = Err Precondition
ending (Some name) = Ok (Unsubscribe record { 0 = name })

-- SUBSCRIBE by its SID, CALLBACK, NT and TIMEOUT
abbrev pub subscribe_of : Option (List ℕ) → Option (List ℕ) → Option (List ℕ) → Option (List ℕ) → Result Gena GenaError
subscribe_of None callback nt timeout =
    if is_event nt then subscribing (option_and_then callback_in callback) (seconds_of timeout) else Err Precondition
subscribe_of (Some sid) callback nt timeout = renewing (sid_in sid) (seconds_of timeout)

-- SID beside CALLBACK or NT is refused before all else
abbrev pub gena_by : Bool → Option (List ℕ) → Option (List ℕ) → Option (List ℕ) → Option (List ℕ) → Result Gena GenaError
gena_by subscribes sid callback nt timeout =
    if is_some sid && (is_some callback || is_some nt) then Err Incompatible
    else if subscribes then subscribe_of sid callback nt timeout
    else ending (option_and_then sid_in sid)

abbrev pub gena_of : Message → Result Gena GenaError
gena_of message =
    gena_by (has_method (codes "SUBSCRIBE") message.start) (field_of (codes "sid") message.fields) (field_of (codes "callback") message.fields)
    (field_of (codes "nt") message.fields) (field_of (codes "timeout") message.fields)

-- a new subscription has a URL at which notes can be delivered
abbrev pub IsDeliverable : Gena → Type 0
IsDeliverable (Subscribe url seconds) = IsTrue (is_deliverable url)
IsDeliverable (Renew sid seconds) = ⊤
IsDeliverable (Unsubscribe sid) = ⊤

-- the answer is this, unless memory ran out
abbrev pub Answers : Result Gena GenaError → Result Gena GenaError → Type 0
Answers result expected = MatchResult result (λ gena. expected ≡ Ok gena) (λ e. (e ≡ Mem) ⊎ (expected ≡ Err e))
