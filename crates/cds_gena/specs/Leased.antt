-- What a reply to SUBSCRIBE grants (UPnP Device Architecture 2.0 on SUBSCRIBE). This project's profile: SID comes there
-- once, and the bounds of TIMEOUT.
use Rattle.std.specs.Prelude.{◌==◌, ℕ, Bool, false, List, [], ◌∷◌, codes, Option, Some, None, option_map, option_and_then, if◌then◌else◌}
use Rattle.http_header.specs.HeaderMap.{Entries, get_all}
use Rattle.http_header.specs.FieldValue.{FieldValue}
use Rattle.cds_http.specs.declared.message.Start.{Start}
use Rattle.cds_http.specs.declared.message.Start.TheVariants.{Request, Reply}
use Rattle.cds_http.specs.declared.message.Message.{Message}
use Rattle.cds_gena.specs.SidText.{sid_in}
use Rattle.cds_gena.specs.Asked.{field_of, seconds_of}
use Rattle.cds_gena.specs.declared.lease.Lease.{Lease}

-- whether it is a reply with this status
abbrev pub has_status : ℕ → Start → Bool
has_status code (Request method target) = false
has_status code (Reply status) = status == code

-- the value of a field that comes exactly once, by its name in lower case
abbrev pub only_value : List FieldValue → Option (List ℕ)
only_value [] = None
only_value (value ∷ []) = Some value.bytes
only_value (value ∷ second ∷ more) = None

abbrev pub only_field : List ℕ → Entries FieldValue → Option (List ℕ)
only_field name fields = only_value (get_all fields name)

-- the name of a subscription, for this many seconds
abbrev pub leased : ℕ → ℕ → Lease
leased seconds name = record { sid = record { 0 = name }; seconds = seconds }

-- a reply 200 with one SID grants the name in it, for the seconds of its TIMEOUT; no other message grants anything
abbrev pub lease_in : Message → Option Lease
lease_in message =
    if has_status 200 message.start
    then option_map (leased (seconds_of (field_of (codes "timeout") message.fields))) (option_and_then sid_in (only_field (codes "sid") message.fields))
    else None
