-- Searches, and the replies to them (UPnP Device Architecture 2.0 on M-SEARCH). Bytes after a search are passed over, and MX
-- and HOST do not count. Both rules are this project's profile.
use Rattle.std.specs.Prelude.{◌≡◌, ℕ, Bool, false, ◌&&◌, if◌then◌else◌, List, [], ◌++◌, codes, bytes_eq, map, Option, Some, None}
use Rattle.cds_http.specs.declared.message.Side.TheVariants.{Request as request_side}
use Rattle.cds_http.specs.declared.message.Start.{Start}
use Rattle.cds_http.specs.declared.message.Start.TheVariants.{Request, Reply}
use Rattle.cds_http.specs.declared.message.Message.{Message}
use Rattle.cds_http.specs.Spelled.{IsMessage}
use Rattle.cds_ssdp.specs.declared.device.Device.{Device}
use Rattle.cds_ssdp.specs.Messages.{only_field}
use Rattle.cds_ssdp.specs.Targets.{targets_of}
use Rattle.cds_ssdp.specs.Replies.{reply_text}

-- The request `M-SEARCH *`.
abbrev pub is_search : Start → Bool
is_search (Request method target) = bytes_eq method (codes "M-SEARCH") && bytes_eq target (codes "*")
is_search (Reply status) = false

-- MAN comes once, and says `"ssdp:discover"` with its quotes.
abbrev pub is_discover : Option (List ℕ) → Bool
is_discover None = false
is_discover (Some text) = bytes_eq text (codes "\"ssdp:discover\"")

-- What a message searches for: the one ST of such a request with such a MAN. Other messages search for nothing.
abbrev pub asked_by : Message → Option (List ℕ)
asked_by message =
    if is_search message.start && is_discover (only_field (codes "man") message.fields) then only_field (codes "st") message.fields else None

-- The datagram begins with a search for this text.
abbrev pub Searches : List ℕ → List ℕ → Type 0
Searches datagram asked = (message : Message) × (n : ℕ) × IsMessage request_side datagram message n × (asked_by message ≡ Some asked)

-- The datagram begins with a search for this text, or with no search.
abbrev pub AsksFor : List ℕ → Option (List ℕ) → Type 0
AsksFor datagram (Some asked) = Searches datagram asked
AsksFor datagram None = (asked : List ℕ) → ¬ (Searches datagram asked)

-- One reply for each target that was found, in order. Without a search there is no reply.
abbrev pub replies_to : Device → Option (List ℕ) → List (List ℕ)
replies_to device None = []
replies_to device (Some asked) = map (reply_text device) (targets_of device.uuid asked)

-- The replies of a device to a datagram come after the replies that were there before.
abbrev pub AnswersSearch : Device → List ℕ → List (List ℕ) → List (List ℕ) → Type 0
AnswersSearch device datagram before after =
    (asked : Option (List ℕ)) × AsksFor datagram asked × (after ≡ before ++ replies_to device asked)
