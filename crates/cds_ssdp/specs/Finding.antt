-- What the answer to a search tells of (UPnP Device Architecture 2.0 on the response to M-SEARCH). Bytes after the reply are
-- passed over, and texts are in UTF-8. Both rules are this project's profile.
use Rattle.std.specs.Prelude.{◌≡◌, ◌==◌, ℕ, Bool, false, if◌then◌else◌, List, codes, Option, Some, None, option_and_then, Result, Ok, Err, ⊤}
use Rattle.http_header.specs.HeaderMap.{Entries}
use Rattle.http_header.specs.FieldValue.{FieldValue}
use Rattle.url.specs.Parts.{Parts}
use Rattle.cds_http.specs.declared.message.Side.TheVariants.{Reply as reply_side}
use Rattle.cds_http.specs.declared.message.Start.{Start}
use Rattle.cds_http.specs.declared.message.Start.TheVariants.{Request, Reply}
use Rattle.cds_http.specs.declared.message.Message.{Message}
use Rattle.cds_http.specs.Spelled.{IsMessage}
use Rattle.cds_ssdp.specs.declared.finding.Found.{Found}
use Rattle.cds_ssdp.specs.declared.error.SsdpError.{SsdpError}
use Rattle.cds_ssdp.specs.declared.error.SsdpError.TheVariants.{NotFound, Mem}
use Rattle.cds_ssdp.specs.Location.{http_url}
use Rattle.cds_ssdp.specs.Messages.{only_text}

-- What is made of a value, if there is one.
infixl 10 ◌>>=◌
abbrev pub ◌>>=◌ : {A B : Type 0} → Option A → (A → Option B) → Option B
o >>= f = option_and_then f o

-- A reply with this status.
abbrev pub has_status : ℕ → Start → Bool
has_status code (Request method target) = false
has_status code (Reply status) = status == code

abbrev pub found_as : List ℕ → List ℕ → Parts → Found
found_as asked name url = record { target = asked; usn = name; location = url }

-- One ST and one USN, both in UTF-8, and one LOCATION, which is an `http` URL.
unfoldable pub found_by : Entries FieldValue → Option Found
found_by fields = do
  asked ← only_text (codes "st") fields
  name ← only_text (codes "usn") fields
  url ← option_and_then http_url (only_text (codes "location") fields)
  Some (found_as asked name url)

abbrev pub found_in : Message → Option Found
found_in message = if has_status 200 message.start then found_by message.fields else None

-- The datagram begins with a reply that tells of this.
abbrev pub Tells : List ℕ → Found → Type 0
Tells datagram found = (message : Message) × (n : ℕ) × IsMessage reply_side datagram message n × (found_in message ≡ Some found)

-- The datagram tells of this, or of nothing.
abbrev pub IsFoundIn : List ℕ → Option Found → Type 0
IsFoundIn datagram (Some found) = Tells datagram found
IsFoundIn datagram None = (found : Found) → ¬ (Tells datagram found)

-- The answer to a datagram. If memory ran out, it says nothing of the datagram.
abbrev pub Finds : List ℕ → Result Found SsdpError → Type 0
Finds datagram (Ok found) = IsFoundIn datagram (Some found)
Finds datagram (Err NotFound) = IsFoundIn datagram None
Finds datagram (Err Mem) = ⊤
