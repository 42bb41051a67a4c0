-- The requests that carry notes over a link (UPnP Device Architecture 2.0 on event messages).
use Rattle.std.specs.Prelude.{◌≡◌, ◌<◌, ℕ, List, [], ◌∷◌, ◌++◌, length, map, take, Option, Some, None, Result, Ok, Err, option_map, unwrap_or}
use Rattle.cds_base.specs.declared.mem.Mem.{Mem as Memory}
use Rattle.cds_outside.specs.declared.link.LinkFault.{LinkFault}
use Rattle.cds_outside.specs.declared.link.LinkFault.TheVariants.{Failed, Mem, Over}
use Rattle.cds_outside.specs.declared.link.LinkRequest.{LinkRequest}
use Rattle.cds_outside.specs.Outside.{Told}
use Rattle.cds_gena.specs.Asked.{url_in}
use Rattle.cds_gena.specs.declared.address.Address.{Address}
use Rattle.cds_notify.specs.Notify.{notify_text}
use Rattle.cds_server.specs.declared.notes.FirstNote.{FirstNote}
use Rattle.cds_server.specs.declared.notes.Notes.{Notes}

-- the limit, in bytes, of what is taken of a subscriber's reply to a note
abbrev pub note_limit : ℕ
note_limit = 16384

-- The text of a note with this body to an address. A note can be delivered to every address of a server.
abbrev pub note_text : Address → List ℕ → List ℕ
note_text to body = unwrap_or (option_map (λ url. notify_text url to body) (url_in to.callback)) []

-- A note goes to the callback of its subscription.
abbrev pub note_request : List ℕ → Address → LinkRequest
note_request body to = record { url = to.callback; bytes = note_text to body; limit = note_limit }

-- the request of a first note, if there is one
abbrev pub first_requests : Option FirstNote → List LinkRequest
first_requests None = []
first_requests (Some note) = note_request note.body note.to ∷ []

-- the requests of the notes of a release, if there is one: one to each address, in order
abbrev pub release_requests : Option Notes → List LinkRequest
release_requests None = []
release_requests (Some notes) = map (note_request notes.body) notes.to

-- what counts as sent of a request if the link failed: nothing if memory ran out, the request otherwise
abbrev pub sent_despite : LinkFault → LinkRequest → List LinkRequest
sent_despite Failed request = request ∷ []
sent_despite Mem request = []
sent_despite Over request = request ∷ []

-- A link that tells its requests was given these and nothing else, each once and in order.
abbrev pub GivesEach : List LinkRequest → Option (List LinkRequest) → Option (List LinkRequest) → Type 0
GivesEach requests before after = Told before (λ sent. after ≡ Some (sent ++ requests))

-- The link was given the first n of these, not all of them, and nothing else.
abbrev pub GivesFront : List LinkRequest → Option (List LinkRequest) → Option (List LinkRequest) → Type 0
GivesFront requests before after = Told before (λ sent. (n : ℕ) × (n < length requests) × (after ≡ Some (sent ++ take n requests)))

-- The link was given these, or none if memory ran out.
abbrev pub GivesAll : {A : Type 0} → Result A Memory → List LinkRequest → Option (List LinkRequest) → Option (List LinkRequest) → Type 0
GivesAll (Ok value) requests before after = GivesEach requests before after
GivesAll (Err memory) requests before after = GivesEach [] before after
