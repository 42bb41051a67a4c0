-- Requests about a script's subscriptions and their replies, and the requests that carry notes, as bytes (UPnP Device
-- Architecture 2.0 on eventing).
use Rattle.std.specs.Prelude.{◌≡◌, ℕ, false, List, [], ◌∷◌, codes, Option, Some, None}
use Rattle.url.specs.Parts.{Parts}
use Rattle.url.specs.declared.host.Host.TheVariants.{Ipv4}
use Rattle.cds_commands.specs.Commands.{Command, Start}
use Rattle.cds_commands.specs.Wire.{WireNote}
use Rattle.cds_http.specs.declared.message.Message.{Message}
use Rattle.cds_http.specs.declared.message.Side.{Side}
use Rattle.cds_http.specs.declared.message.Side.TheVariants.{Request, Reply}
use Rattle.cds_http.specs.declared.message.Start.TheVariants.{Reply as of_reply}
use Rattle.cds_http.specs.Decided.{Decides}
use Rattle.cds_http.specs.Known.{Whole}
use Rattle.cds_gena.specs.declared.lease.Lease.{Lease}
use Rattle.cds_gena.specs.Leased.{lease_in}
use Rattle.cds_notify.specs.Said.{IsNote}
use Rattle.cds_server.specs.Serving.{Serving, StandsFor}
use Rattle.cds_server.specs.Outcome.{GoesOut, and_command}
use Rattle.cds_server.specs.Replies.{Replied, command_at, note_at}
use Rattle.cds_server.specs.declared.notes.FirstNote.{FirstNote}

-- `http`, the host 127.0.0.1, a port, and a path
abbrev pub local_url : ℕ → List ℕ → Parts
local_url port path = record {
  scheme = codes "http";
  username = [];
  password = [];
  host = Some (Ipv4 (record { octets = 127 ∷ 0 ∷ 0 ∷ 1 ∷ [] }));
  port = Some port;
  path = path;
  query = None;
  fragment = None;
}

-- the URL at which a script's server takes control requests
abbrev pub control_url : Parts
control_url = local_url 49152 (codes "/control")

-- the URL at which it takes requests about subscriptions, and the URL to which the notes to its replica go
abbrev pub event_url : Parts
event_url = local_url 49152 (codes "/event")

abbrev pub callback_url : Parts
callback_url = local_url 49153 (codes "/notify")

-- bytes are one message of a side, whole and with nothing after it
abbrev pub IsMessage : Side → List ℕ → Type 0
IsMessage side bytes = (m : Message) × Decides false side bytes (Whole m [])

-- a server that stood for commands answered the bytes of a request at a moment. The bytes are one message; the reply, the command
-- and the first note are those of the message
pub record IsAnswered (start : Start) (commands : List Command) (now : ℕ) (request old new : List ℕ) (note : Option FirstNote) (after : Serving) : Type 0 where
  pub message : Message
  pub whole : Decides false Request request (Whole message [])
  pub replied : Replied start commands now message old new
  pub stands : StandsFor after start (and_command (command_at start commands now message) commands)
  pub noted : note ≡ note_at start commands now message
  pub goes : GoesOut note

-- bytes are a reply with this status; or with some status
abbrev pub HasStatus : List ℕ → ℕ → Type 0
HasStatus reply status = (m : Message) × Decides false Reply reply (Whole m []) × (m.start ≡ of_reply status)

abbrev pub HasSomeStatus : List ℕ → Type 0
HasSomeStatus reply = (status : ℕ) × HasStatus reply status

-- bytes are a reply that grants this lease, or none
abbrev pub HasLease : List ℕ → Option Lease → Type 0
HasLease reply lease = (m : Message) × Decides false Reply reply (Whole m []) × (lease ≡ lease_in m)

-- a server that stands for some commands replies to the bytes of a request at a moment, with a status
pub record RepliesTo (server : Serving) (now : ℕ) (request : List ℕ) : Type 0 where
  pub start : Start
  pub commands : List Command
  pub stands : StandsFor server start commands
  pub replies : (reply : List ℕ) (note : Option FirstNote) (after : Serving) → IsAnswered start commands now request [] reply note after → HasSomeStatus reply

-- a server that stood for commands was asked by the bytes of a request at a moment, and replied with a status
pub record IsAsked (start : Start) (commands : List Command) (now : ℕ) (request : List ℕ) (status : ℕ) (after : Serving) : Type 0 where
  pub reply : List ℕ
  pub note : Option FirstNote
  pub answered : IsAnswered start commands now request [] reply note after
  pub has : HasStatus reply status

-- bytes are the request that carries this note, under the name that it has there; or some note
pub record IsNoteRequest (request : List ℕ) (note : WireNote) : Type 0 where
  pub message : Message
  pub whole : Decides false Request request (Whole message [])
  pub is : IsNote message note

abbrev pub CarriesNote : List ℕ → Type 0
CarriesNote request = (note : WireNote) × IsNoteRequest request note
