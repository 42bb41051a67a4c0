-- What holds of notes as they are written and read.
use Rattle.std.specs.Prelude.{◌≡◌, ◌≢◌, ◌-◌, ◌*◌, ◌≤◌, ◌<◌, ◌^◌, ℕ, Bool, IsTrue, List, ◌++◌, length, map, codes, Result, Err}
use Rattle.std.specs.List.{AllByRecursion}
use Rattle.url.specs.Parts.{Parts, IsValid}
use Rattle.cds_base.specs.declared.limits.TheConstants.{INPUT_LIMIT}
use Rattle.cds_catalog.specs.History.{History}
use Rattle.cds_commands.specs.Wire.{WireNote}
use Rattle.cds_commands.specs.Releases.{Release, release_size, released_containers}
use Rattle.cds_object.specs.declared.event.Event.{Event}
use Rattle.cds_http.specs.declared.message.Message.{Message}
use Rattle.cds_http.specs.declared.message.Side.TheVariants.{Request}
use Rattle.cds_http.specs.declared.message.Start.TheVariants.{Request as request_start}
use Rattle.cds_http.specs.Known.{Whole}
use Rattle.cds_http.specs.Head.{head_limit, kept_fields}
use Rattle.cds_http.specs.Framing.{body_limit}
use Rattle.cds_http.specs.Decided.{Decides}
use Rattle.cds_http.specs.Written.{request_text}
use Rattle.cds_http.specs.Returned.{given_pair, last_pairs}
use Rattle.cds_lastchange.specs.Spelled.{IsNumbered}
use Rattle.cds_gena.specs.declared.address.Address.{Address}
use Rattle.cds_gena.specs.Asked.{is_deliverable}
use Rattle.cds_notify.specs.declared.note.NoteError.{NoteError}
use Rattle.cds_notify.specs.declared.note.NoteError.TheVariants.{Mem}
use Rattle.cds_notify.specs.Propertyset.{propertyset_text}
use Rattle.cds_notify.specs.Notify.{host_of, target_of, note_fields, notify_text}
use Rattle.cds_notify.specs.Said.{Says, IsNote, Answers}

-- the numbers of a pair have 32 bits
abbrev pub IsPair : (ℕ × ℕ) → Type 0
IsPair p = (p.0 < 2 ^ 32) × (p.1 < 2 ^ 32)

-- all numbers of a body have 32 bits
pub record AreNumbers (number : ℕ) (containers : List (ℕ × ℕ)) (events : List Event) : Type 0 where
  pub update : number < 2 ^ 32
  pub pairs : AllByRecursion IsPair containers
  pub changes : AllByRecursion IsNumbered events

-- a written body says the number and the events that were written, if it is no longer than a document may be
abbrev pub BodiesAreReadBack : Type 0
BodiesAreReadBack =
    (number : ℕ) (containers : List (ℕ × ℕ)) (events : List Event) → AreNumbers number containers events
    → length (propertyset_text number containers events) ≤ INPUT_LIMIT → Says (propertyset_text number containers events) number events

-- the message that is written
abbrev pub note_message : Parts → Address → List ℕ → Message
note_message url to body = record {
  start = request_start (codes "NOTIFY") (target_of url);
  fields = kept_fields (map given_pair (note_fields (host_of url) to.sid.0 to.seq) ++ last_pairs (length body));
  body = body;
}

-- a written note is read, whatever comes after it, as a message that is the note that was written: with its name, its
-- SEQ, its number and its events; its head and its body must be within the limits
abbrev pub NotesAreReadBack : Type 0
NotesAreReadBack =
    (url : Parts) (to : Address) (number : ℕ) (containers : List (ℕ × ℕ)) (events : List Event) (more : List ℕ) (ended : Bool)
    → IsValid url → IsTrue (is_deliverable url) → to.sid.0 < 2 ^ 128 → to.seq < 2 ^ 32 → AreNumbers number containers events
    → length (request_text (codes "NOTIFY") (target_of url) (note_fields (host_of url) to.sid.0 to.seq) (length (propertyset_text number containers events))) ≤ head_limit
    → length (propertyset_text number containers events) ≤ body_limit
    → Decides ended Request (notify_text url to (propertyset_text number containers events) ++ more)
    (Whole (note_message url to (propertyset_text number containers events)) more)
    × IsNote (note_message url to (propertyset_text number containers events)) (record { name = to.sid.0; seq = to.seq; number = number; events = events })

-- with at most this many events, and at most twice as many containers, a body is far below the limit of bytes
abbrev pub most_events : ℕ
most_events = 262144

abbrev pub BodiesAreShort : Type 0
BodiesAreShort =
    (number : ℕ) (containers : List (ℕ × ℕ)) (events : List Event) → AreNumbers number containers events
    → length events ≤ most_events → length containers ≤ 2 * most_events → length (propertyset_text number containers events) < 66000000

-- a release has at most two containers for each of its changes: the one that it adds, and the one that it names as
-- parent
abbrev pub ContainersAreFew : Type 0
ContainersAreFew =
    (history : History) (release : Release) → length (released_containers history release) ≤ 2 * (release.to - release.from)

-- so the body of a release with at most this many events is below that limit
abbrev pub ReleasedBodiesAreShort : Type 0
ReleasedBodiesAreShort =
    (history : History) (release : Release) (events : List Event) → AreNumbers release.to (released_containers history release) events
    → length events ≤ most_events → release.to - release.from ≤ release_size
    → length (propertyset_text release.to (released_containers history release) events) < 66000000

-- a message has one answer, unless memory ran out
abbrev pub OneAnswer : Type 0
OneAnswer =
    (message : Message) (one other : Result WireNote NoteError) → Answers message one → Answers message other
    → one ≢ Err Mem → other ≢ Err Mem → one ≡ other
