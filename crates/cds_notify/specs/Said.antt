-- What a NOTIFY request says. Its fields say the subscription and the SEQ, its body the number and the events (UPnP
-- Device Architecture 2.0 on event messages). What is needed, and the order of the refusals, are this project's
-- profile.
use Rattle.std.specs.Prelude.{◌≡◌, ◌^◌, ℕ, Bool, false, ◌&&◌, List, codes, bytes_eq, Option, Some, None, is_some, option_map, option_and_then, Result, Ok, Err, ⊤, if◌then◌else◌}
use Rattle.std.specs.List.{flat_map}
use Rattle.cds_base.specs.Number.{number_below}
use Rattle.cds_commands.specs.Wire.{WireNote}
use Rattle.cds_object.specs.declared.event.Event.{Event}
use Rattle.cds_http.specs.declared.message.Message.{Message}
use Rattle.cds_markup.specs.declared.element.Node.{Node}
use Rattle.cds_markup.specs.Document.{Meaning, Doc}
use Rattle.cds_markup.specs.Children.{nodes_in, texts_in, is_named, named, called, only_of}
use Rattle.cds_lastchange.specs.StateEvent.{IsStateEvent}
use Rattle.cds_gena.specs.Asked.{has_method, field_of}
use Rattle.cds_gena.specs.SidText.{sid_in}
use Rattle.cds_notify.specs.declared.note.NoteError.{NoteError}
use Rattle.cds_notify.specs.declared.note.NoteError.TheVariants.{Mem, Head, Precondition, Body}
use Rattle.cds_notify.specs.declared.heading.Heading.{Heading}
use Rattle.cds_notify.specs.declared.body.Said.{Said}

infixl 10 ◌>>=◌
abbrev pub ◌>>=◌ : {A B : Type 0} → Option A → (A → Option B) → Option B
o >>= f = option_and_then f o

-- ---- the head

-- a field is there and has this text
abbrev pub is_word : List ℕ → Option (List ℕ) → Bool
is_word word None = false
is_word word (Some text) = bytes_eq text word

-- a SEQ is a number of 32 bits
abbrev pub seq_in : Option (List ℕ) → Option ℕ
seq_in text = option_and_then (number_below (2 ^ 32)) text

-- a note to a subscription, if SID has its name
abbrev pub named_note : ℕ → Option ℕ → Result Heading NoteError
named_note seq None = Err Precondition
named_note seq (Some name) = Ok record { sid = record { 0 = name }; seq = seq }

-- by NT, NTS and SID, after a SEQ
abbrev pub of_events : Option (List ℕ) → Option (List ℕ) → Option (List ℕ) → ℕ → Result Heading NoteError
of_events nt nts sid seq =
    if is_word (codes "upnp:event") nt && is_word (codes "upnp:propchange") nts then named_note seq (option_and_then sid_in sid) else Err Precondition

abbrev pub with_seq : Option (List ℕ) → Option (List ℕ) → Option (List ℕ) → Option ℕ → Result Heading NoteError
with_seq nt nts sid None = Err Head
with_seq nt nts sid (Some seq) = of_events nt nts sid seq

-- the method is NOTIFY; NT and NTS are there, and SEQ is a number, before their texts are looked at
abbrev pub heading_by : Bool → Option (List ℕ) → Option (List ℕ) → Option (List ℕ) → Option (List ℕ) → Result Heading NoteError
heading_by notifies nt nts sid seq = if notifies && (is_some nt && is_some nts) then with_seq nt nts sid (seq_in seq) else Err Head

abbrev pub heading_of : Message → Result Heading NoteError
heading_of message =
    heading_by (has_method (codes "NOTIFY") message.start) (field_of (codes "nt") message.fields) (field_of (codes "nts") message.fields)
    (field_of (codes "sid") message.fields) (field_of (codes "seq") message.fields)

-- ---- the body

unfoldable pub event_space : List ℕ
event_space = codes "urn:schemas-upnp-org:event-1-0"

-- what stands in the properties of a set
abbrev pub variables_in : Meaning → List Node
variables_in root = flat_map nodes_in (named event_space (codes "property") (nodes_in root))

-- the variable of a name, in any namespace, that must come once in all of them, and its text
abbrev pub variable : List ℕ → Meaning → Option Meaning
variable local root = only_of (called local (variables_in root))

abbrev pub variable_text : List ℕ → Meaning → Option (List ℕ)
variable_text local root = option_map (λ element. texts_in (nodes_in element)) (variable local root)

-- the number of the last change
abbrev pub number_said : Meaning → Option ℕ
number_said root = option_and_then (number_below (2 ^ 32)) (variable_text (codes "SystemUpdateID") root)

-- it is a set of properties
abbrev pub where_set : Meaning → Option (Unit {0})
where_set root = if is_named event_space (codes "propertyset") root then Some tt else None

-- the number, and the text of the changes. Other variables are passed over
unfoldable pub said_of : Meaning → Option Said
said_of root = do
  set ← where_set root
  number ← number_said root
  changes ← variable_text (codes "LastChange") root
  Some (record { number = number; changes = changes })

-- a body is a document of a set whose LastChange is a StateEvent of these events
pub record Says (body : List ℕ) (number : ℕ) (events : List Event) : Type 0 where
  pub root : Meaning
  pub document : Doc body root
  pub changes : List ℕ
  pub said : said_of root ≡ Some (record { number = number; changes = changes })
  pub state : IsStateEvent changes events

-- ---- the note

pub record IsNote (message : Message) (note : WireNote) : Type 0 where
  pub heading : heading_of message ≡ Ok (record { sid = record { 0 = note.name }; seq = note.seq })
  pub body : Says message.body note.number note.events

-- its fields are the fields of a note, and its body does not say a number and events
pub record HasNoBody (message : Message) : Type 0 where
  pub heading : Heading
  pub headed : heading_of message ≡ Ok heading
  pub none : (number : ℕ) (events : List Event) → Says message.body number events → ⊥

-- what is answered to a message. If memory runs out, that says nothing of it
abbrev pub Answers : Message → Result WireNote NoteError → Type 0
Answers message (Ok note) = IsNote message note
Answers message (Err Mem) = ⊤
Answers message (Err Head) = heading_of message ≡ Err Head
Answers message (Err Precondition) = heading_of message ≡ Err Precondition
Answers message (Err Body) = HasNoBody message
