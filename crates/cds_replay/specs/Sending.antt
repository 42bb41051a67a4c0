-- The notes that a script's server sent, as they go over the wire: the body of a release once, however many notes have it.
use Rattle.std.specs.Prelude.{◌≡◌, ◌-◌, ◌<◌, ℕ, cond, nat_eq, List, [], ◌∷◌, map, filter, take, length, Option, Some, None, unwrap_or, slice_get, IfSome}
use Rattle.std.specs.List.{AllByRecursion}
use Rattle.cds_gena.specs.declared.address.Address.{Address}
use Rattle.cds_gena.specs.declared.sid.Sid.{Sid}
use Rattle.cds_gena.specs.Asked.{url_in}
use Rattle.cds_gena.specs.Subscribed.{IsDelivered}
use Rattle.cds_notify.specs.Notify.{notify_text}
use Rattle.cds_server.specs.declared.notes.FirstNote.{FirstNote}
use Rattle.cds_server.specs.declared.notes.Notes.{Notes}
use Rattle.cds_replay.specs.declared.sent.KeptNote.{KeptNote}
use Rattle.cds_replay.specs.declared.sent.SentHead.{SentHead}

-- a note that was sent: the address that it goes to, the number that it tells, and its body
pub record SentNote : Type 0 where
  pub to : Address
  pub number : ℕ
  pub body : List ℕ

-- by the place of its body among bodies
abbrev pub note_at : List (List ℕ) → KeptNote → SentNote
note_at bodies kept = record { to = kept.to; number = kept.number; body = unwrap_or (slice_get bodies kept.body) [] }

-- its body is one of this many, and it can be delivered
pub record IsKept (bodies : ℕ) (kept : KeptNote) : Type 0 where
  pub body : kept.body < bodies
  pub delivered : IsDelivered kept.to

abbrev pub AreKept : List (List ℕ) → List KeptNote → Type 0
AreKept bodies notes = AllByRecursion (IsKept (length bodies)) notes

-- the note of a release to an address
abbrev pub kept_note : ℕ → ℕ → Address → KeptNote
kept_note number body to = record { to = to; number = number; body = body }

-- a note to an address, with a number and a body
abbrev pub sent_to : ℕ → List ℕ → Address → SentNote
sent_to number body to = record { to = to; number = number; body = body }

-- the notes of a tick, if it sends some
abbrev pub sent_notes : Option Notes → List SentNote
sent_notes None = []
sent_notes (Some notes) = map (sent_to notes.span.to notes.body) notes.to

-- the first note of a subscription, if one was granted; it tells a number
abbrev pub first_sent : ℕ → Option FirstNote → List SentNote
first_sent number None = []
first_sent number (Some note) = sent_to number note.body note.to ∷ []

-- what is written of a note
abbrev pub head_of : SentNote → SentHead
head_of note = record { seq = note.to.seq; number = note.number }

-- the note of a number among all that were sent, counted from 1
abbrev pub sent_of : ℕ → List SentNote → Option SentNote
sent_of number notes = cond (nat_eq number 0) None (slice_get notes (number - 1))

-- the name that a note goes to
abbrev pub name_on : SentNote → Sid
name_on note = note.to.sid

-- how many notes before that of a number were sent to a name
abbrev pub named_before : ℕ → ℕ → List SentNote → ℕ
named_before sid number notes = length (filter (λ (note : SentNote). nat_eq note.to.sid.0 sid) (take (number - 1) notes))

-- bytes are the request that carries a body to an address
abbrev pub carries : Address → List ℕ → List ℕ → Type 0
carries to body request = IfSome (url_in to.callback) (λ url. request ≡ notify_text url to body)

-- or a note, if there is one
abbrev pub is_request_of : Option SentNote → Option (List ℕ) → Type 0
is_request_of None request = request ≡ None
is_request_of (Some note) None = ⊥
is_request_of (Some note) (Some request) = carries note.to note.body request
