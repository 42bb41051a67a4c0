-- What comes of a request about a subscription, by the commands that a server accepted (UPnP Device Architecture 2.0 on SUBSCRIBE
-- and UNSUBSCRIBE). The order of the statuses is this project's profile.
use Rattle.std.specs.Prelude.{◌≡◌, ◌+◌, ◌++◌, ℕ, Bool, true, false, cond, nat_eq, List, [], ◌∷◌, length, codes, Option, Some, None, is_some, Result, Ok, Err, ⊤}
use Rattle.std.specs.Fmt.{decimal}
use Rattle.url.specs.Parts.{serialize}
use Rattle.cds_catalog.specs.History.{end_of}
use Rattle.cds_http.specs.declared.fields.Field.{Field}
use Rattle.cds_http.specs.declared.message.Message.{Message}
use Rattle.cds_http.specs.Written.{written_reply}
use Rattle.cds_commands.specs.Commands.{Command, Start, Grants, Renews, Ends, scans_of}
use Rattle.cds_commands.specs.Names.{names_of}
use Rattle.cds_commands.specs.Subscriptions.{end_after, granted, is_alive}
use Rattle.cds_commands.specs.Notes.{Note, alive_names, first_note}
use Rattle.cds_control.specs.Replies.{empty_reply}
use Rattle.cds_gena.specs.Asked.{gena_of, is_deliverable}
use Rattle.cds_gena.specs.SidText.{sid_text}
use Rattle.cds_gena.specs.Subscribed.{Booked, IsDelivered, Subscribed, grant_refusal, if_full, last_number, living_named, number_of, renewed, with_grant, without}
use Rattle.cds_gena.specs.declared.error.GenaError.{GenaError}
use Rattle.cds_gena.specs.declared.error.GenaError.TheVariants.{Mem, Incompatible, Precondition, Spent, Full}
use Rattle.cds_gena.specs.declared.gena.Gena.{Gena}
use Rattle.cds_gena.specs.declared.gena.Gena.TheVariants.{Subscribe, Renew, Unsubscribe}
use Rattle.cds_notify.specs.Propertyset.{propertyset_text}
use Rattle.cds_server.specs.declared.made.Settled.{Settled}
use Rattle.cds_server.specs.declared.notes.FirstNote.{FirstNote}

-- What comes of a request:
-- - `Refused`: the status of a refusal;
-- - `Granted`: a new subscription, with its callback and its seconds;
-- - `Renewed`: a renewed subscription, by its number, and its seconds;
-- - `Ended`: an ended subscription, by its number
pub data Outcome : Type 0 where
  Refused : ℕ → Outcome
  Granted : List ℕ → ℕ → Outcome
  Renewed : ℕ → ℕ → Outcome
  Ended : ℕ → Outcome

-- whether notes can be delivered at the callback, if a new subscription is asked for
abbrev pub can_deliver : Gena → Bool
can_deliver (Subscribe url seconds) = is_deliverable url
can_deliver (Renew sid seconds) = true
can_deliver (Unsubscribe sid) = true

-- ---- what comes of it

-- the status of a refusal; `Mem` is never an answer that is owed
abbrev pub status_of : GenaError → ℕ
status_of Incompatible = 400
status_of Precondition = 412
status_of Spent = 503
status_of (Full live) = 503
status_of Mem = 503

abbrev pub granting : Option GenaError → List ℕ → ℕ → Outcome
granting None callback seconds = Granted callback seconds
granting (Some refusal) callback seconds = Refused (status_of refusal)

abbrev pub renewing : Option ℕ → ℕ → Outcome
renewing None seconds = Refused 412
renewing (Some number) seconds = Renewed number seconds

abbrev pub ending : Option ℕ → Outcome
ending None = Refused 412
ending (Some number) = Ended number

-- What comes of a request, by three things: why no subscription is granted (if so), the number of each name whose subscription
-- lives, and what is asked.
abbrev pub outcome_of : Option GenaError → (ℕ → Option ℕ) → Result Gena GenaError → Outcome
outcome_of refusal number (Ok (Subscribe url seconds)) = granting refusal (serialize url) seconds
outcome_of refusal number (Ok (Renew sid seconds)) = renewing (number sid.0) seconds
outcome_of refusal number (Ok (Unsubscribe sid)) = ending (number sid.0)
outcome_of refusal number (Err cause) = Refused (status_of cause)

-- No subscription is granted if the last number was given. Otherwise none is granted if as many live as may.
abbrev pub refusal_of : ℕ → List Command → Option GenaError
refusal_of now commands = cond (nat_eq (granted commands) last_number) (Some Spent) (if_full (length (alive_names now commands)))

-- the number of a name whose subscription lives at a moment
abbrev pub if_lives : ℕ → List Command → Option ℕ → Option ℕ
if_lives now commands None = None
if_lives now commands (Some number) = cond (is_alive number now commands) (Some number) None

abbrev pub living_number : Start → ℕ → List Command → ℕ → Option ℕ
living_number start now commands name = if_lives now commands (number_of (names_of start) name)

abbrev pub outcome : Start → List Command → ℕ → Message → Outcome
outcome start commands now m = outcome_of (refusal_of now commands) (living_number start now commands) (gena_of m)

-- ---- what is done, and what is replied

-- the command that is accepted
abbrev pub command_of : ℕ → Outcome → Option Command
command_of now (Refused status) = None
command_of now (Granted callback seconds) = Some (Grants now callback seconds)
command_of now (Renewed number seconds) = Some (Renews now number seconds)
command_of now (Ended number) = Some (Ends now number)

abbrev pub and_command : Option Command → List Command → List Command
and_command None commands = commands
and_command (Some command) commands = command ∷ commands

-- the reply to an accepted SUBSCRIBE: the name, and the seconds that are granted
abbrev pub field : List ℕ → List ℕ → Field
field name value = record { name = name; value = value }

abbrev pub lease_fields : ℕ → ℕ → List Field
lease_fields name seconds = field (codes "SID") (sid_text name) ∷ field (codes "TIMEOUT") (codes "Second-" ++ decimal seconds) ∷ []

abbrev pub lease_reply : ℕ → ℕ → List ℕ
lease_reply name seconds = written_reply 200 (lease_fields name seconds) []

-- the reply, by the name of number 0 and by how many were granted before
abbrev pub outcome_reply : ℕ → ℕ → Outcome → List ℕ
outcome_reply names granted (Refused status) = empty_reply status
outcome_reply names granted (Granted callback seconds) = lease_reply (names + (granted + 1)) seconds
outcome_reply names granted (Renewed number seconds) = lease_reply (names + number) seconds
outcome_reply names granted (Ended number) = empty_reply 200

abbrev pub event_reply : Start → List Command → ℕ → Message → List ℕ
event_reply start commands now m = outcome_reply (names_of start) (granted commands) (outcome start commands now m)

-- ---- the first note

-- the first note to a name at a callback, which has SEQ 0 and tells no containers
abbrev pub noted : ℕ → List ℕ → Note → FirstNote
noted name callback note = record {
  to = record { sid = record { 0 = name }; callback = callback; seq = 0 };
  body = propertyset_text note.number [] note.events;
}

-- the first note of a granted subscription, by the name of number 0, by how many were granted before, and by the number of the
-- last change
abbrev pub outcome_note : ℕ → ℕ → ℕ → Outcome → Option FirstNote
outcome_note names granted number (Refused status) = None
outcome_note names granted number (Granted callback seconds) = Some (noted (names + (granted + 1)) callback (first_note (granted + 1) number))
outcome_note names granted number (Renewed renewed seconds) = None
outcome_note names granted number (Ended ended) = None

abbrev pub first_of : Start → List Command → ℕ → Message → Option FirstNote
first_of start commands now m =
    outcome_note (names_of start) (granted commands) (end_of (scans_of start.first commands)) (outcome start commands now m)

-- ---- by what a book keeps

-- what comes of a request, by the subscriptions that have not ended
abbrev pub outcome_in : Booked → ℕ → Result Gena GenaError → Outcome
outcome_in book now asked = outcome_of (grant_refusal now book.subscribed) (λ name. living_named now name book) asked

-- what is kept after it
abbrev pub with_subscribed : Booked → Subscribed → Booked
with_subscribed book subscribed = record book { subscribed = subscribed }

abbrev pub done : ℕ → Outcome → Booked → Booked
done now (Refused status) book = book
done now (Granted callback seconds) book = with_subscribed book (with_grant now callback seconds book.subscribed)
done now (Renewed number seconds) book = with_subscribed book (renewed number (end_after now seconds) book.subscribed)
done now (Ended number) book = with_subscribed book (without number book.subscribed)

-- nothing was accepted
abbrev pub unsettled : Settled
unsettled = record { note = None; accepted = false }

-- A request is answered, by the subscriptions before it: this is appended, kept and settled.
pub record IsDone (book : Booked) (number now : ℕ) (come : Outcome) (old new : List ℕ) (settled : Settled) (after : Booked) : Type 0 where
  pub replied : new ≡ old ++ outcome_reply book.names book.subscribed.granted come
  pub kept : after ≡ done now come book
  pub noted : settled.note ≡ outcome_note book.names book.subscribed.granted number come
  pub accepted : settled.accepted ≡ is_some (command_of now come)

-- A first note can be delivered, if there is one.
abbrev pub GoesOut : Option FirstNote → Type 0
GoesOut None = ⊤
GoesOut (Some note) = IsDelivered note.to
