-- The three parts in which a message is handled. First it is read, as far as it can be without a server. Then a server makes
-- something of what was asked. At last the reply is written (UPnP Device Architecture 2.0 on control and on eventing; UPnP
-- ContentDirectory:4).
use Rattle.std.specs.Prelude.{◌≡◌, ℕ, List, [], Option, None, Result, Ok, Err, ⊤}
use Rattle.cds_catalog.specs.History.{end_of}
use Rattle.cds_commands.specs.Commands.{Command, Start, scans_of}
use Rattle.cds_commands.specs.Names.{names_of}
use Rattle.cds_commands.specs.Subscriptions.{granted}
use Rattle.cds_control.specs.Answering.{answer_to}
use Rattle.cds_control.specs.Making.{FitsAction, written_made}
use Rattle.cds_gena.specs.declared.gena.Gena.{Gena}
use Rattle.cds_http.specs.declared.message.Message.{Message}
use Rattle.cds_soap.specs.Written.{written_answer}
use Rattle.cds_soap.specs.declared.action.Asked.{Asked}
use Rattle.cds_server.specs.declared.asking.Asking.{Asking}
use Rattle.cds_server.specs.declared.asking.Asking.TheVariants as ask
use Rattle.cds_server.specs.declared.made.Made.{Made}
use Rattle.cds_server.specs.declared.made.Made.TheVariants as make
use Rattle.cds_server.specs.declared.notes.FirstNote.{FirstNote}
use Rattle.cds_server.specs.Route.{Goes, Way, route}
use Rattle.cds_server.specs.Published.{published_by}
use Rattle.cds_server.specs.Outcome.{Outcome, command_of, living_number, outcome_note, outcome_of, outcome_reply, refusal_of}
use Rattle.cds_server.specs.Replies.{IsReply, command_at, note_at}

-- ---- what is asked

-- a request about a subscription that was read: what comes of it, its reply, its command and its first note
abbrev pub asked_outcome : Start → List Command → ℕ → Gena → Outcome
asked_outcome start commands now gena =
    outcome_of (refusal_of now commands) (living_number start now commands) (Ok gena)

abbrev pub asked_reply : Start → List Command → ℕ → Gena → List ℕ
asked_reply start commands now gena = outcome_reply (names_of start) (granted commands) (asked_outcome start commands now gena)

abbrev pub asked_command : Start → List Command → ℕ → Gena → Option Command
asked_command start commands now gena = command_of now (asked_outcome start commands now gena)

abbrev pub asked_note : Start → List Command → ℕ → Gena → Option FirstNote
asked_note start commands now gena =
    outcome_note (names_of start) (granted commands) (end_of (scans_of start.first commands)) (asked_outcome start commands now gena)

-- the reply to what is asked, by the commands that were accepted
abbrev pub reply_in : Start → List Command → ℕ → Asking → List ℕ
reply_in start commands now (ask.Ready text) = text
reply_in start commands now (ask.Action host asked) =
    written_answer asked.action asked.version (answer_to (published_by start commands) host asked.action) None
reply_in start commands now (ask.Subscription request) = asked_reply start commands now request.gena

-- the command that is accepted
abbrev pub command_in : Start → List Command → ℕ → Asking → Option Command
command_in start commands now (ask.Ready text) = None
command_in start commands now (ask.Action host asked) = None
command_in start commands now (ask.Subscription request) = asked_command start commands now request.gena

-- the first note
abbrev pub note_in : Start → List Command → ℕ → Asking → Option FirstNote
note_in start commands now (ask.Ready text) = None
note_in start commands now (ask.Action host asked) = None
note_in start commands now (ask.Subscription request) = asked_note start commands now request.gena

-- What was read of a message is all that counts of it. By whatever commands, it gets the reply, gives the command and gets the
-- first note of the message itself.
pub record IsAsking (m : Message) (asking : Asking) : Type 0 where
  pub replies : (start : Start) (commands : List Command) (now : ℕ) → IsReply start commands now m (reply_in start commands now asking)
  pub command : (start : Start) (commands : List Command) (now : ℕ) → command_at start commands now m ≡ command_in start commands now asking
  pub note : (start : Start) (commands : List Command) (now : ℕ) → note_at start commands now m ≡ note_in start commands now asking

-- The same, if the message goes this way.
abbrev pub AsksBy : Message → Way → Asking → Type 0
AsksBy m way asking = route m ≡ Goes way → IsAsking m asking

-- An action is asked for.
abbrev pub IsAction : Asking → Type 0
IsAction (ask.Ready text) = ⊥
IsAction (ask.Action host asked) = ⊤
IsAction (ask.Subscription request) = ⊥

-- Nothing is asked about a subscription. So no server is changed.
abbrev pub ChangesNone : Asking → Type 0
ChangesNone (ask.Ready text) = ⊤
ChangesNone (ask.Action host asked) = ⊤
ChangesNone (ask.Subscription request) = ⊥

-- ---- what a server makes of it

-- the text that is written for an action
abbrev pub said_of : List ℕ → Asked → Made → List ℕ
said_of host asked make.Ready = []
said_of host asked (make.Text text) = []
said_of host asked (make.Action made) = written_made host asked made

-- a reply that a server made whole
abbrev pub text_in : Made → List ℕ
text_in make.Ready = []
text_in (make.Text text) = text
text_in (make.Action made) = []

-- the text that is written for what was asked and what was made of it
abbrev pub said : Asking → Made → List ℕ
said (ask.Ready text) made = text
said (ask.Action host asked) made = said_of host asked made
said (ask.Subscription request) made = text_in made

-- What was made is of the kind of what was asked.
abbrev pub IsReady : Made → Type 0
IsReady make.Ready = ⊤
IsReady (make.Text text) = ⊥
IsReady (make.Action made) = ⊥

abbrev pub IsText : Made → Type 0
IsText make.Ready = ⊥
IsText (make.Text text) = ⊤
IsText (make.Action made) = ⊥

-- the answer is one to such an action
abbrev pub FitsMade : List ℕ → Asked → Made → Type 0
FitsMade host asked make.Ready = ⊥
FitsMade host asked (make.Text text) = ⊥
FitsMade host asked (make.Action made) = FitsAction host asked.action made

abbrev pub Fits : Asking → Made → Type 0
Fits (ask.Ready text) made = IsReady made
Fits (ask.Action host asked) made = FitsMade host asked made
Fits (ask.Subscription request) made = IsText made
