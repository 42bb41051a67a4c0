-- The one reply that a server writes to a message, by the commands that it accepted (UPnP Device Architecture 2.0 on control and
-- on eventing; UPnP ContentDirectory:4).
use Rattle.std.specs.Prelude.{◌≡◌, ℕ, List, ◌++◌, Option, None}
use Rattle.cds_http.specs.declared.message.Message.{Message}
use Rattle.cds_commands.specs.Commands.{Command, Start}
use Rattle.cds_control.specs.Published.{Published}
use Rattle.cds_control.specs.Replies.{IsControlReply, empty_reply}
use Rattle.cds_server.specs.Route.{Way, Answers, Controls, Route, Subscribes, Goes, route}
use Rattle.cds_server.specs.Published.{published_by}
use Rattle.cds_server.specs.Outcome.{Outcome, command_of, event_reply, first_of, outcome}
use Rattle.cds_server.specs.declared.notes.FirstNote.{FirstNote}

-- The text replies to a message that goes this way.
abbrev pub IsReplyBy : Published → Message → Way → List ℕ → Type 0
IsReplyBy published m (Answers status) text = text ≡ empty_reply status
IsReplyBy published m (Controls host) text = IsControlReply published host m text

-- The reply to a message at a moment. A request about a subscription gets what comes of it. Any other message is answered by its
-- way, at every moment alike.
abbrev pub IsReplyOf : Start → List Command → ℕ → Message → Route → List ℕ → Type 0
IsReplyOf start commands now m Subscribes text = text ≡ event_reply start commands now m
IsReplyOf start commands now m (Goes way) text = IsReplyBy (published_by start commands) m way text

abbrev pub IsReply : Start → List Command → ℕ → Message → List ℕ → Type 0
IsReply start commands now m text = IsReplyOf start commands now m (route m) text

-- A reply was appended.
abbrev pub Replied : Start → List Command → ℕ → Message → List ℕ → List ℕ → Type 0
Replied start commands now m old new = (text : List ℕ) × IsReply start commands now m text × (new ≡ old ++ text)

-- ---- what is done

-- the command that is accepted of a message: what comes of a request about a subscription, none for any other message
abbrev pub command_by : Route → ℕ → Outcome → Option Command
command_by Subscribes now come = command_of now come
command_by (Goes way) now come = None

abbrev pub command_at : Start → List Command → ℕ → Message → Option Command
command_at start commands now m = command_by (route m) now (outcome start commands now m)

-- the first note; only a request about a subscription can have one
abbrev pub note_by : Route → Option FirstNote → Option FirstNote
note_by Subscribes first = first
note_by (Goes way) first = None

abbrev pub note_at : Start → List Command → ℕ → Message → Option FirstNote
note_at start commands now m = note_by (route m) (first_of start commands now m)
