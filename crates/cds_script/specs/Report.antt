-- The report of a script: what its turns write, by the commands that the server accepted and by the replica's turns (this
-- project's profile).
use Rattle.std.specs.Prelude.{◌+◌, ◌-◌, ℕ, Bool, true, false, cond, nat_eq, nat_lt, nat_le, ◌&&◌, List, [], ◌∷◌, ◌++◌, map, length, take, Option, Some, None, slice_get, codes}
use Rattle.std.specs.List.{list_all, list_any}
use Rattle.std.specs.Fmt.{decimal}
use Rattle.cds_object.specs.declared.info.Comment.{Comment}
use Rattle.cds_object.specs.Path.{name_of}
use Rattle.cds_object.specs.Fragment.{full_text}
use Rattle.cds_object.specs.ContentOf.{folder_of}
use Rattle.cds_object.specs.declared.record.Record.{Record}
use Rattle.cds_catalog.specs.Library.{map_of}
use Rattle.cds_catalog.specs.History.{History, end_of}
use Rattle.cds_catalog.specs.Catalog.{catalog_at}
use Rattle.cds_catalog.specs.Scans.{ScanAnswer, Accepted, BadRecord, TooMany, NoNumbers, scan_answer}
use Rattle.cds_script.specs.Lines.{lines_of, ended_lines, script_limit, line_limit}
use Rattle.cds_load.specs.Server.{Moment, reply_to}
use Rattle.cds_load.specs.declared.exchange.Ask.{Ask as Asked}
use Rattle.cds_load.specs.declared.exchange.Shown.{Shown}
use Rattle.cds_load.specs.declared.exchange.Shown.TheVariants.{Text, Number, Page, Fault}
use Rattle.cds_commands.specs.Commands.{Command, Scans, Renews, Ends, Ticks, scans_of}
use Rattle.cds_commands.specs.Notes.{Note, alive_names, has_room, notes_of, sent_by}
use Rattle.cds_commands.specs.Places.{seq_at, last_seq}
use Rattle.cds_commands.specs.Subscriptions.{granted}
use Rattle.cds_follow.specs.Inbox.{ReplicaTurn, Begins, Requests, Accepts, Refuses, Arrival, IsUnknown, IsRepeat, IsTooMany, IsEarly, IsHeld, IsNext, accepted}
use Rattle.cds_follow.specs.Follow.{known_by, next_ask, and_turn}
use Rattle.cds_follow.specs.Given.{moment_after, asked_at}
use Rattle.cds_commands.specs.Wire.{on_wire}
use Rattle.cds_follow.specs.Wire.{placed, and_note, says_on_wire, arrival_on_wire, is_recent}
use Rattle.cds_follow.specs.declared.says.Says.{Says}
use Rattle.cds_follow.specs.declared.says.Says.TheVariants.{Gap, BehindLoad, BehindRead, BehindVersion, Stands}
use Rattle.cds_script.specs.FoundFile.{with_comment, track_record}
use Rattle.cds_script.specs.declared.found.Found.{Found}
use Rattle.cds_script.specs.declared.found.Found.TheVariants.{Folder as FolderFound, Track as TrackFound}
use Rattle.cds_script.specs.Script.{grant_at, granted_seconds, meaning_of}
use Rattle.cds_script.specs.declared.reply.HeldReply.{HeldReply}
use Rattle.cds_script.specs.declared.reply.HeldReply.TheVariants.{NoReply, Named, Refusal}
use Rattle.cds_script.specs.declared.turn.Meaning.{Meaning}
use Rattle.cds_script.specs.declared.turn.Meaning.TheVariants.{Nothing, Means, Outside}
use Rattle.cds_script.specs.declared.turn.ScriptTurn.{ScriptTurn}
use Rattle.cds_script.specs.declared.turn.ScriptTurn.TheVariants.{Folder, Track, Tag, Scan, Load, Read, Ask, First, Wrap, At, Subscribe, Accept, Renew, Unsubscribe, Deliver, ReadFault}

-- a comment put to the last thing that was found, if it is a file
abbrev pub commented : Comment → Found → Found
commented comment (FolderFound path) = FolderFound path
commented comment (TrackFound file) = TrackFound (with_comment comment file)

abbrev pub last_commented : Comment → List Found → List Found
last_commented comment [] = []
last_commented comment (found ∷ []) = commented comment found ∷ []
last_commented comment (found ∷ next ∷ others) = found ∷ last_commented comment (next ∷ others)

-- what was found since the last scan, after turns of which the newest is the first
abbrev pub found_since : List ScriptTurn → List Found
found_since [] = []
found_since (Folder path ∷ older) = found_since older ++ FolderFound path ∷ []
found_since (Track path info size ∷ older) = found_since older ++ TrackFound (record { path = path; info = info; size = size }) ∷ []
found_since (Tag comment ∷ older) = last_commented comment (found_since older)
found_since (Scan ∷ older) = []
found_since (turn ∷ older) = found_since older

-- the record of a folder: its title is its name, cleaned
abbrev pub folder_record : List (List ℕ) → Record
folder_record path = record { path = path; content = folder_of (name_of path) }

-- the record of what was found
abbrev pub record_of : Found → Record
record_of (FolderFound path) = folder_record path
record_of (TrackFound file) = track_record file

-- the records since the last scan
abbrev pub records_since : List ScriptTurn → List Record
records_since turns = map record_of (found_since turns)

-- the server's first number: the oldest turn may say it, else it is 0
abbrev pub number_of : ScriptTurn → ℕ
number_of (First number) = number
number_of turn = 0

abbrev pub first_of : List ScriptTurn → ℕ
first_of [] = 0
first_of (turn ∷ []) = number_of turn
first_of (turn ∷ next ∷ older) = first_of (next ∷ older)

-- the current moment, in milliseconds
abbrev pub clock_of : List ScriptTurn → ℕ
clock_of [] = 0
clock_of (At moment ∷ older) = moment
clock_of (turn ∷ older) = clock_of older

-- what turns led to: the commands that the server accepted, the replica's turns, the reply that is held back, and the SEQ after
-- which comes SEQ 1
pub record Played : Type 0 where
  pub commands : List Command
  pub replica : List ReplicaTurn
  pub reply : HeldReply
  pub wrap : ℕ

-- the commands after a scan, which a refusal leaves as they were
abbrev pub scanned : ScanAnswer → List Record → List Command → List Command
scanned Accepted records commands = Scans (map_of records) ∷ commands
scanned (BadRecord line) records commands = commands
scanned (TooMany objects) records commands = commands
scanned (NoNumbers needed) records commands = commands

-- after the reply that was held back reached the replica
abbrev pub after_reply : HeldReply → List ReplicaTurn → List ReplicaTurn
after_reply NoReply turns = turns
after_reply (Named name) turns = and_turn (Accepts name) turns
after_reply Refusal turns = Refuses ∷ turns

-- after a note, if there is one, reached the replica
abbrev pub after_note : Option Note → List ReplicaTurn → List ReplicaTurn
after_note = and_note

-- a note as it reaches the replica: on the wire it has a SEQ alone, by which the replica gives it a place
abbrev pub reaching : ℕ → List ReplicaTurn → Option Note → Option Note
reaching wrap turns None = None
reaching wrap turns (Some note) = placed wrap (on_wire wrap note) turns

-- the note of a number among all that were sent, counted from 1
abbrev pub sent_note : ℕ → List Note → Option Note
sent_note number notes = cond (nat_eq number 0) None (slice_get notes (number - 1))

-- whether the subscription of a name lives at a moment, after commands
abbrev pub lives : ℕ → ℕ → List Command → Bool
lives name now commands = list_any (λ other. nat_eq other name) (alive_names now commands)

-- the commands after the subscription of a name was given up, if there is one and it lives
abbrev pub given_up : Option ℕ → ℕ → List Command → List Command
given_up None now commands = commands
given_up (Some name) now commands = cond (lives name now commands) (Ends now name ∷ commands) commands

-- the commands after the subscription of a name was renewed at a moment, if there is one and it lives then: its time begins anew
abbrev pub with_renewal : Option ℕ → ℕ → List Command → List Command
with_renewal None now commands = commands
with_renewal (Some name) now commands = cond (lives name now commands) (Renews now name granted_seconds ∷ commands) commands

-- the reset token of a script's server
abbrev pub script_token : List ℕ
script_token = codes "00000000-0000-8000-8000-000000000000"

-- what a turn leads to, after the older ones
abbrev pub play : ℕ → ℕ → List Record → Played → ScriptTurn → Played
play first now records p (Folder path) = p
play first now records p (Track path info size) = p
play first now records p (Tag comment) = p
play first now records p Scan = record p { commands = scanned (scan_answer (scans_of first p.commands) records) records p.commands }
play first now records p Load = record p { replica = Begins ∷ p.replica }
play first now records p Read = record p { replica = asked_at (moment_after script_token first p.commands) p.replica (next_ask (known_by p.replica)) }
play first now records p Ask = p
play first now records p (First number) = p
play first now records p (Wrap number) = record p { wrap = number }
play first now records p (At moment) = record p { commands = Ticks moment ∷ p.commands }
play first now records p Subscribe =
    cond (has_room now p.commands)
    (record p { commands = grant_at now ∷ p.commands; replica = Requests ∷ p.replica; reply = Named (granted p.commands + 1) })
    (record p { replica = Requests ∷ p.replica; reply = Refusal })
play first now records p Accept = record p { replica = after_reply p.reply p.replica; reply = NoReply }
play first now records p Renew = record p { commands = with_renewal (accepted p.replica) now p.commands }
play first now records p Unsubscribe = record p { commands = given_up (accepted p.replica) now p.commands }
play first now records p (Deliver note) =
    record p { replica = after_note (reaching p.wrap p.replica (sent_note note (notes_of first p.commands))) p.replica }
play first now records p ReadFault = p

abbrev pub played : List ScriptTurn → Played
played [] = record { commands = []; replica = []; reply = NoReply; wrap = last_seq }
played (turn ∷ older) = play (first_of older) (clock_of older) (records_since older) (played older) turn

-- the history of the accepted scans
abbrev pub history_of : List ScriptTurn → History
history_of turns = scans_of (first_of turns) (played turns).commands

-- what a scan writes
abbrev pub scan_text : ℕ → ScanAnswer → List ℕ
scan_text number Accepted = codes "scan " ++ decimal number ++ codes "\n"
scan_text number (BadRecord line) = codes "scan bad " ++ decimal line ++ codes "\n"
scan_text number (TooMany objects) = codes "scan full " ++ decimal objects ++ codes "\n"
scan_text number (NoNumbers needed) = codes "scan spent " ++ decimal needed ++ codes "\n"

-- what a reply writes
abbrev pub reply_text : Shown → List ℕ
reply_text (Text token) = codes "read ok\n"
reply_text (Number n) = codes "read ok\n"
reply_text (Page rows total update) = codes "read ok\n"
reply_text (Fault code) = codes "read " ++ decimal code ++ codes "\n"

-- what a read writes, by the next ask and what the server has
abbrev pub read_text : Moment → Option Asked → List ℕ
read_text moment None = codes "read none\n"
read_text moment (Some ask) = reply_text (reply_to moment ask)

-- what notes that were sent write, the first of which has this number
abbrev pub notes_text : ℕ → ℕ → List Note → List ℕ
notes_text wrap number [] = []
notes_text wrap number (note ∷ notes) =
    codes "note " ++ decimal number ++ codes " seq " ++ decimal (seq_at wrap note.place) ++ codes " at " ++ decimal note.number ++ codes "\n"
    ++ notes_text wrap (number + 1) notes

-- what the notes that a command sends write, after the older ones
abbrev pub sent_text : ℕ → ℕ → List Command → Command → List ℕ
sent_text wrap first older command = notes_text wrap (length (notes_of first older) + 1) (sent_by first older (notes_of first older) command)

-- what the reply that was held back writes
abbrev pub accept_text : HeldReply → List ℕ
accept_text NoReply = codes "accept none\n"
accept_text (Named name) = codes "accept 200\n"
accept_text Refusal = codes "accept 503\n"

-- what renewing the subscription of a name writes
abbrev pub renew_text : Option ℕ → ℕ → List Command → List ℕ
renew_text None now commands = codes "renew none\n"
renew_text (Some name) now commands = cond (lives name now commands) (codes "renew 200\n") (codes "renew 412\n")

-- what giving up the subscription of a name writes
abbrev pub unsubscribe_text : Option ℕ → ℕ → List Command → List ℕ
unsubscribe_text None now commands = codes "unsubscribe none\n"
unsubscribe_text (Some name) now commands = cond (lives name now commands) (codes "unsubscribe 200\n") (codes "unsubscribe 412\n")

-- what a delivered note writes
abbrev pub arrival_text : Arrival → List ℕ
arrival_text IsUnknown = codes "unknown"
arrival_text IsRepeat = codes "repeat"
arrival_text (IsTooMany held) = codes "full " ++ decimal held
arrival_text IsEarly = codes "early"
arrival_text (IsHeld seq) = codes "held " ++ decimal seq
arrival_text IsNext = codes "took"

abbrev pub deliver_text : ℕ → ℕ → Option Note → List ReplicaTurn → List ℕ
deliver_text wrap number None turns = []
deliver_text wrap number (Some note) turns =
    codes "deliver " ++ decimal number ++ codes " " ++ arrival_text (arrival_on_wire wrap (on_wire wrap note) turns) ++ codes "\n"

-- what an answer writes: after `stands` and a number, each row of the catalog that the folder records up to this number
-- give
abbrev pub answer_text : History → Says → List ℕ
answer_text history (Gap seq) = codes "gap " ++ decimal seq ++ codes "\n"
answer_text history BehindLoad = codes "behind load\n"
answer_text history (BehindRead id) = codes "behind read " ++ decimal id ++ codes "\n"
answer_text history (BehindVersion number) = codes "behind version " ++ decimal number ++ codes "\n"
answer_text history (Stands number) =
    codes "stands " ++ decimal number ++ codes "\n" ++ full_text (catalog_at history.first history.maps number)

-- what a turn writes, after the older ones
abbrev pub written : ℕ → ℕ → List Record → Played → ScriptTurn → List ℕ
written first now records p (Folder path) = []
written first now records p (Track path info size) = []
written first now records p (Tag comment) = []
written first now records p Scan =
    scan_text (end_of (scans_of first (scanned (scan_answer (scans_of first p.commands) records) records p.commands)))
    (scan_answer (scans_of first p.commands) records)
written first now records p Load = []
written first now records p Read = read_text (moment_after script_token first p.commands) (next_ask (known_by p.replica))
written first now records p Ask = answer_text (scans_of first p.commands) (says_on_wire p.wrap p.replica)
written first now records p (First number) = []
written first now records p (Wrap number) = []
written first now records p (At moment) = sent_text p.wrap first p.commands (Ticks moment)
written first now records p Subscribe = cond (has_room now p.commands) (sent_text p.wrap first p.commands (grant_at now)) []
written first now records p Accept = accept_text p.reply
written first now records p Renew = renew_text (accepted p.replica) now p.commands
written first now records p Unsubscribe = unsubscribe_text (accepted p.replica) now p.commands
written first now records p (Deliver note) = deliver_text p.wrap note (sent_note note (notes_of first p.commands)) p.replica
written first now records p ReadFault = codes "readfault\n"

abbrev pub written_by : List ScriptTurn → ScriptTurn → List ℕ
written_by older turn = written (first_of older) (clock_of older) (records_since older) (played older) turn

-- how a script ends: with a status, and with all that was written
pub record Ending : Type 0 where
  pub status : ℕ
  pub text : List ℕ

-- an ending with more written before it
abbrev pub written_first : List ℕ → Ending → Ending
written_first text ending = record { status = ending.status; text = text ++ ending.text }

-- the last line of a script with a line outside the grammar, and of one past a limit
abbrev pub outside_ending : ℕ → Ending
outside_ending number = record { status = 1; text = codes "error line " ++ decimal number ++ codes "\n" }

abbrev pub limit_ending : Ending
limit_ending = record { status = 6; text = codes "error limit\n" }

-- whether the newest of turns is a track, or a comment of one
abbrev pub is_tagging : List ScriptTurn → Bool
is_tagging (Track path info size ∷ older) = true
is_tagging (Tag comment ∷ older) = true
is_tagging turns = false

-- whether a turn says the first number
abbrev pub is_first : ScriptTurn → Bool
is_first (First number) = true
is_first turn = false

-- whether a note that was sent, if it is heard, is fewer places away than a wrap without a reach
abbrev pub is_recent_one : ℕ → Option Note → List ReplicaTurn → Bool
is_recent_one wrap None turns = true
is_recent_one wrap (Some note) turns = is_recent wrap note turns

-- whether a turn may stand after the older ones; otherwise its line is outside the grammar. The first number comes before all
-- else, a wrap of at least 256 before all but the first number, and a comment after a track or another comment. Moments never
-- fall. A note that is delivered was sent, and is recent
abbrev pub may_stand : List ScriptTurn → ScriptTurn → Bool
may_stand older (Tag comment) = is_tagging older
may_stand older (First number) = nat_eq (length older) 0
may_stand older (At moment) = nat_le (clock_of older) moment
may_stand older (Wrap number) = nat_le 256 number && list_all is_first older
may_stand older (Deliver note) =
    (nat_lt 0 note && nat_le note (length (notes_of (first_of older) (played older).commands)))
    && is_recent_one (played older).wrap (sent_note note (notes_of (first_of older) (played older).commands)) (played older).replica
may_stand older turn = true

-- how a script goes on at a line, by what it means: after these turns, at the line of this number, with what comes after
-- further turns
abbrev pub ending_at : Meaning → List ScriptTurn → ℕ → (List ScriptTurn → Ending) → Ending
ending_at Nothing turns number go_on = go_on turns
ending_at (Means turn) turns number go_on =
    cond (may_stand turns turn) (written_first (written_by turns turn) (go_on (turn ∷ turns))) (outside_ending number)
ending_at Outside turns number go_on = outside_ending number

-- how a script ends after turns; the first of the lines that are left has this number. The last part says whether the script ends
-- with these lines, or passes its limit
abbrev pub ending_from : List ScriptTurn → ℕ → List (List ℕ) → Bool → Ending
ending_from turns number [] whole = cond whole (record { status = 0; text = [] }) limit_ending
ending_from turns number (line ∷ lines) whole =
    cond (nat_lt line_limit (length line)) limit_ending
    (ending_at (meaning_of line) turns number (λ now. ending_from now (number + 1) lines whole))

-- how a script goes on after turns, at the line of this number, if this many more bytes may be taken. The lines before a broken
-- one are answered. Of a script that is too long, those are that ended before the limit was passed
abbrev pub ending_of : List ScriptTurn → ℕ → ℕ → List ℕ → Ending
ending_of turns number room bytes =
    cond (nat_le (length bytes) room) (ending_from turns number (lines_of bytes) true)
    (ending_from turns number (ended_lines (take room bytes)) false)

unfoldable pub script_ending : List ℕ → Ending
script_ending bytes = ending_of [] 1 script_limit bytes
