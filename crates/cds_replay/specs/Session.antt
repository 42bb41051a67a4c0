-- What a session of a script has, and for which turns it stands.
use Rattle.std.specs.Option.{option_eq}
use Rattle.std.specs.Prelude.{◌≡◌, ◌+◌, ◌-◌, ◌<◌, ◌≤◌, ◌^◌, ℕ, Bool, true, false, cond, nat_eq, nat_lt, List, [], ◌∷◌, ◌++◌, map, length, Option, Some, None, Result, Ok, Err}
use Rattle.cds_object.specs.declared.info.Comment.{Comment}
use Rattle.cds_load.specs.declared.exchange.Shown.{Shown}
use Rattle.cds_catalog.specs.History.{History}
use Rattle.cds_commands.specs.Commands.{Command, Start, Ticks, scans_of}
use Rattle.cds_notify.specs.Laws.{AreNumbers}
use Rattle.cds_notify.specs.Propertyset.{propertyset_text}
use Rattle.cds_control.specs.Replies.{empty_reply}
use Rattle.cds_server.specs.Outcome.{lease_reply}
use Rattle.cds_server.specs.Serving.{Serving, StandsFor as ServerStandsFor}
use Rattle.cds_replay.specs.Sending.{SentNote, named_before}
use Rattle.cds_script.specs.Report.{first_of, clock_of, last_commented, found_since, reaching, after_reply, after_note, accept_text, deliver_text}
use Rattle.cds_follow.specs.Wire.{apart}
use Rattle.cds_replica.specs.Inboxed.{KeptInbox}
use Rattle.cds_replica.specs.State.{ReplicaState, StandsFor}
use Rattle.cds_script.specs.declared.found.Found.{Found}
use Rattle.cds_script.specs.declared.found.Found.TheVariants.{Folder as FolderFound, Track as TrackFound}
use Rattle.cds_script.specs.declared.turn.ScriptTurn.{ScriptTurn}
use Rattle.cds_script.specs.declared.turn.ScriptTurn.TheVariants.{Track, Tag, First}
use Rattle.cds_script.specs.Script.{granted_seconds, moment_limit, script_callback}
use Rattle.cds_replay.specs.declared.last.Last.{Last}
use Rattle.cds_replay.specs.declared.last.Last.TheVariants.{NoTurn, OfFirst, OfTrack, Other}
use Rattle.cds_replay.specs.declared.session.TurnError.{TurnError}
use Rattle.cds_replay.specs.declared.session.TurnError.TheVariants.{Refused, Mem as NoMemory}
use Rattle.cds_replay.specs.Wired.{ReplayStep, turns_in, played_by, and_read, refuses_read, refuses_reply, refuses_note, refuses, read_text_by, written_on, MayBeBy}
use Rattle.cds_replay.specs.Wire.{IsReadBy, AreReadBy}
use Rattle.cds_base.specs.declared.mem.Mem.{Mem}
use Rattle.cds_commands.specs.Names.{name_of}
use Rattle.cds_commands.specs.Notes.{Note, notes_of, sent_by}
use Rattle.cds_commands.specs.Places.{seq_at, last_seq, reach}
use Rattle.cds_commands.specs.Releases.{Release, release_at, released_containers, releases_of}
use Rattle.cds_follow.specs.Inbox.{ReplicaTurn}
use Rattle.cds_follow.specs.Named.{named}
use Rattle.cds_follow.specs.Follow.{known_by, next_ask}
use Rattle.cds_replica.specs.Replies.{IsNextReading}
use Rattle.cds_script.specs.declared.reply.HeldReply.{HeldReply}
use Rattle.cds_script.specs.declared.reply.HeldReply.TheVariants.{NoReply, Named, Refusal}

-- what a session has: the server, the replica, the notes that were sent, what was found since the last scan, the current moment;
-- the bytes of the reply to a subscribe request that is held back; what the last turn was; and the SEQ after which comes SEQ 1
pub record Playing : Type 0 where
  pub server : Serving
  pub replica : ReplicaState
  pub sent : List SentNote
  pub found : List Found
  pub clock : ℕ
  pub reply : Option (List ℕ)
  pub last : Last
  pub wrap : ℕ

-- what the newest of turns is
abbrev pub last_of : List ScriptTurn → Last
last_of [] = NoTurn
last_of (First number ∷ older) = OfFirst number
last_of (Track path info size ∷ older) = OfTrack
last_of (Tag comment ∷ older) = OfTrack
last_of (turn ∷ older) = Other

-- a script's server begins with boot words of 0, with the script's wrap and at its first number
abbrev pub script_start : ℕ → ℕ → Start
script_start wrap first = record { high = 0; low = 0; first = first; wrap = wrap }

-- the names of subscriptions on the wire, by the numbers of their grants: they depend neither on the wrap nor on the first number
abbrev pub script_names : ℕ → ℕ
script_names number = name_of (script_start last_seq 0) number

-- a note, and the containers that it tells
pub record Telling : Type 0 where
  pub note : Note
  pub containers : List (ℕ × ℕ)

-- notes that all tell these containers
abbrev pub all_telling : List (ℕ × ℕ) → List Note → List Telling
all_telling containers notes = map (λ (note : Note). record { note = note; containers = containers }) notes

-- the containers that the notes of a command tell: those of the release, if a tick makes one; a first note tells none
abbrev pub release_tells : History → Option Release → List (ℕ × ℕ)
release_tells history None = []
release_tells history (Some release) = released_containers history release

abbrev pub containers_told : ℕ → List Command → Command → List (ℕ × ℕ)
containers_told first older (Ticks moment) = release_tells (scans_of first older) (release_at moment (scans_of first older) (releases_of first older))
containers_told first older command = []

-- the notes that a command sends, after the older ones; and all notes that were sent, the oldest first
abbrev pub tellings_by : ℕ → List Command → Command → List Telling
tellings_by first older command = all_telling (containers_told first older command) (sent_by first older (notes_of first older) command)

abbrev pub tellings_of : ℕ → List Command → List Telling
tellings_of first [] = []
tellings_of first (command ∷ older) = tellings_of first older ++ tellings_by first older command

-- a note that was sent, as it goes over the wire: to the callback of a script, under the name and the SEQ of the note. Its body
-- tells the number of the note, its changes, and these containers
pub record IsSentAs (wrap : ℕ) (sent : SentNote) (note : Note) (containers : List (ℕ × ℕ)) : Type 0 where
  pub to : sent.to ≡ record { sid = record { 0 = script_names note.name }; callback = script_callback; seq = seq_at wrap note.place }
  pub number : sent.number ≡ note.number
  pub body : sent.body ≡ propertyset_text note.number containers note.events
  pub numbers : AreNumbers note.number containers note.events
  pub short : length sent.body < 66000000
  pub name : note.name < 2 ^ 32
  pub seq : seq_at wrap note.place < 2 ^ 32

-- so each of them, in order
abbrev pub AreSentAs : ℕ → List SentNote → List Telling → Type 0
AreSentAs wrap [] [] = Unit {0}
AreSentAs wrap [] (telling ∷ tellings) = ⊥
AreSentAs wrap (one ∷ sent) [] = ⊥
AreSentAs wrap (one ∷ sent) (telling ∷ tellings) = IsSentAs wrap one telling.note telling.containers × AreSentAs wrap sent tellings

-- the bytes of a reply to a subscribe request that is held back: they grant the name of a number of 32 bits, or refuse
abbrev pub IsHeldAs : Option (List ℕ) → HeldReply → Type 0
IsHeldAs None NoReply = Unit {0}
IsHeldAs None (Named name) = ⊥
IsHeldAs None Refusal = ⊥
IsHeldAs (Some reply) NoReply = ⊥
IsHeldAs (Some reply) (Named name) = (reply ≡ lease_reply (script_names name) granted_seconds) × (name < 2 ^ 32)
IsHeldAs (Some reply) Refusal = reply ≡ empty_reply 503

-- whether a session stands for steps, the newest first. Its server stands for the commands that were accepted, and its replica
-- for the replica's turns, under the names on the wire. What was sent and what is held back are the notes and the reply
pub record IsAfter (playing : Playing) (steps : List ReplayStep) : Type 0 where
  pub may : MayBeBy steps
  pub server : ServerStandsFor playing.server (script_start (played_by steps).wrap (first_of (turns_in steps))) (played_by steps).commands
  pub replica : StandsFor playing.replica (played_by steps).wrap (named script_names (played_by steps).replica)
  pub sent : AreSentAs (played_by steps).wrap playing.sent (tellings_of (first_of (turns_in steps)) (played_by steps).commands)
  pub found : playing.found ≡ found_since (turns_in steps)
  pub clock : playing.clock ≡ clock_of (turns_in steps)
  pub reply : IsHeldAs playing.reply (played_by steps).reply
  pub last : playing.last ≡ last_of (turns_in steps)
  pub wrap : playing.wrap ≡ (played_by steps).wrap

-- a session stands for some steps whose replies a wire left
pub record IsPlayed (carried : List ℕ → List ℕ) (playing : Playing) : Type 0 where
  pub steps : List ReplayStep
  pub read : AreReadBy carried steps
  pub after : IsAfter playing steps

-- a step was taken: the session stands for it too, and what it writes was added
pub record StepTaken (older : List ReplayStep) (step : ReplayStep) (old new : List ℕ) (playing : Playing) : Type 0 where
  pub takes : refuses older step ≡ false
  pub after : IsAfter playing (step ∷ older)
  pub out : new ≡ old ++ written_on older step

-- or refused: nothing was added
pub record StepRefused (older : List ReplayStep) (step : ReplayStep) (old new : List ℕ) : Type 0 where
  pub refused : refuses older step ≡ true
  pub out : new ≡ old

-- a turn, the reply to which is read as what a wire left of it, was taken or refused; or memory ran out
abbrev pub TurnTaken : (List ℕ → List ℕ) → List ReplayStep → ScriptTurn → List ℕ → List ℕ → Playing → Result (Unit {0}) TurnError → Type 0
TurnTaken carried older turn old new playing (Ok done) =
    (read : Option Shown) × IsReadBy carried older turn read × StepTaken older (record { turn = turn; read = read }) old new playing
TurnTaken carried older turn old new playing (Err Refused) =
    (read : Option Shown) × IsReadBy carried older turn read × StepRefused older (record { turn = turn; read = read }) old new
TurnTaken carried older turn old new playing (Err NoMemory) = Unit {0}

-- a session stands for some steps, whatever was read
abbrev pub IsStanding : Playing → Type 0
IsStanding playing = (steps : List ReplayStep) × IsAfter playing steps

-- a turn without a reply
abbrev pub quiet : ScriptTurn → ReplayStep
quiet turn = record { turn = turn; read = None }

-- such a turn was taken or refused; or memory ran out
abbrev pub QuietTaken : List ReplayStep → ScriptTurn → List ℕ → List ℕ → Playing → Result (Unit {0}) TurnError → Type 0
QuietTaken older turn old new playing (Ok done) = StepTaken older (quiet turn) old new playing
QuietTaken older turn old new playing (Err Refused) = StepRefused older (quiet turn) old new
QuietTaken older turn old new playing (Err NoMemory) = Unit {0}

-- the answer of a call that fails only if memory runs out, as the answer to a turn
abbrev pub of_memory : Result (Unit {0}) Mem → Result (Unit {0}) TurnError
of_memory (Ok done) = Ok tt
of_memory (Err none) = Err NoMemory

-- ---- what a replica is given in a turn: it takes it, and this is written, or it refuses it. The turns name subscriptions by the
-- numbers of their grants, and the replica names them as on the wire

-- the bytes of the reply to its next ask, which are read as something or as nothing
pub record ReplyIsTaken (wrap : ℕ) (turns : List ReplicaTurn) (read : Option Shown) (old new : List ℕ) (replica : ReplicaState) : Type 0 where
  pub takes : refuses_read (next_ask (known_by turns)) read turns ≡ false
  pub stands : StandsFor replica wrap (named script_names (and_read (next_ask (known_by turns)) read turns))
  pub out : new ≡ old ++ read_text_by (next_ask (known_by turns)) read

pub record IsRefused (test : Bool) (old new : List ℕ) : Type 0 where
  pub refused : test ≡ true
  pub out : new ≡ old

abbrev pub ReplyTaken : ℕ → List ReplicaTurn → List ℕ → List ℕ → List ℕ → ReplicaState → Result (Unit {0}) TurnError → Type 0
ReplyTaken wrap turns bytes old new replica (Ok done) =
    (read : Option Shown) × IsNextReading (next_ask (known_by turns)) bytes read × ReplyIsTaken wrap turns read old new replica
ReplyTaken wrap turns bytes old new replica (Err Refused) =
    (read : Option Shown) × IsNextReading (next_ask (known_by turns)) bytes read × IsRefused (refuses_read (next_ask (known_by turns)) read turns) old new
ReplyTaken wrap turns bytes old new replica (Err NoMemory) = Unit {0}

-- the name under which its subscribe request was granted
pub record NameIsTaken (wrap : ℕ) (turns : List ReplicaTurn) (name : ℕ) (old new : List ℕ) (replica : ReplicaState) : Type 0 where
  pub takes : refuses_reply (Named name) turns ≡ false
  pub stands : StandsFor replica wrap (named script_names (after_reply (Named name) turns))
  pub out : new ≡ old ++ accept_text (Named name)

abbrev pub NameTaken : ℕ → List ReplicaTurn → ℕ → List ℕ → List ℕ → ReplicaState → Result (Unit {0}) TurnError → Type 0
NameTaken wrap turns name old new replica (Ok done) = NameIsTaken wrap turns name old new replica
NameTaken wrap turns name old new replica (Err Refused) = IsRefused (refuses_reply (Named name) turns) old new
NameTaken wrap turns name old new replica (Err NoMemory) = Unit {0}

-- the reply to it
pub record RefusalIsTaken (wrap : ℕ) (turns : List ReplicaTurn) (old new : List ℕ) (replica : ReplicaState) : Type 0 where
  pub stands : StandsFor replica wrap (named script_names (after_reply Refusal turns))
  pub out : new ≡ old ++ accept_text Refusal

abbrev pub HeldTaken : ℕ → List ReplicaTurn → HeldReply → List ℕ → List ℕ → ReplicaState → Result (Unit {0}) TurnError → Type 0
HeldTaken wrap turns NoReply old new replica result = Unit {0}
HeldTaken wrap turns (Named name) old new replica result = NameTaken wrap turns name old new replica result
HeldTaken wrap turns Refusal old new replica (Ok done) = RefusalIsTaken wrap turns old new replica
HeldTaken wrap turns Refusal old new replica (Err Refused) = ⊥
HeldTaken wrap turns Refusal old new replica (Err NoMemory) = Unit {0}

-- the note of a number
pub record NoteIsTaken (wrap : ℕ) (turns : List ReplicaTurn) (number : ℕ) (note : Note) (old new : List ℕ) (replica : ReplicaState) : Type 0 where
  pub takes : refuses_note wrap (Some note) turns ≡ false
  pub stands : StandsFor replica wrap (named script_names (after_note (reaching wrap turns (Some note)) turns))
  pub out : new ≡ old ++ deliver_text wrap number (Some note) turns

abbrev pub NoteTaken : ℕ → List ReplicaTurn → ℕ → Note → List ℕ → List ℕ → ReplicaState → Result (Unit {0}) TurnError → Type 0
NoteTaken wrap turns number note old new replica (Ok done) = NoteIsTaken wrap turns number note old new replica
NoteTaken wrap turns number note old new replica (Err Refused) = IsRefused (refuses_note wrap (Some note) turns) old new
NoteTaken wrap turns number note old new replica (Err NoMemory) = Unit {0}

-- what the turn was that found something
abbrev pub last_found : Found → Last
last_found (FolderFound path) = Other
last_found (TrackFound file) = OfTrack

-- a session with one more thing found, and with a comment put to the last one
abbrev pub with_found : Playing → Found → Playing
with_found playing one = record playing { found = playing.found ++ one ∷ []; last = last_found one }

abbrev pub with_tag : Playing → Comment → Playing
with_tag playing comment = record playing { found = last_commented comment playing.found; last = OfTrack }

-- and with another server
abbrev pub with_server : Playing → Serving → Playing
with_server playing server = record playing { server = server }

-- whether no turn came but the first number, by what the last turn was; and that number, 0 if none was named
abbrev pub is_beginning : Last → Bool
is_beginning NoTurn = true
is_beginning (OfFirst number) = true
is_beginning OfTrack = false
is_beginning Other = false

abbrev pub first_in : Last → ℕ
first_in NoTurn = 0
first_in (OfFirst number) = number
first_in OfTrack = 0
first_in Other = 0

-- the place near which notes of a name are, if the name is heard; and whether the note of a number, which was sent to a name, is
-- fewer places away from there than the wrap without its reach
abbrev pub near_in : KeptInbox → ℕ → Option ℕ
near_in inbox sid = cond (option_eq nat_eq inbox.accepted (Some sid)) (Some inbox.next) (cond inbox.out (Some 0) None)

abbrev pub is_near_to : ℕ → ℕ → Option ℕ → Bool
is_near_to wrap place None = true
is_near_to wrap place (Some near) = nat_lt (apart place near) (wrap - reach wrap)

abbrev pub is_near_in : Playing → ℕ → ℕ → Bool
is_near_in playing sid number = is_near_to playing.wrap (named_before sid number playing.sent) (near_in playing.replica.inbox sid)

-- what a session may have before one more turn: the numbers of what it found and of its subscriptions can rise, and its moment is
-- one of a script
pub record IsBounded (playing : Playing) : Type 0 where
  pub found : length playing.found + 1 < 2 ^ 32
  pub granted : playing.server.book.subscribed.granted + 1 < 2 ^ 32
  pub moment : playing.clock < moment_limit

-- and after it: each rose by one at most
pub record Grows (old new : Playing) : Type 0 where
  pub found : length new.found ≤ length old.found + 1
  pub granted : new.server.book.subscribed.granted ≤ old.server.book.subscribed.granted + 1
  pub moment : old.clock < moment_limit → new.clock < moment_limit
