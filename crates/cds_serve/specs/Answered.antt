-- What a connection is answered, by its bytes. RFC 9110 gives the statuses 400, 404, 405 and 413. UPnP Device Architecture 2.0
-- gives the URLs of control and of eventing.
use Rattle.std.specs.Prelude.{◌≡◌, ◌≤◌, ℕ, true, false, List, [], ◌++◌, length, Option, Some, None, IsSome, Result, IsErr, IsOk, ⊤}
use Rattle.cds_base.specs.declared.mem.Mem.{Mem as Memory}
use Rattle.cds_outside.specs.declared.link.LinkRequest.{LinkRequest}
use Rattle.cds_outside.specs.Entries.{Contents, FolderTold}
use Rattle.cds_outside.specs.Outside.{Rose, SinkTold, Told}
use Rattle.cds_outside.specs.Links.{LinkTold}
use Rattle.cds_http.specs.declared.error.HttpError.{HttpError}
use Rattle.cds_http.specs.declared.error.HttpError.TheVariants.{BadHead, HeadTooLong, BadLength, BadChunk, TooLong, Truncated, Failed, Mem}
use Rattle.cds_http.specs.declared.message.Message.{Message}
use Rattle.cds_http.specs.declared.message.Side.TheVariants as side
use Rattle.cds_http.specs.Decided.{Decides}
use Rattle.cds_http.specs.Known.{Known, Whole, Needs, Refused}
use Rattle.cds_commands.specs.Commands.{Command, Start}
use Rattle.cds_turn.specs.Line.{Extends}
use Rattle.cds_control.specs.Replies.{fault_reply}
use Rattle.cds_server.specs.Replies.{IsReply, command_at, note_at}
use Rattle.cds_server.specs.Media.{media_by}
use Rattle.cds_ssdp.specs.declared.device.Device.{Device}
use Rattle.cds_serve.specs.declared.fetching.Fate.{Fate}
use Rattle.cds_serve.specs.declared.target.FreeAnswer.{FreeAnswer}
use Rattle.cds_serve.specs.declared.target.FreeAnswer.TheVariants.{Status}
use Rattle.cds_serve.specs.Described.{free_reply}
use Rattle.cds_serve.specs.Fetched.{FileAnswer, IsEndedBy, IsFetched, TouchesFolder, WritesFile, answer_for}
use Rattle.cds_serve.specs.Sent.{GivesAll, first_requests}
use Rattle.cds_serve.specs.Served.{added}
use Rattle.cds_serve.specs.Target.{file_of, free_of, target_of}
use Rattle.cds_outside.specs.Told.{ClockTold, ConnTold}
use Rattle.cds_turn.specs.Turn.{SeatTold, after_turn}
use Rattle.cds_serve.specs.Told.{IsAlone, IsMoment, Writes}

-- ---- answers that need no server

-- the status of a refused message: 413 if it is too long, 400 for any other cause
abbrev pub refusal_status : HttpError → ℕ
refusal_status TooLong = 413
refusal_status BadHead = 400
refusal_status HeadTooLong = 400
refusal_status BadLength = 400
refusal_status BadChunk = 400
refusal_status Truncated = 400
refusal_status Failed = 400
refusal_status Mem = 400

-- The answer that bytes get without a turn. Bytes that end before their message does are refused as cut off.
abbrev pub free_answer : Known Message → Option FreeAnswer
free_answer (Whole m rest) = free_of (target_of m.start)
free_answer Needs = Some (Status 400)
free_answer (Refused cause) = Some (Status (refusal_status cause))

-- The bytes begin with the message, and the message needs a turn.
abbrev pub NeedsTurn : Message → Known Message → Type 0
NeedsTurn m known = (free_answer known ≡ None) × ((rest : List ℕ) × (known ≡ Whole m rest))

-- the id of the track whose file a message asks for, if it asks for one
abbrev pub file_asked : Message → Option ℕ
file_asked m = file_of (target_of m.start)

-- the constant reply if memory runs out
abbrev pub no_memory_reply : List ℕ
no_memory_reply = fault_reply 603

-- ---- how one connection is served

-- The ways in which a connection is served:
-- - `Broken`: the connection failed, so its bytes did not come.
-- - `Starved`: no memory was left to read the bytes or to answer them.
-- - `Free`: the bytes got this answer without a turn.
-- - `Handled`: in one turn the server stood for this list of commands and handled the message.
-- - `Unhandled`: in one turn the server stood for this list of commands, and had no memory to handle the message.
-- - `Fetched`: in one turn the server stood for this list of commands and named the file of the track with this id. Outside the turn
--   the request for it ended so.
pub data Course : Type 0 where
  Broken : Course
  Starved : Course
  Free : FreeAnswer → Course
  Handled : List Command → Message → Course
  Unhandled : List Command → Message → Course
  Fetched : List Command → Message → ℕ → Fate → Course

-- The course fits what the bytes say. A connection may fail and memory may run out, whatever the bytes say.
abbrev pub IsCourseFor : Known Message → Course → Type 0
IsCourseFor known Broken = ⊤
IsCourseFor known Starved = ⊤
IsCourseFor known (Free answer) = free_answer known ≡ Some answer
IsCourseFor known (Handled found m) = NeedsTurn m known × (file_asked m ≡ None)
IsCourseFor known (Unhandled found m) = NeedsTurn m known
IsCourseFor known (Fetched found m id fate) = NeedsTurn m known × (file_asked m ≡ Some id)

-- the largest number of bytes in the last piece
abbrev pub piece_limit : ℕ
piece_limit = 8192

-- The bytes are `came`, then the last piece, then `rest`, and `rest` is left. The bytes in `came` decide nothing yet: they are
-- neither a whole message nor a refusal. The last piece is within the limit, and `IsLast` holds of it.
pub record ReadsFrom (bytes : List ℕ) (left : Option (List ℕ)) (IsLast : List ℕ → Type 0) : Type 0 where
  pub came : List ℕ
  pub piece : List ℕ
  pub rest : List ℕ
  pub all : bytes ≡ came ++ piece ++ rest
  pub told : left ≡ Some rest
  pub needed : Decides false side.Request came Needs
  pub short : length piece ≤ piece_limit
  pub last : IsLast piece

-- A connection that failed has no last piece. All that came of it did not yet decide the message.
abbrev pub IsLastOf : Course → List ℕ → Type 0
IsLastOf Broken piece = piece ≡ []
IsLastOf Starved piece = ⊤
IsLastOf (Free answer) piece = ⊤
IsLastOf (Handled found m) piece = ⊤
IsLastOf (Unhandled found m) piece = ⊤
IsLastOf (Fetched found m id fate) piece = ⊤

-- A connection that failed counted a fault. The answer is `Mem` if the constant reply is owed. Otherwise it is `Mem` only if a
-- first note is owed.
abbrev pub HasCause : {A : Type 0} → Start → ℕ → Result A Memory → ConnTold → ConnTold → Course → Type 0
HasCause start now result old new Broken = Rose old.source.faults new.source.faults × IsOk result
HasCause start now result old new Starved = IsErr result
HasCause start now result old new (Free answer) = IsOk result
HasCause start now result old new (Handled found m) = IsErr result → IsSome (note_at start found now m)
HasCause start now result old new (Unhandled found m) = IsErr result
HasCause start now result old new (Fetched found m id fate) = IsEndedBy fate result

-- The turn that was taken. The list found begins with all that the seat had seen, and equals it if no other seat is out. The
-- commands of the message are appended to it, or nothing if memory ran out. The result is what the seat has then seen.
abbrev pub TakesTurn : Start → ℕ → Course → SeatTold Command → SeatTold Command → Type 0
TakesTurn start now Broken old new = new ≡ old
TakesTurn start now Starved old new = new ≡ old
TakesTurn start now (Free answer) old new = new ≡ old
TakesTurn start now (Handled found m) old new =
    Extends found old.seen × IsAlone old found × (new ≡ after_turn old found (added (command_at start found now m)))
TakesTurn start now (Unhandled found m) old new = Extends found old.seen × IsAlone old found × (new ≡ after_turn old found [])
TakesTurn start now (Fetched found m id fate) old new = Extends found old.seen × IsAlone old found × (new ≡ after_turn old found [])

-- A turn asks the clock once. Without a turn the clock is not asked.
abbrev pub AsksClock : Course → ClockTold → ClockTold → ℕ → ℕ → Type 0
AsksClock (Handled found m) old new before now = IsMoment old new before now
AsksClock (Unhandled found m) old new before now = IsMoment old new before now
AsksClock (Fetched found m id fate) old new before now = IsMoment old new before now
AsksClock course old new before now = (now ≡ before) × (new ≡ old)

-- The file that a request asks for, by the list of commands found, and the answer to the request.
abbrev pub file_answer : Start → List Command → Message → ℕ → FileAnswer
file_answer start found m id = answer_for (media_by start found id) m

-- the text that is owed, by what the files of a folder hold
abbrev pub IsOwed : Start → Device → ℕ → Option Contents → Course → List ℕ → Type 0
IsOwed start device now contents Broken text = text ≡ []
IsOwed start device now contents Starved text = text ≡ no_memory_reply
IsOwed start device now contents (Free answer) text = text ≡ free_reply device answer
IsOwed start device now contents (Handled found m) text = IsReply start found now m text
IsOwed start device now contents (Unhandled found m) text = text ≡ no_memory_reply
IsOwed start device now contents (Fetched found m id fate) text = IsFetched m (file_answer start found m id) fate contents text

-- What was written of the text. Of a file that was opened, a fault of the file may be a cause too.
abbrev pub WritesBy : Course → FolderTold → FolderTold → List ℕ → SinkTold → SinkTold → Type 0
WritesBy (Fetched found m id fate) folder after text old new = WritesFile fate folder after text old new
WritesBy course folder after text old new = Writes text old new

-- What was asked of the folder: the one file that a request asks for, and nothing else.
abbrev pub AsksFolder : Start → Course → FolderTold → FolderTold → Type 0
AsksFolder start (Fetched found m id fate) old new = TouchesFolder (file_answer start found m id) fate old new
AsksFolder start course old new = new ≡ old

-- the requests that are owed to a link: the first note of a subscription that was accepted
abbrev pub owed_requests : Start → ℕ → Course → List LinkRequest
owed_requests start now (Handled found m) = first_requests (note_at start found now m)
owed_requests start now course = []

-- a seat, a connection, a clock, a link and a folder, before or after a call
pub record Around : Type 0 where
  pub seat : SeatTold Command
  pub conn : ConnTold
  pub clock : ClockTold
  pub link : LinkTold
  pub folder : FolderTold

-- One connection was served, from the moment `before` to the moment `now`.
pub record Serves {A : Type 0} (start : Start) (device : Device) (result : Result A Memory) (before now : ℕ) (old new : Around) : Type 0 where
  pub course : Course
  pub for_bytes : Told old.conn.source.left (λ bytes. (known : Known Message) → Decides true side.Request bytes known → IsCourseFor known course)
  pub read : Told old.conn.source.left (λ bytes. ReadsFrom bytes new.conn.source.left (IsLastOf course))
  pub cause : HasCause start now result old.conn new.conn course
  pub turn : TakesTurn start now course old.seat new.seat
  pub moment : AsksClock course old.clock new.clock before now
  pub text : List ℕ
  pub owed : IsOwed start device now old.folder.contents course text
  pub written : WritesBy course old.folder new.folder text old.conn.sink new.conn.sink
  pub folder : AsksFolder start course old.folder new.folder
  pub notes : GivesAll result (owed_requests start now course) old.link.requests new.link.requests
