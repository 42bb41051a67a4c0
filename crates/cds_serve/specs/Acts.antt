-- The jobs on a shared server, each done in one turn: the commands that a job appends and its answer.
use Rattle.std.specs.Prelude.{◌≡◌, ℕ, List, [], ◌∷◌, Option, Result, Ok, Err, IfSome, IsErr, ⊤}
use Rattle.cds_outside.specs.declared.link.LinkRequest.{LinkRequest}
use Rattle.cds_base.specs.declared.mem.Mem.{Mem}
use Rattle.cds_catalog.specs.Library.{map_of}
use Rattle.cds_catalog.specs.Scans.{Accepted, scan_answer}
use Rattle.cds_commands.specs.Commands.{Command, Start, Scans, Ticks, is_stopped, scans_of}
use Rattle.cds_http.specs.declared.message.Message.{Message}
use Rattle.cds_object.specs.declared.record.Record.{Record}
use Rattle.cds_store.specs.Applied.{IsRefusal}
use Rattle.cds_server.specs.Asking.{Fits, IsAction, command_in, note_in, reply_in, said}
use Rattle.cds_server.specs.Due.{AllGoOut, due}
use Rattle.cds_server.specs.Media.{media_by}
use Rattle.cds_server.specs.Outcome.{GoesOut}
use Rattle.cds_server.specs.Replies.{IsReply, command_at, note_at}
use Rattle.cds_server.specs.declared.made.Answered.{Answered}
use Rattle.cds_server.specs.declared.media.Media.{Media}
use Rattle.cds_server.specs.declared.serving.TakeError.{TakeError}
use Rattle.cds_server.specs.declared.serving.TakeError.TheVariants as take_error
use Rattle.cds_ssdp.specs.declared.device.Device.{Device}
use Rattle.cds_server.specs.declared.asking.Asking.{Asking}
use Rattle.cds_serve.specs.declared.acts.Look.{Look}
use Rattle.cds_serve.specs.declared.acts.Reply.{Reply}
use Rattle.cds_serve.specs.Answered.{no_memory_reply}
use Rattle.cds_serve.specs.Described.{free_reply}
use Rattle.cds_serve.specs.declared.target.FreeAnswer.{FreeAnswer}
use Rattle.cds_serve.specs.Sent.{first_requests}
use Rattle.cds_serve.specs.Served.{added}

-- The server answers what was asked, by the list of commands found: its answer says the reply that is owed, and has the first
-- note that is owed.
abbrev pub answer_adds : Start → List Command → ℕ → Asking → Result Answered Mem → List Command
answer_adds start found now asking (Ok answered) = added (command_in start found now asking)
answer_adds start found now asking (Err memory) = []

abbrev pub IsAnswerGiven : Start → List Command → ℕ → Asking → Result Answered Mem → Type 0
IsAnswerGiven start found now asking (Ok answered) =
    (said asking answered.made ≡ reply_in start found now asking) × (answered.note ≡ note_in start found now asking)
    × Fits asking answered.made × GoesOut answered.note
IsAnswerGiven start found now asking (Err memory) = ⊤

-- The answer is written, or there was no memory for it. What is made of a subscription is always written.
abbrev pub IsWritten : Asking → Result Answered Mem → Result Reply Mem → Type 0
IsWritten asking (Ok answered) (Ok reply) = (reply.text ≡ said asking answered.made) × (reply.note ≡ answered.note)
IsWritten asking (Ok answered) (Err memory) = IsAction asking
IsWritten asking (Err memory) reply = IsErr reply

-- The message was handled: its reply and its first note, by the list of commands found.
abbrev pub reply_adds : Start → List Command → ℕ → Message → Result Reply Mem → List Command
reply_adds start found now m (Ok reply) = added (command_at start found now m)
reply_adds start found now m (Err memory) = []

abbrev pub IsReplyGiven : Start → List Command → ℕ → Message → Result Reply Mem → Type 0
IsReplyGiven start found now m (Ok reply) =
    IsReply start found now m reply.text × (reply.note ≡ note_at start found now m) × GoesOut reply.note
IsReplyGiven start found now m (Err memory) = ⊤

-- the text that is written for this answer and the requests that are sent
abbrev pub reply_text : Result Reply Mem → List ℕ
reply_text (Ok reply) = reply.text
reply_text (Err memory) = no_memory_reply

abbrev pub reply_requests : Result Reply Mem → List LinkRequest
reply_requests (Ok reply) = first_requests reply.note
reply_requests (Err memory) = []

-- the text that is written if no turn is taken
abbrev pub free_text : {A : Type 0} → Device → FreeAnswer → Result A Mem → List ℕ
free_text device answer (Ok value) = free_reply device answer
free_text device answer (Err memory) = no_memory_reply

-- The server names the file of the track with an id, by the list of commands found.
abbrev pub IsFileNamed : Start → List Command → ℕ → Result (Option Media) Mem → Type 0
IsFileNamed start found id (Ok media) = media ≡ media_by start found id
IsFileNamed start found id (Err memory) = ⊤

-- a tick: the notes that are due, and whether the server was stopped
abbrev pub look_adds : ℕ → Result Look Mem → List Command
look_adds now (Ok look) = Ticks now ∷ []
look_adds now (Err memory) = []

abbrev pub IsLook : Start → List Command → ℕ → Result Look Mem → Type 0
IsLook start found now (Ok look) = (look.notes ≡ due start found now) × (look.stopped ≡ is_stopped found) × IfSome look.notes AllGoOut
IsLook start found now (Err memory) = ⊤

-- The server accepts the records of a scan, or refuses them as the store does. Or it is closed, as it can be with the list of
-- commands found, or memory ran out.
abbrev pub scan_adds : {A : Type 0} → List Record → Result A TakeError → List Command
scan_adds records (Ok value) = Scans (map_of records) ∷ []
scan_adds records (Err refusal) = []

abbrev pub IsScanAnswer : {A : Type 0} → (List Command → Type 0) → Start → List Command → List Record → Result A TakeError → Type 0
IsScanAnswer Closes start found records (Ok value) = scan_answer (scans_of start.first found) records ≡ Accepted
IsScanAnswer Closes start found records (Err (take_error.Apply refusal)) = IsRefusal (scans_of start.first found) records refusal
IsScanAnswer Closes start found records (Err take_error.Keeper) = Closes found
IsScanAnswer Closes start found records (Err take_error.Mem) = ⊤
