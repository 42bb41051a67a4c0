-- How a request for a file is answered, by the file that the server names (RFC 9110 on range requests and on the statuses 200, 206,
-- 404, 405 and 416). The order of the refusals is this project's profile.
use Rattle.std.specs.Prelude.{◌≡◌, ◌≤◌, ◌⊎◌, ◌||◌, ℕ, Bool, false, List, [], ◌++◌, codes, bytes_eq, take, drop, Option, Some, None, Result, IsErr, IsOk, if◌then◌else◌}
use Rattle.cds_base.specs.declared.mem.Mem.{Mem}
use Rattle.cds_outside.specs.Entries.{Contents, FolderTold, and_path}
use Rattle.cds_outside.specs.Outside.{HoldsPart, Rose, SinkTold, Told, raised}
use Rattle.cds_http.specs.declared.message.Message.{Message}
use Rattle.cds_http.specs.declared.message.Start.{Start}
use Rattle.cds_http.specs.declared.message.Start.TheVariants as line
use Rattle.cds_media.specs.Heads.{head_text}
use Rattle.cds_media.specs.Plans.{count_of, is_get, plan_of, slice_of}
use Rattle.cds_media.specs.declared.slice.Plan.{Plan}
use Rattle.cds_media.specs.declared.slice.Plan.TheVariants.{Whole, Part, None as Nothing}
use Rattle.cds_server.specs.Media.{path_text}
use Rattle.cds_control.specs.Replies.{empty_reply, fault_reply}
use Rattle.cds_server.specs.declared.media.Media.{Media}
use Rattle.cds_serve.specs.Told.{Writes}
use Rattle.cds_serve.specs.declared.fetching.Fate.{Fate}
use Rattle.cds_serve.specs.declared.fetching.Fate.TheVariants.{Starved, Refused, Unopened, Sent}

-- ---- what is decided before a file is opened

-- The answer to a request for a file:
-- - `Bare`: this status without a body;
-- - `Beyond`: no range of a file of this size;
-- - `Opens`: the file is opened, and this is planned of it
pub data FileAnswer : Type 0 where
  Bare : ℕ → FileAnswer
  Beyond : ℕ → FileAnswer
  Opens : Media → Plan → FileAnswer

-- GET and HEAD ask for files.
abbrev pub takes_file : Start → Bool
takes_file (line.Request method name) = bytes_eq method (codes "GET") || bytes_eq method (codes "HEAD")
takes_file (line.Reply status) = false

abbrev pub answer_by : Media → Plan → FileAnswer
answer_by media Whole = Opens media Whole
answer_by media (Part from to) = Opens media (Part from to)
answer_by media Nothing = Beyond media.size

-- First the id has to name a track, then the method has to be GET or HEAD, and then the range has to lie in the file.
abbrev pub answer_for : Option Media → Message → FileAnswer
answer_for None m = Bare 404
answer_for (Some media) m = if takes_file m.start then answer_by media (plan_of media.size m) else Bare 405

-- ---- what is written

-- The bytes that follow the head, of a file that holds these: the planned ones for GET, and none for HEAD.
abbrev pub body_of : Message → ℕ → Plan → List ℕ → List ℕ
body_of m size plan bytes = if is_get m.start then slice_of size plan bytes else []

abbrev pub IsBody : Message → ℕ → Plan → Option (List ℕ) → List ℕ → Type 0
IsBody m size plan None body = ⊥
IsBody m size plan (Some bytes) body = body ≡ body_of m size plan bytes

-- A head, and then the bytes of the file that a folder has, if the folder tells its files.
abbrev pub IsSent : Message → Media → Plan → Option Contents → List ℕ → Type 0
IsSent m media plan contents text =
    (body : List ℕ) × (text ≡ head_text media.size plan ++ body)
    × Told contents (λ c. IsBody m media.size plan (c (path_text media.path)) body)

-- the text of an answer for which no file is opened
abbrev pub IsRefusal : FileAnswer → List ℕ → Type 0
IsRefusal (Bare status) text = text ≡ empty_reply status
IsRefusal (Beyond size) text = text ≡ head_text size Nothing
IsRefusal (Opens media plan) text = ⊥

-- of an answer for which a file is opened
abbrev pub OnOpens : FileAnswer → (Media → Plan → Type 0) → Type 0
OnOpens (Bare status) P = ⊥
OnOpens (Beyond size) P = ⊥
OnOpens (Opens media plan) P = P media plan

-- The text that is owed by how a request for a file ended:
-- - `Starved`: the constant reply, since memory ran out;
-- - `Refused`: the answer, for which no file is opened;
-- - `Unopened`: 404, since the file could not be opened;
-- - `Sent`: a head, and the planned bytes of the file
abbrev pub IsFetched : Message → FileAnswer → Fate → Option Contents → List ℕ → Type 0
IsFetched m answer Starved contents text = text ≡ fault_reply 603
IsFetched m answer Refused contents text = IsRefusal answer text
IsFetched m answer Unopened contents text = OnOpens answer (λ media plan. text ≡ empty_reply 404)
IsFetched m answer Sent contents text = OnOpens answer (λ media plan. IsSent m media plan contents text)

-- A prefix of a text was appended to what a sink held. It is the whole text, unless the sink's count of faults rose or another
-- cause holds.
abbrev pub WritesUnless : Type 0 → List ℕ → SinkTold → SinkTold → Type 0
WritesUnless Cause text old new =
    Told old.holds (λ held. HoldsPart held text new.holds × ((new.holds ≡ Some (held ++ text)) ⊎ (Rose old.faults new.faults ⊎ Cause)))

-- Of a file that was opened, a prefix may also be written if the folder's count of faults of files rose. This is said of a folder
-- that tells its files.
abbrev pub WritesFile : Fate → FolderTold → FolderTold → List ℕ → SinkTold → SinkTold → Type 0
WritesFile Starved folder after text old new = Writes text old new
WritesFile Refused folder after text old new = Writes text old new
WritesFile Unopened folder after text old new = Writes text old new
WritesFile Sent folder after text old new =
    Told folder.contents (λ c. WritesUnless (Rose folder.file_faults after.file_faults) text old new)

-- ---- what is asked of the folder

-- The folder was asked for the file at this path, once and for no other.
abbrev pub AsksOnce : List ℕ → FolderTold → FolderTold → Type 0
AsksOnce path old new =
    (new
    ≡ record old { opened = new.opened; returned = new.returned; asked = and_path path old.asked; file_faults = new.file_faults })
    × (old.file_faults ≤ new.file_faults)

-- The file was opened and came back.
abbrev pub CameBack : FolderTold → FolderTold → Type 0
CameBack old new = (new.opened ≡ raised old.opened 1) × (new.returned ≡ raised old.returned 1)

-- What a request for a file asked of the folder. If the file could not be opened, the folder's count of faults of files rose.
abbrev pub TouchesFolder : FileAnswer → Fate → FolderTold → FolderTold → Type 0
TouchesFolder answer Starved old new = (new ≡ old) ⊎ OnOpens answer (λ media plan. AsksOnce (path_text media.path) old new)
TouchesFolder answer Refused old new = new ≡ old
TouchesFolder answer Unopened old new =
    OnOpens answer (λ media plan. AsksOnce (path_text media.path) old new) × Rose old.file_faults new.file_faults
TouchesFolder answer Sent old new = OnOpens answer (λ media plan. AsksOnce (path_text media.path) old new) × CameBack old new

-- How many bytes follow the head.
abbrev pub count_for : Bool → ℕ → Plan → ℕ
count_for has_body size plan = if has_body then count_of size plan else 0

-- A head, and then some bytes from a place on of a file that holds these.
abbrev pub WritesFrom : ℕ → ℕ → List ℕ → Option (List ℕ) → Type 0 → SinkTold → SinkTold → Type 0
WritesFrom at count head None Cause old new = ⊥
WritesFrom at count head (Some bytes) Cause old new = WritesUnless Cause (head ++ take count (drop at bytes)) old new

-- A file was opened at a place, and some bytes were sent after a head.
abbrev pub OpensAt : List ℕ → ℕ → ℕ → List ℕ → Fate → FolderTold → FolderTold → SinkTold → SinkTold → Type 0
OpensAt path at count head Starved folder after old new =
    Writes (fault_reply 603) old new × ((after ≡ folder) ⊎ AsksOnce path folder after)
OpensAt path at count head Refused folder after old new = ⊥
OpensAt path at count head Unopened folder after old new =
    Writes (empty_reply 404) old new × AsksOnce path folder after × Rose folder.file_faults after.file_faults
OpensAt path at count head Sent folder after old new =
    Told folder.contents (λ c. WritesFrom at count head (c path) (Rose folder.file_faults after.file_faults) old new)
    × AsksOnce path folder after × CameBack folder after

-- The call answers that memory ran out exactly if it did.
abbrev pub IsEndedBy : {A : Type 0} → Fate → Result A Mem → Type 0
IsEndedBy Starved result = IsErr result
IsEndedBy Refused result = IsOk result
IsEndedBy Unopened result = IsOk result
IsEndedBy Sent result = IsOk result

-- A request for a file was answered.
pub record Fetches (m : Message) (media : Option Media) (fate : Fate) (folder after : FolderTold) (old new : SinkTold) : Type 0 where
  pub text : List ℕ
  pub owed : IsFetched m (answer_for media m) fate folder.contents text
  pub written : WritesFile fate folder after text old new
  pub touched : TouchesFolder (answer_for media m) fate folder after
