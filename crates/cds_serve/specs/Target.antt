-- Where the messages of a connection go, by their first line (UPnP Device Architecture 2.0 on description). The names of the
-- targets are this project's profile. So is that a target is compared whole, with a `?` and all that follows it.
use Rattle.std.specs.Prelude.{◌^◌, ℕ, List, codes, bytes_eq, drop, nat_eq, Option, Some, None, if◌then◌else◌}
use Rattle.std.specs.List.{starts_with}
use Rattle.cds_base.specs.Number.{plain_below}
use Rattle.cds_http.specs.declared.message.Start.{Start}
use Rattle.cds_http.specs.declared.message.Start.TheVariants as line
use Rattle.cds_server.specs.Route.{request_status}
use Rattle.cds_serve.specs.declared.target.Document.{Document}
use Rattle.cds_serve.specs.declared.target.Document.TheVariants.{Device, Service}
use Rattle.cds_serve.specs.declared.target.FreeAnswer.{FreeAnswer}
use Rattle.cds_serve.specs.declared.target.FreeAnswer.TheVariants as free
use Rattle.cds_serve.specs.declared.target.Target.{Target}
use Rattle.cds_serve.specs.declared.target.Target.TheVariants as target

-- the document at a target
abbrev pub document_at : List ℕ → Option Document
document_at name =
    if bytes_eq name (codes "/device.xml") then Some Device
    else if bytes_eq name (codes "/cds.xml") then Some Service
    else None

-- The id in a target `/media/ID`. It stands there in plain decimal, without a leading zero.
abbrev pub media_id : List ℕ → Option ℕ
media_id name = if starts_with nat_eq name (codes "/media/") then plain_below (2 ^ 32) (drop 7 name) else None

-- A document is asked for by GET. Another method gets 405.
abbrev pub document_answer : Document → List ℕ → FreeAnswer
document_answer document method = if bytes_eq method (codes "GET") then free.Document document else free.Status 405

-- A message that is refused at the server is answered with its status.
abbrev pub server_or : Option ℕ → Target
server_or None = target.Server
server_or (Some status) = target.Free (free.Status status)

-- where a message goes that names this document, or else this id, or else neither
abbrev pub target_by : Option Document → Option ℕ → List ℕ → Start → Target
target_by (Some document) id method start = target.Free (document_answer document method)
target_by None (Some id) method start = target.File id
target_by None None method start = server_or (request_status start)

-- where a message with this first line goes; a message that is no request is a bad one
abbrev pub target_of : Start → Target
target_of (line.Request method name) = target_by (document_at name) (media_id name) method (line.Request method name)
target_of (line.Reply status) = target.Free (free.Status 400)

-- the answer without a turn, and the id of the file that is asked for
abbrev pub free_of : Target → Option FreeAnswer
free_of target.Server = None
free_of (target.File id) = None
free_of (target.Free answer) = Some answer

abbrev pub file_of : Target → Option ℕ
file_of target.Server = None
file_of (target.File id) = Some id
file_of (target.Free answer) = None
