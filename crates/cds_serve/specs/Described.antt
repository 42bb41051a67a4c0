-- The answers that need no turn (UPnP Device Architecture 2.0 on description; RFC 9110 on the statuses 400, 404, 405 and 413).
use Rattle.std.specs.Prelude.{ℕ, List, [], ◌∷◌, ◌++◌, codes}
use Rattle.std.specs.Fmt.{decimal}
use Rattle.cds_http.specs.declared.fields.Field.{Field}
use Rattle.cds_http.specs.Written.{written_reply}
use Rattle.cds_control.specs.Replies.{empty_reply}
use Rattle.cds_ssdp.specs.Description.{device_text, service_text}
use Rattle.cds_ssdp.specs.declared.device.Device.{Device}
use Rattle.cds_serve.specs.declared.target.Document.{Document}
use Rattle.cds_serve.specs.declared.target.Document.TheVariants as described
use Rattle.cds_serve.specs.declared.target.FreeAnswer.{FreeAnswer}
use Rattle.cds_serve.specs.declared.target.FreeAnswer.TheVariants.{Status, Document as Describes}

-- the text of a document; it names the device by its UUID
abbrev pub document_text : Device → Document → List ℕ
document_text device described.Device = device_text device.uuid
document_text device described.Service = service_text

-- the only given field of a reply with a document
abbrev pub document_fields : List Field
document_fields = record { name = codes "CONTENT-TYPE"; value = codes "text/xml; charset=\"utf-8\"" } ∷ []

abbrev pub document_reply : Device → Document → List ℕ
document_reply device document = written_reply 200 document_fields (document_text device document)

-- the reply that an answer without a turn is
abbrev pub free_reply : Device → FreeAnswer → List ℕ
free_reply device (Status status) = empty_reply status
free_reply device (Describes document) = document_reply device document

-- the address of the description of a server at a port, as the server's own machine knows it
abbrev pub own_location : ℕ → List ℕ
own_location port = codes "http://127.0.0.1:" ++ decimal port ++ codes "/device.xml"

-- the device that a server at a port is
abbrev pub own_device : ℕ → List ℕ → Device
own_device port uuid = record { uuid = uuid; location = own_location port; boot = 1 }
