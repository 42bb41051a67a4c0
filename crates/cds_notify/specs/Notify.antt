-- The request that carries a note (UPnP Device Architecture 2.0 on event messages).
use Rattle.std.specs.Prelude.{ℕ, List, [], ◌∷◌, codes}
use Rattle.std.specs.Fmt.{decimal}
use Rattle.url.specs.Parts.{Parts, text_between}
use Rattle.url.specs.declared.slicing.Position.TheVariants.{BeforeHost, AfterPort, BeforePath, AfterQuery}
use Rattle.cds_http.specs.declared.fields.Field.{Field}
use Rattle.cds_http.specs.Written.{written_request}
use Rattle.cds_gena.specs.SidText.{sid_text}
use Rattle.cds_gena.specs.declared.address.Address.{Address}

-- HOST is the host of a URL and, after a colon, its port. A URL has a port only if it is not the port of its scheme.
-- The target is the path and the query.
abbrev pub host_of : Parts → List ℕ
host_of url = text_between url BeforeHost AfterPort

abbrev pub target_of : Parts → List ℕ
target_of url = text_between url BeforePath AfterQuery

-- a field
abbrev pub field : List ℕ → List ℕ → Field
field name value = record { name = name; value = value }

-- the given fields, in order, of a note to a host with the name of a subscription and a SEQ
abbrev pub note_fields : List ℕ → ℕ → ℕ → List Field
note_fields host name seq =
    field (codes "HOST") host
    ∷ field (codes "CONTENT-TYPE") (codes "text/xml; charset=\"utf-8\"")
    ∷ field (codes "NT") (codes "upnp:event")
    ∷ field (codes "NTS") (codes "upnp:propchange")
    ∷ field (codes "SID") (sid_text name)
    ∷ field (codes "SEQ") (decimal seq)
    ∷ []

-- the whole request, delivered at a URL
abbrev pub notify_text : Parts → Address → List ℕ → List ℕ
notify_text url to body = written_request (codes "NOTIFY") (target_of url) (note_fields (host_of url) to.sid.0 to.seq) body
