-- Requests about subscriptions as a control point writes them, and the fields of the reply to one that is granted (UPnP
-- Device Architecture 2.0 on SUBSCRIBE and UNSUBSCRIBE). The requested number of seconds is this project's profile.
use Rattle.std.specs.Prelude.{ℕ, List, [], ◌∷◌, ◌++◌, codes}
use Rattle.std.specs.Fmt.{decimal}
use Rattle.url.specs.Parts.{Parts, serialize, text_between}
use Rattle.url.specs.declared.slicing.Position.TheVariants.{BeforeHost, AfterPort, BeforePath, AfterQuery}
use Rattle.cds_http.specs.declared.fields.Field.{Field}
use Rattle.cds_http.specs.Written.{written_request}
use Rattle.cds_gena.specs.SidText.{sid_text}

-- HOST is the host of an address and, after a colon, its port. A URL has a port only if it is not the port of its
-- scheme. The target is the path and the query.
abbrev pub host_of : Parts → List ℕ
host_of url = text_between url BeforeHost AfterPort

abbrev pub target_of : Parts → List ℕ
target_of url = text_between url BeforePath AfterQuery

-- CALLBACK is the address between `<` and `>`
abbrev pub callback_text : Parts → List ℕ
callback_text callback = codes "<" ++ serialize callback ++ codes ">"

-- TIMEOUT names this many seconds
abbrev pub timeout_text : ℕ → List ℕ
timeout_text seconds = codes "Second-" ++ decimal seconds

-- a field
abbrev pub field : List ℕ → List ℕ → Field
field name value = record { name = name; value = value }

-- the given fields, in order: of a new subscription whose notes go to a callback, of a renewal, and of an end
abbrev pub subscribe_fields : Parts → Parts → List Field
subscribe_fields url callback =
    field (codes "HOST") (host_of url)
    ∷ field (codes "CALLBACK") (callback_text callback)
    ∷ field (codes "NT") (codes "upnp:event")
    ∷ field (codes "TIMEOUT") (codes "Second-1800")
    ∷ []

abbrev pub renewal_fields : Parts → ℕ → List Field
renewal_fields url name =
    field (codes "HOST") (host_of url) ∷ field (codes "SID") (sid_text name) ∷ field (codes "TIMEOUT") (codes "Second-1800") ∷ []

abbrev pub unsubscribe_fields : Parts → ℕ → List Field
unsubscribe_fields url name = field (codes "HOST") (host_of url) ∷ field (codes "SID") (sid_text name) ∷ []

-- the whole requests to an address, which have no body
abbrev pub subscribe_text : Parts → Parts → List ℕ
subscribe_text url callback = written_request (codes "SUBSCRIBE") (target_of url) (subscribe_fields url callback) []

abbrev pub renewal_text : Parts → ℕ → List ℕ
renewal_text url name = written_request (codes "SUBSCRIBE") (target_of url) (renewal_fields url name) []

abbrev pub unsubscribe_text : Parts → ℕ → List ℕ
unsubscribe_text url name = written_request (codes "UNSUBSCRIBE") (target_of url) (unsubscribe_fields url name) []

-- the given fields of the reply to a subscription or a renewal: its name, and the number of seconds
abbrev pub lease_fields : ℕ → ℕ → List Field
lease_fields name seconds = field (codes "SID") (sid_text name) ∷ field (codes "TIMEOUT") (timeout_text seconds) ∷ []
