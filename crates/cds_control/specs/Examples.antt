-- Actions and their answers over a small library, evaluated from the definitions.
use Rattle.std.specs.Prelude.{◌≡◌, ℕ, List, [], ◌∷◌, ◌++◌, codes, length}
use Rattle.cds_catalog.specs.Catalog.{catalog}
use Rattle.cds_catalog.specs.Examples.{one_folder}
use Rattle.cds_catalog.specs.History.{History, with_scan}
use Rattle.cds_soap.specs.declared.action.Action.TheVariants as action
use Rattle.cds_soap.specs.declared.answer.Answer.{Answer}
use Rattle.cds_soap.specs.declared.answer.Answer.TheVariants as answer
use Rattle.cds_control.specs.Published.{Published}
use Rattle.cds_control.specs.Capabilities.{search_capabilities, sort_capabilities}
use Rattle.cds_control.specs.Answering.{answer_to}

-- one scan of a folder with a track
abbrev scanned : History
scanned = with_scan (record { first = 0; maps = [] }) one_folder

abbrev small : Published
small = record { token = codes "t"; number = 2; rows = catalog scanned }

abbrev asked : List ℕ → List ℕ → ℕ → ℕ → List ℕ → Answer
asked object flag start count sort = answer_to small (codes "h") (action.Browse (record {
  object = object;
  flag = flag;
  filter = codes "res";
  start = start;
  count = count;
  sort = sort;
}))

abbrev sought : List ℕ → List ℕ → ℕ → ℕ → List ℕ → Answer
sought container criteria start count sort = answer_to small (codes "h") (action.Search (record {
  container = container;
  criteria = criteria;
  filter = codes "res";
  start = start;
  count = count;
  sort = sort;
}))

-- the number of rows of a page, how many match, and the update number
abbrev numbers : Answer → List ℕ
numbers (answer.Page result returned total update) = returned ∷ total ∷ update ∷ []
numbers (answer.Number number) = number ∷ []
numbers (answer.Text text) = length text ∷ []
numbers (answer.Fault code) = code ∷ []

abbrev children : List ℕ
children = codes "BrowseDirectChildren"

abbrev itself : List ℕ
itself = codes "BrowseMetadata"

-- the document of that track, with the URL of its bytes if the tracks are at `h`
abbrev pub track_document : List ℕ
track_document =
    codes "<DIDL-Lite xmlns=\"urn:schemas-upnp-org:metadata-1-0/DIDL-Lite/\""
    ++ codes " xmlns:dc=\"http://purl.org/dc/elements/1.1/\" xmlns:upnp=\"urn:schemas-upnp-org:metadata-1-0/upnp/\">"
    ++ codes "<item id=\"2\" parentID=\"1\" restricted=\"1\"><dc:title>t</dc:title><upnp:class>object.item.audioItem.musicTrack</upnp:class>"
    ++ codes "<res protocolInfo=\"http-get:*:audio/flac:*\" size=\"1\" bitsPerSample=\"8\" nrAudioChannels=\"1\">http://h/media/2</res>"
    ++ codes "</item></DIDL-Lite>"

abbrev pub ActionsAreAnswered : Type 0
ActionsAreAnswered =
    (asked (codes "2") itself 0 0 [] ≡ answer.Page track_document 1 1 2)
    × (numbers (asked (codes "0") children 5 0 []) ≡ 0 ∷ 1 ∷ 2 ∷ [])
    × (numbers (asked (codes "0") children 0 0 []) ≡ 1 ∷ 1 ∷ 2 ∷ [])
    × (asked (codes "0") (codes "Browse") 0 0 [] ≡ answer.Fault 402)
    × (asked (codes "0") itself 1 0 [] ≡ answer.Fault 402)
    × (asked (codes "x") itself 0 0 [] ≡ answer.Fault 701)
    × (asked (codes "01") itself 0 0 [] ≡ answer.Fault 701)
    × (asked (codes "2") children 0 0 [] ≡ answer.Fault 710)
    × (asked (codes "0") children 0 0 (codes "dc:title") ≡ answer.Fault 709)
    × (numbers (asked (codes "0") children 0 0 (codes "-dc:title")) ≡ 1 ∷ 1 ∷ 2 ∷ [])
    × (sought (codes "0") (codes "upnp:class derivedfrom \"object.item\" and dc:title contains \"T\"") 0 0 [] ≡ answer.Page track_document 1 1 2)
    × (numbers (sought (codes "0") (codes "*") 0 0 []) ≡ 2 ∷ 2 ∷ 2 ∷ [])
    × (numbers (sought (codes "0") (codes "*") 1 1 (codes "+dc:title")) ≡ 1 ∷ 2 ∷ 2 ∷ [])
    × (numbers (sought (codes "1") (codes "*") 0 0 []) ≡ 1 ∷ 1 ∷ 2 ∷ [])
    × (sought (codes "9") (codes "dc:title = t") 0 0 [] ≡ answer.Fault 710)
    × (sought (codes "2") (codes "*") 0 0 [] ≡ answer.Fault 710)
    × (sought (codes "0") (codes "dc:title = t") 0 0 (codes "dc:title") ≡ answer.Fault 708)
    × (sought (codes "0") [] 0 0 [] ≡ answer.Fault 708)
    × (sought (codes "0") (codes "*") 0 0 (codes "dc:title") ≡ answer.Fault 709)
    × (answer_to small (codes "h") action.GetSystemUpdateId ≡ answer.Number 2)
    × (answer_to small (codes "h") action.GetServiceResetToken ≡ answer.Text (codes "t"))

abbrev pub CapabilitiesAreTold : Type 0
CapabilitiesAreTold =
    (answer_to small (codes "h") action.GetSearchCapabilities ≡ answer.Text search_capabilities)
    × (answer_to small (codes "h") action.GetSortCapabilities ≡ answer.Text sort_capabilities)
    × (search_capabilities
    ≡ codes "@id,@parentID,dc:title,upnp:class,upnp:artist,upnp:album,upnp:genre,upnp:originalTrackNumber,"
    ++ codes "upnp:objectUpdateID,upnp:containerUpdateID,res@size,res@duration")
    × (sort_capabilities ≡ codes "dc:title,upnp:artist,upnp:album,upnp:genre,upnp:originalTrackNumber,upnp:objectUpdateID")
