-- The text of a row with the properties that a filter lets through, and a document of such texts (UPnP
-- ContentDirectory:4 on DIDL-Lite and on the filter). With everything and an empty base it is the text of the report.
use Rattle.std.specs.Prelude.{◌≡◌, ◌≤◌, ◌++◌, ℕ, Bool, true, false, Option, Some, None, List, [], codes, length, IfSome}
use Rattle.std.specs.List.{flat_map}
use Rattle.std.specs.Fmt.{decimal}
use Rattle.cds_base.specs.Escape.{escaped}
use Rattle.cds_object.specs.Writing.{number_attribute, text_element, number_element}
use Rattle.cds_object.specs.declared.content.Content.{Content}
use Rattle.cds_object.specs.declared.content.TrackContent.{TrackContent}
use Rattle.cds_object.specs.declared.content.Content.TheVariants.{Folder, Track}
use Rattle.cds_object.specs.declared.row.Trackers.{Trackers}
use Rattle.cds_object.specs.Object.{ObjectRow}
use Rattle.cds_object.specs.Fragment.{if_there, object_attributes, duration_attribute, rate_attribute, item_front, fragment}
use Rattle.cds_didl.specs.Filter.{is_known, filter_of, all_named, wants, wants_either, wants_of_resource, wants_resource}

-- what a filter lets through: everything, or what these names say
abbrev pub Wanted : Type 0
Wanted = Option (List (List ℕ))

-- a piece, if it is wanted
abbrev pub where_wanted : Bool → List ℕ → List ℕ
where_wanted true piece = piece
where_wanted false piece = []

-- an element of a number, and of a text or a number that may be missing, if its name is wanted
abbrev pub number_wanted : Wanted → List ℕ → ℕ → List ℕ
number_wanted f name number = where_wanted (wants f name) (number_element name number)

abbrev pub text_wanted : Wanted → List ℕ → Option (List ℕ) → List ℕ
text_wanted f name text = where_wanted (wants f name) (if_there (text_element name) text)

abbrev pub number_there : Wanted → List ℕ → Option ℕ → List ℕ
number_there f name number = where_wanted (wants f name) (if_there (number_element name) number)

-- a container's element
abbrev pub searchable_wanted : Wanted → List ℕ
searchable_wanted f = where_wanted (wants_either f (codes "@searchable") (codes "container@searchable")) (codes " searchable=\"1\"")

abbrev pub child_count_wanted : Wanted → ℕ → List ℕ
child_count_wanted f children =
    where_wanted (wants_either f (codes "@childCount") (codes "container@childCount")) (number_attribute (codes "childCount") children)

unfoldable pub container_attributes : Wanted → ObjectRow → ℕ → List ℕ
container_attributes f row children = object_attributes row ++ searchable_wanted f ++ child_count_wanted f children

unfoldable pub container_start : Wanted → ObjectRow → List ℕ → ℕ → List ℕ
container_start f row title children =
    codes "<container" ++ container_attributes f row children ++ codes ">" ++ text_element (codes "dc:title") title
    ++ codes "<upnp:class>object.container</upnp:class>"

unfoldable pub trackers_wanted : Wanted → ℕ → Trackers → List ℕ
trackers_wanted f update trackers =
    number_wanted f (codes "upnp:objectUpdateID") update
    ++ number_wanted f (codes "upnp:containerUpdateID") trackers.container_update
    ++ number_wanted f (codes "upnp:totalDeletedChildCount") trackers.deleted

unfoldable pub container_wanted : Wanted → ObjectRow → List ℕ → Trackers → List ℕ
container_wanted f row title trackers =
    container_start f row title trackers.child_count ++ trackers_wanted f row.object_update trackers ++ codes "</container>"

-- an item's resource. The base is escaped, since it may be any text
abbrev pub duration_wanted : Wanted → Option ℕ → List ℕ
duration_wanted f duration = where_wanted (wants_of_resource f (codes "res@duration")) (if_there duration_attribute duration)

abbrev pub rate_wanted : Wanted → ℕ → List ℕ
rate_wanted f rate = where_wanted (wants_of_resource f (codes "res@sampleFrequency")) (rate_attribute rate)

abbrev pub attribute_wanted : Wanted → List ℕ → List ℕ → ℕ → List ℕ
attribute_wanted f property name number = where_wanted (wants_of_resource f property) (number_attribute name number)

unfoldable pub sound_wanted : Wanted → TrackContent → List ℕ
sound_wanted f track =
    attribute_wanted f (codes "res@bitsPerSample") (codes "bitsPerSample") track.bits
    ++ attribute_wanted f (codes "res@nrAudioChannels") (codes "nrAudioChannels") track.channels

unfoldable pub resource_attributes_wanted : Wanted → TrackContent → List ℕ
resource_attributes_wanted f track =
    codes " protocolInfo=\"http-get:*:audio/flac:*\"" ++ attribute_wanted f (codes "res@size") (codes "size") track.size
    ++ duration_wanted f track.duration ++ rate_wanted f track.rate ++ sound_wanted f track

unfoldable pub place_text : List ℕ → ℕ → List ℕ
place_text base id = escaped base ++ codes "/media/" ++ decimal id

unfoldable pub resource_wanted : Wanted → List ℕ → ℕ → TrackContent → List ℕ
resource_wanted f base id track =
    codes "<res" ++ resource_attributes_wanted f track ++ codes ">" ++ place_text base id ++ codes "</res>"

-- what a track's comments say beside its title
unfoldable pub work_wanted : Wanted → TrackContent → List ℕ
work_wanted f track =
    text_wanted f (codes "upnp:artist") track.artist ++ text_wanted f (codes "upnp:album") track.album
    ++ text_wanted f (codes "upnp:genre") track.genre ++ number_there f (codes "upnp:originalTrackNumber") track.number

-- an item's element
abbrev pub resource_where : Wanted → List ℕ → ℕ → TrackContent → List ℕ
resource_where f base id track = where_wanted (wants_resource f) (resource_wanted f base id track)

unfoldable pub item_wanted : Wanted → List ℕ → ObjectRow → TrackContent → List ℕ
item_wanted f base row track =
    item_front row track ++ work_wanted f track ++ number_wanted f (codes "upnp:objectUpdateID") row.object_update
    ++ resource_where f base row.id track ++ codes "</item>"

-- the text of a row. That of a folder without trackers is empty, and no row is such a folder
abbrev pub text_of : Wanted → List ℕ → ObjectRow → Content → Option Trackers → List ℕ
text_of f base row (Folder title) None = []
text_of f base row (Folder title) (Some trackers) = container_wanted f row title trackers
text_of f base row (Track track) trackers = item_wanted f base row track

abbrev pub fragment_of : Wanted → List ℕ → ObjectRow → List ℕ
fragment_of f base row = text_of f base row row.content row.trackers

-- a document of rows
unfoldable pub didl_start : List ℕ
didl_start =
    codes "<DIDL-Lite xmlns=\"urn:schemas-upnp-org:metadata-1-0/DIDL-Lite/\" xmlns:dc=\"http://purl.org/dc/elements/1.1/\" xmlns:upnp=\"urn:schemas-upnp-org:metadata-1-0/upnp/\">"

abbrev pub fragments : Wanted → List ℕ → List ObjectRow → List ℕ
fragments f base rows = flat_map (fragment_of f base) rows

unfoldable pub didl_text : Wanted → List ℕ → List ObjectRow → List ℕ
didl_text f base rows = didl_start ++ fragments f base rows ++ codes "</DIDL-Lite>"

-- the text of the report is that with everything and no base
abbrev pub ReportIsTheWhole : Type 0
ReportIsTheWhole = (row : ObjectRow) → fragment_of None [] row ≡ fragment row

-- A filter keeps at most 18 names of its text, and forgets none that an object has a property of. It wants the same known names,
-- and gives rows and documents the same text, as all names of its text.
pub record NoNameIsForgotten : Type 0 where
  pub few : (text : List ℕ) → IfSome (filter_of text) (λ names. length names ≤ 18)
  pub wanted : (text name : List ℕ) → is_known name ≡ true → wants (filter_of text) name ≡ wants (all_named text) name
  pub rows : (text base : List ℕ) (row : ObjectRow) → fragment_of (filter_of text) base row ≡ fragment_of (all_named text) base row
  pub documents : (text base : List ℕ) (rows : List ObjectRow) → didl_text (filter_of text) base rows ≡ didl_text (all_named text) base rows
