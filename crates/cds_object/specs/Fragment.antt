-- The text of a row: a DIDL-Lite element (UPnP ContentDirectory:4 on DIDL-Lite). It has the properties of the tracking
-- of changes, and is written in one way only (this project's profile).
use Rattle.std.specs.Prelude.{◌/◌, ◌%◌, ℕ, nat_eq, nat_lt, cond, List, [], ◌∷◌, ◌++◌, Option, Some, None, codes}
use Rattle.std.specs.List.{flat_map}
use Rattle.std.specs.Fmt.{decimal}
use Rattle.cds_object.specs.Writing.{number_attribute, text_element, number_element}
use Rattle.cds_object.specs.declared.content.Content.{Content}
use Rattle.cds_object.specs.declared.content.TrackContent.{TrackContent}
use Rattle.cds_object.specs.declared.content.Content.TheVariants.{Folder, Track}
use Rattle.cds_object.specs.declared.row.Trackers.{Trackers}
use Rattle.cds_object.specs.Object.{ObjectRow}

-- a piece of text for a value that is there, and none for one that is not
abbrev pub if_there : {X : Type 0} → (X → List ℕ) → Option X → List ℕ
if_there piece None = []
if_there piece (Some x) = piece x

-- the id of an object's parent; the root's is -1
abbrev pub parent_text : Option ℕ → List ℕ
parent_text None = codes "-1"
parent_text (Some id) = decimal id

-- a number of one or two digits in two
abbrev pub two_digits : ℕ → List ℕ
two_digits n = cond (nat_lt n 10) (codes "0") [] ++ decimal n

-- a number of up to three digits in three
abbrev pub three_digits : ℕ → List ℕ
three_digits n = cond (nat_lt n 100) (codes "0") [] ++ two_digits n

-- the seconds of a duration in milliseconds, and the milliseconds beside them
unfoldable pub seconds_text : ℕ → List ℕ
seconds_text ms = two_digits (ms / 1000 % 60) ++ codes "." ++ three_digits (ms % 1000)

-- a duration in milliseconds as hours, minutes, seconds and milliseconds
unfoldable pub duration_text : ℕ → List ℕ
duration_text ms = decimal (ms / 3600000) ++ codes ":" ++ two_digits (ms / 60000 % 60) ++ codes ":" ++ seconds_text ms

-- the attributes that every object has
unfoldable pub object_attributes : ObjectRow → List ℕ
object_attributes row =
    codes " id=\"" ++ decimal row.id ++ codes "\" parentID=\"" ++ parent_text row.parent ++ codes "\" restricted=\"1\""

-- a container's element up to and with its class
unfoldable pub container_front : ObjectRow → List ℕ → ℕ → List ℕ
container_front row title children =
    codes "<container" ++ object_attributes row ++ codes " searchable=\"1\" childCount=\"" ++ decimal children ++ codes "\">"
    ++ text_element (codes "dc:title") title ++ codes "<upnp:class>object.container</upnp:class>"

-- how a container tracks the changes of its children
unfoldable pub trackers_text : ℕ → Trackers → List ℕ
trackers_text object_update trackers =
    number_element (codes "upnp:objectUpdateID") object_update
    ++ number_element (codes "upnp:containerUpdateID") trackers.container_update
    ++ number_element (codes "upnp:totalDeletedChildCount") trackers.deleted

-- a container's element
abbrev pub container_text : ObjectRow → List ℕ → Trackers → List ℕ
container_text row title trackers = container_front row title trackers.child_count ++ trackers_text row.object_update trackers ++ codes "</container>"

-- the attribute of a duration
unfoldable pub duration_attribute : ℕ → List ℕ
duration_attribute ms = codes " duration=\"" ++ duration_text ms ++ codes "\""

-- the attribute of the samples in a second, none if they are not known
unfoldable pub rate_attribute : ℕ → List ℕ
rate_attribute rate = cond (nat_eq rate 0) [] (number_attribute (codes "sampleFrequency") rate)

-- the attributes of the bits and channels
unfoldable pub sound_attributes : TrackContent → List ℕ
sound_attributes track = number_attribute (codes "bitsPerSample") track.bits ++ number_attribute (codes "nrAudioChannels") track.channels

-- all attributes of a track's resource
unfoldable pub resource_attributes : TrackContent → List ℕ
resource_attributes track =
    codes " protocolInfo=\"http-get:*:audio/flac:*\"" ++ number_attribute (codes "size") track.size
    ++ if_there duration_attribute track.duration ++ rate_attribute track.rate ++ sound_attributes track

-- the address of a track's bytes, and what they are: a path below the base, which is empty in scripts
unfoldable pub resource_text : ℕ → TrackContent → List ℕ
resource_text id track = codes "<res" ++ resource_attributes track ++ codes ">/media/" ++ decimal id ++ codes "</res>"

-- what a track's comments say beside its title
unfoldable pub work_text : TrackContent → List ℕ
work_text track =
    if_there (text_element (codes "upnp:artist")) track.artist
    ++ if_there (text_element (codes "upnp:album")) track.album
    ++ if_there (text_element (codes "upnp:genre")) track.genre
    ++ if_there (number_element (codes "upnp:originalTrackNumber")) track.number

-- an item's element up to and with its class
unfoldable pub item_front : ObjectRow → TrackContent → List ℕ
item_front row track =
    codes "<item" ++ object_attributes row ++ codes ">" ++ text_element (codes "dc:title") track.title
    ++ codes "<upnp:class>object.item.audioItem.musicTrack</upnp:class>"

-- an item's element
abbrev pub item_text : ObjectRow → TrackContent → List ℕ
item_text row track =
    item_front row track ++ work_text track ++ number_element (codes "upnp:objectUpdateID") row.object_update
    ++ resource_text row.id track ++ codes "</item>"

-- the text of a row; a folder without trackers, which no row is, has an empty text
abbrev pub fragment : ObjectRow → List ℕ
fragment row = of_content row.content row.trackers
  where
    of_content : Content → Option Trackers → List ℕ
    of_content (Folder title) None = []
    of_content (Folder title) (Some trackers) = container_text row title trackers
    of_content (Track track) trackers = item_text row track

-- all rows in their order, each with LF at its end
abbrev pub full_text : List ObjectRow → List ℕ
full_text rows = flat_map (λ row. fragment row ++ 10 ∷ []) rows
