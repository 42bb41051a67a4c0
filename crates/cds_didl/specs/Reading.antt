-- What an element of DIDL-Lite says of an object (UPnP ContentDirectory:4 on DIDL-Lite and on the properties of objects). Which
-- of them are needed is this project's profile. Elements and attributes that are not named here are passed over.
use Rattle.std.specs.Prelude.{◌==◌, ◌^◌, ◌++◌, ℕ, if◌then◌else◌, Option, Some, None, List, codes}
use Rattle.std.specs.Option.{option_and_then, option_map}
use Rattle.std.specs.List.{ends_with}
use Rattle.std.specs.Fmt.{decimal}
use Rattle.std.specs.Str.{bytes_eq}
use Rattle.cds_base.specs.Number.{number_below}
use Rattle.cds_markup.specs.Document.{Meaning}
use Rattle.cds_markup.specs.Children.{attrs_of, nodes_in, texts_in, named, is_any, only_of, plain_value}
use Rattle.cds_object.specs.declared.content.Content.{Content}
use Rattle.cds_object.specs.declared.content.Content.TheVariants.{Folder, Track}
use Rattle.cds_object.specs.declared.row.Trackers.{Trackers}
use Rattle.cds_object.specs.Object.{ObjectRow}
use Rattle.cds_didl.specs.Spelled.{didl_space, dc_space, upnp_space, container_class, track_class}
use Rattle.cds_didl.specs.declared.resource.Sound.{Sound}
use Rattle.cds_didl.specs.declared.work.Work.{Work}
use Rattle.cds_didl.specs.Duration.{duration_read, ◌>>=◌}

-- The text of the child element that must come once, and of one that may be missing. A missing one has `None` as its text.
abbrev pub own_text : Meaning → List ℕ
own_text element = texts_in (nodes_in element)

abbrev pub needed : List ℕ → List ℕ → Meaning → Option (List ℕ)
needed space local element = option_map own_text (only_of (named space local (nodes_in element)))

abbrev pub maybe : List ℕ → List ℕ → Meaning → Option (Option (List ℕ))
maybe space local element =
    if is_any (named space local (nodes_in element)) then option_map Some (needed space local element) else Some None

-- The number of an attribute, below a limit. Then numbers of 32 bits: that of a child that must come once, and of one that may be
-- missing.
abbrev pub number_said : ℕ → List ℕ → Meaning → Option ℕ
number_said limit local element = option_and_then (number_below limit) (plain_value local (attrs_of element))

abbrev pub number_needed : List ℕ → Meaning → Option ℕ
number_needed local element = option_and_then (number_below (2 ^ 32)) (needed upnp_space local element)

abbrev pub number_there : Option (List ℕ) → Option (Option ℕ)
number_there None = Some None
number_there (Some text) = option_map Some (number_below (2 ^ 32) text)

abbrev pub number_maybe : List ℕ → Meaning → Option (Option ℕ)
number_maybe local element = option_and_then number_there (maybe upnp_space local element)

-- The parent of an object. The root, whose id is 0, has `-1` and no parent.
abbrev pub parent_in : ℕ → List ℕ → Option (Option ℕ)
parent_in id text =
    if id == 0 then (if bytes_eq text (codes "-1") then Some None else None) else option_map Some (number_below (2 ^ 32) text)

abbrev pub parent_said : ℕ → Meaning → Option (Option ℕ)
parent_said id element = option_and_then (parent_in id) (plain_value (codes "parentID") (attrs_of element))

-- Whether the class is this one.
abbrev pub where_class : List ℕ → List ℕ → Option (Unit {0})
where_class class text = if bytes_eq text class then Some tt else None

abbrev pub class_said : List ℕ → Meaning → Option (Unit {0})
class_said class element = option_and_then (where_class class) (needed upnp_space (codes "class") element)

-- A container.
unfoldable pub trackers_of : Meaning → Option Trackers
trackers_of element = do
  children ← number_said (2 ^ 32) (codes "childCount") element
  container_update ← number_needed (codes "containerUpdateID") element
  deleted ← number_needed (codes "totalDeletedChildCount") element
  Some (record { container_update = container_update; child_count = children; deleted = deleted })

unfoldable pub container_of : Meaning → Option ObjectRow
container_of element = do
  id ← number_said (2 ^ 32) (codes "id") element
  parent ← parent_said id element
  title ← needed dc_space (codes "title") element
  class ← class_said container_class element
  update ← number_needed (codes "objectUpdateID") element
  trackers ← trackers_of element
  Some (record { id = id; parent = parent; content = Folder title; object_update = update; trackers = Some trackers })

-- A duration in milliseconds, and a rate. Both may be missing.
abbrev pub duration_there : Option (List ℕ) → Option (Option ℕ)
duration_there None = Some None
duration_there (Some text) = option_map Some (duration_read text)

abbrev pub duration_said : Meaning → Option (Option ℕ)
duration_said resource = duration_there (plain_value (codes "duration") (attrs_of resource))

abbrev pub rate_there : Option (List ℕ) → Option ℕ
rate_there None = Some 0
rate_there (Some text) = number_below (2 ^ 32) text

abbrev pub rate_said : Meaning → Option ℕ
rate_said resource = rate_there (plain_value (codes "sampleFrequency") (attrs_of resource))

-- The place of a track's bytes: a path below any base.
abbrev pub media_path : ℕ → List ℕ
media_path id = codes "/media/" ++ decimal id

abbrev pub where_media : ℕ → Meaning → Option Meaning
where_media id resource = if ends_with (λ a b. a == b) (own_text resource) (media_path id) then Some resource else None

abbrev pub resource_of : ℕ → Meaning → Option Meaning
resource_of id element = option_and_then (where_media id) (only_of (named didl_space (codes "res") (nodes_in element)))

-- What a resource says of the sound.
unfoldable pub sound_of : Meaning → Option Sound
sound_of resource = do
  size ← number_said (2 ^ 64) (codes "size") resource
  duration ← duration_said resource
  rate ← rate_said resource
  bits ← number_said (2 ^ 8) (codes "bitsPerSample") resource
  channels ← number_said (2 ^ 8) (codes "nrAudioChannels") resource
  Some (record { size = size; duration = duration; rate = rate; bits = bits; channels = channels })

-- What stands in an item beside its resource.
unfoldable pub work_of : Meaning → Option Work
work_of element = do
  title ← needed dc_space (codes "title") element
  artist ← maybe upnp_space (codes "artist") element
  album ← maybe upnp_space (codes "album") element
  genre ← maybe upnp_space (codes "genre") element
  number ← number_maybe (codes "originalTrackNumber") element
  Some (record { title = title; artist = artist; album = album; genre = genre; number = number })

abbrev pub content_with : Work → Sound → Content
content_with work sound = Track (record {
  title = work.title;
  artist = work.artist;
  album = work.album;
  genre = work.genre;
  number = work.number;
  size = sound.size;
  duration = sound.duration;
  rate = sound.rate;
  channels = sound.channels;
  bits = sound.bits;
})

-- An item.
unfoldable pub item_of : Meaning → Option ObjectRow
item_of element = do
  id ← number_said (2 ^ 32) (codes "id") element
  parent ← parent_said id element
  class ← class_said track_class element
  update ← number_needed (codes "objectUpdateID") element
  work ← work_of element
  resource ← resource_of id element
  sound ← sound_of resource
  Some (record { id = id; parent = parent; content = content_with work sound; object_update = update; trackers = None })
