-- Two filters that let the same known names through give rows and documents the same text.
use Rattle.std.proofs.Common.{◌≡◌, ◌≤◌, ℕ, Bool, true, false, cond, ◌||◌, codes, Option, Some, None, List, ◌++◌, length, refl, ap}
use Rattle.std.specs.Prelude.{IfSome}
use Rattle.std.specs.List.{flat_map}
use Rattle.std.specs.Str.{bytes_eq}
use Rattle.cds_object.specs.Writing.{number_attribute, text_element, number_element}
use Rattle.cds_object.specs.declared.content.Content.{Content}
use Rattle.cds_object.specs.declared.content.TrackContent.{TrackContent}
use Rattle.cds_object.specs.declared.content.Content.TheVariants.{Folder, Track}
use Rattle.cds_object.specs.declared.row.Trackers.{Trackers}
use Rattle.cds_object.specs.Object.{ObjectRow}
use Rattle.cds_object.specs.Fragment.{if_there, object_attributes, duration_attribute, rate_attribute, item_front}
use Rattle.cds_didl.specs.Filter.{is_known, known_in, names_of, filter_of, all_named, wants, wants_either, wants_of_resource, wants_resource}
use Rattle.cds_didl.specs.Fragment.{Wanted, where_wanted, number_wanted, text_wanted, number_there, searchable_wanted, child_count_wanted, container_attributes, container_start, trackers_wanted, container_wanted, duration_wanted, rate_wanted, attribute_wanted, sound_wanted, resource_attributes_wanted, place_text, resource_wanted, work_wanted, item_wanted, text_of, fragment_of, didl_start, didl_text, NoNameIsForgotten}
use Rattle.cds_didl.proofs.KnownNames.{kept, few}

module _ (f g : Wanted) (same : (name : List ℕ) → is_known name ≡ true → wants f name ≡ wants g name) where
  -- pieces by their name
  number-same : (name : List ℕ) (number : ℕ) → is_known name ≡ true → number_wanted f name number ≡ number_wanted g name number
  number-same name number is = ap (λ t. where_wanted t (number_element name number)) (same name is)

  text-same : (name : List ℕ) (text : Option (List ℕ)) → is_known name ≡ true → text_wanted f name text ≡ text_wanted g name text
  text-same name text is = ap (λ t. where_wanted t (if_there (text_element name) text)) (same name is)

  there-same : (name : List ℕ) (number : Option ℕ) → is_known name ≡ true → number_there f name number ≡ number_there g name number
  there-same name number is = ap (λ t. where_wanted t (if_there (number_element name) number)) (same name is)

  either-same : (name other : List ℕ) → is_known name ≡ true → is_known other ≡ true → wants_either f name other ≡ wants_either g name other
  either-same name other is too = λ i. same name is i || same other too i

  of-resource : (name : List ℕ) → is_known name ≡ true → wants_of_resource f name ≡ wants_of_resource g name
  unfolding is_known
  of-resource name is = either-same (codes "res") name refl is

  attribute-same : (property name : List ℕ) (number : ℕ) → is_known property ≡ true → attribute_wanted f property name number ≡ attribute_wanted g property name number
  attribute-same property name number is = ap (λ t. where_wanted t (number_attribute name number)) (of-resource property is)

  -- a container
  searchable-same : searchable_wanted f ≡ searchable_wanted g
  unfolding is_known
  searchable-same = ap (λ t. where_wanted t (codes " searchable=\"1\"")) (either-same (codes "@searchable") (codes "container@searchable") refl refl)

  child-count-same : (children : ℕ) → child_count_wanted f children ≡ child_count_wanted g children
  unfolding is_known
  child-count-same children =
      ap (λ t. where_wanted t (number_attribute (codes "childCount") children)) (either-same (codes "@childCount") (codes "container@childCount") refl refl)

  attributes-same : (row : ObjectRow) (children : ℕ) → container_attributes f row children ≡ container_attributes g row children
  unfolding container_attributes
  attributes-same row children = λ i. object_attributes row ++ searchable-same i ++ child-count-same children i

  start-same : (row : ObjectRow) (title : List ℕ) (children : ℕ) → container_start f row title children ≡ container_start g row title children
  unfolding container_start
  start-same row title children =
      λ i. codes "<container" ++ attributes-same row children i ++ codes ">" ++ text_element (codes "dc:title") title
      ++ codes "<upnp:class>object.container</upnp:class>"

  trackers-same : (update : ℕ) (trackers : Trackers) → trackers_wanted f update trackers ≡ trackers_wanted g update trackers
  unfolding is_known trackers_wanted
  trackers-same update trackers =
      λ i. number-same (codes "upnp:objectUpdateID") update refl i
      ++ number-same (codes "upnp:containerUpdateID") trackers.container_update refl i
      ++ number-same (codes "upnp:totalDeletedChildCount") trackers.deleted refl i

  container-same : (row : ObjectRow) (title : List ℕ) (trackers : Trackers) → container_wanted f row title trackers ≡ container_wanted g row title trackers
  unfolding container_wanted
  container-same row title trackers =
      λ i. start-same row title trackers.child_count i ++ trackers-same row.object_update trackers i ++ codes "</container>"

  -- an item
  duration-same : (duration : Option ℕ) → duration_wanted f duration ≡ duration_wanted g duration
  unfolding is_known
  duration-same duration = ap (λ t. where_wanted t (if_there duration_attribute duration)) (of-resource (codes "res@duration") refl)

  rate-same : (rate : ℕ) → rate_wanted f rate ≡ rate_wanted g rate
  unfolding is_known
  rate-same rate = ap (λ t. where_wanted t (rate_attribute rate)) (of-resource (codes "res@sampleFrequency") refl)

  sound-same : (track : TrackContent) → sound_wanted f track ≡ sound_wanted g track
  unfolding is_known sound_wanted
  sound-same track =
      λ i. attribute-same (codes "res@bitsPerSample") (codes "bitsPerSample") track.bits refl i
      ++ attribute-same (codes "res@nrAudioChannels") (codes "nrAudioChannels") track.channels refl i

  resource-attributes-same : (track : TrackContent) → resource_attributes_wanted f track ≡ resource_attributes_wanted g track
  unfolding is_known resource_attributes_wanted
  resource-attributes-same track =
      λ i. codes " protocolInfo=\"http-get:*:audio/flac:*\"" ++ attribute-same (codes "res@size") (codes "size") track.size refl i
      ++ duration-same track.duration i ++ rate-same track.rate i ++ sound-same track i

  resource-same : (base : List ℕ) (id : ℕ) (track : TrackContent) → resource_wanted f base id track ≡ resource_wanted g base id track
  unfolding resource_wanted
  resource-same base id track =
      λ i. codes "<res" ++ resource-attributes-same track i ++ codes ">" ++ place_text base id ++ codes "</res>"

  any-of-resource : wants_resource f ≡ wants_resource g
  unfolding is_known wants_resource
  any-of-resource =
      λ i. same (codes "res") refl i || same (codes "res@protocolInfo") refl i || same (codes "res@size") refl i
      || same (codes "res@duration") refl i || same (codes "res@sampleFrequency") refl i
      || same (codes "res@bitsPerSample") refl i || same (codes "res@nrAudioChannels") refl i

  work-same : (track : TrackContent) → work_wanted f track ≡ work_wanted g track
  unfolding is_known work_wanted
  work-same track =
      λ i. text-same (codes "upnp:artist") track.artist refl i ++ text-same (codes "upnp:album") track.album refl i
      ++ text-same (codes "upnp:genre") track.genre refl i ++ there-same (codes "upnp:originalTrackNumber") track.number refl i

  item-same : (base : List ℕ) (row : ObjectRow) (track : TrackContent) → item_wanted f base row track ≡ item_wanted g base row track
  unfolding is_known item_wanted
  item-same base row track =
      λ i. item_front row track ++ work-same track i ++ number-same (codes "upnp:objectUpdateID") row.object_update refl i
      ++ where_wanted (any-of-resource i) (resource-same base row.id track i) ++ codes "</item>"

  -- a row, and a document
  row-same : (base : List ℕ) (row : ObjectRow) → fragment_of f base row ≡ fragment_of g base row
  row-same base row = by row.content row.trackers where
    by : (content : Content) (trackers : Option Trackers) → text_of f base row content trackers ≡ text_of g base row content trackers
    by (Folder title) None = refl
    by (Folder title) (Some trackers) = container-same row title trackers
    by (Track track) trackers = item-same base row track

  document-same : (base : List ℕ) (rows : List ObjectRow) → didl_text f base rows ≡ didl_text g base rows
  unfolding didl_text
  document-same base rows = λ i. didl_start ++ flat_map (λ row. row-same base row i) rows ++ codes "</DIDL-Lite>"

-- ---- a text's filter, and all its names

wanted : (text name : List ℕ) → is_known name ≡ true → wants (filter_of text) name ≡ wants (all_named text) name
unfolding filter_of
wanted text name is = by (bytes_eq text (codes "*")) where
  by : (all : Bool) → wants (cond all None (Some (known_in (names_of text)))) name ≡ wants (cond all None (Some (names_of text))) name
  by true = refl
  by false = kept (names_of text) name is

few-kept : (text : List ℕ) → IfSome (filter_of text) (λ names. length names ≤ 18)
unfolding filter_of
few-kept text = by (bytes_eq text (codes "*")) where
  by : (all : Bool) → IfSome (cond all None (Some (known_in (names_of text)))) (λ names. length names ≤ 18)
  by true = tt
  by false = few (names_of text)

pub no-name-is-forgotten : NoNameIsForgotten
no-name-is-forgotten = record {
  few = few-kept;
  wanted = wanted;
  rows = λ text base row. row-same (filter_of text) (all_named text) (wanted text) base row;
  documents = λ text base rows. document-same (filter_of text) (all_named text) (wanted text) base rows;
}
