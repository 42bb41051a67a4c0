-- The text of a plain row and of a document of such rows is short once it is escaped.
use Rattle.std.proofs.Common.{◌≡◌, ℕ, ◌+◌, ◌*◌, ◌/◌, ◌%◌, ◌<◌, ◌≤◌, ◌^◌, nat_eq, nat_lt, Bool, true, false, cond, Option, Some, None, List, [], ◌∷◌, ◌++◌, length, codes, refl, arith, length-append}
use Rattle.std.specs.Prelude.{IfSome}
use Rattle.std.specs.List.{AllByRecursion}
use Rattle.std.specs.Fmt.{decimal}
use Rattle.std.proofs.lemmas.Fmt.{length-decimal-le}
use Rattle.cds_object.specs.Writing.{text_element, number_element, number_attribute}
use Rattle.cds_object.specs.declared.content.Content.{Content}
use Rattle.cds_object.specs.declared.content.TrackContent.{TrackContent}
use Rattle.cds_object.specs.declared.content.Content.TheVariants.{Folder, Track}
use Rattle.cds_object.specs.declared.row.Trackers.{Trackers}
use Rattle.cds_object.specs.Object.{ObjectRow}
use Rattle.cds_object.specs.Fragment.{parent_text, two_digits, three_digits, seconds_text, duration_text, object_attributes, duration_attribute, rate_attribute, item_front}
use Rattle.cds_didl.specs.Filter.{wants_resource}
use Rattle.cds_didl.specs.Fragment.{container_attributes, container_start, trackers_wanted, container_wanted, sound_wanted, resource_attributes_wanted, place_text, resource_wanted, work_wanted, item_wanted, text_of, fragment_of, fragments, didl_start, didl_text}
use Rattle.cds_didl.specs.Plain.{IsPlainText, ArePlainTexts, HasPlainTexts}
use Rattle.cds_didl.specs.ReadBack.{AreTrackNumbers, HasNumbers, AreCounts, HasRanges}
use Rattle.cds_didl.proofs.DurationRead.{duration-plain}
use Rattle.cds_exchange.specs.Honest.{IsBase, IsPlainRow}
use Rattle.cds_exchange.proofs.Light.{Light, light-more, light-none, light-plain, light-number, light-escaped, light-there, light-literal, ◌⊕◌, number-light, text-light, value-light}

-- ---- what every object has

parent-light : (parent : Option ℕ) → IfSome parent (λ n. n < 2 ^ 32) → Light 10 (parent_text parent)
parent-light None h = light-literal 10 (codes "-1") refl refl refl
parent-light (Some id) h = light-number id h

object-light : (row : ObjectRow) → HasRanges row → Light 83 (object_attributes row)
unfolding object_attributes
object-light row r =
    light-literal 10 (codes " id=\"") refl refl refl ⊕ light-number row.id r.id ⊕ light-literal 22 (codes "\" parentID=\"") refl refl refl
    ⊕ parent-light row.parent r.parent ⊕ light-literal 31 (codes "\" restricted=\"1\"") refl refl refl

-- ---- a container

attributes-light : (row : ObjectRow) (children : ℕ) → HasRanges row → children < 2 ^ 32 → Light 145 (container_attributes None row children)
unfolding container_attributes
attributes-light row children r h =
    object-light row r ⊕ light-literal 28 (codes " searchable=\"1\"") refl refl refl
    ⊕ value-light 10 10 (codes "childCount") children (light-literal 10 (codes "childCount") refl refl refl) (omega arith) (omega (arith, h)) (omega (arith, h))

start-light : (row : ObjectRow) (title : List ℕ) (children : ℕ) → HasRanges row → children < 2 ^ 32 → IsPlainText title → Light 2806 (container_start None row title children)
unfolding container_start
start-light row title children r h is =
    light-literal 13 (codes "<container") refl refl refl ⊕ attributes-light row children r h ⊕ light-literal 4 (codes ">") refl refl refl
    ⊕ text-light 8 (codes "dc:title") title (light-literal 8 (codes "dc:title") refl refl refl) is
    ⊕ light-literal 61 (codes "<upnp:class>object.container</upnp:class>") refl refl refl

trackers-light : (update : ℕ) (trackers : Trackers) → update < 2 ^ 32 → AreCounts trackers → Light 223 (trackers_wanted None update trackers)
unfolding trackers_wanted
trackers-light update trackers h n =
    number-light 19 (codes "upnp:objectUpdateID") update (light-literal 19 (codes "upnp:objectUpdateID") refl refl refl) h
    ⊕ number-light 22 (codes "upnp:containerUpdateID") trackers.container_update (light-literal 22 (codes "upnp:containerUpdateID") refl refl refl) n.container_update
    ⊕ number-light 30 (codes "upnp:totalDeletedChildCount") trackers.deleted (light-literal 30 (codes "upnp:totalDeletedChildCount") refl refl refl) n.deleted

container-light : (row : ObjectRow) (title : List ℕ) (trackers : Trackers) → HasRanges row → IsPlainText title → AreCounts trackers → Light 3047 (container_wanted None row title trackers)
unfolding container_wanted
container-light row title trackers r is n =
    start-light row title trackers.child_count r n.child_count is ⊕ trackers-light row.object_update trackers r.object_update n
    ⊕ light-literal 18 (codes "</container>") refl refl refl

-- ---- durations

short-two : (n : ℕ) → n < 1000 → length (two_digits n) ≤ 4
short-two n h =
    let digits = length-decimal-le 3 n (omega arith) (omega (arith, h)) (omega (arith, h)) in
    by (nat_lt n 10) digits
  where
    by : (t : Bool) → length (decimal n) ≤ 3 → length (cond t (codes "0") [] ++ decimal n) ≤ 4
    by true d = let all = length-append (codes "0") (decimal n) in let one : length (codes "0") ≡ 1 = refl in omega (arith, d, all, one)
    by false d = omega (arith, d)

short-three : (n : ℕ) → n < 1000 → length (three_digits n) ≤ 5
short-three n h = by (nat_lt n 100) (short-two n h) where
  by : (t : Bool) → length (two_digits n) ≤ 4 → length (cond t (codes "0") [] ++ two_digits n) ≤ 5
  by true d = let all = length-append (codes "0") (two_digits n) in let one : length (codes "0") ≡ 1 = refl in omega (arith, d, all, one)
  by false d = omega (arith, d)

short-seconds : (ms : ℕ) → length (seconds_text ms) ≤ 10
unfolding seconds_text
short-seconds ms =
    let two = two_digits (ms / 1000 % 60) in
    let three = three_digits (ms % 1000) in
    let a = length-append (two ++ codes ".") three in
    let b = length-append two (codes ".") in
    let c = short-two (ms / 1000 % 60) (omega arith) in
    let d = short-three (ms % 1000) (omega arith) in
    let one : length (codes ".") ≡ 1 = refl in
    omega (arith, a, b, c, d, one)

no-more : (ms : ℕ) → ms / 3600000 ≤ ms
no-more ms = omega arith

short-duration : (ms : ℕ) → ms < 2 ^ 64 → length (duration_text ms) ≤ 36
unfolding duration_text
short-duration ms h =
    let hours = decimal (ms / 3600000) in
    let minutes = two_digits (ms / 60000 % 60) in
    let a = length-append (hours ++ codes ":" ++ minutes ++ codes ":") (seconds_text ms) in
    let b = length-append (hours ++ codes ":" ++ minutes) (codes ":") in
    let c = length-append (hours ++ codes ":") minutes in
    let d = length-append hours (codes ":") in
    let less = no-more ms in
    let e = length-decimal-le 20 (ms / 3600000) (omega arith) (omega (arith, h, less)) (omega (arith, h, less)) in
    let f = short-two (ms / 60000 % 60) (omega arith) in
    let g = short-seconds ms in
    let one : length (codes ":") ≡ 1 = refl in
    omega (arith, a, b, c, d, e, f, g, one)

duration-light : (ms : ℕ) → ms < 2 ^ 64 → Light 58 (duration_attribute ms)
unfolding duration_attribute
duration-light ms h =
    light-literal 16 (codes " duration=\"") refl refl refl ⊕ light-plain 36 (duration_text ms) (duration-plain ms h) (short-duration ms h) ⊕ light-literal 6 (codes "\"") refl refl refl

-- ---- an item

rate-light : (rate : ℕ) → rate < 2 ^ 32 → Light 39 (rate_attribute rate)
unfolding rate_attribute
rate-light rate h = by (nat_eq rate 0) where
  by : (t : Bool) → Light 39 (cond t [] (number_attribute (codes "sampleFrequency") rate))
  by true = light-more 0 39 [] (omega arith) light-none
  by false = value-light 15 10 (codes "sampleFrequency") rate (light-literal 15 (codes "sampleFrequency") refl refl refl) (omega arith) (omega (arith, h)) (omega (arith, h))

sound-light : (track : TrackContent) → AreTrackNumbers track → Light 62 (sound_wanted None track)
unfolding sound_wanted
sound-light track n =
    let bits = n.bits in
    let channels = n.channels in
    value-light 13 3 (codes "bitsPerSample") track.bits (light-literal 13 (codes "bitsPerSample") refl refl refl) (omega arith) (omega (arith, bits)) (omega (arith, bits))
    ⊕ value-light 15 3 (codes "nrAudioChannels") track.channels (light-literal 15 (codes "nrAudioChannels") refl refl refl) (omega arith) (omega (arith, channels)) (omega (arith, channels))

resource-attributes-light : (track : TrackContent) → AreTrackNumbers track → Light 249 (resource_attributes_wanted None track)
unfolding resource_attributes_wanted
resource-attributes-light track n =
    let size = n.size in
    light-literal 52 (codes " protocolInfo=\"http-get:*:audio/flac:*\"") refl refl refl
    ⊕ value-light 4 20 (codes "size") track.size (light-literal 4 (codes "size") refl refl refl) (omega arith) (omega (arith, size)) (omega (arith, size))
    ⊕ light-there (λ ms. ms < 2 ^ 64) duration_attribute 58 track.duration n.duration duration-light ⊕ rate-light track.rate n.rate ⊕ sound-light track n

place-light : (base : List ℕ) (id : ℕ) → IsBase base → id < 2 ^ 32 → Light 2637 (place_text base id)
unfolding place_text
place-light base id b h = light-escaped 262 base b.allowed b.short ⊕ light-literal 7 (codes "/media/") refl refl refl ⊕ light-number id h

resource-light : (base : List ℕ) (id : ℕ) (track : TrackContent) → IsBase base → id < 2 ^ 32 → AreTrackNumbers track → Light 2909 (resource_wanted None base id track)
unfolding resource_wanted
resource-light base id track b h n =
    light-literal 7 (codes "<res") refl refl refl ⊕ resource-attributes-light track n ⊕ light-literal 4 (codes ">") refl refl refl ⊕ place-light base id b h
    ⊕ light-literal 12 (codes "</res>") refl refl refl

work-light : (track : TrackContent) → ArePlainTexts track → AreTrackNumbers track → Light 7838 (work_wanted None track)
unfolding work_wanted
work-light track t n =
    light-there IsPlainText (text_element (codes "upnp:artist")) 2589 track.artist t.artist (λ x is. text-light 11 (codes "upnp:artist") x (light-literal 11 (codes "upnp:artist") refl refl refl) is)
    ⊕ light-there IsPlainText (text_element (codes "upnp:album")) 2587 track.album t.album (λ x is. text-light 10 (codes "upnp:album") x (light-literal 10 (codes "upnp:album") refl refl refl) is)
    ⊕ light-there IsPlainText (text_element (codes "upnp:genre")) 2587 track.genre t.genre (λ x is. text-light 10 (codes "upnp:genre") x (light-literal 10 (codes "upnp:genre") refl refl refl) is)
    ⊕ light-there (λ k. k < 2 ^ 32) (number_element (codes "upnp:originalTrackNumber")) 75 track.number n.number
    (λ x h. number-light 24 (codes "upnp:originalTrackNumber") x (light-literal 24 (codes "upnp:originalTrackNumber") refl refl refl) h)

front-light : (row : ObjectRow) (track : TrackContent) → HasRanges row → IsPlainText track.title → Light 2757 (item_front row track)
unfolding item_front
front-light row track r is =
    light-literal 8 (codes "<item") refl refl refl ⊕ object-light row r ⊕ light-literal 4 (codes ">") refl refl refl
    ⊕ text-light 8 (codes "dc:title") track.title (light-literal 8 (codes "dc:title") refl refl refl) is
    ⊕ light-literal 79 (codes "<upnp:class>object.item.audioItem.musicTrack</upnp:class>") refl refl refl

item-light : (base : List ℕ) (row : ObjectRow) (track : TrackContent) → IsBase base → HasRanges row → AreTrackNumbers track → ArePlainTexts track → Light 13582 (item_wanted None base row track)
unfolding item_wanted wants_resource
item-light base row track b r n t =
    front-light row track r t.title ⊕ work-light track t n
    ⊕ number-light 19 (codes "upnp:objectUpdateID") row.object_update (light-literal 19 (codes "upnp:objectUpdateID") refl refl refl) r.object_update
    ⊕ resource-light base row.id track b r.id n ⊕ light-literal 13 (codes "</item>") refl refl refl

-- ---- rows

text-of-light : (base : List ℕ) (row : ObjectRow) (content : Content) (trackers : Option Trackers) → IsBase base → HasRanges row → HasNumbers content → HasPlainTexts content
    → IfSome trackers AreCounts → Light 14000 (text_of None base row content trackers)
text-of-light base row (Folder title) None b r n t c = light-more 0 14000 [] (omega arith) light-none
text-of-light base row (Folder title) (Some trackers) b r n t c = light-more 3047 14000 _ (omega arith) (container-light row title trackers r t c)
text-of-light base row (Track track) trackers b r n t c = light-more 13582 14000 _ (omega arith) (item-light base row track b r n t)

row-light : (base : List ℕ) (row : ObjectRow) → IsBase base → IsPlainRow row → Light 14000 (fragment_of None base row)
row-light base row b is = let r = is.ranges in text-of-light base row row.content row.trackers b r r.numbers is.texts r.trackers

rows-light : (base : List ℕ) (rows : List ObjectRow) → IsBase base → AllByRecursion IsPlainRow rows → Light (length rows * 14000) (fragments None base rows)
rows-light base [] b each = light-more 0 _ [] (omega arith) light-none
rows-light base (row ∷ rows) b each = light-more (14000 + length rows * 14000) _ _ (omega arith) (row-light base row b each.0 ⊕ rows-light base rows b each.1)

pub didl-light : (base : List ℕ) (rows : List ObjectRow) → IsBase base → AllByRecursion IsPlainRow rows → Light (300 + length rows * 14000) (didl_text None base rows)
unfolding didl_text didl_start
didl-light base rows b each =
    light-more (220 + length rows * 14000 + 20) _ _ (omega arith)
    (light-literal 220 didl_start refl refl refl ⊕ rows-light base rows b each ⊕ light-literal 20 (codes "</DIDL-Lite>") refl refl refl)
