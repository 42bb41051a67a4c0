-- What the element of an item says is the item's row.
use Rattle.std.proofs.Common.{◌≡◌, ◌==◌, ℕ, ◌-◌, ◌^◌, ◌<◌, nat_eq, Bool, true, false, cond, ◌&&◌, Option, Some, None, List, [], ◌∷◌, ◌++◌, codes, length, drop, filter, refl, sym, ap, ◌∙◌, arith, length-append}
use Rattle.std.specs.Prelude.{IfSome}
use Rattle.std.specs.List.{ends_with}
use Rattle.std.specs.Fmt.{decimal}
use Rattle.std.specs.Str.{bytes_eq}
use Rattle.std.specs.Option.{option_and_then, option_map}
use Rattle.std.specs.Cmp.Lexicographic.{pointwise}
use Rattle.std.proofs.Math.Seq.{drop-append_seam}
use Rattle.std.proofs.lemmas.Bool.Decides.{nat_tests}
use Rattle.cds_base.specs.Number.{number_below}
use Rattle.cds_markup.specs.declared.name.Attr.{Attr}
use Rattle.cds_markup.specs.Document.{Meaning, Element, Meanings, joined, End as Childless}
use Rattle.cds_markup.specs.Children.{nodes_in, is_named, named, only_of, plain_value}
use Rattle.cds_object.specs.declared.content.TrackContent.{TrackContent}
use Rattle.cds_object.specs.declared.content.Content.TheVariants.{Track}
use Rattle.cds_object.specs.Object.{ObjectRow}
use Rattle.cds_didl.specs.declared.resource.Sound.{Sound}
use Rattle.cds_didl.specs.declared.work.Work.{Work}
use Rattle.cds_didl.specs.Spelled.{didl_space, dc_space, upnp_space, track_class}
use Rattle.cds_didl.specs.Duration.{◌>>=◌}
use Rattle.cds_didl.specs.Reading.{needed, maybe, number_said, number_needed, number_maybe, parent_said, class_said, duration_there, duration_said, rate_there, rate_said, media_path, where_media, resource_of, sound_of, work_of, content_with, item_of}
use Rattle.cds_didl.specs.ReadBack.{AreTrackNumbers, HasRanges}
use Rattle.cds_base.proofs.Plain.{decimal-read}
use Rattle.cds_didl.proofs.DurationRead.{bind, duration-read}
use Rattle.cds_didl.proofs.RowDrafts.{rate_value, duration_value, place}
use Rattle.cds_didl.proofs.RowSays.{text_said, upnp_said, number_in, said_name, sound_said, resource_said, work_said, back_said, item_said}
use Rattle.cds_didl.proofs.RowRead.{alone, needed-one, number-one, class-one, parent-one, same-bytes, items, if_list, other-name, none-of-work, artist-of, album-of, genre-of, number-of, maybe-of, number-maybe-of, front-has, back-none}

-- tests of names
pub named-so : (space local : List ℕ) (attrs : List Attr) (children : Meanings) → is_named space local (Element (said_name space local) attrs children) ≡ true
named-so space local attrs children = ap (λ t. t && bytes_eq local local) (same-bytes space) ∙ same-bytes local

pub named-other : (space local mine name : List ℕ) (attrs : List Attr) (children : Meanings) → bytes_eq name local ≡ false → is_named space local (Element (said_name mine name) attrs children) ≡ false
named-other space local mine name attrs children e = ap (λ t. bytes_eq mine space && t) e ∙ by (bytes_eq mine space) where
  by : (t : Bool) → (t && false) ≡ false
  by t = grind arith

keeps : (p : Meaning → Bool) (x : Meaning) (xs : List Meaning) → p x ≡ true → filter p (x ∷ xs) ≡ x ∷ filter p xs
keeps p x xs e = ap (λ t. cond t (x ∷ filter p xs) (filter p xs)) e

skips : (p : Meaning → Bool) (x : Meaning) (xs : List Meaning) → p x ≡ false → filter p (x ∷ xs) ≡ filter p xs
skips p x xs e = ap (λ t. cond t (x ∷ filter p xs) (filter p xs)) e

-- what stands in an item under each name
module _ (base : List ℕ) (row : ObjectRow) (track : TrackContent) where
  abbrev back : Meanings
  back = back_said base row track

  abbrev title_el : Meaning
  title_el = text_said dc_space (codes "title") track.title

  abbrev class_el : Meaning
  class_el = upnp_said (codes "class") track_class

  abbrev update_el : Meaning
  update_el = number_in (codes "objectUpdateID") row.object_update

  abbrev resource_el : Meaning
  resource_el = resource_said base row.id track

  abbrev work_els : List Meaning
  work_els = items (work_said track back)

  abbrev sounds : List Attr
  sounds = sound_said track.size (duration_value track.duration) (rate_value track.rate) track.bits track.channels

  abbrev element : Meaning
  element = item_said base row track

  item-title : named dc_space (codes "title") (nodes_in element) ≡ title_el ∷ []
  item-title =
      let p = is_named dc_space (codes "title") in
      keeps p title_el (class_el ∷ work_els) (named-so dc_space (codes "title") [] (joined track.title Childless))
      ∙ ap (λ xs. title_el ∷ xs)
      (skips p class_el work_els (other-name dc_space (codes "title") (codes "class") track_class refl)
      ∙ none-of-work dc_space (codes "title") track back refl refl refl refl
      ∙ back-none (codes "title") dc_space base row track refl refl)

  item-class : named upnp_space (codes "class") (nodes_in element) ≡ class_el ∷ []
  item-class =
      let p = is_named upnp_space (codes "class") in
      skips p title_el (class_el ∷ work_els) (named-other upnp_space (codes "class") dc_space (codes "title") [] (joined track.title Childless) refl)
      ∙ keeps p class_el work_els (named-so upnp_space (codes "class") [] (joined track_class Childless))
      ∙ ap (λ xs. class_el ∷ xs) (none-of-work upnp_space (codes "class") track back refl refl refl refl ∙ back-none (codes "class") upnp_space base row track refl refl)

  item-update : named upnp_space (codes "objectUpdateID") (nodes_in element) ≡ update_el ∷ []
  item-update =
      let p = is_named upnp_space (codes "objectUpdateID") in
      front-has (codes "objectUpdateID") track work_els refl refl upnp_space
      ∙ none-of-work upnp_space (codes "objectUpdateID") track back refl refl refl refl
      ∙ keeps p update_el (resource_el ∷ []) (named-so upnp_space (codes "objectUpdateID") [] (joined (decimal row.object_update) Childless))
      ∙ ap (λ xs. update_el ∷ xs)
      (skips p resource_el [] (named-other upnp_space (codes "objectUpdateID") didl_space (codes "res") sounds (joined (place base row.id) Childless) refl))

  item-resource : named didl_space (codes "res") (nodes_in element) ≡ resource_el ∷ []
  item-resource =
      let p = is_named didl_space (codes "res") in
      front-has (codes "res") track work_els refl refl didl_space
      ∙ none-of-work didl_space (codes "res") track back refl refl refl refl
      ∙ skips p update_el (resource_el ∷ []) (other-name didl_space (codes "res") (codes "objectUpdateID") (decimal row.object_update) refl)
      ∙ keeps p resource_el [] (named-so didl_space (codes "res") sounds (joined (place base row.id) Childless))

  item-artist : named upnp_space (codes "artist") (nodes_in element) ≡ if_list (upnp_said (codes "artist")) track.artist
  item-artist = front-has (codes "artist") track work_els refl refl upnp_space ∙ artist-of track back (back-none (codes "artist") upnp_space base row track refl refl)

  item-album : named upnp_space (codes "album") (nodes_in element) ≡ if_list (upnp_said (codes "album")) track.album
  item-album = front-has (codes "album") track work_els refl refl upnp_space ∙ album-of track back (back-none (codes "album") upnp_space base row track refl refl)

  item-genre : named upnp_space (codes "genre") (nodes_in element) ≡ if_list (upnp_said (codes "genre")) track.genre
  item-genre = front-has (codes "genre") track work_els refl refl upnp_space ∙ genre-of track back (back-none (codes "genre") upnp_space base row track refl refl)

  item-number : named upnp_space (codes "originalTrackNumber") (nodes_in element) ≡ if_list (number_in (codes "originalTrackNumber")) track.number
  item-number =
      front-has (codes "originalTrackNumber") track work_els refl refl upnp_space ∙ number-of track back (back-none (codes "originalTrackNumber") upnp_space base row track refl refl)

-- what a track says of itself
abbrev work_in : TrackContent → Work
work_in track = record { title = track.title; artist = track.artist; album = track.album; genre = track.genre; number = track.number }

abbrev sound_in : TrackContent → Sound
sound_in track = record { size = track.size; duration = track.duration; rate = track.rate; bits = track.bits; channels = track.channels }

steps-five : {A B C D E R : Type 0} (oa : Option A) (ob : Option B) (oc : Option C) (od : Option D) (oe : Option E) (make : A → B → C → D → E → R) (a : A) (b : B) (c : C) (d : D) (e : E)
    → oa ≡ Some a → ob ≡ Some b → oc ≡ Some c → od ≡ Some d → oe ≡ Some e
    → oa >>= (λ a. ob >>= (λ b. oc >>= (λ c. od >>= (λ d. oe >>= (λ e. Some (make a b c d e)))))) ≡ Some (make a b c d e)
steps-five oa ob oc od oe make a b c d e ea eb ec ed ee =
    let all = Some (make a b c d e) in
    bind oa a (λ a. ob >>= (λ b. oc >>= (λ c. od >>= (λ d. oe >>= (λ e. Some (make a b c d e)))))) all ea
    (bind ob b (λ b. oc >>= (λ c. od >>= (λ d. oe >>= (λ e. Some (make a b c d e))))) all eb
    (bind oc c (λ c. od >>= (λ d. oe >>= (λ e. Some (make a b c d e)))) all ec
    (bind od d (λ d. oe >>= (λ e. Some (make a b c d e))) all ed
    (bind oe e (λ e. Some (make a b c d e)) all ee refl))))

work-read : (base : List ℕ) (row : ObjectRow) (track : TrackContent) → AreTrackNumbers track → work_of (item_said base row track) ≡ Some (work_in track)
unfolding work_of
work-read base row track n =
    let element = item_said base row track in
    steps-five (needed dc_space (codes "title") element) (maybe upnp_space (codes "artist") element) (maybe upnp_space (codes "album") element) (maybe upnp_space (codes "genre") element)
    (number_maybe (codes "originalTrackNumber") element)
    (λ title artist album genre number. record { title = title; artist = artist; album = album; genre = genre; number = number })
    track.title track.artist track.album track.genre track.number
    (needed-one dc_space (codes "title") track.title element (item-title base row track))
    (maybe-of upnp_space (codes "artist") track.artist element (item-artist base row track))
    (maybe-of upnp_space (codes "album") track.album element (item-album base row track))
    (maybe-of upnp_space (codes "genre") track.genre element (item-genre base row track))
    (number-maybe-of (codes "originalTrackNumber") track.number element n.number (item-number base row track))

-- the resource ends in its path
same-text : (text : List ℕ) → pointwise (λ a b. a == b) text text ≡ true
same-text [] = refl
same-text (b ∷ text) = rw (same b, same-text text) refl where
  same : (b : ℕ) → (b == b) ≡ true
  same b = grind (arith, nat_tests)

ends-so : (front back : List ℕ) → ends_with (λ a b. a == b) (front ++ back) back ≡ true
ends-so front back =
    let most : length (front ++ back) - length back ≡ length front = omega (arith, length-append front back) in
    ap (λ n. pointwise (λ a b. a == b) back (drop n (front ++ back))) most
    ∙ ap (pointwise (λ a b. a == b) back) (drop-append_seam front back)
    ∙ same-text back

resource-read : (base : List ℕ) (row : ObjectRow) (track : TrackContent) → resource_of row.id (item_said base row track) ≡ Some (resource_said base row.id track)
resource-read base row track =
    let resource = resource_said base row.id track in
    ap (λ xs. option_and_then (where_media row.id) (only_of xs)) (item-resource base row track)
    ∙ ap (λ t. cond (ends_with (λ a b. a == b) t (media_path row.id)) (Some resource) None) (alone (place base row.id))
    ∙ ap (λ t. cond t (Some resource) None) (ends-so base (media_path row.id))

-- the attributes of a resource
duration-there : (size : ℕ) (duration rate : Option (List ℕ)) (bits channels : ℕ) → plain_value (codes "duration") (sound_said size duration rate bits channels) ≡ duration
duration-there size None None bits channels = refl
duration-there size None (Some rate) bits channels = refl
duration-there size (Some duration) None bits channels = refl
duration-there size (Some duration) (Some rate) bits channels = refl

rate-there : (size : ℕ) (duration rate : Option (List ℕ)) (bits channels : ℕ) → plain_value (codes "sampleFrequency") (sound_said size duration rate bits channels) ≡ rate
rate-there size None None bits channels = refl
rate-there size None (Some rate) bits channels = refl
rate-there size (Some duration) None bits channels = refl
rate-there size (Some duration) (Some rate) bits channels = refl

bits-there : (size : ℕ) (duration rate : Option (List ℕ)) (bits channels : ℕ) → plain_value (codes "bitsPerSample") (sound_said size duration rate bits channels) ≡ Some (decimal bits)
bits-there size None None bits channels = refl
bits-there size None (Some rate) bits channels = refl
bits-there size (Some duration) None bits channels = refl
bits-there size (Some duration) (Some rate) bits channels = refl

channels-there : (size : ℕ) (duration rate : Option (List ℕ)) (bits channels : ℕ) → plain_value (codes "nrAudioChannels") (sound_said size duration rate bits channels) ≡ Some (decimal channels)
channels-there size None None bits channels = refl
channels-there size None (Some rate) bits channels = refl
channels-there size (Some duration) None bits channels = refl
channels-there size (Some duration) (Some rate) bits channels = refl

duration-is-read : (o : Option ℕ) → IfSome o (λ n. n < 2 ^ 64) → duration_there (duration_value o) ≡ Some o
duration-is-read None h = refl
duration-is-read (Some ms) h = ap (option_map Some) (duration-read ms h)

rate-is-read : (rate : ℕ) → rate < 2 ^ 32 → rate_there (rate_value rate) ≡ Some rate
rate-is-read rate h = by (nat_eq rate 0) refl where
  by : (t : Bool) → nat_eq rate 0 ≡ t → rate_there (rate_value rate) ≡ Some rate
  by true e = let none : rate ≡ 0 = grind (arith, nat_tests) in ap (λ t. rate_there (cond t None (Some (decimal rate)))) e ∙ ap Some (sym none)
  by false e = ap (λ t. rate_there (cond t None (Some (decimal rate)))) e ∙ decimal-read (2 ^ 32) rate (omega arith) h

sound-read : (base : List ℕ) (id : ℕ) (track : TrackContent) → AreTrackNumbers track → sound_of (resource_said base id track) ≡ Some (sound_in track)
unfolding sound_of
sound-read base id track n =
    let resource = resource_said base id track in
    let d = duration_value track.duration in
    let r = rate_value track.rate in
    steps-five (number_said (2 ^ 64) (codes "size") resource) (duration_said resource) (rate_said resource) (number_said (2 ^ 8) (codes "bitsPerSample") resource)
    (number_said (2 ^ 8) (codes "nrAudioChannels") resource)
    (λ size duration rate bits channels. record { size = size; duration = duration; rate = rate; bits = bits; channels = channels })
    track.size track.duration track.rate track.bits track.channels
    (decimal-read (2 ^ 64) track.size (omega arith) n.size)
    (ap duration_there (duration-there track.size d r track.bits track.channels) ∙ duration-is-read track.duration n.duration)
    (ap rate_there (rate-there track.size d r track.bits track.channels) ∙ rate-is-read track.rate n.rate)
    (ap (option_and_then (number_below (2 ^ 8))) (bits-there track.size d r track.bits track.channels) ∙ decimal-read (2 ^ 8) track.bits (omega arith) n.bits)
    (ap (option_and_then (number_below (2 ^ 8))) (channels-there track.size d r track.bits track.channels) ∙ decimal-read (2 ^ 8) track.channels (omega arith) n.channels)

-- an item
abbrev pub track_row : ObjectRow → TrackContent → ObjectRow
track_row row track = record { id = row.id; parent = row.parent; content = Track track; object_update = row.object_update; trackers = None }

steps-seven : {A B C D E F G R : Type 0} (oa : Option A) (ob : A → Option B) (oc : Option C) (od : Option D) (oe : Option E) (of : A → Option F) (og : F → Option G) (make : A → B → C → D → E → F → G → R)
    (a : A) (b : B) (c : C) (d : D) (e : E) (f : F) (g : G) → oa ≡ Some a → ob a ≡ Some b → oc ≡ Some c → od ≡ Some d → oe ≡ Some e → of a ≡ Some f → og f ≡ Some g
    → oa >>= (λ a. ob a >>= (λ b. oc >>= (λ c. od >>= (λ d. oe >>= (λ e. of a >>= (λ f. og f >>= (λ g. Some (make a b c d e f g)))))))) ≡ Some (make a b c d e f g)
steps-seven oa ob oc od oe of og make a b c d e f g ea eb ec ed ee ef eg =
    let all = Some (make a b c d e f g) in
    bind oa a (λ a. ob a >>= (λ b. oc >>= (λ c. od >>= (λ d. oe >>= (λ e. of a >>= (λ f. og f >>= (λ g. Some (make a b c d e f g)))))))) all ea
    (bind (ob a) b (λ b. oc >>= (λ c. od >>= (λ d. oe >>= (λ e. of a >>= (λ f. og f >>= (λ g. Some (make a b c d e f g))))))) all eb
    (bind oc c (λ c. od >>= (λ d. oe >>= (λ e. of a >>= (λ f. og f >>= (λ g. Some (make a b c d e f g)))))) all ec
    (bind od d (λ d. oe >>= (λ e. of a >>= (λ f. og f >>= (λ g. Some (make a b c d e f g))))) all ed
    (bind oe e (λ e. of a >>= (λ f. og f >>= (λ g. Some (make a b c d e f g)))) all ee
    (bind (of a) f (λ f. og f >>= (λ g. Some (make a b c d e f g))) all ef (bind (og f) g (λ g. Some (make a b c d e f g)) all eg refl))))))

pub item-read : (base : List ℕ) (row : ObjectRow) (track : TrackContent) → HasRanges row → AreTrackNumbers track → item_of (item_said base row track) ≡ Some (track_row row track)
unfolding item_of
item-read base row track r n =
    let element = item_said base row track in
    steps-seven (number_said (2 ^ 32) (codes "id") element) (λ id. parent_said id element) (class_said track_class element) (number_needed (codes "objectUpdateID") element) (work_of element)
    (λ id. resource_of id element) (λ resource. sound_of resource)
    (λ id parent class update work resource sound. record { id = id; parent = parent; content = content_with work sound; object_update = update; trackers = None })
    row.id row.parent tt row.object_update (work_in track) (resource_said base row.id track) (sound_in track)
    (decimal-read (2 ^ 32) row.id (omega arith) r.id) (parent-one row.id row.parent r.parent r.is.rooted)
    (class-one track_class element (item-class base row track))
    (number-one (codes "objectUpdateID") row.object_update element r.object_update (item-update base row track))
    (work-read base row track n) (resource-read base row track) (sound-read base row.id track n)
