-- What the drafts of rows say, and that they can be written.
use Rattle.std.proofs.Common.{◌≡◌, ℕ, ◌^◌, ◌<◌, ◌≤◌, suc, max, nat_eq, Bool, true, false, cond, Option, Some, None, List, [], ◌∷◌, ◌++◌, codes, refl, ap, ◌∙◌, arith}
use Rattle.std.specs.Prelude.{IfSome}
use Rattle.std.specs.List.{AllByRecursion}
use Rattle.std.specs.Fmt.{decimal}
use Rattle.cds_base.specs.Characters.{AreAllowed}
use Rattle.cds_markup.specs.declared.name.Name.{Name}
use Rattle.cds_markup.specs.declared.name.Attr.{Attr}
use Rattle.cds_markup.specs.declared.tag.Declaration.{Declaration}
use Rattle.cds_markup.specs.declared.tag.TagAttr.{TagAttr}
use Rattle.cds_markup.specs.Grammar.{IsName}
use Rattle.cds_markup.specs.Namespaces.{declarations, tag_says}
use Rattle.cds_markup.specs.Document.{Meaning, Element, Meanings, ChildThen, joined, and_children, of_tag, End as Childless}
use Rattle.cds_markup.specs.Drafts.{Draft, Drafts, draft_says, drafts_say, draft_depth, drafts_depth, CanBeDraftAttr, CanBeDraft, CanBeDrafts}
use Rattle.cds_markup.proofs.WrittenTags.{small-name, without-prefix, behind-prefix}
use Rattle.cds_object.specs.declared.content.Content.{Content}
use Rattle.cds_object.specs.declared.content.TrackContent.{TrackContent}
use Rattle.cds_object.specs.declared.content.Content.TheVariants.{Folder, Track}
use Rattle.cds_object.specs.declared.row.Trackers.{Trackers}
use Rattle.cds_object.specs.Object.{ObjectRow}
use Rattle.cds_object.specs.Fragment.{parent_text}
use Rattle.cds_didl.specs.Spelled.{didl_space, dc_space, upnp_space, container_class, track_class}
use Rattle.cds_didl.specs.ReadBack.{AreTrackTexts, HasAllowedTexts, AreTrackNumbers, HasNumbers, AreCounts, HasRanges, IsWritable}
use Rattle.cds_base.proofs.Plain.{ArePlain, allowed-plain, allowed-append, plain-append}
use Rattle.cds_didl.proofs.DurationRead.{duration-plain}
use Rattle.cds_didl.proofs.RowDrafts.{tag, plain_attr, dc_draft, upnp_draft, number_draft, if_draft, if_attr, object_attrs, container_draft, rate_value, duration_value, sound_attrs, place, resource_draft, item_back, item_work, item_draft, row_then, rows_inside, root_tag, didl_draft, decimal-plain, parent-plain}

-- the scopes of the root, and in an object
abbrev Scopes : List (List Declaration)
Scopes = declarations root_tag.attrs ∷ []

abbrev Inner : List (List Declaration)
Inner = [] ∷ Scopes

-- elements of a text alone, and what may be missing
abbrev pub said_attr : List ℕ → List ℕ → Attr
said_attr local value = record { name = record { space = []; local = local }; value = value }

abbrev pub said_name : List ℕ → List ℕ → Name
said_name space local = record { space = space; local = local }

abbrev pub text_said : List ℕ → List ℕ → List ℕ → Meaning
text_said space local text = Element (said_name space local) [] (joined text Childless)

abbrev pub upnp_said : List ℕ → List ℕ → Meaning
upnp_said local text = text_said upnp_space local text

abbrev pub number_in : List ℕ → ℕ → Meaning
number_in local n = upnp_said local (decimal n)

abbrev pub if_said : {X : Type 0} → (X → Meaning) → Option X → Meanings → Meanings
if_said make None more = more
if_said make (Some x) more = ChildThen (make x) more

abbrev pub if_there_said : List ℕ → Option (List ℕ) → List Attr → List Attr
if_there_said local None more = more
if_there_said local (Some value) more = said_attr local value ∷ more

-- a container
abbrev pub object_said : ObjectRow → List Attr → List Attr
object_said row more = said_attr (codes "id") (decimal row.id) ∷ said_attr (codes "parentID") (parent_text row.parent) ∷ said_attr (codes "restricted") (codes "1") ∷ more

abbrev pub container_said : ObjectRow → List ℕ → Trackers → Meaning
container_said row title trackers =
    Element (said_name didl_space (codes "container"))
    (object_said row (said_attr (codes "searchable") (codes "1") ∷ said_attr (codes "childCount") (decimal trackers.child_count) ∷ []))
    (ChildThen (text_said dc_space (codes "title") title)
    (ChildThen (upnp_said (codes "class") container_class)
    (ChildThen (number_in (codes "objectUpdateID") row.object_update)
    (ChildThen (number_in (codes "containerUpdateID") trackers.container_update)
    (ChildThen (number_in (codes "totalDeletedChildCount") trackers.deleted) Childless)))))

-- an item
abbrev pub sound_said : ℕ → Option (List ℕ) → Option (List ℕ) → ℕ → ℕ → List Attr
sound_said size duration rate bits channels =
    said_attr (codes "protocolInfo") (codes "http-get:*:audio/flac:*") ∷ said_attr (codes "size") (decimal size)
    ∷ if_there_said (codes "duration") duration
    (if_there_said (codes "sampleFrequency") rate (said_attr (codes "bitsPerSample") (decimal bits) ∷ said_attr (codes "nrAudioChannels") (decimal channels) ∷ []))

abbrev pub resource_said : List ℕ → ℕ → TrackContent → Meaning
resource_said base id track =
    Element (said_name didl_space (codes "res")) (sound_said track.size (duration_value track.duration) (rate_value track.rate) track.bits track.channels) (joined (place base id) Childless)

abbrev pub work_said : TrackContent → Meanings → Meanings
work_said track more =
    if_said (upnp_said (codes "artist")) track.artist
    (if_said (upnp_said (codes "album")) track.album
    (if_said (upnp_said (codes "genre")) track.genre (if_said (number_in (codes "originalTrackNumber")) track.number more)))

abbrev pub back_said : List ℕ → ObjectRow → TrackContent → Meanings
back_said base row track = ChildThen (number_in (codes "objectUpdateID") row.object_update) (ChildThen (resource_said base row.id track) Childless)

abbrev pub item_said : List ℕ → ObjectRow → TrackContent → Meaning
item_said base row track =
    Element (said_name didl_space (codes "item")) (object_said row [])
    (ChildThen (text_said dc_space (codes "title") track.title) (ChildThen (upnp_said (codes "class") track_class) (work_said track (back_said base row track))))

-- rows in a document
abbrev pub row_meant : List ℕ → ObjectRow → Content → Option Trackers → Meanings → Meanings
row_meant base row (Folder title) None more = more
row_meant base row (Folder title) (Some trackers) more = ChildThen (container_said row title trackers) more
row_meant base row (Track track) trackers more = ChildThen (item_said base row track) more

abbrev pub rows_meant : List ℕ → List ObjectRow → Meanings
rows_meant base [] = Childless
rows_meant base (row ∷ rows) = row_meant base row row.content row.trackers (rows_meant base rows)

abbrev pub didl_said : List ℕ → List ObjectRow → Meaning
didl_said base rows = Element (said_name didl_space (codes "DIDL-Lite")) [] (rows_meant base rows)

-- what the drafts say
upnp-says : (local text : List ℕ) → draft_says Inner (upnp_draft local text) ≡ Some (upnp_said local text)
upnp-says local text = refl

container-says : (row : ObjectRow) (title : List ℕ) (trackers : Trackers) → draft_says Scopes (container_draft row title trackers) ≡ Some (container_said row title trackers)
container-says row title trackers = refl

if-says : {X : Type 0} → (make : X → Draft) (said : X → Meaning) (o : Option X) (more : Drafts) (ms : Meanings) → ((x : X) → draft_says Inner (make x) ≡ Some (said x))
    → drafts_say Inner more ≡ Some ms → drafts_say Inner (if_draft make o more) ≡ Some (if_said said o ms)
if-says make said None more ms each e = e
if-says make said (Some x) more ms each e = ap (λ o. and_children o (drafts_say Inner more)) (each x) ∙ ap (and_children (Some (said x))) e

sound-says : (size : ℕ) (duration rate : Option (List ℕ)) (bits channels : ℕ)
    → tag_says Inner (tag [] (codes "res") (sound_attrs size duration rate bits channels)) ≡ Some (said_name didl_space (codes "res"), sound_said size duration rate bits channels)
sound-says size None None bits channels = refl
sound-says size None (Some rate) bits channels = refl
sound-says size (Some duration) None bits channels = refl
sound-says size (Some duration) (Some rate) bits channels = refl

resource-says : (base : List ℕ) (id : ℕ) (track : TrackContent) → draft_says Inner (resource_draft base id track) ≡ Some (resource_said base id track)
resource-says base id track =
    ap (λ o. of_tag o (Some (joined (place base id) Childless))) (sound-says track.size (duration_value track.duration) (rate_value track.rate) track.bits track.channels)

back-says : (base : List ℕ) (row : ObjectRow) (track : TrackContent) → drafts_say Inner (item_back base row track) ≡ Some (back_said base row track)
back-says base row track =
    ap (λ o. and_children (Some (number_in (codes "objectUpdateID") row.object_update)) (and_children o (Some Childless))) (resource-says base row.id track)

work-says : (track : TrackContent) (more : Drafts) (ms : Meanings) → drafts_say Inner more ≡ Some ms → drafts_say Inner (item_work track more) ≡ Some (work_said track ms)
work-says track more ms e =
    let three = if_draft (number_draft (codes "originalTrackNumber")) track.number more in
    let two = if_draft (upnp_draft (codes "genre")) track.genre three in
    let one = if_draft (upnp_draft (codes "album")) track.album two in
    let three_said = if_said (number_in (codes "originalTrackNumber")) track.number ms in
    let two_said = if_said (upnp_said (codes "genre")) track.genre three_said in
    let one_said = if_said (upnp_said (codes "album")) track.album two_said in
    if-says (upnp_draft (codes "artist")) (upnp_said (codes "artist")) track.artist one one_said (upnp-says (codes "artist"))
    (if-says (upnp_draft (codes "album")) (upnp_said (codes "album")) track.album two two_said (upnp-says (codes "album"))
    (if-says (upnp_draft (codes "genre")) (upnp_said (codes "genre")) track.genre three three_said (upnp-says (codes "genre"))
    (if-says (number_draft (codes "originalTrackNumber")) (number_in (codes "originalTrackNumber")) track.number more ms (λ n. upnp-says (codes "originalTrackNumber") (decimal n)) e)))

abbrev item_of_work : ObjectRow → TrackContent → Option Meanings → Option Meaning
item_of_work row track more =
    of_tag (Some (said_name didl_space (codes "item"), object_said row []))
    (and_children (Some (text_said dc_space (codes "title") track.title)) (and_children (Some (upnp_said (codes "class") track_class)) more))

item-says : (base : List ℕ) (row : ObjectRow) (track : TrackContent) → draft_says Scopes (item_draft base row track) ≡ Some (item_said base row track)
item-says base row track =
    ap (item_of_work row track) (work-says track (item_back base row track) (back_said base row track) (back-says base row track))

row-says : (base : List ℕ) (row : ObjectRow) (content : Content) (trackers : Option Trackers) (more : Drafts) (ms : Meanings) → drafts_say Scopes more ≡ Some ms
    → drafts_say Scopes (row_then base row content trackers more) ≡ Some (row_meant base row content trackers ms)
row-says base row (Folder title) None more ms e = e
row-says base row (Folder title) (Some trackers) more ms e =
    ap (λ o. and_children o (drafts_say Scopes more)) (container-says row title trackers) ∙ ap (and_children (Some (container_said row title trackers))) e
row-says base row (Track track) trackers more ms e =
    ap (λ o. and_children o (drafts_say Scopes more)) (item-says base row track) ∙ ap (and_children (Some (item_said base row track))) e

rows-say : (base : List ℕ) (rows : List ObjectRow) → drafts_say Scopes (rows_inside base rows) ≡ Some (rows_meant base rows)
rows-say base [] = refl
rows-say base (row ∷ rows) = row-says base row row.content row.trackers (rows_inside base rows) (rows_meant base rows) (rows-say base rows)

root-says : tag_says [] root_tag ≡ Some (said_name didl_space (codes "DIDL-Lite"), [])
unfolding didl_space dc_space upnp_space
root-says = refl

pub didl-says : (base : List ℕ) (rows : List ObjectRow) → draft_says [] (didl_draft base rows) ≡ Some (didl_said base rows)
didl-says base rows =
    ap (of_tag (tag_says [] root_tag)) (rows-say base rows) ∙ ap (λ o. of_tag o (Some (rows_meant base rows))) root-says

-- names are names
abbrev AName : List ℕ → Type 0
AName local = IsName local local

attr-can : (local value : List ℕ) → AName local → AreAllowed value → CanBeDraftAttr (plain_attr local value)
attr-can local value is allowed = record { name = without-prefix local is; value = allowed }

plain-can : (local value : List ℕ) → AName local → ArePlain value → CanBeDraftAttr (plain_attr local value)
plain-can local value is plain = attr-can local value is (allowed-plain value plain)

dc-can : (local text : List ℕ) → AName local → AreAllowed text → CanBeDraft (dc_draft local text)
dc-can local text is allowed =
    (record { name = behind-prefix 100 (codes "c") local (small-name 100 (codes "c") refl refl) is; attrs = tt }, (allowed, refl, tt))

upnp-can : (local text : List ℕ) → AName local → AreAllowed text → CanBeDraft (upnp_draft local text)
upnp-can local text is allowed =
    (record { name = behind-prefix 117 (codes "pnp") local (small-name 117 (codes "pnp") refl refl) is; attrs = tt }, (allowed, refl, tt))

number-can : (local : List ℕ) (n : ℕ) → AName local → n < 2 ^ 64 → CanBeDraft (number_draft local n)
number-can local n is h = upnp-can local (decimal n) is (allowed-plain (decimal n) (decimal-plain n h))

if-can : {X : Type 0} → (make : X → Draft) (o : Option X) (more : Drafts) → IfSome o (λ x. CanBeDraft (make x)) → CanBeDrafts more → CanBeDrafts (if_draft make o more)
if-can make None more each can = can
if-can make (Some x) more each can = (each, can)

if-attr-can : (local : List ℕ) (o : Option (List ℕ)) (more : List TagAttr) → AName local → IfSome o ArePlain → AllByRecursion CanBeDraftAttr more → AllByRecursion CanBeDraftAttr (if_attr local o more)
if-attr-can local None more is plain can = can
if-attr-can local (Some value) more is plain can = (plain-can local value is plain, can)

name-title : AName (codes "title")
name-title = small-name 116 (codes "itle") refl refl

name-class : AName (codes "class")
name-class = small-name 99 (codes "lass") refl refl

name-update : AName (codes "objectUpdateID")
name-update = small-name 111 (codes "bjectUpdateID") refl refl

object-can : (row : ObjectRow) (more : List TagAttr) → HasRanges row → AllByRecursion CanBeDraftAttr more → AllByRecursion CanBeDraftAttr (object_attrs row more)
object-can row more r can = (
  plain-can (codes "id") (decimal row.id) (small-name 105 (codes "d") refl refl) (decimal-plain row.id (omega (arith, r.id))),
  (
    plain-can (codes "parentID") (parent_text row.parent) (small-name 112 (codes "arentID") refl refl) (parent-plain row.parent r.parent),
    (plain-can (codes "restricted") (codes "1") (small-name 114 (codes "estricted") refl refl) refl, can),
  ),
)

class-plain : ArePlain container_class
unfolding container_class
class-plain = refl

track-plain : ArePlain track_class
unfolding track_class
track-plain = refl

container-can : (row : ObjectRow) (title : List ℕ) (trackers : Trackers) → HasRanges row → AreCounts trackers → AreAllowed title → CanBeDraft (container_draft row title trackers)
container-can row title trackers r n allowed = (
  record {
    name = without-prefix (codes "container") (small-name 99 (codes "ontainer") refl refl);
    attrs = object-can row (plain_attr (codes "searchable") (codes "1") ∷ plain_attr (codes "childCount") (decimal trackers.child_count) ∷ []) r (
      plain-can (codes "searchable") (codes "1") (small-name 115 (codes "earchable") refl refl) refl,
      (plain-can (codes "childCount") (decimal trackers.child_count) (small-name 99 (codes "hildCount") refl refl) (decimal-plain trackers.child_count (omega (arith, n.child_count))), tt),
    );
  },
  (
    dc-can (codes "title") title name-title allowed,
    (
      upnp-can (codes "class") container_class name-class (allowed-plain container_class class-plain),
      (
        number-can (codes "objectUpdateID") row.object_update name-update (omega (arith, r.object_update)),
        (
          number-can (codes "containerUpdateID") trackers.container_update (small-name 99 (codes "ontainerUpdateID") refl refl) (omega (arith, n.container_update)),
          (number-can (codes "totalDeletedChildCount") trackers.deleted (small-name 116 (codes "otalDeletedChildCount") refl refl) (omega (arith, n.deleted)), tt),
        ),
      ),
    ),
  ),
)

duration-can : (o : Option ℕ) → IfSome o (λ n. n < 2 ^ 64) → IfSome (duration_value o) ArePlain
duration-can None h = tt
duration-can (Some ms) h = duration-plain ms h

rate-can : (rate : ℕ) → rate < 2 ^ 32 → IfSome (rate_value rate) ArePlain
rate-can rate h = by (nat_eq rate 0) where
  by : (t : Bool) → IfSome (cond t None (Some (decimal rate))) ArePlain
  by true = tt
  by false = decimal-plain rate (omega (arith, h))

resource-can : (base : List ℕ) (id : ℕ) (track : TrackContent) → id < 2 ^ 64 → AreTrackNumbers track → AreAllowed base → CanBeDraft (resource_draft base id track)
resource-can base id track h n allowed = (
  record {
    name = without-prefix (codes "res") (small-name 114 (codes "es") refl refl);
    attrs = (
      plain-can (codes "protocolInfo") (codes "http-get:*:audio/flac:*") (small-name 112 (codes "rotocolInfo") refl refl) refl,
      (
        plain-can (codes "size") (decimal track.size) (small-name 115 (codes "ize") refl refl) (decimal-plain track.size n.size),
        if-attr-can (codes "duration") (duration_value track.duration) (if_attr (codes "sampleFrequency") (rate_value track.rate) last) (small-name 100 (codes "uration") refl refl) (duration-can track.duration n.duration)
            (if-attr-can (codes "sampleFrequency") (rate_value track.rate) last (small-name 115 (codes "ampleFrequency") refl refl) (rate-can track.rate n.rate) (
              plain-can (codes "bitsPerSample") (decimal track.bits) (small-name 98 (codes "itsPerSample") refl refl) (decimal-plain track.bits (omega (arith, n.bits))),
              (plain-can (codes "nrAudioChannels") (decimal track.channels) (small-name 110 (codes "rAudioChannels") refl refl) (decimal-plain track.channels (omega (arith, n.channels))), tt),
            )),
      ),
    );
  },
  (allowed-append base (codes "/media/" ++ decimal id) allowed (allowed-plain (codes "/media/" ++ decimal id) (plain-append (codes "/media/") (decimal id) refl (decimal-plain id h))), refl, tt),
)
  where
    last : List TagAttr
    last = plain_attr (codes "bitsPerSample") (decimal track.bits) ∷ plain_attr (codes "nrAudioChannels") (decimal track.channels) ∷ []

each-of : {X : Type 0} → (P Q : X → Type 0) (o : Option X) → IfSome o P → ((x : X) → P x → Q x) → IfSome o Q
each-of P Q None is all = tt
each-of P Q (Some x) is all = all x is

item-can : (base : List ℕ) (row : ObjectRow) (track : TrackContent) → HasRanges row → AreTrackNumbers track → AreTrackTexts track → AreAllowed base → CanBeDraft (item_draft base row track)
item-can base row track r n t allowed = (
  record { name = without-prefix (codes "item") (small-name 105 (codes "tem") refl refl); attrs = object-can row [] r tt },
  (
    dc-can (codes "title") track.title name-title t.title,
    (
      upnp-can (codes "class") track_class name-class (allowed-plain track_class track-plain),
      if-can (upnp_draft (codes "artist")) track.artist one (each-of AreAllowed (λ x. CanBeDraft (upnp_draft (codes "artist") x)) track.artist t.artist (λ x a. upnp-can (codes "artist") x (small-name 97 (codes "rtist") refl refl) a))
          (if-can (upnp_draft (codes "album")) track.album two (each-of AreAllowed (λ x. CanBeDraft (upnp_draft (codes "album") x)) track.album t.album (λ x a. upnp-can (codes "album") x (small-name 97 (codes "lbum") refl refl) a))
          (if-can (upnp_draft (codes "genre")) track.genre three (each-of AreAllowed (λ x. CanBeDraft (upnp_draft (codes "genre") x)) track.genre t.genre (λ x a. upnp-can (codes "genre") x (small-name 103 (codes "enre") refl refl) a))
          (if-can (number_draft (codes "originalTrackNumber")) track.number back
          (each-of (λ k. k < 2 ^ 32) (λ k. CanBeDraft (number_draft (codes "originalTrackNumber") k)) track.number n.number
          (λ k h. number-can (codes "originalTrackNumber") k (small-name 111 (codes "riginalTrackNumber") refl refl) (omega (arith, h)))) (
            number-can (codes "objectUpdateID") row.object_update name-update (omega (arith, r.object_update)),
            (resource-can base row.id track (omega (arith, r.id)) n allowed, tt),
          )))),
    ),
  ),
)
  where
    back : Drafts
    back = item_back base row track

    three : Drafts
    three = if_draft (number_draft (codes "originalTrackNumber")) track.number back

    two : Drafts
    two = if_draft (upnp_draft (codes "genre")) track.genre three

    one : Drafts
    one = if_draft (upnp_draft (codes "album")) track.album two

row-can : (base : List ℕ) (row : ObjectRow) (content : Content) (trackers : Option Trackers) (more : Drafts) → AreAllowed base → HasRanges row → HasNumbers content → IfSome trackers AreCounts → HasAllowedTexts content
    → CanBeDrafts more → CanBeDrafts (row_then base row content trackers more)
row-can base row (Folder title) None more allowed r n c t can = can
row-can base row (Folder title) (Some trackers) more allowed r n c t can = (container-can row title trackers r c t, can)
row-can base row (Track track) trackers more allowed r n c t can = (item-can base row track r n t allowed, can)

rows-can : (base : List ℕ) (rows : List ObjectRow) → AreAllowed base → AllByRecursion IsWritable rows → CanBeDrafts (rows_inside base rows)
rows-can base [] allowed each = tt
rows-can base (row ∷ rows) allowed each =
    let w = each.0 in
    row-can base row row.content row.trackers (rows_inside base rows) allowed w.ranges w.ranges.numbers w.ranges.trackers w.texts (rows-can base rows allowed each.1)

spaces-plain : ArePlain didl_space × ArePlain dc_space × ArePlain upnp_space
unfolding didl_space dc_space upnp_space
spaces-plain = (refl, refl, refl)

declares-can : (first : ℕ) (rest value : List ℕ) → AName (first ∷ rest) → ArePlain value → CanBeDraftAttr (record { name = record { prefix = codes "xmlns"; local = first ∷ rest }; value = value })
declares-can first rest value is plain =
    record { name = behind-prefix 120 (codes "mlns") (first ∷ rest) (small-name 120 (codes "mlns") refl refl) is; value = allowed-plain value plain }

pub didl-can : (base : List ℕ) (rows : List ObjectRow) → AreAllowed base → AllByRecursion IsWritable rows → CanBeDraft (didl_draft base rows)
didl-can base rows allowed each = (
  record {
    name = without-prefix (codes "DIDL-Lite") (small-name 68 (codes "IDL-Lite") refl refl);
    attrs = (
      plain-can (codes "xmlns") didl_space (small-name 120 (codes "mlns") refl refl) spaces-plain.0,
      (
        declares-can 100 (codes "c") dc_space (small-name 100 (codes "c") refl refl) spaces-plain.1,
        (declares-can 117 (codes "pnp") upnp_space (small-name 117 (codes "pnp") refl refl) spaces-plain.2, tt),
      ),
    );
  },
  rows-can base rows allowed each,
)

-- no more than three elements are open
max-within : (m n k : ℕ) → m ≤ k → n ≤ k → max m n ≤ k
max-within m n k a b = grind arith

if-deep : {X : Type 0} → (make : X → Draft) (o : Option X) (more : Drafts) → ((x : X) → draft_depth (make x) ≤ 1) → drafts_depth more ≤ 1 → drafts_depth (if_draft make o more) ≤ 1
if-deep make None more each h = h
if-deep make (Some x) more each h = max-within (draft_depth (make x)) (drafts_depth more) 1 (each x) h

work-deep : (track : TrackContent) (more : Drafts) → drafts_depth more ≤ 1 → drafts_depth (item_work track more) ≤ 1
work-deep track more h =
    if-deep (upnp_draft (codes "artist")) track.artist one (λ x. omega arith)
    (if-deep (upnp_draft (codes "album")) track.album two (λ x. omega arith)
    (if-deep (upnp_draft (codes "genre")) track.genre three (λ x. omega arith) (if-deep (number_draft (codes "originalTrackNumber")) track.number more (λ x. omega arith) h)))
  where
    three : Drafts
    three = if_draft (number_draft (codes "originalTrackNumber")) track.number more

    two : Drafts
    two = if_draft (upnp_draft (codes "genre")) track.genre three

    one : Drafts
    one = if_draft (upnp_draft (codes "album")) track.album two

row-deep : (base : List ℕ) (row : ObjectRow) (content : Content) (trackers : Option Trackers) (more : Drafts) → drafts_depth more ≤ 2 → drafts_depth (row_then base row content trackers more) ≤ 2
row-deep base row (Folder title) None more h = h
row-deep base row (Folder title) (Some trackers) more h = max-within 2 (drafts_depth more) 2 (omega arith) h
row-deep base row (Track track) trackers more h =
    let work : ℕ = drafts_depth (item_work track (item_back base row track)) in
    max-within (suc (max 1 (max 1 work))) (drafts_depth more) 2 (one-more work (work-deep track (item_back base row track) (omega arith))) h
  where
    one-more : (n : ℕ) → n ≤ 1 → suc (max 1 (max 1 n)) ≤ 2
    one-more n h = grind arith

rows-deep : (base : List ℕ) (rows : List ObjectRow) → drafts_depth (rows_inside base rows) ≤ 2
rows-deep base [] = omega arith
rows-deep base (row ∷ rows) = row-deep base row row.content row.trackers (rows_inside base rows) (rows-deep base rows)

pub didl-deep : (base : List ℕ) (rows : List ObjectRow) → draft_depth (didl_draft base rows) ≤ 3
didl-deep base rows = let h = rows-deep base rows in omega (arith, h)
