-- Rows as drafts of elements, and that what is written of rows is what is written of the drafts.
use Rattle.std.proofs.Common.{◌≡◌, ℕ, ◌^◌, ◌<◌, nat_eq, Bool, true, false, cond, Option, Some, None, List, [], ◌∷◌, ◌++◌, codes, refl, sym, ap, ◌∙◌, arith, append_assoc, append-nil}
use Rattle.std.specs.Prelude.{IfSome}
use Rattle.std.specs.List.{AllByRecursion}
use Rattle.std.specs.Fmt.{decimal}
use Rattle.std.specs.Option.{option_map}
use Rattle.std.proofs.lemmas.Grind.{flat_map-append}
use Rattle.cds_base.specs.Escape.{escaped, escaped_byte}
use Rattle.cds_object.specs.Writing.{number_attribute, text_element, number_element}
use Rattle.cds_markup.specs.declared.tag.TagAttr.{TagAttr}
use Rattle.cds_markup.specs.declared.tag.Tag.{Tag}
use Rattle.cds_markup.specs.Written.{written_attr, written_attrs, written_start}
use Rattle.cds_markup.specs.Drafts.{Draft, Drafts, Tagged, Done, TextThen, DraftThen, drafted, drafted_in}
use Rattle.cds_object.specs.declared.content.Content.{Content}
use Rattle.cds_object.specs.declared.content.TrackContent.{TrackContent}
use Rattle.cds_object.specs.declared.content.Content.TheVariants.{Folder, Track}
use Rattle.cds_object.specs.declared.row.Trackers.{Trackers}
use Rattle.cds_object.specs.Object.{ObjectRow}
use Rattle.cds_object.specs.Fragment.{if_there, parent_text, duration_text, object_attributes, duration_attribute, rate_attribute, item_front}
use Rattle.cds_didl.specs.Spelled.{didl_space, dc_space, upnp_space, container_class, track_class}
use Rattle.cds_didl.specs.Filter.{wants_resource}
use Rattle.cds_didl.specs.Fragment.{container_attributes, container_start, trackers_wanted, container_wanted, sound_wanted, resource_attributes_wanted, place_text, resource_wanted, work_wanted, item_wanted, text_of, fragment_of, didl_start, fragments, didl_text}
use Rattle.cds_didl.specs.ReadBack.{AreTrackNumbers, HasNumbers, AreCounts, HasRanges}
use Rattle.cds_base.proofs.Plain.{ArePlain, escaped-plain, plain-append, decimal-digits}
use Rattle.cds_didl.proofs.DurationRead.{duration-plain}

-- tags, elements of a text alone, and what may be missing
abbrev pub tag : List ℕ → List ℕ → List TagAttr → Tag
tag prefix local attrs = record { name = record { prefix = prefix; local = local }; attrs = attrs }

abbrev pub plain_attr : List ℕ → List ℕ → TagAttr
plain_attr local value = record { name = record { prefix = []; local = local }; value = value }

abbrev pub text_draft : List ℕ → List ℕ → List ℕ → Draft
text_draft prefix local text = Tagged (tag prefix local []) (TextThen text Done)

abbrev pub dc_draft : List ℕ → List ℕ → Draft
dc_draft local text = text_draft (codes "dc") local text

abbrev pub upnp_draft : List ℕ → List ℕ → Draft
upnp_draft local text = text_draft (codes "upnp") local text

abbrev pub number_draft : List ℕ → ℕ → Draft
number_draft local n = upnp_draft local (decimal n)

abbrev pub if_draft : {X : Type 0} → (X → Draft) → Option X → Drafts → Drafts
if_draft make None more = more
if_draft make (Some x) more = DraftThen (make x) more

abbrev pub if_attr : List ℕ → Option (List ℕ) → List TagAttr → List TagAttr
if_attr local None more = more
if_attr local (Some value) more = plain_attr local value ∷ more

-- a container
abbrev pub object_attrs : ObjectRow → List TagAttr → List TagAttr
object_attrs row more =
    plain_attr (codes "id") (decimal row.id) ∷ plain_attr (codes "parentID") (parent_text row.parent) ∷ plain_attr (codes "restricted") (codes "1") ∷ more

abbrev pub container_attrs : ObjectRow → ℕ → List TagAttr
container_attrs row children = object_attrs row (plain_attr (codes "searchable") (codes "1") ∷ plain_attr (codes "childCount") (decimal children) ∷ [])

abbrev pub container_inside : ObjectRow → List ℕ → Trackers → Drafts
container_inside row title trackers =
    DraftThen (dc_draft (codes "title") title)
    (DraftThen (upnp_draft (codes "class") container_class)
    (DraftThen (number_draft (codes "objectUpdateID") row.object_update)
    (DraftThen (number_draft (codes "containerUpdateID") trackers.container_update)
    (DraftThen (number_draft (codes "totalDeletedChildCount") trackers.deleted) Done))))

abbrev pub container_draft : ObjectRow → List ℕ → Trackers → Draft
container_draft row title trackers = Tagged (tag [] (codes "container") (container_attrs row trackers.child_count)) (container_inside row title trackers)

-- an item
abbrev pub rate_value : ℕ → Option (List ℕ)
rate_value rate = cond (nat_eq rate 0) None (Some (decimal rate))

abbrev pub duration_value : Option ℕ → Option (List ℕ)
duration_value duration = option_map duration_text duration

abbrev pub sound_attrs : ℕ → Option (List ℕ) → Option (List ℕ) → ℕ → ℕ → List TagAttr
sound_attrs size duration rate bits channels =
    plain_attr (codes "protocolInfo") (codes "http-get:*:audio/flac:*") ∷ plain_attr (codes "size") (decimal size)
    ∷ if_attr (codes "duration") duration
    (if_attr (codes "sampleFrequency") rate (plain_attr (codes "bitsPerSample") (decimal bits) ∷ plain_attr (codes "nrAudioChannels") (decimal channels) ∷ []))

abbrev pub resource_attrs : TrackContent → List TagAttr
resource_attrs track = sound_attrs track.size (duration_value track.duration) (rate_value track.rate) track.bits track.channels

abbrev pub place : List ℕ → ℕ → List ℕ
place base id = base ++ (codes "/media/" ++ decimal id)

abbrev pub resource_draft : List ℕ → ℕ → TrackContent → Draft
resource_draft base id track = Tagged (tag [] (codes "res") (resource_attrs track)) (TextThen (place base id) Done)

abbrev pub item_back : List ℕ → ObjectRow → TrackContent → Drafts
item_back base row track = DraftThen (number_draft (codes "objectUpdateID") row.object_update) (DraftThen (resource_draft base row.id track) Done)

abbrev pub item_work : TrackContent → Drafts → Drafts
item_work track more =
    if_draft (upnp_draft (codes "artist")) track.artist
    (if_draft (upnp_draft (codes "album")) track.album
    (if_draft (upnp_draft (codes "genre")) track.genre (if_draft (number_draft (codes "originalTrackNumber")) track.number more)))

abbrev pub item_inside : List ℕ → ObjectRow → TrackContent → Drafts
item_inside base row track =
    DraftThen (dc_draft (codes "title") track.title) (DraftThen (upnp_draft (codes "class") track_class) (item_work track (item_back base row track)))

abbrev pub item_draft : List ℕ → ObjectRow → TrackContent → Draft
item_draft base row track = Tagged (tag [] (codes "item") (object_attrs row [])) (item_inside base row track)

-- rows in a document
abbrev pub row_then : List ℕ → ObjectRow → Content → Option Trackers → Drafts → Drafts
row_then base row (Folder title) None more = more
row_then base row (Folder title) (Some trackers) more = DraftThen (container_draft row title trackers) more
row_then base row (Track track) trackers more = DraftThen (item_draft base row track) more

abbrev pub rows_inside : List ℕ → List ObjectRow → Drafts
rows_inside base [] = Done
rows_inside base (row ∷ rows) = row_then base row row.content row.trackers (rows_inside base rows)

abbrev pub root_tag : Tag
root_tag =
    tag [] (codes "DIDL-Lite")
    (plain_attr (codes "xmlns") didl_space
    ∷ record { name = record { prefix = codes "xmlns"; local = codes "dc" }; value = dc_space }
    ∷ record { name = record { prefix = codes "xmlns"; local = codes "upnp" }; value = upnp_space }
    ∷ [])

abbrev pub didl_draft : List ℕ → List ObjectRow → Draft
didl_draft base rows = Tagged root_tag (rows_inside base rows)

-- elements of a text
element-shape : (a n b t c : List ℕ) → (((((a ++ n) ++ b) ++ t) ++ c) ++ n) ++ b ≡ (a ++ (n ++ b)) ++ ((t ++ []) ++ (c ++ (n ++ b)))
element-shape a n b t c = simp (append_assoc, append-nil)

abbrev element_text : List ℕ → List ℕ → List ℕ
element_text name t = (codes "<" ++ (name ++ codes ">")) ++ ((t ++ []) ++ (codes "</" ++ (name ++ codes ">")))

text-is : (name text : List ℕ) → text_element name text ≡ element_text name (escaped text)
unfolding text_element
text-is name text = element-shape (codes "<") name (codes ">") (escaped text) (codes "</")

pub decimal-plain : (n : ℕ) → n < 2 ^ 64 → ArePlain (decimal n)
decimal-plain n h = (decimal-digits n h).plain

number-is : (name : List ℕ) (n : ℕ) → n < 2 ^ 64 → number_element name n ≡ element_text name (escaped (decimal n))
unfolding number_element
number-is name n h =
    element-shape (codes "<") name (codes ">") (decimal n) (codes "</") ∙ ap (element_text name) (sym (escaped-plain (decimal n) (decimal-plain n h)))

if-text : {X : Type 0} → (piece : X → List ℕ) (make : X → Draft) (o : Option X) (more : Drafts) → IfSome o (λ x. piece x ≡ drafted (make x)) → if_there piece o ++ drafted_in more ≡ drafted_in (if_draft make o more)
if-text piece make None more same = refl
if-text piece make (Some x) more same = ap (λ t. t ++ drafted_in more) same

each-so : {X : Type 0} → (P : X → Type 0) (o : Option X) → ((x : X) → P x) → IfSome o P
each-so P None all = tt
each-so P (Some x) all = all x

each-of : {X : Type 0} → (P Q : X → Type 0) (o : Option X) → IfSome o P → ((x : X) → P x → Q x) → IfSome o Q
each-of P Q None is all = tt
each-of P Q (Some x) is all = all x is

-- attributes
attr-is : (local value : List ℕ) → ArePlain value → written_attr (plain_attr local value) ≡ codes " " ++ (local ++ (codes "=\"" ++ (value ++ codes "\"")))
attr-is local value plain = ap (λ v. codes " " ++ (local ++ (codes "=\"" ++ (v ++ codes "\"")))) (escaped-plain value plain)

number-attr-shape : (a n b d c : List ℕ) → (((a ++ n) ++ b) ++ d) ++ c ≡ a ++ (n ++ (b ++ (d ++ c)))
number-attr-shape a n b d c = simp append_assoc

number-attr : (local : List ℕ) (n : ℕ) → n < 2 ^ 64 → number_attribute local n ≡ written_attr (plain_attr local (decimal n))
unfolding number_attribute
number-attr local n h =
    number-attr-shape (codes " ") local (codes "=\"") (decimal n) (codes "\"") ∙ sym (attr-is local (decimal n) (decimal-plain n h))

object-shape : (a i q b p c m : List ℕ) → ((((a ++ i) ++ (q ++ b)) ++ p) ++ (q ++ c)) ++ m ≡ (a ++ (i ++ q)) ++ ((b ++ (p ++ q)) ++ (c ++ m))
object-shape a i q b p c m = simp append_assoc

wide : (n k : ℕ) → n < k → k < 2 ^ 64 → n < 2 ^ 64
wide n k h low = omega (arith, h, low)

pub parent-plain : (parent : Option ℕ) → IfSome parent (λ n. n < 2 ^ 32) → ArePlain (parent_text parent)
parent-plain None h = refl
parent-plain (Some n) h = decimal-plain n (omega (arith, h))

object-is : (row : ObjectRow) (more : List TagAttr) → HasRanges row → object_attributes row ++ written_attrs more ≡ written_attrs (object_attrs row more)
unfolding object_attributes
object-is row more r =
    object-shape (codes " id=\"") (decimal row.id) (codes "\"") (codes " parentID=\"") (parent_text row.parent) (codes " restricted=\"1\"") (written_attrs more)
    ∙ ap (λ v. (codes " id=\"" ++ (v ++ codes "\"")) ++ ((codes " parentID=\"" ++ (parent_text row.parent ++ codes "\"")) ++ (codes " restricted=\"1\"" ++ written_attrs more)))
    (sym (escaped-plain (decimal row.id) (decimal-plain row.id (omega (arith, r.id)))))
    ∙ ap (λ v. (codes " id=\"" ++ (escaped (decimal row.id) ++ codes "\"")) ++ ((codes " parentID=\"" ++ (v ++ codes "\"")) ++ (codes " restricted=\"1\"" ++ written_attrs more)))
    (sym (escaped-plain (parent_text row.parent) (parent-plain row.parent r.parent)))

-- a container
three-shape : (o s n : List ℕ) → (o ++ s) ++ n ≡ o ++ (s ++ (n ++ []))
three-shape o s n = simp (append_assoc, append-nil)

container-attributes-are : (row : ObjectRow) (children : ℕ) → HasRanges row → children < 2 ^ 64 → container_attributes None row children ≡ written_attrs (container_attrs row children)
unfolding container_attributes
container-attributes-are row children r h =
    three-shape (object_attributes row) (codes " searchable=\"1\"") (number_attribute (codes "childCount") children)
    ∙ ap (λ n. object_attributes row ++ (codes " searchable=\"1\"" ++ (n ++ []))) (number-attr (codes "childCount") children h)
    ∙ object-is row (plain_attr (codes "searchable") (codes "1") ∷ plain_attr (codes "childCount") (decimal children) ∷ []) r

container-shape : (a A b T C U V W z : List ℕ) → (((((a ++ A) ++ b) ++ T) ++ C) ++ ((U ++ V) ++ W)) ++ z ≡ (a ++ (A ++ b)) ++ ((T ++ (C ++ (U ++ (V ++ (W ++ []))))) ++ z)
container-shape a A b T C U V W z = simp (append_assoc, append-nil)

abbrev container_built : List ℕ → List ℕ → List ℕ → List ℕ → List ℕ → List ℕ
container_built A T U V W =
    (codes "<container" ++ (A ++ codes ">")) ++ ((T ++ (codes "<upnp:class>object.container</upnp:class>" ++ (U ++ (V ++ (W ++ []))))) ++ codes "</container>")

pub container-is : (row : ObjectRow) (title : List ℕ) (trackers : Trackers) → HasRanges row → AreCounts trackers → container_wanted None row title trackers ≡ drafted (container_draft row title trackers)
unfolding container_wanted container_start trackers_wanted container_class
container-is row title trackers r n =
    let A = container_attributes None row trackers.child_count in
    let B = written_attrs (container_attrs row trackers.child_count) in
    let T = text_element (codes "dc:title") title in
    let U = number_element (codes "upnp:objectUpdateID") row.object_update in
    let V = number_element (codes "upnp:containerUpdateID") trackers.container_update in
    let W = number_element (codes "upnp:totalDeletedChildCount") trackers.deleted in
    let t = element_text (codes "dc:title") (escaped title) in
    let u = element_text (codes "upnp:objectUpdateID") (escaped (decimal row.object_update)) in
    let v = element_text (codes "upnp:containerUpdateID") (escaped (decimal trackers.container_update)) in
    container-shape (codes "<container") A (codes ">") T (codes "<upnp:class>object.container</upnp:class>") U V W (codes "</container>")
    ∙ ap (λ x. container_built x T U V W) (container-attributes-are row trackers.child_count r (omega (arith, n.child_count)))
    ∙ ap (λ x. container_built B x U V W) (text-is (codes "dc:title") title)
    ∙ ap (λ x. container_built B t x V W) (number-is (codes "upnp:objectUpdateID") row.object_update (omega (arith, r.object_update)))
    ∙ ap (λ x. container_built B t u x W) (number-is (codes "upnp:containerUpdateID") trackers.container_update (omega (arith, n.container_update)))
    ∙ ap (λ x. container_built B t u v x) (number-is (codes "upnp:totalDeletedChildCount") trackers.deleted (omega (arith, n.deleted)))

-- a resource
duration-attr : (ms : ℕ) → ms < 2 ^ 64 → duration_attribute ms ≡ written_attr (plain_attr (codes "duration") (duration_text ms))
unfolding duration_attribute
duration-attr ms h =
    append_assoc (codes " duration=\"") (duration_text ms) (codes "\"") ∙ sym (attr-is (codes "duration") (duration_text ms) (duration-plain ms h))

if-duration : (o : Option ℕ) (more : List TagAttr) → IfSome o (λ n. n < 2 ^ 64) → if_there duration_attribute o ++ written_attrs more ≡ written_attrs (if_attr (codes "duration") (duration_value o) more)
if-duration None more h = refl
if-duration (Some ms) more h = ap (λ t. t ++ written_attrs more) (duration-attr ms h)

if-rate : (rate : ℕ) (more : List TagAttr) → rate < 2 ^ 32 → rate_attribute rate ++ written_attrs more ≡ written_attrs (if_attr (codes "sampleFrequency") (rate_value rate) more)
unfolding rate_attribute
if-rate rate more h = by (nat_eq rate 0) where
  by : (t : Bool) → cond t [] (number_attribute (codes "sampleFrequency") rate) ++ written_attrs more ≡ written_attrs (if_attr (codes "sampleFrequency") (cond t None (Some (decimal rate))) more)
  by true = refl
  by false = ap (λ t. t ++ written_attrs more) (number-attr (codes "sampleFrequency") rate (omega (arith, h)))

resource-shape : (p z d r b c : List ℕ) → (((p ++ z) ++ d) ++ r) ++ (b ++ c) ≡ p ++ (z ++ (d ++ (r ++ (b ++ (c ++ [])))))
resource-shape p z d r b c = simp (append_assoc, append-nil)

abbrev proto : List ℕ
proto = codes " protocolInfo=\"http-get:*:audio/flac:*\""

resource-attributes-are : (track : TrackContent) → AreTrackNumbers track → resource_attributes_wanted None track ≡ written_attrs (resource_attrs track)
unfolding resource_attributes_wanted sound_wanted
resource-attributes-are track n =
    let z = number_attribute (codes "size") track.size in
    let d = if_there duration_attribute track.duration in
    let r = rate_attribute track.rate in
    let b = number_attribute (codes "bitsPerSample") track.bits in
    let c = number_attribute (codes "nrAudioChannels") track.channels in
    let z1 = written_attr (plain_attr (codes "size") (decimal track.size)) in
    let b1 = written_attr (plain_attr (codes "bitsPerSample") (decimal track.bits)) in
    let last : List TagAttr = plain_attr (codes "bitsPerSample") (decimal track.bits) ∷ plain_attr (codes "nrAudioChannels") (decimal track.channels) ∷ [] in
    resource-shape proto z d r b c
    ∙ ap (λ x. proto ++ (x ++ (d ++ (r ++ (b ++ (c ++ [])))))) (number-attr (codes "size") track.size n.size)
    ∙ ap (λ x. proto ++ (z1 ++ (d ++ (r ++ (x ++ (c ++ [])))))) (number-attr (codes "bitsPerSample") track.bits (omega (arith, n.bits)))
    ∙ ap (λ x. proto ++ (z1 ++ (d ++ (r ++ (b1 ++ (x ++ [])))))) (number-attr (codes "nrAudioChannels") track.channels (omega (arith, n.channels)))
    ∙ ap (λ x. proto ++ (z1 ++ (d ++ x))) (if-rate track.rate last n.rate)
    ∙ ap (λ x. proto ++ (z1 ++ x)) (if-duration track.duration (if_attr (codes "sampleFrequency") (rate_value track.rate) last) n.duration)

place-is : (base : List ℕ) (id : ℕ) → id < 2 ^ 64 → place_text base id ≡ escaped (place base id)
unfolding place_text
place-is base id h =
    append_assoc (escaped base) (codes "/media/") (decimal id)
    ∙ ap (λ x. escaped base ++ x) (sym (escaped-plain (codes "/media/" ++ decimal id) (plain-append (codes "/media/") (decimal id) refl (decimal-plain id h))))
    ∙ sym (flat_map-append escaped_byte base (codes "/media/" ++ decimal id))

whole-shape : (a A b P z : List ℕ) → (((a ++ A) ++ b) ++ P) ++ z ≡ (a ++ (A ++ b)) ++ ((P ++ []) ++ z)
whole-shape a A b P z = simp (append_assoc, append-nil)

resource-is : (base : List ℕ) (id : ℕ) (track : TrackContent) → id < 2 ^ 64 → AreTrackNumbers track → resource_wanted None base id track ≡ drafted (resource_draft base id track)
unfolding resource_wanted
resource-is base id track h n =
    whole-shape (codes "<res") (resource_attributes_wanted None track) (codes ">") (place_text base id) (codes "</res>")
    ∙ ap (λ x. (codes "<res" ++ (x ++ codes ">")) ++ ((place_text base id ++ []) ++ codes "</res>")) (resource-attributes-are track n)
    ∙ ap (λ x. (codes "<res" ++ (written_attrs (resource_attrs track) ++ codes ">")) ++ ((x ++ []) ++ codes "</res>")) (place-is base id h)

-- an item
item-shape : (a O b T C A B G N U R z : List ℕ)
    → (((((((a ++ O) ++ b) ++ T) ++ C) ++ (((A ++ B) ++ G) ++ N)) ++ U) ++ R) ++ z ≡ (a ++ (O ++ b)) ++ ((T ++ (C ++ (A ++ (B ++ (G ++ (N ++ (U ++ (R ++ [])))))))) ++ z)
item-shape a O b T C A B G N U R z = simp (append_assoc, append-nil)

abbrev item_built : List ℕ → List ℕ → List ℕ → List ℕ
item_built O T more = (codes "<item" ++ (O ++ codes ">")) ++ ((T ++ (codes "<upnp:class>object.item.audioItem.musicTrack</upnp:class>" ++ more)) ++ codes "</item>")

pub item-is : (base : List ℕ) (row : ObjectRow) (track : TrackContent) → HasRanges row → AreTrackNumbers track → item_wanted None base row track ≡ drafted (item_draft base row track)
unfolding item_wanted item_front work_wanted wants_resource track_class
item-is base row track r n =
    let O = object_attributes row in
    let P = written_attrs (object_attrs row []) in
    let T = text_element (codes "dc:title") track.title in
    let t = element_text (codes "dc:title") (escaped track.title) in
    let A = if_there (text_element (codes "upnp:artist")) track.artist in
    let B = if_there (text_element (codes "upnp:album")) track.album in
    let G = if_there (text_element (codes "upnp:genre")) track.genre in
    let N = if_there (number_element (codes "upnp:originalTrackNumber")) track.number in
    let U = number_element (codes "upnp:objectUpdateID") row.object_update in
    let u = element_text (codes "upnp:objectUpdateID") (escaped (decimal row.object_update)) in
    let R = resource_wanted None base row.id track in
    let four = item_back base row track in
    let three = if_draft (number_draft (codes "originalTrackNumber")) track.number four in
    let two = if_draft (upnp_draft (codes "genre")) track.genre three in
    let one = if_draft (upnp_draft (codes "album")) track.album two in
    item-shape (codes "<item") O (codes ">") T (codes "<upnp:class>object.item.audioItem.musicTrack</upnp:class>") A B G N U R (codes "</item>")
    ∙ ap (λ x. item_built x T (A ++ (B ++ (G ++ (N ++ (U ++ (R ++ []))))))) (sym (append-nil O) ∙ object-is row [] r)
    ∙ ap (λ x. item_built P x (A ++ (B ++ (G ++ (N ++ (U ++ (R ++ []))))))) (text-is (codes "dc:title") track.title)
    ∙ ap (λ x. item_built P t (A ++ (B ++ (G ++ (N ++ (x ++ (R ++ []))))))) (number-is (codes "upnp:objectUpdateID") row.object_update (omega (arith, r.object_update)))
    ∙ ap (λ x. item_built P t (A ++ (B ++ (G ++ (N ++ (u ++ (x ++ []))))))) (resource-is base row.id track (omega (arith, r.id)) n)
    ∙ ap (λ x. item_built P t (A ++ (B ++ (G ++ x))))
    (if-text (number_element (codes "upnp:originalTrackNumber")) (number_draft (codes "originalTrackNumber")) track.number four
    (each-of (λ k. k < 2 ^ 32) (λ k. number_element (codes "upnp:originalTrackNumber") k ≡ drafted (number_draft (codes "originalTrackNumber") k)) track.number n.number
    (λ k h. number-is (codes "upnp:originalTrackNumber") k (omega (arith, h)))))
    ∙ ap (λ x. item_built P t (A ++ (B ++ x)))
    (if-text (text_element (codes "upnp:genre")) (upnp_draft (codes "genre")) track.genre three
    (each-so (λ x. text_element (codes "upnp:genre") x ≡ drafted (upnp_draft (codes "genre") x)) track.genre (text-is (codes "upnp:genre"))))
    ∙ ap (λ x. item_built P t (A ++ x))
    (if-text (text_element (codes "upnp:album")) (upnp_draft (codes "album")) track.album two
    (each-so (λ x. text_element (codes "upnp:album") x ≡ drafted (upnp_draft (codes "album") x)) track.album (text-is (codes "upnp:album"))))
    ∙ ap (λ x. item_built P t x)
    (if-text (text_element (codes "upnp:artist")) (upnp_draft (codes "artist")) track.artist one
    (each-so (λ x. text_element (codes "upnp:artist") x ≡ drafted (upnp_draft (codes "artist") x)) track.artist (text-is (codes "upnp:artist"))))

-- rows
row-is : (base : List ℕ) (row : ObjectRow) (content : Content) (trackers : Option Trackers) (more : Drafts) → HasRanges row → HasNumbers content → IfSome trackers AreCounts
    → text_of None base row content trackers ++ drafted_in more ≡ drafted_in (row_then base row content trackers more)
row-is base row (Folder title) None more r n c = refl
row-is base row (Folder title) (Some trackers) more r n c = ap (λ x. x ++ drafted_in more) (container-is row title trackers r c)
row-is base row (Track track) trackers more r n c = ap (λ x. x ++ drafted_in more) (item-is base row track r n)

rows-are : (base : List ℕ) (rows : List ObjectRow) → AllByRecursion HasRanges rows → fragments None base rows ≡ drafted_in (rows_inside base rows)
rows-are base [] each = refl
rows-are base (row ∷ rows) each =
    ap (λ x. fragment_of None base row ++ x) (rows-are base rows each.1) ∙ row-is base row row.content row.trackers (rows_inside base rows) each.0 each.0.numbers each.0.trackers

root-start : didl_start ≡ written_start root_tag
unfolding didl_start didl_space dc_space upnp_space
root-start = refl

pub didl-is : (base : List ℕ) (rows : List ObjectRow) → AllByRecursion HasRanges rows → didl_text None base rows ≡ drafted (didl_draft base rows)
unfolding didl_text
didl-is base rows each =
    append_assoc didl_start (fragments None base rows) (codes "</DIDL-Lite>")
    ∙ ap (λ x. x ++ (fragments None base rows ++ codes "</DIDL-Lite>")) root-start
    ∙ ap (λ x. written_start root_tag ++ (x ++ codes "</DIDL-Lite>")) (rows-are base rows each)
