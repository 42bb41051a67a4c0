-- What the elements of rows say is the rows.
use Rattle.std.proofs.Common.{◌≡◌, ◌==◌, ℕ, ◌^◌, ◌<◌, suc, Bool, true, false, cond, ◌&&◌, Option, Some, None, List, [], ◌∷◌, codes, length, filter, refl, sym, ap, ◌∙◌, arith, append-nil}
use Rattle.std.specs.Prelude.{IfSome, is_none}
use Rattle.std.specs.Fmt.{decimal}
use Rattle.std.specs.Str.{bytes_eq}
use Rattle.std.specs.Option.{option_and_then, option_map}
use Rattle.std.proofs.lemmas.Bool.Decides.{nat_tests}
use Rattle.cds_base.specs.Number.{number_below}
use Rattle.cds_markup.specs.Namespaces.{is_empty}
use Rattle.cds_markup.specs.Document.{Meaning, Meanings, TextThen, joined, End as Childless}
use Rattle.cds_markup.specs.Elements.{nodes_of}
use Rattle.cds_markup.specs.Children.{nodes_in, elements_in, texts_in, is_named, named, is_any, only_of}
use Rattle.cds_object.specs.declared.content.TrackContent.{TrackContent}
use Rattle.cds_object.specs.declared.content.Content.TheVariants.{Folder}
use Rattle.cds_object.specs.declared.row.Trackers.{Trackers}
use Rattle.cds_object.specs.Object.{ObjectRow}
use Rattle.cds_object.specs.Fragment.{parent_text}
use Rattle.cds_didl.specs.Spelled.{didl_space, dc_space, upnp_space, container_class, track_class}
use Rattle.cds_didl.specs.Duration.{◌>>=◌}
use Rattle.cds_didl.specs.Reading.{own_text, needed, maybe, number_said, number_needed, number_there, number_maybe, parent_in, parent_said, where_class, class_said, trackers_of, container_of}
use Rattle.cds_didl.specs.ReadBack.{AreCounts, HasRanges}
use Rattle.cds_base.proofs.Plain.{decimal-read}
use Rattle.cds_didl.proofs.DurationRead.{bind}
use Rattle.cds_didl.proofs.RowSays.{text_said, upnp_said, number_in, if_said, container_said, resource_said, work_said, back_said}

-- the text of an element of a text alone
no-empty : (b : ℕ) (xs : List ℕ) → is_empty (b ∷ xs) ≡ false
no-empty b xs = by (length xs) where
  by : (n : ℕ) → (suc n == 0) ≡ false
  by n = grind (arith, nat_tests)

pub alone : (text : List ℕ) → texts_in (nodes_of (joined text Childless)) ≡ text
alone [] = refl
alone (b ∷ text) = ap (λ t. texts_in (nodes_of (cond t Childless (TextThen (b ∷ text) Childless)))) (no-empty b text) ∙ append-nil (b ∷ text)

-- what must come once
pub needed-one : (space local text : List ℕ) (element : Meaning) → named space local (nodes_in element) ≡ text_said space local text ∷ [] → needed space local element ≡ Some text
needed-one space local text element e = ap (λ xs. option_map own_text (only_of xs)) e ∙ ap Some (alone text)

pub number-one : (local : List ℕ) (n : ℕ) (element : Meaning) → n < 2 ^ 32 → named upnp_space local (nodes_in element) ≡ number_in local n ∷ [] → number_needed local element ≡ Some n
number-one local n element h e =
    ap (option_and_then (number_below (2 ^ 32))) (needed-one upnp_space local (decimal n) element e) ∙ decimal-read (2 ^ 32) n (omega arith) h

pub same-bytes : (text : List ℕ) → bytes_eq text text ≡ true
same-bytes [] = refl
same-bytes (b ∷ text) = rw (same b, same-bytes text) refl where
  same : (b : ℕ) → (b == b) ≡ true
  same b = grind (arith, nat_tests)

pub class-one : (class : List ℕ) (element : Meaning) → named upnp_space (codes "class") (nodes_in element) ≡ upnp_said (codes "class") class ∷ [] → class_said class element ≡ Some tt
class-one class element e =
    ap (option_and_then (where_class class)) (needed-one upnp_space (codes "class") class element e) ∙ ap (λ t. cond t (Some tt) None) (same-bytes class)

-- the parent
pub parent-one : (id : ℕ) (parent : Option ℕ) → IfSome parent (λ n. n < 2 ^ 32) → is_none parent ≡ (id == 0) → parent_in id (parent_text parent) ≡ Some parent
parent-one id None h rooted = ap (λ t. cond t (Some None) (option_map Some (number_below (2 ^ 32) (codes "-1")))) (sym rooted)
parent-one id (Some p) h rooted =
    ap (λ t. cond t (cond (bytes_eq (decimal p) (codes "-1")) (Some None) None) (option_map Some (number_below (2 ^ 32) (decimal p)))) (sym rooted)
    ∙ ap (option_map Some) (decimal-read (2 ^ 32) p (omega arith) h)

-- a container
abbrev pub folder_row : ObjectRow → List ℕ → Trackers → ObjectRow
folder_row row title trackers = record { id = row.id; parent = row.parent; content = Folder title; object_update = row.object_update; trackers = Some trackers }

trackers-read : (row : ObjectRow) (title : List ℕ) (trackers : Trackers) → AreCounts trackers → trackers_of (container_said row title trackers) ≡ Some trackers
unfolding trackers_of didl_space dc_space upnp_space
trackers-read row title trackers n =
    let element = container_said row title trackers in
    bind (number_said (2 ^ 32) (codes "childCount") element) trackers.child_count _ (Some trackers) (decimal-read (2 ^ 32) trackers.child_count (omega arith) n.child_count)
    (bind (number_needed (codes "containerUpdateID") element) trackers.container_update _ (Some trackers) (number-one (codes "containerUpdateID") trackers.container_update element n.container_update refl)
    (bind (number_needed (codes "totalDeletedChildCount") element) trackers.deleted _ (Some trackers) (number-one (codes "totalDeletedChildCount") trackers.deleted element n.deleted refl) refl))

-- steps that all succeed
steps-six : {A B C D E F R : Type 0} (oa : Option A) (ob : A → Option B) (oc : Option C) (od : Option D) (oe : Option E) (of : Option F) (make : A → B → C → D → E → F → R) (a : A) (b : B) (c : C) (d : D) (e : E) (f : F)
    → oa ≡ Some a → ob a ≡ Some b → oc ≡ Some c → od ≡ Some d → oe ≡ Some e → of ≡ Some f
    → oa >>= (λ a. ob a >>= (λ b. oc >>= (λ c. od >>= (λ d. oe >>= (λ e. of >>= (λ f. Some (make a b c d e f))))))) ≡ Some (make a b c d e f)
steps-six oa ob oc od oe of make a b c d e f ea eb ec ed ee ef =
    let all = Some (make a b c d e f) in
    bind oa a (λ a. ob a >>= (λ b. oc >>= (λ c. od >>= (λ d. oe >>= (λ e. of >>= (λ f. Some (make a b c d e f))))))) all ea
    (bind (ob a) b (λ b. oc >>= (λ c. od >>= (λ d. oe >>= (λ e. of >>= (λ f. Some (make a b c d e f)))))) all eb
    (bind oc c (λ c. od >>= (λ d. oe >>= (λ e. of >>= (λ f. Some (make a b c d e f))))) all ec
    (bind od d (λ d. oe >>= (λ e. of >>= (λ f. Some (make a b c d e f)))) all ed
    (bind oe e (λ e. of >>= (λ f. Some (make a b c d e f))) all ee
    (bind of f (λ f. Some (make a b c d e f)) all ef refl)))))

container-title : (row : ObjectRow) (title : List ℕ) (trackers : Trackers) → named dc_space (codes "title") (nodes_in (container_said row title trackers)) ≡ text_said dc_space (codes "title") title ∷ []
unfolding didl_space dc_space upnp_space
container-title row title trackers = refl

container-class : (row : ObjectRow) (title : List ℕ) (trackers : Trackers) → named upnp_space (codes "class") (nodes_in (container_said row title trackers)) ≡ upnp_said (codes "class") container_class ∷ []
unfolding didl_space dc_space upnp_space
container-class row title trackers = refl

container-update : (row : ObjectRow) (title : List ℕ) (trackers : Trackers) → named upnp_space (codes "objectUpdateID") (nodes_in (container_said row title trackers)) ≡ number_in (codes "objectUpdateID") row.object_update ∷ []
unfolding didl_space dc_space upnp_space
container-update row title trackers = refl

pub container-read : (row : ObjectRow) (title : List ℕ) (trackers : Trackers) → HasRanges row → AreCounts trackers → container_of (container_said row title trackers) ≡ Some (folder_row row title trackers)
unfolding container_of
container-read row title trackers r n =
    let element = container_said row title trackers in
    steps-six (number_said (2 ^ 32) (codes "id") element) (λ id. parent_said id element) (needed dc_space (codes "title") element) (class_said container_class element)
    (number_needed (codes "objectUpdateID") element) (trackers_of element)
    (λ id parent title class update trackers. record { id = id; parent = parent; content = Folder title; object_update = update; trackers = Some trackers })
    row.id row.parent title tt row.object_update trackers
    (decimal-read (2 ^ 32) row.id (omega arith) r.id) (parent-one row.id row.parent r.parent r.is.rooted)
    (needed-one dc_space (codes "title") title element (container-title row title trackers))
    (class-one container_class element (container-class row title trackers))
    (number-one (codes "objectUpdateID") row.object_update element r.object_update (container-update row title trackers))
    (trackers-read row title trackers n)

-- the children of an item, of which some may be missing
abbrev pub items : Meanings → List Meaning
items ms = elements_in (nodes_of ms)

abbrev pub if_list : {X : Type 0} → (X → Meaning) → Option X → List Meaning
if_list said None = []
if_list said (Some x) = said x ∷ []

passed : {X : Type 0} → (p : Meaning → Bool) (said : X → Meaning) (o : Option X) (ms : Meanings) → ((x : X) → p (said x) ≡ false) → filter p (items (if_said said o ms)) ≡ filter p (items ms)
passed p said None ms none = refl
passed p said (Some x) ms none = ap (λ t. cond t (said x ∷ filter p (items ms)) (filter p (items ms))) (none x)

found : {X : Type 0} → (p : Meaning → Bool) (said : X → Meaning) (o : Option X) (ms : Meanings) → ((x : X) → p (said x) ≡ true) → filter p (items ms) ≡ [] → filter p (items (if_said said o ms)) ≡ if_list said o
found p said None ms all none = none
found p said (Some x) ms all none = ap (λ t. cond t (said x ∷ filter p (items ms)) (filter p (items ms))) (all x) ∙ ap (λ xs. said x ∷ xs) none

abbrev is_upnp : List ℕ → Meaning → Bool
is_upnp local = is_named upnp_space local

-- names that differ, and the same
pub other-name : (space local name text : List ℕ) → bytes_eq name local ≡ false → is_named space local (upnp_said name text) ≡ false
other-name space local name text e = ap (λ t. bytes_eq upnp_space space && t) e ∙ by (bytes_eq upnp_space space) where
  by : (t : Bool) → (t && false) ≡ false
  by t = grind arith

this-name : (local text : List ℕ) → is_upnp local (upnp_said local text) ≡ true
this-name local text = ap (λ t. t && bytes_eq local local) (same-bytes upnp_space) ∙ same-bytes local

-- the work, of which a name is found alone
pub none-of-work : (space local : List ℕ) (track : TrackContent) (ms : Meanings)
    → bytes_eq (codes "artist") local ≡ false → bytes_eq (codes "album") local ≡ false → bytes_eq (codes "genre") local ≡ false → bytes_eq (codes "originalTrackNumber") local ≡ false
    → filter (is_named space local) (items (work_said track ms)) ≡ filter (is_named space local) (items ms)
none-of-work space local track ms a b c d =
    let p = is_named space local in
    let three = if_said (number_in (codes "originalTrackNumber")) track.number ms in
    let two = if_said (upnp_said (codes "genre")) track.genre three in
    let one = if_said (upnp_said (codes "album")) track.album two in
    passed p (upnp_said (codes "artist")) track.artist one (λ x. other-name space local (codes "artist") x a)
    ∙ passed p (upnp_said (codes "album")) track.album two (λ x. other-name space local (codes "album") x b)
    ∙ passed p (upnp_said (codes "genre")) track.genre three (λ x. other-name space local (codes "genre") x c)
    ∙ passed p (number_in (codes "originalTrackNumber")) track.number ms (λ n. other-name space local (codes "originalTrackNumber") (decimal n) d)

pub artist-of : (track : TrackContent) (ms : Meanings) → filter (is_upnp (codes "artist")) (items ms) ≡ []
    → filter (is_upnp (codes "artist")) (items (work_said track ms)) ≡ if_list (upnp_said (codes "artist")) track.artist
artist-of track ms none =
    let p = is_upnp (codes "artist") in
    let three = if_said (number_in (codes "originalTrackNumber")) track.number ms in
    let two = if_said (upnp_said (codes "genre")) track.genre three in
    let one = if_said (upnp_said (codes "album")) track.album two in
    found p (upnp_said (codes "artist")) track.artist one (λ x. this-name (codes "artist") x)
    (passed p (upnp_said (codes "album")) track.album two (λ x. other-name upnp_space (codes "artist") (codes "album") x refl)
    ∙ passed p (upnp_said (codes "genre")) track.genre three (λ x. other-name upnp_space (codes "artist") (codes "genre") x refl)
    ∙ passed p (number_in (codes "originalTrackNumber")) track.number ms (λ n. other-name upnp_space (codes "artist") (codes "originalTrackNumber") (decimal n) refl)
    ∙ none)

pub album-of : (track : TrackContent) (ms : Meanings) → filter (is_upnp (codes "album")) (items ms) ≡ []
    → filter (is_upnp (codes "album")) (items (work_said track ms)) ≡ if_list (upnp_said (codes "album")) track.album
album-of track ms none =
    let p = is_upnp (codes "album") in
    let three = if_said (number_in (codes "originalTrackNumber")) track.number ms in
    let two = if_said (upnp_said (codes "genre")) track.genre three in
    let one = if_said (upnp_said (codes "album")) track.album two in
    passed p (upnp_said (codes "artist")) track.artist one (λ x. other-name upnp_space (codes "album") (codes "artist") x refl)
    ∙ found p (upnp_said (codes "album")) track.album two (λ x. this-name (codes "album") x)
    (passed p (upnp_said (codes "genre")) track.genre three (λ x. other-name upnp_space (codes "album") (codes "genre") x refl)
    ∙ passed p (number_in (codes "originalTrackNumber")) track.number ms (λ n. other-name upnp_space (codes "album") (codes "originalTrackNumber") (decimal n) refl)
    ∙ none)

pub genre-of : (track : TrackContent) (ms : Meanings) → filter (is_upnp (codes "genre")) (items ms) ≡ []
    → filter (is_upnp (codes "genre")) (items (work_said track ms)) ≡ if_list (upnp_said (codes "genre")) track.genre
genre-of track ms none =
    let p = is_upnp (codes "genre") in
    let three = if_said (number_in (codes "originalTrackNumber")) track.number ms in
    let two = if_said (upnp_said (codes "genre")) track.genre three in
    let one = if_said (upnp_said (codes "album")) track.album two in
    passed p (upnp_said (codes "artist")) track.artist one (λ x. other-name upnp_space (codes "genre") (codes "artist") x refl)
    ∙ passed p (upnp_said (codes "album")) track.album two (λ x. other-name upnp_space (codes "genre") (codes "album") x refl)
    ∙ found p (upnp_said (codes "genre")) track.genre three (λ x. this-name (codes "genre") x)
    (passed p (number_in (codes "originalTrackNumber")) track.number ms (λ n. other-name upnp_space (codes "genre") (codes "originalTrackNumber") (decimal n) refl) ∙ none)

pub number-of : (track : TrackContent) (ms : Meanings) → filter (is_upnp (codes "originalTrackNumber")) (items ms) ≡ []
    → filter (is_upnp (codes "originalTrackNumber")) (items (work_said track ms)) ≡ if_list (number_in (codes "originalTrackNumber")) track.number
number-of track ms none =
    let p = is_upnp (codes "originalTrackNumber") in
    let three = if_said (number_in (codes "originalTrackNumber")) track.number ms in
    let two = if_said (upnp_said (codes "genre")) track.genre three in
    let one = if_said (upnp_said (codes "album")) track.album two in
    passed p (upnp_said (codes "artist")) track.artist one (λ x. other-name upnp_space (codes "originalTrackNumber") (codes "artist") x refl)
    ∙ passed p (upnp_said (codes "album")) track.album two (λ x. other-name upnp_space (codes "originalTrackNumber") (codes "album") x refl)
    ∙ passed p (upnp_said (codes "genre")) track.genre three (λ x. other-name upnp_space (codes "originalTrackNumber") (codes "genre") x refl)
    ∙ found p (number_in (codes "originalTrackNumber")) track.number ms (λ n. this-name (codes "originalTrackNumber") (decimal n)) none

-- what may be missing
pub maybe-of : (space local : List ℕ) (o : Option (List ℕ)) (element : Meaning) → named space local (nodes_in element) ≡ if_list (text_said space local) o → maybe space local element ≡ Some o
maybe-of space local o element e =
    ap (λ xs. cond (is_any xs) (option_map Some (option_map own_text (only_of xs))) (Some None)) e ∙ by o
  where
    by : (o : Option (List ℕ)) → cond (is_any (if_list (text_said space local) o)) (option_map Some (option_map own_text (only_of (if_list (text_said space local) o)))) (Some None) ≡ Some o
    by None = refl
    by (Some text) = ap (λ t. Some (Some t)) (alone text)

list-of-numbers : (local : List ℕ) (o : Option ℕ) → if_list (number_in local) o ≡ if_list (upnp_said local) (option_map decimal o)
list-of-numbers local None = refl
list-of-numbers local (Some n) = refl

pub number-maybe-of : (local : List ℕ) (o : Option ℕ) (element : Meaning) → IfSome o (λ n. n < 2 ^ 32) → named upnp_space local (nodes_in element) ≡ if_list (number_in local) o → number_maybe local element ≡ Some o
number-maybe-of local o element h e =
    ap (option_and_then number_there) (maybe-of upnp_space local (option_map decimal o) element (e ∙ list-of-numbers local o)) ∙ by o h
  where
    by : (o : Option ℕ) → IfSome o (λ n. n < 2 ^ 32) → number_there (option_map decimal o) ≡ Some o
    by None h = refl
    by (Some n) h = ap (option_map Some) (decimal-read (2 ^ 32) n (omega arith) h)

-- the front of an item and its back, by names
abbrev item_front_said : TrackContent → List Meaning
item_front_said track = text_said dc_space (codes "title") track.title ∷ upnp_said (codes "class") track_class ∷ []

pub front-has : (local : List ℕ) (track : TrackContent) (more : List Meaning) → bytes_eq (codes "title") local ≡ false → bytes_eq (codes "class") local ≡ false
    → (space : List ℕ) → filter (is_named space local) (text_said dc_space (codes "title") track.title ∷ upnp_said (codes "class") track_class ∷ more) ≡ filter (is_named space local) more
front-has local track more a b space =
    ap (λ t. cond (bytes_eq dc_space space && t) (text_said dc_space (codes "title") track.title ∷ behind) behind) a ∙ none (bytes_eq dc_space space) (text_said dc_space (codes "title") track.title) behind
    ∙ ap (λ t. cond (bytes_eq upnp_space space && t) (upnp_said (codes "class") track_class ∷ filter (is_named space local) more) (filter (is_named space local) more)) b
    ∙ none (bytes_eq upnp_space space) (upnp_said (codes "class") track_class) (filter (is_named space local) more)
  where
    behind : List Meaning
    behind = filter (is_named space local) (upnp_said (codes "class") track_class ∷ more)

    none : (t : Bool) (x : Meaning) (xs : List Meaning) → cond (t && false) (x ∷ xs) xs ≡ xs
    none true x xs = refl
    none false x xs = refl

pub back-none : (local space base : List ℕ) (row : ObjectRow) (track : TrackContent) → bytes_eq (codes "objectUpdateID") local ≡ false → bytes_eq (codes "res") local ≡ false
    → filter (is_named space local) (items (back_said base row track)) ≡ []
back-none local space base row track a b =
    ap (λ t. cond (bytes_eq upnp_space space && t) (number_in (codes "objectUpdateID") row.object_update ∷ behind) behind) a ∙ none (bytes_eq upnp_space space) (number_in (codes "objectUpdateID") row.object_update) behind
    ∙ ap (λ t. cond (bytes_eq didl_space space && t) (resource_said base row.id track ∷ []) []) b ∙ none (bytes_eq didl_space space) (resource_said base row.id track) []
  where
    behind : List Meaning
    behind = filter (is_named space local) (resource_said base row.id track ∷ [])

    none : (t : Bool) (x : Meaning) (xs : List Meaning) → cond (t && false) (x ∷ xs) xs ≡ xs
    none true x xs = refl
    none false x xs = refl
