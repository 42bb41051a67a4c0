-- What is written of events is a StateEvent of these events.
use Rattle.std.proofs.Common.{◌≡◌, ℕ, ◌^◌, ◌<◌, Bool, true, false, cond, Option, Some, None, List, [], ◌∷◌, ◌++◌, codes, refl, sym, ap, subst, ◌∙◌, append_assoc, append-nil, inr, arith}
use Rattle.std.specs.List.{flat_map, AllByRecursion}
use Rattle.std.specs.Fmt.{decimal}
use Rattle.std.specs.Option.{option_and_then}
use Rattle.cds_base.specs.Escape.{escaped}
use Rattle.cds_base.specs.Number.{number_below}
use Rattle.cds_object.specs.Writing.{attribute, number_attribute}
use Rattle.cds_object.specs.declared.event.Class.{Class}
use Rattle.cds_object.specs.declared.event.Class.TheVariants.{Container, Track}
use Rattle.cds_object.specs.declared.event.Event.{Event}
use Rattle.cds_object.specs.declared.event.Event.TheVariants.{ObjAdd, ObjMod, ObjDel, StDone}
use Rattle.cds_markup.specs.declared.name.Name.{Name}
use Rattle.cds_markup.specs.declared.name.Attr.{Attr}
use Rattle.cds_markup.specs.declared.tag.Declaration.{Declaration}
use Rattle.cds_markup.specs.declared.tag.TagAttr.{TagAttr}
use Rattle.cds_markup.specs.declared.tag.Tag.{Tag}
use Rattle.cds_markup.specs.Grammar.{written_name, name_bytes, IsQName, EmptyElement, Full, Content, Nothing, TreeThen, IsName, IsEmptyTag, IsStartTag, IsContent}
use Rattle.cds_markup.specs.Namespaces.{declarations, tag_says}
use Rattle.cds_markup.specs.Written.{written_attr, written_attrs, written_start}
use Rattle.cds_markup.proofs.Public.{no-misc, no-prolog, small-name, without-prefix, Stands, TagStands, start-of, end-of}
use Rattle.cds_lastchange.specs.Spelled.{event_space, change_text, flag_text, flagged_text, class_text, added_text, event_text, opening, closing, spelled, IsNumbered}
use Rattle.cds_lastchange.specs.Attributes.{flag_said, flag_of, class_said, class_of, added, modified, deleted, done, event_of, is_state_event}
use Rattle.cds_lastchange.specs.StateEvent.{event_said, event_in, and_more, events_in, is_root, IsDocumentOf}
use Rattle.cds_lastchange.specs.Laws.{WrittenIsRead}
use Rattle.cds_base.proofs.Plain.{ArePlain, escaped-plain, allowed-plain, decimal-digits, decimal-read}
use Rattle.cds_lastchange.proofs.Tags.{empty-of}

-- the tags
abbrev pub plain_attr : List ℕ → List ℕ → TagAttr
plain_attr local value = record { name = record { prefix = []; local = local }; value = value }

abbrev pub event_attrs : Event → List TagAttr
event_attrs (ObjAdd id update st parent class) =
    plain_attr (codes "objID") (decimal id) ∷ plain_attr (codes "updateID") (decimal update) ∷ plain_attr (codes "stUpdate") (flag_text st)
    ∷ plain_attr (codes "objParentID") (decimal parent) ∷ plain_attr (codes "objClass") (class_text class) ∷ []
event_attrs (ObjMod id update st) =
    plain_attr (codes "objID") (decimal id) ∷ plain_attr (codes "updateID") (decimal update) ∷ plain_attr (codes "stUpdate") (flag_text st) ∷ []
event_attrs (ObjDel id update st) =
    plain_attr (codes "objID") (decimal id) ∷ plain_attr (codes "updateID") (decimal update) ∷ plain_attr (codes "stUpdate") (flag_text st) ∷ []
event_attrs (StDone id update) = plain_attr (codes "objID") (decimal id) ∷ plain_attr (codes "updateID") (decimal update) ∷ []

abbrev pub event_name : Event → List ℕ
event_name (ObjAdd id update st parent class) = codes "objAdd"
event_name (ObjMod id update st) = codes "objMod"
event_name (ObjDel id update st) = codes "objDel"
event_name (StDone id update) = codes "stDone"

abbrev pub event_tag : Event → Tag
event_tag event = record { name = record { prefix = []; local = event_name event }; attrs = event_attrs event }

abbrev pub root_tag : Tag
root_tag = record { name = record { prefix = []; local = codes "StateEvent" }; attrs = plain_attr (codes "xmlns") event_space ∷ [] }

-- values are plain
flag-plain : (st : Bool) → ArePlain (flag_text st)
flag-plain true = refl
flag-plain false = refl

class-plain : (class : Class) → ArePlain (class_text class)
unfolding class_text
class-plain Container = refl
class-plain Track = refl

decimal-plain : (n : ℕ) → n < 2 ^ 32 → ArePlain (decimal n)
decimal-plain n h = (decimal-digits n (omega (arith, h))).plain

abbrev PlainAttr : TagAttr → Type 0
PlainAttr a = (a.name.prefix ≡ []) × ArePlain a.value

event-plain : (event : Event) → IsNumbered event → AllByRecursion PlainAttr (event_attrs event)
event-plain (ObjAdd id update st parent class) (i, u, p) =
    ((refl, decimal-plain id i), ((refl, decimal-plain update u), ((refl, flag-plain st), ((refl, decimal-plain parent p), ((refl, class-plain class), tt)))))
event-plain (ObjMod id update st) (i, u) = ((refl, decimal-plain id i), ((refl, decimal-plain update u), ((refl, flag-plain st), tt)))
event-plain (ObjDel id update st) (i, u) = ((refl, decimal-plain id i), ((refl, decimal-plain update u), ((refl, flag-plain st), tt)))
event-plain (StDone id update) (i, u) = ((refl, decimal-plain id i), ((refl, decimal-plain update u), tt))

-- names are names
abbrev Named : TagAttr → Type 0
Named a = IsName a.name.local a.name.local

name-id : IsName (codes "objID") (codes "objID")
name-id = small-name 111 (codes "bjID") refl refl

name-update : IsName (codes "updateID") (codes "updateID")
name-update = small-name 117 (codes "pdateID") refl refl

name-flag : IsName (codes "stUpdate") (codes "stUpdate")
name-flag = small-name 115 (codes "tUpdate") refl refl

names : (event : Event) → IsName (event_name event) (event_name event) × AllByRecursion Named (event_attrs event)
names (ObjAdd id update st parent class) =
    (small-name 111 (codes "bjAdd") refl refl, (name-id, (name-update, (name-flag, (small-name 111 (codes "bjParentID") refl refl, (small-name 111 (codes "bjClass") refl refl, tt))))))
names (ObjMod id update st) = (small-name 111 (codes "bjMod") refl refl, (name-id, (name-update, (name-flag, tt))))
names (ObjDel id update st) = (small-name 111 (codes "bjDel") refl refl, (name-id, (name-update, (name-flag, tt))))
names (StDone id update) = (small-name 115 (codes "tDone") refl refl, (name-id, (name-update, tt)))

attr-stands : (a : TagAttr) → Named a → PlainAttr a → Stands a
attr-stands a is (none, plain) = record { name = named a.name.prefix none; value = allowed-plain a.value plain } where
  named : (prefix : List ℕ) → prefix ≡ [] → IsQName (name_bytes (record { prefix = prefix; local = a.name.local })) (record { prefix = prefix; local = a.name.local })
  named [] e = without-prefix a.name.local is
  named (c ∷ more) e = absurd (cc)

attrs-stand : (attrs : List TagAttr) → AllByRecursion Named attrs → AllByRecursion PlainAttr attrs → AllByRecursion Stands attrs
attrs-stand [] are plain = tt
attrs-stand (a ∷ more) (is, are) (p, plain) = (attr-stands a is p, attrs-stand more are plain)

event-stands : (event : Event) → IsNumbered event → TagStands (event_tag event)
event-stands event h = record { name = without-prefix (event_name event) (names event).0; attrs = attrs-stand (event_attrs event) (names event).1 (event-plain event h) }

-- the text of an event is that of its tag
abbrev plain_attrs : List TagAttr → List ℕ
plain_attrs attrs = flat_map (λ a. attribute a.name.local a.value) attrs

attribute-grouped : (local value : List ℕ) → attribute local value ≡ codes " " ++ (local ++ (codes "=\"" ++ (value ++ codes "\"")))
unfolding attribute
attribute-grouped local value = simp append_assoc

attr-written : (a : TagAttr) → PlainAttr a → attribute a.name.local a.value ≡ written_attr a
attr-written a (none, plain) =
    attribute-grouped a.name.local a.value
    ∙ ap (λ v. codes " " ++ (a.name.local ++ (codes "=\"" ++ (v ++ codes "\"")))) (sym (escaped-plain a.value plain))
    ∙ ap (λ p. codes " " ++ (written_name p a.name.local ++ (codes "=\"" ++ (escaped a.value ++ codes "\"")))) (sym none)

attrs-written : (attrs : List TagAttr) → AllByRecursion PlainAttr attrs → plain_attrs attrs ≡ written_attrs attrs
attrs-written [] each = refl
attrs-written (a ∷ more) each =
    ap (λ x. x ++ plain_attrs more) (attr-written a each.0) ∙ ap (λ x. written_attr a ++ x) (attrs-written more each.1)

abbrev Between : Event → List ℕ
Between event = event_name event ++ plain_attrs (event_attrs event)

five-parts : (n a b c d e z : List ℕ) → ((n ++ ((a ++ b) ++ c)) ++ (d ++ e)) ++ z ≡ n ++ ((a ++ (b ++ (c ++ (d ++ (e ++ []))))) ++ z)
five-parts n a b c d e z = simp (append_assoc, append-nil)

three-parts : (n a b c z : List ℕ) → (n ++ ((a ++ b) ++ c)) ++ z ≡ n ++ ((a ++ (b ++ (c ++ []))) ++ z)
three-parts n a b c z = simp (append_assoc, append-nil)

two-parts : (n a b z : List ℕ) → (n ++ (a ++ b)) ++ z ≡ n ++ ((a ++ (b ++ [])) ++ z)
two-parts n a b z = simp (append_assoc, append-nil)

abbrev Id : ℕ → List ℕ
Id id = attribute (codes "objID") (decimal id)

abbrev Update : ℕ → List ℕ
Update update = attribute (codes "updateID") (decimal update)

abbrev Flag : Bool → List ℕ
Flag st = attribute (codes "stUpdate") (flag_text st)

text-of : (event : Event) → event_text event ≡ 60 ∷ (Between event ++ codes "/>")
unfolding attribute number_attribute change_text flagged_text added_text
text-of (ObjAdd id update st parent class) =
    five-parts (codes "<objAdd") (Id id) (Update update) (Flag st) (attribute (codes "objParentID") (decimal parent)) (attribute (codes "objClass") (class_text class)) (codes "/>")
text-of (ObjMod id update st) = three-parts (codes "<objMod") (Id id) (Update update) (Flag st) (codes "/>")
text-of (ObjDel id update st) = three-parts (codes "<objDel") (Id id) (Update update) (Flag st) (codes "/>")
text-of (StDone id update) = two-parts (codes "<stDone") (Id id) (Update update) (codes "/>")

start-text : (event : Event) → IsNumbered event → written_start (event_tag event) ≡ 60 ∷ (Between event ++ 62 ∷ [])
start-text event h =
    ap (λ xs. 60 ∷ xs)
    (sym (append_assoc (event_name event) (written_attrs (event_attrs event)) (62 ∷ []))
    ∙ ap (λ xs. (event_name event ++ xs) ++ 62 ∷ []) (sym (attrs-written (event_attrs event) (event-plain event h))))

event-empty : (event : Event) → IsNumbered event → IsEmptyTag (event_text event) (event_tag event)
event-empty event h =
    subst (λ xs. IsEmptyTag xs (event_tag event)) (sym (text-of event))
    (empty-of (Between event) (event_tag event) (subst (λ xs. IsStartTag xs (event_tag event)) (start-text event h) (start-of (event_tag event) (event-stands event h))))

-- what it says
abbrev said_attr : TagAttr → Attr
said_attr a = record { name = record { space = []; local = a.name.local }; value = a.value }

abbrev said_attrs : List TagAttr → List Attr
said_attrs [] = []
said_attrs (a ∷ more) = said_attr a ∷ said_attrs more

abbrev Scopes : List (List Declaration)
Scopes = declarations root_tag.attrs ∷ []

abbrev said_name : List ℕ → Name
said_name local = record { space = event_space; local = local }

event-says : (event : Event) → tag_says Scopes (event_tag event) ≡ Some (said_name (event_name event), said_attrs (event_attrs event))
event-says (ObjAdd id update st parent class) = refl
event-says (ObjMod id update st) = refl
event-says (ObjDel id update st) = refl
event-says (StDone id update) = refl

flag-read : (st : Bool) → flag_said (flag_text st) ≡ Some st
flag-read true = refl
flag-read false = refl

class-read : (class : Class) → class_said (class_text class) ≡ Some class
unfolding class_text
class-read Container = refl
class-read Track = refl

abbrev With : {A B : Type 0} → Option A → (A → Option B) → Option B
With o f = option_and_then f o

abbrev Five : Option ℕ → Option ℕ → Option Bool → Option ℕ → Option Class → Option Event
Five i u s p c = With i (λ id. With u (λ update. With s (λ st. With p (λ parent. With c (λ class. Some (ObjAdd id update st parent class))))))

abbrev Number : ℕ → Option ℕ
Number n = number_below (2 ^ 32) (decimal n)

event-read : (event : Event) → IsNumbered event → event_of (said_name (event_name event)) (said_attrs (event_attrs event)) ≡ Some event
unfolding event_of added modified deleted done flag_of class_of
event-read (ObjAdd id update st parent class) (i, u, p) =
    ap (λ o. Five o (Number update) (flag_said (flag_text st)) (Number parent) (class_said (class_text class))) (decimal-read (2 ^ 32) id (omega arith) i)
    ∙ ap (λ o. Five (Some id) o (flag_said (flag_text st)) (Number parent) (class_said (class_text class))) (decimal-read (2 ^ 32) update (omega arith) u)
    ∙ ap (λ o. Five (Some id) (Some update) o (Number parent) (class_said (class_text class))) (flag-read st)
    ∙ ap (λ o. Five (Some id) (Some update) (Some st) o (class_said (class_text class))) (decimal-read (2 ^ 32) parent (omega arith) p)
    ∙ ap (λ o. Five (Some id) (Some update) (Some st) (Some parent) o) (class-read class)
event-read (ObjMod id update st) (i, u) =
    ap (λ o. With o (λ id. With (Number update) (λ update. With (flag_said (flag_text st)) (λ st. Some (ObjMod id update st))))) (decimal-read (2 ^ 32) id (omega arith) i)
    ∙ ap (λ o. With o (λ update. With (flag_said (flag_text st)) (λ st. Some (ObjMod id update st)))) (decimal-read (2 ^ 32) update (omega arith) u)
    ∙ ap (λ o. With o (λ st. Some (ObjMod id update st))) (flag-read st)
event-read (ObjDel id update st) (i, u) =
    ap (λ o. With o (λ id. With (Number update) (λ update. With (flag_said (flag_text st)) (λ st. Some (ObjDel id update st))))) (decimal-read (2 ^ 32) id (omega arith) i)
    ∙ ap (λ o. With o (λ update. With (flag_said (flag_text st)) (λ st. Some (ObjDel id update st)))) (decimal-read (2 ^ 32) update (omega arith) u)
    ∙ ap (λ o. With o (λ st. Some (ObjDel id update st))) (flag-read st)
event-read (StDone id update) (i, u) =
    ap (λ o. With o (λ id. With (Number update) (λ update. Some (StDone id update)))) (decimal-read (2 ^ 32) id (omega arith) i)
    ∙ ap (λ o. With o (λ update. Some (StDone id update))) (decimal-read (2 ^ 32) update (omega arith) u)

-- all of it
abbrev content_of : List Event → Content
content_of [] = Nothing
content_of (event ∷ more) = TreeThen (EmptyElement (event_tag event)) (content_of more)

content-is : (events : List Event) → AllByRecursion IsNumbered events → IsContent (content_of events) (flat_map event_text events)
content-is [] each = refl
content-is (event ∷ more) each = (event_text event, flat_map event_text more, refl, event-empty event each.0, content-is more each.1)

event-said : (event : Event) → IsNumbered event → event_in Scopes (EmptyElement (event_tag event)) ≡ Some event
event-said event h = ap event_said (event-says event) ∙ event-read event h

events-said : (events : List Event) → AllByRecursion IsNumbered events → events_in Scopes (content_of events) ≡ Some events
events-said [] each = refl
events-said (event ∷ more) each =
    ap (λ o. and_more o (events_in Scopes (content_of more))) (event-said event each.0) ∙ ap (and_more (Some event)) (events-said more each.1)

root-stands : TagStands root_tag
root-stands = record { name = without-prefix (codes "StateEvent") (small-name 83 (codes "tateEvent") refl refl); attrs = (attr-stands (plain_attr (codes "xmlns") event_space) (small-name 120 (codes "mlns") refl refl) (refl, refl), tt) }

root-says : is_root (tag_says [] root_tag) ≡ true
unfolding is_state_event
root-says = refl

pub written-document : (events : List Event) → AllByRecursion IsNumbered events → IsDocumentOf (spelled events) events
written-document events each = (
  Full root_tag (content_of events),
  record {
    prolog = [];
    element = spelled events;
    epilog = [];
    spelled = sym (append-nil (spelled events));
    is_prolog = no-prolog;
    is_epilog = no-misc;
    is_element = (opening, flat_map event_text events, closing, append_assoc opening (flat_map event_text events) closing, start-of root_tag root-stands, content-is events each, end-of root_tag);
  },
  ap (λ t. cond t (events_in Scopes (content_of events)) None) root-says ∙ events-said events each,
)

pub written-read : WrittenIsRead
written-read events each short = record { is = inr (written-document events each); short = short }
