-- What is written of a body is a document that says its number and its events.
use Rattle.std.proofs.Common.{◌≡◌, ◌==◌, ℕ, ◌<◌, ◌≤◌, ◌^◌, Bool, true, false, cond, Option, Some, List, [], ◌∷◌, ◌++◌, length, codes, refl, sym, ap, ◌∙◌, subst, arith, append_assoc, append-nil, length-append, ne_eqb}
use Rattle.std.specs.List.{flat_map, AllByRecursion}
use Rattle.std.specs.Fmt.{decimal}
use Rattle.std.specs.Option.{option_and_then}
use Rattle.cds_base.specs.Characters.{AreAllowed}
use Rattle.cds_base.specs.Escape.{escaped, escaped_byte}
use Rattle.cds_base.specs.Number.{number_below}
use Rattle.cds_object.specs.Writing.{attribute, number_attribute}
use Rattle.cds_object.specs.declared.event.Class.{Class}
use Rattle.cds_object.specs.declared.event.Class.TheVariants.{Container, Track}
use Rattle.cds_object.specs.declared.event.Event.{Event}
use Rattle.cds_object.specs.declared.event.Event.TheVariants.{ObjAdd, ObjMod, ObjDel, StDone}
use Rattle.cds_markup.specs.declared.tag.QName.{QName}
use Rattle.cds_markup.specs.declared.tag.Tag.{Tag}
use Rattle.cds_markup.specs.Grammar.{IsName}
use Rattle.cds_markup.specs.Document.{Meaning, Meanings, Element, End, TextThen as TextAnd, ChildThen, joined, most_bytes, Doc}
use Rattle.cds_markup.specs.Elements.{nodes_of}
use Rattle.cds_markup.specs.Children.{texts_in}
use Rattle.cds_markup.specs.Drafts.{Draft, Tagged, Done, TextThen, DraftThen, drafted, draft_says, CanBeDraft, CanBeDraftTag, version_declared}
use Rattle.cds_markup.proofs.WrittenTags.{small-name, xmlns-name, without-prefix, behind-prefix}
use Rattle.cds_markup.proofs.DraftsForm.{drafts-are-read}
use Rattle.cds_lastchange.specs.Spelled.{change_text, flag_text, flagged_text, class_text, added_text, event_text, opening, closing, spelled, IsNumbered}
use Rattle.cds_base.proofs.Plain.{ArePrinted, allowed-printed, decimal-read, printed-append, printed-decimal, stays-decimal}
use Rattle.cds_base.proofs.Wide.{escaped-append}
use Rattle.cds_lastchange.proofs.WrittenRead.{written-read}
use Rattle.cds_notify.specs.declared.body.Said.{Said}
use Rattle.cds_notify.specs.Propertyset.{named, property, pair_text, further_text, pairs_text, set_opening, propertyset_text}
use Rattle.cds_notify.specs.Said.{event_space, said_of, Says}
use Rattle.cds_notify.specs.Laws.{IsPair, AreNumbers}
use Rattle.cds_notify.proofs.Pieces.{long-property}

-- ---- a StateEvent is printed

printed-attribute : (name value : List ℕ) → ArePrinted name → ArePrinted value → ArePrinted (attribute name value)
unfolding attribute
printed-attribute name value h k =
    printed-append (((codes " " ++ name) ++ codes "=\"") ++ value) (codes "\"")
    (printed-append ((codes " " ++ name) ++ codes "=\"") value (printed-append (codes " " ++ name) (codes "=\"") (printed-append (codes " ") name refl h) refl) k) refl

printed-number : (name : List ℕ) (n : ℕ) → ArePrinted name → n < 2 ^ 32 → ArePrinted (number_attribute name n)
unfolding attribute number_attribute
printed-number name n h k = printed-attribute name (decimal n) h (printed-decimal n k)

printed-change : (id update : ℕ) → id < 2 ^ 32 → update < 2 ^ 32 → ArePrinted (change_text id update)
unfolding change_text
printed-change id update i u =
    printed-append (number_attribute (codes "objID") id) (number_attribute (codes "updateID") update) (printed-number (codes "objID") id refl i) (printed-number (codes "updateID") update refl u)

printed-flag : (st : Bool) → ArePrinted (flag_text st)
printed-flag true = refl
printed-flag false = refl

printed-class : (class : Class) → ArePrinted (class_text class)
unfolding class_text
printed-class Container = refl
printed-class Track = refl

printed-flagged : (id update : ℕ) (st : Bool) → id < 2 ^ 32 → update < 2 ^ 32 → ArePrinted (flagged_text id update st)
unfolding flagged_text
printed-flagged id update st i u =
    printed-append (change_text id update) (attribute (codes "stUpdate") (flag_text st)) (printed-change id update i u) (printed-attribute (codes "stUpdate") (flag_text st) refl (printed-flag st))

printed-added : (parent : ℕ) (class : Class) → parent < 2 ^ 32 → ArePrinted (added_text parent class)
unfolding added_text
printed-added parent class p =
    printed-append (number_attribute (codes "objParentID") parent) (attribute (codes "objClass") (class_text class))
    (printed-number (codes "objParentID") parent refl p) (printed-attribute (codes "objClass") (class_text class) refl (printed-class class))

printed-event : (event : Event) → IsNumbered event → ArePrinted (event_text event)
printed-event (ObjAdd id update st parent class) (i, u, p) =
    printed-append ((codes "<objAdd" ++ flagged_text id update st) ++ added_text parent class) (codes "/>")
    (printed-append (codes "<objAdd" ++ flagged_text id update st) (added_text parent class)
    (printed-append (codes "<objAdd") (flagged_text id update st) refl (printed-flagged id update st i u)) (printed-added parent class p)) refl
printed-event (ObjMod id update st) (i, u) =
    printed-append (codes "<objMod" ++ flagged_text id update st) (codes "/>") (printed-append (codes "<objMod") (flagged_text id update st) refl (printed-flagged id update st i u)) refl
printed-event (ObjDel id update st) (i, u) =
    printed-append (codes "<objDel" ++ flagged_text id update st) (codes "/>") (printed-append (codes "<objDel") (flagged_text id update st) refl (printed-flagged id update st i u)) refl
printed-event (StDone id update) (i, u) =
    printed-append (codes "<stDone" ++ change_text id update) (codes "/>") (printed-append (codes "<stDone") (change_text id update) refl (printed-change id update i u)) refl

printed-events : (events : List Event) → AllByRecursion IsNumbered events → ArePrinted (flat_map event_text events)
printed-events [] each = refl
printed-events (event ∷ more) each = printed-append (event_text event) (flat_map event_text more) (printed-event event each.0) (printed-events more each.1)

printed-spelled : (events : List Event) → AllByRecursion IsNumbered events → ArePrinted (spelled events)
printed-spelled events each = printed-append (opening ++ flat_map event_text events) closing (printed-append opening (flat_map event_text events) refl (printed-events events each)) refl

-- ---- pairs are printed, and stand for themselves

abbrev Stays : List ℕ → Type 0
Stays text = escaped text ≡ text

stays-append : (a b : List ℕ) → Stays a → Stays b → Stays (a ++ b)
stays-append a b h k = escaped-append a b ∙ (λ i. h i ++ k i)

pub record IsList (text : List ℕ) : Type 0 where
  pub printed : ArePrinted text
  pub stays : Stays text

list-append : (a b : List ℕ) → IsList a → IsList b → IsList (a ++ b)
list-append a b h k = record { printed = printed-append a b h.printed k.printed; stays = stays-append a b h.stays k.stays }

list-pair : (p : ℕ × ℕ) → IsPair p → IsList (pair_text p)
list-pair p (h, k) =
    list-append (decimal p.0 ++ codes ",") (decimal p.1)
    (list-append (decimal p.0) (codes ",") (record { printed = printed-decimal p.0 h; stays = stays-decimal p.0 h }) (record { printed = refl; stays = refl }))
    (record { printed = printed-decimal p.1 k; stays = stays-decimal p.1 k })

list-further : (pairs : List (ℕ × ℕ)) → AllByRecursion IsPair pairs → IsList (flat_map further_text pairs)
list-further [] each = record { printed = refl; stays = refl }
list-further (p ∷ pairs) each =
    list-append (further_text p) (flat_map further_text pairs)
    (list-append (codes ",") (pair_text p) (record { printed = refl; stays = refl }) (list-pair p each.0)) (list-further pairs each.1)

pub list-pairs : (pairs : List (ℕ × ℕ)) → AllByRecursion IsPair pairs → IsList (pairs_text pairs)
list-pairs [] each = record { printed = refl; stays = refl }
list-pairs (p ∷ pairs) each = list-append (pair_text p) (flat_map further_text pairs) (list-pair p each.0) (list-further pairs each.1)

-- ---- the draft of a set

abbrev in_set : List ℕ → QName
in_set local = record { prefix = codes "e"; local = local }

abbrev set_tag : Tag
set_tag = record { name = in_set (codes "propertyset"); attrs = record { name = record { prefix = codes "xmlns"; local = codes "e" }; value = event_space } ∷ [] }

abbrev property_tag : Tag
property_tag = record { name = in_set (codes "property"); attrs = [] }

abbrev plain_tag : List ℕ → Tag
plain_tag local = record { name = record { prefix = []; local = local }; attrs = [] }

abbrev property_draft : List ℕ → List ℕ → Draft
property_draft local text = Tagged property_tag (DraftThen (Tagged (plain_tag local) (TextThen text Done)) Done)

abbrev set_draft : List ℕ → List ℕ → List ℕ → Draft
set_draft number pairs changes =
    Tagged set_tag
    (DraftThen (property_draft (codes "SystemUpdateID") number)
    (DraftThen (property_draft (codes "ContainerUpdateIDs") pairs) (DraftThen (property_draft (codes "LastChange") changes) Done)))

-- how it is written
property-shape : (p l n g t e q : List ℕ)
    → ((p ++ l) ++ ((((n ++ g) ++ t) ++ e) ++ n)) ++ (g ++ q) ≡ p ++ ((((l ++ (n ++ ([] ++ g))) ++ ((t ++ []) ++ (e ++ (n ++ g)))) ++ []) ++ q)
property-shape p l n g t e q = simp (append_assoc, append-nil)

system-written : (text : List ℕ) → property (codes "SystemUpdateID") (escaped text) ≡ drafted (property_draft (codes "SystemUpdateID") text)
unfolding property named
system-written text = property-shape (codes "<e:property>") (codes "<") (codes "SystemUpdateID") (codes ">") (escaped text) (codes "</") (codes "</e:property>")

containers-written : (text : List ℕ) → property (codes "ContainerUpdateIDs") (escaped text) ≡ drafted (property_draft (codes "ContainerUpdateIDs") text)
unfolding property named
containers-written text = property-shape (codes "<e:property>") (codes "<") (codes "ContainerUpdateIDs") (codes ">") (escaped text) (codes "</") (codes "</e:property>")

changes-written : (text : List ℕ) → property (codes "LastChange") (escaped text) ≡ drafted (property_draft (codes "LastChange") text)
unfolding property named
changes-written text = property-shape (codes "<e:property>") (codes "<") (codes "LastChange") (codes ">") (escaped text) (codes "</") (codes "</e:property>")

set-shape : (v s a b c e : List ℕ) → ((((v ++ s) ++ a) ++ b) ++ c) ++ e ≡ v ++ (s ++ ((a ++ (b ++ (c ++ []))) ++ e))
set-shape v s a b c e = simp (append_assoc, append-nil)

abbrev set_start : List ℕ
set_start = codes "<e:propertyset xmlns:e=\"urn:schemas-upnp-org:event-1-0\">"

set-written : (a b c : List ℕ) → version_declared ++ drafted (set_draft a b c)
    ≡ version_declared ++ (set_start ++ ((drafted (property_draft (codes "SystemUpdateID") a) ++ (drafted (property_draft (codes "ContainerUpdateIDs") b)
    ++ (drafted (property_draft (codes "LastChange") c) ++ []))) ++ codes "</e:propertyset>"))
unfolding event_space
set-written a b c = refl

pub text-is : (number : ℕ) (containers : List (ℕ × ℕ)) (events : List Event) → AreNumbers number containers events
    → propertyset_text number containers events ≡ version_declared ++ drafted (set_draft (decimal number) (pairs_text containers) (spelled events))
text-is number containers events fit =
    (λ i. (((set_opening ++ one i) ++ two i) ++ changes-written (spelled events) i) ++ codes "</e:propertyset>")
    ∙ set-shape version_declared set_start (drafted (property_draft (codes "SystemUpdateID") (decimal number)))
    (drafted (property_draft (codes "ContainerUpdateIDs") (pairs_text containers))) (drafted (property_draft (codes "LastChange") (spelled events))) (codes "</e:propertyset>")
    ∙ sym (set-written (decimal number) (pairs_text containers) (spelled events))
  where
    one : property (codes "SystemUpdateID") (decimal number) ≡ drafted (property_draft (codes "SystemUpdateID") (decimal number))
    one = ap (property (codes "SystemUpdateID")) (sym (stays-decimal number fit.update)) ∙ system-written (decimal number)

    two : property (codes "ContainerUpdateIDs") (pairs_text containers) ≡ drafted (property_draft (codes "ContainerUpdateIDs") (pairs_text containers))
    two = ap (property (codes "ContainerUpdateIDs")) (sym (list-pairs containers fit.pairs).stays) ∙ containers-written (pairs_text containers)

-- ---- what it says

abbrev own : List ℕ → Meanings
own text = joined text End

abbrev property_said : List ℕ → List ℕ → Meaning
property_said local text = Element (record { space = event_space; local = codes "property" }) [] (ChildThen (Element (record { space = []; local = local }) [] (own text)) End)

abbrev set_said : List ℕ → List ℕ → List ℕ → Meaning
set_said number pairs changes =
    Element (record { space = event_space; local = codes "propertyset" }) []
    (ChildThen (property_said (codes "SystemUpdateID") number)
    (ChildThen (property_said (codes "ContainerUpdateIDs") pairs) (ChildThen (property_said (codes "LastChange") changes) End)))

says-set : (number pairs changes : List ℕ) → draft_says [] (set_draft number pairs changes) ≡ Some (set_said number pairs changes)
unfolding event_space
says-set number pairs changes = refl

own-is : (text : List ℕ) → texts_in (nodes_of (own text)) ≡ text
own-is [] = refl
own-is (b ∷ rest) =
    let some : (length (b ∷ rest) == 0) ≡ false = ne_eqb (length (b ∷ rest)) 0 (λ e. omega (arith, e)) in
    ap (λ t. texts_in (nodes_of (cond t End (TextAnd (b ∷ rest) End)))) some ∙ append-nil (b ∷ rest)

abbrev Both : Option ℕ → List ℕ → Option Said
Both number changes = option_and_then (λ n. Some (record { number = n; changes = changes })) number

said-both : (number pairs changes : List ℕ)
    → said_of (set_said number pairs changes) ≡ Both (number_below (2 ^ 32) (texts_in (nodes_of (own number)))) (texts_in (nodes_of (own changes)))
unfolding said_of event_space
said-both number pairs changes = refl

said-is : (number : ℕ) (pairs changes : List ℕ) → number < 2 ^ 32
    → said_of (set_said (decimal number) pairs changes) ≡ Some (record { number = number; changes = changes })
said-is number pairs changes fits =
    said-both (decimal number) pairs changes
    ∙ (λ i. Both (number_below (2 ^ 32) (own-is (decimal number) i)) (own-is changes i))
    ∙ ap (λ n. Both n changes) (decimal-read (2 ^ 32) number (omega arith) fits)

-- ---- that it can be written

name-e : IsName (codes "e") (codes "e")
name-e = small-name 101 [] refl refl

plain-can : (local : List ℕ) → IsName local local → CanBeDraftTag (plain_tag local)
plain-can local is = record { name = without-prefix local is; attrs = tt }

property-can : (local text : List ℕ) → IsName local local → AreAllowed text → CanBeDraft (property_draft local text)
property-can local text is allowed =
    (record { name = behind-prefix 101 [] (codes "property") name-e (small-name 112 (codes "roperty") refl refl); attrs = tt }, ((plain-can local is, (allowed, refl, tt)), tt))

space-allowed : AreAllowed event_space
unfolding event_space
space-allowed = allowed-printed event_space refl

set-can : (number pairs changes : List ℕ) → AreAllowed number → AreAllowed pairs → AreAllowed changes → CanBeDraft (set_draft number pairs changes)
set-can number pairs changes n p c = (
  record {
    name = behind-prefix 101 [] (codes "propertyset") name-e (small-name 112 (codes "ropertyset") refl refl);
    attrs = (record { name = behind-prefix 120 (codes "mlns") (codes "e") xmlns-name name-e; value = space-allowed }, tt);
  },
  (
    property-can (codes "SystemUpdateID") number (small-name 83 (codes "ystemUpdateID") refl refl) n,
    (
      property-can (codes "ContainerUpdateIDs") pairs (small-name 67 (codes "ontainerUpdateIDs") refl refl) p,
      (property-can (codes "LastChange") changes (small-name 76 (codes "astChange") refl refl) c, tt),
    ),
  ),
)

-- ---- the body

no-shorter : (text : List ℕ) → length text ≤ length (escaped text)
no-shorter [] = omega arith
no-shorter (b ∷ rest) =
    let more = no-shorter rest in
    let one = some-byte b in
    let sum = length-append (escaped_byte b) (escaped rest) in
    omega (arith, more, one, sum)
  where
    some-byte : (b : ℕ) → 1 ≤ length (escaped_byte b)
    some-byte b = pick (b == 38) (b == 60) (b == 62) (b == 34) (b == 39) (b == 9) (b == 10) (b == 13)
      where
        pick : (s t u v w x y z : Bool)
            → 1 ≤ length (cond s (codes "&amp;") (cond t (codes "&lt;") (cond u (codes "&gt;") (cond v (codes "&quot;") (cond w (codes "&apos;") (cond x (codes "&#9;") (cond y (codes "&#10;") (cond z (codes "&#13;") (b ∷ [])))))))))
        pick true t u v w x y z = omega arith
        pick false true u v w x y z = omega arith
        pick false false true v w x y z = omega arith
        pick false false false true w x y z = omega arith
        pick false false false false true x y z = omega arith
        pick false false false false false true y z = omega arith
        pick false false false false false false true z = omega arith
        pick false false false false false false false true = omega arith
        pick false false false false false false false false = omega arith

-- the changes are no longer than the whole
changes-shorter : (number : ℕ) (containers : List (ℕ × ℕ)) (events : List Event)
    → length (spelled events) ≤ length (propertyset_text number containers events)
changes-shorter number containers events =
    let a = length-append (front ++ last) (codes "</e:propertyset>") in
    let b = length-append front last in
    let c = long-property (codes "LastChange") (escaped (spelled events)) in
    let d = no-shorter (spelled events) in
    omega (arith, a, b, c, d)
  where
    last : List ℕ
    last = property (codes "LastChange") (escaped (spelled events))

    front : List ℕ
    front = (set_opening ++ property (codes "SystemUpdateID") (decimal number)) ++ property (codes "ContainerUpdateIDs") (pairs_text containers)

pub bodies-read : (number : ℕ) (containers : List (ℕ × ℕ)) (events : List Event) → AreNumbers number containers events
    → length (propertyset_text number containers events) ≤ most_bytes → Says (propertyset_text number containers events) number events
bodies-read number containers events fit short = record {
  root = set_said (decimal number) (pairs_text containers) (spelled events);
  document = subst (λ (t : List ℕ). Doc t (set_said (decimal number) (pairs_text containers) (spelled events))) (sym text)
      (drafts-are-read.1 (set_draft (decimal number) (pairs_text containers) (spelled events)) (set_said (decimal number) (pairs_text containers) (spelled events)) (record {
        can_be = set-can (decimal number) (pairs_text containers) (spelled events) (allowed-printed (decimal number) (printed-decimal number fit.update))
            (allowed-printed (pairs_text containers) (list-pairs containers fit.pairs).printed) (allowed-printed (spelled events) (printed-spelled events fit.changes));
        within = omega arith;
        short = subst (λ (t : List ℕ). length t ≤ most_bytes) text short;
      }) (says-set (decimal number) (pairs_text containers) (spelled events)));
  changes = spelled events;
  said = said-is number (pairs_text containers) (spelled events) fit.update;
  state = written-read events fit.changes (let less = changes-shorter number containers events in omega (arith, less, short));
}
  where
    text : propertyset_text number containers events ≡ version_declared ++ drafted (set_draft (decimal number) (pairs_text containers) (spelled events))
    text = text-is number containers events fit
