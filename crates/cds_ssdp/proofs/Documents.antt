-- The descriptions are documents.
use Rattle.std.proofs.Common.{◌≡◌, ◌==◌, ℕ, zero, suc, ◌+◌, ◌-◌, ◌<◌, ◌≤◌, nat_lt, Bool, false, true, cond, ◌&&◌, subst, Some, List, [], ◌∷◌, ◌++◌, length, codes, refl, sym, ap, ◌∙◌, arith, append_assoc, append-nil, length-append}
use Rattle.std.specs.List.{AllByRecursion}
use Rattle.std.specs.Fmt.{digits}
use Rattle.std.proofs.lemmas.Bool.Decides.{nat_tests}
use Rattle.uuid.proofs.TextLemmas.{nibble_small}
use Rattle.uuid.specs.Text.{by_index, hex_digit, hyphen, is_hyphen_place, digit_place, nibble, hyphenated_text, lower}
use Rattle.cds_base.specs.Escape.{escaped}
use Rattle.cds_base.specs.declared.limits.TheConstants.{INPUT_LIMIT}
use Rattle.cds_base.proofs.Plain.{is_plain, ArePlain, allowed-plain, escaped-plain, plain-append}
use Rattle.cds_markup.specs.declared.tag.QName.{QName}
use Rattle.cds_markup.specs.declared.tag.TagAttr.{TagAttr}
use Rattle.cds_markup.specs.Grammar.{IsName}
use Rattle.cds_markup.specs.Namespaces.{is_empty}
use Rattle.cds_markup.specs.Document.{Meaning, Meanings, End, TextThen as TextAnd, ChildThen, Doc, joined, most_open}
use Rattle.cds_markup.specs.Drafts.{Draft, Tagged, Drafts, Done, TextThen, DraftThen, drafted, draft_depth, draft_says, CanBeDraft, CanBeDrafts, version_declared}
use Rattle.cds_markup.proofs.Public.{small-name, without-prefix, drafts-are-read}
use Rattle.cds_markup.proofs.WrittenTags.{xmlns-name}
use Rattle.cds_ssdp.specs.Targets.{device_name, device_type, service_type}
use Rattle.cds_ssdp.specs.Description.{Described, described_actions, device_text, device_front, device_back, service_text}
use Rattle.cds_ssdp.specs.Documents.{device_space, service_space, device_said, service_said, said, version_said, of_device}
use Rattle.cds_ssdp.specs.Laws.{DescriptionsAreDocuments}
use Rattle.cds_ssdp.proofs.Visible.{short-name}

-- ---- elements as drafts

abbrev plain_name : List ℕ → QName
plain_name local = record { prefix = []; local = local }

abbrev node : List ℕ → Drafts → Draft
node local inside = Tagged (record { name = plain_name local; attrs = [] }) inside

abbrev leaf : List ℕ → List ℕ → Draft
leaf local text = node local (TextThen text Done)

abbrev xmlns : List ℕ → TagAttr
xmlns space = record { name = plain_name (codes "xmlns"); value = space }

abbrev root : List ℕ → List ℕ → Drafts → Draft
root local space inside = Tagged (record { name = plain_name local; attrs = xmlns space ∷ [] }) inside

abbrev leaf_then : List ℕ → List ℕ → Drafts → Drafts
leaf_then local text more = DraftThen (leaf local text) more

abbrev version_then : Drafts → Drafts
version_then more = DraftThen (node (codes "specVersion") (leaf_then (codes "major") (codes "2") (leaf_then (codes "minor") (codes "0") Done))) more

abbrev AName : List ℕ → Type 0
AName local = IsName local local

node-can : (local : List ℕ) (inside : Drafts) → AName local → CanBeDrafts inside → CanBeDraft (node local inside)
node-can local inside is can = (record { name = without-prefix local is; attrs = tt }, can)

-- what stands in an element, which can be written
abbrev Able : Type 0
Able = (inside : Drafts) × CanBeDrafts inside

abbrev no_more : Able
no_more = (Done, tt)

text-can : (local text : List ℕ) → AName local → ArePlain text → CanBeDraft (leaf local text)
text-can local text is plain = node-can local (TextThen text Done) is (allowed-plain text plain, refl, tt)

abbrev able_leaf : (local text : List ℕ) → AName local → ArePlain text → Able → Able
able_leaf local text is plain more = (leaf_then local text more.0, (text-can local text is plain, more.1))

abbrev able_node : (local : List ℕ) → AName local → Able → Able → Able
able_node local is inside more = (DraftThen (node local inside.0) more.0, (node-can local inside.0 is inside.1, more.1))

root-can : (local space : List ℕ) (inside : Drafts) → AName local → ArePlain space → CanBeDrafts inside → CanBeDraft (root local space inside)
root-can local space inside is allowed can = (
  record { name = without-prefix local is; attrs = (record { name = without-prefix (codes "xmlns") xmlns-name; value = allowed-plain space allowed }, tt) },
  can,
)

abbrev able_version : Able → Able
able_version more =
    able_node (codes "specVersion") (small-name 115 (codes "pecVersion") refl refl)
    (able_leaf (codes "major") (codes "2") (small-name 109 (codes "ajor") refl refl) refl
    (able_leaf (codes "minor") (codes "0") (small-name 109 (codes "inor") refl refl) refl no_more))
    more

-- ---- the service

abbrev arguments : List ℕ → List (List ℕ) → Drafts → Drafts
arguments direction [] more = more
arguments direction (name ∷ names) more =
    DraftThen (node (codes "argument") (leaf_then (codes "name") name (leaf_then (codes "direction") direction Done))) (arguments direction names more)

abbrev inside_action : Described → Drafts
inside_action described =
    leaf_then (codes "name") described.action
    (DraftThen (node (codes "argumentList") (arguments (codes "in") described.inputs (arguments (codes "out") described.outputs Done))) Done)

abbrev actions : List Described → Drafts
actions [] = Done
actions (described ∷ more) = DraftThen (node (codes "action") (inside_action described)) (actions more)

abbrev service_inside : Drafts
service_inside =
    version_then (DraftThen (node (codes "actionList") (actions described_actions)) (DraftThen (node (codes "serviceStateTable") Done) Done))

service_draft : Draft
service_draft = root (codes "scpd") service_space service_inside

name-name : AName (codes "name")
name-name = small-name 110 (codes "ame") refl refl

argument-name : AName (codes "argument")
argument-name = small-name 97 (codes "rgument") refl refl

abbrev argument_inside : List ℕ → List ℕ → Drafts
argument_inside direction name = leaf_then (codes "name") name (leaf_then (codes "direction") direction Done)

argument-can : (direction name : List ℕ) → ArePlain direction → ArePlain name → CanBeDraft (node (codes "argument") (argument_inside direction name))
argument-can direction name plain named =
    node-can (codes "argument") (argument_inside direction name) argument-name (
      text-can (codes "name") name name-name named,
      (text-can (codes "direction") direction (small-name 100 (codes "irection") refl refl) plain, tt),
    )

arguments-can : (direction : List ℕ) (names : List (List ℕ)) (more : Drafts) → ArePlain direction → AllByRecursion ArePlain names → CanBeDrafts more
    → CanBeDrafts (arguments direction names more)
arguments-can direction [] more plain all can = can
arguments-can direction (name ∷ names) more plain all can = (argument-can direction name plain all.0, arguments-can direction names more plain all.1 can)

record IsPlain (described : Described) : Type 0 where
  action_is : ArePlain described.action
  inputs_are : AllByRecursion ArePlain described.inputs
  outputs_are : AllByRecursion ArePlain described.outputs

abbrev both_lists : Described → Drafts
both_lists described = arguments (codes "in") described.inputs (arguments (codes "out") described.outputs Done)

both-can : (described : Described) → IsPlain described → CanBeDrafts (both_lists described)
both-can described plain =
    arguments-can (codes "in") described.inputs (arguments (codes "out") described.outputs Done) refl plain.inputs_are
    (arguments-can (codes "out") described.outputs Done refl plain.outputs_are tt)

action-can : (described : Described) → IsPlain described → CanBeDraft (node (codes "action") (inside_action described))
action-can described plain =
    node-can (codes "action") (inside_action described) (small-name 97 (codes "ction") refl refl) (
      text-can (codes "name") described.action name-name plain.action_is,
      (node-can (codes "argumentList") (both_lists described) (small-name 97 (codes "rgumentList") refl refl) (both-can described plain), tt),
    )

actions-can : (all : List Described) → AllByRecursion IsPlain all → CanBeDrafts (actions all)
actions-can [] plain = tt
actions-can (described ∷ more) plain = (action-can described plain.0, actions-can more plain.1)

all-plain : AllByRecursion IsPlain described_actions
all-plain = (
  record { action_is = refl; inputs_are = (refl, (refl, (refl, (refl, (refl, (refl, tt)))))); outputs_are = (refl, (refl, (refl, (refl, tt)))) },
  (
    record { action_is = refl; inputs_are = (refl, (refl, (refl, (refl, (refl, (refl, tt)))))); outputs_are = (refl, (refl, (refl, (refl, tt)))) },
    (
      record { action_is = refl; inputs_are = tt; outputs_are = (refl, tt) },
      (
        record { action_is = refl; inputs_are = tt; outputs_are = (refl, tt) },
        (
          record { action_is = refl; inputs_are = tt; outputs_are = (refl, tt) },
          (record { action_is = refl; inputs_are = tt; outputs_are = (refl, tt) }, tt),
        ),
      ),
    ),
  ),
)

abbrev able_service : Able
able_service =
    able_version (able_node (codes "actionList") (small-name 97 (codes "ctionList") refl refl) (actions described_actions, actions-can described_actions all-plain)
    (able_node (codes "serviceStateTable") (small-name 115 (codes "erviceStateTable") refl refl) no_more no_more))

service-can : CanBeDraft service_draft
unfolding service_draft
service-can = root-can (codes "scpd") service_space service_inside (small-name 115 (codes "cpd") refl refl) refl able_service.1

service-written : service_text ≡ version_declared ++ drafted service_draft
unfolding service_text service_draft
service-written = refl

service-says : draft_says [] service_draft ≡ Some service_said
unfolding service_draft
service-says = refl

service-short : length service_text ≡ 2312
unfolding service_text
service-short = refl

-- ---- the device

abbrev device_inside : List ℕ → Drafts
device_inside name =
    version_then (DraftThen (node (codes "device")
    (leaf_then (codes "deviceType") (device_type 4)
    (leaf_then (codes "friendlyName") (codes "cds")
    (leaf_then (codes "manufacturer") (codes "cds")
    (leaf_then (codes "modelName") (codes "cds")
    (leaf_then (codes "UDN") name
    (DraftThen (node (codes "serviceList") (DraftThen (node (codes "service")
    (leaf_then (codes "serviceType") (service_type 4)
    (leaf_then (codes "serviceId") (codes "urn:upnp-org:serviceId:ContentDirectory")
    (leaf_then (codes "SCPDURL") (codes "/cds.xml")
    (leaf_then (codes "controlURL") (codes "/control")
    (leaf_then (codes "eventSubURL") (codes "/event") Done)))))) Done)) Done))))))) Done)

device_draft : List ℕ → Draft
device_draft name = root (codes "root") device_space (device_inside name)

type-plain : ArePlain (device_type 4)
unfolding digits device_type
type-plain = refl

kind-plain : ArePlain (service_type 4)
unfolding digits service_type
kind-plain = refl

abbrev able_device : (name : List ℕ) → ArePlain name → Able
able_device name plain =
    able_version (able_node (codes "device") (small-name 100 (codes "evice") refl refl)
    (able_leaf (codes "deviceType") (device_type 4) (small-name 100 (codes "eviceType") refl refl) type-plain
    (able_leaf (codes "friendlyName") (codes "cds") (small-name 102 (codes "riendlyName") refl refl) refl
    (able_leaf (codes "manufacturer") (codes "cds") (small-name 109 (codes "anufacturer") refl refl) refl
    (able_leaf (codes "modelName") (codes "cds") (small-name 109 (codes "odelName") refl refl) refl
    (able_leaf (codes "UDN") name (small-name 85 (codes "DN") refl refl) plain
    (able_node (codes "serviceList") (small-name 115 (codes "erviceList") refl refl)
    (able_node (codes "service") (small-name 115 (codes "ervice") refl refl)
    (able_leaf (codes "serviceType") (service_type 4) (small-name 115 (codes "erviceType") refl refl) kind-plain
    (able_leaf (codes "serviceId") (codes "urn:upnp-org:serviceId:ContentDirectory") (small-name 115 (codes "erviceId") refl refl) refl
    (able_leaf (codes "SCPDURL") (codes "/cds.xml") (small-name 83 (codes "CPDURL") refl refl) refl
    (able_leaf (codes "controlURL") (codes "/control") (small-name 99 (codes "ontrolURL") refl refl) refl
    (able_leaf (codes "eventSubURL") (codes "/event") (small-name 101 (codes "ventSubURL") refl refl) refl no_more)))))
    no_more) no_more)))))) no_more)

device-can : (name : List ℕ) → ArePlain name → CanBeDraft (device_draft name)
unfolding device_draft
device-can name plain =
    root-can (codes "root") device_space (device_inside name) (small-name 114 (codes "oot") refl refl) refl (able_device name plain).1

shape : (f x c s d r : List ℕ) → (f ++ x) ++ (c ++ s ++ d ++ r) ≡ f ++ ((((((x ++ []) ++ c) ++ s) ++ d) ++ []) ++ r)
shape f x c s d r = simp (append_assoc, append-nil)

abbrev service_list : List ℕ
service_list =
    codes "<serviceList><service><serviceType>urn:schemas-upnp-org:service:ContentDirectory:4</serviceType>"
    ++ codes "<serviceId>urn:upnp-org:serviceId:ContentDirectory</serviceId><SCPDURL>/cds.xml</SCPDURL><controlURL>/control</controlURL>"
    ++ codes "<eventSubURL>/event</eventSubURL></service></serviceList>"

abbrev text_around : List ℕ → List ℕ
text_around x = device_front ++ ((((((x ++ []) ++ codes "</UDN>") ++ service_list) ++ codes "</device>") ++ []) ++ codes "</root>")

around-is : (x : List ℕ) → (device_front ++ x) ++ device_back ≡ text_around x
unfolding digits service_type device_back
around-is x = shape device_front x (codes "</UDN>") service_list (codes "</device>") (codes "</root>")

drafted-is : (name : List ℕ) → text_around (escaped name) ≡ version_declared ++ drafted (device_draft name)
unfolding digits device_type service_type device_front device_draft
drafted-is name = refl

device-written : (id : List ℕ) → ArePlain (device_name id) → device_text id ≡ version_declared ++ drafted (device_draft (device_name id))
unfolding device_text
device-written id plain = around-is (device_name id) ∙ ap text_around (sym (escaped-plain (device_name id) plain)) ∙ drafted-is (device_name id)

-- what it says
abbrev device_with : Meanings → Meaning
device_with name =
    said device_space (codes "root") (ChildThen (version_said device_space) (ChildThen (said device_space (codes "device")
    (of_device (codes "deviceType") (device_type 4)
    (of_device (codes "friendlyName") (codes "cds")
    (of_device (codes "manufacturer") (codes "cds")
    (of_device (codes "modelName") (codes "cds")
    (ChildThen (said device_space (codes "UDN") name)
    (ChildThen (said device_space (codes "serviceList") (ChildThen (said device_space (codes "service")
    (of_device (codes "serviceType") (service_type 4)
    (of_device (codes "serviceId") (codes "urn:upnp-org:serviceId:ContentDirectory")
    (of_device (codes "SCPDURL") (codes "/cds.xml")
    (of_device (codes "controlURL") (codes "/control")
    (of_device (codes "eventSubURL") (codes "/event") End)))))) End)) End))))))) End))

some-text : (b : ℕ) (xs : List ℕ) → is_empty (b ∷ xs) ≡ false
some-text b xs = by (length xs) where
  by : (n : ℕ) → (suc n == 0) ≡ false
  by n = grind (arith, nat_tests)

device-drafted : (name : List ℕ) → draft_says [] (device_draft name) ≡ Some (device_with (joined name End))
unfolding digits device_type service_type device_draft
device-drafted name = refl

name-joined : (id : List ℕ) → joined (device_name id) End ≡ TextAnd (device_name id) End
unfolding device_name
name-joined id = ap (λ t. cond t End (TextAnd (device_name id) End)) (some-text 117 (codes "uid:" ++ hyphenated_text lower id))

device-says : (id : List ℕ) → draft_says [] (device_draft (device_name id)) ≡ Some (device_said id)
device-says id = device-drafted (device_name id) ∙ ap (λ m. Some (device_with m)) (name-joined id)

-- ---- the name of the device

plain-index : (n : ℕ) (f : ℕ → ℕ) → ((k : ℕ) → is_plain (f k) ≡ true) → ArePlain (by_index n f)
unfolding by_index
plain-index zero f h = refl
plain-index (suc n) f h = plain-append (by_index n f) (f n ∷ []) (plain-index n f h) (ap (λ t. t && true) (h n))

hex-plain : (d : ℕ) → d < 16 → is_plain (hex_digit lower d) ≡ true
hex-plain d small = by (nat_lt d 10) refl
  where
    digit : (d : ℕ) → nat_lt d 10 ≡ true → is_plain (48 + d) ≡ true
    digit d h = grind (arith, nat_tests)

    letter : (d : ℕ) → d < 16 → is_plain (97 + d - 10) ≡ true
    letter d h = grind (arith, nat_tests)

    by : (t : Bool) → nat_lt d 10 ≡ t → is_plain (cond t (48 + d) (lower + d - 10)) ≡ true
    by true h = digit d h
    by false h = letter d small

plain-name : (id : List ℕ) → ArePlain (device_name id)
unfolding device_name
plain-name id =
    plain-append (codes "uuid:") (hyphenated_text lower id) refl
    (plain-index 36 (λ k. cond (is_hyphen_place k) hyphen (hex_digit lower (nibble id (digit_place k)))) each)
  where
    each : (k : ℕ) → is_plain (cond (is_hyphen_place k) hyphen (hex_digit lower (nibble id (digit_place k)))) ≡ true
    each k = by (is_hyphen_place k)
      where
        by : (t : Bool) → is_plain (cond t hyphen (hex_digit lower (nibble id (digit_place k)))) ≡ true
        by true = refl
        by false = hex-plain (nibble id (digit_place k)) (nibble_small id (digit_place k))

-- ---- both are documents

service-length : length (version_declared ++ drafted service_draft) ≤ INPUT_LIMIT
service-length = let a = ap length service-written in let b = service-short in omega (arith, a, b)

service-depth : draft_depth service_draft ≤ most_open
unfolding service_draft
service-depth = omega arith

front-length : length device_front ≡ 295
unfolding digits device_type device_front
front-length = refl

back-length : length device_back ≡ 297
unfolding digits service_type device_back
back-length = refl

device-short : (id : List ℕ) → length (device_text id) ≤ 633
unfolding device_text
device-short id =
    let a = length-append (device_front ++ device_name id) device_back in
    let b = length-append device_front (device_name id) in
    let c = (short-name id).long in
    let d = front-length in
    let e = back-length in
    omega (arith, a, b, c, d, e)

device-length : (id : List ℕ) → length (version_declared ++ drafted (device_draft (device_name id))) ≤ INPUT_LIMIT
device-length id = let a = ap length (device-written id (plain-name id)) in let b = device-short id in omega (arith, a, b)

device-depth : (name : List ℕ) → draft_depth (device_draft name) ≤ most_open
unfolding device_draft
device-depth name = omega arith

device-document : (id : List ℕ) → Doc (device_text id) (device_said id)
device-document id =
    let draft = device_draft (device_name id) in
    subst (λ t. Doc t (device_said id)) (sym (device-written id (plain-name id)))
    (drafts-are-read.1 draft (device_said id)
    (record { can_be = device-can (device_name id) (plain-name id); within = device-depth (device_name id); short = device-length id }) (device-says id))

service-document : Doc service_text service_said
service-document =
    subst (λ t. Doc t service_said) (sym service-written)
    (drafts-are-read.1 service_draft service_said (record { can_be = service-can; within = service-depth; short = service-length }) service-says)

pub descriptions-are-documents : DescriptionsAreDocuments
descriptions-are-documents = (device-document, service-document)
