-- Envelopes, and what stands in them, as drafts of elements: how they are written, what they say, and that they can be
-- written.
use Rattle.std.proofs.Common.{◌≡◌, ℕ, zero, suc, ◌<◌, ◌^◌, false, cond, ◌==◌, Option, Some, List, [], ◌∷◌, ◌++◌, codes, length, refl, sym, ap, ◌∙◌, arith, append_assoc, append-nil}
use Rattle.std.specs.Fmt.{decimal, digits}
use Rattle.std.specs.Option.{option_and_then}
use Rattle.std.proofs.lemmas.Bool.Decides.{nat_tests}
use Rattle.cds_base.specs.Escape.{escaped}
use Rattle.cds_base.specs.Characters.{AreAllowed}
use Rattle.cds_object.specs.Writing.{text_element, number_element}
use Rattle.cds_markup.specs.declared.name.Name.{Name}
use Rattle.cds_markup.specs.declared.tag.QName.{QName}
use Rattle.cds_markup.specs.declared.tag.TagAttr.{TagAttr}
use Rattle.cds_markup.specs.declared.tag.Tag.{Tag}
use Rattle.cds_markup.specs.declared.tag.Declaration.{Declaration}
use Rattle.cds_markup.specs.Grammar.{IsName}
use Rattle.cds_markup.specs.Namespaces.{is_empty, declarations, tag_says}
use Rattle.cds_markup.specs.Document.{Meaning, Meanings, Element, End, TextThen as TextAnd, ChildThen, joined, of_tag, and_children}
use Rattle.cds_markup.specs.Elements.{nodes_of}
use Rattle.cds_markup.specs.Children.{texts_in}
use Rattle.cds_markup.specs.Written.{written_start}
use Rattle.cds_markup.specs.Drafts.{Draft, Tagged, Drafts, Done, TextThen, DraftThen, drafted, drafted_in, draft_says, drafts_say, CanBeDraft, CanBeDrafts, version_declared}
use Rattle.cds_markup.proofs.Public.{small-name, without-prefix}
use Rattle.cds_markup.proofs.WrittenTags.{xmlns-name, behind-prefix}
use Rattle.cds_soap.specs.Names.{IsVersion, service_front, service_type}
use Rattle.cds_soap.specs.Envelope.{envelope_space, in_envelope}
use Rattle.cds_soap.specs.Written.{envelope_start, envelope_end, enveloped, service_start, service_end, in_service}
use Rattle.cds_soap.specs.Given.{text_given, number_given, number_in}
use Rattle.cds_base.proofs.Plain.{allowed-printed, stays-decimal}
use Rattle.cds_soap.proofs.Printed.{allowed-decimal, decimal-read}

-- ---- elements of a text alone

abbrev pub named : List ℕ → List ℕ → QName
named prefix local = record { prefix = prefix; local = local }

abbrev pub attribute : List ℕ → List ℕ → List ℕ → TagAttr
attribute prefix local value = record { name = named prefix local; value = value }

abbrev pub plain_tag : List ℕ → Tag
plain_tag local = record { name = named [] local; attrs = [] }

abbrev pub text_draft : List ℕ → List ℕ → Draft
text_draft local text = Tagged (plain_tag local) (TextThen text Done)

element-shape : (a n b t c : List ℕ) → (((((a ++ n) ++ b) ++ t) ++ c) ++ n) ++ b ≡ (a ++ (n ++ b)) ++ ((t ++ []) ++ (c ++ (n ++ b)))
element-shape a n b t c = simp (append_assoc, append-nil)

abbrev element_text : List ℕ → List ℕ → List ℕ
element_text name t = (codes "<" ++ (name ++ codes ">")) ++ ((t ++ []) ++ (codes "</" ++ (name ++ codes ">")))

pub text-written : (local text : List ℕ) → text_element local text ≡ drafted (text_draft local text)
unfolding text_element
text-written local text = element-shape (codes "<") local (codes ">") (escaped text) (codes "</")

pub number-written : (local : List ℕ) (n : ℕ) → n < 2 ^ 32 → number_element local n ≡ drafted (text_draft local (decimal n))
unfolding number_element
number-written local n h =
    element-shape (codes "<") local (codes ">") (decimal n) (codes "</") ∙ ap (element_text local) (sym (stays-decimal n h))

-- what they say, in a namespace
abbrev pub said_name : List ℕ → List ℕ → Name
said_name space local = record { space = space; local = local }

abbrev pub text_said : List ℕ → List ℕ → List ℕ → Meaning
text_said space local text = Element (said_name space local) [] (joined text End)

no-empty : (b : ℕ) (xs : List ℕ) → is_empty (b ∷ xs) ≡ false
no-empty b xs = by (length xs) where
  by : (n : ℕ) → (suc n == 0) ≡ false
  by n = grind (arith, nat_tests)

pub alone : (text : List ℕ) → texts_in (nodes_of (joined text End)) ≡ text
alone [] = refl
alone (b ∷ text) = ap (λ t. texts_in (nodes_of (cond t End (TextAnd (b ∷ text) End)))) (no-empty b text) ∙ append-nil (b ∷ text)

-- and a number that one says is read
pub number-one : (local : List ℕ) (n : ℕ) (element : Meaning) → n < 2 ^ 32 → text_given local element ≡ Some (decimal n) → number_given local element ≡ Some n
number-one local n element h e = ap (option_and_then (number_in (2 ^ 32))) e ∙ decimal-read (2 ^ 32) n h h

-- and that they can be written
abbrev pub AName : List ℕ → Type 0
AName local = IsName local local

pub text-can : (local text : List ℕ) → AName local → AreAllowed text → CanBeDraft (text_draft local text)
text-can local text is allowed = (record { name = without-prefix local is; attrs = tt }, (allowed, refl, tt))

pub number-can : (local : List ℕ) (n : ℕ) → AName local → n < 2 ^ 32 → CanBeDraft (text_draft local (decimal n))
number-can local n is h = text-can local (decimal n) is (allowed-decimal n h)

-- ---- the element of an action or an answer

abbrev pub service_tag : ℕ → List ℕ → Tag
service_tag version local = record { name = named (codes "u") local; attrs = attribute (codes "xmlns") (codes "u") (service_type version) ∷ [] }

abbrev pub service_draft : ℕ → List ℕ → Drafts → Draft
service_draft version local inside = Tagged (service_tag version local) inside

service-allowed : (version : ℕ) → IsVersion version → AreAllowed (service_type version)
unfolding service_type service_front digits
service-allowed zero is = absurd (omega (arith, is.0))
service-allowed (suc zero) is = allowed-printed (service_type 1) refl
service-allowed (suc (suc zero)) is = allowed-printed (service_type 2) refl
service-allowed (suc (suc (suc zero))) is = allowed-printed (service_type 3) refl
service-allowed (suc (suc (suc (suc zero)))) is = allowed-printed (service_type 4) refl
service-allowed (suc (suc (suc (suc (suc n))))) is = absurd (omega (arith, is.1))

service-stays : (version : ℕ) → IsVersion version → escaped (service_type version) ≡ service_type version
unfolding service_type service_front digits
service-stays zero is = absurd (omega (arith, is.0))
service-stays (suc zero) is = refl
service-stays (suc (suc zero)) is = refl
service-stays (suc (suc (suc zero))) is = refl
service-stays (suc (suc (suc (suc zero)))) is = refl
service-stays (suc (suc (suc (suc (suc n))))) is = absurd (omega (arith, is.1))

-- how it is written
start-shape : (a l x t q g : List ℕ) → (((a ++ l) ++ x) ++ t) ++ (q ++ g) ≡ a ++ (l ++ (((x ++ (t ++ q)) ++ []) ++ g))
start-shape a l x t q g = simp (append_assoc, append-nil)

end-shape : (a l g : List ℕ) → (a ++ l) ++ g ≡ a ++ (l ++ g)
end-shape a l g = append_assoc a l g

start-text : (version : ℕ) (local : List ℕ) → IsVersion version → service_start version local ≡ written_start (service_tag version local)
unfolding service_start
start-text version local is =
    start-shape (codes "<u:") local (codes " xmlns:u=\"") (service_type version) (codes "\"") (codes ">")
    ∙ ap (λ t. codes "<u:" ++ (local ++ (((codes " xmlns:u=\"" ++ (t ++ codes "\"")) ++ []) ++ codes ">"))) (sym (service-stays version is))

pub service-written : (version : ℕ) (local text : List ℕ) (inside : Drafts) → IsVersion version → text ≡ drafted_in inside
    → in_service version local text ≡ drafted (service_draft version local inside)
unfolding service_end
service-written version local text inside is same =
    ap (λ t. (service_start version local ++ t) ++ service_end local) same
    ∙ append_assoc (service_start version local) (drafted_in inside) (service_end local)
    ∙ ap (λ t. t ++ (drafted_in inside ++ service_end local)) (start-text version local is)
    ∙ ap (λ t. written_start (service_tag version local) ++ (drafted_in inside ++ t)) (end-shape (codes "</u:") local (codes ">"))

-- ---- the envelope

abbrev pub encoding : List ℕ
encoding = codes "http://schemas.xmlsoap.org/soap/encoding/"

abbrev pub envelope_tag : Tag
envelope_tag = record {
  name = named (codes "s") (codes "Envelope");
  attrs = attribute (codes "xmlns") (codes "s") envelope_space ∷ attribute (codes "s") (codes "encodingStyle") encoding ∷ [];
}

abbrev pub body_tag : Tag
body_tag = record { name = named (codes "s") (codes "Body"); attrs = [] }

abbrev pub envelope_draft : Draft → Draft
envelope_draft inside = Tagged envelope_tag (DraftThen (Tagged body_tag (DraftThen inside Done)) Done)

-- how it is written
envelope-shape : (v s b d c e : List ℕ) → ((v ++ (s ++ b)) ++ d) ++ (c ++ e) ≡ v ++ (s ++ (((b ++ ((d ++ []) ++ c)) ++ []) ++ e))
envelope-shape v s b d c e = simp (append_assoc, append-nil)

abbrev envelope_opening : List ℕ
envelope_opening =
    codes "<s:Envelope xmlns:s=\"http://schemas.xmlsoap.org/soap/envelope/\" s:encodingStyle=\"http://schemas.xmlsoap.org/soap/encoding/\">"

pub envelope-written : (text : List ℕ) (inside : Draft) → text ≡ drafted inside → enveloped text ≡ version_declared ++ drafted (envelope_draft inside)
unfolding envelope_start envelope_end envelope_space
envelope-written text inside same =
    ap (λ t. (envelope_start ++ t) ++ envelope_end) same
    ∙ envelope-shape version_declared envelope_opening (codes "<s:Body>") (drafted inside) (codes "</s:Body>") (codes "</s:Envelope>")

-- what it says
abbrev pub Around : List (List Declaration)
Around = [] ∷ declarations envelope_tag.attrs ∷ []

abbrev pub envelope_said : Meaning → Meaning
envelope_said inside =
    Element (said_name envelope_space (codes "Envelope")) (record { name = said_name envelope_space (codes "encodingStyle"); value = encoding } ∷ [])
    (ChildThen (Element (said_name envelope_space (codes "Body")) [] (ChildThen inside End)) End)

abbrev with_inside : Option Meaning → Option Meaning
with_inside inside =
    of_tag (Some (said_name envelope_space (codes "Envelope"), record { name = said_name envelope_space (codes "encodingStyle"); value = encoding } ∷ []))
    (and_children (of_tag (Some (said_name envelope_space (codes "Body"), [])) (and_children inside (Some End))) (Some End))

pub envelope-says : (inside : Draft) (said : Meaning) → draft_says Around inside ≡ Some said → draft_says [] (envelope_draft inside) ≡ Some (envelope_said said)
unfolding envelope_space
envelope-says inside said e = ap with_inside e

pub envelope-holds : (said : Meaning) → in_envelope (envelope_said said) ≡ Some said
unfolding in_envelope envelope_space
envelope-holds said = refl

-- what the element of an action or an answer says in it
abbrev pub Inner : ℕ → List ℕ → List (List Declaration)
Inner version local = declarations (service_tag version local).attrs ∷ Around

abbrev pub service_said : ℕ → List ℕ → Meanings → Meaning
service_said version local inside = Element (said_name (service_type version) local) [] inside

tag-said : (version : ℕ) (local : List ℕ) → IsVersion version → tag_says Around (service_tag version local) ≡ Some (said_name (service_type version) local, [])
unfolding service_type service_front digits
tag-said zero local is = absurd (omega (arith, is.0))
tag-said (suc zero) local is = refl
tag-said (suc (suc zero)) local is = refl
tag-said (suc (suc (suc zero))) local is = refl
tag-said (suc (suc (suc (suc zero)))) local is = refl
tag-said (suc (suc (suc (suc (suc n))))) local is = absurd (omega (arith, is.1))

pub service-says : (version : ℕ) (local : List ℕ) (inside : Drafts) (said : Meanings) → IsVersion version → drafts_say (Inner version local) inside ≡ Some said
    → draft_says Around (service_draft version local inside) ≡ Some (service_said version local said)
service-says version local inside said is e =
    ap (λ o. of_tag o (drafts_say (Inner version local) inside)) (tag-said version local is)
    ∙ ap (of_tag (Some (said_name (service_type version) local, []))) e

-- that it can be written
pub name-s : AName (codes "s")
name-s = small-name 115 [] refl refl

name-u : AName (codes "u")
name-u = small-name 117 [] refl refl

space-allowed : AreAllowed envelope_space
unfolding envelope_space
space-allowed = allowed-printed envelope_space refl

pub service-can : (version : ℕ) (local : List ℕ) (inside : Drafts) → IsVersion version → AName local → CanBeDrafts inside → CanBeDraft (service_draft version local inside)
service-can version local inside is name can = (
  record {
    name = behind-prefix 117 [] local name-u name;
    attrs = (record { name = behind-prefix 120 (codes "mlns") (codes "u") xmlns-name name-u; value = service-allowed version is }, tt);
  },
  can,
)

pub envelope-can : (inside : Draft) → CanBeDraft inside → CanBeDraft (envelope_draft inside)
envelope-can inside can = (
  record {
    name = behind-prefix 115 [] (codes "Envelope") name-s (small-name 69 (codes "nvelope") refl refl);
    attrs = (
      record { name = behind-prefix 120 (codes "mlns") (codes "s") xmlns-name name-s; value = space-allowed },
      (record { name = behind-prefix 115 [] (codes "encodingStyle") name-s (small-name 101 (codes "ncodingStyle") refl refl); value = allowed-printed encoding refl }, tt),
    );
  },
  ((record { name = behind-prefix 115 [] (codes "Body") name-s (small-name 66 (codes "ody") refl refl); attrs = tt }, (can, tt)), tt),
)
