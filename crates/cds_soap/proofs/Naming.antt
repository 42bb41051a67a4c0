-- What names an action: what is found is what the relations say, and there is no other.
use Rattle.std.proofs.Common.{◌≡◌, ◌⊎◌, inl, inr, ℕ, zero, suc, ◌≤◌, Bool, true, false, cond, ◌&&◌, ◌||◌, Option, Some, None, option_map, List, codes, refl, sym, ap, subst, ◌∙◌, arith}
use Rattle.std.specs.Str.{bytes_eq}
use Rattle.std.specs.Option.{option_and_then}
use Rattle.std.specs.Fmt.{digits}
use Rattle.std.proofs.lemmas.Slice.Eq.{bytes_eq-Decides}
use Rattle.http_header.specs.HeaderMap.{Entries}
use Rattle.http_header.specs.FieldValue.{FieldValue}
use Rattle.cds_markup.specs.Document.{Meaning}
use Rattle.cds_markup.specs.Children.{name_of, is_named}
use Rattle.cds_soap.specs.declared.action.ActionName.{ActionName}
use Rattle.cds_soap.specs.declared.action.ActionName.TheVariants as name
use Rattle.cds_soap.specs.Names.{IsVersion, IsSoapAction, service_front, service_type, named_as, soap_action, in_quotes}
use Rattle.cds_soap.specs.Envelope.{in_envelope}
use Rattle.cds_soap.specs.Control.{Calls, Names, soap_action_in}
use Rattle.cds_soap.specs.Found.{name_in, version_in, says_action, Found, found_as, called_by, where_said, named_by}

-- ---- options and tests

pub either : {A B C : Type 0} → (A → C) → (B → C) → A ⊎ B → C
either f g (inl a) = f a
either f g (inr b) = g b

pub some-same : {X : Type 0} (a b : X) → Some a ≡ Some b → a ≡ b
some-same a b e = cc

pub none-some : {X : Type 0} (a : X) → None ≡ Some a → ⊥
none-some a e = cc

pub record Behind {A B : Type 0} (o : Option A) (g : A → Option B) (y : B) : Type 0 where
  pub first : A
  pub is : o ≡ Some first
  pub then_is : g first ≡ Some y

pub bind-some : {A B : Type 0} (o : Option A) (g : A → Option B) (y : B) → option_and_then g o ≡ Some y → Behind o g y
bind-some None g y e = absurd (none-some y e)
bind-some (Some x) g y e = record { first = x; is = refl; then_is = e }

pub bind-of : {A B : Type 0} (o : Option A) (x : A) (g : A → Option B) → o ≡ Some x → option_and_then g o ≡ g x
bind-of o x g e = ap (option_and_then g) e

pub none-mapped : {X Y : Type 0} (o : Option X) (f : X → Y) (n : Option Y) → option_map f o ≡ n → o ≡ None → n ≡ None
none-mapped o f n e is = sym e ∙ ap (option_map f) is

pub some-mapped : {X Y : Type 0} (o : Option X) (f : X → Y) (n : Option Y) (x : X) → option_map f o ≡ n → o ≡ Some x → n ≡ Some (f x)
some-mapped o f n x e is = sym e ∙ ap (option_map f) is

pick-by : {X : Type 0} (b : Bool) (value found : X) (rest : Option X) → cond b (Some value) rest ≡ Some found → ((b ≡ true) × (value ≡ found)) ⊎ (rest ≡ Some found)
pick-by true value found rest e = inl (refl, some-same value found e)
pick-by false value found rest e = inr e

pub both-true : (a b : Bool) → (a && b) ≡ true → (a ≡ true) × (b ≡ true)
both-true true b e = (refl, e)
both-true false b e = absurd (no e) where
  no : false ≡ true → ⊥
  no h = cc

pub true-both : (a b : Bool) → a ≡ true → b ≡ true → (a && b) ≡ true
true-both a b e f = ap (λ x. x && b) e ∙ f

pub bytes-same : (xs ys : List ℕ) → bytes_eq xs ys ≡ true → xs ≡ ys
bytes-same xs ys e = (bytes_eq-Decides xs ys).0 e

pub same-bytes : (xs ys : List ℕ) → xs ≡ ys → bytes_eq xs ys ≡ true
same-bytes xs ys e = (bytes_eq-Decides xs ys).1 e

-- ---- versions

type-one : service_type 1 ≡ codes "urn:schemas-upnp-org:service:ContentDirectory:1"
unfolding service_type service_front digits
type-one = refl

type-two : service_type 2 ≡ codes "urn:schemas-upnp-org:service:ContentDirectory:2"
unfolding service_type service_front digits
type-two = refl

type-three : service_type 3 ≡ codes "urn:schemas-upnp-org:service:ContentDirectory:3"
unfolding service_type service_front digits
type-three = refl

type-four : service_type 4 ≡ codes "urn:schemas-upnp-org:service:ContentDirectory:4"
unfolding service_type service_front digits
type-four = refl

abbrev IsOfType : List ℕ → ℕ → Type 0
IsOfType space version = IsVersion version × (space ≡ service_type version)

of-type : (space text : List ℕ) (k version : ℕ) → IsVersion k → service_type k ≡ text → (bytes_eq space text ≡ true) × (k ≡ version) → IsOfType space version
of-type space text k version is type w = subst (λ v. IsOfType space v) w.1 (is, bytes-same space text w.0 ∙ sym type)

pub version-found : (space : List ℕ) (version : ℕ) → version_in space ≡ Some version → IsOfType space version
unfolding version_in
version-found space version e =
    either (of-type space _ 1 version (omega arith, omega arith) type-one)
    (λ e1. either (of-type space _ 2 version (omega arith, omega arith) type-two)
    (λ e2. either (of-type space _ 3 version (omega arith, omega arith) type-three)
    (λ e3. either (of-type space _ 4 version (omega arith, omega arith) type-four) (λ e4. absurd (none-some version e4))
    (pick-by _ 4 version None e3))
    (pick-by _ 3 version _ e2))
    (pick-by _ 2 version _ e1))
    (pick-by _ 1 version _ e)

pub version-known : (version : ℕ) → IsVersion version → version_in (service_type version) ≡ Some version
unfolding version_in service_type service_front digits
version-known zero is = absurd (omega (arith, is.0))
version-known (suc zero) is = refl
version-known (suc (suc zero)) is = refl
version-known (suc (suc (suc zero))) is = refl
version-known (suc (suc (suc (suc zero)))) is = refl
version-known (suc (suc (suc (suc (suc n))))) is = absurd (omega (arith, is.1))

-- ---- names

abbrev IsNamedSo : List ℕ → ActionName → Type 0
IsNamedSo local action_name = local ≡ named_as action_name

named-so : (local text : List ℕ) (k action_name : ActionName) → named_as k ≡ text → (bytes_eq local text ≡ true) × (k ≡ action_name) → IsNamedSo local action_name
named-so local text k action_name spelled w = subst (λ n. IsNamedSo local n) w.1 (bytes-same local text w.0 ∙ sym spelled)

pub name-found : (local : List ℕ) (action_name : ActionName) → name_in local ≡ Some action_name → local ≡ named_as action_name
unfolding name_in
name-found local n e =
    either (named-so local _ name.Browse n refl)
    (λ e1. either (named-so local _ name.Search n refl)
    (λ e2. either (named-so local _ name.GetSystemUpdateId n refl)
    (λ e3. either (named-so local _ name.GetServiceResetToken n refl)
    (λ e4. either (named-so local _ name.GetSearchCapabilities n refl)
    (λ e5. either (named-so local _ name.GetSortCapabilities n refl) (λ e6. absurd (none-some n e6))
    (pick-by _ name.GetSortCapabilities n None e5))
    (pick-by _ name.GetSearchCapabilities n _ e4))
    (pick-by _ name.GetServiceResetToken n _ e3))
    (pick-by _ name.GetSystemUpdateId n _ e2))
    (pick-by _ name.Search n _ e1))
    (pick-by _ name.Browse n _ e)

pub name-known : (action_name : ActionName) → name_in (named_as action_name) ≡ Some action_name
unfolding name_in
name-known name.Browse = refl
name-known name.Search = refl
name-known name.GetSystemUpdateId = refl
name-known name.GetServiceResetToken = refl
name-known name.GetSearchCapabilities = refl
name-known name.GetSortCapabilities = refl

-- ---- the element in the envelope

abbrev CallsIt : Meaning → Found → Type 0
CallsIt element f = Calls element f.name f.version f.call

calls-found : (element : Meaning) (f : Found) → called_by element ≡ Some f → CallsIt element f
unfolding called_by
calls-found element f e =
    let a = bind-some (in_envelope element) _ f e in
    let b = bind-some (name_in (name_of a.first).local) _ f a.then_is in
    let c = bind-some (version_in (name_of a.first).space) _ f b.then_is in
    let version = version-found (name_of a.first).space c.first c.is in
    let local = name-found (name_of a.first).local b.first b.is in
    subst (λ g. CallsIt element g) (some-same (found_as b.first c.first a.first) f c.then_is)
    (record {
      spoken = version.0;
      inside = a.is;
      named = true-both _ _ (same-bytes (name_of a.first).space (service_type c.first) version.1) (same-bytes (name_of a.first).local (named_as b.first) local);
    })

calls-are : (element : Meaning) (n : ActionName) (v : ℕ) (call : Meaning) → Calls element n v call → called_by element ≡ Some (found_as n v call)
unfolding called_by
calls-are element n v call is =
    let both = both-true (bytes_eq (name_of call).space (service_type v)) (bytes_eq (name_of call).local (named_as n)) is.named in
    let space : version_in (name_of call).space ≡ Some v = ap version_in (bytes-same (name_of call).space (service_type v) both.0) ∙ version-known v is.spoken in
    let local : name_in (name_of call).local ≡ Some n = ap name_in (bytes-same (name_of call).local (named_as n) both.1) ∙ name-known n in
    bind-of (in_envelope element) call _ is.inside ∙ bind-of (name_in (name_of call).local) n _ local ∙ bind-of (version_in (name_of call).space) v _ space

-- ---- SOAPACTION too

either-true : (a b : Bool) → (a || b) ≡ true → (a ≡ true) ⊎ (b ≡ true)
either-true true b e = inl refl
either-true false b e = inr e

or-left : (a b : Bool) → a ≡ true → (a || b) ≡ true
or-left a b e = ap (λ x. x || b) e

or-right : (a b : Bool) → b ≡ true → (a || b) ≡ true
or-right true b e = refl
or-right false b e = e

says-found : (text : List ℕ) (v : ℕ) (n : ActionName) → says_action text v n ≡ true → IsSoapAction text v n
says-found text v n e =
    either (λ a. inl (bytes-same text (soap_action v n) a)) (λ b. inr (bytes-same text (in_quotes (soap_action v n)) b))
    (either-true (bytes_eq text (soap_action v n)) (bytes_eq text (in_quotes (soap_action v n))) e)

says-are : (text : List ℕ) (v : ℕ) (n : ActionName) → IsSoapAction text v n → says_action text v n ≡ true
says-are text v n (inl e) = or-left _ _ (same-bytes text (soap_action v n) e)
says-are text v n (inr e) = or-right _ _ (same-bytes text (in_quotes (soap_action v n)) e)

where-by : (b : Bool) (found f : Found) → cond b (Some found) None ≡ Some f → (b ≡ true) × (found ≡ f)
where-by true found f e = (refl, some-same found f e)
where-by false found f e = absurd (none-some f e)

abbrev NamesIt : Entries FieldValue → Meaning → Found → Type 0
NamesIt fields element f = Names fields element f.name f.version f.call

pub names-found : (fields : Entries FieldValue) (element : Meaning) (f : Found) → named_by fields element ≡ Some f → NamesIt fields element f
unfolding named_by
names-found fields element f e =
    let a = bind-some (soap_action_in fields) _ f e in
    let b = bind-some (called_by element) _ f a.then_is in
    let w = where-by (says_action a.first b.first.version b.first.name) b.first f b.then_is in
    subst (λ g. NamesIt fields element g) w.1
    (record {
      calls = calls-found element b.first b.is;
      field = a.first;
      field_is = a.is;
      field_names = says-found a.first b.first.version b.first.name w.0;
    })

pub names-are : (fields : Entries FieldValue) (element : Meaning) (n : ActionName) (v : ℕ) (call : Meaning) → Names fields element n v call → named_by fields element ≡ Some (found_as n v call)
unfolding named_by
names-are fields element n v call is =
    bind-of (soap_action_in fields) is.field _ is.field_is ∙ bind-of (called_by element) (found_as n v call) _ (calls-are element n v call is.calls)
    ∙ ap (λ b. cond b (Some (found_as n v call)) None) (says-are is.field v n is.field_names)

pub names-none : (fields : Entries FieldValue) (element : Meaning) → named_by fields element ≡ None → (n : ActionName) (v : ℕ) (call : Meaning) → ¬ (Names fields element n v call)
names-none fields element e n v call is = none-some (found_as n v call) (sym e ∙ names-are fields element n v call is)
