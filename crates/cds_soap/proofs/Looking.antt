-- What is found in the outline of a request that is looked at is found in the whole request, too.
use Rattle.std.proofs.Common.{◌≡◌, ℕ, suc, ◌+◌, ◌^◌, ◌<◌, ◌≤◌, Bool, true, false, cond, ◌&&◌, ◌||◌, Option, Some, None, option_map, List, [], ◌∷◌, codes, length, map, take, refl, sym, ap, subst, ◌∙◌, arith, inl, inr}
use Rattle.std.specs.List.{filter, list_all, list_any}
use Rattle.std.specs.Option.{option_and_then}
use Rattle.std.specs.Str.{bytes_eq}
use Rattle.std.proofs.lemmas.List.{length-map, length-take-le, take_all}
use Rattle.std.proofs.lemmas.Bool.{cases_lt}
use Rattle.http_header.specs.HeaderMap.{Entries}
use Rattle.http_header.specs.FieldValue.{FieldValue}
use Rattle.cds_http.specs.declared.message.Message.{Message}
use Rattle.cds_markup.specs.declared.name.Name.{Name}
use Rattle.cds_markup.specs.Document.{Meaning, Doc}
use Rattle.cds_markup.specs.Children.{name_of, nodes_in, elements_in, is_named, is_called, only_of}
use Rattle.cds_markup.specs.Outline.{outline}
use Rattle.cds_markup.proofs.Public.{outline-name, outline-elements, outline-text}
use Rattle.cds_soap.specs.declared.action.Action.{Action}
use Rattle.cds_soap.specs.declared.action.Action.TheVariants as action
use Rattle.cds_soap.specs.declared.action.ActionName.{ActionName}
use Rattle.cds_soap.specs.declared.action.ActionName.TheVariants as name
use Rattle.cds_soap.specs.declared.action.BrowseRequest.{BrowseRequest}
use Rattle.cds_soap.specs.declared.action.SearchRequest.{SearchRequest}
use Rattle.cds_soap.specs.Names.{service_type, named_as}
use Rattle.cds_soap.specs.Envelope.{envelope_space, where_of_envelope, body_among, body_of, only_inside, in_envelope}
use Rattle.cds_soap.specs.Given.{own_text, text_given, number_in, number_given, arguments_of, is_argument, has_only, browse_given, search_given, arguments_given, action_given}
use Rattle.cds_soap.specs.Control.{Names, NamesNone}
use Rattle.cds_soap.specs.Found.{found_as, named_by, looked_at, IsLookedAt}
use Rattle.cds_soap.proofs.Naming.{some-same, none-some, bind-some, both-true, names-found, names-none}

-- ---- the element in the envelope

named-same : (space local : List ℕ) (one other : Meaning) → name_of one ≡ name_of other → is_named space local one ≡ is_named space local other
named-same space local one other e = ap (λ (n : Name). bytes_eq n.space space && bytes_eq n.local local) e

-- seen through what keeps names
module _ (g : Meaning → Meaning) (names : (x : Meaning) → name_of (g x) ≡ name_of x) where
  where-seen : (local : List ℕ) (x : Meaning) → where_of_envelope local (g x) ≡ option_map g (where_of_envelope local x)
  where-seen local x = ap (λ b. cond b (Some (g x)) None) (named-same envelope_space local (g x) x (names x)) ∙ by (is_named envelope_space local x) where
    by : (b : Bool) → cond b (Some (g x)) None ≡ option_map g (cond b (Some x) None)
    by true = refl
    by false = refl

  body-seen : (xs : List Meaning) → body_among (map g (take 7 xs)) ≡ option_map g (body_among xs)
  body-seen [] = refl
  body-seen (body ∷ []) = where-seen (codes "Body") body
  body-seen (header ∷ body ∷ []) =
      ap (λ b. cond b (where_of_envelope (codes "Body") (g body)) None) (named-same envelope_space (codes "Header") (g header) header (names header)) ∙ by (is_named envelope_space (codes "Header") header) where
        by : (b : Bool) → cond b (where_of_envelope (codes "Body") (g body)) None ≡ option_map g (cond b (where_of_envelope (codes "Body") body) None)
        by true = where-seen (codes "Body") body
        by false = refl
  body-seen (first ∷ second ∷ third ∷ more) = refl

  only-seen : (xs : List Meaning) → only_of (map g (take 7 xs)) ≡ option_map g (only_of xs)
  only-seen [] = refl
  only-seen (x ∷ []) = refl
  only-seen (x ∷ y ∷ more) = refl

body-looked : (n : ℕ) (element : Meaning) → body_of (outline 7 (suc n) element) ≡ option_map (λ x. outline 7 n x) (body_of element)
body-looked n element =
    let seen = outline 7 (suc n) element in
    ap (λ xs. cond (is_named envelope_space (codes "Envelope") seen) (body_among xs) None) (outline-elements 7 n element)
    ∙ ap (λ b. cond b (body_among (map (λ x. outline 7 n x) (take 7 (elements_in (nodes_in element))))) None) (named-same envelope_space (codes "Envelope") seen element (outline-name 7 (suc n) element))
    ∙ by (is_named envelope_space (codes "Envelope") element) where
      by : (b : Bool) → cond b (body_among (map (λ x. outline 7 n x) (take 7 (elements_in (nodes_in element))))) None ≡ option_map (λ x. outline 7 n x) (cond b (body_among (elements_in (nodes_in element))) None)
      by true = body-seen (λ x. outline 7 n x) (outline-name 7 n) (elements_in (nodes_in element))
      by false = refl

envelope-looked : (n : ℕ) (element : Meaning) → in_envelope (outline 7 (suc (suc n)) element) ≡ option_map (λ x. outline 7 n x) (in_envelope element)
unfolding in_envelope
envelope-looked n element = ap (option_and_then only_inside) (body-looked (suc n) element) ∙ by (body_of element) where
  by : (o : Option Meaning) → option_and_then only_inside (option_map (λ x. outline 7 (suc n) x) o) ≡ option_map (λ x. outline 7 n x) (option_and_then only_inside o)
  by None = refl
  by (Some body) = ap only_of (outline-elements 7 n body) ∙ only-seen (λ x. outline 7 n x) (outline-name 7 n) (elements_in (nodes_in body))

-- ---- the arguments

bind-same : {A B : Type 0} (o p : Option A) (f h : A → Option B) → o ≡ p → ((x : A) → f x ≡ h x) → option_and_then f o ≡ option_and_then h p
bind-same {A = A} {B = B} o p f h e same = ap (option_and_then f) e ∙ by p where
  by : (q : Option A) → option_and_then f q ≡ option_and_then h q
  by None = refl
  by (Some x) = same x

-- child elements seen through what keeps names and own texts
module _ (g : Meaning → Meaning) (names : (x : Meaning) → name_of (g x) ≡ name_of x) (texts : (x : Meaning) → own_text (g x) ≡ own_text x) where
  called-seen : (local : List ℕ) (xs : List Meaning) → filter (is_called local) (map g xs) ≡ map g (filter (is_called local) xs)
  called-seen local [] = refl
  called-seen local (x ∷ xs) =
      ap (λ b. cond b (g x ∷ filter (is_called local) (map g xs)) (filter (is_called local) (map g xs))) (ap (λ (n : Name). bytes_eq n.local local) (names x))
      ∙ ap (λ ys. cond (is_called local x) (g x ∷ ys) ys) (called-seen local xs) ∙ by (is_called local x) (filter (is_called local) xs) where
        by : (b : Bool) (ys : List Meaning) → cond b (g x ∷ map g ys) (map g ys) ≡ map g (cond b (x ∷ ys) ys)
        by true ys = refl
        by false ys = refl

  text-seen : (xs : List Meaning) → option_map own_text (only_of (map g xs)) ≡ option_map own_text (only_of xs)
  text-seen [] = refl
  text-seen (x ∷ []) = ap Some (texts x)
  text-seen (x ∷ y ∷ more) = refl

  all-seen : (n : ActionName) (xs : List Meaning) → list_all (λ child. is_argument n child) (map g xs) ≡ list_all (λ child. is_argument n child) xs
  all-seen n [] = refl
  all-seen n (x ∷ xs) =
      ap (λ (k : Name). list_any (λ local. bytes_eq k.local local) (arguments_of n) && list_all (λ child. is_argument n child) (map g xs)) (names x)
      ∙ ap (λ b. is_argument n x && b) (all-seen n xs)

  module _ (one other : Meaning) (are : elements_in (nodes_in one) ≡ map g (elements_in (nodes_in other))) where
    given-seen : (local : List ℕ) → text_given local one ≡ text_given local other
    given-seen local =
        ap (λ xs. option_map own_text (only_of (filter (is_called local) xs))) are
        ∙ ap (λ xs. option_map own_text (only_of xs)) (called-seen local (elements_in (nodes_in other))) ∙ text-seen (filter (is_called local) (elements_in (nodes_in other)))

    number-seen : (local : List ℕ) → number_given local one ≡ number_given local other
    number-seen local = ap (option_and_then (number_in (2 ^ 32))) (given-seen local)

    browse-seen : browse_given one ≡ browse_given other
    unfolding browse_given
    browse-seen =
        bind-same _ _ _ _ (given-seen (codes "ObjectID"))
        (λ object. bind-same _ _ _ _ (given-seen (codes "BrowseFlag"))
        (λ flag. bind-same _ _ _ _ (given-seen (codes "Filter"))
        (λ chosen. bind-same _ _ _ _ (number-seen (codes "StartingIndex"))
        (λ start. bind-same _ _ _ _ (number-seen (codes "RequestedCount"))
        (λ count. bind-same _ _ _ _ (given-seen (codes "SortCriteria")) (λ sort. refl))))))

    search-seen : search_given one ≡ search_given other
    unfolding search_given
    search-seen =
        bind-same _ _ _ _ (given-seen (codes "ContainerID"))
        (λ container. bind-same _ _ _ _ (given-seen (codes "SearchCriteria"))
        (λ criteria. bind-same _ _ _ _ (given-seen (codes "Filter"))
        (λ chosen. bind-same _ _ _ _ (number-seen (codes "StartingIndex"))
        (λ start. bind-same _ _ _ _ (number-seen (codes "RequestedCount"))
        (λ count. bind-same _ _ _ _ (given-seen (codes "SortCriteria")) (λ sort. refl))))))

    arguments-seen : (n : ActionName) → arguments_given n one ≡ arguments_given n other
    arguments-seen name.Browse = ap (option_map action.Browse) browse-seen
    arguments-seen name.Search = ap (option_map action.Search) search-seen
    arguments-seen rest = refl

    action-seen : (n : ActionName) → action_given n one ≡ action_given n other
    unfolding action_given
    action-seen n =
        ap (λ xs. cond (list_all (λ child. is_argument n child) xs) (arguments_given n one) None) are
        ∙ ap (λ b. cond b (arguments_given n one) None) (all-seen n (elements_in (nodes_in other)))
        ∙ ap (λ o. cond (has_only n other) o None) (arguments-seen n)

-- ---- an action with its arguments has at most six child elements

-- how many elements have a name, over some names
abbrev total : List (List ℕ) → List Meaning → ℕ
total [] xs = 0
total (local ∷ more) xs = length (filter (is_called local) xs) + total more xs

longer : (b : Bool) (x : Meaning) (xs : List Meaning) → length xs ≤ length (cond b (x ∷ xs) xs)
longer true x xs = omega arith
longer false x xs = omega arith

grows : (locals : List (List ℕ)) (x : Meaning) (xs : List Meaning) → total locals xs ≤ total locals (x ∷ xs)
grows [] x xs = omega arith
grows (local ∷ more) x xs = omega (arith, grows more x xs, longer (is_called local x) x (filter (is_called local) xs))

one-more : (b any : Bool) (x : Meaning) (xs : List Meaning) (few many : ℕ) → (b || any) ≡ true → few ≤ many → (any ≡ true → suc few ≤ many) → suc (length xs + few) ≤ length (cond b (x ∷ xs) xs) + many
one-more true any x xs few many e grown more = omega arith
one-more false any x xs few many e grown more = omega (arith, more e)

counted : (locals : List (List ℕ)) (x : Meaning) (xs : List Meaning) → list_any (λ local. is_called local x) locals ≡ true → suc (total locals xs) ≤ total locals (x ∷ xs)
counted [] x xs e = absurd (cc)
counted (local ∷ more) x xs e =
    one-more (is_called local x) (list_any (λ l. is_called l x) more) x (filter (is_called local) xs) (total more xs) (total more (x ∷ xs)) e (grows more x xs) (counted more x xs)

covered : (locals : List (List ℕ)) (xs : List Meaning) → list_all (λ x. list_any (λ local. is_called local x) locals) xs ≡ true → length xs ≤ total locals xs
covered locals [] e = omega arith
covered locals (x ∷ xs) e =
    let both = both-true (list_any (λ local. is_called local x) locals) (list_all (λ y. list_any (λ local. is_called local y) locals) xs) e in
    omega (arith, covered locals xs both.1, counted locals x xs both.0)

text-once : (local : List ℕ) (element : Meaning) (text : List ℕ) → text_given local element ≡ Some text → length (filter (is_called local) (elements_in (nodes_in element))) ≡ 1
text-once local element text e = by (filter (is_called local) (elements_in (nodes_in element))) e where
  by : (xs : List Meaning) → option_map own_text (only_of xs) ≡ Some text → length xs ≡ 1
  by [] e = absurd (none-some text e)
  by (x ∷ []) e = refl
  by (x ∷ y ∷ more) e = absurd (none-some text e)

number-once : (local : List ℕ) (element : Meaning) (number : ℕ) → number_given local element ≡ Some number → length (filter (is_called local) (elements_in (nodes_in element))) ≡ 1
number-once local element number e = let a = bind-some (text_given local element) _ number e in text-once local element a.first a.is

browse-once : (element : Meaning) (request : BrowseRequest) → browse_given element ≡ Some request → total (arguments_of name.Browse) (elements_in (nodes_in element)) ≤ 6
unfolding browse_given
browse-once element request e =
    let object = bind-some (text_given (codes "ObjectID") element) _ request e in
    let flag = bind-some (text_given (codes "BrowseFlag") element) _ request object.then_is in
    let chosen = bind-some (text_given (codes "Filter") element) _ request flag.then_is in
    let start = bind-some (number_given (codes "StartingIndex") element) _ request chosen.then_is in
    let count = bind-some (number_given (codes "RequestedCount") element) _ request start.then_is in
    let sort = bind-some (text_given (codes "SortCriteria") element) _ request count.then_is in
    omega (arith, text-once (codes "ObjectID") element object.first object.is, text-once (codes "BrowseFlag") element flag.first flag.is, text-once (codes "Filter") element chosen.first chosen.is, number-once (codes "StartingIndex") element start.first start.is, number-once (codes "RequestedCount") element count.first count.is, text-once (codes "SortCriteria") element sort.first sort.is)

search-once : (element : Meaning) (request : SearchRequest) → search_given element ≡ Some request → total (arguments_of name.Search) (elements_in (nodes_in element)) ≤ 6
unfolding search_given
search-once element request e =
    let container = bind-some (text_given (codes "ContainerID") element) _ request e in
    let criteria = bind-some (text_given (codes "SearchCriteria") element) _ request container.then_is in
    let chosen = bind-some (text_given (codes "Filter") element) _ request criteria.then_is in
    let start = bind-some (number_given (codes "StartingIndex") element) _ request chosen.then_is in
    let count = bind-some (number_given (codes "RequestedCount") element) _ request start.then_is in
    let sort = bind-some (text_given (codes "SortCriteria") element) _ request count.then_is in
    omega (arith, text-once (codes "ContainerID") element container.first container.is, text-once (codes "SearchCriteria") element criteria.first criteria.is, text-once (codes "Filter") element chosen.first chosen.is, number-once (codes "StartingIndex") element start.first start.is, number-once (codes "RequestedCount") element count.first count.is, text-once (codes "SortCriteria") element sort.first sort.is)

record Mapped {A B : Type 0} (o : Option A) (f : A → B) (y : B) : Type 0 where
  first : A
  is : o ≡ Some first
  gives : f first ≡ y

mapped : {A B : Type 0} (o : Option A) (f : A → B) (y : B) → option_map f o ≡ Some y → Mapped o f y
mapped None f y e = absurd (none-some y e)
mapped (Some x) f y e = record { first = x; is = refl; gives = some-same (f x) y e }

each-once : (n : ActionName) (element : Meaning) (given : Action) → arguments_given n element ≡ Some given → total (arguments_of n) (elements_in (nodes_in element)) ≤ 6
each-once name.Browse element given e = let r = mapped (browse_given element) action.Browse given e in browse-once element r.first r.is
each-once name.Search element given e = let r = mapped (search_given element) action.Search given e in search-once element r.first r.is
each-once rest element given e = omega arith

at-most-six : (n : ActionName) (element : Meaning) (given : Action) → action_given n element ≡ Some given → length (elements_in (nodes_in element)) ≤ 6
unfolding action_given
at-most-six n element given e = by (has_only n element) (λ h. covered (arguments_of n) (elements_in (nodes_in element)) h) e where
  by : (b : Bool) → (b ≡ true → length (elements_in (nodes_in element)) ≤ total (arguments_of n) (elements_in (nodes_in element))) → cond b (arguments_given n element) None ≡ Some given → length (elements_in (nodes_in element)) ≤ 6
  by true few e = omega (arith, few refl, each-once n element given e)
  by false few e = absurd (none-some given e)

none-given : (n : ActionName) (element : Meaning) → 6 < length (elements_in (nodes_in element)) → action_given n element ≡ None
none-given n element many = by (action_given n element) refl where
  by : (o : Option Action) → action_given n element ≡ o → o ≡ None
  by None e = refl
  by (Some given) e = absurd (omega (arith, at-most-six n element given e))

given-looked : (n : ActionName) (call : Meaning) → action_given n (outline 7 1 call) ≡ action_given n call
given-looked n call = elim (cases_lt (length (elements_in (nodes_in call))) 8) [
  | inl few ↦ action-seen (λ x. outline 7 0 x) (outline-name 7 0) (outline-text 7) (outline 7 1 call) call (outline-elements 7 0 call ∙ ap (map (λ x. outline 7 0 x)) (take_all 7 (elements_in (nodes_in call)) (omega (arith, few)))) n
  | inr many ↦ none-given n (outline 7 1 call) (omega (arith, seven (omega (arith, many)))) ∙ sym (none-given n call (omega (arith, many)))
] where
  seven : 7 ≤ length (elements_in (nodes_in call)) → length (elements_in (nodes_in (outline 7 1 call))) ≡ 7
  seven many = ap length (outline-elements 7 0 call) ∙ length-map (take 7 (elements_in (nodes_in call))) (λ x. outline 7 0 x) ∙ length-take-le 7 (elements_in (nodes_in call)) many

-- ---- what names an action, and what that is given

names-looked : (fields : Entries FieldValue) (element : Meaning) (n : ActionName) (v : ℕ) (call : Meaning) → Names fields element n v call → Names fields (looked_at element) n v (outline 7 1 call)
names-looked fields element n v call is = record {
  calls = record {
    spoken = is.calls.spoken;
    inside = envelope-looked 1 element ∙ ap (option_map (λ x. outline 7 1 x)) is.calls.inside;
    named = named-same (service_type v) (named_as n) (outline 7 1 call) call (outline-name 7 1 call) ∙ is.calls.named;
  };
  field = is.field;
  field_is = is.field_is;
  field_names = is.field_names;
}

pub looked-none : (m : Message) (seen : Meaning) → IsLookedAt m.body seen → named_by m.fields seen ≡ None → NamesNone m
looked-none m seen (element, doc, same) none =
    (element, doc, λ n v call is. names-none m.fields seen none n v (outline 7 1 call) (subst (λ x. Names m.fields x n v (outline 7 1 call)) (sym same) (names-looked m.fields element n v call is)))

pub record Looked (m : Message) (n : ActionName) (v : ℕ) (seen : Meaning) : Type 0 where
  pub element : Meaning
  pub document : Doc m.body element
  pub call : Meaning
  pub names : Names m.fields element n v call
  pub given : action_given n call ≡ action_given n seen

pub looked-found : (m : Message) (seen call : Meaning) (n : ActionName) (v : ℕ) → IsLookedAt m.body seen → named_by m.fields seen ≡ Some (found_as n v call) → Looked m n v call
looked-found m seen call n v (element, doc, same) some =
    let is = subst (λ x. Names m.fields x n v call) same (names-found m.fields seen (found_as n v call) some) in
    let found = mapped (in_envelope element) (λ x. outline 7 1 x) call (sym (envelope-looked 1 element) ∙ is.calls.inside) in
    let named : name_of found.first ≡ name_of call = sym (outline-name 7 1 found.first) ∙ ap name_of found.gives in
    record {
      element = element;
      document = doc;
      call = found.first;
      names = record {
        calls = record { spoken = is.calls.spoken; inside = found.is; named = named-same (service_type v) (named_as n) found.first call named ∙ is.calls.named };
        field = is.field;
        field_is = is.field_is;
        field_names = is.field_names;
      };
      given = sym (given-looked n found.first) ∙ ap (action_given n) found.gives;
    }
