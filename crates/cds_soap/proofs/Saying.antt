-- What a reply says: what is found is what the relations say, and there is no other.
use Rattle.std.proofs.Common.{◌≡◌, ◌≢◌, ◌==◌, ℕ, Bool, true, false, cond, ◌&&◌, is_some, Option, Some, None, option_map, Result, Ok, Err, IfOk, List, [], codes, refl, sym, ap, subst, ◌∙◌}
use Rattle.std.specs.Str.{bytes_eq}
use Rattle.std.specs.Option.{option_and_then}
use Rattle.std.proofs.lemmas.Bool.Decides.{Decides-eqb}
use Rattle.cds_base.specs.declared.mem.Mem.{Mem}
use Rattle.cds_markup.specs.declared.error.MarkupError.{MarkupError}
use Rattle.cds_markup.specs.declared.error.MarkupError.TheVariants.{Bad, TooDeep, TooLong, Failed, Mem as NoMemory}
use Rattle.cds_markup.specs.Decided.{Decides}
use Rattle.cds_markup.specs.Document.{Meaning, Doc}
use Rattle.cds_markup.specs.Children.{name_of, is_called}
use Rattle.cds_markup.proofs.Public.{one-element}
use Rattle.cds_http.specs.declared.message.Message.{Message}
use Rattle.cds_http.specs.declared.message.Start.{Start}
use Rattle.cds_http.specs.declared.message.Start.TheVariants.{Request as of_request, Reply as of_reply}
use Rattle.cds_soap.specs.declared.action.ActionName.{ActionName}
use Rattle.cds_soap.specs.declared.action.ActionName.TheVariants as name
use Rattle.cds_soap.specs.declared.action.Action.{Action}
use Rattle.cds_soap.specs.declared.answer.Answer.{Answer}
use Rattle.cds_soap.specs.declared.answer.Answer.TheVariants as answer
use Rattle.cds_soap.specs.Names.{IsVersion, service_type, response_to, name_of_action}
use Rattle.cds_soap.specs.Envelope.{in_envelope, where_of_envelope}
use Rattle.cds_soap.specs.Given.{text_given, number_given, page_given, results_given}
use Rattle.cds_soap.specs.Answered.{Faults, Results, Says, Answered, AnsweredIn, code_in}
use Rattle.cds_soap.specs.Found.{version_in, code_answered, response_by, fault_by, inside_by, said_by, IsAnswerIn, IsReplyIn}
use Rattle.cds_soap.proofs.Replies.{one-reply}
use Rattle.cds_soap.proofs.Naming.{some-same, none-some, bind-some, bind-of, both-true, true-both, bytes-same, same-bytes, version-found, version-known}

-- ---- results are no fault

page-no-fault : (element : Meaning) (code : ℕ) → page_given element ≡ Some (answer.Fault code) → ⊥
unfolding page_given
page-no-fault element code e =
    let a = bind-some (text_given (codes "Result") element) _ _ e in
    let b = bind-some (number_given (codes "NumberReturned") element) _ _ a.then_is in
    let c = bind-some (number_given (codes "TotalMatches") element) _ _ b.then_is in
    let d = bind-some (number_given (codes "UpdateID") element) _ _ c.then_is in
    no a.first b.first c.first d.first d.then_is where
      no : (r : List ℕ) (x y z : ℕ) → ◌≡◌ {A = Option Answer} (Some (answer.Page r x y z)) (Some (answer.Fault code)) → ⊥
      no r x y z h = cc

number-no-fault : (o : Option ℕ) (code : ℕ) → option_map answer.Number o ≡ Some (answer.Fault code) → ⊥
number-no-fault None code e = cc
number-no-fault (Some n) code e = cc

text-no-fault : (o : Option (List ℕ)) (code : ℕ) → option_map answer.Text o ≡ Some (answer.Fault code) → ⊥
text-no-fault None code e = cc
text-no-fault (Some n) code e = cc

no-fault : (n : ActionName) (element : Meaning) (code : ℕ) → results_given n element ≡ Some (answer.Fault code) → ⊥
no-fault name.Browse element code e = page-no-fault element code e
no-fault name.Search element code e = page-no-fault element code e
no-fault name.GetSystemUpdateId element code e = number-no-fault (number_given (codes "Id") element) code e
no-fault name.GetServiceResetToken element code e = text-no-fault (text_given (codes "ResetToken") element) code e
no-fault name.GetSearchCapabilities element code e = text-no-fault (text_given (codes "SearchCaps") element) code e
no-fault name.GetSortCapabilities element code e = text-no-fault (text_given (codes "SortCaps") element) code e

-- ---- what is found is said

says-results : (status : ℕ) (element inside : Meaning) (n : ActionName) (given : Answer) → status ≡ 200 → results_given n inside ≡ Some given → Results element n given → Says (of_reply status) element n given
says-results status element inside n (answer.Page r x y z) s e results = (s, results)
says-results status element inside n (answer.Number x) s e results = (s, results)
says-results status element inside n (answer.Text t) s e results = (s, results)
says-results status element inside n (answer.Fault code) s e results = absurd (no-fault n inside code e)

where-true : {X : Type 0} (b : Bool) (o : Option X) (x : X) → cond b o None ≡ Some x → (b ≡ true) × (o ≡ Some x)
where-true true o x e = (refl, e)
where-true false o x e = absurd (none-some x e)

some-of : {X : Type 0} (o : Option X) → is_some o ≡ true → (x : X) × (o ≡ Some x)
some-of None e = absurd (no e) where
  no : false ≡ true → ⊥
  no h = cc
some-of (Some x) e = (x, refl)

response-says : (status : ℕ) (element inside : Meaning) (n : ActionName) (given : Answer) → status ≡ 200 → in_envelope element ≡ Some inside → response_by n inside ≡ Some given → Says (of_reply status) element n given
response-says status element inside n given s is e =
    let w = where-true (is_called (response_to n) inside && is_some (version_in (name_of inside).space)) (results_given n inside) given e in
    let both = both-true (is_called (response_to n) inside) (is_some (version_in (name_of inside).space)) w.0 in
    let v = some-of (version_in (name_of inside).space) both.1 in
    let type = version-found (name_of inside).space v.0 v.1 in
    says-results status element inside n given s w.1
    (record {
      version = v.0;
      spoken = type.0;
      response = inside;
      inside = is;
      named = true-both _ _ (same-bytes (name_of inside).space (service_type v.0) type.1) both.0;
      results = w.1;
    })

faults-say : (status : ℕ) (element : Meaning) (n : ActionName) (code : ℕ) (given : Answer) → status ≡ 500 → answer.Fault code ≡ given → Faults element code → Says (of_reply status) element n given
faults-say status element n code given s e faults = subst (λ g. Says (of_reply status) element n g) e (s, faults)

code-some : (o : Option ℕ) (given : Answer) → code_answered o ≡ Some given → (code : ℕ) × (o ≡ Some code) × (answer.Fault code ≡ given)
code-some None given e = absurd (none-some given e)
code-some (Some code) given e = (code, refl, some-same (answer.Fault code) given e)

fault-says : (status : ℕ) (element inside : Meaning) (n : ActionName) (given : Answer) → status ≡ 500 → in_envelope element ≡ Some inside → fault_by inside ≡ Some given → Says (of_reply status) element n given
unfolding fault_by
fault-says status element inside n given s is e =
    let a = bind-some (where_of_envelope (codes "Fault") inside) _ given e in
    let c = code-some (code_in a.first) given a.then_is in
    faults-say status element n c.0 given s c.2
    (record { fault = a.first; inside = bind-of (in_envelope element) inside _ is ∙ a.is; code_is = c.1 })

inside-says : (status : ℕ) (element inside : Meaning) (n : ActionName) (given : Answer) (ok fails : Bool) → (status == 200) ≡ ok → (status == 500) ≡ fails
    → in_envelope element ≡ Some inside → cond ok (response_by n inside) (cond fails (fault_by inside) None) ≡ Some given → Says (of_reply status) element n given
inside-says status element inside n given true fails o f is e = response-says status element inside n given ((Decides-eqb status 200).0 o) is e
inside-says status element inside n given false true o f is e = fault-says status element inside n given ((Decides-eqb status 500).0 f) is e
inside-says status element inside n given false false o f is e = absurd (none-some given e)

pub said-found : (n : ActionName) (status : ℕ) (element : Meaning) (given : Answer) → said_by n status element ≡ Some given → Says (of_reply status) element n given
unfolding said_by
said-found n status element given e =
    let a = bind-some (in_envelope element) _ given e in
    inside-says status element a.first n given (status == 200) (status == 500) refl refl a.is a.then_is

-- ---- what is said is found

results-said : (n : ActionName) (status : ℕ) (element : Meaning) (given : Answer) → status ≡ 200 → Results element n given → said_by n status element ≡ Some given
unfolding said_by
results-said n status element given s r =
    let inside = r.response in
    let both = both-true (bytes_eq (name_of inside).space (service_type r.version)) (is_called (response_to n) inside) r.named in
    let version : version_in (name_of inside).space ≡ Some r.version = ap version_in (bytes-same (name_of inside).space (service_type r.version) both.0) ∙ version-known r.version r.spoken in
    let known : is_some (version_in (name_of inside).space) ≡ true = ap is_some version in
    bind-of (in_envelope element) inside _ r.inside ∙ ap (λ k. inside_by n k inside) s
    ∙ ap (λ b. cond b (results_given n inside) None) (true-both (is_called (response_to n) inside) (is_some (version_in (name_of inside).space)) both.1 known) ∙ r.results

faults-said : (n : ActionName) (status : ℕ) (element : Meaning) (code : ℕ) → status ≡ 500 → Faults element code → said_by n status element ≡ Some (answer.Fault code)
unfolding said_by fault_by
faults-said n status element code s f =
    let a = bind-some (in_envelope element) (where_of_envelope (codes "Fault")) f.fault f.inside in
    bind-of (in_envelope element) a.first _ a.is ∙ ap (λ k. inside_by n k a.first) s ∙ bind-of (where_of_envelope (codes "Fault") a.first) f.fault _ a.then_is
    ∙ ap code_answered f.code_is

pub said-are : (n : ActionName) (status : ℕ) (element : Meaning) (given : Answer) → Says (of_reply status) element n given → said_by n status element ≡ Some given
said-are n status element (answer.Page r x y z) is = results-said n status element (answer.Page r x y z) is.0 is.1
said-are n status element (answer.Number x) is = results-said n status element (answer.Number x) is.0 is.1
said-are n status element (answer.Text t) is = results-said n status element (answer.Text t) is.0 is.1
said-are n status element (answer.Fault code) is = faults-said n status element code is.0 is.1

-- ---- of a message

pub answer-found : (m : Message) (action : Action) (status : ℕ) (element : Meaning) (found : Option Answer) → m.start ≡ of_reply status → Doc m.body element → found ≡ said_by (name_of_action action) status element → IsAnswerIn m action found
answer-found m action status element (Some given) s doc e =
    (element, doc, subst (λ start. Says start element (name_of_action action) given) (sym s) (said-found (name_of_action action) status element given (sym e)))
answer-found m action status element None s doc e = λ given answered.
    let n = name_of_action action in
    let same : answered.0 ≡ element = one-element m.body answered.0 element answered.1 doc in
    let says : Says (of_reply status) element n given = subst (λ x. Says (of_reply status) x n given) same (subst (λ start. Says start answered.0 n given) s answered.2) in
    none-some given (e ∙ said-are n status element given says)

pub request-answers-none : (m : Message) (action : Action) (method target : List ℕ) → m.start ≡ of_request method target → IsAnswerIn m action None
request-answers-none m action method target s = λ given answered. subst (λ start. Says start answered.0 (name_of_action action) given) s answered.2

no-document : (bytes : List ℕ) (refusal : MarkupError) → refusal ≢ NoMemory → Decides bytes (Err refusal) → (element : Meaning) → Doc bytes element → ⊥
no-document bytes (Bad at) not_mem decides = decides.2
no-document bytes (TooDeep at) not_mem decides = decides.2
no-document bytes TooLong not_mem decides = decides.2
no-document bytes Failed not_mem decides = decides.2
no-document bytes NoMemory not_mem decides = absurd (not_mem refl)

pub no-document-answers : (m : Message) (action : Action) (refusal : MarkupError) (r : Result (Option Answer) Mem) → IfOk r (λ found. (found ≡ None) × (refusal ≢ NoMemory))
    → Decides m.body (Err refusal) → IfOk r (λ found. IsAnswerIn m action found)
no-document-answers m action refusal (Ok found) is decides =
    subst (λ f. IsAnswerIn m action f) (sym is.0) (λ given answered. no-document m.body refusal is.1 decides answered.0 answered.1)
no-document-answers m action refusal (Err e) is decides = tt

pub said-answers : (m : Message) (action : Action) (status : ℕ) (n : ActionName) (element : Meaning) (r : Result (Option Answer) Mem) → m.start ≡ of_reply status → Doc m.body element → n ≡ name_of_action action
    → IfOk r (λ found. found ≡ said_by n status element) → IfOk r (λ found. IsAnswerIn m action found)
said-answers m action status n element (Ok found) s doc e is = answer-found m action status element found s doc (is ∙ ap (λ k. said_by k status element) e)
said-answers m action status n element (Err x) s doc e is = tt

-- ---- of bytes

pub answers-found : (bytes : List ℕ) (action : Action) (m : Message) (given : Answer) → IsReplyIn bytes (Some m) → IsAnswerIn m action (Some given) → AnsweredIn bytes action given
answers-found bytes action m given reply answered = (m, reply.0, reply.1, answered)

pub no-reply-answers : (bytes : List ℕ) (action : Action) → IsReplyIn bytes None → (given : Answer) → ¬ (AnsweredIn bytes action given)
no-reply-answers bytes action none given (m, n, is, answered) = none m n is

pub no-answer-answers : (bytes : List ℕ) (action : Action) (m : Message) → IsReplyIn bytes (Some m) → IsAnswerIn m action None → (given : Answer) → ¬ (AnsweredIn bytes action given)
no-answer-answers bytes action m reply none given (other, n, is, answered) =
    none given (subst (λ x. Answered x action given) (one-reply bytes other m n reply.0 is reply.1) answered)
