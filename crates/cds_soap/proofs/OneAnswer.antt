-- A message has one answer, and so have the bytes of a reply.
use Rattle.std.proofs.Common.{◌≡◌, ℕ, Ok, Err, List, refl, sym, ap, subst, ◌∙◌}
use Rattle.cds_markup.specs.Document.{Meaning, Doc}
use Rattle.cds_markup.proofs.Public.{one-element, one-answer}
use Rattle.cds_http.specs.declared.message.Message.{Message}
use Rattle.cds_http.specs.declared.message.Start.{Start}
use Rattle.cds_http.specs.declared.message.Start.TheVariants.{Request as of_request, Reply as of_reply}
use Rattle.cds_soap.specs.declared.action.ActionName.{ActionName}
use Rattle.cds_soap.specs.declared.action.Action.{Action}
use Rattle.cds_soap.specs.declared.action.Asked.{Asked}
use Rattle.cds_soap.specs.declared.answer.Answer.{Answer}
use Rattle.cds_soap.specs.declared.error.SoapError.TheVariants.{Markup, InvalidAction, InvalidArgs, NotAnswer, Mem}
use Rattle.cds_soap.specs.Names.{name_of_action}
use Rattle.cds_soap.specs.Given.{action_given}
use Rattle.cds_soap.specs.Control.{Names, Control, NamesNone, GivesNone}
use Rattle.cds_soap.specs.Answered.{Says, Answered, AnsweredIn}
use Rattle.cds_soap.specs.Found.{Found, found_as}
use Rattle.cds_soap.specs.Laws.{OneAsk, OneReply}
use Rattle.cds_soap.proofs.Naming.{some-same, none-some, names-are}
use Rattle.cds_soap.proofs.Replies.{one-reply}
use Rattle.cds_soap.proofs.Saying.{said-are}

-- ---- what a message asks for

same-found : (m : Message) (one other : Meaning) (n k : ActionName) (v w : ℕ) (c d : Meaning) → Doc m.body one → Doc m.body other
    → Names m.fields one n v c → Names m.fields other k w d → found_as n v c ≡ found_as k w d
same-found m one other n k v w c d doc doc_too is too =
    let same : other ≡ one = one-element m.body other one doc_too doc in
    let names : Names m.fields one k w d = subst (λ x. Names m.fields x k w d) same too in
    some-same (found_as n v c) (found_as k w d) (sym (names-are m.fields one n v c is) ∙ names-are m.fields one k w d names)

same-given : (f g : Found) → f ≡ g → action_given f.name f.call ≡ action_given g.name g.call
same-given f g e = ap (λ (x : Found). action_given x.name x.call) e

one-asked : (m : Message) (a b : Asked) → Control m a.action a.version → Control m b.action b.version → a ≡ b
one-asked m a b (one, doc, is) (other, doc_too, too) =
    let f = found_as is.action_name a.version is.call in
    let g = found_as too.action_name b.version too.call in
    let found : f ≡ g = same-found m one other is.action_name too.action_name a.version b.version is.call too.call doc doc_too is.names too.names in
    let action : a.action ≡ b.action = some-same a.action b.action (sym is.arguments ∙ same-given f g found ∙ too.arguments) in
    let version : a.version ≡ b.version = ap (λ (x : Found). x.version) found in
    λ i. record { action = action i; version = version i }

asked-named : (m : Message) (a : Asked) → Control m a.action a.version → NamesNone m → ⊥
asked-named m a (one, doc, is) (other, doc_too, none) =
    let same : one ≡ other = one-element m.body one other doc doc_too in
    none is.action_name a.version is.call (subst (λ x. Names m.fields x is.action_name a.version is.call) same is.names)

asked-given : (m : Message) (a : Asked) → Control m a.action a.version → GivesNone m → ⊥
asked-given m a (one, doc, is) too =
    let f = found_as is.action_name a.version is.call in
    let g = found_as too.action_name too.version too.call in
    let found : f ≡ g = same-found m one too.element is.action_name too.action_name a.version too.version is.call too.call doc too.document is.names too.names in
    none-some a.action (sym too.arguments ∙ sym (same-given f g found) ∙ is.arguments)

given-named : (m : Message) → GivesNone m → NamesNone m → ⊥
given-named m is (other, doc, none) =
    let same : is.element ≡ other = one-element m.body is.element other is.document doc in
    none is.action_name is.version is.call (subst (λ x. Names m.fields x is.action_name is.version is.call) same is.names)

pub one-ask : OneAsk
one-ask m (Ok a) (Ok b) is too p q = ap Ok (one-asked m a b is too)
one-ask m (Ok a) (Err (Markup r)) is too p q = absurd ((one-answer m.body r too.0 too.1).0 is.0 is.1)
one-ask m (Ok a) (Err InvalidAction) is too p q = absurd (asked-named m a is too)
one-ask m (Ok a) (Err InvalidArgs) is too p q = absurd (asked-given m a is too)
one-ask m (Ok a) (Err NotAnswer) is too p q = absurd too
one-ask m (Err (Markup r)) (Ok b) is too p q = absurd ((one-answer m.body r is.0 is.1).0 too.0 too.1)
one-ask m (Err (Markup r)) (Err (Markup s)) is too p q = ap (λ x. Err (Markup x)) (sym ((one-answer m.body r is.0 is.1).1 s too.0 too.1))
one-ask m (Err (Markup r)) (Err InvalidAction) is too p q = absurd ((one-answer m.body r is.0 is.1).0 too.0 too.1)
one-ask m (Err (Markup r)) (Err InvalidArgs) is too p q = absurd ((one-answer m.body r is.0 is.1).0 too.element too.document)
one-ask m (Err (Markup r)) (Err NotAnswer) is too p q = absurd too
one-ask m (Err InvalidAction) (Ok b) is too p q = absurd (asked-named m b too is)
one-ask m (Err InvalidAction) (Err (Markup s)) is too p q = absurd ((one-answer m.body s too.0 too.1).0 is.0 is.1)
one-ask m (Err InvalidAction) (Err InvalidAction) is too p q = refl
one-ask m (Err InvalidAction) (Err InvalidArgs) is too p q = absurd (given-named m too is)
one-ask m (Err InvalidAction) (Err NotAnswer) is too p q = absurd too
one-ask m (Err InvalidArgs) (Ok b) is too p q = absurd (asked-given m b too is)
one-ask m (Err InvalidArgs) (Err (Markup s)) is too p q = absurd ((one-answer m.body s too.0 too.1).0 is.element is.document)
one-ask m (Err InvalidArgs) (Err InvalidAction) is too p q = absurd (given-named m is too)
one-ask m (Err InvalidArgs) (Err InvalidArgs) is too p q = refl
one-ask m (Err InvalidArgs) (Err NotAnswer) is too p q = absurd too
one-ask m (Err NotAnswer) other is too p q = absurd is
one-ask m (Err Mem) other is too p q = absurd (p refl)
one-ask m (Ok a) (Err Mem) is too p q = absurd (q refl)
one-ask m (Err (Markup r)) (Err Mem) is too p q = absurd (q refl)
one-ask m (Err InvalidAction) (Err Mem) is too p q = absurd (q refl)
one-ask m (Err InvalidArgs) (Err Mem) is too p q = absurd (q refl)

-- ---- what the bytes of a reply answer

one-says : (start : Start) (element : Meaning) (n : ActionName) (a b : Answer) → Says start element n a → Says start element n b → a ≡ b
one-says (of_request method target) element n a b is too = absurd is
one-says (of_reply status) element n a b is too = some-same a b (sym (said-are n status element a is) ∙ said-are n status element b too)

one-answered : (m : Message) (action : Action) (a b : Answer) → Answered m action a → Answered m action b → a ≡ b
one-answered m action a b (one, doc, is) (other, doc_too, too) =
    let same : other ≡ one = one-element m.body other one doc_too doc in
    one-says m.start one (name_of_action action) a b is (subst (λ x. Says m.start x (name_of_action action) b) same too)

one-answered-in : (bytes : List ℕ) (action : Action) (a b : Answer) → AnsweredIn bytes action a → AnsweredIn bytes action b → a ≡ b
one-answered-in bytes action a b (m, n, is, answered) (other, k, too, answered_too) =
    let same : other ≡ m = one-reply bytes other m k n too is in
    one-answered m action a b answered (subst (λ x. Answered x action b) same answered_too)

pub one-reply-answer : OneReply
one-reply-answer bytes action (Ok a) (Ok b) is too p q = ap Ok (one-answered-in bytes action a b is too)
one-reply-answer bytes action (Ok a) (Err NotAnswer) is too p q = absurd (too a is)
one-reply-answer bytes action (Ok a) (Err Mem) is too p q = absurd (q refl)
one-reply-answer bytes action (Ok a) (Err (Markup s)) is too p q = absurd too
one-reply-answer bytes action (Ok a) (Err InvalidAction) is too p q = absurd too
one-reply-answer bytes action (Ok a) (Err InvalidArgs) is too p q = absurd too
one-reply-answer bytes action (Err NotAnswer) (Ok b) is too p q = absurd (is b too)
one-reply-answer bytes action (Err NotAnswer) (Err NotAnswer) is too p q = refl
one-reply-answer bytes action (Err NotAnswer) (Err Mem) is too p q = absurd (q refl)
one-reply-answer bytes action (Err NotAnswer) (Err (Markup s)) is too p q = absurd too
one-reply-answer bytes action (Err NotAnswer) (Err InvalidAction) is too p q = absurd too
one-reply-answer bytes action (Err NotAnswer) (Err InvalidArgs) is too p q = absurd too
one-reply-answer bytes action (Err Mem) other is too p q = absurd (p refl)
one-reply-answer bytes action (Err (Markup r)) other is too p q = absurd is
one-reply-answer bytes action (Err InvalidAction) other is too p q = absurd is
one-reply-answer bytes action (Err InvalidArgs) other is too p q = absurd is
