-- Notes that are given to a link one after another.
use Rattle.std.proofs.Common.{◌≡◌, ◌+◌, ◌<◌, ◌≤◌, ℕ, List, [], ◌∷◌, ◌++◌, length, map, take, get_or, Option, Some, None, IsSome, IfSome, Result, Ok, Err, OnErr, option_map, unwrap_or, true≢false, refl, sym, ap, subst, ◌∙◌, append_assoc}
use Rattle.std.proofs.lemmas.List.{append-nil, length-map, map-append, take-map, take_all, take_more}
use Rattle.cds_outside.specs.declared.link.LinkFault.{LinkFault}
use Rattle.cds_outside.specs.declared.link.LinkFault.TheVariants.{Failed, Mem, Over}
use Rattle.cds_outside.specs.declared.link.LinkRequest.{LinkRequest}
use Rattle.cds_outside.specs.Outside.{Told}
use Rattle.cds_outside.specs.Links.{requests_after}
use Rattle.url.specs.Parts.{Parts}
use Rattle.cds_gena.specs.Asked.{url_in}
use Rattle.cds_gena.specs.Subscribed.{IsDelivered}
use Rattle.cds_gena.specs.declared.address.Address.{Address}
use Rattle.cds_notify.specs.Notify.{notify_text}
use Rattle.cds_serve.specs.Sent.{GivesEach, GivesFront, note_text, sent_despite}

pub gives-none : (before : Option (List LinkRequest)) → GivesEach [] before before
gives-none before sent told = told ∙ ap Some (sym (append-nil sent))

pub gives-more : (xs ys : List LinkRequest) (before mid after : Option (List LinkRequest)) → GivesEach xs before mid → GivesEach ys mid after
    → GivesEach (xs ++ ys) before after
gives-more xs ys before mid after one other sent told = other (sent ++ xs) (one sent told) ∙ ap Some (append_assoc sent xs ys)

pub gives-no-more : (xs : List LinkRequest) (before mid after : Option (List LinkRequest)) → GivesEach xs before mid → GivesEach [] mid after
    → GivesEach xs before after
gives-no-more xs before mid after one other sent told = other (sent ++ xs) (one sent told) ∙ ap Some (append-nil (sent ++ xs))

-- what went out where the link failed
pub after-fault : {A : Type 0} (exchanged : Result A LinkFault) (fault : LinkFault) (request : LinkRequest) (sent : List LinkRequest) → exchanged ≡ Err fault
    → requests_after exchanged request sent ≡ sent ++ sent_despite fault request
after-fault {A} exchanged fault request sent is = ap (λ (r : Result A LinkFault). requests_after r request sent) is ∙ by fault
  where
    by : (f : LinkFault) → requests_after {A = A} (Err f) request sent ≡ sent ++ sent_despite f request
    by Failed = refl
    by Mem = sym (append-nil sent)
    by Over = refl

-- the same of the same request
pub same-request : {A : Type 0} (exchanged : Result A LinkFault) (request other : LinkRequest) (before after : Option (List LinkRequest)) → request ≡ other
    → Told before (λ list. after ≡ Some (requests_after exchanged request list)) → Told before (λ list. after ≡ Some (requests_after exchanged other list))
same-request exchanged request other before after is gone list told = gone list told ∙ ap (λ (r : LinkRequest). Some (requests_after exchanged r list)) is

-- the text of a note that can be delivered
pub note-written : (to : Address) (body front text : List ℕ) → IsDelivered to → front ≡ []
    → IfSome (url_in to.callback) (λ url. text ≡ front ++ notify_text url to body) → text ≡ note_text to body
note-written to body front text delivered none is = by (url_in to.callback) delivered is
  where
    by : (o : Option Parts) → IsSome o → IfSome o (λ url. text ≡ front ++ notify_text url to body)
        → text ≡ unwrap_or (option_map (λ url. notify_text url to body) o) []
    by None away said = absurd (true≢false (sym away))
    by (Some url) there said = said ∙ ap (λ (l : List ℕ). l ++ notify_text url to body) none

-- what is so at each end is so at a failure
pub on-err : {A E P : Type 0} (result : Result A E) → P → OnErr result P
on-err (Ok value) p = tt
on-err (Err e) p = p

module _ {A : Type 0} (f : A → LinkRequest) (to : List A) (before : Option (List LinkRequest)) where
  -- so many and the next one
  pub gives-next : (i : ℕ) (a : A) (mid after : Option (List LinkRequest)) → i < length to → a ≡ get_or to i a → GivesEach (map f (take i to)) before mid
      → GivesEach (f a ∷ []) mid after → GivesEach (map f (take (i + 1) to)) before after
  gives-next i a mid after within is one other sent told =
      gives-more (map f (take i to)) (f a ∷ []) before mid after one other sent told
      ∙ ap (λ l. Some (sent ++ l)) (sym (map-append f (take i to) (a ∷ [])) ∙ ap (map f) (ap (λ z. take i to ++ z ∷ []) is ∙ sym (take_more to i a within)))

  pub gives-front : (i : ℕ) (after : Option (List LinkRequest)) → i < length to → GivesEach (map f (take i to)) before after → GivesFront (map f to) before after
  gives-front i after within given sent told =
      (i, subst (λ n. i < n) (sym (length-map to f)) within, given sent told ∙ ap (λ l. Some (sent ++ l)) (sym (take-map f i to)))

  pub gives-all : (i : ℕ) (after : Option (List LinkRequest)) → length to ≤ i → GivesEach (map f (take i to)) before after → GivesEach (map f to) before after
  gives-all i after over given sent told = given sent told ∙ ap (λ l. Some (sent ++ map f l)) (take_all i to over)
