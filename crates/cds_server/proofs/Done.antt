-- Requests about subscriptions, as they are done step by step.
use Rattle.std.proofs.Common.{◌≡◌, ◌≢◌, ◌⊎◌, inl, inr, ◌+◌, ◌-◌, ◌<◌, ◌^◌, ◌&&◌, ℕ, Bool, true, false, cond, nat_le, List, [], ◌∷◌, ◌++◌, length, take, codes, Option, Some, None, is_some, IsSome, IfSome, Result, Ok, Err, IfOk, OnOk, refl, sym, ap, ◌∙◌, subst, arith, true≢false, eq-eqb, leb-true}
use Rattle.std.specs.Fmt.{decimal}
use Rattle.httparse.specs.Grammar.{is_token, is_token_byte}
use Rattle.cds_http.specs.Written.{CanBeWritten}
use Rattle.cds_commands.specs.Notes.{first_note}
use Rattle.cds_commands.specs.Subscriptions.{end_after}
use Rattle.cds_gena.specs.SidText.{sid_text}
use Rattle.cds_gena.specs.Subscribed.{Booked, Subscribed, alive, grant_refusal, holds_alive, if_alive, if_full, last_number, living_named, number_of, with_grant, renewed, without}
use Rattle.cds_gena.specs.declared.error.GenaError.{GenaError}
use Rattle.cds_gena.specs.declared.error.GenaError.TheVariants.{Mem, Precondition, Spent}
use Rattle.cds_gena.specs.declared.gena.Gena.{Gena}
use Rattle.cds_base.specs.declared.mem.Mem.{Mem as Memory}
use Rattle.cds_http.proofs.Visible.{all-stand, visible-append, visible-decimal, visible-literal}
use Rattle.cds_gena.proofs.Visible.{visible-sid}
use Rattle.cds_server.specs.declared.made.Settled.{Settled}
use Rattle.cds_control.specs.Replies.{empty_reply}
use Rattle.cds_server.specs.Outcome.{GoesOut, IsDone, Refused, ending, granting, lease_fields, lease_reply, noted, outcome_in, renewing, status_of, unsettled}

-- the fields of the reply can be written
pub lease-can : (name seconds : ℕ) → seconds < 2 ^ 32 → CanBeWritten (lease_fields name seconds)
unfolding is_token_byte
lease-can name seconds few =
    let s = all-stand (sid_text name) (visible-sid name) in
    let t = all-stand (codes "Second-" ++ decimal seconds) (visible-append (codes "Second-") (decimal seconds) (visible-literal (codes "Second-") refl) (visible-decimal seconds few)) in
    λ i. (is_token (codes "SID") && s i) && ((is_token (codes "TIMEOUT") && t i) && true)

-- ---- a grant

pub spent-refusal : (now : ℕ) (s : Subscribed) → s.granted ≡ last_number → grant_refusal now s ≡ Some Spent
spent-refusal now s e = ap (λ b. cond b (Some Spent) (if_full (length (alive now s.living)))) (eq-eqb s.granted last_number e)

-- a command was accepted, without a first note
abbrev pub accepted_only : Settled
accepted_only = record { note = None; accepted = true }

-- nothing was accepted of a refused request
refused-done : (book : Booked) (number now : ℕ) (status : ℕ) (old new : List ℕ) (settled : Settled) (after : Booked) → new ≡ old ++ empty_reply status → after ≡ book
    → settled ≡ unsettled → IsDone book number now (Refused status) old new settled after
refused-done book number now status old new settled after is same none = record {
  replied = is;
  kept = same;
  noted = ap (λ (s : Settled). s.note) none;
  accepted = ap (λ (s : Settled). s.accepted) none;
}

module _ (book : Booked) (number now : ℕ) (old new : List ℕ) (settled : Settled) (after : Booked) where
  pub refused-grant : (callback : List ℕ) (seconds : ℕ) (refusal : GenaError) → grant_refusal now book.subscribed ≡ Some refusal
      → new ≡ old ++ empty_reply (status_of refusal) → after ≡ book → settled ≡ unsettled
      → IsDone book number now (granting (grant_refusal now book.subscribed) callback seconds) old new settled after
  refused-grant callback seconds refusal e is same none =
      subst (λ r. IsDone book number now (granting r callback seconds) old new settled after) (sym e)
      (refused-done book number now (status_of refusal) old new settled after is same none)

  pub made-grant : (callback : List ℕ) (seconds name : ℕ) → grant_refusal now book.subscribed ≡ None → new ≡ old ++ lease_reply name seconds
      → name ≡ book.names + (book.subscribed.granted + 1) → after.names ≡ book.names → after.wrap ≡ book.wrap → after.subscribed ≡ with_grant now callback seconds book.subscribed
      → settled.note ≡ Some (noted name callback (first_note name number)) → settled.accepted ≡ true
      → IsDone book number now (granting (grant_refusal now book.subscribed) callback seconds) old new settled after
  made-grant callback seconds name e is named names wrap more told was =
      subst (λ r. IsDone book number now (granting r callback seconds) old new settled after) (sym e)
      (record {
        replied = is ∙ ap (λ n. old ++ lease_reply n seconds) named;
        kept = λ i. record { names = names i; wrap = wrap i; subscribed = more i };
        noted = told ∙ ap (λ n. Some (noted n callback (first_note n number))) named;
        accepted = was;
      })

-- ---- a name that lives

some-same : (a b : ℕ) → Some a ≡ Some b → a ≡ b
some-same a b e = cc

none-some : (a : ℕ) → None ≡ Some a → ⊥
none-some a e = true≢false (sym (ap is_some e))

both : (a b : Bool) → (a && b) ≡ true → a ≡ true
both true b e = refl
both false b e = absurd (true≢false (sym e))

name-of : (names name number : ℕ) → number_of names name ≡ Some number → names + number ≡ name
name-of names name number e = by (nat_le names name && nat_le (name - names) last_number) refl e
  where
    by : (b : Bool) → (nat_le names name && nat_le (name - names) last_number) ≡ b → cond b (Some (name - names)) None ≡ Some number → names + number ≡ name
    by true t k =
        let low = leb-true names name (both (nat_le names name) (nat_le (name - names) last_number) t) in
        let is = some-same (name - names) number k in
        omega (arith, low, is)
    by false t k = absurd (none-some number k)

pub named-number : (book : Booked) (now name number : ℕ) → living_named now name book ≡ Some number → book.names + number ≡ name
named-number book now name number e = by (number_of book.names name) refl e
  where
    by_test : (n : ℕ) → number_of book.names name ≡ Some n → (b : Bool) → cond b (Some n) None ≡ Some number → book.names + number ≡ name
    by_test n is true k = name-of book.names name number (is ∙ k)
    by_test n is false k = absurd (none-some number k)

    by : (o : Option ℕ) → number_of book.names name ≡ o → if_alive now book.subscribed.living o ≡ Some number → book.names + number ≡ name
    by None is k = absurd (none-some number k)
    by (Some n) is k = by_test n is (holds_alive now n book.subscribed.living) k

module _ (book : Booked) (number now name : ℕ) (old new : List ℕ) (after : Booked) where
  pub renewal-made : (seconds : ℕ) → IsSome (living_named now name book)
      → IfSome (living_named now name book) (λ n. after.subscribed ≡ renewed n (end_after now seconds) book.subscribed) → after.names ≡ book.names → after.wrap ≡ book.wrap
      → new ≡ old ++ lease_reply name seconds → IsDone book number now (renewing (living_named now name book) seconds) old new accepted_only after
  renewal-made seconds some step names wrap is = by (living_named now name book) refl some step
    where
      by : (o : Option ℕ) → living_named now name book ≡ o → IsSome o → IfSome o (λ n. after.subscribed ≡ renewed n (end_after now seconds) book.subscribed)
          → IsDone book number now (renewing o seconds) old new accepted_only after
      by None e some step = absurd (cc)
      by (Some n) e some step = record {
        replied = is ∙ ap (λ k. old ++ lease_reply k seconds) (sym (named-number book now name n e));
        kept = λ i. record { names = names i; wrap = wrap i; subscribed = step i };
        noted = refl;
        accepted = refl;
      }

  pub renewal-refused : (seconds : ℕ) → (IsSome (living_named now name book) → ⊥) → new ≡ old ++ empty_reply 412 → after ≡ book
      → IsDone book number now (renewing (living_named now name book) seconds) old new unsettled after
  renewal-refused seconds away is same = by (living_named now name book) refl
    where
      by : (o : Option ℕ) → living_named now name book ≡ o → IsDone book number now (renewing o seconds) old new unsettled after
      by None e = refused-done book number now 412 old new unsettled after is same refl
      by (Some n) e = absurd (away (subst IsSome (sym e) refl))

  pub end-made : IsSome (living_named now name book) → IfSome (living_named now name book) (λ n. after.subscribed ≡ without n book.subscribed) → after.names ≡ book.names → after.wrap ≡ book.wrap
      → new ≡ old ++ empty_reply 200 → IsDone book number now (ending (living_named now name book)) old new accepted_only after
  end-made some step names wrap is = by (living_named now name book) refl some step
    where
      by : (o : Option ℕ) → living_named now name book ≡ o → IsSome o → IfSome o (λ n. after.subscribed ≡ without n book.subscribed)
          → IsDone book number now (ending o) old new accepted_only after
      by None e some step = absurd (cc)
      by (Some n) e some step = record { replied = is; kept = λ i. record { names = names i; wrap = wrap i; subscribed = step i }; noted = refl; accepted = refl }

  pub end-refused : (IsSome (living_named now name book) → ⊥) → new ≡ old ++ empty_reply 412 → after ≡ book
      → IsDone book number now (ending (living_named now name book)) old new unsettled after
  end-refused away is same = by (living_named now name book) refl
    where
      by : (o : Option ℕ) → living_named now name book ≡ o → IsDone book number now (ending o) old new unsettled after
      by None e = refused-done book number now 412 old new unsettled after is same refl
      by (Some n) e = absurd (away (subst IsSome (sym e) refl))

-- ---- what is answered

abbrev Answer : Type 0
Answer = Result Settled Memory

pub goes-none : (r : Answer) → IfOk r (λ settled. settled.note ≡ None) → IfOk r (λ settled. GoesOut settled.note)
goes-none (Ok settled) e = subst GoesOut (sym e) tt
goes-none (Err m) e = tt

pub none-noted : (r : Answer) → IfOk r (λ settled. settled ≡ unsettled) → IfOk r (λ settled. settled.note ≡ None)
none-noted (Ok settled) e = ap (λ (s : Settled). s.note) e
none-noted (Err m) e = tt

pub each-number : (P : ℕ → Settled → Type 0) (r : Answer) (number : ℕ) → IfOk r (λ settled. (n : ℕ) → P n settled) → IfOk r (P number)
each-number P (Ok given) number h = h number
each-number P (Err m) number h = tt

pub answered-by : (book : Booked) (number now : ℕ) (old new : List ℕ) (after : Booked) (r : Answer) (asked read : Result Gena GenaError) → asked ≡ read
    → IfOk r (λ settled. IsDone book number now (outcome_in book now read) old new settled after)
    → IfOk r (λ settled. IsDone book number now (outcome_in book now asked) old new settled after)
answered-by book number now old new after r asked read e =
    subst (λ a. IfOk r (λ settled. IsDone book number now (outcome_in book now a) old new settled after)) (sym e)

module _ (book : Booked) (now : ℕ) (old new : List ℕ) (after : Booked) (refusal : GenaError) where
  pub refused-result : (number : ℕ) (callback : List ℕ) (seconds : ℕ) (r : Answer) → (refusal ≡ Mem) ⊎ (grant_refusal now book.subscribed ≡ Some refusal)
      → OnOk r (new ≡ old ++ empty_reply (status_of refusal)) → OnOk r (refusal ≢ Mem) → IfOk r (λ settled. settled ≡ unsettled) → after ≡ book
      → IfOk r (λ settled. IsDone book number now (granting (grant_refusal now book.subscribed) callback seconds) old new settled after)
  refused-result number callback seconds (Ok given) (inl e) is cause none same = absurd (cause e)
  refused-result number callback seconds (Ok given) (inr e) is cause none same = refused-grant book number now old new given after callback seconds refusal e is same none
  refused-result number callback seconds (Err m) why is cause none same = tt

  pub renewal-result : (name seconds : ℕ) (r : Answer) → refusal ≡ Precondition → (IsSome (living_named now name book) → ⊥)
      → OnOk r (new ≡ old ++ empty_reply (status_of refusal)) → IfOk r (λ settled. settled ≡ unsettled) → after ≡ book
      → IfOk r (λ settled. (number : ℕ) → IsDone book number now (renewing (living_named now name book) seconds) old new settled after)
  renewal-result name seconds (Ok given) e away is none same =
      λ number. subst (λ settled. IsDone book number now (renewing (living_named now name book) seconds) old new settled after) (sym none)
      (renewal-refused book number now name old new after seconds away (is ∙ ap (λ x. old ++ empty_reply (status_of x)) e) same)
  renewal-result name seconds (Err m) e away is none same = tt

  pub end-result : (name : ℕ) (r : Answer) → refusal ≡ Precondition → (IsSome (living_named now name book) → ⊥)
      → OnOk r (new ≡ old ++ empty_reply (status_of refusal)) → IfOk r (λ settled. settled ≡ unsettled) → after ≡ book
      → IfOk r (λ settled. (number : ℕ) → IsDone book number now (ending (living_named now name book)) old new settled after)
  end-result name (Ok given) e away is none same =
      λ number. subst (λ settled. IsDone book number now (ending (living_named now name book)) old new settled after) (sym none)
      (end-refused book number now name old new after away (is ∙ ap (λ x. old ++ empty_reply (status_of x)) e) same)
  end-result name (Err m) e away is none same = tt

-- what was cut off again
pub cut : (a b c : List ℕ) → c ≡ a ++ b → take (length a) c ≡ a
cut a b c e = ap (take (length a)) e ∙ front a
  where
    front : (a : List ℕ) → take (length a) (a ++ b) ≡ a
    front [] = refl
    front (x ∷ a) = ap (λ l. x ∷ l) (front a)

pub cut-result : (r : Answer) (new a b c tail : List ℕ) (before : ℕ) → before ≡ length a → c ≡ a ++ b → OnOk r (new ≡ take before c ++ tail) → OnOk r (new ≡ a ++ tail)
cut-result (Ok given) new a b c tail before e is h = h ∙ ap (λ n. take n c ++ tail) e ∙ ap (λ l. l ++ tail) (cut a b c is)
cut-result (Err m) new a b c tail before e is h = tt
