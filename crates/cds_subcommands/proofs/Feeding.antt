-- How a reader of StateEvents is fed piece by piece.
use Rattle.std.proofs.Common.{◌≡◌, ℕ, ◌+◌, ◌-◌, ◌<◌, ◌≤◌, ◌^◌, min, List, [], ◌++◌, length, take, drop, Option, Some, Result, Ok, Err, ap, sym, subst, ◌∙◌, append_assoc, length-append, arith, inl, inr}
use Rattle.std.proofs.lemmas.List.{take-append-drop, append-nil}
use Rattle.std.proofs.Math.Seq.{drop-nil}
use Rattle.cds_outside.specs.Outside.{raised}
use Rattle.cds_base.specs.declared.limits.TheConstants.{INPUT_LIMIT}
use Rattle.cds_lastchange.specs.declared.error.StateError.{StateError}
use Rattle.cds_lastchange.specs.declared.error.StateError.TheVariants.{Bad, NotStateEvent, TooLong, Failed, Mem}
use Rattle.cds_object.specs.declared.event.Event.{Event}
use Rattle.cds_script.specs.Report.{Ending}
use Rattle.cds_lastchange.specs.Feeding.{Came, IsRead, TakesBytes, Fed, EndsSo, Finished}
use Rattle.cds_lastchange.specs.StateEvent.{IsStateEvent}
use Rattle.cds_subcommands.specs.Check.{IsCause, IsOwed, EndsCheck, WritesCheck, OnLimit, cause_of}
use Rattle.cds_subcommands.specs.Run.{Ends, Writes, EndsText, WritesText}
use Rattle.cds_subcommands.specs.declared.checking.CheckError.{CheckError}
use Rattle.cds_subcommands.specs.declared.checking.CheckError.TheVariants.{Refused, Limit, ReadFault, Mem as OutOfMemory}

-- ---- one piece

-- a reader that stands for some bytes does not answer that it refused before
pub not-failed : (before after : Came) (piece : List ℕ) (e : StateError) → (bytes : List ℕ) × IsRead bytes before → Fed before piece (Err e) after → e ≡ Failed → ⊥
not-failed before after piece e is fed same = (subst (λ r. TakesBytes is.0 piece (Err r) after) same (fed is.0 is.1)).0.inside

pub not-failed-at-end : (now : Came) (result : Result (List Event) StateError) (e : StateError) → (bytes : List ℕ) × IsRead bytes now → Finished now result → result ≡ Err e → e ≡ Failed → ⊥
not-failed-at-end now result e is ends by same = subst (EndsSo is.0) (by ∙ ap Err same) (ends is.0 is.1)

-- ---- counts

pub moved-by : (old by new : ℕ) → new ≡ raised old by → new ≤ old + by
moved-by old by new is = below new (old + by) (2 ^ 64 - 1) is
  where
    below : (n a b : ℕ) → n ≡ min a b → n ≤ a
    below n a b is = omega arith

pub raised-twice : (moved one two : ℕ) → raised (raised moved one) two ≡ raised moved (one + two)
raised-twice moved one two = twice moved one two (2 ^ 64 - 1)
  where
    twice : (moved one two top : ℕ) → min (min (moved + one) top + two) top ≡ min (moved + (one + two)) top
    twice moved one two top = omega arith

-- ---- all pieces

-- a reader that was fed what came so far, with so much left up to the limit
pub record SoFar (left : ℕ) (reader : Came) : Type 0 where
  pub bytes : List ℕ
  pub is : IsRead bytes reader
  pub within : length bytes + left ≡ INPUT_LIMIT

-- what it was fed, and what the source still has, are all that the source had
pub record Coming (reader : Came) (left : Option (List ℕ)) (given : List ℕ) : Type 0 where
  pub bytes : List ℕ
  pub rest : List ℕ
  pub is : IsRead bytes reader
  pub told : left ≡ Some rest
  pub all : given ≡ bytes ++ rest

-- the piece that came is the next one of what was left
next-piece : (bytes rest piece : List ℕ) (n : ℕ) → piece ≡ take n rest → (bytes ++ piece) ++ drop n rest ≡ bytes ++ rest
next-piece bytes rest piece n is =
    append_assoc bytes piece (drop n rest)
    ∙ ap (λ front. bytes ++ (front ++ drop n rest)) is
    ∙ ap (λ more. bytes ++ more) (take-append-drop n rest)

pub goes-on : (reader after : Came) (left next : Option (List ℕ)) (given piece : List ℕ) (n : ℕ) (c : Coming reader left given) →
    piece ≡ take n c.rest → next ≡ Some (drop n c.rest) → IsRead (c.bytes ++ piece) after → Coming after next given
goes-on reader after left next given piece n c is told fed = record {
  bytes = c.bytes ++ piece;
  rest = drop n c.rest;
  is = fed;
  told = told;
  all = c.all ∙ sym (next-piece c.bytes c.rest piece n is);
}

pub stops-at : (reader : Came) (left : Option (List ℕ)) (given piece : List ℕ) (n : ℕ) (e : CheckError) (c : Coming reader left given) →
    piece ≡ take n c.rest → ((more : List ℕ) → IsCause ((c.bytes ++ piece) ++ more) e) → IsCause given e
stops-at reader left given piece n e c is causes =
    subst (λ bytes. IsCause bytes e) (next-piece c.bytes c.rest piece n is ∙ sym c.all) (causes (drop n c.rest))

-- where the limit was passed
pub on-limit : (e : CheckError) (P Q : Type 0) → (P → Q) → OnLimit e P → OnLimit e Q
on-limit (Refused at) P Q f h = tt
on-limit Limit P Q f h = f h
on-limit ReadFault P Q f h = tt
on-limit OutOfMemory P Q f h = tt

pub moved-past : (old by now : ℕ) → (INPUT_LIMIT + 1) ≤ by → now ≡ raised old by → raised old (INPUT_LIMIT + 1) ≤ now
moved-past old by now more is = past old by now (2 ^ 64 - 1) more is
  where
    past : (old by now top : ℕ) → (INPUT_LIMIT + 1) ≤ by → now ≡ min (old + by) top → min (old + (INPUT_LIMIT + 1)) top ≤ now
    past old by now top more is = omega (arith, more, is)

pub piece-past : (bytes piece : List ℕ) (left n : ℕ) → length bytes + left ≡ INPUT_LIMIT → length piece ≡ n → INPUT_LIMIT < length (bytes ++ piece) → (INPUT_LIMIT + 1) ≤ (INPUT_LIMIT - left) + n
piece-past bytes piece left n within size more = omega (arith, length-append bytes piece, within, size, more)

pub piece-within : (bytes piece : List ℕ) (left n : ℕ) → length bytes + left ≡ INPUT_LIMIT → length piece ≡ n → length (bytes ++ piece) ≤ INPUT_LIMIT → n ≤ left
piece-within bytes piece left n within size few = omega (arith, length-append bytes piece, within, size, few)

pub fed-on : (left n : ℕ) (reader after : Came) (piece : List ℕ) (f : SoFar left reader) → length piece ≡ n → n ≤ left → IsRead (f.bytes ++ piece) after → SoFar (left - n) after
fed-on left n reader after piece f size few is = record { bytes = f.bytes ++ piece; is = is; within = room f.bytes piece left n f.within size few }
  where
    room : (bytes piece : List ℕ) (left n : ℕ) → length bytes + left ≡ INPUT_LIMIT → length piece ≡ n → n ≤ left → length (bytes ++ piece) + (left - n) ≡ INPUT_LIMIT
    room bytes piece left n within size few = omega (arith, length-append bytes piece, within, size, few)

-- where the source has nothing more
pub all-fed : (reader : Came) (left : Option (List ℕ)) (given : List ℕ) (c : Coming reader left given) → c.rest ≡ [] → IsRead given reader
all-fed reader left given c none = subst (λ bytes. IsRead bytes reader) (sym (c.all ∙ ap (λ rest. c.bytes ++ rest) none ∙ append-nil c.bytes)) c.is

pub none-left : (next : Option (List ℕ)) (rest : List ℕ) (n : ℕ) → rest ≡ [] → next ≡ Some (drop n rest) → next ≡ Some []
none-left next rest n none is = is ∙ ap (λ r. Some (drop n r)) none ∙ ap Some (drop-nil n)

-- ---- the answer

-- what a refusal of the end has its cause in
ends-cause : (bytes : List ℕ) (e : StateError) → EndsSo bytes (Err e) → IsCause bytes (cause_of e)
ends-cause bytes (Bad at) h = inl h.0.0
ends-cause bytes other h = absurd h

pub finish-cause : (reader : Came) (bytes : List ℕ) (result : Result (List Event) StateError) (e : StateError) (cause : CheckError) →
    IsRead bytes reader → Finished reader result → result ≡ Err e → cause ≡ cause_of e → IsCause bytes cause
finish-cause reader bytes result e cause is ends by same = subst (IsCause bytes) (sym same) (ends-cause bytes e (subst (EndsSo bytes) by (ends bytes is)))

pub finish-events : (reader : Came) (bytes : List ℕ) (result : Result (List Event) StateError) (events : List Event) →
    IsRead bytes reader → Finished reader result → result ≡ Ok events → IsStateEvent bytes events
finish-events reader bytes result events is ends by = (subst (EndsSo bytes) by (ends bytes is)).0

-- and one of a piece, whatever follows
piece-cause : (bytes piece more : List ℕ) (e : StateError) (after : Came) → TakesBytes bytes piece (Err e) after → IsCause ((bytes ++ piece) ++ more) (cause_of e)
piece-cause bytes piece more (Bad at) after h = inl (h.0.stands more)
piece-cause bytes piece more (NotStateEvent at) after h = inr (h.0.stands more)
piece-cause bytes piece more TooLong after h = h.0.stands more
piece-cause bytes piece more Failed after h = tt
piece-cause bytes piece more Mem after h = tt

pub fed-cause : (before after : Came) (piece : List ℕ) (e : StateError) (cause : CheckError) (bytes more : List ℕ) →
    Fed before piece (Err e) after → cause ≡ cause_of e → IsRead bytes before → IsCause ((bytes ++ piece) ++ more) cause
fed-cause before after piece e cause bytes more fed same is = subst (IsCause ((bytes ++ piece) ++ more)) (sym same) (piece-cause bytes piece more e after (fed bytes is))

-- `feed` finds too many where there are, and `finish` does not
piece-long : (bytes piece : List ℕ) (e : StateError) (after : Came) → TakesBytes bytes piece (Err e) after → OnLimit (cause_of e) (INPUT_LIMIT < length (bytes ++ piece))
piece-long bytes piece (Bad at) after h = tt
piece-long bytes piece (NotStateEvent at) after h = tt
piece-long bytes piece TooLong after h = h.0.inside.1
piece-long bytes piece Failed after h = tt
piece-long bytes piece Mem after h = tt

pub fed-long : (before after : Came) (piece : List ℕ) (e : StateError) (cause : CheckError) (bytes : List ℕ) →
    Fed before piece (Err e) after → cause ≡ cause_of e → IsRead bytes before → OnLimit cause (INPUT_LIMIT < length (bytes ++ piece))
fed-long before after piece e cause bytes fed same is =
    subst (λ c. OnLimit c (INPUT_LIMIT < length (bytes ++ piece))) (sym same) (piece-long bytes piece e after (fed bytes is))

ends-long : (bytes : List ℕ) (e : StateError) (P : Type 0) → EndsSo bytes (Err e) → OnLimit (cause_of e) P
ends-long bytes (Bad at) P h = tt
ends-long bytes other P h = absurd h

pub finish-long : (reader : Came) (result : Result (List Event) StateError) (e : StateError) (cause : CheckError) (P : Type 0) →
    (bytes : List ℕ) × IsRead bytes reader → Finished reader result → result ≡ Err e → cause ≡ cause_of e → OnLimit cause P
finish-long reader result e cause P is ends by same = subst (λ c. OnLimit c P) (sym same) (ends-long is.0 e P (subst (EndsSo is.0) by (ends is.0 is.1)))

pub ends-owed : (bytes : List ℕ) (ending : Ending) (status : ℕ) → IsOwed bytes ending → Ends status ending.status → EndsCheck bytes status
ends-owed bytes ending status owed (inl is) = inl (ending, owed, is)
ends-owed bytes ending status owed (inr fault) = inr fault

pub writes-owed : (bytes : List ℕ) (ending : Ending) (status : ℕ) (before : List ℕ) (after : Option (List ℕ)) →
    IsOwed bytes ending → Ends status ending.status → Writes status ending.text before after → WritesCheck bytes status before after
writes-owed bytes ending status before after owed (inr fault) writes = inr fault
writes-owed bytes ending status before after owed (inl is) (inl held) = inl (ending, owed, is, held)
writes-owed bytes ending status before after owed (inl is) (inr fault) = inr fault

-- a text that was written or not
pub text-ends : (status owed : ℕ) → EndsText status owed → Ends status owed
text-ends status owed (inl is) = inl is
text-ends status owed (inr three) = inr (inr (inl three))

pub text-writes : (status : ℕ) (text before : List ℕ) (after : Option (List ℕ)) → WritesText status text before after → Writes status text before after
text-writes status text before after (inl held) = inl held
text-writes status text before after (inr three) = inr (inr (inl three))
