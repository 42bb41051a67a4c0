-- Bytes show one thing at most to an ask.
use Rattle.std.proofs.Common.{◌≡◌, ◌≢◌, ℕ, Some, None, Result, Ok, Err, List, refl, sym, ap, subst, ◌∙◌}
use Rattle.cds_object.specs.Object.{ObjectRow}
use Rattle.cds_didl.specs.declared.error.DidlError.{DidlError}
use Rattle.cds_didl.specs.declared.error.DidlError.TheVariants.{Mem as NoRows}
use Rattle.cds_didl.specs.Didl.{Answers}
use Rattle.cds_didl.proofs.OneAnswer.{one-answer-of-didl}
use Rattle.cds_soap.specs.declared.action.Action.{Action}
use Rattle.cds_soap.specs.declared.answer.Answer.{Answer}
use Rattle.cds_soap.specs.declared.answer.Answer.TheVariants as answer
use Rattle.cds_soap.specs.declared.error.SoapError.{SoapError}
use Rattle.cds_soap.specs.declared.error.SoapError.TheVariants.{Mem as NoAnswer}
use Rattle.cds_soap.specs.Answered.{AnsweredIn}
use Rattle.cds_soap.proofs.OneAnswer.{one-reply-answer}
use Rattle.cds_load.specs.declared.exchange.Shown.{Shown}
use Rattle.cds_load.specs.declared.exchange.Shown.TheVariants.{Text, Number, Page, Fault}
use Rattle.cds_exchange.specs.Asking.{action_of}
use Rattle.cds_exchange.specs.Readings.{ShowsAs}
use Rattle.cds_exchange.specs.Laws.{OneReading, ReadingsAreOne}

-- rows of a document, and the answer of bytes
rows-ok : (a b : List ObjectRow) → ◌≡◌ {A = Result (List ObjectRow) DidlError} (Ok a) (Ok b) → a ≡ b
rows-ok a b e = cc

rows-not : (a : List ObjectRow) (r : DidlError) → ◌≡◌ {A = Result (List ObjectRow) DidlError} (Ok a) (Err r) → ⊥
rows-not a r e = cc

rows-one : (page : List ℕ) (a b : List ObjectRow) → Answers page (Ok a) → Answers page (Ok b) → a ≡ b
rows-one page a b is too = rows-ok a b (one-answer-of-didl page (Ok a) (Ok b) is too (rows-not a NoRows) (rows-not b NoRows))

-- what is refused has no rows
not-memory : (r : DidlError) → r ≢ NoRows → ◌≡◌ {A = Result (List ObjectRow) DidlError} (Err r) (Err NoRows) → ⊥
not-memory r differs e = differs (same r NoRows e) where
  same : (r s : DidlError) → ◌≡◌ {A = Result (List ObjectRow) DidlError} (Err r) (Err s) → r ≡ s
  same r s e = cc

pub rows-none : (page : List ℕ) (refusal : DidlError) → refusal ≢ NoRows → Answers page (Err refusal) → (rows : List ObjectRow) → ¬ (Answers page (Ok rows))
rows-none page refusal differs is rows too =
    rows-not rows refusal (one-answer-of-didl page (Ok rows) (Err refusal) too is (rows-not rows NoRows) (not-memory refusal differs))

answer-ok : (a b : Answer) → ◌≡◌ {A = Result Answer SoapError} (Ok a) (Ok b) → a ≡ b
answer-ok a b e = cc

answer-not : (a : Answer) (r : SoapError) → ◌≡◌ {A = Result Answer SoapError} (Ok a) (Err r) → ⊥
answer-not a r e = cc

pub answer-one : (bytes : List ℕ) (asked : Action) (a b : Answer) → AnsweredIn bytes asked a → AnsweredIn bytes asked b → a ≡ b
answer-one bytes asked a b is too = answer-ok a b (one-reply-answer bytes asked (Ok a) (Ok b) is too (answer-not a NoAnswer) (answer-not b NoAnswer))

-- what an answer shows
text-shows : (text : List ℕ) (shown : Shown) → ShowsAs (answer.Text text) shown → shown ≡ Text text
text-shows text (Text token) is = ap Text is
text-shows text (Number n) is = absurd is
text-shows text (Page rows total update) is = absurd is
text-shows text (Fault code) is = absurd is

number-shows : (number : ℕ) (shown : Shown) → ShowsAs (answer.Number number) shown → shown ≡ Number number
number-shows number (Text token) is = absurd is
number-shows number (Number n) is = ap Number is
number-shows number (Page rows total update) is = absurd is
number-shows number (Fault code) is = absurd is

fault-shows : (code : ℕ) (shown : Shown) → ShowsAs (answer.Fault code) shown → shown ≡ Fault code
fault-shows code (Text token) is = absurd is
fault-shows code (Number n) is = absurd is
fault-shows code (Page rows total update) is = absurd is
fault-shows code (Fault c) is = ap Fault is

page-shows : (page : List ℕ) (returned total update : ℕ) (shown : Shown) → ShowsAs (answer.Page page returned total update) shown
    → (rows : List ObjectRow) × Answers page (Ok rows) × (shown ≡ Page rows total update)
page-shows page returned total update (Text token) is = absurd is
page-shows page returned total update (Number n) is = absurd is
page-shows page returned total update (Page rows all number) is = (rows, is.0, ap (λ t. Page rows t number) is.1 ∙ ap (Page rows total) is.2)
page-shows page returned total update (Fault code) is = absurd is

shown-one : (given : Answer) (a b : Shown) → ShowsAs given a → ShowsAs given b → a ≡ b
shown-one (answer.Page page returned total update) a b is too =
    let one = page-shows page returned total update a is in
    let other = page-shows page returned total update b too in
    one.2 ∙ ap (λ rows. Page rows total update) (rows-one page one.0 other.0 one.1 other.1) ∙ sym other.2
shown-one (answer.Number number) a b is too = number-shows number a is ∙ sym (number-shows number b too)
shown-one (answer.Text text) a b is too = text-shows text a is ∙ sym (text-shows text b too)
shown-one (answer.Fault code) a b is too = fault-shows code a is ∙ sym (fault-shows code b too)

pub one-reading : OneReading
one-reading ask bytes a b (given, answered, shows) (other, answered_too, shows_too) =
    let same : other ≡ given = answer-one bytes (action_of ask) other given answered_too answered in
    shown-one given a b shows (subst (λ x. ShowsAs x b) same shows_too)

pub readings-are-one : ReadingsAreOne
readings-are-one ask bytes (Some a) (Some b) is too = ap Some (one-reading ask bytes a b is too)
readings-are-one ask bytes (Some a) None is too = absurd (too a is)
readings-are-one ask bytes None (Some b) is too = absurd (is b too)
readings-are-one ask bytes None None is too = refl
