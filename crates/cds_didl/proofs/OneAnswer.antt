-- Bytes have one answer.
use Rattle.std.proofs.Common.{◌≡◌, ◌≢◌, ℕ, List, Option, None, Result, Ok, Err, slice_get, refl, sym, ap, subst, ◌∙◌}
use Rattle.cds_markup.specs.declared.error.MarkupError.{MarkupError}
use Rattle.cds_markup.specs.declared.error.MarkupError.TheVariants.{Mem as NoMemory}
use Rattle.cds_markup.specs.declared.part.Part.{Part}
use Rattle.cds_markup.specs.Document.{Meaning, Doc}
use Rattle.cds_markup.specs.Refusal.{IsRefused}
use Rattle.cds_markup.specs.Children.{child_starts, root_start, IsPlace}
use Rattle.cds_markup.proofs.Public.{places-are-one, one-answer, one-element}
use Rattle.cds_object.specs.Object.{ObjectRow}
use Rattle.cds_didl.specs.declared.error.Fault.{Fault}
use Rattle.cds_didl.specs.declared.error.Fault.TheVariants.{Root, NotRow, BadRow, OutOfMemory}
use Rattle.cds_didl.specs.declared.error.DidlError.{DidlError}
use Rattle.cds_didl.specs.declared.error.DidlError.TheVariants.{Markup, NotDidl, BadValue, Mem}
use Rattle.cds_didl.specs.Didl.{rows_said, IsRefusal, IsFaulty, OneAnswer}

-- the refusal of a fault by its place
abbrev made : Fault → ℕ → DidlError
made Root at = NotDidl at
made (NotRow number) at = NotDidl at
made (BadRow number) at = BadValue at
made OutOfMemory at = Mem

abbrev found_by : Fault → List Part → Option ℕ
found_by Root parts = root_start parts
found_by (NotRow number) parts = slice_get (child_starts 0 parts) number
found_by (BadRow number) parts = slice_get (child_starts 0 parts) number
found_by OutOfMemory parts = None

abbrev Made : List ℕ → Fault → DidlError → Type 0
Made bytes fault refusal = (at : ℕ) × (refusal ≡ made fault at) × IsPlace bytes (found_by fault) at

made-so : (bytes : List ℕ) (fault : Fault) (refusal : DidlError) → IsRefusal bytes fault refusal → Made bytes fault refusal
made-so bytes Root (NotDidl at) is = (at, refl, record { parts = is.parts; are = is.are; given = is.given; place = is.place })
made-so bytes Root (Markup r) is = absurd is
made-so bytes Root (BadValue at) is = absurd is
made-so bytes Root Mem is = absurd is
made-so bytes (NotRow number) (NotDidl at) is = (at, refl, record { parts = is.parts; are = is.are; given = is.given; place = is.place })
made-so bytes (NotRow number) (Markup r) is = absurd is
made-so bytes (NotRow number) (BadValue at) is = absurd is
made-so bytes (NotRow number) Mem is = absurd is
made-so bytes (BadRow number) (BadValue at) is = (at, refl, record { parts = is.parts; are = is.are; given = is.given; place = is.place })
made-so bytes (BadRow number) (Markup r) is = absurd is
made-so bytes (BadRow number) (NotDidl at) is = absurd is
made-so bytes (BadRow number) Mem is = absurd is
made-so bytes OutOfMemory (Markup r) is = absurd is
made-so bytes OutOfMemory (NotDidl at) is = absurd is
made-so bytes OutOfMemory (BadValue at) is = absurd is
made-so bytes OutOfMemory Mem is = absurd is

-- one element says one thing
err-same : (a b : Fault) → ◌≡◌ {A = Result (List ObjectRow) Fault} (Err a) (Err b) → a ≡ b
err-same a b e = cc

ok-same : (a b : List ObjectRow) → ◌≡◌ {A = Result (List ObjectRow) Fault} (Ok a) (Ok b) → a ≡ b
ok-same a b e = cc

not-both : (rows : List ObjectRow) (fault : Fault) → ◌≡◌ {A = Result (List ObjectRow) Fault} (Ok rows) (Err fault) → ⊥
not-both rows fault e = cc

faulty-same : (bytes : List ℕ) (one other : DidlError) → IsFaulty bytes one → IsFaulty bytes other → one ≡ other
faulty-same bytes one other a b =
    let element : a.element ≡ b.element = one-element bytes a.element b.element a.document b.document in
    let fault : b.fault ≡ a.fault = err-same b.fault a.fault (sym b.faulty ∙ sym (ap rows_said element) ∙ a.faulty) in
    let first = made-so bytes a.fault one a.refused in
    let second = made-so bytes a.fault other (subst (λ (f : Fault). IsRefusal bytes f other) fault b.refused) in
    first.1 ∙ ap (made a.fault) (places-are-one bytes (found_by a.fault) first.0 second.0 first.2 second.2) ∙ sym second.1

faulty-rows : (bytes : List ℕ) (refusal : DidlError) (element : Meaning) (rows : List ObjectRow) → IsFaulty bytes refusal → Doc bytes element → rows_said element ≡ Ok rows → ⊥
faulty-rows bytes refusal element rows a document says =
    not-both rows a.fault (sym says ∙ ap rows_said (one-element bytes element a.element document a.document) ∙ a.faulty)

faulty-markup : (bytes : List ℕ) (refusal : DidlError) (r : MarkupError) → IsFaulty bytes refusal → IsRefused bytes r × (r ≢ NoMemory) → ⊥
faulty-markup bytes refusal r a is = (one-answer bytes r is.0 is.1).0 a.element a.document

pub one-answer-of-didl : OneAnswer
one-answer-of-didl bytes (Ok a) (Ok b) p q m n =
    let same : p.0 ≡ q.0 = one-element bytes p.0 q.0 p.1 q.1 in
    ap Ok (ok-same a b (sym p.2 ∙ ap rows_said same ∙ q.2))
one-answer-of-didl bytes (Ok a) (Err Mem) p q m n = absurd (n refl)
one-answer-of-didl bytes (Ok a) (Err (Markup r)) p q m n = absurd ((one-answer bytes r q.0 q.1).0 p.0 p.1)
one-answer-of-didl bytes (Ok a) (Err (NotDidl at)) p q m n = absurd (faulty-rows bytes (NotDidl at) p.0 a q p.1 p.2)
one-answer-of-didl bytes (Ok a) (Err (BadValue at)) p q m n = absurd (faulty-rows bytes (BadValue at) p.0 a q p.1 p.2)
one-answer-of-didl bytes (Err Mem) other p q m n = absurd (m refl)
one-answer-of-didl bytes (Err (Markup r)) (Ok b) p q m n = absurd ((one-answer bytes r p.0 p.1).0 q.0 q.1)
one-answer-of-didl bytes (Err (Markup r)) (Err Mem) p q m n = absurd (n refl)
one-answer-of-didl bytes (Err (Markup r)) (Err (Markup s)) p q m n = ap (λ x. Err (Markup x)) (sym ((one-answer bytes r p.0 p.1).1 s q.0 q.1))
one-answer-of-didl bytes (Err (Markup r)) (Err (NotDidl at)) p q m n = absurd (faulty-markup bytes (NotDidl at) r q p)
one-answer-of-didl bytes (Err (Markup r)) (Err (BadValue at)) p q m n = absurd (faulty-markup bytes (BadValue at) r q p)
one-answer-of-didl bytes (Err (NotDidl at)) (Ok b) p q m n = absurd (faulty-rows bytes (NotDidl at) q.0 b p q.1 q.2)
one-answer-of-didl bytes (Err (NotDidl at)) (Err Mem) p q m n = absurd (n refl)
one-answer-of-didl bytes (Err (NotDidl at)) (Err (Markup s)) p q m n = absurd (faulty-markup bytes (NotDidl at) s p q)
one-answer-of-didl bytes (Err (NotDidl at)) (Err (NotDidl to)) p q m n = ap Err (faulty-same bytes (NotDidl at) (NotDidl to) p q)
one-answer-of-didl bytes (Err (NotDidl at)) (Err (BadValue to)) p q m n = ap Err (faulty-same bytes (NotDidl at) (BadValue to) p q)
one-answer-of-didl bytes (Err (BadValue at)) (Ok b) p q m n = absurd (faulty-rows bytes (BadValue at) q.0 b p q.1 q.2)
one-answer-of-didl bytes (Err (BadValue at)) (Err Mem) p q m n = absurd (n refl)
one-answer-of-didl bytes (Err (BadValue at)) (Err (Markup s)) p q m n = absurd (faulty-markup bytes (BadValue at) s p q)
one-answer-of-didl bytes (Err (BadValue at)) (Err (NotDidl to)) p q m n = ap Err (faulty-same bytes (BadValue at) (NotDidl to) p q)
one-answer-of-didl bytes (Err (BadValue at)) (Err (BadValue to)) p q m n = ap Err (faulty-same bytes (BadValue at) (BadValue to) p q)
