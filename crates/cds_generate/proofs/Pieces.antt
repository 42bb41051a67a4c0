-- Pieces that a sink took, one after the other.
use Rattle.std.proofs.Common.{◌≡◌, ◌≤◌, ◌<◌, ◌+◌, ◌-◌, inl, inr, ℕ, zero, suc, List, [], ◌++◌, Option, Some, Result, Ok, Err, length, take, drop, length-append, append_assoc, take-append-drop, refl, sym, ap, subst, ◌∙◌, arith, add-one}
use Rattle.std.proofs.lemmas.List.{append-nil, take_at}
use Rattle.cds_outside.specs.Outside.{HoldsPart, Rose, SinkTold}
use Rattle.cds_generate.specs.declared.error.GenerateError.{GenerateError}
use Rattle.cds_generate.specs.declared.error.GenerateError.TheVariants.{WriteFault, Mem}
use Rattle.cds_generate.specs.Generated.{texts_below}
use Rattle.cds_generate.specs.Writing.{Took}

-- ---- prefixes

-- a prefix of a text was taken, told by the rest
record Front (before text : List ℕ) (after : Option (List ℕ)) : Type 0 where
  front : List ℕ
  rest : List ℕ
  parts : text ≡ front ++ rest
  holds : after ≡ Some (before ++ front)

of-part : (before text : List ℕ) (after : Option (List ℕ)) → HoldsPart before text after → Front before text after
of-part before text after part = record {
  front = take part.0 text;
  rest = drop part.0 text;
  parts = sym (take-append-drop part.0 text);
  holds = part.2;
}

to-part : (before text : List ℕ) (after : Option (List ℕ)) → Front before text after → HoldsPart before text after
to-part before text after f =
    let cut : take (length f.front) text ≡ f.front = ap (take (length f.front)) f.parts ∙ take_at f.front f.rest (length f.front) refl in (
      length f.front,
      (let size : length text ≡ length f.front + length f.rest = ap length f.parts ∙ length-append f.front f.rest in omega (arith, size)),
      f.holds ∙ ap (λ (front : List ℕ). Some (before ++ front)) (sym cut),
    )

-- more was to be written
part-stops : (before text more : List ℕ) (after : Option (List ℕ)) → HoldsPart before text after → HoldsPart before (text ++ more) after
part-stops before text more after part =
    let f = of-part before text after part in
    to-part before (text ++ more) after (record {
      front = f.front;
      rest = f.rest ++ more;
      parts = ap (λ (t : List ℕ). t ++ more) f.parts ∙ append_assoc f.front f.rest more;
      holds = f.holds;
    })

-- a part of what comes after a text
part-then : (before text more : List ℕ) (after : Option (List ℕ)) → HoldsPart (before ++ text) more after → HoldsPart before (text ++ more) after
part-then before text more after part =
    let f = of-part (before ++ text) more after part in
    to-part before (text ++ more) after (record {
      front = text ++ f.front;
      rest = f.rest;
      parts = ap (λ (m : List ℕ). text ++ m) f.parts ∙ sym (append_assoc text f.front f.rest);
      holds = f.holds ∙ ap Some (append_assoc before text f.front);
    })

-- nothing was taken
part-none : (before text : List ℕ) (after : Option (List ℕ)) → after ≡ Some before → HoldsPart before text after
part-none before text after is = to-part before text after (record {
  front = [];
  rest = text;
  parts = refl;
  holds = is ∙ ap Some (sym (append-nil before));
})

-- ---- counts

rose-later : (old mid new : ℕ) → old ≤ mid → Rose mid new → Rose old new
rose-later old mid new le (inl more) = inl (omega (arith, le, more))
rose-later old mid new le (inr most) = inr most

-- ---- pieces

pub took_none : (told : SinkTold) → Took (Ok tt) told [] told
took_none told = record {
  whole = λ before is. is ∙ ap Some (sym (append-nil before));
  part = tt;
  rose = tt;
  never_falls = omega arith;
}

pub took_mem : (told : SinkTold) (text : List ℕ) → Took (Err Mem) told text told
took_mem told text = record {
  whole = tt;
  part = λ before is. part-none before text told.holds is;
  rose = tt;
  never_falls = omega arith;
}

-- a piece was taken, and another was to be
pub took_then : (result : Result (Unit {0}) GenerateError) (old mid new : SinkTold) (text more : List ℕ) → Took (Ok tt) old text mid → Took result mid more new →
    Took result old (text ++ more) new
took_then (Ok u) old mid new text more one two = record {
  whole = λ before is. two.whole (before ++ text) (one.whole before is) ∙ ap Some (append_assoc before text more);
  part = tt;
  rose = tt;
  never_falls = omega (arith, one.never_falls, two.never_falls);
}
took_then (Err WriteFault) old mid new text more one two = record {
  whole = tt;
  part = λ before is. part-then before text more new.holds (two.part (before ++ text) (one.whole before is));
  rose = rose-later old.faults mid.faults new.faults one.never_falls two.rose;
  never_falls = omega (arith, one.never_falls, two.never_falls);
}
took_then (Err Mem) old mid new text more one two = record {
  whole = tt;
  part = λ before is. part-then before text more new.holds (two.part (before ++ text) (one.whole before is));
  rose = tt;
  never_falls = omega (arith, one.never_falls, two.never_falls);
}

-- a piece was not taken whole
pub took_stops : (error : GenerateError) (old new : SinkTold) (text more : List ℕ) → Took (Err error) old text new → Took (Err error) old (text ++ more) new
took_stops error old new text more one = record {
  whole = tt;
  part = λ before is. part-stops before text more new.holds (one.part before is);
  rose = one.rose;
  never_falls = one.never_falls;
}

-- ---- pieces of a loop

pub texts_none : (text : ℕ → List ℕ) → texts_below 0 text ≡ []
unfolding texts_below
texts_none text = refl

pub texts_more : (n : ℕ) (text : ℕ → List ℕ) → texts_below (n + 1) text ≡ texts_below n text ++ text n
unfolding texts_below
texts_more n text = rw add-one refl

-- the first texts are a prefix of more
texts-front : (n more : ℕ) (text : ℕ → List ℕ) → (rest : List ℕ) × (texts_below (n + more) text ≡ texts_below n text ++ rest)
texts-front n zero text = ([], ap (λ (k : ℕ). texts_below k text) (omega arith) ∙ sym (append-nil (texts_below n text)))
texts-front n (suc more) text =
    let before = texts-front n more text in
    let step : n + suc more ≡ n + more + 1 = omega arith in (
      before.0 ++ text (n + more),
      ap (λ (k : ℕ). texts_below k text) step ∙ texts_more (n + more) text ∙ ap (λ (t : List ℕ). t ++ text (n + more)) before.1
          ∙ append_assoc (texts_below n text) before.0 (text (n + more)),
    )

pub loop_none : (told : SinkTold) (text : ℕ → List ℕ) → Took (Ok tt) told (texts_below 0 text) told
loop_none told text = subst (λ (t : List ℕ). Took (Ok tt) told t told) (sym (texts_none text)) (took_none told)

pub loop_more : (n : ℕ) (text : ℕ → List ℕ) (old mid new : SinkTold) → Took (Ok tt) old (texts_below n text) mid → Took (Ok tt) mid (text n) new →
    Took (Ok tt) old (texts_below (n + 1) text) new
loop_more n text old mid new so_far one =
    subst (λ (t : List ℕ). Took (Ok tt) old t new) (sym (texts_more n text)) (took_then (Ok tt) old mid new (texts_below n text) (text n) so_far one)

pub loop_stops : (error : GenerateError) (n all : ℕ) (text : ℕ → List ℕ) (old mid new : SinkTold) → n < all → Took (Ok tt) old (texts_below n text) mid →
    Took (Err error) mid (text n) new → Took (Err error) old (texts_below all text) new
loop_stops error n all text old mid new more so_far one =
    let left = texts-front (n + 1) (all - (n + 1)) text in
    let count : n + 1 + (all - (n + 1)) ≡ all = omega (arith, more) in
    let whole : (texts_below n text ++ text n) ++ left.0 ≡ texts_below all text =
    ap (λ (t : List ℕ). t ++ left.0) (sym (texts_more n text)) ∙ sym left.1 ∙ ap (λ (k : ℕ). texts_below k text) count in
    subst (λ (t : List ℕ). Took (Err error) old t new) whole
    (took_stops error old new (texts_below n text ++ text n) left.0 (took_then (Err error) old mid new (texts_below n text) (text n) so_far one))

pub loop_all : (n all : ℕ) (text : ℕ → List ℕ) (old new : SinkTold) → n ≤ all → all ≤ n → Took (Ok tt) old (texts_below n text) new → Took (Ok tt) old (texts_below all text) new
loop_all n all text old new few many so_far = subst (λ (k : ℕ). Took (Ok tt) old (texts_below k text) new) (omega (arith, few, many)) so_far
