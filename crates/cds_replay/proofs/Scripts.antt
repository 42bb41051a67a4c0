-- How a script goes on at a line, at a piece of one, at its limits and at its end.
use Rattle.std.proofs.Common.{◌≡◌, ℕ, zero, suc, ◌+◌, ◌-◌, ◌<◌, ◌≤◌, List, [], ◌∷◌, ◌++◌, length, take, true, not, nat_eq, Option, Some, None, refl, ap, sym, subst, ◌∙◌, arith, ◌⊎◌, inl, inr, length-append, append_assoc}
use Rattle.std.specs.Prelude.{nat_le}
use Rattle.std.proofs.lemmas.Bool.{and_parts, and_from}
use Rattle.std.proofs.lemmas.List.{append-nil, take-append-le}
use Rattle.std.proofs.lemmas.List.Folds.{list_all-append}
use Rattle.cds_script.specs.Lines.{is_unbroken, line_limit}
use Rattle.cds_script.specs.Report.{limit_ending}
use Rattle.cds_script.specs.Script.{meaning_of}
use Rattle.cds_replay.specs.Session.{Playing, IsAfter}
use Rattle.cds_replay.specs.declared.script.Script.{Script}
use Rattle.cds_replay.specs.declared.script.ScriptStop.{ScriptStop}
use Rattle.cds_replay.specs.declared.script.ScriptStop.TheVariants.{Limit}
use Rattle.cds_replay.specs.Script.{stop_status, stop_text, stop_refused, GoesOn, Went, StopsAt, Fed, Finished, Continued, LineRead}
use Rattle.cds_replay.specs.Wire.{WiredEnding, unrefused, wired_first, EndsAtLine, EndsOf, EndsOver, lines_in}
use Rattle.cds_replay.specs.Wired.{ReplayStep}
use Rattle.cds_replay.proofs.Ends.{ends-same, ends-line, ends-last, ends-none, ends-limit}

-- two runs of bytes without an LF
unbroken-append : (front back : List ℕ) → is_unbroken front ≡ true → is_unbroken back ≡ true → is_unbroken (front ++ back) ≡ true
unbroken-append front back whole more = list_all-append (λ b. not (nat_eq b 10)) front back ∙ and_from _ _ whole more

-- a front of bytes without an LF
unbroken-take : (bytes : List ℕ) (n : ℕ) → is_unbroken bytes ≡ true → is_unbroken (take n bytes) ≡ true
unbroken-take bytes zero whole = refl
unbroken-take [] (suc n) whole = refl
unbroken-take (b ∷ bytes) (suc n) whole = and_from _ _ (and_parts _ _ whole).0 (unbroken-take bytes n (and_parts _ _ whole).1)

-- a line of which more has come than one of both limits allows
limit-here : (carried : List ℕ → List ℕ) (steps : List ReplayStep) (number room : ℕ) (front more : List ℕ) → is_unbroken front ≡ true →
    ((room ≤ length front) × (room < length (front ++ more))) ⊎ (line_limit < length front) →
    EndsOf carried steps number room (front ++ more) (unrefused steps limit_ending)
limit-here carried steps number room front more whole (inl over) =
    ends-limit carried steps number room front more whole
    (inl (ap is_unbroken (take-append-le room front more over.0) ∙ unbroken-take front room whole, over.1))
limit-here carried steps number room front more whole (inr long) = ends-limit carried steps number room front more whole (inr long)

-- what was written before what is still written
pub first-first : (one two : List ℕ) (later : WiredEnding) → wired_first one (wired_first two later) ≡ wired_first (one ++ two) later
first-first one two later =
    ap (λ text. record { steps = later.steps; refused = later.refused; ending = record { status = later.ending.status; text = text } })
    (sym (append_assoc one two later.ending.text))

-- a script whose bytes end at a limit
ends-at-limit : (carried : List ℕ → List ℕ) (steps : List ReplayStep) (bytes written old new : List ℕ) → EndsOver carried bytes (wired_first written (unrefused steps limit_ending)) →
    new ≡ old ++ stop_text Limit → StopsAt carried bytes written Limit old new
ends-at-limit carried steps bytes written old new is out =
    record { ending = wired_first written (unrefused steps limit_ending); is = is; front = []; out = out; at = refl; ends = refl }

-- the bytes of a script in which a piece and more stand behind those that have come
kept-cut : (before front partial rest more : List ℕ) → before ≡ front ++ partial → front ++ ((partial ++ rest) ++ more) ≡ (before ++ rest) ++ more
kept-cut before front partial rest more parts =
    ap (λ bytes. front ++ bytes) (append_assoc partial rest more)
    ∙ sym (append_assoc front partial (rest ++ more))
    ∙ ap (λ bytes. bytes ++ (rest ++ more)) (sym parts)
    ∙ sym (append_assoc before rest more)

line-cut : (before front partial line more : List ℕ) → before ≡ front ++ partial → partial ≡ [] → front ++ (line ++ 10 ∷ more) ≡ (before ++ (line ++ 10 ∷ [])) ++ more
line-cut before front partial line more parts none =
    sym (ap (λ bytes. front ++ bytes) (append_assoc line (10 ∷ []) more))
    ∙ ap (λ p. front ++ ((p ++ (line ++ 10 ∷ [])) ++ more)) (sym none)
    ∙ kept-cut before front partial (line ++ 10 ∷ []) more parts

-- bytes that are kept, where a limit is passed
pub kept-stops : (carried : List ℕ → List ℕ) (script : Script) (before written rest old new : List ℕ) → GoesOn carried script before written →
    is_unbroken script.partial.items ≡ true → is_unbroken rest ≡ true →
    (script.room - length script.partial.items < length rest) ⊎ (line_limit - length script.partial.items < length rest) →
    length script.partial.items ≤ script.room → length script.partial.items ≤ line_limit →
    new ≡ old ++ stop_text Limit → (more : List ℕ) → StopsAt carried ((before ++ rest) ++ more) written Limit old new
kept-stops carried script before written rest old new goes whole more_whole past within short out more =
    ends-at-limit carried goes.steps ((before ++ rest) ++ more) written old new
    (subst (λ bytes. EndsOver carried bytes (wired_first written (unrefused goes.steps limit_ending))) (kept-cut before goes.front script.partial.items rest more goes.parts)
    (goes.goes ((script.partial.items ++ rest) ++ more) (unrefused goes.steps limit_ending)
    (limit-here carried goes.steps script.line script.room (script.partial.items ++ rest) more (unbroken-append script.partial.items rest whole more_whole) (by past))))
    out
  where
    by : (script.room - length script.partial.items < length rest) ⊎ (line_limit - length script.partial.items < length rest) →
        ((script.room ≤ length (script.partial.items ++ rest)) × (script.room < length ((script.partial.items ++ rest) ++ more)))
        ⊎ (line_limit < length (script.partial.items ++ rest))
    by (inl over) =
        inl (
          omega (arith, length-append script.partial.items rest, over, within),
          omega (arith, length-append script.partial.items rest, length-append (script.partial.items ++ rest) more, over, within),
        )
    by (inr long) = inr (omega (arith, length-append script.partial.items rest, long, short))

-- bytes that are kept within the limits
pub kept-goes : (carried : List ℕ → List ℕ) (script later : Script) (before written rest out : List ℕ) → GoesOn carried script before written →
    later.session ≡ script.session → later.line ≡ script.line → later.room ≡ script.room → later.partial.items ≡ script.partial.items ++ rest →
    Went carried before written rest out out later
kept-goes carried script later before written rest out goes session line room partial = record {
  added = [];
  goes = record {
    front = goes.front;
    parts = ap (λ bytes. bytes ++ rest) goes.parts ∙ append_assoc goes.front script.partial.items rest ∙ ap (λ bytes. goes.front ++ bytes) (sym partial);
    steps = goes.steps;
    after = subst (λ playing. IsAfter playing goes.steps) (sym session) goes.after;
    goes = λ more ending ends.
        subst (λ text. EndsOver carried (goes.front ++ more) (wired_first text ending)) (sym (append-nil written))
        (goes.goes more ending (ends-same carried goes.steps ending later.line script.line later.room script.room more more line room refl ends));
  };
  out = sym (append-nil out);
}

-- a whole line that passes a limit
pub line-stops : (carried : List ℕ → List ℕ) (script : Script) (before written line old new : List ℕ) → GoesOn carried script before written →
    script.partial.items ≡ [] → is_unbroken line ≡ true → (script.room ≤ length line) ⊎ (line_limit < length line) →
    new ≡ old ++ stop_text Limit → (more : List ℕ) → StopsAt carried ((before ++ (line ++ 10 ∷ [])) ++ more) written Limit old new
line-stops carried script before written line old new goes none whole past out more =
    ends-at-limit carried goes.steps ((before ++ (line ++ 10 ∷ [])) ++ more) written old new
    (subst (λ bytes. EndsOver carried bytes (wired_first written (unrefused goes.steps limit_ending))) (line-cut before goes.front script.partial.items line more goes.parts none)
    (goes.goes (line ++ 10 ∷ more) (unrefused goes.steps limit_ending)
    (limit-here carried goes.steps script.line script.room line (10 ∷ more) whole (by past))))
    out
  where
    by : (script.room ≤ length line) ⊎ (line_limit < length line) →
        ((script.room ≤ length line) × (script.room < length (line ++ 10 ∷ more))) ⊎ (line_limit < length line)
    by (inl over) = inl (over, omega (arith, length-append line (10 ∷ more), over))
    by (inr long) = inr long

-- how a script goes on at a whole line within the limits
line-goes : (carried : List ℕ → List ℕ) (script : Script) (before written line : List ℕ) → (goes : GoesOn carried script before written) →
    script.partial.items ≡ [] → is_unbroken line ≡ true → length line + 1 ≤ script.room → length line ≤ line_limit → (more : List ℕ) (ending : WiredEnding) →
    EndsAtLine carried goes.steps (meaning_of line) script.line
    (Continued carried script.line (lines_in (script.room - (length line + 1)) more) (nat_le (length more) (script.room - (length line + 1)))) ending →
    EndsOver carried ((before ++ (line ++ 10 ∷ [])) ++ more) (wired_first written ending)
line-goes carried script before written line goes none whole room short more ending ends =
    subst (λ bytes. EndsOver carried bytes (wired_first written ending)) (line-cut before goes.front script.partial.items line more goes.parts none)
    (goes.goes (line ++ 10 ∷ more) ending (ends-line carried goes.steps ending script.line script.room line more whole room short ends))

-- what becomes of a script at a whole line within the limits
pub line-fed : (carried : List ℕ → List ℕ) (stop : Option ScriptStop) (script later : Script) (before written line old new : List ℕ) →
    (goes : GoesOn carried script before written) → script.partial.items ≡ [] → is_unbroken line ≡ true → length line + 1 ≤ script.room → length line ≤ line_limit →
    later.partial.items ≡ [] → later.line ≡ script.line + 1 → later.room ≡ script.room - (length line + 1) →
    LineRead carried stop goes.steps (meaning_of line) script.line old new later.session →
    Fed carried stop before written (line ++ 10 ∷ []) old new later
line-fed carried None script later before written line old new goes none whole room short empty number left taken = record {
  added = taken.added;
  goes = record {
    front = before ++ (line ++ 10 ∷ []);
    parts = sym (append-nil (before ++ (line ++ 10 ∷ []))) ∙ ap (λ bytes. (before ++ (line ++ 10 ∷ [])) ++ bytes) (sym empty);
    steps = taken.now;
    after = taken.after;
    goes = λ more ending ends.
        subst (EndsOver carried ((before ++ (line ++ 10 ∷ [])) ++ more)) (first-first written taken.added ending)
        (line-goes carried script before written line goes none whole room short more (wired_first taken.added ending)
        (taken.first (lines_in (script.room - (length line + 1)) more) (nat_le (length more) (script.room - (length line + 1))) ending
        (ends-same carried taken.now ending later.line (script.line + 1) later.room (script.room - (length line + 1)) more more number left refl ends)));
  };
  out = taken.out;
}
line-fed carried (Some stop) script later before written line old new goes none whole room short empty number left stopped =
    λ more. record {
      ending = record { steps = stopped.now; refused = stop_refused stop; ending = record { status = stop_status stop; text = written ++ stop_text stop } };
      is = line-goes carried script before written line goes none whole room short more
          (record { steps = stopped.now; refused = stop_refused stop; ending = record { status = stop_status stop; text = stop_text stop } })
          (stopped.ends (lines_in (script.room - (length line + 1)) more) (nat_le (length more) (script.room - (length line + 1))));
      front = [];
      out = stopped.out;
      at = refl;
      ends = refl;
    }

-- a script whose last line was put aside goes on at the bytes before that line
pub aside-goes : (carried : List ℕ → List ℕ) (script mid : Script) (before written : List ℕ) → (goes : GoesOn carried script before written) →
    mid.session ≡ script.session → mid.line ≡ script.line → mid.room ≡ script.room → mid.partial.items ≡ [] → GoesOn carried mid goes.front written
aside-goes carried script mid before written goes session line room none = record {
  front = goes.front;
  parts = sym (append-nil goes.front) ∙ ap (λ bytes. goes.front ++ bytes) (sym none);
  steps = goes.steps;
  after = subst (λ playing. IsAfter playing goes.steps) (sym session) goes.after;
  goes = λ more ending ends.
      goes.goes more ending (ends-same carried goes.steps ending mid.line script.line mid.room script.room more more line room refl ends);
}

-- the bytes of a line that came in two parts
pub aside-same : (before front partial line : List ℕ) → before ≡ front ++ partial → front ++ ((partial ++ line) ++ 10 ∷ []) ≡ before ++ (line ++ 10 ∷ [])
aside-same before front partial line parts =
    ap (λ bytes. front ++ bytes) (append_assoc partial line (10 ∷ []))
    ∙ sym (append_assoc front partial (line ++ 10 ∷ []))
    ∙ ap (λ bytes. bytes ++ (line ++ 10 ∷ [])) (sym parts)

-- what became of a script, told of the same bytes in other parts
pub fed-from : (carried : List ℕ → List ℕ) (stop : Option ScriptStop) (before front written piece part old new : List ℕ) (script : Script) → front ++ part ≡ before ++ piece →
    Fed carried stop front written part old new script → Fed carried stop before written piece old new script
fed-from carried None before front written piece part old new script same went =
    record { added = went.added; goes = subst (λ bytes. GoesOn carried script bytes (written ++ went.added)) same went.goes; out = went.out }
fed-from carried (Some stop) before front written piece part old new script same stopped =
    λ more. subst (λ bytes. StopsAt carried (bytes ++ more) written stop old new) same (stopped more)

-- no last line
pub nothing-ends : (carried : List ℕ → List ℕ) (script : Script) (before written out : List ℕ) → GoesOn carried script before written →
    script.partial.items ≡ [] → Finished carried None before written out out
nothing-ends carried script before written out goes none = record {
  ending = wired_first written (unrefused goes.steps (record { status = 0; text = [] }));
  is = subst (λ bytes. EndsOver carried bytes (wired_first written (unrefused goes.steps (record { status = 0; text = [] }))))
      (ap (λ bytes. goes.front ++ bytes) (sym none) ∙ sym goes.parts)
      (goes.goes [] (unrefused goes.steps (record { status = 0; text = [] })) (ends-none carried goes.steps script.line script.room));
  front = [];
  out = sym (append-nil out);
  at = refl;
  ends = refl;
}

-- a last line without an LF
pub last-ends : (carried : List ℕ → List ℕ) (stop : Option ScriptStop) (script : Script) (before written : List ℕ) (session : Playing) (old new : List ℕ) →
    (goes : GoesOn carried script before written) → is_unbroken script.partial.items ≡ true → length script.partial.items ≤ line_limit →
    length script.partial.items ≤ script.room → (length script.partial.items ≡ 0 → ⊥) →
    LineRead carried stop goes.steps (meaning_of script.partial.items) script.line old new session → Finished carried stop before written old new
last-ends carried stop script before written session old new goes whole short within some read = by stop read
  where
    done : List ReplayStep → WiredEnding
    done now = unrefused now (record { status = 0; text = [] })

    last : (ending : WiredEnding) → EndsAtLine carried goes.steps (meaning_of script.partial.items) script.line (Continued carried script.line [] true) ending →
        EndsOver carried before (wired_first written ending)
    last ending ends =
        subst (λ bytes. EndsOver carried bytes (wired_first written ending)) (sym goes.parts)
        (goes.goes script.partial.items ending (ends-last carried goes.steps ending script.line script.room script.partial.items whole within short some ends))

    by : (stop : Option ScriptStop) → LineRead carried stop goes.steps (meaning_of script.partial.items) script.line old new session → Finished carried stop before written old new
    by None taken = record {
      ending = wired_first written (wired_first taken.added (done taken.now));
      is = last (wired_first taken.added (done taken.now)) (taken.first [] true (done taken.now) refl);
      front = taken.added;
      out = taken.out ∙ ap (λ text. old ++ text) (sym (append-nil taken.added));
      at = refl;
      ends = refl;
    }
    by (Some stop) stopped = record {
      ending = record { steps = stopped.now; refused = stop_refused stop; ending = record { status = stop_status stop; text = written ++ stop_text stop } };
      is = last (record { steps = stopped.now; refused = stop_refused stop; ending = record { status = stop_status stop; text = stop_text stop } }) (stopped.ends [] true);
      front = [];
      out = stopped.out;
      at = refl;
      ends = refl;
    }
