-- The cut of a head is at the first empty line behind a line that is not empty.
use Rattle.std.proofs.Common.{◌≡◌, ◌≢◌, ℕ, suc, ◌+◌, ◌<◌, ◌≤◌, ◌==◌, ◌⊎◌, Bool, true, false, All, List, [], ◌∷◌, ◌++◌, length, take, drop, Option, Some, None, if◌then◌else◌, refl, sym, ap, ◌∙◌, subst, inl, inr, arith, append_assoc}
use Rattle.std.proofs.Common.{length-append}
use Rattle.std.proofs.lemmas.Bool.Decides.{nat_tests}
use Rattle.std.proofs.lemmas.Bool.{cases_lt}
use Rattle.std.proofs.lemmas.List.{append-nil, take-append-drop, length-take-le, nil_from_length}
use Rattle.std.proofs.lemmas.List.Elements.{All-nil, All-cons, All-head, All-tail}
use Rattle.cds_http.specs.declared.error.HttpError.TheVariants.{BadHead, HeadTooLong}
use Rattle.cds_http.specs.declared.message.Side.{Side}
use Rattle.cds_http.specs.declared.lines.LinePlace.{LinePlace}
use Rattle.cds_http.specs.declared.lines.LinePlace.TheVariants.{Before, Inside, Fresh, Return, InLine}
use Rattle.cds_http.specs.declared.lines.Scan.{Scan}
use Rattle.cds_http.specs.declared.lines.Scan.TheVariants.{Ended, Open}
use Rattle.cds_http.specs.declared.head.Head.{Head}
use Rattle.cds_http.specs.Known.{Known, Whole, Needs, Refused, Then}
use Rattle.cds_http.specs.Lines.{next_place, further, scan_step, scanned, EndsThere}
use Rattle.cds_http.specs.Head.{IsNoHead, HeadOf, head_cut, head_limit}
use Rattle.cds_http.specs.Decided.{Decides}
use Rattle.cds_http.specs.Laws.{IsBreak, IsEmptyLine, EndsWithEmptyLine, NoneWithin, IsFirstEnd, HeadEnds, HeadsRefused}
use Rattle.cds_http.proofs.Scans.{ended-append, ended_within, further_ended, ended-take}
use Rattle.cds_http.proofs.Cuts.{cut_whole, cut_past, cut_open, cut_waits}
use Rattle.cds_http.proofs.SpelledForms.{cut_off}
use Rattle.cds_http.proofs.Sayings.{Refusal, by_limit, by_text, later, refusal}

-- what is still to come of a text that ends with an empty line behind one that is not, from each place
abbrev InsideEnd : List ℕ → Type 0
InsideEnd text = (others : List ℕ) × (last : List ℕ) × (text ≡ others ++ 10 ∷ last) × IsEmptyLine last

abbrev EndFrom : LinePlace → List ℕ → Type 0
EndFrom Before text = EndsWithEmptyLine text
EndFrom Inside text = InsideEnd text
EndFrom Fresh text = IsEmptyLine text ⊎ InsideEnd text
EndFrom Return text = (text ≡ 10 ∷ []) ⊎ InsideEnd text
EndFrom InLine text = ⊥

inside_more : (b : ℕ) (text : List ℕ) → InsideEnd text → InsideEnd (b ∷ text)
inside_more b text is = (b ∷ is.0, is.1, ap (λ (t : List ℕ). b ∷ t) is.2, is.3)

lf_is : (b : ℕ) → b == 10 ≡ true → b ≡ 10
lf_is b h = grind (arith, nat_tests)

cr_is : (b : ℕ) → b == 13 ≡ true → b ≡ 13
cr_is b h = grind (arith, nat_tests)

no_lf : (b : ℕ) → b == 10 ≡ false → b ≢ 10
no_lf b h = grind (arith, nat_tests)

no_cr : (b : ℕ) → b == 13 ≡ false → b ≢ 13
no_cr b h = grind (arith, nat_tests)

-- one byte on
end_before : (b : ℕ) (text : List ℕ) (next : LinePlace) → next_place Before b ≡ Some next → EndFrom next text → EndsWithEmptyLine (b ∷ text)
end_before b text next steps is = by (b == 10) refl (b == 13) refl steps
  where
    blank : IsBreak b → EndFrom Before text → EndsWithEmptyLine (b ∷ text)
    blank breaks is =
        (b ∷ is.0, is.1, is.2, is.3, ap (λ (t : List ℕ). b ∷ t) is.4, All-cons IsBreak b is.0 breaks is.5, is.6, is.7)

    inside : ¬ (IsBreak b) → EndFrom Inside text → EndsWithEmptyLine (b ∷ text)
    inside other is = ([], b, is.0, is.1, ap (λ (t : List ℕ). b ∷ t) is.2, All-nil IsBreak, other, is.3)

    by : (lf : Bool) → b == 10 ≡ lf → (cr : Bool) → b == 13 ≡ cr
        → (if lf then Some Before else if cr then Some Before else Some Inside) ≡ Some next → EndsWithEmptyLine (b ∷ text)
    by true is_lf cr is_cr steps =
        let same : next ≡ Before = cc in
        blank (inr (lf_is b is_lf)) (subst (λ (p : LinePlace). EndFrom p text) same is)
    by false is_lf true is_cr steps =
        let same : next ≡ Before = cc in
        blank (inl (cr_is b is_cr)) (subst (λ (p : LinePlace). EndFrom p text) same is)
    by false is_lf false is_cr steps =
        let same : next ≡ Inside = cc in
        inside (λ breaks. elim breaks [ inl h ↦ no_cr b is_cr h | inr h ↦ no_lf b is_lf h ]) (subst (λ (p : LinePlace). EndFrom p text) same is)

end_inside : (b : ℕ) (text : List ℕ) (next : LinePlace) → next_place Inside b ≡ Some next → EndFrom next text → InsideEnd (b ∷ text)
end_inside b text next steps is = by (b == 10) refl steps
  where
    fresh : b ≡ 10 → EndFrom Fresh text → InsideEnd (b ∷ text)
    fresh lf (inl empty) = ([], text, ap (λ (b : ℕ). b ∷ text) lf, empty)
    fresh lf (inr inside) = inside_more b text inside

    by : (lf : Bool) → b == 10 ≡ lf → (if lf then Some Fresh else Some Inside) ≡ Some next → InsideEnd (b ∷ text)
    by true is_lf steps =
        let same : next ≡ Fresh = cc in
        fresh (lf_is b is_lf) (subst (λ (p : LinePlace). EndFrom p text) same is)
    by false is_lf steps =
        let same : next ≡ Inside = cc in
        inside_more b text (subst (λ (p : LinePlace). EndFrom p text) same is)

end_fresh : (b : ℕ) (text : List ℕ) (next : LinePlace) → next_place Fresh b ≡ Some next → EndFrom next text → EndFrom Fresh (b ∷ text)
end_fresh b text next steps is = by (b == 10) refl (b == 13) refl steps
  where
    return : b ≡ 13 → EndFrom Return text → EndFrom Fresh (b ∷ text)
    return cr (inl end) =
        let whole : b ∷ text ≡ 13 ∷ 10 ∷ [] = cc in inl (inl whole)
    return cr (inr inside) = inr (inside_more b text inside)

    by : (lf : Bool) → b == 10 ≡ lf → (cr : Bool) → b == 13 ≡ cr
        → (if lf then None else if cr then Some Return else Some Inside) ≡ Some next → EndFrom Fresh (b ∷ text)
    by true is_lf cr is_cr steps = cc
    by false is_lf true is_cr steps =
        let same : next ≡ Return = cc in
        return (cr_is b is_cr) (subst (λ (p : LinePlace). EndFrom p text) same is)
    by false is_lf false is_cr steps =
        let same : next ≡ Inside = cc in
        inr (inside_more b text (subst (λ (p : LinePlace). EndFrom p text) same is))

end_return : (b : ℕ) (text : List ℕ) (next : LinePlace) → next_place Return b ≡ Some next → EndFrom next text → EndFrom Return (b ∷ text)
end_return b text next steps is = by (b == 10) steps
  where
    by : (lf : Bool) → (if lf then None else Some Inside) ≡ Some next → EndFrom Return (b ∷ text)
    by true steps = cc
    by false steps =
        let same : next ≡ Inside = cc in
        inr (inside_more b text (subst (λ (p : LinePlace). EndFrom p text) same is))

in_line_stays : (b : ℕ) (next : LinePlace) → next_place InLine b ≡ Some next → next ≡ InLine
in_line_stays b next steps = by (b == 10) steps
  where
    by : (lf : Bool) → (if lf then None else Some InLine) ≡ Some next → next ≡ InLine
    by true steps = cc
    by false steps = cc

end_more : (p : LinePlace) → p ≢ InLine → (b : ℕ) (text : List ℕ) (next : LinePlace) → next_place p b ≡ Some next → EndFrom next text → EndFrom p (b ∷ text)
end_more Before other b text next steps is = end_before b text next steps is
end_more Inside other b text next steps is = end_inside b text next steps is
end_more Fresh other b text next steps is = end_fresh b text next steps is
end_more Return other b text next steps is = end_return b text next steps is
end_more InLine other b text next steps is = absurd (other refl)

-- the last byte
end_last : (p : LinePlace) → p ≢ InLine → (b : ℕ) → next_place p b ≡ None → EndFrom p (b ∷ [])
end_last Before other b steps = by (b == 10) (b == 13) steps
  where
    by : (lf cr : Bool) → (if lf then Some Before else if cr then Some Before else Some Inside) ≡ None → EndFrom Before (b ∷ [])
    by true cr steps = cc
    by false true steps = cc
    by false false steps = cc
end_last Inside other b steps = by (b == 10) steps
  where
    by : (lf : Bool) → (if lf then Some Fresh else Some Inside) ≡ None → EndFrom Inside (b ∷ [])
    by true steps = cc
    by false steps = cc
end_last Fresh other b steps = by (b == 10) refl (b == 13) steps
  where
    by : (lf : Bool) → b == 10 ≡ lf → (cr : Bool) → (if lf then None else if cr then Some Return else Some Inside) ≡ None → EndFrom Fresh (b ∷ [])
    by true is cr steps = inl (inr (ap (λ (b : ℕ). b ∷ []) (lf_is b is)))
    by false is true steps = cc
    by false is false steps = cc
end_last Return other b steps = by (b == 10) refl steps
  where
    by : (lf : Bool) → b == 10 ≡ lf → (if lf then None else Some Inside) ≡ None → EndFrom Return (b ∷ [])
    by true is steps = inl (ap (λ (b : ℕ). b ∷ []) (lf_is b is))
    by false is steps = cc
end_last InLine other b steps = absurd (other refl)

next_not_in_line : (p : LinePlace) → p ≢ InLine → (b : ℕ) (next : LinePlace) → next_place p b ≡ Some next → next ≢ InLine
next_not_in_line Before other b next steps = by (b == 10) (b == 13) steps
  where
    by : (lf cr : Bool) → (if lf then Some Before else if cr then Some Before else Some Inside) ≡ Some next → next ≢ InLine
    by true cr steps = λ h. cc
    by false true steps = λ h. cc
    by false false steps = λ h. cc
next_not_in_line Inside other b next steps = by (b == 10) steps
  where
    by : (lf : Bool) → (if lf then Some Fresh else Some Inside) ≡ Some next → next ≢ InLine
    by true steps = λ h. cc
    by false steps = λ h. cc
next_not_in_line Fresh other b next steps = by (b == 10) (b == 13) steps
  where
    by : (lf cr : Bool) → (if lf then None else if cr then Some Return else Some Inside) ≡ Some next → next ≢ InLine
    by true cr steps = λ h. cc
    by false true steps = λ h. cc
    by false false steps = λ h. cc
next_not_in_line Return other b next steps = by (b == 10) steps
  where
    by : (lf : Bool) → (if lf then None else Some Inside) ≡ Some next → next ≢ InLine
    by true steps = λ h. cc
    by false steps = λ h. cc
next_not_in_line InLine other b next steps = absurd (other refl)

-- where a scan ends, the text has its empty line
found : (p : LinePlace) → p ≢ InLine → (text : List ℕ) → EndsThere p text → EndFrom p text
found p other [] ends = cc
found p other (b ∷ text) ends = by (λ next other ends. found next other text ends) (next_place p b) refl ends
  where
    by : ((next : LinePlace) → next ≢ InLine → EndsThere next text → EndFrom next text) → (o : Option LinePlace) → next_place p b ≡ o → scan_step o (λ next. scanned next text) ≡ Ended (suc (length text)) → EndFrom p (b ∷ text)
    by on None steps is =
        let one : 1 ≡ suc (length text) = cc in
        let none : text ≡ [] = nil_from_length text (omega (arith, one)) in
        subst (λ (t : List ℕ). EndFrom p (b ∷ t)) (sym none) (end_last p other b steps)
    by on (Some next) steps is =
        let inner = further_ended (scanned next text) (suc (length text)) is in
        let there : EndsThere next text = inner.1 ∙ ap (λ (n : ℕ). Ended n) (omega (arith, inner.2)) in
        end_more p other b text next steps (on next (next_not_in_line p other b next steps) there)

-- and a text that has one is ended by the scan, there or before
abbrev Ends : LinePlace → List ℕ → Type 0
Ends p text = (n : ℕ) × (scanned p text ≡ Ended n)

ends_on : (p next : LinePlace) (b : ℕ) (text : List ℕ) → next_place p b ≡ Some next → Ends next text → Ends p (b ∷ text)
ends_on p next b text steps is =
    (1 + is.0, ap (λ (o : Option LinePlace). scan_step o (λ next. scanned next text)) steps ∙ ap (further 1) is.1)

ends_now : (p : LinePlace) (b : ℕ) (text : List ℕ) → next_place p b ≡ None → Ends p (b ∷ text)
ends_now p b text steps = (1, ap (λ (o : Option LinePlace). scan_step o (λ next. scanned next text)) steps)

empty_ends : (last : List ℕ) → IsEmptyLine last → Ends Fresh last
empty_ends last (inl is) = (2, ap (scanned Fresh) is)
empty_ends last (inr is) = (1, ap (scanned Fresh) is)

inside_ends : (others last : List ℕ) → IsEmptyLine last → Ends Inside (others ++ 10 ∷ last) × Ends Fresh (others ++ 10 ∷ last) × Ends Return (others ++ 10 ∷ last)
inside_ends [] last is =
    (ends_on Inside Fresh 10 last refl (empty_ends last is), ends_now Fresh 10 last refl, ends_now Return 10 last refl)
inside_ends (b ∷ others) last is = by (inside_ends others last is) (b == 10) refl (b == 13) refl
  where
    rest : List ℕ
    rest = others ++ 10 ∷ last

    after_lf : b == 10 ≡ true → Ends Fresh rest → Ends Inside (b ∷ rest) × Ends Fresh (b ∷ rest) × Ends Return (b ∷ rest)
    after_lf lf onwards =
        subst (λ (b : ℕ). Ends Inside (b ∷ rest) × Ends Fresh (b ∷ rest) × Ends Return (b ∷ rest)) (sym (lf_is b lf))
        (ends_on Inside Fresh 10 rest refl onwards, ends_now Fresh 10 rest refl, ends_now Return 10 rest refl)

    after_cr : b == 13 ≡ true → Ends Inside rest → Ends Return rest → Ends Inside (b ∷ rest) × Ends Fresh (b ∷ rest) × Ends Return (b ∷ rest)
    after_cr cr inside return =
        subst (λ (b : ℕ). Ends Inside (b ∷ rest) × Ends Fresh (b ∷ rest) × Ends Return (b ∷ rest)) (sym (cr_is b cr))
        (ends_on Inside Inside 13 rest refl inside, ends_on Fresh Return 13 rest refl return, ends_on Return Inside 13 rest refl inside)

    steps_inside : b == 10 ≡ false → next_place Inside b ≡ Some Inside
    steps_inside lf = ap (λ (t : Bool). if t then Some Fresh else Some Inside) lf

    steps_fresh : b == 10 ≡ false → b == 13 ≡ false → next_place Fresh b ≡ Some Inside
    steps_fresh lf cr =
        ap (λ (t : Bool). if t then None else if b == 13 then Some Return else Some Inside) lf
        ∙ ap (λ (t : Bool). if t then Some Return else Some Inside) cr

    steps_return : b == 10 ≡ false → next_place Return b ≡ Some Inside
    steps_return lf = ap (λ (t : Bool). if t then None else Some Inside) lf

    by : Ends Inside rest × Ends Fresh rest × Ends Return rest → (lf : Bool) → b == 10 ≡ lf → (cr : Bool) → b == 13 ≡ cr
        → Ends Inside (b ∷ rest) × Ends Fresh (b ∷ rest) × Ends Return (b ∷ rest)
    by onwards true is_lf cr is_cr = after_lf is_lf onwards.1
    by onwards false is_lf true is_cr = after_cr is_cr onwards.0 onwards.2
    by onwards false is_lf false is_cr = (
      ends_on Inside Inside b rest (steps_inside is_lf) onwards.0,
      ends_on Fresh Inside b rest (steps_fresh is_lf is_cr) onwards.0,
      ends_on Return Inside b rest (steps_return is_lf) onwards.0,
    )

first_steps : (b : ℕ) → ¬ (IsBreak b) → next_place Before b ≡ Some Inside
first_steps b other = by (b == 10) refl (b == 13) refl
  where
    by : (lf : Bool) → b == 10 ≡ lf → (cr : Bool) → b == 13 ≡ cr → (if lf then Some Before else if cr then Some Before else Some Inside) ≡ Some Inside
    by true is_lf cr is_cr = absurd (other (inr (lf_is b is_lf)))
    by false is_lf true is_cr = absurd (other (inl (cr_is b is_cr)))
    by false is_lf false is_cr = refl

blank_steps : (b : ℕ) → IsBreak b → next_place Before b ≡ Some Before
blank_steps b (inl cr) = ap (next_place Before) cr
blank_steps b (inr lf) = ap (next_place Before) lf

ended : (blank : List ℕ) (first : ℕ) (others last : List ℕ) → All IsBreak blank → ¬ (IsBreak first) → IsEmptyLine last
    → Ends Before (blank ++ (first ∷ others ++ 10 ∷ last))
ended [] first others last blank other is =
    ends_on Before Inside first (others ++ 10 ∷ last) (first_steps first other) (inside_ends others last is).0
ended (b ∷ blank) first others last all other is =
    ends_on Before Before b (blank ++ (first ∷ others ++ 10 ∷ last)) (blank_steps b (All-head IsBreak b blank all))
    (ended blank first others last (All-tail IsBreak b blank all) other is)

ends_of : (text : List ℕ) → EndsWithEmptyLine text → Ends Before text
ends_of text is = subst (Ends Before) (sym is.4) (ended is.0 is.1 is.2 is.3 is.5 is.6 is.7)

not_in_line : Before ≢ InLine
not_in_line h = cc

-- the first end of the bytes is the scan's
first_end : (bytes text rest : List ℕ) → bytes ≡ text ++ rest → EndsThere Before text → (shorter more : List ℕ) → text ≡ shorter ++ more
    → EndsWithEmptyLine shorter → more ≡ []
first_end bytes text rest all ends shorter more is there =
    let n = ends_of shorter there in
    let at : scanned Before text ≡ Ended n.0 = ap (scanned Before) is ∙ ended-append Before shorter more n.0 n.1 in
    let same : length text ≡ n.0 =
    let both : Ended (length text) ≡ Ended n.0 = sym ends ∙ at in cc in
    let within = (ended_within Before shorter n.0 n.1).1 in
    nil_from_length more (omega (arith, same, within, ap length is, length-append shorter more))

cut_is : (bytes text rest : List ℕ) → head_cut bytes ≡ Whole text rest → IsFirstEnd bytes text rest
cut_is bytes text rest is =
    let cuts = cut_off Before HeadTooLong head_limit bytes text rest is in
    record {
      all = cuts.all;
      ends = found Before not_in_line text cuts.ends;
      first = first_end bytes text rest cuts.all cuts.ends;
      short = cuts.short;
    }

is_cut : (bytes text rest : List ℕ) → IsFirstEnd bytes text rest → head_cut bytes ≡ Whole text rest
is_cut bytes text rest is =
    let n = ends_of text is.ends in
    let within = (ended_within Before text n.0 n.1).1 in
    let front = take n.0 text in
    let size : length front ≡ n.0 = length-take-le n.0 text within in
    let there : EndsThere Before front = ended-take Before text n.0 n.1 ∙ ap (λ (k : ℕ). Ended k) (sym size) in
    let none = is.first front (drop n.0 text) (sym (take-append-drop n.0 text)) (found Before not_in_line front there) in
    let whole : front ≡ text =
    sym (append-nil front) ∙ ap (λ (t : List ℕ). front ++ t) (sym none) ∙ take-append-drop n.0 text in
    ap head_cut is.all ∙ cut_whole Before HeadTooLong head_limit text rest (subst (EndsThere Before) whole there) is.short

pub head_ends : HeadEnds
head_ends bytes text rest = (cut_is bytes text rest, is_cut bytes text rest)

-- a cut that is refused has no end within the limit, and so many bytes
long_is : (bytes : List ℕ) → head_cut bytes ≡ Refused HeadTooLong → (head_limit ≤ length bytes) × NoneWithin head_limit bytes
long_is bytes is = by (scanned Before bytes) refl
  where
    no_whole : (text rest : List ℕ) → head_cut bytes ≡ Whole text rest → ⊥
    no_whole text rest h = let no : ◌≡◌ {A = Known (List ℕ)} (Refused HeadTooLong) (Whole text rest) = sym is ∙ h in cc

    no_needs : head_cut bytes ≡ Needs → ⊥
    no_needs h = let no : ◌≡◌ {A = Known (List ℕ)} (Refused HeadTooLong) Needs = sym is ∙ h in cc

    none : NoneWithin head_limit bytes
    none front rest all short ends =
        let n = ends_of front ends in
        let within = (ended_within Before front n.0 n.1).1 in
        let head = take n.0 front in
        let size : length head ≡ n.0 = length-take-le n.0 front within in
        let there : EndsThere Before head = ended-take Before front n.0 n.1 ∙ ap (λ (k : ℕ). Ended k) (sym size) in
        let whole : bytes ≡ head ++ (drop n.0 front ++ rest) =
        all ∙ ap (λ (t : List ℕ). t ++ rest) (sym (take-append-drop n.0 front)) ∙ append_assoc head (drop n.0 front) rest in
        no_whole head (drop n.0 front ++ rest)
        (ap head_cut whole ∙ cut_whole Before HeadTooLong head_limit head (drop n.0 front ++ rest) there (omega (arith, size, within, short)))

    by : (s : Scan) → scanned Before bytes ≡ s → (head_limit ≤ length bytes) × NoneWithin head_limit bytes
    by (Ended n) ends = elim (cases_lt head_limit n) [
      | inl long ↦ (omega (arith, long, (ended_within Before bytes n ends).1), none)
      | inr short ↦
          let front = take n bytes in
          let size : length front ≡ n = length-take-le n bytes (ended_within Before bytes n ends).1 in
          let there : EndsThere Before front = ended-take Before bytes n ends ∙ ap (λ (k : ℕ). Ended k) (sym size) in
          absurd (
          no_whole front (drop n bytes)
          (ap head_cut (sym (take-append-drop n bytes)) ∙ cut_whole Before HeadTooLong head_limit front (drop n bytes) there (omega (arith, size, short)))
          )
    ]
    by (Open q) opens = elim (cases_lt (length bytes) head_limit) [
      | inl short ↦ absurd (no_needs (waits q opens short))
      | inr long ↦ (long, none)
    ]
      where
        waits : (q : LinePlace) → scanned Before bytes ≡ Open q → length bytes < head_limit → head_cut bytes ≡ Needs
        waits q opens short = cut_waits Before q HeadTooLong head_limit bytes opens short

is_long : (bytes : List ℕ) → head_limit ≤ length bytes → NoneWithin head_limit bytes → head_cut bytes ≡ Refused HeadTooLong
is_long bytes many none = by (scanned Before bytes) refl
  where
    by : (s : Scan) → scanned Before bytes ≡ s → head_cut bytes ≡ Refused HeadTooLong
    by (Ended n) ends = elim (cases_lt head_limit n) [
      | inl long ↦ cut_past Before HeadTooLong head_limit n bytes ends long
      | inr short ↦
          let front = take n bytes in
          let size : length front ≡ n = length-take-le n bytes (ended_within Before bytes n ends).1 in
          let there : EndsThere Before front = ended-take Before bytes n ends ∙ ap (λ (k : ℕ). Ended k) (sym size) in
          absurd (none front (drop n bytes) (sym (take-append-drop n bytes)) (omega (arith, size, short)) (found Before not_in_line front there))
    ]
    by (Open q) opens = cut_open Before q HeadTooLong head_limit bytes opens many

too_long : (ended : Bool) (side : Side) (bytes : List ℕ) → head_cut bytes ≡ Refused HeadTooLong → Decides ended side bytes (Refused HeadTooLong)
too_long ended side bytes is = (
  Refused HeadTooLong,
  subst (λ (k : Known (List ℕ)). Then {A = List ℕ} {B = Head} k (HeadOf side) (Refused HeadTooLong)) (sym is) refl,
  refl,
)

no_head : (ended : Bool) (side : Side) (bytes text rest : List ℕ) → head_cut bytes ≡ Whole text rest → IsNoHead side text → Decides ended side bytes (Refused BadHead)
no_head ended side bytes text rest is none = (
  Refused BadHead,
  subst (λ (k : Known (List ℕ)). Then {A = List ℕ} {B = Head} k (HeadOf side) (Refused BadHead)) (sym is) (refl, none),
  refl,
)

limit_of : (side : Side) (bytes : List ℕ) → Refusal side bytes HeadTooLong → head_cut bytes ≡ Refused HeadTooLong
limit_of side bytes (by_limit cuts is) = cuts
limit_of side bytes (by_text text rest cuts none is) = cc
limit_of side bytes (later (inl is)) = cc
limit_of side bytes (later (inr (inl is))) = cc
limit_of side bytes (later (inr (inr is))) = cc

text_of : (side : Side) (bytes : List ℕ) → Refusal side bytes BadHead → (text : List ℕ) × (rest : List ℕ) × IsFirstEnd bytes text rest × IsNoHead side text
text_of side bytes (by_limit cuts is) = cc
text_of side bytes (by_text text rest cuts none is) = (text, rest, cut_is bytes text rest cuts, none)
text_of side bytes (later (inl is)) = cc
text_of side bytes (later (inr (inl is))) = cc
text_of side bytes (later (inr (inr is))) = cc

pub heads_refused : HeadsRefused
heads_refused ended side bytes = (
  (
    λ refused. long_is bytes (limit_of side bytes (refusal ended side bytes HeadTooLong refused)),
    λ is. too_long ended side bytes (is_long bytes is.0 is.1),
  ),
  (
    λ refused. text_of side bytes (refusal ended side bytes BadHead refused),
    λ is. no_head ended side bytes is.0 is.1 (is_cut bytes is.0 is.1 is.2) is.3,
  ),
)
