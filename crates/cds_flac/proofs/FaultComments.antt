-- Faults in a block of comments, by its form: the reading refuses them.
use Rattle.std.proofs.Common.{◌≡◌, ℕ, zero, suc, ◌+◌, ◌-◌, ◌<◌, ◌≤◌, nat_lt, nat_le, false, cond, List, [], ◌∷◌, ◌++◌, length, take, drop, Option, Some, None, Ok, Err, refl, sym, ap, subst, ◌∙◌, inl, inr, arith, append_assoc, length-append}
use Rattle.std.proofs.lemmas.Bool.Decides.{nat_tests}
use Rattle.std.specs.List.{flat_map}
use Rattle.std.specs.Str.{is_utf8}
use Rattle.cds_flac.specs.declared.error.FlacError.{FlacError}
use Rattle.cds_flac.specs.declared.error.FlacError.TheVariants.{Truncated, BadComment}
use Rattle.cds_object.specs.declared.info.Comment.{Comment}
use Rattle.cds_flac.specs.Numbers.{big_endian, little_endian}
use Rattle.cds_flac.specs.Comment.{comment_of}
use Rattle.cds_flac.specs.Step.{Step, after, taken, big_number, little_number}
use Rattle.cds_flac.specs.Reading.{behind_vendor, comment_block, comments_from, counted_comments, text_at, text_of_length, in_form}
use Rattle.cds_flac.specs.Form.{Field, field_bytes, IsField, EachIsField}
use Rattle.cds_flac.specs.Refused.{Next, Vendor, Count, Comments, AreComments, IsVendor, AreSome, ComesNext, IsBad, IsCutWithin, AreBadComments, AreCutComments}
use Rattle.cds_flac.proofs.Steps.{after-ok}
use Rattle.cds_flac.proofs.Texts.{text-length, text-fits}
use Rattle.cds_flac.proofs.Decided.{taken-then, below-true}
use Rattle.cds_flac.proofs.Blocks.{counted-no_count, counted-count, vendor-refused, vendor-passed}
use Rattle.cds_flac.proofs.Shapes.{little-front}
use Rattle.cds_flac.proofs.FieldForm.{text-front}

-- the first step of two was refused
pub err-after : {A B : Type 0} {step : Step A} (next : A → List ℕ → Step B) {e : FlacError} → step ≡ Err e → after step next ≡ Err e
err-after next h = ap (λ s. after s next) h

-- too few bytes
pub taken-short : (at n : ℕ) (left : List ℕ) → length left < n → taken at n left ≡ Err (Truncated (at + length left))
taken-short at n left short =
    let test : nat_le n (length left) ≡ false = grind (arith, nat_tests) in
    let result : Step (List ℕ) = Ok (take n left, drop n left) in
    let refusal : Step (List ℕ) = Err (Truncated (at + length left)) in
    ap (λ b. cond b result refusal) test

pub big-short : (at n : ℕ) (left : List ℕ) → length left < n → big_number at n left ≡ Err (Truncated (at + length left))
big-short at n left short = err-after (λ bytes rest. Ok (big_endian bytes, rest)) (taken-short at n left short)

little-short : (at : ℕ) (left : List ℕ) → length left < 4 → little_number at left ≡ Err (Truncated (at + length left))
little-short at left short = err-after (λ bytes rest. Ok (little_endian bytes, rest)) (taken-short at 4 left short)

-- a text that stands at a place, where so many bytes of the block are left
module _ (p end room : ℕ) (ends : p + room ≡ end) (here : List ℕ) where
  by_length : ℕ → List ℕ → Step (List ℕ)
  by_length n rest = text_of_length p end n rest

  text-none : room < 4 → text_at p end here ≡ Err (BadComment p)
  unfolding text_at
  text-none few =
      let bad : Step (List ℕ) = Err (BadComment p) in
      taken-then (nat_lt end (p + 4)) bad (after (little_number p here) (λ n rest. text_of_length p end n rest)) (below-true end (p + 4) (omega (arith, few, ends)))

  text-there : 4 ≤ room → text_at p end here ≡ after (little_number p here) by_length
  unfolding by_length
  text-there four = text-length p end here (omega (arith, four, ends))

  text-past : (size rest : List ℕ) → here ≡ size ++ rest → length size ≡ 4 → 4 ≤ room → room < 4 + little_endian size → text_at p end here ≡ Err (BadComment p)
  unfolding by_length
  text-past size rest spelled four room far =
      let bad : Step (List ℕ) = Err (BadComment p) in
      text-there room
      ∙ after-ok by_length (ap (little_number p) spelled ∙ little-front p size rest four)
      ∙ taken-then (nat_lt end (p + 4 + little_endian size)) bad (taken (p + 4) (little_endian size) rest) (below-true end (p + 4 + little_endian size) (omega (arith, far, ends)))

  text-cut-length : 4 ≤ room → length here < 4 → text_at p end here ≡ Err (Truncated (p + length here))
  text-cut-length room short = text-there room ∙ err-after by_length (little-short p here short)

  text-cut : (size text : List ℕ) → here ≡ size ++ text → length size ≡ 4 → 4 + little_endian size ≤ room → length text < little_endian size → text_at p end here ≡ Err (Truncated (p + length here))
  unfolding by_length
  text-cut size text spelled four fit short =
      let all : length here ≡ 4 + length text = ap length spelled ∙ length-append size text ∙ ap (λ k. k + length text) four in
      let place : p + 4 + length text ≡ p + length here = omega (arith, all) in
      text-there (omega (arith, fit))
      ∙ after-ok by_length (ap (little_number p) spelled ∙ little-front p size text four)
      ∙ text-fits p end text (little_endian size) (omega (arith, fit, ends))
      ∙ taken-short (p + 4) (little_endian size) text short
      ∙ ap (λ n. Err (Truncated n)) place

  text-read : (f : Field) (rest : List ℕ) → here ≡ field_bytes f ++ rest → IsField f → length (field_bytes f) ≤ room → text_at p end here ≡ Ok (f.text, rest)
  text-read f rest spelled is fit =
      let bytes : length (field_bytes f) ≡ 4 + length f.text = length-append f.size f.text ∙ ap (λ k. k + length f.text) is.size_bytes in
      ap (text_at p end) (spelled ∙ append_assoc f.size f.text rest) ∙ text-front p end f rest is (omega (arith, bytes, fit, ends))

-- the reading of what comes next
pub reads : Next → ℕ → ℕ → List ℕ → Step (List Comment)
reads Vendor p end here = comment_block p end here
reads Count p end here = counted_comments p end here
reads (Comments more) p end here = comments_from more p end here

module _ (p end room : ℕ) (ends : p + room ≡ end) (here : List ℕ) where
  vendor-stops : (e : FlacError) → text_at p end here ≡ Err e → comment_block p end here ≡ Err e
  unfolding comment_block
  vendor-stops e h = err-after (λ vendor rest. behind_vendor p end vendor rest) h

  vendor-bad : (f : Field) (rest : List ℕ) → text_at p end here ≡ Ok (f.text, rest) → is_utf8 f.text ≡ false → comment_block p end here ≡ Err (BadComment p)
  unfolding comment_block
  vendor-bad f rest read bad = after-ok (λ vendor rest. behind_vendor p end vendor rest) read ∙ vendor-refused p end rest f.text bad

  comment-stops : (more : ℕ) (e : FlacError) → text_at p end here ≡ Err e → comments_from (suc more) p end here ≡ Err e
  comment-stops more e h = err-after (λ text rest. in_form p (comment_of text) (λ comment. after (comments_from more (p + 4 + length text) end rest) (λ others rest. Ok (comment ∷ others, rest)))) h

  comment-bad : (more : ℕ) (f : Field) (rest : List ℕ) → text_at p end here ≡ Ok (f.text, rest) → comment_of f.text ≡ None → comments_from (suc more) p end here ≡ Err (BadComment p)
  comment-bad more f rest read bad =
      after-ok (λ text rest. in_form p (comment_of text) (λ comment. after (comments_from more (p + 4 + length text) end rest) (λ others rest. Ok (comment ∷ others, rest)))) read
      ∙ ap (λ value. in_form p value (λ comment. after (comments_from more (p + 4 + length f.text) end rest) (λ others rest. Ok (comment ∷ others, rest)))) bad

  next-bad : (next : Next) → IsBad next room here → reads next p end here ≡ Err (BadComment p)
  unfolding reads comment_block
  next-bad Vendor (inl few) = vendor-stops (BadComment p) (text-none p end room ends here few.1)
  next-bad Vendor (inr (inl (is, (size, rest, spelled, four, there, far)))) = vendor-stops (BadComment p) (text-past p end room ends here size rest spelled four there far)
  next-bad Vendor (inr (inr (f, rest, spelled, is, fit, bad))) = vendor-bad f rest (text-read p end room ends here f rest spelled is fit) bad
  next-bad Count (inl few) = counted-no_count p end here (omega (arith, few.1, ends))
  next-bad Count (inr (inl (is, more))) = absurd is
  next-bad Count (inr (inr (f, rest, spelled, is, fit, bad))) = absurd bad
  next-bad (Comments zero) (inl few) = absurd few.0
  next-bad (Comments zero) (inr (inl (is, more))) = absurd is
  next-bad (Comments zero) (inr (inr (f, rest, spelled, is, fit, bad))) = absurd bad
  next-bad (Comments (suc more)) (inl few) = comment-stops more (BadComment p) (text-none p end room ends here few.1)
  next-bad (Comments (suc more)) (inr (inl (is, (size, rest, spelled, four, there, far)))) = comment-stops more (BadComment p) (text-past p end room ends here size rest spelled four there far)
  next-bad (Comments (suc more)) (inr (inr (f, rest, spelled, is, fit, bad))) = comment-bad more f rest (text-read p end room ends here f rest spelled is fit) bad

  next-cut : (next : Next) → IsCutWithin next room here → reads next p end here ≡ Err (Truncated (p + length here))
  unfolding reads comment_block
  next-cut Vendor (inl (is, there, short)) = vendor-stops (Truncated (p + length here)) (text-cut-length p end room ends here there short)
  next-cut Vendor (inr (inl (is, (size, text, spelled, four, fit, short)))) = vendor-stops (Truncated (p + length here)) (text-cut p end room ends here size text spelled four fit short)
  next-cut Vendor (inr (inr (same, short))) = absurd (cc)
  next-cut Count (inl (is, there, short)) =
      counted-count p end here (omega (arith, there, ends)) ∙ err-after (λ count rest. comments_from count (p + 4) end rest) (little-short p here short)
  next-cut Count (inr (inl (is, more))) = absurd is
  next-cut Count (inr (inr (same, short))) = absurd (cc)
  next-cut (Comments zero) (inl (is, there, short)) = absurd is
  next-cut (Comments zero) (inr (inl (is, more))) = absurd is
  next-cut (Comments zero) (inr (inr (same, short))) = err-after (λ over rest. Ok ([], rest)) (taken-short p (end - p) here (omega (arith, short, ends)))
  next-cut (Comments (suc more)) (inl (is, there, short)) = comment-stops more (Truncated (p + length here)) (text-cut-length p end room ends here there short)
  next-cut (Comments (suc more)) (inr (inl (is, (size, text, spelled, four, fit, short)))) = comment-stops more (Truncated (p + length here)) (text-cut p end room ends here size text spelled four fit short)
  next-cut (Comments (suc more)) (inr (inr (same, short))) = absurd (cc)

-- a text in its form is a comment
some-form : (value : Option Comment) → (value ≡ None → ⊥) → (c : Comment) × (value ≡ Some c)
some-form (Some c) not = (c, refl)
some-form None not = absurd (not refl)

-- the reading comes behind comments in their form
fields-read : (fields : List Field) (more p end : ℕ) (here : List ℕ) (e : FlacError) → EachIsField fields → AreComments fields → p + length (flat_map field_bytes fields) ≤ end
    → comments_from more (p + length (flat_map field_bytes fields)) end here ≡ Err e → comments_from (length fields + more) p end (flat_map field_bytes fields ++ here) ≡ Err e
fields-read [] more p end here e each are inside h =
    let same : p + length {A = ℕ} [] ≡ p = omega arith in
    let none : length {A = Field} [] + more ≡ more = omega arith in
    ap (λ k. comments_from k p end here) none ∙ subst (λ q. comments_from more q end here ≡ Err e) same h
fields-read (f ∷ fields) more p end here e each are inside h =
    let flat = flat_map field_bytes fields in
    let q = p + 4 + length f.text in
    let bytes : length (field_bytes f) ≡ 4 + length f.text = length-append f.size f.text ∙ ap (λ k. k + length f.text) each.0.size_bytes in
    let both : length (field_bytes f ++ flat) ≡ 4 + length f.text + length flat = length-append (field_bytes f) flat ∙ ap (λ k. k + length flat) bytes in
    let place : p + length (field_bytes f ++ flat) ≡ q + length flat = omega (arith, both) in
    let formed = some-form (comment_of f.text) are.0 in
    let next : List ℕ → List ℕ → Step (List Comment) = λ text rest. in_form p (comment_of text) (λ comment. after (comments_from (length fields + more) (p + 4 + length text) end rest) (λ others rest. Ok (comment ∷ others, rest))) in
    let keep : List Comment → List ℕ → Step (List Comment) = λ others rest. Ok (formed.0 ∷ others, rest) in
    let spelled : (field_bytes f ++ flat) ++ here ≡ f.size ++ (f.text ++ (flat ++ here)) = append_assoc (field_bytes f) flat here ∙ append_assoc f.size f.text (flat ++ here) in
    let counted : length (f ∷ fields) + more ≡ suc (length fields + more) = omega arith in
    ap (λ k. comments_from k p end ((field_bytes f ++ flat) ++ here)) counted
    ∙ ap (λ left. after (text_at p end left) next) spelled
    ∙ after-ok next (text-front p end f (flat ++ here) each.0 (omega (arith, inside, both)))
    ∙ ap (λ value. in_form p value (λ comment. after (comments_from (length fields + more) q end (flat ++ here)) (λ others rest. Ok (comment ∷ others, rest)))) formed.1
    ∙ err-after keep (fields-read fields more q end here e each.1 are.1 (omega (arith, inside, both)) (subst (λ r. comments_from more r end here ≡ Err e) place h))

-- the reading comes behind what is in its form
vendor-read : (at end : ℕ) (vendor : Field) (here : List ℕ) (e : FlacError) → IsVendor vendor → at + length (field_bytes vendor) ≤ end
    → counted_comments (at + length (field_bytes vendor)) end here ≡ Err e → comment_block at end (field_bytes vendor ++ here) ≡ Err e
unfolding comment_block
vendor-read at end vendor here e is inside h =
    let bytes : length (field_bytes vendor) ≡ 4 + length vendor.text = length-append vendor.size vendor.text ∙ ap (λ k. k + length vendor.text) is.0.size_bytes in
    let place : at + length (field_bytes vendor) ≡ at + 4 + length vendor.text = omega (arith, bytes) in
    let next : List ℕ → List ℕ → Step (List Comment) = λ vendor rest. behind_vendor at end vendor rest in
    ap (λ left. after (text_at at end left) next) (append_assoc vendor.size vendor.text here)
    ∙ after-ok next (text-front at end vendor here is.0 (omega (arith, inside, bytes)))
    ∙ vendor-passed at end here vendor.text is.1
    ∙ subst (λ q. counted_comments q end here ≡ Err e) place h

count-read : (p end : ℕ) (count here : List ℕ) (e : FlacError) → length count ≡ 4 → p + 4 ≤ end → comments_from (little_endian count) (p + 4) end here ≡ Err e → counted_comments p end (count ++ here) ≡ Err e
count-read p end count here e four inside h =
    counted-count p end (count ++ here) inside ∙ after-ok (λ count rest. comments_from count (p + 4) end rest) (little-front p count here four) ∙ h

some-read : (at end : ℕ) (before here : List ℕ) (more : ℕ) (e : FlacError) → AreSome before more → at + length before ≤ end → comments_from more (at + length before) end here ≡ Err e → comment_block at end (before ++ here) ≡ Err e
some-read at end before here more e some inside h =
    let v = field_bytes some.vendor in
    let flat = flat_map field_bytes some.fields in
    let tail = some.count ++ (flat ++ here) in
    let long : length before ≡ length v + 4 + length flat = omega (arith, ap length some.spelled ∙ length-append v (some.count ++ flat), length-append some.count flat, some.count_bytes) in
    let spelled : before ++ here ≡ v ++ tail = ap (λ xs. xs ++ here) some.spelled ∙ append_assoc v (some.count ++ flat) here ∙ ap (λ xs. v ++ xs) (append_assoc some.count flat here) in
    let place : at + length before ≡ at + length v + 4 + length flat = omega (arith, long) in
    let listed = fields-read some.fields more (at + length v + 4) end here e some.each_is_field some.each_in_form (omega (arith, inside, long)) (subst (λ q. comments_from more q end here ≡ Err e) place h) in
    let counted = count-read (at + length v) end some.count (flat ++ here) e some.count_bytes (omega (arith, inside, long)) (subst (λ n. comments_from n (at + length v + 4) end (flat ++ here) ≡ Err e) (sym some.count_says) listed) in
    ap (comment_block at end) spelled ∙ vendor-read at end some.vendor tail e some.is_vendor (omega (arith, inside, long)) counted

next-read : (at end : ℕ) (before here : List ℕ) (next : Next) (e : FlacError) → ComesNext before next → at + length before ≤ end → reads next (at + length before) end here ≡ Err e → comment_block at end (before ++ here) ≡ Err e
unfolding comment_block reads
next-read at end before here Vendor e none inside h =
    let place : at + length {A = ℕ} [] ≡ at = omega arith in
    let first : reads Vendor (at + length {A = ℕ} []) end here ≡ Err e = subst (λ xs. reads Vendor (at + length xs) end here ≡ Err e) none h in
    ap (λ xs. comment_block at end (xs ++ here)) none ∙ subst (λ q. comment_block q end here ≡ Err e) place first
next-read at end before here Count e (vendor, spelled, is) inside h =
    ap (λ xs. comment_block at end (xs ++ here)) spelled
    ∙ vendor-read at end vendor here e is (subst (λ xs. at + length xs ≤ end) spelled inside) (subst (λ xs. counted_comments (at + length xs) end here ≡ Err e) spelled h)
next-read at end before here (Comments more) e some inside h = some-read at end before here more e some inside h

-- a block of comments with a fault is refused there, and one that is cut where the file ends
pub comments-bad : (at n : ℕ) (before here : List ℕ) → AreBadComments n before here → comment_block at (at + n) (before ++ here) ≡ Err (BadComment (at + length before))
comments-bad at n before here (next, room, comes, long, bad) =
    let p = at + length before in
    let ends : p + room ≡ at + n = omega (arith, long) in
    next-read at (at + n) before here next (BadComment p) comes (omega (arith, ends)) (next-bad p (at + n) room ends here next bad)

pub comments-cut : (at n : ℕ) (left : List ℕ) → AreCutComments n left → comment_block at (at + n) left ≡ Err (Truncated (at + length left))
comments-cut at n left (before, here, next, room, spelled, comes, long, cut) =
    let p = at + length before in
    let ends : p + room ≡ at + n = omega (arith, long) in
    let all : length left ≡ length before + length here = ap length spelled ∙ length-append before here in
    let place : p + length here ≡ at + length left = omega (arith, all) in
    ap (comment_block at (at + n)) spelled
    ∙ next-read at (at + n) before here next (Truncated (p + length here)) comes (omega (arith, ends)) (next-cut p (at + n) room ends here next cut)
    ∙ ap (λ m. Err (Truncated m)) place
