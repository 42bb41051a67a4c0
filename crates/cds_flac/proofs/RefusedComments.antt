-- Blocks of comments that were refused: the form says why.
use Rattle.std.proofs.Common.{◌≡◌, ℕ, zero, suc, ◌+◌, ◌-◌, ◌<◌, ◌≤◌, nat_lt, true, false, List, [], ◌∷◌, ◌++◌, length, Option, Some, None, Ok, Err, refl, sym, ap, subst, ◌∙◌, ◌⊎◌, inl, inr, arith, append_assoc, length-append}
use Rattle.std.proofs.lemmas.List.{append-nil}
use Rattle.std.proofs.lemmas.Grind.{flat_map-append}
use Rattle.std.specs.List.{flat_map}
use Rattle.std.specs.Str.{is_utf8}
use Rattle.cds_flac.specs.declared.error.FlacError.{FlacError}
use Rattle.cds_flac.specs.declared.error.FlacError.TheVariants.{Truncated, BadComment}
use Rattle.cds_object.specs.declared.info.Comment.{Comment}
use Rattle.cds_flac.specs.Numbers.{little_endian}
use Rattle.cds_flac.specs.Comment.{comment_of}
use Rattle.cds_flac.specs.Step.{Step, after, taken, little_number}
use Rattle.cds_flac.specs.Reading.{behind_vendor, comment_block, comments_from, counted_comments, text_at, text_of_length, in_form}
use Rattle.cds_flac.specs.Form.{Field, field_bytes, IsField, EachIsField}
use Rattle.cds_flac.specs.Refused.{Next, Vendor, Count, Comments, AreComments, AreSome, ComesNext, IsNumberNext, IsLengthNext, IsBad, IsCutWithin, AreBadComments, AreCutComments}
use Rattle.cds_flac.proofs.Shapes.{little-was, within-was}
use Rattle.cds_flac.proofs.FieldForm.{TextRead, text-was}
use Rattle.cds_flac.proofs.Refusals.{ok-refused, same_refusal, after-refused, choice-refused, below-was, taken-refused, little-refused}

-- what stands next in a block that begins at a place was refused
abbrev pub Stopped : ℕ → List ℕ → Next → ℕ → List ℕ → FlacError → Type 0
Stopped at before next room here e =
    ((e ≡ BadComment (at + length before)) × IsBad next room here)
    ⊎ ((e ≡ Truncated (at + length before + length here)) × IsCutWithin next room here)

-- a block of comments was refused
abbrev pub RefusesComments : ℕ → ℕ → List ℕ → FlacError → Type 0
RefusesComments at n left e =
    ((before : List ℕ) × (here : List ℕ) × (left ≡ before ++ here) × (e ≡ BadComment (at + length before)) × AreBadComments n before here)
    ⊎ ((e ≡ Truncated (at + length left)) × AreCutComments n left)

number-next : (next : Next) → IsLengthNext next → IsNumberNext next
number-next Vendor is = tt
number-next Count is = tt
number-next (Comments zero) is = absurd is
number-next (Comments (suc more)) is = tt

-- what stopped next stopped the block
pub stopped : (at n : ℕ) (left before here : List ℕ) (next : Next) (room : ℕ) (e : FlacError)
    → left ≡ before ++ here → ComesNext before next → n ≡ length before + room → Stopped at before next room here e → RefusesComments at n left e
stopped at n left before here next room e spelled comes long (inl bad) =
    inl (before, here, spelled, bad.0, (next, room, comes, long, bad.1))
stopped at n left before here next room e spelled comes long (inr cut) =
    let all : length left ≡ length before + length here = ap length spelled ∙ length-append before here in
    let place : at + length before + length here ≡ at + length left = omega (arith, all) in
    inr (cut.0 ∙ ap Truncated place, (before, here, next, room, spelled, comes, long, cut.1))

-- a text that stands next was refused
text-stopped : (at n : ℕ) (before here : List ℕ) (next : Next) (room : ℕ) (e : FlacError)
    → IsLengthNext next → n ≡ length before + room → text_at (at + length before) (at + n) here ≡ Err e → Stopped at before next room here e
unfolding text_at
text-stopped at n before here next room e is long h =
    let p = at + length before in
    let end = at + n in
    let then_text : ℕ → List ℕ → Step (List ℕ) = λ m rest. text_of_length p end m rest in
    let bad : Step (List ℕ) = Err (BadComment p) in
    elim (choice-refused (nat_lt end (p + 4)) bad (after (little_number p here) then_text) e h) [
      | inl none ↦ (let few : room < 4 = omega (arith, below-was end (p + 4) none.0, long) in inl (sym (same_refusal {A = List ℕ} (BadComment p) e none.1), inl (number-next next is, few)))
      | inr fits ↦ (
          let four : 4 ≤ room = omega (arith, within-was end (p + 4) fits.0, long) in
          elim (after-refused (little_number p here) then_text e fits.1) [
            | inl cut ↦ (let was = little-refused p here e cut in inr (was.0, inl (number-next next is, four, was.1)))
            | inr found ↦ behind-length found.0 four found.1 found.2
          ]
          )
    ]
  where
    behind-length : (found : ℕ × List ℕ) → 4 ≤ room → little_number (at + length before) here ≡ Ok found → text_of_length (at + length before) (at + n) found.0 found.1 ≡ Err e → Stopped at before next room here e
    behind-length found four number text =
        let p = at + length before in
        let end = at + n in
        let m = found.0 in
        let rest = found.1 in
        let size = little-was p here found number in
        let bad : Step (List ℕ) = Err (BadComment p) in
        let all : length here ≡ 4 + length rest = ap length size.1 ∙ length-append size.0 rest ∙ ap (λ k. k + length rest) size.2 in
        elim (choice-refused (nat_lt end (p + 4 + m)) bad (taken (p + 4) m rest) e text) [
          | inl past ↦ (
              let far : room < 4 + little_endian size.0 = omega (arith, below-was end (p + 4 + m) past.0, long, size.3) in
              inl (sym (same_refusal {A = List ℕ} (BadComment p) e past.1), inr (inl (is, (size.0, rest, size.1, size.2, four, far))))
              )
          | inr inside ↦ (
              let was = taken-refused (p + 4) m rest e inside.1 in
              let fit : 4 + little_endian size.0 ≤ room = omega (arith, within-was end (p + 4 + m) inside.0, long, size.3) in
              let short : length rest < little_endian size.0 = omega (arith, was.1, size.3) in
              let place : p + 4 + length rest ≡ p + length here = omega (arith, all) in
              inr (was.0 ∙ ap Truncated place, inr (inl (is, (size.0, rest, size.1, size.2, fit, short))))
              )
        ]

-- the field that a text was read from
field_read : {at end : ℕ} {left text rest : List ℕ} → TextRead at end left text rest → Field
field_read {text = text} read = record { size = read.size; text = text }

-- a text that was read stands as a field, and the block goes on behind it
record FieldRead (at n : ℕ) (before here : List ℕ) (room : ℕ) (text rest : List ℕ) : Type 0 where
  field : Field
  is_field : IsField field
  same : field.text ≡ text
  spelled : here ≡ field_bytes field ++ rest
  behind : ℕ
  long : n ≡ length (before ++ field_bytes field) + behind
  within : length (field_bytes field) ≤ room
  place : at + length before + 4 + length text ≡ at + length (before ++ field_bytes field)

field-was : (at n : ℕ) (before here : List ℕ) (room : ℕ) (found : List ℕ × List ℕ) → n ≡ length before + room → text_at (at + length before) (at + n) here ≡ Ok found → FieldRead at n before here room found.0 found.1
field-was at n before here room found long e =
    let read = text-was (at + length before) (at + n) here found e in
    let f : Field = record { size = read.size; text = found.0 } in
    let bytes : length (field_bytes f) ≡ 4 + length found.0 = length-append read.size found.0 ∙ ap (λ k. k + length found.0) read.size_bytes in
    let both : length (before ++ field_bytes f) ≡ length before + length (field_bytes f) = length-append before (field_bytes f) in
    record {
      field = f;
      is_field = record { size_bytes = read.size_bytes; size_says = read.size_says };
      same = refl;
      spelled = read.spelled ∙ sym (append_assoc read.size found.0 found.1);
      behind = room - length (field_bytes f);
      long = omega (arith, read.inside, bytes, both, long);
      within = omega (arith, read.inside, bytes, long);
      place = omega (arith, bytes, both);
    }

each-more : (fields : List Field) (f : Field) → EachIsField fields → IsField f → EachIsField (fields ++ f ∷ [])
each-more [] f each is = (is, tt)
each-more (g ∷ fields) f each is = (each.0, each-more fields f each.1 is)

comments-more : (fields : List Field) (f : Field) → AreComments fields → (comment_of f.text ≡ None → ⊥) → AreComments (fields ++ f ∷ [])
comments-more [] f are is = (is, tt)
comments-more (g ∷ fields) f are is = (are.0, comments-more fields f are.1 is)

-- one comment more
some-more : (before : List ℕ) (more : ℕ) (f : Field) → AreSome before (suc more) → IsField f → (comment_of f.text ≡ None → ⊥) → AreSome (before ++ field_bytes f) more
some-more before more f some is form =
    let fields = some.fields ++ f ∷ [] in
    let flat : flat_map field_bytes fields ≡ flat_map field_bytes some.fields ++ field_bytes f =
    flat_map-append field_bytes some.fields (f ∷ []) ∙ ap (λ xs. flat_map field_bytes some.fields ++ xs) (append-nil (field_bytes f)) in
    let v = field_bytes some.vendor in
    let old = flat_map field_bytes some.fields in
    let counted : length fields ≡ length some.fields + 1 = length-append some.fields (f ∷ []) in
    record {
      vendor = some.vendor;
      count = some.count;
      fields = fields;
      spelled = ap (λ xs. xs ++ field_bytes f) some.spelled ∙ append_assoc v (some.count ++ old) (field_bytes f) ∙ ap (λ xs. v ++ xs) (append_assoc some.count old (field_bytes f) ∙ ap (λ xs. some.count ++ xs) (sym flat));
      is_vendor = some.is_vendor;
      count_bytes = some.count_bytes;
      count_says = omega (arith, some.count_says, counted);
      each_is_field = each-more some.fields f some.each_is_field is;
      each_in_form = comments-more some.fields f some.each_in_form form;
    }

form-refused : {A : Type 0} (at : ℕ) (value : Option A) (next : A → Step (List Comment)) (e : FlacError) → in_form at value next ≡ Err e → ((value ≡ None) × (e ≡ BadComment at)) ⊎ ((x : A) × (value ≡ Some x) × (next x ≡ Err e))
form-refused at (Some x) next e h = inr (x, refl, h)
form-refused at None next e h = inl (refl, sym (same_refusal {A = List Comment} (BadComment at) e h))

some-none : (value : Option Comment) (x : Comment) → value ≡ Some x → value ≡ None → ⊥
some-none value x e f = cc

spelled-behind : (left before here field rest : List ℕ) → left ≡ before ++ here → here ≡ field ++ rest → left ≡ (before ++ field) ++ rest
spelled-behind left before here field rest a b = a ∙ ap (λ xs. before ++ xs) b ∙ sym (append_assoc before field rest)

-- the comments that are still to come were refused
comments-stopped : (more at n : ℕ) (left before here : List ℕ) (room : ℕ) (e : FlacError)
    → left ≡ before ++ here → AreSome before more → n ≡ length before + room → comments_from more (at + length before) (at + n) here ≡ Err e → RefusesComments at n left e
comments-stopped zero at n left before here room e spelled some long h =
    let p = at + length before in
    let ended : List ℕ → List ℕ → Step (List Comment) = λ over rest. Ok ([], rest) in
    elim (after-refused (taken p (at + n - p) here) ended e h) [
      | inl cut ↦ (
          let was = taken-refused p (at + n - p) here e cut in
          let short : length here < room = omega (arith, was.1, long) in
          stopped at n left before here (Comments zero) room e spelled some long (inr (was.0, inr (inr (refl, short))))
          )
      | inr found ↦ absurd (ok-refused ([], found.0.1) e found.2)
    ]
comments-stopped (suc more) at n left before here room e spelled some long h =
    let p = at + length before in
    let end = at + n in
    let next : List ℕ → List ℕ → Step (List Comment) = λ text rest. in_form p (comment_of text) (λ comment. after (comments_from more (p + 4 + length text) end rest) (λ others rest. Ok (comment ∷ others, rest))) in
    elim (after-refused (text_at p end here) next e h) [
      | inl text ↦ stopped at n left before here (Comments (suc more)) room e spelled some long (text-stopped at n before here (Comments (suc more)) room e tt long text)
      | inr found ↦ behind-text found.0 (field-was at n before here room found.0 long found.1) found.2
          (λ now. λ rest. λ room. λ spelled. λ some. λ long. λ later. comments-stopped more at n left now rest room e spelled some long later)
    ]
  where
    behind-text : (found : List ℕ × List ℕ) → FieldRead at n before here room found.0 found.1
        → in_form (at + length before) (comment_of found.0) (λ comment. after (comments_from more (at + length before + 4 + length found.0) (at + n) found.1) (λ others rest. Ok (comment ∷ others, rest))) ≡ Err e
        → ((now rest : List ℕ) (room : ℕ) → left ≡ now ++ rest → AreSome now more → n ≡ length now + room → comments_from more (at + length now) (at + n) rest ≡ Err e → RefusesComments at n left e)
        → RefusesComments at n left e
    behind-text found read text again =
        let p = at + length before in
        let f = read.field in
        let others : Step (List Comment) = comments_from more (p + 4 + length found.0) (at + n) found.1 in
        let behind : Comment → Step (List Comment) = λ comment. after others (λ others rest. Ok (comment ∷ others, rest)) in
        elim (form-refused p (comment_of found.0) behind e text) [
          | inl none ↦ (
              let bad : comment_of f.text ≡ None = ap comment_of read.same ∙ none.0 in
              stopped at n left before here (Comments (suc more)) room e spelled some long (inl (none.1, inr (inr (f, found.1, read.spelled, read.is_field, read.within, bad))))
              )
          | inr formed ↦ (
              let keep : List Comment → List ℕ → Step (List Comment) = λ others rest. Ok (formed.0 ∷ others, rest) in
              let good : comment_of f.text ≡ None → ⊥ = λ none. some-none (comment_of f.text) formed.0 (ap comment_of read.same ∙ formed.1) none in
              elim (after-refused others keep e formed.2) [
                | inl later ↦ (
                    again (before ++ field_bytes f) found.1 read.behind
                    (spelled-behind left before here (field_bytes f) found.1 spelled read.spelled)
                    (some-more before more f some read.is_field good) read.long
                    (subst (λ q. comments_from more q (at + n) found.1 ≡ Err e) read.place later)
                    )
                | inr kept ↦ absurd (ok-refused (formed.0 ∷ kept.0.0, kept.0.1) e kept.2)
              ]
              )
        ]

-- the count and what follows it were refused
count-stopped : (at n : ℕ) (left before here : List ℕ) (room : ℕ) (e : FlacError)
    → left ≡ before ++ here → ComesNext before Count → n ≡ length before + room → counted_comments (at + length before) (at + n) here ≡ Err e → RefusesComments at n left e
unfolding counted_comments
count-stopped at n left before here room e spelled vendor long h =
    let p = at + length before in
    let end = at + n in
    let next : ℕ → List ℕ → Step (List Comment) = λ count rest. comments_from count (p + 4) end rest in
    let bad : Step (List Comment) = Err (BadComment p) in
    elim (choice-refused (nat_lt end (p + 4)) bad (after (little_number p here) next) e h) [
      | inl none ↦ (
          let few : room < 4 = omega (arith, below-was end (p + 4) none.0, long) in
          stopped at n left before here Count room e spelled vendor long (inl (sym (same_refusal {A = List Comment} (BadComment p) e none.1), inl (tt, few)))
          )
      | inr fits ↦ (
          let four : 4 ≤ room = omega (arith, within-was end (p + 4) fits.0, long) in
          elim (after-refused (little_number p here) next e fits.1) [
            | inl cut ↦ (let was = little-refused p here e cut in stopped at n left before here Count room e spelled vendor long (inr (was.0, inl (tt, four, was.1))))
            | inr found ↦ behind-count found.0 four found.1 found.2
          ]
          )
    ]
  where
    behind-count : (found : ℕ × List ℕ) → 4 ≤ room → little_number (at + length before) here ≡ Ok found → comments_from found.0 (at + length before + 4) (at + n) found.1 ≡ Err e → RefusesComments at n left e
    behind-count found four number comments =
        let size = little-was (at + length before) here found number in
        let now = before ++ size.0 in
        let both : length now ≡ length before + 4 = length-append before size.0 ∙ ap (λ k. length before + k) size.2 in
        let place : at + length before + 4 ≡ at + length now = omega (arith, both) in
        let some : AreSome now found.0 = record {
          vendor = vendor.0;
          count = size.0;
          fields = [];
          spelled = ap (λ xs. xs ++ size.0) vendor.1 ∙ ap (λ xs. field_bytes vendor.0 ++ xs) (sym (append-nil size.0));
          is_vendor = vendor.2;
          count_bytes = size.2;
          count_says = omega (arith, size.3);
          each_is_field = tt;
          each_in_form = tt;
        } in
        comments-stopped found.0 at n left now found.1 (room - 4) e (spelled-behind left before here size.0 found.1 spelled size.1) some (omega (arith, both, long, four)) (subst (λ q. comments_from found.0 q (at + n) found.1 ≡ Err e) place comments)

-- a whole block of comments was refused
pub block-stopped : (at n : ℕ) (left : List ℕ) (e : FlacError) → comment_block at (at + n) left ≡ Err e → RefusesComments at n left e
unfolding comment_block
block-stopped at n left e h =
    let next : List ℕ → List ℕ → Step (List Comment) = λ vendor rest. behind_vendor at (at + n) vendor rest in
    let none : at + length {A = ℕ} [] ≡ at = omega arith in
    let all : n ≡ length {A = ℕ} [] + n = omega arith in
    elim (after-refused (text_at at (at + n) left) next e h) [
      | inl text ↦ stopped at n left [] left Vendor n e refl refl all (text-stopped at n [] left Vendor n e tt all (subst (λ q. text_at q (at + n) left ≡ Err e) (sym none) text))
      | inr found ↦ behind-vendor found.0 (field-was at n [] left n found.0 all (subst (λ q. text_at q (at + n) left ≡ Ok found.0) (sym none) found.1)) found.2
    ]
  where
    behind-vendor : (found : List ℕ × List ℕ) → FieldRead at n [] left n found.0 found.1 → behind_vendor at (at + n) found.0 found.1 ≡ Err e → RefusesComments at n left e
    behind-vendor found read vendor =
        let bad : Step (List Comment) = Err (BadComment at) in
        let f = read.field in
        let none : at ≡ at + length {A = ℕ} [] = omega arith in
        let all : n ≡ length {A = ℕ} [] + n = omega arith in
        elim (choice-refused (is_utf8 found.0) (counted_comments (at + 4 + length found.0) (at + n) found.1) bad e vendor) [
          | inl count ↦ (
              let place : at + 4 + length found.0 ≡ at + length (field_bytes f) = omega (arith, read.place) in
              let text : is_utf8 f.text ≡ true = ap is_utf8 read.same ∙ count.0 in
              count-stopped at n left (field_bytes f) found.1 read.behind e read.spelled (f, refl, (read.is_field, text)) read.long (subst (λ q. counted_comments q (at + n) found.1 ≡ Err e) place count.1)
              )
          | inr refused ↦ (
              let text : is_utf8 f.text ≡ false = ap is_utf8 read.same ∙ refused.0 in
              stopped at n left [] left Vendor n e refl refl all (inl (sym (same_refusal {A = List Comment} (BadComment at) e refused.1) ∙ ap BadComment none, inr (inr (f, found.1, read.spelled, read.is_field, read.within, text))))
              )
        ]
