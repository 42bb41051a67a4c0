-- Texts behind their lengths, and lists of comments: the reading and the form say the same.
use Rattle.std.proofs.Common.{◌≡◌, ℕ, zero, suc, ◌+◌, ◌-◌, ◌≤◌, nat_lt, List, [], ◌∷◌, ◌++◌, length, map, Option, Some, None, Ok, refl, sym, ap, subst, ◌∙◌, arith, append_assoc, length-append}
use Rattle.std.specs.List.{flat_map}
use Rattle.cds_flac.specs.declared.error.FlacError.TheVariants.{BadComment}
use Rattle.cds_object.specs.declared.info.Comment.{Comment}
use Rattle.cds_flac.specs.Numbers.{little_endian}
use Rattle.cds_flac.specs.Comment.{comment_of}
use Rattle.cds_flac.specs.Step.{Step, after, taken, little_number}
use Rattle.cds_flac.specs.Reading.{comments_from, text_at, text_of_length, in_form}
use Rattle.cds_flac.specs.Form.{Field, field_bytes, IsField, EachIsField}
use Rattle.cds_flac.proofs.Steps.{after-ok}
use Rattle.cds_flac.proofs.Texts.{text-fits, text-length}
use Rattle.cds_flac.proofs.Shapes.{after-was, else-was, within-was, taken-was, taken-front, little-was, little-front, same_pair}

-- a text that was read stands behind its length, in the block
pub record TextRead (at end : ℕ) (left text rest : List ℕ) : Type 0 where
  pub size : List ℕ
  pub spelled : left ≡ size ++ (text ++ rest)
  pub size_bytes : length size ≡ 4
  pub size_says : little_endian size ≡ length text
  pub inside : at + 4 + length text ≤ end

pub text-was : (at end : ℕ) (left : List ℕ) (found : List ℕ × List ℕ) → text_at at end left ≡ Ok found → TextRead at end left found.0 found.1
unfolding text_at
text-was at end left found e =
    let next : ℕ → List ℕ → Step (List ℕ) = λ n rest. text_of_length at end n rest in
    let room = else-was (nat_lt end (at + 4)) (BadComment at) (after (little_number at left) next) found e in
    let was = after-was (little_number at left) next found room.1 in
    let n = was.0.0 in
    let rest = was.0.1 in
    let size = little-was at left was.0 was.1 in
    let taking : Step (List ℕ) = taken (at + 4) n rest in
    let fits = else-was (nat_lt end (at + 4 + n)) (BadComment at) taking found was.2 in
    let bytes = taken-was (at + 4) n rest found fits.1 in
    record {
      size = size.0;
      spelled = size.1 ∙ ap (λ xs. size.0 ++ xs) bytes.0;
      size_bytes = size.2;
      size_says = size.3 ∙ sym bytes.1;
      inside = subst (λ m. at + 4 + m ≤ end) (sym bytes.1) (within-was end (at + 4 + n) fits.0);
    }

pub text-front : (at end : ℕ) (f : Field) (rest : List ℕ) → IsField f → at + 4 + length f.text ≤ end → text_at at end (f.size ++ (f.text ++ rest)) ≡ Ok (f.text, rest)
text-front at end f rest is inside =
    let next : ℕ → List ℕ → Step (List ℕ) = λ n rest. text_of_length at end n rest in
    text-length at end (f.size ++ (f.text ++ rest)) (omega arith)
    ∙ after-ok next (little-front at f.size (f.text ++ rest) is.size_bytes)
    ∙ ap (λ n. text_of_length at end n (f.text ++ rest)) is.size_says
    ∙ text-fits at end (f.text ++ rest) (length f.text) inside
    ∙ taken-front (at + 4) (length f.text) f.text rest refl

-- so many comments that were read, with what is left over
pub record CommentsRead (count at end : ℕ) (left : List ℕ) (comments : List Comment) (rest : List ℕ) : Type 0 where
  pub fields : List Field
  pub over : List ℕ
  pub spelled : left ≡ flat_map field_bytes fields ++ (over ++ rest)
  pub counted : count ≡ length fields
  pub each_is_field : EachIsField fields
  pub each_in_form : map (λ f. comment_of f.text) fields ≡ map Some comments
  pub ends : at + length (flat_map field_bytes fields ++ over) ≡ end

form-was : {A : Type 0} (at : ℕ) (value : Option A) (next : A → Step (List Comment)) (result : List Comment × List ℕ) → in_form at value next ≡ Ok result → (x : A) × (value ≡ Some x) × (next x ≡ Ok result)
form-was at (Some x) next result e = (x, refl, e)
form-was at None next result e = absurd (cc)

joined : (size text flat tail rest left : List ℕ) → left ≡ size ++ (text ++ rest) → rest ≡ flat ++ tail → left ≡ ((size ++ text) ++ flat) ++ tail
joined size text flat tail rest left e f =
    e ∙ ap (λ xs. size ++ (text ++ xs)) f ∙ sym (append_assoc size text (flat ++ tail)) ∙ sym (append_assoc (size ++ text) flat tail)

length_of_four : (size text flat over : List ℕ) → length size ≡ 4 → length (((size ++ text) ++ flat) ++ over) ≡ 4 + length text + length (flat ++ over)
length_of_four size text flat over h =
    omega (arith, h, length-append ((size ++ text) ++ flat) over, length-append (size ++ text) flat, length-append size text, length-append flat over)

pub comments-were : (count at end : ℕ) (left : List ℕ) (found : List Comment × List ℕ) → at ≤ end → comments_from count at end left ≡ Ok found → CommentsRead count at end left found.0 found.1
comments-were zero at end left found inside e =
    let was = after-was (taken at (end - at) left) (λ over rest. Ok ([], rest)) found e in
    let bytes = taken-was at (end - at) left was.0 was.1 in
    let none : List Comment × List ℕ = ([], was.0.1) in
    let parts = same_pair none found was.2 in
    record {
      fields = [];
      over = was.0.0;
      spelled = bytes.0 ∙ ap (λ xs. was.0.0 ++ xs) parts.1;
      counted = refl;
      each_is_field = tt;
      each_in_form = ap (map Some) parts.0;
      ends = omega (arith, bytes.1, inside);
    }
comments-were (suc more) at end left found inside e =
    let was = after-was (text_at at end left) (λ text rest. in_form at (comment_of text) (λ comment. after (comments_from more (at + 4 + length text) end rest) (λ others rest. Ok (comment ∷ others, rest)))) found e in
    let text = was.0.0 in
    let rest = was.0.1 in
    let read = text-was at end left was.0 was.1 in
    let formed = form-was at (comment_of text) (λ comment. after (comments_from more (at + 4 + length text) end rest) (λ others rest. Ok (comment ∷ others, rest))) found was.2 in
    let others = after-was (comments_from more (at + 4 + length text) end rest) (λ others rest. Ok (formed.0 ∷ others, rest)) found formed.2 in
    let behind = comments-were more (at + 4 + length text) end rest others.0 read.inside others.1 in
    let made : List Comment × List ℕ = (formed.0 ∷ others.0.0, others.0.1) in
    let parts = same_pair made found others.2 in
    record {
      fields = record { size = read.size; text = text } ∷ behind.fields;
      over = behind.over;
      spelled = joined read.size text (flat_map field_bytes behind.fields) (behind.over ++ found.1) rest left read.spelled (behind.spelled ∙ ap (λ xs. flat_map field_bytes behind.fields ++ (behind.over ++ xs)) parts.1);
      counted = ap suc behind.counted;
      each_is_field = (record { size_bytes = read.size_bytes; size_says = read.size_says }, behind.each_is_field);
      each_in_form = ap (λ c. c ∷ map (λ f. comment_of f.text) behind.fields) formed.1 ∙ ap (λ cs. Some formed.0 ∷ cs) behind.each_in_form ∙ ap (map Some) parts.0;
      ends = omega (arith, behind.ends, length_of_four read.size text (flat_map field_bytes behind.fields) behind.over read.size_bytes);
    }

none_in_form : (comments : List Comment) → ◌≡◌ {A = List (Option Comment)} [] (map Some comments) → comments ≡ []
none_in_form [] e = refl
none_in_form (c ∷ comments) e = absurd (cc)

first_in_form : (value : Option Comment) (values : List (Option Comment)) (comments : List Comment) → value ∷ values ≡ map Some comments → (c : Comment) × (cs : List Comment) × (comments ≡ c ∷ cs) × (value ≡ Some c) × (values ≡ map Some cs)
first_in_form value values [] e = absurd (cc)
first_in_form value values (c ∷ cs) e = (c, cs, refl, cc, cc)

pub comments-front : (fields : List Field) (at end : ℕ) (over rest : List ℕ) (comments : List Comment) → EachIsField fields → map (λ f. comment_of f.text) fields ≡ map Some comments → at + length (flat_map field_bytes fields ++ over) ≡ end → comments_from (length fields) at end (flat_map field_bytes fields ++ (over ++ rest)) ≡ Ok (comments, rest)
comments-front [] at end over rest comments each forms ends =
    after-ok (λ over rest. Ok ([], rest)) (taken-front at (end - at) over rest (omega (arith, ends)))
    ∙ ap (λ cs. Ok (cs, rest)) (sym (none_in_form comments forms))
comments-front (f ∷ fields) at end over rest comments each forms ends =
    let more = length fields in
    let flat = flat_map field_bytes fields in
    let formed = first_in_form (comment_of f.text) (map (λ f. comment_of f.text) fields) comments forms in
    let behind : at + 4 + length f.text + length (flat ++ over) ≡ end = omega (arith, ends, length_of_four f.size f.text flat over each.0.size_bytes) in
    let fits : at + 4 + length f.text ≤ end = omega (arith, behind) in
    let spelled : (field_bytes f ++ flat) ++ (over ++ rest) ≡ f.size ++ (f.text ++ (flat ++ (over ++ rest))) =
    append_assoc (field_bytes f) flat (over ++ rest) ∙ append_assoc f.size f.text (flat ++ (over ++ rest)) in
    let next : List ℕ → List ℕ → Step (List Comment) = λ text rest. in_form at (comment_of text) (λ comment. after (comments_from more (at + 4 + length text) end rest) (λ others rest. Ok (comment ∷ others, rest))) in
    let others : List Comment → List ℕ → Step (List Comment) = λ others rest. Ok (formed.0 ∷ others, rest) in
    ap (λ left. after (text_at at end left) next) spelled
    ∙ after-ok next (text-front at end f (flat ++ (over ++ rest)) each.0 fits)
    ∙ ap (λ value. in_form at value (λ comment. after (comments_from more (at + 4 + length f.text) end (flat ++ (over ++ rest))) (λ others rest. Ok (comment ∷ others, rest)))) formed.3
    ∙ after-ok others (comments-front fields (at + 4 + length f.text) end over rest formed.1 each.1 formed.4 behind)
    ∙ ap (λ cs. Ok (cs, rest)) (sym formed.2)
