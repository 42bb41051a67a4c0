-- The body of a block of comments: the reading and the form say the same.
use Rattle.std.proofs.Common.{◌≡◌, ℕ, ◌+◌, nat_lt, List, ◌++◌, length, Ok, refl, sym, ap, subst, ◌∙◌, arith, append_assoc, length-append}
use Rattle.std.specs.List.{flat_map}
use Rattle.std.specs.Str.{is_utf8}
use Rattle.cds_flac.specs.declared.error.FlacError.TheVariants.{BadComment}
use Rattle.cds_object.specs.declared.info.Comment.{Comment}
use Rattle.cds_flac.specs.Numbers.{little_endian}
use Rattle.cds_flac.specs.Step.{Step, after, little_number}
use Rattle.cds_flac.specs.Reading.{behind_vendor, comment_block, comments_from, counted_comments, text_at}
use Rattle.cds_flac.specs.Form.{field_bytes, SaysComments}
use Rattle.cds_flac.proofs.Steps.{after-ok}
use Rattle.cds_flac.proofs.Blocks.{vendor-passed, counted-count}
use Rattle.cds_flac.proofs.Shapes.{after-was, else-was, then-was, within-was, little-was, little-front}
use Rattle.cds_flac.proofs.FieldForm.{text-was, text-front, CommentsRead, comments-were, comments-front}

-- comments that were read behind their count
pub record CountRead (at end : ℕ) (left : List ℕ) (comments : List Comment) (rest : List ℕ) : Type 0 where
  pub count : List ℕ
  pub behind : List ℕ
  pub spelled : left ≡ count ++ behind
  pub count_bytes : length count ≡ 4
  pub read : CommentsRead (little_endian count) (at + 4) end behind comments rest

count-was : (at end : ℕ) (left : List ℕ) (found : List Comment × List ℕ) → counted_comments at end left ≡ Ok found → CountRead at end left found.0 found.1
unfolding counted_comments
count-was at end left found e =
    let next : ℕ → List ℕ → Step (List Comment) = λ count rest. comments_from count (at + 4) end rest in
    let room = else-was (nat_lt end (at + 4)) (BadComment at) (after (little_number at left) next) found e in
    let was = after-was (little_number at left) next found room.1 in
    let count = was.0.0 in
    let rest = was.0.1 in
    let size = little-was at left was.0 was.1 in
    let read = comments-were count (at + 4) end rest found (within-was end (at + 4) room.0) was.2 in
    record {
      count = size.0;
      behind = rest;
      spelled = size.1;
      count_bytes = size.2;
      read = subst (λ m. CommentsRead m (at + 4) end rest found.0 found.1) (sym size.3) read;
    }

whole_body : (size vendor count flat over rest left one two : List ℕ) → left ≡ size ++ (vendor ++ one) → one ≡ count ++ two → two ≡ flat ++ (over ++ rest) → left ≡ ((size ++ vendor) ++ (count ++ (flat ++ over))) ++ rest
whole_body size vendor count flat over rest left one two a b c =
    a
    ∙ ap (λ xs. size ++ (vendor ++ xs)) (b ∙ ap (λ xs. count ++ xs) (c ∙ sym (append_assoc flat over rest)) ∙ sym (append_assoc count (flat ++ over) rest))
    ∙ sym (append_assoc size vendor ((count ++ (flat ++ over)) ++ rest))
    ∙ sym (append_assoc (size ++ vendor) (count ++ (flat ++ over)) rest)

length_of_body : (size vendor count flat over : List ℕ) → length size ≡ 4 → length count ≡ 4 → length ((size ++ vendor) ++ (count ++ (flat ++ over))) ≡ 4 + length vendor + 4 + length (flat ++ over)
length_of_body size vendor count flat over a b =
    omega (arith, length-append (size ++ vendor) (count ++ (flat ++ over)), length-append size vendor, length-append count (flat ++ over))

-- the body that was read
pub record BodyRead (n : ℕ) (left : List ℕ) (comments : List Comment) (rest : List ℕ) : Type 0 where
  pub body : List ℕ
  pub spelled : left ≡ body ++ rest
  pub long : length body ≡ n
  pub says : SaysComments body comments

pub body-was : (at n : ℕ) (left : List ℕ) (found : List Comment × List ℕ) → comment_block at (at + n) left ≡ Ok found → BodyRead n left found.0 found.1
unfolding comment_block
body-was at n left found e =
    let end = at + n in
    let next : List ℕ → List ℕ → Step (List Comment) = λ vendor rest. behind_vendor at end vendor rest in
    let was = after-was (text_at at end left) next found e in
    let vendor = was.0.0 in
    let one = was.0.1 in
    let read = text-was at end left was.0 was.1 in
    let text = then-was (is_utf8 vendor) (BadComment at) (counted_comments (at + 4 + length vendor) end one) found was.2 in
    let counted = count-was (at + 4 + length vendor) end one found text.1 in
    let list = counted.read in
    let flat = flat_map field_bytes list.fields in
    record {
      body = (read.size ++ vendor) ++ (counted.count ++ (flat ++ list.over));
      spelled = whole_body read.size vendor counted.count flat list.over found.1 left one counted.behind read.spelled counted.spelled list.spelled;
      long = omega (arith, length_of_body read.size vendor counted.count flat list.over read.size_bytes counted.count_bytes, list.ends);
      says = record {
        vendor = record { size = read.size; text = vendor };
        count = counted.count;
        fields = list.fields;
        over = list.over;
        spelled = refl;
        vendor_is_field = record { size_bytes = read.size_bytes; size_says = read.size_says };
        vendor_is_text = text.0;
        count_bytes = counted.count_bytes;
        count_says = list.counted;
        each_is_field = list.each_is_field;
        each_in_form = list.each_in_form;
      };
    }

apart : (size vendor count flat over rest body : List ℕ) → body ≡ (size ++ vendor) ++ (count ++ (flat ++ over)) → body ++ rest ≡ size ++ (vendor ++ (count ++ (flat ++ (over ++ rest))))
apart size vendor count flat over rest body e =
    sym (whole_body size vendor count flat over rest _ _ _ refl refl refl ∙ ap (λ xs. xs ++ rest) (sym e))

pub body-front : (at : ℕ) (body rest : List ℕ) (comments : List Comment) → SaysComments body comments → comment_block at (at + length body) (body ++ rest) ≡ Ok (comments, rest)
unfolding comment_block
body-front at body rest comments says =
    let end = at + length body in
    let vendor = says.vendor in
    let flat = flat_map field_bytes says.fields in
    let next : List ℕ → List ℕ → Step (List Comment) = λ vendor rest. behind_vendor at end vendor rest in
    let long : length body ≡ 4 + length vendor.text + 4 + length (flat ++ says.over) =
    ap length says.spelled ∙ length_of_body vendor.size vendor.text says.count flat says.over says.vendor_is_field.size_bytes says.count_bytes in
    let ends : at + 4 + length vendor.text + 4 + length (flat ++ says.over) ≡ end = omega (arith, long) in
    let tail = says.count ++ (flat ++ (says.over ++ rest)) in
    let counted : little_number (at + 4 + length vendor.text) tail ≡ Ok (length says.fields, flat ++ (says.over ++ rest)) =
    little-front (at + 4 + length vendor.text) says.count (flat ++ (says.over ++ rest)) says.count_bytes ∙ ap (λ n. Ok (n, flat ++ (says.over ++ rest))) says.count_says in
    ap (λ left. after (text_at at end left) next) (apart vendor.size vendor.text says.count flat says.over rest body says.spelled)
    ∙ after-ok next (text-front at end vendor tail says.vendor_is_field (omega (arith, long)))
    ∙ vendor-passed at end tail vendor.text says.vendor_is_text
    ∙ counted-count (at + 4 + length vendor.text) end tail (omega (arith, long))
    ∙ after-ok (λ count rest. comments_from count (at + 4 + length vendor.text + 4) end rest) counted
    ∙ comments-front says.fields (at + 4 + length vendor.text + 4) end says.over rest comments says.each_is_field says.each_in_form ends
