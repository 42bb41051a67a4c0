-- Blocks one after another: the reading and the form say the same.
use Rattle.std.proofs.Common.{◌≡◌, ℕ, ◌+◌, ◌≤◌, nat_lt, nat_eq, Bool, true, false, List, [], ◌∷◌, ◌++◌, length, Option, Some, Ok, refl, sym, ap, subst, ◌∙◌, arith}
use Rattle.std.proofs.lemmas.Bool.Decides.{nat_tests}
use Rattle.cds_flac.specs.declared.block.Header.{Header}
use Rattle.cds_flac.specs.declared.error.FlacError.TheVariants.{Forbidden, TooLong}
use Rattle.cds_object.specs.declared.info.Comment.{Comment}
use Rattle.cds_flac.specs.Numbers.{big_endian}
use Rattle.cds_flac.specs.Step.{Step, after, taken, big_number}
use Rattle.cds_flac.specs.Reading.{block_body, comment_block, header_at, header_of_head, header_of_length, is_first_comment, is_last, kind_of, metadata_limit}
use Rattle.cds_flac.specs.Form.{Block, IsBlock, SaysComments}
use Rattle.cds_flac.proofs.Steps.{after-ok}
use Rattle.cds_flac.proofs.Heads.{header-behind, header-allowed, header-within}
use Rattle.cds_flac.proofs.Walks.{body-comments, body-over}
use Rattle.cds_flac.proofs.Shapes.{after-was, else-was, within-was, taken-was, taken-front, big-was, big-front, one_byte, same_pair}
use Rattle.cds_flac.proofs.BodyForm.{body-was, body-front}

-- a header that was read
pub record HeaderRead (at : ℕ) (left : List ℕ) (header : Header) (rest : List ℕ) : Type 0 where
  pub head : ℕ
  pub size : List ℕ
  pub spelled : left ≡ head ∷ (size ++ rest)
  pub size_bytes : length size ≡ 3
  pub size_says : big_endian size ≡ header.length
  pub last : is_last head ≡ header.last
  pub kind : kind_of head ≡ header.kind
  pub allowed : kind_of head ≡ 127 → ⊥
  pub within : at + header.length ≤ metadata_limit

equal-false-was : (m n : ℕ) → nat_eq m n ≡ false → m ≡ n → ⊥
equal-false-was m n h e = grind (arith, nat_tests)

same_header : (x y : Header × List ℕ) → ◌≡◌ {A = Step Header} (Ok x) (Ok y) → (x.0 ≡ y.0) × (x.1 ≡ y.1)
same_header x y e = same_pair x y e

pub header-was : (at : ℕ) (left : List ℕ) (found : Header × List ℕ) → header_at at left ≡ Ok found → HeaderRead at left found.0 found.1
unfolding header_at
header-was at left found e =
    let was = after-was (big_number at 1 left) (λ head rest. header_of_head at head rest) found e in
    let first = big-was at 1 left was.0 was.1 in
    let byte = one_byte first.0 first.2 in
    let head = was.0.0 in
    let sized : ℕ → List ℕ → Step Header = λ n rest. header_of_length at head n rest in
    let kind = else-was (nat_eq (kind_of head) 127) (Forbidden at) (after (big_number (at + 1) 3 was.0.1) sized) found was.2 in
    let long = after-was (big_number (at + 1) 3 was.0.1) sized found kind.1 in
    let size = big-was (at + 1) 3 was.0.1 long.0 long.1 in
    let n = long.0.0 in
    let made : Header × List ℕ = (record { last = is_last head; kind = kind_of head; length = n }, long.0.1) in
    let fits = else-was (nat_lt metadata_limit (at + n)) TooLong (Ok made) found long.2 in
    let parts = same_header made found fits.1 in
    let is_head : byte.0 ≡ head = sym byte.2 ∙ first.3 in
    record {
      head = head;
      size = size.0;
      spelled = first.1 ∙ ap (λ xs. xs ++ was.0.1) byte.1 ∙ ap (λ b. b ∷ was.0.1) is_head ∙ ap (λ xs. head ∷ xs) (size.1 ∙ ap (λ xs. size.0 ++ xs) parts.1);
      size_bytes = size.2;
      size_says = size.3 ∙ ap (λ (h : Header). h.length) parts.0;
      last = ap (λ (h : Header). h.last) parts.0;
      kind = ap (λ (h : Header). h.kind) parts.0;
      allowed = equal-false-was (kind_of head) 127 kind.0;
      within = subst (λ m. at + m ≤ metadata_limit) (ap (λ (h : Header). h.length) parts.0) (within-was metadata_limit (at + n) fits.0);
    }

head_byte : (head : ℕ) → big_endian (head ∷ []) ≡ head
head_byte head = omega arith

pub header-front : (at : ℕ) (b : Block) (rest : List ℕ) → IsBlock b → at + length b.body ≤ metadata_limit → header_at at (b.head ∷ (b.size ++ rest)) ≡ Ok (record { last = is_last b.head; kind = kind_of b.head; length = length b.body }, rest)
header-front at b rest is within =
    let sized : ℕ → List ℕ → Step Header = λ n rest. header_of_length at b.head n rest in
    let first : big_number at 1 (b.head ∷ (b.size ++ rest)) ≡ Ok (b.head, b.size ++ rest) =
    big-front at 1 (b.head ∷ []) (b.size ++ rest) refl ∙ ap (λ n. Ok (n, b.size ++ rest)) (head_byte b.head) in
    header-behind at (b.head ∷ (b.size ++ rest)) (b.size ++ rest) b.head first
    ∙ header-allowed at b.head (b.size ++ rest) is.allowed
    ∙ after-ok sized (big-front (at + 1) 3 b.size rest is.size_bytes)
    ∙ ap (λ n. header_of_length at b.head n rest) is.size_says
    ∙ header-within at b.head rest (length b.body) within

-- what a body adds to the comments so far, where it counts and where not
abbrev pub Adds : Bool → List ℕ → Option (List Comment) → Option (List Comment) → Type 0
Adds true body found now = (comments : List Comment) × (now ≡ Some comments) × SaysComments body comments
Adds false body found now = now ≡ found

-- the body of a block that was read
pub record PartRead (n : ℕ) (left rest : List ℕ) (counts : Bool) (found now : Option (List Comment)) : Type 0 where
  pub body : List ℕ
  pub spelled : left ≡ body ++ rest
  pub long : length body ≡ n
  pub adds : Adds counts body found now

pub part-was : (kind : ℕ) (found : Option (List Comment)) (at n : ℕ) (left : List ℕ) (result : Option (List Comment) × List ℕ) → block_body kind found at n left ≡ Ok result → PartRead n left result.1 (is_first_comment kind found) found result.0
part-was kind found at n left result e = by (is_first_comment kind found) refl where
  by : (b : Bool) → is_first_comment kind found ≡ b → PartRead n left result.1 b found result.0
  by true counts =
      let made : List Comment → List ℕ → Step (Option (List Comment)) = λ comments rest. Ok (Some comments, rest) in
      let was = after-was (comment_block at (at + n) left) made result (sym (body-comments kind found at n left counts) ∙ e) in
      let read = body-was at n left was.0 was.1 in
      let pair : Option (List Comment) × List ℕ = (Some was.0.0, was.0.1) in
      let parts = same_pair pair result was.2 in
      record {
        body = read.body;
        spelled = read.spelled ∙ ap (λ xs. read.body ++ xs) parts.1;
        long = read.long;
        adds = (was.0.0, sym parts.0, read.says);
      }
  by false counts =
      let made : List ℕ → List ℕ → Step (Option (List Comment)) = λ body rest. Ok (found, rest) in
      let was = after-was (taken at n left) made result (sym (body-over kind found at n left counts) ∙ e) in
      let read = taken-was at n left was.0 was.1 in
      let pair : Option (List Comment) × List ℕ = (found, was.0.1) in
      let parts = same_pair pair result was.2 in
      record {
        body = was.0.0;
        spelled = read.0 ∙ ap (λ xs. was.0.0 ++ xs) parts.1;
        long = read.1;
        adds = sym parts.0;
      }

pub part-front : (kind : ℕ) (found : Option (List Comment)) (at : ℕ) (body rest : List ℕ) (now : Option (List Comment)) → Adds (is_first_comment kind found) body found now → block_body kind found at (length body) (body ++ rest) ≡ Ok (now, rest)
part-front kind found at body rest now adds = by (is_first_comment kind found) refl adds where
  by : (b : Bool) → is_first_comment kind found ≡ b → Adds b body found now → block_body kind found at (length body) (body ++ rest) ≡ Ok (now, rest)
  by true counts (comments, is, says) =
      let made : List Comment → List ℕ → Step (Option (List Comment)) = λ comments rest. Ok (Some comments, rest) in
      body-comments kind found at (length body) (body ++ rest) counts
      ∙ after-ok made (body-front at body rest comments says)
      ∙ ap (λ f. Ok (f, rest)) (sym is)
  by false counts is =
      let made : List ℕ → List ℕ → Step (Option (List Comment)) = λ body rest. Ok (found, rest) in
      body-over kind found at (length body) (body ++ rest) counts
      ∙ after-ok made (taken-front at (length body) body rest refl)
      ∙ ap (λ f. Ok (f, rest)) (sym is)
