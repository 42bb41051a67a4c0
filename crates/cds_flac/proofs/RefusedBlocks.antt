-- Blocks that were refused: the form says why.
use Rattle.std.proofs.Common.{◌≡◌, ℕ, zero, suc, ◌+◌, ◌<◌, ◌≤◌, nat_lt, nat_eq, Bool, true, false, cond, ◌&&◌, is_none, find, MatchOption, List, [], ◌∷◌, ◌++◌, length, Option, Some, None, Ok, Err, refl, sym, ap, subst, ◌∙◌, ◌⊎◌, inl, inr, arith, append_assoc, length-append}
use Rattle.std.proofs.lemmas.Bool.Decides.{nat_tests}
use Rattle.std.proofs.lemmas.List.{append-nil}
use Rattle.std.proofs.lemmas.Grind.{flat_map-append}
use Rattle.std.specs.List.{flat_map}
use Rattle.cds_flac.specs.declared.block.Header.{Header}
use Rattle.cds_flac.specs.declared.error.FlacError.{FlacError}
use Rattle.cds_flac.specs.declared.error.FlacError.TheVariants.{Forbidden, Truncated, TooLong}
use Rattle.cds_object.specs.declared.info.Comment.{Comment}
use Rattle.cds_flac.specs.Numbers.{big_endian}
use Rattle.cds_flac.specs.Step.{Step, after, taken, big_number}
use Rattle.cds_flac.specs.Reading.{block_body, blocks_from, comment_block, header_at, header_of_head, header_of_length, is_first_comment, is_last, kind_of, marker, metadata_limit}
use Rattle.cds_flac.specs.Form.{Block, block_bytes, IsBlock, EachIsBlock, is_comment_block, FirstComments, SaysComments}
use Rattle.cds_flac.specs.Refused.{NoneIsLast, StartsWithStream, size_of, front_bytes, AreFront, IsHead, IsHeader, HasComments, Next, IsCutWithin, AreBadComments, AreCutComments, IsPartOfHeader, EndsInHeader, EndsInBody, IsRefused}
use Rattle.cds_flac.proofs.Shapes.{big-was, one_byte}
use Rattle.cds_flac.proofs.Walks.{body-comments, body-over}
use Rattle.cds_flac.proofs.WalkForm.{HeaderRead, header-was, Adds, PartRead, part-was}
use Rattle.cds_flac.proofs.ListForm.{FoundIn, adds-then, adds-apart}
use Rattle.cds_flac.proofs.Refusals.{ok-refused, same_refusal, after-refused, choice-refused, below-was, taken-refused, big-refused}
use Rattle.cds_flac.proofs.RefusedComments.{block-stopped}

-- blocks that were read, the first of them apart, and what is left behind them
pub record Walked (bytes : List ℕ) (first : Block) (more : List Block) (found : Option (List Comment)) (left : List ℕ) : Type 0 where
  pub each_is_block : EachIsBlock (first ∷ more)
  pub none_is_last : NoneIsLast (first ∷ more)
  pub stream : StartsWithStream (first ∷ more)
  pub comments : FirstComments (first ∷ more) found
  pub within : size_of (first ∷ more) ≤ metadata_limit
  pub spelled : bytes ≡ front_bytes (first ∷ more) ++ left

pub front-long : (blocks : List Block) → length (front_bytes blocks) ≡ 4 + size_of blocks
front-long blocks = length-append marker (flat_map block_bytes blocks)

pub all-long : (bytes left : List ℕ) (blocks : List Block) → bytes ≡ front_bytes blocks ++ left → 4 + size_of blocks + length left ≡ length bytes
all-long bytes left blocks e = sym (ap length e ∙ length-append (front_bytes blocks) left ∙ ap (λ n. n + length left) (front-long blocks))

module _ (bytes : List ℕ) (first : Block) (more : List Block) (found : Option (List Comment)) (left : List ℕ) (w : Walked bytes first more found left) where
  pub front_of : AreFront (first ∷ more)
  front_of = record { each_is_block = w.each_is_block; none_is_last = w.none_is_last; stream = w.stream; found = found; comments = w.comments; within = w.within }

  pub head_of : (head : ℕ) → (kind_of head ≡ 127 → ⊥) → IsHead (first ∷ more) head
  head_of head allowed = record { allowed = allowed; stream = λ none. absurd (cc) }

-- no byte is part of a header
pub part-none : (blocks : List Block) (left : List ℕ) → length left < 1 → IsPartOfHeader blocks left
part-none blocks [] short = tt
part-none blocks (b ∷ left) short = absurd (omega arith)

pub truncated : (bytes : List ℕ) (at : ℕ) (e : FlacError) → e ≡ Truncated at → at ≡ length bytes → (length bytes < 4) ⊎ (EndsInHeader bytes ⊎ EndsInBody bytes) → IsRefused bytes e
truncated bytes at e is place why = subst (λ r. IsRefused bytes r) (sym is) (place, why)

pub equal-false-was : (m n : ℕ) → nat_eq m n ≡ false → m ≡ n → ⊥
equal-false-was m n h e = grind (arith, nat_tests)

pub equal-true-was : (m n : ℕ) → nat_eq m n ≡ true → m ≡ n
equal-true-was m n h = grind (arith, nat_tests)

-- a header whose length was refused
length-refused : (bytes : List ℕ) (first : Block) (more : List Block) (found : Option (List Comment)) (left : List ℕ) (e : FlacError)
    → Walked bytes first more found left → (head : ℕ) (rest : List ℕ) → left ≡ head ∷ rest → (kind_of head ≡ 127 → ⊥) → (long : ℕ × List ℕ)
    → big_number (4 + size_of (first ∷ more) + 1) 3 rest ≡ Ok long → header_of_length (4 + size_of (first ∷ more)) head long.0 long.1 ≡ Err e → IsRefused bytes e
length-refused bytes first more found left e w head rest spelled allowed long number header =
    let blocks = first ∷ more in
    let at = 4 + size_of blocks in
    let size = big-was (at + 1) 3 rest long number in
    let too : Step Header = Err TooLong in
    let made : Header × List ℕ = (record { last = is_last head; kind = kind_of head; length = long.0 }, long.1) in
    let made_step : Step Header = Ok made in
    elim (choice-refused (nat_lt metadata_limit (at + long.0)) too made_step e header) [
      | inl past ↦ (
          let far : metadata_limit < size_of blocks + 4 + big_endian size.0 = omega (arith, below-was metadata_limit (at + long.0) past.0, size.3) in
          subst (λ r. IsRefused bytes r) (same_refusal {A = Header} TooLong e past.1) record {
            first = first;
            more = more;
            head = head;
            size = size.0;
            rest = long.1;
            are_front = front_of bytes first more found left w;
            spelled = w.spelled ∙ ap (λ xs. front_bytes blocks ++ xs) (spelled ∙ ap (λ xs. head ∷ xs) size.1);
            allowed = allowed;
            size_bytes = size.2;
            past = far;
          }
          )
      | inr within ↦ absurd (ok-refused made e within.1)
    ]

-- a header whose first byte came was refused
head-refused : (bytes : List ℕ) (first : Block) (more : List Block) (found : Option (List Comment)) (left : List ℕ) (e : FlacError)
    → Walked bytes first more found left → (head : ℕ) (rest : List ℕ) → left ≡ head ∷ rest → header_of_head (4 + size_of (first ∷ more)) head rest ≡ Err e → IsRefused bytes e
head-refused bytes first more found left e w head rest spelled header =
    let blocks = first ∷ more in
    let at = 4 + size_of blocks in
    let front = front_of bytes first more found left w in
    let whole : bytes ≡ front_bytes blocks ++ (head ∷ rest) = w.spelled ∙ ap (λ xs. front_bytes blocks ++ xs) spelled in
    let forbidden : Step Header = Err (Forbidden at) in
    let by_length : ℕ → List ℕ → Step Header = λ n rest. header_of_length at head n rest in
    elim (choice-refused (nat_eq (kind_of head) 127) forbidden (after (big_number (at + 1) 3 rest) by_length) e header) [
      | inl bad ↦ subst (λ r. IsRefused bytes r) (same_refusal {A = Header} (Forbidden at) e bad.1) record {
        blocks = blocks;
        head = head;
        rest = rest;
        are_front = front;
        spelled = whole;
        forbidden = equal-true-was (kind_of head) 127 bad.0;
        place = sym (front-long blocks);
      }
      | inr good ↦ (
          let allowed = equal-false-was (kind_of head) 127 good.0 in
          elim (after-refused (big_number (at + 1) 3 rest) by_length e good.1) [
            | inl cut ↦ (
                let was = big-refused (at + 1) 3 rest e cut in
                let place : at + 1 + length rest ≡ length bytes = omega (arith, all-long bytes (head ∷ rest) blocks whole) in
                truncated bytes (at + 1 + length rest) e was.0 place
                (inr (inl record { blocks = blocks; here = head ∷ rest; are_front = front; spelled = whole; is_part = (head_of bytes first more found left w head allowed, was.1) }))
                )
            | inr long ↦ length-refused bytes first more found left e w head rest spelled allowed long.0 long.1 long.2
          ]
          )
    ]

-- a header that was refused
header-refused : (bytes : List ℕ) (first : Block) (more : List Block) (found : Option (List Comment)) (left : List ℕ) (e : FlacError)
    → Walked bytes first more found left → header_at (4 + size_of (first ∷ more)) left ≡ Err e → IsRefused bytes e
unfolding header_at
header-refused bytes first more found left e w h =
    let blocks = first ∷ more in
    let at = 4 + size_of blocks in
    let front = front_of bytes first more found left w in
    let by_head : ℕ → List ℕ → Step Header = λ head rest. header_of_head at head rest in
    elim (after-refused (big_number at 1 left) by_head e h) [
      | inl none ↦ (
          let was = big-refused at 1 left e none in
          truncated bytes (at + length left) e was.0 (all-long bytes left blocks w.spelled)
          (inr (inl record { blocks = blocks; here = left; are_front = front; spelled = w.spelled; is_part = part-none blocks left was.1 }))
          )
      | inr one ↦ (
          let byte = big-was at 1 left one.0 one.1 in
          let is = one_byte byte.0 byte.2 in
          let same : is.0 ≡ one.0.0 = sym is.2 ∙ byte.3 in
          head-refused bytes first more found left e w one.0.0 one.0.1 (byte.1 ∙ ap (λ xs. xs ++ one.0.1) is.1 ∙ ap (λ b. b ∷ one.0.1) same) one.2
          )
    ]

-- what the comments so far say of the blocks
is-none-was : (found : Option (List Comment)) → is_none found ≡ true → found ≡ None
is-none-was None e = refl
is-none-was (Some comments) e = absurd (cc)

pub none-was-found : (blocks : List Block) (found : Option (List Comment)) → FirstComments blocks found → found ≡ None → find is_comment_block blocks ≡ None
none-was-found blocks found is none = by (find is_comment_block blocks) refl is where
  by : (o : Option Block) → find is_comment_block blocks ≡ o → MatchOption o (found ≡ None) (λ b. (comments : List Comment) × (found ≡ Some comments) × SaysComments b.body comments) → find is_comment_block blocks ≡ None
  by None e m = e
  by (Some b) e (comments, some, says) = absurd (two comments (sym none ∙ some))
    where
      two : (comments : List Comment) → ◌≡◌ {A = Option (List Comment)} None (Some comments) → ⊥
      two comments h = cc

pub found-none : (blocks : List Block) (found : Option (List Comment)) → FirstComments blocks found → find is_comment_block blocks ≡ None → found ≡ None
found-none blocks found is none = subst (λ o. MatchOption o (found ≡ None) (λ b. (comments : List Comment) × (found ≡ Some comments) × SaysComments b.body comments)) none is

pub comments-here : (blocks : List Block) (head : ℕ) (found : Option (List Comment)) → FirstComments blocks found → is_first_comment (kind_of head) found ≡ true → HasComments blocks head
comments-here blocks head found is e =
    let parts = both (nat_eq (kind_of head) 4) (is_none found) e in
    (equal-true-was (kind_of head) 4 parts.0, none-was-found blocks found is (is-none-was found parts.1))
  where
    both : (a b : Bool) → (a && b) ≡ true → (a ≡ true) × (b ≡ true)
    both true b e = (refl, e)
    both false b e = absurd (cc)

pub first-here : (blocks : List Block) (head : ℕ) (found : Option (List Comment)) → FirstComments blocks found → HasComments blocks head → is_first_comment (kind_of head) found ≡ true
first-here blocks head found is has =
    let kind : nat_eq (kind_of head) 4 ≡ true = test (kind_of head) has.0 in
    ap (λ (f : Option (List Comment)). nat_eq (kind_of head) 4 && is_none f) (found-none blocks found is has.1) ∙ ap (λ b. b && true) kind
  where
    test : (n : ℕ) → n ≡ 4 → nat_eq n 4 ≡ true
    test n e = grind (arith, nat_tests)

no-comments : (blocks : List Block) (head : ℕ) (found : Option (List Comment)) → FirstComments blocks found → is_first_comment (kind_of head) found ≡ false → HasComments blocks head → ⊥
no-comments blocks head found is e has = two (sym (first-here blocks head found is has) ∙ e) where
  two : true ≡ false → ⊥
  two h = cc

-- a block of comments that is cut is short
cut-short : (n : ℕ) (left : List ℕ) → AreCutComments n left → length left < n
cut-short n left (before, here, next, room, spelled, comes, long, cut) =
    let all : length left ≡ length before + length here = ap length spelled ∙ length-append before here in
    omega (arith, all, long, within next room here cut)
  where
    within : (next : Next) (room : ℕ) (here : List ℕ) → IsCutWithin next room here → length here < room
    within next room here (inl few) = omega (arith, few.1, few.2)
    within next room here (inr (inl (is, (size, text, spelled, bytes, fit, short)))) =
        omega (arith, ap length spelled ∙ length-append size text, bytes, fit, short)
    within next room here (inr (inr over)) = over.1

-- the body of a block was refused
module _ (bytes : List ℕ) (first : Block) (more : List Block) (found : Option (List Comment)) (left : List ℕ) (e : FlacError) (w : Walked bytes first more found left) (header : Header) (rest : List ℕ) (read : HeaderRead (4 + size_of (first ∷ more)) left header rest) where
  is_header_of : IsHeader (first ∷ more) read.head read.size
  is_header_of = record {
    is_head = head_of bytes first more found left w read.head read.allowed;
    size_bytes = read.size_bytes;
    stream = λ none. absurd (cc);
    within = omega (arith, read.within, read.size_says);
  }

  whole_of : bytes ≡ front_bytes (first ∷ more) ++ (read.head ∷ (read.size ++ rest))
  whole_of = w.spelled ∙ ap (λ xs. front_bytes (first ∷ more) ++ xs) read.spelled

  place_of : 4 + size_of (first ∷ more) + 4 + length rest ≡ length bytes
  place_of =
      let here : length (read.head ∷ (read.size ++ rest)) ≡ 4 + length rest = omega (arith, length-append read.size rest, read.size_bytes) in
      omega (arith, here, all-long bytes (read.head ∷ (read.size ++ rest)) (first ∷ more) whole_of)

  ends-in-body : (n : ℕ) → n ≡ header.length → length rest < n → (HasComments (first ∷ more) read.head → AreCutComments n rest) → EndsInBody bytes
  ends-in-body n same short cut =
      let is : n ≡ big_endian read.size = same ∙ sym read.size_says in
      record {
        blocks = first ∷ more;
        head = read.head;
        size = read.size;
        here = rest;
        are_front = front_of bytes first more found left w;
        is_header = is_header_of;
        spelled = whole_of;
        short = subst (λ m. length rest < m) is short;
        cut = subst (λ m. HasComments (first ∷ more) read.head → AreCutComments m rest) is cut;
      }

  pub body-refused : block_body header.kind found (4 + size_of (first ∷ more) + 4) header.length rest ≡ Err e → IsRefused bytes e
  body-refused h = by (is_first_comment header.kind found) refl where
    by : (b : Bool) → is_first_comment header.kind found ≡ b → IsRefused bytes e
    by true counts =
        let at = 4 + size_of (first ∷ more) + 4 in
        let n = header.length in
        let made : List Comment → List ℕ → Step (Option (List Comment)) = λ comments rest. Ok (Some comments, rest) in
        let has = comments-here (first ∷ more) read.head found w.comments (subst (λ k. is_first_comment k found ≡ true) (sym read.kind) counts) in
        elim (after-refused (comment_block at (at + n) rest) made e (sym (body-comments header.kind found at n rest counts) ∙ h)) [
          | inl comments ↦ elim (block-stopped at n rest e comments) [
            | inl (before, here, spelled, is, bad) ↦ subst (λ r. IsRefused bytes r) (sym is) record {
              blocks = first ∷ more;
              head = read.head;
              size = read.size;
              before = before;
              rest = here;
              are_front = front_of bytes first more found left w;
              is_header = is_header_of;
              has_comments = has;
              spelled = whole_of ∙ ap (λ xs. front_bytes (first ∷ more) ++ (read.head ∷ (read.size ++ xs))) spelled;
              bad = subst (λ m. AreBadComments m before here) (sym read.size_says) bad;
              place = omega (arith, front-long (first ∷ more));
            }
            | inr (is, cut) ↦ truncated bytes (at + length rest) e is place_of (inr (inr (ends-in-body n refl (cut-short n rest cut) (λ has. cut))))
          ]
          | inr kept ↦ absurd (ok-refused (Some kept.0.0, kept.0.1) e kept.2)
        ]
    by false counts =
        let at = 4 + size_of (first ∷ more) + 4 in
        let n = header.length in
        let made : List ℕ → List ℕ → Step (Option (List Comment)) = λ body rest. Ok (found, rest) in
        let none = no-comments (first ∷ more) read.head found w.comments (subst (λ k. is_first_comment k found ≡ false) (sym read.kind) counts) in
        elim (after-refused (taken at n rest) made e (sym (body-over header.kind found at n rest counts) ∙ h)) [
          | inl cut ↦ (let was = taken-refused at n rest e cut in truncated bytes (at + length rest) e was.0 place_of (inr (inr (ends-in-body n refl was.1 (λ has. absurd (none has))))))
          | inr kept ↦ absurd (ok-refused (found, kept.0.1) e kept.2)
        ]

-- one block more
each-more : (blocks : List Block) (b : Block) → EachIsBlock blocks → IsBlock b → EachIsBlock (blocks ++ b ∷ [])
each-more [] b each is = (is, tt)
each-more (c ∷ blocks) b each is = (each.0, each-more blocks b each.1 is)

none-more : (blocks : List Block) (b : Block) → NoneIsLast blocks → is_last b.head ≡ false → NoneIsLast (blocks ++ b ∷ [])
none-more [] b each is = (is, tt)
none-more (c ∷ blocks) b each is = (each.0, none-more blocks b each.1 is)

found-more : (start : Option (List Comment)) (blocks : List Block) (b : Block) (found now : Option (List Comment))
    → FoundIn start blocks found → Adds (is_first_comment (kind_of b.head) found) b.body found now → FoundIn start (blocks ++ b ∷ []) now
found-more start [] b found now is adds =
    let same : found ≡ start = at_start start found is in
    adds-then b [] start now now (subst (λ f. Adds (is_first_comment (kind_of b.head) f) b.body f now) same adds) (none_after now)
  where
    none_after : (f : Option (List Comment)) → FoundIn f [] f
    none_after None = refl
    none_after (Some comments) = refl

    at_start : (start found : Option (List Comment)) → FoundIn start [] found → found ≡ start
    at_start None found is = is
    at_start (Some comments) found is = is
found-more start (c ∷ blocks) b found now is adds =
    let parts = adds-apart c blocks start found is in
    adds-then c (blocks ++ b ∷ []) start parts.0 now parts.1 (found-more parts.0 blocks b found now parts.2 adds)

pub size-more : (blocks : List Block) (b : Block) → length b.size ≡ 3 → size_of (blocks ++ b ∷ []) ≡ size_of blocks + 4 + length b.body
size-more blocks b three =
    let flat : flat_map block_bytes (blocks ++ b ∷ []) ≡ flat_map block_bytes blocks ++ block_bytes b =
    flat_map-append block_bytes blocks (b ∷ []) ∙ ap (λ xs. flat_map block_bytes blocks ++ xs) (append-nil (block_bytes b)) in
    omega (arith, ap length flat ∙ length-append (flat_map block_bytes blocks) (block_bytes b), length-append b.size b.body, three)

front-more : (blocks : List Block) (b : Block) (behind : List ℕ) → front_bytes blocks ++ (block_bytes b ++ behind) ≡ front_bytes (blocks ++ b ∷ []) ++ behind
front-more blocks b behind =
    let flat : flat_map block_bytes (blocks ++ b ∷ []) ≡ flat_map block_bytes blocks ++ block_bytes b =
    flat_map-append block_bytes blocks (b ∷ []) ∙ ap (λ xs. flat_map block_bytes blocks ++ xs) (append-nil (block_bytes b)) in
    sym (append_assoc (front_bytes blocks) (block_bytes b) behind)
    ∙ ap (λ xs. xs ++ behind) (append_assoc marker (flat_map block_bytes blocks) (block_bytes b) ∙ ap (λ xs. marker ++ xs) (sym flat))

-- blocks one after another were refused
pub walk-refused : (fuel : ℕ) (bytes : List ℕ) (first : Block) (more : List Block) (found : Option (List Comment)) (left : List ℕ) (e : FlacError)
    → Walked bytes first more found left → metadata_limit < fuel + size_of (first ∷ more) → blocks_from fuel found (4 + size_of (first ∷ more)) left ≡ Err e → IsRefused bytes e
walk-refused zero bytes first more found left e w enough h = absurd (omega (arith, enough, w.within))
walk-refused (suc fewer) bytes first more found left e w enough h =
    let at = 4 + size_of (first ∷ more) in
    let next : Header → List ℕ → Step (Option (List Comment)) = λ header rest. after (block_body header.kind found (at + 4) header.length rest) (λ found rest. cond header.last (Ok (found, rest)) (blocks_from fewer found (at + 4 + header.length) rest)) in
    elim (after-refused (header_at at left) next e h) [
      | inl header ↦ header-refused bytes first more found left e w header
      | inr was ↦ behind-header was.0.0 was.0.1 (header-was at left was.0 was.1) was.2
          (λ more. λ now. λ left. λ w. λ enough. λ later. walk-refused fewer bytes first more now left e w enough later)
    ]
  where
    behind-body : (header : Header) (rest : List ℕ) → HeaderRead (4 + size_of (first ∷ more)) left header rest → (now : Option (List Comment) × List ℕ)
        → PartRead header.length rest now.1 (is_first_comment header.kind found) found now.0 → header.last ≡ false
        → blocks_from fewer now.0 (4 + size_of (first ∷ more) + 4 + header.length) now.1 ≡ Err e
        → ((more : List Block) (now : Option (List Comment)) (left : List ℕ) → Walked bytes first more now left → metadata_limit < fewer + size_of (first ∷ more) → blocks_from fewer now (4 + size_of (first ∷ more)) left ≡ Err e → IsRefused bytes e)
        → IsRefused bytes e
    behind-body header rest read now part last later again =
        let b : Block = record { head = read.head; size = read.size; body = part.body } in
        let blocks = first ∷ more in
        let size = size-more blocks b read.size_bytes in
        let is_block : IsBlock b = record { size_bytes = read.size_bytes; size_says = read.size_says ∙ sym part.long; allowed = read.allowed } in
        let adds : Adds (is_first_comment (kind_of read.head) found) part.body found now.0 = subst (λ k. Adds (is_first_comment k found) part.body found now.0) (sym read.kind) part.adds in
        let walked : Walked bytes first (more ++ b ∷ []) now.0 now.1 = record {
          each_is_block = each-more blocks b w.each_is_block is_block;
          none_is_last = none-more blocks b w.none_is_last (read.last ∙ last);
          stream = w.stream;
          comments = found-more None blocks b found now.0 w.comments adds;
          within = omega (arith, size, read.within, part.long);
          spelled = w.spelled ∙ ap (λ xs. front_bytes blocks ++ xs) (read.spelled ∙ ap (λ xs. read.head ∷ (read.size ++ xs)) part.spelled ∙ ap (λ xs. read.head ∷ xs) (sym (append_assoc read.size part.body now.1))) ∙ front-more blocks b now.1;
        } in
        let place : 4 + size_of blocks + 4 + header.length ≡ 4 + size_of (blocks ++ b ∷ []) = omega (arith, size, part.long) in
        again (more ++ b ∷ []) now.0 now.1 walked (omega (arith, enough, size)) (subst (λ q. blocks_from fewer now.0 q now.1 ≡ Err e) place later)

    behind-header : (header : Header) (rest : List ℕ) → HeaderRead (4 + size_of (first ∷ more)) left header rest
        → after (block_body header.kind found (4 + size_of (first ∷ more) + 4) header.length rest) (λ found rest. cond header.last (Ok (found, rest)) (blocks_from fewer found (4 + size_of (first ∷ more) + 4 + header.length) rest)) ≡ Err e
        → ((more : List Block) (now : Option (List Comment)) (left : List ℕ) → Walked bytes first more now left → metadata_limit < fewer + size_of (first ∷ more) → blocks_from fewer now (4 + size_of (first ∷ more)) left ≡ Err e → IsRefused bytes e)
        → IsRefused bytes e
    behind-header header rest read h again =
        let at = 4 + size_of (first ∷ more) in
        let ends : Option (List Comment) → List ℕ → Step (Option (List Comment)) = λ found rest. cond header.last (Ok (found, rest)) (blocks_from fewer found (at + 4 + header.length) rest) in
        elim (after-refused (block_body header.kind found (at + 4) header.length rest) ends e h) [
          | inl body ↦ body-refused bytes first more found left e w header rest read body
          | inr was ↦ (
              let now = was.0 in
              let ended : Step (Option (List Comment)) = Ok (now.0, now.1) in
              elim (choice-refused header.last ended (blocks_from fewer now.0 (at + 4 + header.length) now.1) e was.2) [
                | inl last ↦ absurd (ok-refused (now.0, now.1) e last.1)
                | inr later ↦ behind-body header rest read now (part-was header.kind found (at + 4) header.length rest now was.1) later.0 later.1 again
              ]
              )
        ]
