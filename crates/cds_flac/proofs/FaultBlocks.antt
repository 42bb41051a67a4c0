-- Faults in the blocks of a file, by its form: the reading refuses them.
use Rattle.std.proofs.Common.{◌≡◌, ℕ, ◌+◌, ◌-◌, ◌<◌, ◌≤◌, nat_eq, Bool, true, false, cond, List, [], ◌∷◌, ◌++◌, length, Option, Some, None, Ok, Err, refl, sym, ap, subst, ◌∙◌, inl, inr, arith, append_assoc, length-append, MatchOption, find}
use Rattle.std.proofs.lemmas.Bool.Decides.{nat_tests}
use Rattle.std.specs.List.{flat_map}
use Rattle.std.specs.Str.{bytes_eq}
use Rattle.std.proofs.lemmas.Slice.Eq.{bytes_eq-Decides}
use Rattle.cds_flac.specs.declared.block.Header.{Header}
use Rattle.cds_flac.specs.declared.error.FlacError.{FlacError}
use Rattle.cds_flac.specs.declared.error.FlacError.TheVariants.{NotFlac, NoStreamInfo, BadStreamInfo, Forbidden, Truncated, BadComment, TooLong, ReadFault, Mem}
use Rattle.cds_object.specs.declared.info.Comment.{Comment}
use Rattle.cds_object.specs.declared.info.FlacInfo.{FlacInfo}
use Rattle.cds_flac.specs.Numbers.{big_endian, sound_bits}
use Rattle.cds_flac.specs.Step.{Step}
use Rattle.cds_flac.specs.Reading.{block_body, blocks_from, further_blocks, header_at, header_of_head, header_of_length, is_first_comment, is_last, is_marker, kind_of, marker, marker_at, metadata, most_blocks, sound_at, stream_head, stream_of_head, stream_of_length}
use Rattle.cds_flac.specs.Agree.{Judged}
use Rattle.cds_flac.specs.Form.{Block, block_bytes, EachIsBlock, is_comment_block, FirstComments}
use Rattle.cds_flac.specs.Refused.{NoneIsLast, size_of, front_bytes, AreFront, IsHeader, HasComments, AreBadComments, AreCutComments, IsPartOfHeader, IsRefused, AnswersRefusal, RefusesWhatIs}
use Rattle.cds_flac.proofs.Steps.{after-ok}
use Rattle.cds_flac.proofs.Decided.{taken-else}
use Rattle.cds_flac.proofs.Heads.{header-behind, header-forbidden, header-allowed, header-too_long, header-within, stream-behind, stream-right, stream-length, stream-forbidden, stream-other, stream-no_length}
use Rattle.cds_flac.proofs.Shapes.{taken-front, big-front}
use Rattle.cds_flac.proofs.Walks.{body-comments, body-over, walk-no_header, walk-no_body, walk-more}
use Rattle.cds_flac.proofs.Whole.{from_blocks, from_sound, from_head, from_marker, whole, to_head, to_sound, to_blocks}
use Rattle.cds_flac.proofs.WalkForm.{header-front, part-front}
use Rattle.cds_flac.proofs.ListForm.{FoundIn, SaidBy, adds-apart, block_long, head_apart}
use Rattle.cds_flac.proofs.WholeForm.{enough, marker-front, stream-front, sound-front}
use Rattle.cds_flac.proofs.Refusals.{ok-refused, same_refusal}
use Rattle.cds_flac.proofs.RefusedBlocks.{front-long, all-long, first-here, comments-here}
use Rattle.cds_flac.proofs.FaultComments.{err-after, taken-short, big-short, comments-bad, comments-cut}

-- a header with a fault, at a place
module _ (at : ℕ) where
  by_head : ℕ → List ℕ → Step Header
  by_head head rest = header_of_head at head rest

  header-none : (left : List ℕ) → length left < 1 → header_at at left ≡ Err (Truncated (at + length left))
  unfolding header_at
  header-none left short = err-after (λ head rest. header_of_head at head rest) (big-short at 1 left short)

  header-first : (head : ℕ) (rest : List ℕ) → header_at at (head ∷ rest) ≡ header_of_head at head rest
  header-first head rest =
      let byte : big_endian (head ∷ []) ≡ head = omega arith in
      header-behind at (head ∷ rest) rest head (big-front at 1 (head ∷ []) rest refl ∙ ap (λ n. Ok (n, rest)) byte)

  header-cut : (head : ℕ) (size : List ℕ) → (kind_of head ≡ 127 → ⊥) → length size < 3 → header_at at (head ∷ size) ≡ Err (Truncated (at + length (head ∷ size)))
  header-cut head size allowed short =
      let place : at + 1 + length size ≡ at + length (head ∷ size) = omega arith in
      header-first head size ∙ header-allowed at head size allowed ∙ err-after (λ n rest. header_of_length at head n rest) (big-short (at + 1) 3 size short) ∙ ap (λ m. Err (Truncated m)) place

  header-long : (head : ℕ) (size rest : List ℕ) → (kind_of head ≡ 127 → ⊥) → length size ≡ 3 → header_at at (head ∷ (size ++ rest)) ≡ header_of_length at head (big_endian size) rest
  header-long head size rest allowed three =
      header-first head (size ++ rest) ∙ header-allowed at head (size ++ rest) allowed ∙ after-ok (λ n rest. header_of_length at head n rest) (big-front (at + 1) 3 size rest three)

-- the header that stands there
abbrev header_with : ℕ → List ℕ → Header
header_with head size = record { last = is_last head; kind = kind_of head; length = big_endian size }

-- bodies with a fault
body-bad : (blocks : List Block) (found : Option (List Comment)) (head at n : ℕ) (before here : List ℕ) → FirstComments blocks found → HasComments blocks head → AreBadComments n before here
    → block_body (kind_of head) found at n (before ++ here) ≡ Err (BadComment (at + length before))
body-bad blocks found head at n before here is has bad =
    body-comments (kind_of head) found at n (before ++ here) (first-here blocks head found is has)
    ∙ err-after (λ comments rest. Ok (Some comments, rest)) (comments-bad at n before here bad)

body-cut : (blocks : List Block) (found : Option (List Comment)) (head at n : ℕ) (left : List ℕ) → FirstComments blocks found → length left < n → (HasComments blocks head → AreCutComments n left)
    → block_body (kind_of head) found at n left ≡ Err (Truncated (at + length left))
body-cut blocks found head at n left is short cut = by (is_first_comment (kind_of head) found) refl where
  by : (b : Bool) → is_first_comment (kind_of head) found ≡ b → block_body (kind_of head) found at n left ≡ Err (Truncated (at + length left))
  by true counts =
      body-comments (kind_of head) found at n left counts
      ∙ err-after (λ comments rest. Ok (Some comments, rest)) (comments-cut at n left (cut (comments-here blocks head found is counts)))
  by false counts = body-over (kind_of head) found at n left counts ∙ err-after (λ body rest. Ok (found, rest)) (taken-short at n left short)

-- behind further blocks the reading comes to what stands there
walk-through : (more : List Block) (fuel : ℕ) (start found : Option (List Comment)) (at : ℕ) (tail : List ℕ) (e : FlacError)
    → EachIsBlock more → NoneIsLast more → at + size_of more ≤ 67108868 → 67108868 < fuel + at → FoundIn start more found
    → ((some : ℕ) → 0 < some → blocks_from some found (at + size_of more) tail ≡ Err e) → blocks_from fuel start at (flat_map block_bytes more ++ tail) ≡ Err e
walk-through [] fuel start found at tail e each last within enough is then =
    let same : found ≡ start = at_start start found is in
    let place : at + size_of [] ≡ at = omega arith in
    subst (λ q. blocks_from fuel start q tail ≡ Err e) place (subst (λ f. blocks_from fuel f (at + size_of []) tail ≡ Err e) same (then fuel (omega (arith, within, enough))))
  where
    at_start : (start found : Option (List Comment)) → FoundIn start [] found → found ≡ start
    at_start None found is = is
    at_start (Some comments) found is = is
walk-through (b ∷ more) fuel start found at tail e each last within enough is then =
    let parts = adds-apart b more start found is in
    let flat = flat_map block_bytes more in
    let long = block_long b.head b.size b.body flat each.0.size_bytes in
    let some : 0 < fuel = omega (arith, enough, within) in
    let header : Header = record { last = is_last b.head; kind = kind_of b.head; length = length b.body } in
    let behind = flat ++ tail in
    let left = b.head ∷ (b.size ++ (b.body ++ behind)) in
    let read = header-front at b (b.body ++ behind) each.0 (omega (arith, within, long)) in
    let body = part-front (kind_of b.head) start (at + 4) b.body behind parts.0 parts.1 in
    let place : at + size_of (b ∷ more) ≡ at + 4 + length b.body + size_of more = omega (arith, long) in
    ap (λ left. blocks_from fuel start at left) (head_apart b flat tail)
    ∙ walk-more fuel start at left some header (b.body ++ behind) behind parts.0 read body last.0
    ∙ walk-through more (fuel - 1) parts.0 found (at + 4 + length b.body) tail e each.1 last.1 (omega (arith, within, long)) (omega (arith, enough, some)) parts.2
    (λ m. λ some. subst (λ q. blocks_from m found q tail ≡ Err e) place (then m some))

not-four : (n : ℕ) → n ≡ 0 → nat_eq n 4 ≡ false
not-four n e = grind (arith, nat_tests)

-- behind the first blocks of a file the reading comes to what stands there
front-through : (bytes : List ℕ) (first : Block) (more : List Block) (tail : List ℕ) (e : FlacError) → (front : AreFront (first ∷ more)) → bytes ≡ front_bytes (first ∷ more) ++ tail
    → ((some : ℕ) → 0 < some → blocks_from some front.found (4 + size_of (first ∷ more)) tail ≡ Err e) → metadata bytes ≡ Err e
unfolding SaidBy
front-through bytes first more tail e front spelled then =
    let flat = flat_map block_bytes more in
    let third = flat ++ tail in
    let left = first.head ∷ (first.size ++ (first.body ++ third)) in
    let is = front.each_is_block.0 in
    let kind = front.stream.0 in
    let long = front.stream.1 in
    let size = block_long first.head first.size first.body flat is.size_bytes in
    let marked : bytes ≡ marker ++ left = spelled ∙ append_assoc marker (flat_map block_bytes (first ∷ more)) tail ∙ ap (λ xs. marker ++ xs) (head_apart first flat tail) in
    let one = ap marker_at marked ∙ marker-front left in
    let two = stream-front first (first.body ++ third) is kind long in
    let three = sound-front first.body third long in
    let place : 4 + size_of (first ∷ more) ≡ 42 + size_of more = omega (arith, size, long) in
    let walked = walk-through more most_blocks None front.found 42 tail e front.each_is_block.1 front.none_is_last.1 (omega (arith, front.within, size, long)) enough (found-in front.comments)
    (λ m. λ some. subst (λ q. blocks_from m front.found q tail ≡ Err e) place (then m some)) in
    to_blocks bytes tt left one first.head (first.body ++ third) two (sound_bits first.body) third three
    ∙ err-after (from_blocks (sound_bits first.body)) (ap (λ b. further_blocks b 42 third) front.none_is_last.0 ∙ walked)
  where
    found-in : FirstComments (first ∷ more) front.found → FirstComments more front.found
    found-in is =
        let other : is_comment_block first ≡ false = not-four (kind_of first.head) front.stream.0 in
        subst (λ t. MatchOption (cond t (Some first) (find is_comment_block more)) (front.found ≡ None) (SaidBy front.found)) other is

-- a header with a fault behind the first blocks, and a body with one
header-fault : (bytes : List ℕ) (first : Block) (more : List Block) (tail : List ℕ) (x : ℕ) → (front : AreFront (first ∷ more)) → bytes ≡ front_bytes (first ∷ more) ++ tail
    → header_at (4 + size_of (first ∷ more)) tail ≡ Err (Truncated x) → metadata bytes ≡ Err (Truncated x)
header-fault bytes first more tail x front spelled h =
    front-through bytes first more tail (Truncated x) front spelled (λ m. λ some. walk-no_header m front.found (4 + size_of (first ∷ more)) tail some (Truncated x) h)

forbidden-fault : (bytes : List ℕ) (first : Block) (more : List Block) (tail : List ℕ) (x : ℕ) → (front : AreFront (first ∷ more)) → bytes ≡ front_bytes (first ∷ more) ++ tail
    → header_at (4 + size_of (first ∷ more)) tail ≡ Err (Forbidden x) → metadata bytes ≡ Err (Forbidden x)
forbidden-fault bytes first more tail x front spelled h =
    front-through bytes first more tail (Forbidden x) front spelled (λ m. λ some. walk-no_header m front.found (4 + size_of (first ∷ more)) tail some (Forbidden x) h)

limit-fault : (bytes : List ℕ) (first : Block) (more : List Block) (tail : List ℕ) → (front : AreFront (first ∷ more)) → bytes ≡ front_bytes (first ∷ more) ++ tail
    → header_at (4 + size_of (first ∷ more)) tail ≡ Err TooLong → metadata bytes ≡ Err TooLong
limit-fault bytes first more tail front spelled h =
    front-through bytes first more tail TooLong front spelled (λ m. λ some. walk-no_header m front.found (4 + size_of (first ∷ more)) tail some TooLong h)

-- the header that stands behind the first blocks is read
header-read : (blocks : List Block) (head : ℕ) (size rest : List ℕ) → IsHeader blocks head size → header_at (4 + size_of blocks) (head ∷ (size ++ rest)) ≡ Ok (header_with head size, rest)
header-read blocks head size rest is =
    let at = 4 + size_of blocks in
    header-long at head size rest is.is_head.allowed is.size_bytes ∙ header-within at head rest (big_endian size) (omega (arith, is.within))

body-cut-fault : (bytes : List ℕ) (first : Block) (more : List Block) (head : ℕ) (size rest : List ℕ) (x : ℕ) → (front : AreFront (first ∷ more)) → bytes ≡ front_bytes (first ∷ more) ++ (head ∷ (size ++ rest))
    → IsHeader (first ∷ more) head size → block_body (kind_of head) front.found (4 + size_of (first ∷ more) + 4) (big_endian size) rest ≡ Err (Truncated x) → metadata bytes ≡ Err (Truncated x)
body-cut-fault bytes first more head size rest x front spelled is h =
    front-through bytes first more (head ∷ (size ++ rest)) (Truncated x) front spelled
    (λ m. λ some. walk-no_body m front.found (4 + size_of (first ∷ more)) (head ∷ (size ++ rest)) some (header_with head size) rest (Truncated x) (header-read (first ∷ more) head size rest is) h)

body-bad-fault : (bytes : List ℕ) (first : Block) (more : List Block) (head : ℕ) (size rest : List ℕ) (x : ℕ) → (front : AreFront (first ∷ more)) → bytes ≡ front_bytes (first ∷ more) ++ (head ∷ (size ++ rest))
    → IsHeader (first ∷ more) head size → block_body (kind_of head) front.found (4 + size_of (first ∷ more) + 4) (big_endian size) rest ≡ Err (BadComment x) → metadata bytes ≡ Err (BadComment x)
body-bad-fault bytes first more head size rest x front spelled is h =
    front-through bytes first more (head ∷ (size ++ rest)) (BadComment x) front spelled
    (λ m. λ some. walk-no_body m front.found (4 + size_of (first ∷ more)) (head ∷ (size ++ rest)) some (header_with head size) rest (BadComment x) (header-read (first ∷ more) head size rest is) h)

-- faults in the marker and in the first header
module _ (bytes left : List ℕ) (spelled : bytes ≡ marker ++ left) where
  one : marker_at bytes ≡ Ok (tt, left)
  one = ap marker_at spelled ∙ marker-front left

  long : 4 + length left ≡ length bytes
  long = sym (ap length spelled ∙ length-append marker left)

  stream-fault : (e : FlacError) → stream_head left ≡ Err e → metadata bytes ≡ Err e
  stream-fault e h = to_head bytes tt left one ∙ err-after from_head h

  sound-fault : (head : ℕ) (rest : List ℕ) (e : FlacError) → stream_head left ≡ Ok (head, rest) → sound_at rest ≡ Err e → metadata bytes ≡ Err e
  sound-fault head rest e two h = to_sound bytes tt left one head rest two ∙ err-after (from_sound head) h

  stream-none : length left < 1 → stream_head left ≡ Err (Truncated (4 + length left))
  unfolding stream_head
  stream-none short = err-after (λ head rest. stream_of_head head rest) (big-short 4 1 left short)

  stream-first : (head : ℕ) (rest : List ℕ) → left ≡ head ∷ rest → stream_head left ≡ stream_of_head head rest
  stream-first head rest same =
      let byte : big_endian (head ∷ []) ≡ head = omega arith in
      ap stream_head same ∙ stream-behind (head ∷ rest) rest head (big-front 4 1 (head ∷ []) rest refl ∙ ap (λ n. Ok (n, rest)) byte)

  stream-cut : (head : ℕ) (size : List ℕ) → left ≡ head ∷ size → kind_of head ≡ 0 → length size < 3 → stream_head left ≡ Err (Truncated (4 + length left))
  stream-cut head size same kind short =
      let place : 5 + length size ≡ 4 + length left = omega (arith, ap length same) in
      stream-first head size same ∙ stream-right head size kind ∙ err-after (λ n rest. stream_of_length head n rest) (big-short 5 3 size short) ∙ ap (λ m. Err (Truncated m)) place

  stream-long : (head : ℕ) (size rest : List ℕ) → left ≡ head ∷ (size ++ rest) → kind_of head ≡ 0 → length size ≡ 3 → stream_head left ≡ stream_of_length head (big_endian size) rest
  stream-long head size rest same kind three =
      stream-first head (size ++ rest) same ∙ stream-right head (size ++ rest) kind ∙ after-ok (λ n rest. stream_of_length head n rest) (big-front 5 3 size rest three)

sound-cut : (left : List ℕ) → length left < 34 → sound_at left ≡ Err (Truncated (8 + length left))
unfolding sound_at
sound-cut left short = err-after (λ body rest. Ok (sound_bits body, rest)) (taken-short 8 34 left short)

marker-other : (four rest : List ℕ) → length four ≡ 4 → (four ≡ marker → ⊥) → marker_at (four ++ rest) ≡ Err NotFlac
unfolding marker_at
marker-other four rest long other =
    let right : Step (Unit {0}) = Ok (tt, rest) in
    let wrong : Step (Unit {0}) = Err NotFlac in
    after-ok (λ four rest. is_marker four rest) (taken-front 0 4 four rest long)
    ∙ taken-else (bytes_eq four marker) right wrong (by (bytes_eq four marker) refl)
  where
    by : (b : Bool) → bytes_eq four marker ≡ b → bytes_eq four marker ≡ false
    by true e = absurd (other ((bytes_eq-Decides four marker).0 e))
    by false e = e

marker-cut : (bytes : List ℕ) → length bytes < 4 → marker_at bytes ≡ Err (Truncated (length bytes))
unfolding marker_at
marker-cut bytes short =
    let place : 0 + length bytes ≡ length bytes = omega arith in
    err-after (λ four rest. is_marker four rest) (taken-short 0 4 bytes short) ∙ ap (λ m. Err (Truncated m)) place

marker-fault : (bytes : List ℕ) (e : FlacError) → marker_at bytes ≡ Err e → metadata bytes ≡ Err e
marker-fault bytes e h = whole bytes ∙ err-after from_marker h

-- the file ends within a header
header-ends : (bytes : List ℕ) (blocks : List Block) (here : List ℕ) → AreFront blocks → bytes ≡ front_bytes blocks ++ here → IsPartOfHeader blocks here → metadata bytes ≡ Err (Truncated (length bytes))
header-ends bytes [] [] front spelled is =
    stream-fault bytes [] spelled (Truncated (4 + length {A = ℕ} [])) (stream-none bytes [] spelled (omega arith)) ∙ ap (λ m. Err (Truncated m)) (long bytes [] spelled)
header-ends bytes [] (head ∷ size) front spelled is =
    let left = head ∷ size in
    stream-fault bytes left spelled (Truncated (4 + length left)) (stream-cut bytes left spelled head size refl (is.0.stream refl) is.1) ∙ ap (λ m. Err (Truncated m)) (long bytes left spelled)
header-ends bytes (first ∷ more) [] front spelled is =
    let at = 4 + size_of (first ∷ more) in
    header-fault bytes first more [] (at + length {A = ℕ} []) front spelled (header-none at [] (omega arith)) ∙ ap (λ m. Err (Truncated m)) (all-long bytes [] (first ∷ more) spelled)
header-ends bytes (first ∷ more) (head ∷ size) front spelled is =
    let at = 4 + size_of (first ∷ more) in
    let here = head ∷ size in
    header-fault bytes first more here (at + length here) front spelled (header-cut at head size is.0.allowed is.1) ∙ ap (λ m. Err (Truncated m)) (all-long bytes here (first ∷ more) spelled)

-- the file ends within a body
body-long : (head : ℕ) (size here : List ℕ) → length size ≡ 3 → length (head ∷ (size ++ here)) ≡ 4 + length here
body-long head size here three = omega (arith, length-append size here, three)

body-ends : (bytes : List ℕ) (blocks : List Block) (head : ℕ) (size here : List ℕ) → AreFront blocks → IsHeader blocks head size → bytes ≡ front_bytes blocks ++ (head ∷ (size ++ here))
    → length here < big_endian size → (HasComments blocks head → AreCutComments (big_endian size) here) → metadata bytes ≡ Err (Truncated (length bytes))
body-ends bytes [] head size here front is spelled short cut =
    let left = head ∷ (size ++ here) in
    let place : 8 + length here ≡ length bytes = omega (arith, long bytes left spelled, body-long head size here is.size_bytes) in
    let two = stream-long bytes left spelled head size here refl (is.is_head.stream refl) is.size_bytes ∙ stream-length head here (big_endian size) (is.stream refl) in
    sound-fault bytes left spelled head here (Truncated (8 + length here)) two (sound-cut here (omega (arith, short, is.stream refl))) ∙ ap (λ m. Err (Truncated m)) place
body-ends bytes (first ∷ more) head size here front is spelled short cut =
    let at = 4 + size_of (first ∷ more) + 4 in
    let place : at + length here ≡ length bytes = omega (arith, all-long bytes (head ∷ (size ++ here)) (first ∷ more) spelled, body-long head size here is.size_bytes) in
    body-cut-fault bytes first more head size here (at + length here) front spelled is (body-cut (first ∷ more) front.found head at (big_endian size) here front.comments short cut) ∙ ap (λ m. Err (Truncated m)) place

forbidden-stands : (bytes : List ℕ) (at : ℕ) (blocks : List Block) (head : ℕ) (rest : List ℕ) → AreFront blocks → bytes ≡ front_bytes blocks ++ (head ∷ rest) → kind_of head ≡ 127 → at ≡ length (front_bytes blocks) → metadata bytes ≡ Err (Forbidden at)
forbidden-stands bytes at [] head rest front spelled kind place =
    let is : 4 ≡ at = sym place in
    stream-fault bytes (head ∷ rest) spelled (Forbidden 4) (stream-first bytes (head ∷ rest) spelled head rest refl ∙ stream-forbidden head rest kind) ∙ ap (λ m. Err (Forbidden m)) is
forbidden-stands bytes at (first ∷ more) head rest front spelled kind place =
    let here = 4 + size_of (first ∷ more) in
    let is : here ≡ at = omega (arith, place, front-long (first ∷ more)) in
    forbidden-fault bytes first more (head ∷ rest) here front spelled (header-first here head rest ∙ header-forbidden here head rest kind) ∙ ap (λ m. Err (Forbidden m)) is

bad-stands : (bytes : List ℕ) (at : ℕ) (blocks : List Block) (head : ℕ) (size before rest : List ℕ) → AreFront blocks → IsHeader blocks head size → HasComments blocks head
    → bytes ≡ front_bytes blocks ++ (head ∷ (size ++ (before ++ rest))) → AreBadComments (big_endian size) before rest → at ≡ length (front_bytes blocks) + 4 + length before → metadata bytes ≡ Err (BadComment at)
bad-stands bytes at [] head size before rest front is has spelled bad place = absurd (omega (arith, has.0, is.is_head.stream refl))
bad-stands bytes at (first ∷ more) head size before rest front is has spelled bad place =
    let here = 4 + size_of (first ∷ more) + 4 in
    let same : here + length before ≡ at = omega (arith, place, front-long (first ∷ more)) in
    body-bad-fault bytes first more head size (before ++ rest) (here + length before) front spelled is (body-bad (first ∷ more) front.found head here (big_endian size) before rest front.comments has bad) ∙ ap (λ m. Err (BadComment m)) same

-- what is refused by the form is refused by the reading
pub fault-read : (bytes : List ℕ) (refusal : FlacError) → IsRefused bytes refusal → metadata bytes ≡ Err refusal
fault-read bytes NotFlac (four, rest, spelled, four_long, other) = marker-fault bytes NotFlac (ap marker_at spelled ∙ marker-other four rest four_long other)
fault-read bytes NoStreamInfo (head, rest, spelled, other, allowed) =
    stream-fault bytes (head ∷ rest) spelled NoStreamInfo (stream-first bytes (head ∷ rest) spelled head rest refl ∙ stream-other head rest allowed other)
fault-read bytes BadStreamInfo (head, size, rest, spelled, kind, three, other) =
    let left = head ∷ (size ++ rest) in
    stream-fault bytes left spelled BadStreamInfo (stream-long bytes left spelled head size rest refl kind three ∙ stream-no_length head rest (big_endian size) other)
fault-read bytes (Forbidden at) is = forbidden-stands bytes at is.blocks is.head is.rest is.are_front is.spelled is.forbidden is.place
fault-read bytes (Truncated at) (place, inl short) = marker-fault bytes (Truncated (length bytes)) (marker-cut bytes short) ∙ ap (λ m. Err (Truncated m)) (sym place)
fault-read bytes (Truncated at) (place, inr (inl is)) = header-ends bytes is.blocks is.here is.are_front is.spelled is.is_part ∙ ap (λ m. Err (Truncated m)) (sym place)
fault-read bytes (Truncated at) (place, inr (inr is)) = body-ends bytes is.blocks is.head is.size is.here is.are_front is.is_header is.spelled is.short is.cut ∙ ap (λ m. Err (Truncated m)) (sym place)
fault-read bytes (BadComment at) is = bad-stands bytes at is.blocks is.head is.size is.before is.rest is.are_front is.is_header is.has_comments is.spelled is.bad is.place
fault-read bytes TooLong is =
    let at = 4 + size_of (is.first ∷ is.more) in
    limit-fault bytes is.first is.more (is.head ∷ (is.size ++ is.rest)) is.are_front is.spelled (header-long at is.head is.size is.rest is.allowed is.size_bytes ∙ header-too_long at is.head is.rest (big_endian is.size) (omega (arith, is.past)))
fault-read bytes ReadFault is = absurd is
fault-read bytes Mem is = absurd is

-- the result of a call on bytes that are refused
refused-judged : (bytes : List ℕ) (refusal other : FlacError) → metadata bytes ≡ Err refusal → Judged (metadata bytes) other → AnswersRefusal refusal (Err other)
refused-judged bytes refusal NotFlac h j = same_refusal {A = FlacInfo} NotFlac refusal (sym j ∙ h)
refused-judged bytes refusal NoStreamInfo h j = same_refusal {A = FlacInfo} NoStreamInfo refusal (sym j ∙ h)
refused-judged bytes refusal BadStreamInfo h j = same_refusal {A = FlacInfo} BadStreamInfo refusal (sym j ∙ h)
refused-judged bytes refusal (Forbidden at) h j = same_refusal {A = FlacInfo} (Forbidden at) refusal (sym j ∙ h)
refused-judged bytes refusal (Truncated at) h j = same_refusal {A = FlacInfo} (Truncated at) refusal (sym j ∙ h)
refused-judged bytes refusal (BadComment at) h j = same_refusal {A = FlacInfo} (BadComment at) refusal (sym j ∙ h)
refused-judged bytes refusal TooLong h j = same_refusal {A = FlacInfo} TooLong refusal (sym j ∙ h)
refused-judged bytes refusal ReadFault h j = tt
refused-judged bytes refusal Mem h j = tt

pub refuses-refusal : (bytes : List ℕ) (refusal : FlacError) → Judged (metadata bytes) refusal → RefusesWhatIs bytes (Err refusal)
refuses-refusal bytes refusal j other is = refused-judged bytes other refusal (fault-read bytes other is) j

pub refuses-value : (bytes rest : List ℕ) (info : FlacInfo) → metadata bytes ≡ Ok (info, rest) → RefusesWhatIs bytes (Ok info)
refuses-value bytes rest info e other is = ok-refused (info, rest) other (sym e ∙ fault-read bytes other is)
