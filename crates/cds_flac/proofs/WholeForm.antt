-- A whole file's metadata: the reading and the form say the same.
use Rattle.std.proofs.Common.{◌≡◌, ℕ, ◌+◌, ◌<◌, ◌≤◌, nat_eq, Bool, true, false, cond, not, List, [], ◌∷◌, ◌++◌, length, Option, None, Result, Ok, Err, refl, sym, ap, subst, ◌∙◌, arith}
use Rattle.std.specs.List.{flat_map}
use Rattle.std.specs.Result.{IsErrAnd}
use Rattle.std.specs.Str.{bytes_eq}
use Rattle.std.proofs.lemmas.Slice.Eq.{bytes_eq-Decides}
use Rattle.std.proofs.lemmas.Bool.Decides.{nat_tests}
use Rattle.cds_flac.specs.declared.error.FlacError.{FlacError}
use Rattle.cds_flac.specs.declared.error.FlacError.TheVariants.{NotFlac, NoStreamInfo, BadStreamInfo, Forbidden, Truncated, BadComment, TooLong, ReadFault, Mem}
use Rattle.cds_object.specs.declared.info.Comment.{Comment}
use Rattle.cds_object.specs.declared.info.FlacInfo.{FlacInfo}
use Rattle.cds_flac.specs.Numbers.{big_endian, sound_bits}
use Rattle.cds_flac.specs.Step.{Step, after, taken, big_number}
use Rattle.cds_flac.specs.Reading.{further_blocks, info_of, is_last, is_marker, kind_of, marker, marker_at, metadata, most_blocks, sound_at, stream_head, stream_of_head, stream_of_length}
use Rattle.cds_flac.specs.Agree.{Judged}
use Rattle.cds_flac.specs.Form.{Block, block_bytes, IsBlock, EachIsBlock, LastIsLast, FirstComments, IsMetadata, ReadAs}
use Rattle.cds_flac.proofs.Steps.{after-ok}
use Rattle.cds_flac.proofs.Heads.{stream-behind, stream-right, stream-length}
use Rattle.cds_flac.proofs.Shapes.{after-was, then-was, else-was, taken-was, taken-front, big-was, big-front, one_byte, same_pair}
use Rattle.cds_flac.proofs.ListForm.{walk-was, walk-front, block_spelled, block_long, head_apart}
use Rattle.cds_flac.proofs.Whole.{all}

-- equal bytes
pub bytes-were : (xs ys : List ℕ) → bytes_eq xs ys ≡ true → xs ≡ ys
bytes-were xs ys e = (bytes_eq-Decides xs ys).0 e

pub enough : 67108868 < most_blocks + 42
unfolding most_blocks
enough = omega arith

pub marker-was : (bytes : List ℕ) (found : Unit {0} × List ℕ) → marker_at bytes ≡ Ok found → bytes ≡ marker ++ found.1
unfolding marker_at
marker-was bytes found e =
    let was = after-was (taken 0 4 bytes) (λ four rest. is_marker four rest) found e in
    let four = taken-was 0 4 bytes was.0 was.1 in
    let pair : Unit {0} × List ℕ = (tt, was.0.1) in
    let checked = then-was (bytes_eq was.0.0 marker) NotFlac (Ok pair) found was.2 in
    let parts = same_unit pair found checked.1 in
    four.0 ∙ ap (λ xs. xs ++ was.0.1) (bytes-were was.0.0 marker checked.0) ∙ ap (λ xs. marker ++ xs) parts
  where
    same_unit : (x y : Unit {0} × List ℕ) → ◌≡◌ {A = Step (Unit {0})} (Ok x) (Ok y) → x.1 ≡ y.1
    same_unit x y e = (same_pair x y e).1

pub marker-front : (rest : List ℕ) → marker_at (marker ++ rest) ≡ Ok (tt, rest)
unfolding marker_at
marker-front rest = after-ok (λ four rest. is_marker four rest) (taken-front 0 4 marker rest refl)

pub equal-was : (m n : ℕ) → nat_eq m n ≡ true → m ≡ n
equal-was m n e = grind (arith, nat_tests)

pub not-was : (b : Bool) → not b ≡ false → b ≡ true
not-was true e = refl
not-was false e = absurd (cc)

-- the header of STREAMINFO that was read
pub record StreamRead (left : List ℕ) (head : ℕ) (rest : List ℕ) : Type 0 where
  pub size : List ℕ
  pub spelled : left ≡ head ∷ (size ++ rest)
  pub size_bytes : length size ≡ 3
  pub size_says : big_endian size ≡ 34
  pub kind : kind_of head ≡ 0

pub stream-was : (left : List ℕ) (found : ℕ × List ℕ) → stream_head left ≡ Ok found → StreamRead left found.0 found.1
unfolding stream_head
stream-was left found e =
    let was = after-was (big_number 4 1 left) (λ head rest. stream_of_head head rest) found e in
    let first = big-was 4 1 left was.0 was.1 in
    let byte = one_byte first.0 first.2 in
    let head = was.0.0 in
    let rest = was.0.1 in
    let sized : ℕ → List ℕ → Step ℕ = λ n rest. stream_of_length head n rest in
    let lengths : Step ℕ = after (big_number 5 3 rest) sized in
    let kinds : Step ℕ = cond (not (nat_eq (kind_of head) 0)) (Err NoStreamInfo) lengths in
    let allowed = else-was (nat_eq (kind_of head) 127) (Forbidden 4) kinds found was.2 in
    let stream = else-was (not (nat_eq (kind_of head) 0)) NoStreamInfo lengths found allowed.1 in
    let long = after-was (big_number 5 3 rest) sized found stream.1 in
    let size = big-was 5 3 rest long.0 long.1 in
    let pair : ℕ × List ℕ = (head, long.0.1) in
    let right = then-was (nat_eq long.0.0 34) BadStreamInfo (Ok pair) found long.2 in
    let parts = same_pair pair found right.1 in
    let is_head : byte.0 ≡ head = sym byte.2 ∙ first.3 in
    record {
      size = size.0;
      spelled = first.1 ∙ ap (λ xs. xs ++ rest) byte.1 ∙ ap (λ b. b ∷ rest) (is_head ∙ parts.0) ∙ ap (λ xs. found.0 ∷ xs) (size.1 ∙ ap (λ xs. size.0 ++ xs) parts.1);
      size_bytes = size.2;
      size_says = size.3 ∙ equal-was long.0.0 34 right.0;
      kind = ap kind_of (sym parts.0) ∙ equal-was (kind_of head) 0 (not-was (nat_eq (kind_of head) 0) stream.0);
    }

pub stream-front : (b : Block) (rest : List ℕ) → IsBlock b → kind_of b.head ≡ 0 → length b.body ≡ 34 → stream_head (b.head ∷ (b.size ++ rest)) ≡ Ok (b.head, rest)
stream-front b rest is kind long =
    let sized : ℕ → List ℕ → Step ℕ = λ n rest. stream_of_length b.head n rest in
    let byte : big_endian (b.head ∷ []) ≡ b.head = omega arith in
    let first : big_number 4 1 (b.head ∷ (b.size ++ rest)) ≡ Ok (b.head, b.size ++ rest) =
    big-front 4 1 (b.head ∷ []) (b.size ++ rest) refl ∙ ap (λ n. Ok (n, b.size ++ rest)) byte in
    stream-behind (b.head ∷ (b.size ++ rest)) (b.size ++ rest) b.head first
    ∙ stream-right b.head (b.size ++ rest) kind
    ∙ after-ok sized (big-front 5 3 b.size rest is.size_bytes)
    ∙ stream-length b.head rest (big_endian b.size) (is.size_says ∙ long)

pub sound-was : (left : List ℕ) (found : ℕ × List ℕ) → sound_at left ≡ Ok found → (body : List ℕ) × (left ≡ body ++ found.1) × (length body ≡ 34) × (sound_bits body ≡ found.0)
unfolding sound_at
sound-was left found e =
    let was = after-was (taken 8 34 left) (λ body rest. Ok (sound_bits body, rest)) found e in
    let body = taken-was 8 34 left was.0 was.1 in
    let pair : ℕ × List ℕ = (sound_bits was.0.0, was.0.1) in
    let parts = same_pair pair found was.2 in
    (was.0.0, body.0 ∙ ap (λ xs. was.0.0 ++ xs) parts.1, body.1, parts.0)

pub sound-front : (body rest : List ℕ) → length body ≡ 34 → sound_at (body ++ rest) ≡ Ok (sound_bits body, rest)
unfolding sound_at
sound-front body rest long = after-ok (λ body rest. Ok (sound_bits body, rest)) (taken-front 8 34 body rest long)

-- the blocks after the first that were read
record FurtherRead (last : Bool) (first : Block) (left rest : List ℕ) (found : Option (List Comment)) : Type 0 where
  more : List Block
  spelled : left ≡ flat_map block_bytes more ++ rest
  each_is_block : EachIsBlock more
  last_is_last : is_last first.head ≡ last → LastIsLast first more
  within : 42 + length (flat_map block_bytes more) ≤ 67108868
  comments : FirstComments more found

further-was : (last : Bool) (first : Block) (left : List ℕ) (result : Option (List Comment) × List ℕ) → further_blocks last 42 left ≡ Ok result → FurtherRead last first left result.1 result.0
further-was true first left result e =
    let pair : Option (List Comment) × List ℕ = (None, left) in
    let parts = same_pair pair result e in
    record {
      more = [];
      spelled = parts.1;
      each_is_block = tt;
      last_is_last = λ h. h;
      within = omega arith;
      comments = sym parts.0;
    }
further-was false first left result e =
    let read = walk-was most_blocks None 42 left result e in
    record {
      more = read.first ∷ read.more;
      spelled = read.spelled;
      each_is_block = read.each_is_block;
      last_is_last = λ h. (h, read.last_is_last);
      within = read.within;
      comments = read.comments;
    }

further-front : (first : Block) (more : List Block) (rest : List ℕ) (found : Option (List Comment)) → EachIsBlock more → LastIsLast first more → 42 + length (flat_map block_bytes more) ≤ 67108868 → FirstComments more found → further_blocks (is_last first.head) 42 (flat_map block_bytes more ++ rest) ≡ Ok (found, rest)
further-front first [] rest found each last within comments =
    ap (λ b. further_blocks b 42 rest) last ∙ ap (λ f. Ok (f, rest)) (sym comments)
further-front first (next ∷ more) rest found each last within comments =
    ap (λ b. further_blocks b 42 (flat_map block_bytes (next ∷ more) ++ rest)) last.0
    ∙ walk-front next more most_blocks None 42 rest found each last.1 within enough comments

same_info : (x y : FlacInfo × List ℕ) → ◌≡◌ {A = Step FlacInfo} (Ok x) (Ok y) → (x.0 ≡ y.0) × (x.1 ≡ y.1)
same_info x y e = same_pair x y e

-- what was read is in the form
pub form-was : (bytes : List ℕ) (result : FlacInfo × List ℕ) → metadata bytes ≡ Ok result → IsMetadata bytes result.1 result.0
unfolding metadata
form-was bytes result e =
    let from_blocks : ℕ → Option (List Comment) → List ℕ → Step FlacInfo = λ bits found rest. Ok (info_of bits found, rest) in
    let from_sound : ℕ → ℕ → List ℕ → Step FlacInfo = λ head bits rest. after (further_blocks (is_last head) 42 rest) (from_blocks bits) in
    let from_head : ℕ → List ℕ → Step FlacInfo = λ head rest. after (sound_at rest) (from_sound head) in
    let from_marker : Unit {0} → List ℕ → Step FlacInfo = λ done rest. after (stream_head rest) from_head in
    let one = after-was (marker_at bytes) from_marker result e in
    let two = after-was (stream_head one.0.1) from_head result one.2 in
    let head = two.0.0 in
    let three = after-was (sound_at two.0.1) (from_sound head) result two.2 in
    let four = after-was (further_blocks (is_last head) 42 three.0.1) (from_blocks three.0.0) result three.2 in
    let stream = stream-was one.0.1 two.0 two.1 in
    let sound = sound-was two.0.1 three.0 three.1 in
    let first : Block = record { head = head; size = stream.size; body = sound.0 } in
    let further = further-was (is_last head) first three.0.1 four.0 four.1 in
    let info : FlacInfo × List ℕ = (info_of three.0.0 four.0.0, four.0.1) in
    let parts = same_info info result four.2 in
    let flat = flat_map block_bytes further.more in
    let not_forbidden : kind_of head ≡ 127 → ⊥ = λ h. omega (arith, h, stream.kind) in
    record {
      first = first;
      more = further.more;
      found = four.0.0;
      spelled = marker-was bytes one.0 one.1 ∙ ap (λ xs. marker ++ xs) (block_spelled head stream.size sound.0 flat result.1 one.0.1 two.0.1 three.0.1 stream.spelled sound.1 (further.spelled ∙ ap (λ xs. flat ++ xs) parts.1));
      each_is_block = (record { size_bytes = stream.size_bytes; size_says = stream.size_says ∙ sym sound.2; allowed = not_forbidden }, further.each_is_block);
      last_is_last = further.last_is_last refl;
      within = omega (arith, further.within, sound.2, block_long head stream.size sound.0 flat stream.size_bytes);
      stream_kind = stream.kind;
      stream_length = sound.2;
      comments = further.comments;
      says = sym parts.0 ∙ ap (λ bits. info_of bits four.0.0) (sym sound.3);
    }

-- what is in the form is read
pub form-front : (bytes rest : List ℕ) (info : FlacInfo) → IsMetadata bytes rest info → metadata bytes ≡ Ok (info, rest)
form-front bytes rest info is =
    let first = is.first in
    let flat = flat_map block_bytes is.more in
    let behind = flat ++ rest in
    let one = first.head ∷ (first.size ++ (first.body ++ behind)) in
    let long = block_long first.head first.size first.body flat is.each_is_block.0.size_bytes in
    let spelled : bytes ≡ marker ++ one = is.spelled ∙ ap (λ xs. marker ++ xs) (head_apart first flat rest) in
    let blocks = further-front first is.more rest is.found is.each_is_block.1 is.last_is_last (omega (arith, is.within, is.stream_length, long)) is.comments in
    all bytes tt one (ap marker_at spelled ∙ marker-front one)
    first.head (first.body ++ behind) (stream-front first (first.body ++ behind) is.each_is_block.0 is.stream_kind is.stream_length)
    (sound_bits first.body) behind (sound-front first.body behind is.stream_length)
    is.found rest blocks
    ∙ ap (λ i. Ok (i, rest)) (sym is.says)

-- bytes in the form are refused for nothing that they hold
pub never_refused : (bytes rest : List ℕ) (info : FlacInfo) (refusal : FlacError) → Judged (metadata bytes) refusal → IsMetadata bytes rest info → ReadAs info (Err refusal)
never_refused bytes rest info NotFlac h is = let e = form-front bytes rest info is in absurd (cc)
never_refused bytes rest info NoStreamInfo h is = let e = form-front bytes rest info is in absurd (cc)
never_refused bytes rest info BadStreamInfo h is = let e = form-front bytes rest info is in absurd (cc)
never_refused bytes rest info (Forbidden at) h is = let e = form-front bytes rest info is in absurd (cc)
never_refused bytes rest info (Truncated at) h is = let e = form-front bytes rest info is in absurd (cc)
never_refused bytes rest info (BadComment at) h is = let e = form-front bytes rest info is in absurd (cc)
never_refused bytes rest info TooLong h is = let e = form-front bytes rest info is in absurd (cc)
never_refused bytes rest info ReadFault h is = tt
never_refused bytes rest info Mem h is = tt

-- they say one thing
pub says_one : (bytes rest other : List ℕ) (found info : FlacInfo) → metadata bytes ≡ Ok (found, rest) → IsMetadata bytes other info → found ≡ info
says_one bytes rest other found info e is =
    let one : FlacInfo × List ℕ = (found, rest) in
    let two : FlacInfo × List ℕ = (info, other) in
    (same_info one two (sym e ∙ form-front bytes other info is)).0

-- what a `?` hands on
pub handed_on : {A : Type 0} (P : Result A FlacError → Type 0) (result : Result A FlacError) (refusal : FlacError) → IsErrAnd result (λ e. e ≡ refusal) → P (Err refusal) → P result
handed_on P (Ok value) refusal same h = absurd same
handed_on P (Err e) refusal same h = subst (λ r. P (Err r)) (sym same) h
