-- A whole file's metadata that was refused: the form says why.
use Rattle.std.proofs.Common.{◌≡◌, ℕ, ◌+◌, ◌<◌, nat_eq, Bool, true, false, cond, not, List, [], ◌∷◌, ◌++◌, length, Option, None, Ok, Err, refl, sym, ap, subst, ◌∙◌, inl, inr, arith, append_assoc, length-append, Some, MatchOption}
use Rattle.std.proofs.lemmas.Bool.Decides.{nat_tests}
use Rattle.std.specs.List.{flat_map}
use Rattle.std.specs.Str.{bytes_eq}
use Rattle.std.proofs.lemmas.Slice.Eq.{bytes_eq-Decides}
use Rattle.cds_flac.specs.declared.error.FlacError.{FlacError}
use Rattle.cds_flac.specs.declared.error.FlacError.TheVariants.{NotFlac, NoStreamInfo, BadStreamInfo, Forbidden, Truncated, BadComment, TooLong, ReadFault, Mem}
use Rattle.cds_object.specs.declared.info.Comment.{Comment}
use Rattle.cds_object.specs.declared.info.FlacInfo.{FlacInfo}
use Rattle.cds_flac.specs.Numbers.{big_endian, sound_bits}
use Rattle.cds_flac.specs.Step.{Step, after, taken, big_number}
use Rattle.cds_flac.specs.Reading.{blocks_from, further_blocks, info_of, is_last, is_marker, kind_of, marker, marker_at, metadata, metadata_limit, most_blocks, sound_at, stream_head, stream_of_head, stream_of_length}
use Rattle.cds_flac.specs.Agree.{Judged}
use Rattle.cds_flac.specs.Form.{Block, block_bytes, IsBlock, is_comment_block, FirstComments}
use Rattle.cds_flac.specs.Refused.{size_of, front_bytes, AreFront, IsHead, IsHeader, HasComments, AreCutComments, IsRefused, RefusedAs}
use Rattle.cds_flac.proofs.Shapes.{big-was, one_byte, taken-was}
use Rattle.cds_flac.proofs.ListForm.{SaidBy, block_long, head_apart}
use Rattle.cds_flac.proofs.WholeForm.{not-was, marker-was, StreamRead, stream-was, sound-was}
use Rattle.cds_flac.proofs.Refusals.{ok-refused, same_refusal, after-refused, choice-refused, taken-refused, big-refused}
use Rattle.cds_flac.proofs.RefusedBlocks.{Walked, part-none, truncated, equal-false-was, equal-true-was, walk-refused}

enough : metadata_limit < most_blocks + 38
unfolding most_blocks
enough = omega arith

-- no block stands before
no-front : AreFront []
no-front = record { each_is_block = tt; none_is_last = tt; stream = tt; found = None; comments = refl; within = omega arith }

unequal-was : (four : List ℕ) → bytes_eq four marker ≡ false → four ≡ marker → ⊥
unequal-was four e same = two (sym ((bytes_eq-Decides four marker).1 same) ∙ e) where
  two : true ≡ false → ⊥
  two h = cc

-- the marker was refused
marker-refused : (bytes : List ℕ) (e : FlacError) → marker_at bytes ≡ Err e → IsRefused bytes e
unfolding marker_at
marker-refused bytes e h =
    let next : List ℕ → List ℕ → Step (Unit {0}) = λ four rest. is_marker four rest in
    elim (after-refused (taken 0 4 bytes) next e h) [
      | inl cut ↦ (let was = taken-refused 0 4 bytes e cut in truncated bytes (0 + length bytes) e was.0 (omega arith) (inl was.1))
      | inr found ↦ (
          let four = found.0.0 in
          let rest = found.0.1 in
          let taken = taken-was 0 4 bytes found.0 found.1 in
          let right : Step (Unit {0}) = Ok (tt, rest) in
          let wrong : Step (Unit {0}) = Err NotFlac in
          elim (choice-refused (bytes_eq four marker) right wrong e found.2) [
            | inl same ↦ absurd (ok-refused (tt, rest) e same.1)
            | inr other ↦ subst (λ r. IsRefused bytes r) (same_refusal {A = Unit {0}} NotFlac e other.1) (four, rest, taken.0, taken.1, unequal-was four other.0)
          ]
          )
    ]

-- STREAMINFO alone has no comments
no-comments : (b : Block) → kind_of b.head ≡ 0 → FirstComments (b ∷ []) None
unfolding SaidBy
no-comments b kind =
    let other : is_comment_block b ≡ false = test (kind_of b.head) kind in
    let none : ◌≡◌ {A = Option (List Comment)} None None = refl in
    subst (λ t. MatchOption (cond t (Some b) None) (◌≡◌ {A = Option (List Comment)} None None) (SaidBy None)) (sym other) none
  where
    test : (n : ℕ) → n ≡ 0 → nat_eq n 4 ≡ false
    test n e = grind (arith, nat_tests)

one-front : (b : Block) (rest : List ℕ) → marker ++ (b.head ∷ (b.size ++ (b.body ++ rest))) ≡ front_bytes (b ∷ []) ++ rest
one-front b rest = ap (λ xs. marker ++ xs) (sym (head_apart b [] rest)) ∙ sym (append_assoc marker (flat_map block_bytes (b ∷ [])) rest)

-- the bytes behind the marker
module _ (bytes : List ℕ) (left : List ℕ) (e : FlacError) (spelled : bytes ≡ marker ++ left) where
  long : length bytes ≡ 4 + length left
  long = ap length spelled ∙ length-append marker left

  stream-length-refused : (head : ℕ) (rest : List ℕ) → left ≡ head ∷ rest → kind_of head ≡ 0 → after (big_number 5 3 rest) (λ n rest. stream_of_length head n rest) ≡ Err e → IsRefused bytes e
  stream-length-refused head rest same kind h =
      let next : ℕ → List ℕ → Step ℕ = λ n rest. stream_of_length head n rest in
      let all : length left ≡ 1 + length rest = omega (arith, ap length same) in
      elim (after-refused (big_number 5 3 rest) next e h) [
        | inl cut ↦ (
            let was = big-refused 5 3 rest e cut in
            let is_head : IsHead [] head = record { allowed = λ f. omega (arith, f, kind); stream = λ none. kind } in
            truncated bytes (5 + length rest) e was.0 (omega (arith, long, all))
            (inr (inl record { blocks = []; here = head ∷ rest; are_front = no-front; spelled = spelled ∙ ap (λ xs. marker ++ xs) same; is_part = (is_head, was.1) }))
            )
        | inr found ↦ (
            let size = big-was 5 3 rest found.0 found.1 in
            let n = found.0.0 in
            let right : Step ℕ = Ok (head, found.0.1) in
            let wrong : Step ℕ = Err BadStreamInfo in
            elim (choice-refused (nat_eq n 34) right wrong e found.2) [
              | inl is ↦ absurd (ok-refused (head, found.0.1) e is.1)
              | inr other ↦ (
                  let not_34 : big_endian size.0 ≡ 34 → ⊥ = λ f. equal-false-was n 34 other.0 (sym size.3 ∙ f) in
                  subst (λ r. IsRefused bytes r) (same_refusal {A = ℕ} BadStreamInfo e other.1)
                  (head, size.0, found.0.1, spelled ∙ ap (λ xs. marker ++ xs) (same ∙ ap (λ xs. head ∷ xs) size.1), kind, size.2, not_34)
                  )
            ]
            )
      ]

  stream-head-refused : (head : ℕ) (rest : List ℕ) → left ≡ head ∷ rest → stream_of_head head rest ≡ Err e → IsRefused bytes e
  stream-head-refused head rest same h =
      let sized : Step ℕ = after (big_number 5 3 rest) (λ n rest. stream_of_length head n rest) in
      let other_kind : Step ℕ = Err NoStreamInfo in
      let kinds : Step ℕ = cond (not (nat_eq (kind_of head) 0)) other_kind sized in
      let forbidden : Step ℕ = Err (Forbidden 4) in
      let whole : bytes ≡ marker ++ (head ∷ rest) = spelled ∙ ap (λ xs. marker ++ xs) same in
      elim (choice-refused (nat_eq (kind_of head) 127) forbidden kinds e h) [
        | inl bad ↦ subst (λ r. IsRefused bytes r) (same_refusal {A = ℕ} (Forbidden 4) e bad.1) record {
          blocks = [];
          head = head;
          rest = rest;
          are_front = no-front;
          spelled = whole;
          forbidden = equal-true-was (kind_of head) 127 bad.0;
          place = refl;
        }
        | inr good ↦ (
            let allowed = equal-false-was (kind_of head) 127 good.0 in
            elim (choice-refused (not (nat_eq (kind_of head) 0)) other_kind sized e good.1) [
              | inl other ↦ subst (λ r. IsRefused bytes r) (same_refusal {A = ℕ} NoStreamInfo e other.1) (head, rest, whole, equal-false-was (kind_of head) 0 (not-true-was (nat_eq (kind_of head) 0) other.0), allowed)
              | inr is ↦ stream-length-refused head rest same (equal-true-was (kind_of head) 0 (not-was (nat_eq (kind_of head) 0) is.0)) is.1
            ]
            )
      ]
    where
      not-true-was : (b : Bool) → not b ≡ true → b ≡ false
      not-true-was true e = absurd (cc)
      not-true-was false e = refl

  stream-refused : stream_head left ≡ Err e → IsRefused bytes e
  unfolding stream_head
  stream-refused h =
      let next : ℕ → List ℕ → Step ℕ = λ head rest. stream_of_head head rest in
      elim (after-refused (big_number 4 1 left) next e h) [
        | inl none ↦ (
            let was = big-refused 4 1 left e none in
            truncated bytes (4 + length left) e was.0 (sym long)
            (inr (inl record { blocks = []; here = left; are_front = no-front; spelled = spelled; is_part = part-none [] left was.1 }))
            )
        | inr one ↦ (
            let byte = big-was 4 1 left one.0 one.1 in
            let is = one_byte byte.0 byte.2 in
            let same : is.0 ≡ one.0.0 = sym is.2 ∙ byte.3 in
            stream-head-refused one.0.0 one.0.1 (byte.1 ∙ ap (λ xs. xs ++ one.0.1) is.1 ∙ ap (λ b. b ∷ one.0.1) same) one.2
            )
      ]

  sound-refused : (head : ℕ) (rest : List ℕ) → StreamRead left head rest → sound_at rest ≡ Err e → IsRefused bytes e
  unfolding sound_at
  sound-refused head rest stream h =
      let next : List ℕ → List ℕ → Step ℕ = λ body rest. Ok (sound_bits body, rest) in
      let whole : bytes ≡ marker ++ (head ∷ (stream.size ++ rest)) = spelled ∙ ap (λ xs. marker ++ xs) stream.spelled in
      let all : length left ≡ 4 + length rest = omega (arith, ap length stream.spelled, length-append stream.size rest, stream.size_bytes) in
      let is_head : IsHead [] head = record { allowed = λ f. omega (arith, f, stream.kind); stream = λ none. stream.kind } in
      let is_header : IsHeader [] head stream.size = record { is_head = is_head; size_bytes = stream.size_bytes; stream = λ none. stream.size_says; within = omega (arith, stream.size_says) } in
      let none : HasComments [] head → AreCutComments (big_endian stream.size) rest = λ has. absurd (omega (arith, has.0, stream.kind)) in
      elim (after-refused (taken 8 34 rest) next e h) [
        | inl cut ↦ (
            let was = taken-refused 8 34 rest e cut in
            let short : length rest < big_endian stream.size = omega (arith, was.1, stream.size_says) in
            truncated bytes (8 + length rest) e was.0 (omega (arith, long, all))
            (inr (inr record { blocks = []; head = head; size = stream.size; here = rest; are_front = no-front; is_header = is_header; spelled = whole; short = short; cut = none }))
            )
        | inr kept ↦ absurd (ok-refused (sound_bits kept.0.0, kept.0.1) e kept.2)
      ]

  further-refused : (head : ℕ) (rest : List ℕ) → StreamRead left head rest → (bits : ℕ) (third : List ℕ) → (body : List ℕ) × (rest ≡ body ++ third) × (length body ≡ 34) × (sound_bits body ≡ bits)
      → (last : Bool) → is_last head ≡ last → further_blocks last 42 third ≡ Err e → IsRefused bytes e
  further-refused head rest stream bits third sound true last h = absurd (ok-refused (None, third) e h)
  further-refused head rest stream bits third sound false last h =
      let body = sound.0 in
      let first : Block = record { head = head; size = stream.size; body = body } in
      let size : size_of (first ∷ []) ≡ 38 = block_long head stream.size body [] stream.size_bytes ∙ ap (λ n. 4 + n + 0) sound.2 in
      let is_block : IsBlock first = record { size_bytes = stream.size_bytes; size_says = stream.size_says ∙ sym sound.2; allowed = λ f. omega (arith, f, stream.kind) } in
      let flat : bytes ≡ front_bytes (first ∷ []) ++ third = spelled ∙ ap (λ xs. marker ++ xs) (stream.spelled ∙ ap (λ xs. head ∷ (stream.size ++ xs)) sound.1) ∙ one-front first third in
      let walked : Walked bytes first [] None third = record {
        each_is_block = (is_block, tt);
        none_is_last = (last, tt);
        stream = (stream.kind, sound.2);
        comments = no-comments first stream.kind;
        within = omega (arith, size);
        spelled = flat;
      } in
      let place : 42 ≡ 4 + size_of (first ∷ []) = omega (arith, size) in
      walk-refused most_blocks bytes first [] None third e walked (omega (arith, size, enough)) (subst (λ q. blocks_from most_blocks None q third ≡ Err e) place h)

-- the metadata was refused
pub metadata-refused : (bytes : List ℕ) (e : FlacError) → metadata bytes ≡ Err e → IsRefused bytes e
unfolding metadata
metadata-refused bytes e h =
    let from_blocks : ℕ → Option (List Comment) → List ℕ → Step FlacInfo = λ bits found rest. Ok (info_of bits found, rest) in
    let from_sound : ℕ → ℕ → List ℕ → Step FlacInfo = λ head bits rest. after (further_blocks (is_last head) 42 rest) (from_blocks bits) in
    let from_head : ℕ → List ℕ → Step FlacInfo = λ head rest. after (sound_at rest) (from_sound head) in
    let from_marker : Unit {0} → List ℕ → Step FlacInfo = λ done rest. after (stream_head rest) from_head in
    elim (after-refused (marker_at bytes) from_marker e h) [
      | inl none ↦ marker-refused bytes e none
      | inr one ↦ (
          let left = one.0.1 in
          let spelled = marker-was bytes one.0 one.1 in
          elim (after-refused (stream_head left) from_head e one.2) [
            | inl none ↦ stream-refused bytes left e spelled none
            | inr two ↦ (
                let head = two.0.0 in
                let rest = two.0.1 in
                let stream = stream-was left two.0 two.1 in
                elim (after-refused (sound_at rest) (from_sound head) e two.2) [
                  | inl none ↦ sound-refused bytes left e spelled head rest stream none
                  | inr three ↦ (
                      let bits = three.0.0 in
                      let third = three.0.1 in
                      let sound = sound-was rest three.0 three.1 in
                      elim (after-refused (further_blocks (is_last head) 42 third) (from_blocks bits) e three.2) [
                        | inl none ↦ further-refused bytes left e spelled head rest stream bits third sound (is_last head) refl none
                        | inr kept ↦ absurd (ok-refused (info_of bits kept.0.0, kept.0.1) e kept.2)
                      ]
                      )
                ]
                )
          ]
          )
    ]

-- what a refusal says of the bytes
pub refused-as : (bytes : List ℕ) (refusal : FlacError) → Judged (metadata bytes) refusal → RefusedAs bytes (Err refusal)
refused-as bytes NotFlac h = metadata-refused bytes NotFlac h
refused-as bytes NoStreamInfo h = metadata-refused bytes NoStreamInfo h
refused-as bytes BadStreamInfo h = metadata-refused bytes BadStreamInfo h
refused-as bytes (Forbidden at) h = metadata-refused bytes (Forbidden at) h
refused-as bytes (Truncated at) h = metadata-refused bytes (Truncated at) h
refused-as bytes (BadComment at) h = metadata-refused bytes (BadComment at) h
refused-as bytes TooLong h = metadata-refused bytes TooLong h
refused-as bytes ReadFault h = tt
refused-as bytes Mem h = tt
