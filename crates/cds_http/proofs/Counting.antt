-- Bytes of a body by their number, and to the end of the connection.
use Rattle.std.proofs.Common.{◌≡◌, ℕ, zero, suc, ◌+◌, ◌<◌, ◌≤◌, Bool, false, List, [], ◌∷◌, ◌++◌, length, take, drop, Ok, Err, if◌then◌else◌, refl, sym, ap, ◌∙◌, subst, inl, inr, arith, append_assoc, zero-add}
use Rattle.std.proofs.Common.{length-append}
use Rattle.std.proofs.lemmas.Bool.{cases_lt}
use Rattle.std.proofs.lemmas.List.{append-nil, take_at, drop_at, take_all, length-take-le}
use Rattle.cds_http.specs.declared.error.HttpError.TheVariants.{TooLong}
use Rattle.cds_http.specs.declared.body.Part.TheVariants.{Counted, ToEnd, Data}
use Rattle.cds_http.specs.declared.body.Progress.TheVariants.{More, Whole as WholeBody}
use Rattle.cds_http.specs.Known.{Known, Whole, Needs, Refused, Then}
use Rattle.cds_http.specs.Framing.{body_limit}
use Rattle.cds_http.specs.Chunks.{counted, open_body, behind, closing, ChunksFrom}
use Rattle.cds_http.specs.Steps.{Waits, Goes}
use Rattle.cds_http.proofs.Cuts.{le_true, le_false}

take_past : (a b : List ℕ) (n : ℕ) → take (length a + n) (a ++ b) ≡ a ++ take n b
take_past [] b n = ap (λ (k : ℕ). take k b) (zero-add n)
take_past (x ∷ a) b n =
    let same : suc (length a) + n ≡ suc (length a + n) = omega arith in
    ap (λ (k : ℕ). take k (x ∷ (a ++ b))) same ∙ ap (λ (l : List ℕ). x ∷ l) (take_past a b n)

drop_past : (a b : List ℕ) (n : ℕ) → drop (length a + n) (a ++ b) ≡ drop n b
drop_past [] b n = ap (λ (k : ℕ). drop k b) (zero-add n)
drop_past (x ∷ a) b n =
    let same : suc (length a) + n ≡ suc (length a + n) = omega arith in
    ap (λ (k : ℕ). drop k (x ∷ (a ++ b))) same ∙ drop_past a b n

pub counted_whole : (n : ℕ) (bytes : List ℕ) → n ≤ length bytes → counted n bytes ≡ Whole (take n bytes) (drop n bytes)
counted_whole n bytes h = ap (λ (b : Bool). if b then Whole (take n bytes) (drop n bytes) else Needs) (le_true n (length bytes) h)

pub counted_needs : (n : ℕ) (bytes : List ℕ) → length bytes < n → counted n bytes ≡ Needs
counted_needs n bytes h = ap (λ (b : Bool). if b then Whole (take n bytes) (drop n bytes) else Needs) (le_false n (length bytes) h)

-- all bytes are there
pub counted_done : (body front more : List ℕ) → behind body (counted (length front) (front ++ more)) ≡ Whole (body ++ front) more
counted_done body front more =
    ap (behind body) (counted_whole (length front) (front ++ more) (omega (arith, length-append front more)))
    ∙ ap (λ (t : List ℕ). Whole (body ++ t) (drop (length front) (front ++ more))) (take_at front more (length front) refl)
    ∙ ap (λ (t : List ℕ). Whole (body ++ front) t) (drop_at front more (length front) refl)

-- the bytes that came count, and the others are counted on
counted_on : (body front more : List ℕ) (left : ℕ)
    → behind (body ++ front) (counted left more) ≡ behind body (counted (length front + left) (front ++ more))
counted_on body front more left = elim (cases_lt (length more) left) [
  | inl short ↦
      ap (behind (body ++ front)) (counted_needs left more short)
      ∙ sym (ap (behind body) (counted_needs (length front + left) (front ++ more) (omega (arith, length-append front more, short))))
  | inr long ↦
      ap (behind (body ++ front)) (counted_whole left more long)
      ∙ ap (λ (t : List ℕ). Whole t (drop left more)) (append_assoc body front (take left more))
      ∙ sym (
      ap (behind body) (counted_whole (length front + left) (front ++ more) (omega (arith, length-append front more, long)))
      ∙ ap (λ (t : List ℕ). Whole (body ++ t) (drop (length front + left) (front ++ more))) (take_past front more left)
      ∙ ap (λ (t : List ℕ). Whole (body ++ (front ++ take left more)) t) (drop_past front more left)
      )
]

-- the same where some bytes of a piece are used
pub counted_used : (body piece more : List ℕ) (left rest used : ℕ) → used ≤ length piece → used + rest ≡ left
    → behind (body ++ take used piece) (counted rest more) ≡ behind body (counted left (take used piece ++ more))
counted_used body piece more left rest used within same =
    counted_on body (take used piece) more rest
    ∙ ap (λ (n : ℕ). behind body (counted n (take used piece ++ more))) (ap (λ (n : ℕ). n + rest) (length-take-le used piece within) ∙ same)

pub take_full : (piece : List ℕ) → take (length piece) piece ≡ piece
take_full piece = take_all (length piece) piece (omega arith)

pub goes_counted_whole : (body after piece : List ℕ) (left : ℕ) → left ≤ length piece → after ≡ body ++ take left piece
    → Goes (record { bytes = body; part = Counted left }) piece (Ok (WholeBody after left))
goes_counted_whole body after piece left h is = (
  h,
  λ ended more.
      ap (λ (t : List ℕ). Whole t more) is ∙ sym (counted_done body (take left piece) more)
      ∙ ap (λ (n : ℕ). behind body (counted n (take left piece ++ more))) (length-take-le left piece h),
)

waits_counted : (body : List ℕ) (left : ℕ) → 0 < left → Waits (record { bytes = body; part = Counted left })
waits_counted body left some = sym (ap (behind body) (counted_needs left [] some))

pub goes_counted_more : (body after piece : List ℕ) (left rest : ℕ) → length piece < left → length piece + rest ≡ left → after ≡ body ++ piece
    → Goes (record { bytes = body; part = Counted left }) piece
    (Ok (More (record { bytes = after; part = Counted rest }) (length piece)))
goes_counted_more body after piece left rest h same is =
    let used : after ≡ body ++ take (length piece) piece = is ∙ ap (λ (t : List ℕ). body ++ t) (sym (take_full piece)) in (
      omega arith,
      tt,
      waits_counted after rest (omega (arith, h, same)),
      λ ended more known say. say ∙ ap (λ (b : List ℕ). behind b (counted rest more)) used
          ∙ counted_used body piece more left rest (length piece) (omega arith) same,
    )

open_fits : (ended : Bool) (bytes : List ℕ) → length bytes ≤ body_limit → open_body ended bytes ≡ (if ended then Whole bytes [] else Needs)
open_fits ended bytes h = ap (λ (b : Bool). if b then (if ended then Whole bytes [] else Needs) else Refused TooLong) (le_true (length bytes) body_limit h)

open_long : (ended : Bool) (bytes : List ℕ) → body_limit < length bytes → open_body ended bytes ≡ Refused TooLong
open_long ended bytes h = ap (λ (b : Bool). if b then (if ended then Whole bytes [] else Needs) else Refused TooLong) (le_false (length bytes) body_limit h)

pub goes_open : (body after piece : List ℕ) → after ≡ body ++ piece → length body + length piece ≤ body_limit
    → Goes (record { bytes = body; part = ToEnd }) piece (Ok (More (record { bytes = after; part = ToEnd }) (length piece)))
goes_open body after piece is short =
    let fits : length after ≤ body_limit = omega (arith, ap length is, length-append body piece) in (
      omega arith,
      fits,
      sym (open_fits false (after ++ []) (omega (arith, ap length (append-nil after)))),
      λ ended more known say. say
          ∙ ap (λ (b : List ℕ). open_body ended (b ++ more)) is
          ∙ ap (open_body ended) (append_assoc body piece more)
          ∙ ap (λ (p : List ℕ). open_body ended (body ++ (p ++ more))) (sym (take_full piece)),
    )

pub refuses_open : (body piece : List ℕ) → body_limit < length body + length piece
    → Goes (record { bytes = body; part = ToEnd }) piece (Err TooLong)
refuses_open body piece long ended more =
    sym (open_long ended (body ++ (piece ++ more)) (omega (arith, length-append body (piece ++ more), length-append piece more)))

closing_waits : (body : List ℕ) (left : ℕ) → closing (behind body (counted left [])) ≡ Needs
closing_waits body zero = refl
closing_waits body (suc n) = ap (λ (k : Known (List ℕ)). closing (behind body k)) (counted_needs (suc n) [] (omega arith))

pub waits_data : (body : List ℕ) (left : ℕ) → Waits (record { bytes = body; part = Data left })
waits_data body left =
    (0, subst (λ (k : Known (List ℕ)). Then {A = List ℕ} {B = List ℕ} k (ChunksFrom 0) Needs) (sym (closing_waits body left)) refl)

pub goes_data : (body after piece : List ℕ) (left rest used : ℕ) → used ≤ length piece → used + rest ≡ left → after ≡ body ++ take used piece
    → Goes (record { bytes = body; part = Data left }) piece (Ok (More (record { bytes = after; part = Data rest }) used))
goes_data body after piece left rest used within same is = (
  within,
  tt,
  waits_data after rest,
  λ ended more known say. (
    say.0,
    subst (λ (k : Known (List ℕ)). Then {A = List ℕ} {B = List ℕ} (closing k) (ChunksFrom say.0) known)
        (ap (λ (b : List ℕ). behind b (counted rest more)) is ∙ counted_used body piece more left rest used within same)
        say.1,
  ),
)
