-- Chunk lines, what is behind the bytes of a chunk, and the trailer.
use Rattle.std.proofs.Common.{◌≡◌, ℕ, zero, suc, ◌+◌, ◌<◌, ◌≤◌, ◌≢◌, ◌⊎◌, Bool, List, [], ◌∷◌, ◌++◌, length, take, drop, Ok, Err, if◌then◌else◌, refl, sym, ap, ◌∙◌, subst, inl, inr, arith, append_assoc}
use Rattle.std.proofs.lemmas.Bool.Decides.{nat_tests}
use Rattle.std.proofs.lemmas.List.{append-nil, take-append-drop}
use Rattle.cds_http.specs.declared.error.HttpError.{HttpError}
use Rattle.cds_http.specs.declared.error.HttpError.TheVariants.{BadHead, HeadTooLong, BadLength, BadChunk, TooLong, Truncated, Failed, Mem}
use Rattle.cds_http.specs.declared.lines.LinePlace.{LinePlace}
use Rattle.cds_http.specs.declared.lines.LinePlace.TheVariants.{Fresh, InLine}
use Rattle.cds_http.specs.declared.lines.Scan.TheVariants.{Open}
use Rattle.cds_http.specs.declared.lines.Front.{Front}
use Rattle.cds_http.specs.declared.body.Body.{Body}
use Rattle.cds_http.specs.declared.body.Part.TheVariants.{Line, Data, Close, Trailer}
use Rattle.cds_http.specs.declared.body.Progress.TheVariants.{More, Whole as WholeBody}
use Rattle.cds_http.specs.Known.{Known, Whole, Needs, Refused, Then}
use Rattle.cds_http.specs.Lines.{scanned, cut_at, EndsThere, IsFront}
use Rattle.cds_http.specs.Head.{head_limit}
use Rattle.cds_http.specs.Framing.{body_limit}
use Rattle.cds_http.specs.Chunks.{counted, behind, closed, closing, one_more, line_limit, LineKnown, LineOf, TrailerKnown, TrailerOf, AfterLine, ChunksFrom, Chunks, IsSizeLine, IsTrailer}
use Rattle.cds_http.specs.Steps.{Waits, Fits, Goes, Turns, SizeRead, Explains}
use Rattle.cds_http.proofs.Cuts.{le_true, le_false, cut_whole, cut_waits}
use Rattle.cds_http.proofs.Counting.{waits_data, counted_whole, take_full}

pub line_known : (line more : List ℕ) (size : ℕ) → IsSizeLine line size → EndsThere InLine line → length line ≤ line_limit
    → LineKnown (line ++ more) (Whole size more)
line_known line more size is ends short =
    subst (λ (k : Known (List ℕ)). Then {A = List ℕ} {B = ℕ} k LineOf (Whole size more)) (sym (cut_whole InLine BadChunk line_limit line more ends short)) (is, refl)

no_line : (line more : List ℕ) → ((size : ℕ) → ¬ (IsSizeLine line size)) → EndsThere InLine line → length line ≤ line_limit
    → LineKnown (line ++ more) (Refused BadChunk)
no_line line more none ends short =
    subst (λ (k : Known (List ℕ)). Then {A = List ℕ} {B = ℕ} k LineOf (Refused BadChunk)) (sym (cut_whole InLine BadChunk line_limit line more ends short)) (refl, none)

line_cut_refused : (body bytes : List ℕ) → cut_at InLine BadChunk line_limit bytes ≡ Refused BadChunk → Chunks body bytes (Refused BadChunk)
line_cut_refused body bytes is =
    (1, (Refused BadChunk, subst (λ (k : Known (List ℕ)). Then {A = List ℕ} {B = ℕ} k LineOf (Refused BadChunk)) (sym is) refl, refl))

pub waits_line : (body : List ℕ) (front : Front) → IsFront InLine line_limit front → Waits (record { bytes = body; part = Line front })
waits_line body front fits =
    let cuts = ap (cut_at InLine BadChunk line_limit) (append-nil front.text) ∙ cut_waits InLine front.place BadChunk line_limit front.text fits.0 fits.1 in
    (1, (Needs, subst (λ (k : Known (List ℕ)). Then {A = List ℕ} {B = ℕ} k LineOf Needs) (sym cuts) refl, refl))

waits_trailer : (body : List ℕ) (front : Front) → IsFront Fresh head_limit front → Waits (record { bytes = body; part = Trailer front })
waits_trailer body front fits =
    let cuts = ap (cut_at Fresh BadChunk head_limit) (append-nil front.text) ∙ cut_waits Fresh front.place BadChunk head_limit front.text fits.0 fits.1 in
    subst (λ (k : Known (List ℕ)). Then {A = List ℕ} {B = List ℕ} k (TrailerOf body) Needs) (sym cuts) refl

-- the line of the last chunk
pub turns_last : (body line : List ℕ) (size : ℕ) (front : Front) → size ≡ 0 → front.text ≡ [] → front.place ≡ Fresh
    → IsSizeLine line size → EndsThere InLine line → length line ≤ line_limit
    → Turns body line (Ok (record { bytes = body; part = Trailer front }))
turns_last body line size front none text place is ends short =
    let fits : IsFront Fresh head_limit front = (
      subst (λ (t : List ℕ). scanned Fresh t ≡ Open front.place) (sym text) (ap (λ (p : LinePlace). Open p) (sym place)),
      omega (arith, ap length text),
    ) in (
      fits,
      waits_trailer body front fits,
      λ ended more known say. (
        1,
        (
          Whole 0 more,
          line_known line more 0 (subst (IsSizeLine line) none is) ends short,
          subst (λ (t : List ℕ). TrailerKnown body (t ++ more) known) text say,
        ),
      ),
    )

pub after_some : (next : List ℕ → List ℕ → Known (List ℕ) → Type 0) (body : List ℕ) (size : ℕ) (rest : List ℕ) (known : Known (List ℕ))
    → 0 < size → Then (one_more body size rest) next known → AfterLine next body size rest known
after_some next body zero rest known some say = absurd (omega arith)
after_some next body (suc n) rest known some say = say

pub one_more_fits : (body : List ℕ) (size : ℕ) (rest : List ℕ) → length body + size ≤ body_limit
    → one_more body size rest ≡ closing (behind body (counted size rest))
one_more_fits body size rest h =
    ap (λ (b : Bool). if b then closing (behind body (counted size rest)) else Refused TooLong) (le_true (length body + size) body_limit h)

one_more_long : (body : List ℕ) (size : ℕ) (rest : List ℕ) → body_limit < length body + size → one_more body size rest ≡ Refused TooLong
one_more_long body size rest h =
    ap (λ (b : Bool). if b then closing (behind body (counted size rest)) else Refused TooLong) (le_false (length body + size) body_limit h)

-- the line of another
pub turns_data : (body line : List ℕ) (size : ℕ) → 0 < size → length body + size ≤ body_limit
    → IsSizeLine line size → EndsThere InLine line → length line ≤ line_limit
    → Turns body line (Ok (record { bytes = body; part = Data size }))
turns_data body line size some fits is ends short = (
  tt,
  waits_data body size,
  λ ended more known say. (
    suc say.0,
    (
      Whole size more,
      line_known line more size is ends short,
      after_some (ChunksFrom say.0) body size more known some
          (subst (λ (k : Known (List ℕ)). Then {A = List ℕ} {B = List ℕ} k (ChunksFrom say.0) known) (sym (one_more_fits body size more fits)) say.1),
    ),
  ),
)

pub turns_long : (body line : List ℕ) (size : ℕ) → 0 < size → body_limit < length body + size
    → IsSizeLine line size → EndsThere InLine line → length line ≤ line_limit → Turns body line (Err TooLong)
turns_long body line size some long is ends short more = (
  1,
  (
    Whole size more,
    line_known line more size is ends short,
    after_some (ChunksFrom 0) body size more (Refused TooLong) some
        (subst (λ (k : Known (List ℕ)). Then {A = List ℕ} {B = List ℕ} k (ChunksFrom 0) (Refused TooLong)) (sym (one_more_long body size more long)) refl),
  ),
)

pub turns_bad : (body line : List ℕ) (e : HttpError) → SizeRead line (Err e) → EndsThere InLine line → length line ≤ line_limit
    → Turns body line (Err e)
turns_bad body line e read ends short =
    subst (λ (e : HttpError). Turns body line (Err e)) (sym read.0)
    (λ more. (1, (Refused BadChunk, no_line line more read.1 ends short, refl)))

-- a cause that holds of all bytes behind a text holds behind the piece that ended it
pub explains_more : (e : HttpError) (A B : Type 0) → (A → B) → Explains e A → Explains e B
explains_more Mem A B f h = h
explains_more Failed A B f h = h
explains_more Truncated A B f h = h
explains_more BadHead A B f h = f h
explains_more HeadTooLong A B f h = f h
explains_more BadLength A B f h = f h
explains_more BadChunk A B f h = f h
explains_more TooLong A B f h = f h

regroup : (came piece more : List ℕ) (used : ℕ) → (came ++ take used piece) ++ (drop used piece ++ more) ≡ came ++ (piece ++ more)
regroup came piece more used =
    append_assoc came (take used piece) (drop used piece ++ more)
    ∙ ap (λ (t : List ℕ). came ++ t)
    (sym (append_assoc (take used piece) (drop used piece) more) ∙ ap (λ (t : List ℕ). t ++ more) (take-append-drop used piece))

pub goes_line : (body text piece : List ℕ) (front : Front) (used : ℕ) (after : Body) → used ≤ length piece → text ≡ front.text ++ take used piece
    → Turns body text (Ok after) → Goes (record { bytes = body; part = Line front }) piece (Ok (More after used))
goes_line body text piece front used after within is turns = (
  within,
  turns.0,
  turns.1,
  λ ended more known say. subst (λ (t : List ℕ). Chunks body t known)
      (ap (λ (t : List ℕ). t ++ more) is ∙ append_assoc front.text (take used piece) more)
      (turns.2 ended more known say),
)

pub refuses_line : (body text piece : List ℕ) (front : Front) (used : ℕ) (e : HttpError) → text ≡ front.text ++ take used piece
    → Turns body text (Err e) → Goes (record { bytes = body; part = Line front }) piece (Err e)
refuses_line body text piece front used e is turns =
    explains_more e _ _
    (λ stands ended more. subst (λ (t : List ℕ). Chunks body t (Refused e))
    (ap (λ (t : List ℕ). t ++ (drop used piece ++ more)) is ∙ regroup front.text piece more used)
    (stands (drop used piece ++ more)))
    turns

pub keeps_line : (body piece : List ℕ) (front after : Front) → after.text ≡ front.text ++ piece → IsFront InLine line_limit after
    → Goes (record { bytes = body; part = Line front }) piece (Ok (More (record { bytes = body; part = Line after }) (length piece)))
keeps_line body piece front after is fits = (
  omega arith,
  fits,
  waits_line body after fits,
  λ ended more known say. subst (λ (t : List ℕ). Chunks body t known)
      (
      ap (λ (t : List ℕ). t ++ more) is
      ∙ append_assoc front.text piece more
      ∙ ap (λ (p : List ℕ). front.text ++ (p ++ more)) (sym (take_full piece))
      )
      say,
)

pub keeps_trailer : (body piece : List ℕ) (front after : Front) → after.text ≡ front.text ++ piece → IsFront Fresh head_limit after
    → Goes (record { bytes = body; part = Trailer front }) piece (Ok (More (record { bytes = body; part = Trailer after }) (length piece)))
keeps_trailer body piece front after is fits = (
  omega arith,
  fits,
  waits_trailer body after fits,
  λ ended more known say. subst (λ (t : List ℕ). TrailerKnown body t known)
      (
      ap (λ (t : List ℕ). t ++ more) is
      ∙ append_assoc front.text piece more
      ∙ ap (λ (p : List ℕ). front.text ++ (p ++ more)) (sym (take_full piece))
      )
      say,
)

-- the end of a trailer
pub goes_trailer : (body text piece : List ℕ) (front : Front) (used : ℕ) → used ≤ length piece → text ≡ front.text ++ take used piece
    → IsTrailer text → EndsThere Fresh text → length text ≤ head_limit
    → Goes (record { bytes = body; part = Trailer front }) piece (Ok (WholeBody body used))
goes_trailer body text piece front used within is trailer ends short = (
  within,
  λ ended more. subst (λ (t : List ℕ). TrailerKnown body t (Whole body more))
      (ap (λ (t : List ℕ). t ++ more) is ∙ append_assoc front.text (take used piece) more)
      (subst (λ (k : Known (List ℕ)). Then {A = List ℕ} {B = List ℕ} k (TrailerOf body) (Whole body more)) (sym (cut_whole Fresh BadChunk head_limit text more ends short)) (trailer, refl, refl)),
)

pub refuses_trailer : (body text piece : List ℕ) (front : Front) (used : ℕ) → text ≡ front.text ++ take used piece
    → ¬ (IsTrailer text) → EndsThere Fresh text → length text ≤ head_limit
    → Goes (record { bytes = body; part = Trailer front }) piece (Err BadChunk)
refuses_trailer body text piece front used is none ends short ended more =
    let rest = drop used piece ++ more in
    subst (λ (t : List ℕ). TrailerKnown body t (Refused BadChunk))
    (ap (λ (t : List ℕ). t ++ rest) is ∙ regroup front.text piece more used)
    (subst (λ (k : Known (List ℕ)). Then {A = List ℕ} {B = List ℕ} k (TrailerOf body) (Refused BadChunk)) (sym (cut_whole Fresh BadChunk head_limit text rest ends short)) (refl, none))

-- no end where there should be one
pub long_line : (body piece : List ℕ) (front : Front) (e : HttpError)
    → (e ≡ Mem) ⊎ ((e ≡ BadChunk) × ((more : List ℕ) → cut_at InLine BadChunk line_limit ((front.text ++ piece) ++ more) ≡ Refused BadChunk))
    → Goes (record { bytes = body; part = Line front }) piece (Err e)
long_line body piece front e (inl memory) = subst (λ (e : HttpError). Goes (record { bytes = body; part = Line front }) piece (Err e)) (sym memory) tt
long_line body piece front e (inr long) =
    subst (λ (e : HttpError). Goes (record { bytes = body; part = Line front }) piece (Err e)) (sym long.0)
    (λ ended more. line_cut_refused body (front.text ++ (piece ++ more))
    (ap (cut_at InLine BadChunk line_limit) (sym (append_assoc front.text piece more)) ∙ long.1 more))

pub long_trailer : (body piece : List ℕ) (front : Front) (e : HttpError)
    → (e ≡ Mem) ⊎ ((e ≡ BadChunk) × ((more : List ℕ) → cut_at Fresh BadChunk head_limit ((front.text ++ piece) ++ more) ≡ Refused BadChunk))
    → Goes (record { bytes = body; part = Trailer front }) piece (Err e)
long_trailer body piece front e (inl memory) = subst (λ (e : HttpError). Goes (record { bytes = body; part = Trailer front }) piece (Err e)) (sym memory) tt
long_trailer body piece front e (inr long) =
    subst (λ (e : HttpError). Goes (record { bytes = body; part = Trailer front }) piece (Err e)) (sym long.0)
    (λ ended more. subst (λ (k : Known (List ℕ)). Then {A = List ℕ} {B = List ℕ} k (TrailerOf body) (Refused BadChunk))
    (sym (ap (cut_at Fresh BadChunk head_limit) (sym (append_assoc front.text piece more)) ∙ long.1 more)) refl)

-- CR LF behind a chunk
pub waits_close : (body : List ℕ) → Waits (record { bytes = body; part = Close })
waits_close body = (0, refl)

pub goes_nothing : (before : Body) → Fits before → Waits before → Goes before [] (Ok (More before 0))
goes_nothing before fits waits = (omega arith, fits, waits, λ ended more known say. say)

data_none : (body bytes : List ℕ) → closing (behind body (counted 0 bytes)) ≡ closed body bytes
data_none body bytes =
    ap (λ (k : Known (List ℕ)). closing (behind body k)) (counted_whole 0 bytes (omega arith))
    ∙ ap (λ (b : List ℕ). closed b bytes) (append-nil body)

pub goes_return : (body piece : List ℕ) → Goes (record { bytes = body; part = Data 0 }) (13 ∷ piece) (Ok (More (record { bytes = body; part = Close }) 1))
goes_return body piece = (omega arith, tt, waits_close body, λ ended more known say. (say.0, subst (λ (k : Known (List ℕ)). Then {A = List ℕ} {B = List ℕ} k (ChunksFrom say.0) known) (sym (data_none body (13 ∷ more))) say.1))

closed_first : (body rest : List ℕ) (first : ℕ) → first ≢ 13 → closed body (first ∷ rest) ≡ Refused BadChunk
closed_first body [] first other = grind (arith, nat_tests)
closed_first body (second ∷ rest) first other = grind (arith, nat_tests)

pub refuses_return : (body piece : List ℕ) (first : ℕ) → first ≢ 13 → Goes (record { bytes = body; part = Data 0 }) (first ∷ piece) (Err BadChunk)
refuses_return body piece first other ended more =
    (0, subst (λ (k : Known (List ℕ)). Then {A = List ℕ} {B = List ℕ} k (ChunksFrom 0) (Refused BadChunk)) (sym (data_none body (first ∷ (piece ++ more)) ∙ closed_first body (piece ++ more) first other)) refl)

pub goes_close : (body piece : List ℕ) (front : Front) → front.text ≡ [] → front.place ≡ InLine
    → Goes (record { bytes = body; part = Close }) (10 ∷ piece) (Ok (More (record { bytes = body; part = Line front }) 1))
goes_close body piece front text place =
    let fits : IsFront InLine line_limit front = (
      subst (λ (t : List ℕ). scanned InLine t ≡ Open front.place) (sym text) (ap (λ (p : LinePlace). Open p) (sym place)),
      omega (arith, ap length text),
    ) in (
      omega arith,
      fits,
      waits_line body front fits,
      λ ended more known say. subst (λ (t : List ℕ). Chunks body (t ++ more) known) text say,
    )

pub refuses_close : (body piece : List ℕ) (first : ℕ) → first ≢ 10 → Goes (record { bytes = body; part = Close }) (first ∷ piece) (Err BadChunk)
refuses_close body piece first other ended more =
    let refused : closed body (13 ∷ first ∷ (piece ++ more)) ≡ Refused BadChunk = grind (arith, nat_tests) in
    (0, subst (λ (k : Known (List ℕ)). Then {A = List ℕ} {B = List ℕ} k (ChunksFrom 0) (Refused BadChunk)) (sym refused) refl)
