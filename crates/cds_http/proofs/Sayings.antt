-- What bytes say at the end of the connection, that they always say something, and why they are refused.
use Rattle.std.proofs.Common.{◌≡◌, ℕ, zero, suc, ◌+◌, ◌<◌, ◌==◌, ◌⊎◌, Bool, true, false, nat_le, List, [], ◌∷◌, ◌++◌, length, take, drop, map, Result, Ok, Err, if◌then◌else◌, refl, sym, ap, ◌∙◌, subst, inl, inr, arith}
use Rattle.std.proofs.Common.{length-append}
use Rattle.std.specs.Prelude.{bytes_eq, codes}
use Rattle.std.specs.Char.{to_ascii_lowercase}
use Rattle.cds_base.specs.Number.{is_number_in, value_in}
use Rattle.http_header.specs.FieldValue.{FieldValue}
use Rattle.http_header.specs.HeaderMap.{get_all}
use Rattle.cds_http.specs.declared.error.HttpError.{HttpError}
use Rattle.cds_http.specs.declared.error.HttpError.TheVariants.{BadHead, HeadTooLong, BadLength, BadChunk, TooLong}
use Rattle.cds_http.specs.declared.message.Side.{Side}
use Rattle.cds_http.specs.declared.message.Message.{Message}
use Rattle.cds_http.specs.declared.lines.LinePlace.{LinePlace}
use Rattle.cds_http.specs.declared.lines.LinePlace.TheVariants.{Before, Fresh, InLine}
use Rattle.cds_http.specs.declared.lines.Scan.{Scan}
use Rattle.cds_http.specs.declared.lines.Scan.TheVariants.{Ended, Open}
use Rattle.cds_http.specs.declared.framing.Framing.{Framing}
use Rattle.cds_http.specs.declared.framing.Framing.TheVariants.{Counted, Chunked, ToEnd}
use Rattle.cds_http.specs.declared.head.Head.{Head}
use Rattle.cds_http.specs.Known.{Known, Whole, Needs, Refused, Then, cut}
use Rattle.cds_http.specs.Lines.{scanned, end_of_scan, cut_at}
use Rattle.cds_http.specs.Head.{IsNoHead, HeadOf, HeadKnown, head_cut, head_limit}
use Rattle.cds_http.specs.Framing.{framing_by, framing_of, body_limit}
use Rattle.cds_http.specs.Chunks.{counted, open_body, behind, closed, closing, one_more, line_limit, LineOf, LineKnown, line_cut, TrailerOf, TrailerKnown, trailer_cut, AfterLine, ChunksFrom, BodyKnown}
use Rattle.cds_http.specs.Decided.{Decides, with_head, FramedKnown, AfterHead}
use Rattle.cds_http.specs.Laws.{left_of, BytesSay, EndKeeps, IsCause, RefusedByCause}
use Rattle.cds_http.proofs.Scans.{ended_within}
use Rattle.cds_http.proofs.Once.{head_once, body_once}
use Rattle.cds_http.proofs.SpelledForms.{cut_off, one_more_is}

needs_body : (head : Head) (body : Known (List ℕ)) → ◌≡◌ {A = Known Message} Needs (with_head head body) → body ≡ Needs
needs_body head (Whole b r) is = cc
needs_body head Needs is = refl
needs_body head (Refused e) is = cc

left_open : (head : Head) (bytes : List ℕ) → left_of (with_head head (open_body true bytes)) ≡ []
left_open head bytes = by (nat_le (length bytes) body_limit)
  where
    by : (b : Bool) → left_of (with_head head (if b then Whole bytes [] else Refused TooLong)) ≡ []
    by true = refl
    by false = refl

framed_end : (rule : Result Framing HttpError) (head : Head) (rest : List ℕ) (known : Known Message)
    → FramedKnown false rule head rest Needs → FramedKnown true rule head rest known → left_of known ≡ []
framed_end (Err e) head rest known p q = cc
framed_end (Ok (Counted n)) head rest known p q =
    ap left_of (q.2 ∙ ap (with_head head) (q.1 ∙ sym p.1 ∙ needs_body head p.0 p.2))
framed_end (Ok Chunked) head rest known p q =
    ap left_of (q.2 ∙ ap (with_head head) (body_once true Chunked rest q.0 p.0 q.1 p.1 ∙ needs_body head p.0 p.2))
framed_end (Ok ToEnd) head rest known p q = ap left_of (q.2 ∙ ap (with_head head) q.1) ∙ left_open head rest

then_end : (h : Known Head) (side : Side) (known : Known Message) → Then {A = Head} {B = Message} h (AfterHead false side) Needs
    → Then {A = Head} {B = Message} h (AfterHead true side) known → left_of known ≡ []
then_end (Whole head rest) side known p q = framed_end (framing_of side head.fields) head rest known p q
then_end Needs side known p q = ap left_of q
then_end (Refused e) side known p q = cc

-- behind bytes that need more, the end of the connection leaves nothing
pub end_needs : (side : Side) (bytes : List ℕ) (known : Known Message) → Decides false side bytes Needs → Decides true side bytes known → left_of known ≡ []
end_needs side bytes known p q =
    let same = head_once side bytes q.0 p.0 q.1 p.1 in
    then_end p.0 side known p.2 (subst (λ (h : Known Head). Then {A = Head} {B = Message} h (AfterHead true side) known) same q.2)

body_stays : (framing : Framing) (head : Head) (rest : List ℕ) (m : Message) (left : List ℕ) (body : Known (List ℕ)) → BodyKnown false framing rest body
    → Whole m left ≡ with_head head body → BodyKnown true framing rest body
body_stays (Counted n) head rest m left body known is = known
body_stays Chunked head rest m left body known is = known
body_stays ToEnd head rest m left body known is = by (nat_le (length rest) body_limit) (is ∙ ap (with_head head) known)
  where
    by : (b : Bool) → Whole m left ≡ with_head head (if b then Needs else Refused TooLong) → BodyKnown true ToEnd rest body
    by true other = cc
    by false other = cc

framed_stays : (rule : Result Framing HttpError) (head : Head) (rest : List ℕ) (m : Message) (left : List ℕ)
    → FramedKnown false rule head rest (Whole m left) → FramedKnown true rule head rest (Whole m left)
framed_stays (Err e) head rest m left p = p
framed_stays (Ok framing) head rest m left p = (p.0, body_stays framing head rest m left p.0 p.1 p.2, p.2)

then_stays : (h : Known Head) (side : Side) (m : Message) (left : List ℕ) → Then {A = Head} {B = Message} h (AfterHead false side) (Whole m left)
    → Then {A = Head} {B = Message} h (AfterHead true side) (Whole m left)
then_stays (Whole head rest) side m left p = framed_stays (framing_of side head.fields) head rest m left p
then_stays Needs side m left p = p
then_stays (Refused e) side m left p = p

pub end_keeps : EndKeeps
end_keeps side bytes m rest p = (p.0, p.1, then_stays p.0 side m rest p.2)

-- a cut is refused by its cause alone
pub cut_refused : (start : LinePlace) (d e : HttpError) (limit : ℕ) (bytes : List ℕ) → cut_at start d limit bytes ≡ Refused e → e ≡ d
cut_refused start d e limit bytes is = by (scanned start bytes) is
  where
    at : (n : ℕ) (b : Bool) → (if b then Whole (take n bytes) (drop n bytes) else Refused d) ≡ Refused e → e ≡ d
    at n true is = cc
    at n false is = cc

    over : (b : Bool) → ◌≡◌ {A = Known (List ℕ)} (if b then Refused d else Needs) (Refused e) → e ≡ d
    over true is = cc
    over false is = cc

    by : (s : Scan) → cut d limit (end_of_scan s) bytes ≡ Refused e → e ≡ d
    by (Ended n) is = at n (nat_le n limit) is
    by (Open q) is = over (nat_le limit (length bytes)) is

-- the causes that come behind a head
abbrev pub IsLate : HttpError → Type 0
IsLate e = (e ≡ BadLength) ⊎ (e ≡ BadChunk) ⊎ (e ≡ TooLong)

late_framing : (side : Side) (lengths codings : List FieldValue) (e : HttpError) → framing_by side lengths codings ≡ Err e → IsLate e
late_framing side [] [] e is = cc
late_framing side [] (coding ∷ []) e is = by (bytes_eq (map to_ascii_lowercase coding.bytes) (codes "chunked")) is
  where
    by : (b : Bool) → ◌≡◌ {A = Result Framing HttpError} (if b then Ok Chunked else Err BadLength) (Err e) → IsLate e
    by true is = cc
    by false is = inl cc
late_framing side [] (coding ∷ second ∷ more) e is = inl cc
late_framing side (size ∷ []) [] e is = by (is_number_in 10 size.bytes) (nat_le (value_in 10 size.bytes) body_limit) is
  where
    by : (b d : Bool) → ◌≡◌ {A = Result Framing HttpError} (if b then (if d then Ok (Counted (value_in 10 size.bytes)) else Err TooLong) else Err BadLength) (Err e) → IsLate e
    by true true is = cc
    by true false is = inr (inr cc)
    by false d is = inl cc
late_framing side (size ∷ []) (coding ∷ codings) e is = inl cc
late_framing side (size ∷ second ∷ more) codings e is = inl cc

closed_refused : (body bytes : List ℕ) (e : HttpError) → closed body bytes ≡ Refused e → IsLate e
closed_refused body [] e is = cc
closed_refused body (first ∷ []) e is = by (first == 13) is
  where
    by : (b : Bool) → ◌≡◌ {A = Known (List ℕ)} (if b then Needs else Refused BadChunk) (Refused e) → IsLate e
    by true is = cc
    by false is = inr (inl cc)
closed_refused body (first ∷ second ∷ rest) e is = by (first == 13) (second == 10) is
  where
    by : (b d : Bool) → (if b then (if d then Whole body rest else Refused BadChunk) else Refused BadChunk) ≡ Refused e → IsLate e
    by true true is = cc
    by true false is = inr (inl cc)
    by false d is = inr (inl cc)

one_more_refused : (body : List ℕ) (size : ℕ) (rest : List ℕ) (e : HttpError) → one_more body size rest ≡ Refused e → IsLate e
one_more_refused body size rest e is = by (nat_le (length body + size) body_limit) (nat_le size (length rest)) is
  where
    by : (b d : Bool)
        → (if b then closing (behind body (if d then Whole (take size rest) (drop size rest) else Needs)) else Refused TooLong) ≡ Refused e → IsLate e
    by true true is = closed_refused (body ++ take size rest) (drop size rest) e is
    by true false is = cc
    by false d is = inr (inr cc)

line_refused : (bytes : List ℕ) (e : HttpError) → LineKnown bytes (Refused e) → e ≡ BadChunk
line_refused bytes e known = by (line_cut bytes) refl known
  where
    by : (k : Known (List ℕ)) → line_cut bytes ≡ k → Then {A = List ℕ} {B = ℕ} k LineOf (Refused e) → e ≡ BadChunk
    by (Whole text rest) is h = h.0
    by Needs is h = cc
    by (Refused d) is h =
        let same : e ≡ d = cc in
        same ∙ cut_refused InLine BadChunk d line_limit bytes is

trailer_refused : (body bytes : List ℕ) (e : HttpError) → TrailerKnown body bytes (Refused e) → e ≡ BadChunk
trailer_refused body bytes e known = by (trailer_cut bytes) refl known
  where
    by : (k : Known (List ℕ)) → trailer_cut bytes ≡ k → Then {A = List ℕ} {B = List ℕ} k (TrailerOf body) (Refused e) → e ≡ BadChunk
    by (Whole text rest) is h = h.0
    by Needs is h = cc
    by (Refused d) is h =
        let same : e ≡ d = cc in
        same ∙ cut_refused Fresh BadChunk d head_limit bytes is

after_refused : (next : List ℕ → List ℕ → Known (List ℕ) → Type 0) → ((body bytes : List ℕ) (e : HttpError) → next body bytes (Refused e) → IsLate e)
    → (body : List ℕ) (size : ℕ) (rest : List ℕ) (e : HttpError) → AfterLine next body size rest (Refused e) → IsLate e
after_refused next late body zero rest e h = inr (inl (trailer_refused body rest e h))
after_refused next late body (suc n) rest e h = by (one_more body (suc n) rest) refl h
  where
    by : (k : Known (List ℕ)) → one_more body (suc n) rest ≡ k → Then {A = List ℕ} {B = List ℕ} k next (Refused e) → IsLate e
    by (Whole b r) is h = late b r e h
    by Needs is h = cc
    by (Refused d) is h =
        let same : d ≡ e = cc in
        subst IsLate same (one_more_refused body (suc n) rest d is)

chunks_refused : (most : ℕ) (body bytes : List ℕ) (e : HttpError) → ChunksFrom most body bytes (Refused e) → IsLate e
chunks_refused zero body bytes e h = absurd h
chunks_refused (suc fewer) body bytes e h = by (chunks_refused fewer) h.0 h.1 h.2
  where
    by : ((body bytes : List ℕ) (e : HttpError) → ChunksFrom fewer body bytes (Refused e) → IsLate e)
        → (line : Known ℕ) → LineKnown bytes line → Then {A = ℕ} {B = List ℕ} line (AfterLine (ChunksFrom fewer) body) (Refused e) → IsLate e
    by late (Whole size rest) known h = after_refused (ChunksFrom fewer) late body size rest e h
    by late Needs known h = cc
    by late (Refused d) known h =
        let same : e ≡ d = cc in
        inr (inl (same ∙ line_refused bytes d known))

body_refused : (ended : Bool) (framing : Framing) (bytes : List ℕ) (e : HttpError) → BodyKnown ended framing bytes (Refused e) → IsLate e
body_refused ended (Counted n) bytes e h = by (nat_le n (length bytes)) h
  where
    by : (b : Bool) → Refused e ≡ (if b then Whole (take n bytes) (drop n bytes) else Needs) → IsLate e
    by true is = cc
    by false is = cc
body_refused ended Chunked bytes e h = chunks_refused h.0 [] bytes e h.1
body_refused ended ToEnd bytes e h = by (nat_le (length bytes) body_limit) ended h
  where
    by : (b d : Bool) → Refused e ≡ (if b then (if d then Whole bytes [] else Needs) else Refused TooLong) → IsLate e
    by true true is = cc
    by true false is = cc
    by false d is = inr (inr cc)

framed_refused : (ended : Bool) (side : Side) (rule : Result Framing HttpError) (head : Head) (rest : List ℕ) (e : HttpError) → framing_of side head.fields ≡ rule
    → FramedKnown ended rule head rest (Refused e) → IsLate e
framed_refused ended side (Err d) head rest e is h =
    let same : d ≡ e = cc in
    subst IsLate same (late_framing side (get_all head.fields (codes "content-length")) (get_all head.fields (codes "transfer-encoding")) d is)
framed_refused ended side (Ok framing) head rest e is h = by h.0 h.1 h.2
  where
    by : (body : Known (List ℕ)) → BodyKnown ended framing rest body → ◌≡◌ {A = Known Message} (Refused e) (with_head head body) → IsLate e
    by (Whole b r) known is = cc
    by Needs known is = cc
    by (Refused d) known is =
        let same : d ≡ e = cc in
        subst IsLate same (body_refused ended framing rest d known)

-- a refusal is of the head's limit, of the head's text or of what is behind it
pub data Refusal (side : Side) (bytes : List ℕ) (e : HttpError) : Type 0 where
  by_limit : head_cut bytes ≡ Refused HeadTooLong → e ≡ HeadTooLong → Refusal side bytes e
  by_text : (text rest : List ℕ) → head_cut bytes ≡ Whole text rest → IsNoHead side text → e ≡ BadHead → Refusal side bytes e
  later : IsLate e → Refusal side bytes e

pub refusal : (ended : Bool) (side : Side) (bytes : List ℕ) (e : HttpError) → Decides ended side bytes (Refused e) → Refusal side bytes e
refusal ended side bytes e h = by (head_cut bytes) refl h.0 h.1 h.2
  where
    by : (k : Known (List ℕ)) → head_cut bytes ≡ k → (head : Known Head) → Then {A = List ℕ} {B = Head} k (HeadOf side) head
        → Then {A = Head} {B = Message} head (AfterHead ended side) (Refused e) → Refusal side bytes e
    by (Whole text rest) is (Whole head left) known after = later (framed_refused ended side (framing_of side head.fields) head left e refl after)
    by (Whole text rest) is Needs known after = absurd known
    by (Whole text rest) is (Refused d) known after =
        let same : e ≡ d = cc in
        by_text text rest is known.1 (same ∙ known.0)
    by Needs is head known after =
        let no : ◌≡◌ {A = Known Message} Needs (Refused e) = sym (subst (λ (h : Known Head). Then {A = Head} {B = Message} h (AfterHead ended side) (Refused e)) known after) in cc
    by (Refused d) is head known after =
        let here : ◌≡◌ {A = Known Message} (Refused e) (Refused d) = subst (λ (h : Known Head). Then {A = Head} {B = Message} h (AfterHead ended side) (Refused e)) known after in
        let same : e ≡ d = cc in
        let cause : d ≡ HeadTooLong = cut_refused Before HeadTooLong d head_limit bytes is in
        by_limit (is ∙ ap (λ (e : HttpError). Refused e) cause) (same ∙ cause)

pub refused_by_cause : RefusedByCause
refused_by_cause ended side bytes e h = by (refusal ended side bytes e h)
  where
    by : Refusal side bytes e → IsCause e
    by (by_limit cuts is) = inr (inl is)
    by (by_text text rest cuts none is) = inl is
    by (later (inl is)) = inr (inr (inl is))
    by (later (inr (inl is))) = inr (inr (inr (inl is)))
    by (later (inr (inr is))) = inr (inr (inr (inr is)))

trailers_say : (body bytes : List ℕ) → ((known : Known (List ℕ)) → ¬ (TrailerKnown body bytes known)) → ⊥
trailers_say body bytes none = by (trailer_cut bytes) none
  where
    by : (k : Known (List ℕ)) → ((known : Known (List ℕ)) → ¬ (Then {A = List ℕ} {B = List ℕ} k (TrailerOf body) known)) → ⊥
    by (Whole text rest) none = none (Refused BadChunk) (refl, λ is. none (Whole body rest) (is, refl, refl))
    by Needs none = none Needs refl
    by (Refused e) none = none (Refused e) refl

after_says : (fewer : ℕ) → ((body bytes : List ℕ) → length bytes < fewer → ((known : Known (List ℕ)) → ¬ (ChunksFrom fewer body bytes known)) → ⊥)
    → (body : List ℕ) (size : ℕ) (rest : List ℕ) → length rest < fewer → ((known : Known (List ℕ)) → ¬ (AfterLine (ChunksFrom fewer) body size rest known)) → ⊥
after_says fewer say body zero rest short none = trailers_say body rest none
after_says fewer say body (suc n) rest short none = by (one_more body (suc n) rest) refl none
  where
    by : (k : Known (List ℕ)) → one_more body (suc n) rest ≡ k → ((known : Known (List ℕ)) → ¬ (Then {A = List ℕ} {B = List ℕ} k (ChunksFrom fewer) known)) → ⊥
    by (Whole b r) is none =
        let chunk = one_more_is body (suc n) rest b r is in
        say b r (omega (arith, short, ap length chunk.1, length-append chunk.0 (13 ∷ 10 ∷ r))) none
    by Needs is none = none Needs refl
    by (Refused e) is none = none (Refused e) refl

chunks_say : (most : ℕ) (body bytes : List ℕ) → length bytes < most → ((known : Known (List ℕ)) → ¬ (ChunksFrom most body bytes known)) → ⊥
chunks_say zero body bytes short none = absurd (omega arith)
chunks_say (suc fewer) body bytes short none = by (chunks_say fewer) (line_cut bytes) refl
  where
    line_of : (k : Known (List ℕ)) (line : Known ℕ) → line_cut bytes ≡ k → Then {A = List ℕ} {B = ℕ} k LineOf line → LineKnown bytes line
    line_of k line is known = subst (λ (k : Known (List ℕ)). Then {A = List ℕ} {B = ℕ} k LineOf line) (sym is) known

    by : ((body bytes : List ℕ) → length bytes < fewer → ((known : Known (List ℕ)) → ¬ (ChunksFrom fewer body bytes known)) → ⊥)
        → (k : Known (List ℕ)) → line_cut bytes ≡ k → ⊥
    by say (Whole text rest) is =
        let cuts = cut_off InLine BadChunk line_limit bytes text rest is in
        let some = (ended_within InLine text (length text) cuts.ends).0 in
        let less : length rest < fewer = omega (arith, short, some, ap length cuts.all, length-append text rest) in
        none (Refused BadChunk) (
          Refused BadChunk,
          line_of (Whole text rest) (Refused BadChunk) is (
            refl,
            λ size line. after_says fewer say body size rest less
                (λ known after. none known (Whole size rest, line_of (Whole text rest) (Whole size rest) is (line, refl), after)),
          ),
          refl,
        )
    by say Needs is = none Needs (Needs, line_of Needs Needs is refl, refl)
    by say (Refused e) is = none (Refused e) (Refused e, line_of (Refused e) (Refused e) is refl, refl)

body_says : (ended : Bool) (framing : Framing) (bytes : List ℕ) → ((known : Known (List ℕ)) → ¬ (BodyKnown ended framing bytes known)) → ⊥
body_says ended (Counted n) bytes none = none (counted n bytes) refl
body_says ended Chunked bytes none =
    chunks_say (suc (length bytes)) [] bytes (omega arith) (λ known say. none known (suc (length bytes), say))
body_says ended ToEnd bytes none = none (open_body ended bytes) refl

framed_says : (ended : Bool) (rule : Result Framing HttpError) (head : Head) (rest : List ℕ)
    → ((known : Known Message) → ¬ (FramedKnown ended rule head rest known)) → ⊥
framed_says ended (Err e) head rest none = none (Refused e) refl
framed_says ended (Ok framing) head rest none = body_says ended framing rest (λ body say. none (with_head head body) (body, say, refl))

pub bytes_say : BytesSay
bytes_say ended side bytes none = by (head_cut bytes) refl
  where
    head_of : (k : Known (List ℕ)) (head : Known Head) → head_cut bytes ≡ k → Then {A = List ℕ} {B = Head} k (HeadOf side) head → HeadKnown side bytes head
    head_of k head is known = subst (λ (k : Known (List ℕ)). Then {A = List ℕ} {B = Head} k (HeadOf side) head) (sym is) known

    by : (k : Known (List ℕ)) → head_cut bytes ≡ k → ⊥
    by (Whole text rest) is =
        none (Refused BadHead) (
          Refused BadHead,
          head_of (Whole text rest) (Refused BadHead) is (
            refl,
            λ head there. framed_says ended (framing_of side head.fields) head rest
                (λ known after. none known (Whole head rest, head_of (Whole text rest) (Whole head rest) is (there, refl), after)),
          ),
          refl,
        )
    by Needs is = none Needs (Needs, head_of Needs Needs is refl, refl)
    by (Refused e) is = none (Refused e) (Refused e, head_of (Refused e) (Refused e) is refl, refl)
