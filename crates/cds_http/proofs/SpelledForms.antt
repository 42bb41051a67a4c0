-- Whole messages and messages of the grammar are the same.
use Rattle.std.proofs.Common.{◌≡◌, ℕ, zero, suc, ◌+◌, ◌≤◌, ◌==◌, Bool, true, false, nat_le, IsTrue, List, [], ◌∷◌, ◌++◌, length, take, drop, Result, Ok, Err, if◌then◌else◌, refl, sym, ap, ◌∙◌, subst, arith, append_assoc}
use Rattle.std.proofs.Common.{length-append}
use Rattle.std.specs.List.{flat_map}
use Rattle.std.proofs.lemmas.Bool.Decides.{nat_tests}
use Rattle.std.proofs.lemmas.List.{append-nil, take-append-drop, length-take-le}
use Rattle.std.proofs.lemmas.List.Elements.{All-nil, All-cons}
use Rattle.httparse.specs.Grammar.{ChunkLine, IsChunkLine, print_chunk_line, chunk_size}
use Rattle.cds_http.specs.declared.error.HttpError.{HttpError}
use Rattle.cds_http.specs.declared.error.HttpError.TheVariants.{HeadTooLong, BadChunk, TooLong}
use Rattle.cds_http.specs.declared.message.Message.{Message}
use Rattle.cds_http.specs.declared.lines.LinePlace.{LinePlace}
use Rattle.cds_http.specs.declared.lines.LinePlace.TheVariants.{Before, Fresh, InLine}
use Rattle.cds_http.specs.declared.lines.Scan.{Scan}
use Rattle.cds_http.specs.declared.lines.Scan.TheVariants.{Ended, Open}
use Rattle.cds_http.specs.declared.framing.Framing.{Framing}
use Rattle.cds_http.specs.declared.framing.Framing.TheVariants.{Counted, Chunked, ToEnd}
use Rattle.cds_http.specs.declared.head.Head.{Head}
use Rattle.cds_http.specs.Known.{Known, Whole, Needs, Refused, Then, cut}
use Rattle.cds_http.specs.Lines.{scanned, end_of_scan, cut_at, EndsThere}
use Rattle.cds_http.specs.Head.{HeadOf, HeadKnown, head_limit, head_cut}
use Rattle.cds_http.specs.Framing.{framing_of, body_limit}
use Rattle.cds_http.specs.Chunks.{counted, open_body, behind, closed, closing, one_more, line_limit, line_cut, trailer_cut, LineOf, LineKnown, IsTrailer, TrailerOf, TrailerKnown, AfterLine, ChunksFrom, BodyKnown}
use Rattle.cds_http.specs.Decided.{with_head, with_body, FramedKnown, AfterHead}
use Rattle.cds_http.specs.Spelled.{Chunk, print_chunk, IsChunk, SpelledChunks, Spells, Spelled}
use Rattle.cds_http.specs.Laws.{WholeIsSpelled}
use Rattle.cds_http.proofs.Scans.{ended_within, ended-take}

-- a cut that gives a text
pub record CutsOff (start : LinePlace) (limit : ℕ) (bytes text rest : List ℕ) : Type 0 where
  pub all : bytes ≡ text ++ rest
  pub ends : EndsThere start text
  pub short : length text ≤ limit

pub cut_off : (start : LinePlace) (e : HttpError) (limit : ℕ) (bytes text rest : List ℕ) → cut_at start e limit bytes ≡ Whole text rest → CutsOff start limit bytes text rest
cut_off start e limit bytes text rest is = by (scanned start bytes) refl is
  where
    at : (n : ℕ) → scanned start bytes ≡ Ended n → (b : Bool) → nat_le n limit ≡ b
        → (if b then Whole (take n bytes) (drop n bytes) else Refused e) ≡ Whole text rest → CutsOff start limit bytes text rest
    at n ends true short is =
        let front : take n bytes ≡ text = cc in
        let back : drop n bytes ≡ rest = cc in
        let within = (ended_within start bytes n ends).1 in
        let size : length text ≡ n = ap length (sym front) ∙ length-take-le n bytes within in
        record {
          all = sym (take-append-drop n bytes) ∙ ap (λ (t : List ℕ). t ++ drop n bytes) front ∙ ap (λ (t : List ℕ). text ++ t) back;
          ends = ap (scanned start) (sym front) ∙ ended-take start bytes n ends ∙ ap (λ (k : ℕ). Ended k) (sym size);
          short = le_of n limit short size;
        }
      where
        le_of : (n limit : ℕ) → nat_le n limit ≡ true → length text ≡ n → length text ≤ limit
        le_of n limit short size = grind (arith, nat_tests)
    at n ends false short is = cc

    no_end : (b : Bool) → ◌≡◌ {A = Known (List ℕ)} (if b then Refused e else Needs) (Whole text rest) → CutsOff start limit bytes text rest
    no_end true is = cc
    no_end false is = cc

    by : (s : Scan) → scanned start bytes ≡ s → cut e limit (end_of_scan s) bytes ≡ Whole text rest → CutsOff start limit bytes text rest
    by (Ended n) ends is = at n ends (nat_le n limit) refl is
    by (Open q) opens is = no_end (nat_le limit (length bytes)) is

-- what stands behind a whole first thing
whole_first : {A B : Type 0} (first : Known A) (next : A → List ℕ → Known B → Type 0) (b : B) (rest : List ℕ) → Then first next (Whole b rest)
    → (a : A) × (left : List ℕ) × (first ≡ Whole a left) × next a left (Whole b rest)
whole_first (Whole a left) next b rest h = (a, left, refl, h)
whole_first Needs next b rest h = cc
whole_first (Refused e) next b rest h = cc

counted_whole_is : (n : ℕ) (bytes body rest : List ℕ) → counted n bytes ≡ Whole body rest → (bytes ≡ body ++ rest) × (length body ≡ n)
counted_whole_is n bytes body rest is = by (nat_le n (length bytes)) refl is
  where
    le_of : nat_le n (length bytes) ≡ true → n ≤ length bytes
    le_of h = grind (arith, nat_tests)

    by : (b : Bool) → nat_le n (length bytes) ≡ b → (if b then Whole (take n bytes) (drop n bytes) else Needs) ≡ Whole body rest
        → (bytes ≡ body ++ rest) × (length body ≡ n)
    by true h is =
        let front : take n bytes ≡ body = cc in
        let back : drop n bytes ≡ rest = cc in (
          sym (take-append-drop n bytes) ∙ ap (λ (t : List ℕ). t ++ drop n bytes) front ∙ ap (λ (t : List ℕ). body ++ t) back,
          ap length (sym front) ∙ length-take-le n bytes (le_of h),
        )
    by false h is = cc

open_whole_is : (ended : Bool) (bytes body rest : List ℕ) → open_body ended bytes ≡ Whole body rest
    → (bytes ≡ body) × (length body ≤ body_limit) × IsTrue ended × (rest ≡ [])
open_whole_is ended bytes body rest is = by (nat_le (length bytes) body_limit) refl ended refl is
  where
    le_of : (body : List ℕ) → nat_le (length bytes) body_limit ≡ true → bytes ≡ body → length body ≤ body_limit
    le_of body h same = subst (λ (t : List ℕ). length t ≤ body_limit) same (short h)
      where
        short : nat_le (length bytes) body_limit ≡ true → length bytes ≤ body_limit
        short h = grind (arith, nat_tests)

    by : (b : Bool) → nat_le (length bytes) body_limit ≡ b → (d : Bool) → ended ≡ d
        → (if b then (if d then Whole bytes [] else Needs) else Refused TooLong) ≡ Whole body rest
        → (bytes ≡ body) × (length body ≤ body_limit) × IsTrue ended × (rest ≡ [])
    by true h true over is =
        let same : bytes ≡ body = cc in
        let none : rest ≡ [] = cc in
        (same, le_of body h same, over, none)
    by true h false over is = cc
    by false h d over is = cc

closed_whole_is : (body bytes whole rest : List ℕ) → closed body bytes ≡ Whole whole rest → (bytes ≡ 13 ∷ 10 ∷ rest) × (whole ≡ body)
closed_whole_is body [] whole rest is = cc
closed_whole_is body (first ∷ []) whole rest is = by (first == 13) is
  where
    by : (b : Bool) → ◌≡◌ {A = Known (List ℕ)} (if b then Needs else Refused BadChunk) (Whole whole rest) → ((first ∷ []) ≡ 13 ∷ 10 ∷ rest) × (whole ≡ body)
    by true is = cc
    by false is = cc
closed_whole_is body (first ∷ second ∷ left) whole rest is = by (first == 13) refl (second == 10) refl is
  where
    is_cr : first == 13 ≡ true → first ≡ 13
    is_cr h = grind (arith, nat_tests)

    is_lf : second == 10 ≡ true → second ≡ 10
    is_lf h = grind (arith, nat_tests)

    by : (b : Bool) → first == 13 ≡ b → (d : Bool) → second == 10 ≡ d
        → (if b then (if d then Whole body left else Refused BadChunk) else Refused BadChunk) ≡ Whole whole rest
        → ((first ∷ second ∷ left) ≡ 13 ∷ 10 ∷ rest) × (whole ≡ body)
    by true cr true lf is =
        let one = is_cr cr in
        let two = is_lf lf in
        let same : left ≡ rest = cc in
        (cc, cc)
    by true cr false lf is = cc
    by false cr d lf is = cc

-- what one line of chunks gives, where the body is whole behind them
pub record BodyIs (body bytes whole rest : List ℕ) : Type 0 where
  pub text : List ℕ
  pub tail : List ℕ
  pub all : bytes ≡ text ++ rest
  pub whole_is : whole ≡ body ++ tail
  pub spelled : SpelledChunks text tail
  pub short : length body ≤ body_limit → length whole ≤ body_limit

line_is : (bytes : List ℕ) (size : ℕ) (left : List ℕ) → LineKnown bytes (Whole size left)
    → (l : ChunkLine) × IsChunkLine l × (bytes ≡ print_chunk_line l ++ left) × (length (print_chunk_line l) ≤ line_limit) × (size ≡ chunk_size l)
line_is bytes size left known =
    let first = whole_first {A = List ℕ} {B = ℕ} (line_cut bytes) LineOf size left known in
    let cuts = cut_off InLine BadChunk line_limit bytes first.0 first.1 first.2 in
    let line = first.3.0 in
    let same : first.0 ≡ print_chunk_line line.0 = line.1.1 ∙ append-nil (print_chunk_line line.0) in (
      line.0,
      line.1.0,
      cuts.all ∙ ap (λ (t : List ℕ). t ++ first.1) same ∙ ap (λ (t : List ℕ). print_chunk_line line.0 ++ t) (sym first.3.1),
      omega (arith, ap length same, cuts.short),
      line.2,
    )

trailer_is : (body bytes whole rest : List ℕ) → TrailerKnown body bytes (Whole whole rest)
    → (trailer : List ℕ) × (bytes ≡ trailer ++ rest) × IsTrailer trailer × (length trailer ≤ head_limit) × (whole ≡ body)
trailer_is body bytes whole rest known =
    let first = whole_first {A = List ℕ} {B = List ℕ} (trailer_cut bytes) (TrailerOf body) whole rest known in
    let cuts = cut_off Fresh BadChunk head_limit bytes first.0 first.1 first.2 in
    (first.0, cuts.all ∙ ap (λ (t : List ℕ). first.0 ++ t) (sym first.3.2), first.3.0, cuts.short, first.3.1)

closing_is : (known : Known (List ℕ)) (whole rest : List ℕ) → closing known ≡ Whole whole rest → (body : List ℕ) × (left : List ℕ) × (known ≡ Whole body left) × (closed body left ≡ Whole whole rest)
closing_is (Whole body left) whole rest is = (body, left, refl, is)
closing_is Needs whole rest is = cc
closing_is (Refused e) whole rest is = cc

behind_is : (before : List ℕ) (known : Known (List ℕ)) (whole rest : List ℕ) → behind before known ≡ Whole whole rest → (bytes : List ℕ) × (known ≡ Whole bytes rest) × (whole ≡ before ++ bytes)
behind_is before (Whole bytes left) whole rest is =
    let same : before ++ bytes ≡ whole = cc in
    let ends : left ≡ rest = cc in
    (bytes, ap (λ (t : List ℕ). Whole bytes t) ends, sym same)
behind_is before Needs whole rest is = cc
behind_is before (Refused e) whole rest is = cc

pub one_more_is : (body : List ℕ) (size : ℕ) (bytes whole rest : List ℕ) → one_more body size bytes ≡ Whole whole rest
    → (chunk : List ℕ) × (bytes ≡ chunk ++ 13 ∷ 10 ∷ rest) × (length chunk ≡ size) × (whole ≡ body ++ chunk) × (length whole ≤ body_limit)
one_more_is body size bytes whole rest is = by (nat_le (length body + size) body_limit) refl is
  where
    le_of : nat_le (length body + size) body_limit ≡ true → length body + size ≤ body_limit
    le_of h = grind (arith, nat_tests)

    by : (b : Bool) → nat_le (length body + size) body_limit ≡ b
        → (if b then closing (behind body (counted size bytes)) else Refused TooLong) ≡ Whole whole rest
        → (chunk : List ℕ) × (bytes ≡ chunk ++ 13 ∷ 10 ∷ rest) × (length chunk ≡ size) × (whole ≡ body ++ chunk) × (length whole ≤ body_limit)
    by true h is =
        let ends = closing_is (behind body (counted size bytes)) whole rest is in
        let shut = closed_whole_is ends.0 ends.1 whole rest ends.3 in
        let data_ = behind_is body (counted size bytes) ends.0 ends.1 ends.2 in
        let count = counted_whole_is size bytes data_.0 ends.1 data_.1 in
        let made : whole ≡ body ++ data_.0 = shut.1 ∙ data_.2 in (
          data_.0,
          count.0 ∙ ap (λ (t : List ℕ). data_.0 ++ t) shut.0,
          count.1,
          made,
          omega (arith, ap length made, length-append body data_.0, count.1, le_of h),
        )
    by false h is = cc

no_chunks : List Chunk
no_chunks = []

after_is : (next : List ℕ → List ℕ → Known (List ℕ) → Type 0)
    → ((body bytes whole rest : List ℕ) → next body bytes (Whole whole rest) → BodyIs body bytes whole rest)
    → (body : List ℕ) (size : ℕ) (l : ChunkLine) (bytes left whole rest : List ℕ) → IsChunkLine l → bytes ≡ print_chunk_line l ++ left
    → length (print_chunk_line l) ≤ line_limit → size ≡ chunk_size l
    → AfterLine next body size left (Whole whole rest) → BodyIs body bytes whole rest
after_is next later body zero l bytes left whole rest line all short is known =
    let trailer = trailer_is body left whole rest known in
    record {
      text = print_chunk_line l ++ trailer.0;
      tail = [];
      all = all ∙ ap (λ (t : List ℕ). print_chunk_line l ++ t) trailer.1 ∙ sym (append_assoc (print_chunk_line l) trailer.0 rest);
      whole_is = trailer.4 ∙ sym (append-nil body);
      spelled = record {
        chunks = [];
        last = l;
        trailer = trailer.0;
        text_is = refl;
        body_is = refl;
        each = All-nil IsChunk;
        last_line = line;
        last_short = short;
        last_zero = sym is;
        trailer_is = trailer.2;
        trailer_short = trailer.3;
      };
      short = λ fits. subst (λ (t : List ℕ). length t ≤ body_limit) (sym trailer.4) fits;
    }
after_is next later body (suc n) l bytes left whole rest line all short is known =
    let first = whole_first {A = List ℕ} {B = List ℕ} (one_more body (suc n) left) next whole rest known in
    let chunk = one_more_is body (suc n) left first.0 first.1 first.2 in
    let onwards = later first.0 first.1 whole rest first.3 in
    let c : Chunk = record { line = l; bytes = chunk.0 } in
    let spelled = onwards.spelled in
    record {
      text = print_chunk c ++ onwards.text;
      tail = chunk.0 ++ onwards.tail;
      all =
          all
          ∙ ap (λ (t : List ℕ). print_chunk_line l ++ t) (chunk.1 ∙ ap (λ (t : List ℕ). chunk.0 ++ 13 ∷ 10 ∷ t) onwards.all)
          ∙ regroup (print_chunk_line l) chunk.0 onwards.text rest;
      whole_is = onwards.whole_is ∙ ap (λ (t : List ℕ). t ++ onwards.tail) chunk.3 ∙ append_assoc body chunk.0 onwards.tail;
      spelled = record {
        chunks = c ∷ spelled.chunks;
        last = spelled.last;
        trailer = spelled.trailer;
        text_is =
            ap (λ (t : List ℕ). print_chunk c ++ t) spelled.text_is
            ∙ sym (append_assoc (print_chunk c) (flat_map print_chunk spelled.chunks) (print_chunk_line spelled.last ++ spelled.trailer));
        body_is = ap (λ (t : List ℕ). chunk.0 ++ t) spelled.body_is;
        each = All-cons IsChunk c spelled.chunks (record { line = line; short = short; some = omega (arith, chunk.2); counted = sym is ∙ sym chunk.2 }) spelled.each;
        last_line = spelled.last_line;
        last_short = spelled.last_short;
        last_zero = spelled.last_zero;
        trailer_is = spelled.trailer_is;
        trailer_short = spelled.trailer_short;
      };
      short = λ fits. onwards.short chunk.4;
    }
  where
    regroup : (a b c d : List ℕ) → a ++ (b ++ 13 ∷ 10 ∷ (c ++ d)) ≡ ((a ++ b ++ 13 ∷ 10 ∷ []) ++ c) ++ d
    regroup a b c d =
        let last : List ℕ = 13 ∷ 10 ∷ [] in
        sym (
        ap (λ (t : List ℕ). t ++ d) (append_assoc (a ++ b) last c)
        ∙ append_assoc (a ++ b) (last ++ c) d
        ∙ append_assoc a b ((last ++ c) ++ d)
        )

chunks_are : (most : ℕ) (body bytes whole rest : List ℕ) → ChunksFrom most body bytes (Whole whole rest) → BodyIs body bytes whole rest
chunks_are zero body bytes whole rest known = absurd known
chunks_are (suc fewer) body bytes whole rest known =
    let first = whole_first {A = ℕ} {B = List ℕ} known.0 (AfterLine (ChunksFrom fewer) body) whole rest known.2 in
    let line = line_is bytes first.0 first.1 (subst (LineKnown bytes) first.2 known.1) in
    after_is (ChunksFrom fewer) (chunks_are fewer) body first.0 line.0 bytes first.1 whole rest line.1 line.2 line.3 line.4 first.3

spells_of : (ended : Bool) (framing : Framing) (bytes body rest : List ℕ) → BodyKnown ended framing bytes (Whole body rest)
    → (text : List ℕ) × (bytes ≡ text ++ rest) × Spells ended framing text rest body
spells_of ended (Counted n) bytes body rest known =
    let is = counted_whole_is n bytes body rest (sym known) in
    (body, is.0, (refl, is.1))
spells_of ended Chunked bytes body rest known =
    let is = chunks_are known.0 [] bytes body rest known.1 in
    (is.text, is.all, (subst (SpelledChunks is.text) (sym is.whole_is) is.spelled, is.short (omega arith)))
spells_of ended ToEnd bytes body rest known =
    let is = open_whole_is ended bytes body rest (sym known) in
    (body, is.0 ∙ sym (append-nil body) ∙ ap (λ (t : List ℕ). body ++ t) (sym is.3), (refl, is.1, is.2, is.3))

with_head_is : (head : Head) (known : Known (List ℕ)) (m : Message) (rest : List ℕ) → Whole m rest ≡ with_head head known
    → (body : List ℕ) × (known ≡ Whole body rest) × (m ≡ with_body head body)
with_head_is head (Whole body left) m rest is =
    let ends : left ≡ rest = cc in
    (body, ap (λ (t : List ℕ). Whole body t) ends, cc)
with_head_is head Needs m rest is = cc
with_head_is head (Refused e) m rest is = cc

framed_is : (ended : Bool) (rule : Result Framing HttpError) (head : Head) (bytes : List ℕ) (m : Message) (rest : List ℕ)
    → FramedKnown ended rule head bytes (Whole m rest)
    → (framing : Framing) × (rule ≡ Ok framing) × ((body : List ℕ) × BodyKnown ended framing bytes (Whole body rest) × (m ≡ with_body head body))
framed_is ended (Err e) head bytes m rest known = cc
framed_is ended (Ok framing) head bytes m rest known =
    let is = with_head_is head known.0 m rest known.2 in
    (framing, refl, (is.0, subst (BodyKnown ended framing bytes) is.1 known.1, is.2))

pub whole_is_spelled : WholeIsSpelled
whole_is_spelled ended side bytes m rest known =
    let first = whole_first {A = Head} {B = Message} known.0 (AfterHead ended side) m rest known.2 in
    let head = first.0 in
    let read = whole_first {A = List ℕ} {B = Head} (head_cut bytes) (HeadOf side) head first.1 (subst (HeadKnown side bytes) first.2 known.1) in
    let cuts = cut_off Before HeadTooLong head_limit bytes read.0 read.1 read.2 in
    let framed = framed_is ended (framing_of side head.fields) head first.1 m rest first.3 in
    let body = framed.2.0 in
    let made = framed.2.2 in
    let spells = spells_of ended framed.0 first.1 body rest framed.2.1 in
    subst (λ (m : Message). Spelled ended side bytes m rest) (sym made) (record {
      front = read.0;
      text = spells.0;
      bytes_are = cuts.all ∙ ap (λ (t : List ℕ). read.0 ++ t) (sym read.3.1 ∙ spells.1);
      front_short = cuts.short;
      head = read.3.0;
      framing = framed.0;
      framing_is = framed.1;
      body = spells.2;
    })
