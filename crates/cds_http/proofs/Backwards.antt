-- A message of the grammar is whole.
use Rattle.std.proofs.Common.{◌≡◌, ℕ, suc, ◌+◌, ◌≤◌, Bool, true, All, List, [], ◌∷◌, ◌++◌, length, drop, Result, if◌then◌else◌, refl, sym, ap, ◌∙◌, subst, arith, append_assoc}
use Rattle.std.proofs.Common.{length-append}
use Rattle.std.specs.List.{flat_map}
use Rattle.std.proofs.lemmas.List.{append-nil}
use Rattle.std.proofs.lemmas.List.Elements.{All-head, All-tail}
use Rattle.httparse.specs.Grammar.{ChunkLine, IsChunkLine, print_chunk_line, chunk_size, print_section, print_request, print_response}
use Rattle.cds_http.specs.declared.error.HttpError.{HttpError}
use Rattle.cds_http.specs.declared.error.HttpError.TheVariants.{BadChunk, TooLong}
use Rattle.cds_http.specs.declared.message.Side.{Side}
use Rattle.cds_http.specs.declared.message.Side.TheVariants.{Request, Reply}
use Rattle.cds_http.specs.declared.lines.LinePlace.TheVariants.{Before, Fresh}
use Rattle.cds_http.specs.declared.framing.Framing.{Framing}
use Rattle.cds_http.specs.declared.framing.Framing.TheVariants.{Counted, Chunked, ToEnd}
use Rattle.cds_http.specs.declared.head.Head.{Head}
use Rattle.cds_http.specs.Known.{Known, Whole, Needs, Refused, Then}
use Rattle.cds_http.specs.Lines.{EndsThere}
use Rattle.cds_http.specs.Head.{IsHead, head_limit}
use Rattle.cds_http.specs.Framing.{body_limit}
use Rattle.cds_http.specs.Chunks.{counted, open_body, behind, closing, one_more, line_limit, IsSizeLine, LineKnown, IsTrailer, TrailerOf, TrailerKnown, ChunksFrom, Chunks, BodyKnown}
use Rattle.cds_http.specs.Decided.{Decides, FramedKnown}
use Rattle.cds_http.specs.Spelled.{Chunk, print_chunk, IsChunk, Spells}
use Rattle.cds_http.specs.Laws.{SpelledIsWhole, MessagesEnd}
use Rattle.cds_http.specs.Reading.{at_end}
use Rattle.cds_http.proofs.Cuts.{cut_whole, le_true}
use Rattle.cds_http.proofs.Counting.{counted_done}
use Rattle.cds_http.proofs.Chunking.{line_known, after_some, one_more_fits}
use Rattle.cds_http.proofs.Ends.{line_ends, section_ends, request_ends, response_ends}
use Rattle.cds_http.proofs.StageForms.{head_whole}
use Rattle.cds_http.proofs.Once.{one_outcome}

head_ends : (side : Side) (text : List ℕ) (head : Head) → IsHead side text head → EndsThere Before text
head_ends Request text head is =
    subst (EndsThere Before) (sym (is.1.1 ∙ append-nil (print_request is.0))) (request_ends is.0 is.1.0)
head_ends Reply text head is =
    subst (EndsThere Before) (sym (is.1.1 ∙ append-nil (print_response is.0))) (response_ends is.0 is.1.0)

trailer_ends : (text : List ℕ) → IsTrailer text → EndsThere Fresh text
trailer_ends text is =
    subst (EndsThere Fresh) (sym (is.2.1 ∙ append-nil (print_section is.0 is.1))) (section_ends is.0 is.1 is.2.0)

size_line : (l : ChunkLine) (size : ℕ) → IsChunkLine l → size ≡ chunk_size l → IsSizeLine (print_chunk_line l) size
size_line l size is same = (l, (is, sym (append-nil (print_chunk_line l))), same)

trailer_known : (body trailer rest whole : List ℕ) → IsTrailer trailer → length trailer ≤ head_limit → whole ≡ body → TrailerKnown body (trailer ++ rest) (Whole whole rest)
trailer_known body trailer rest whole is short same =
    subst (λ (k : Known (List ℕ)). Then {A = List ℕ} {B = List ℕ} k (TrailerOf body) (Whole whole rest)) (sym (cut_whole Fresh BadChunk head_limit trailer rest (trailer_ends trailer is) short)) (is, same, refl)

chunk_whole : (body chunk more : List ℕ) → length body + length chunk ≤ body_limit
    → one_more body (length chunk) (chunk ++ 13 ∷ 10 ∷ more) ≡ Whole (body ++ chunk) more
chunk_whole body chunk more fits =
    one_more_fits body (length chunk) (chunk ++ 13 ∷ 10 ∷ more) fits
    ∙ ap closing (counted_done body chunk (13 ∷ 10 ∷ more))

chunks_known : (chunks : List Chunk) (last : ChunkLine) (trailer body rest whole : List ℕ) → All IsChunk chunks → IsChunkLine last
    → length (print_chunk_line last) ≤ line_limit → chunk_size last ≡ 0 → IsTrailer trailer → length trailer ≤ head_limit
    → whole ≡ body ++ flat_map (λ c. c.bytes) chunks → length whole ≤ body_limit
    → Chunks body ((flat_map print_chunk chunks ++ (print_chunk_line last ++ trailer)) ++ rest) (Whole whole rest)
chunks_known [] last trailer body rest whole each line short none is trailer_short whole_is fits =
    let known = line_known (print_chunk_line last) (trailer ++ rest) 0 (size_line last 0 line (sym none)) (line_ends last line) short in (
      1,
      (
        Whole 0 (trailer ++ rest),
        subst (λ (t : List ℕ). LineKnown t (Whole 0 (trailer ++ rest))) (sym (append_assoc (print_chunk_line last) trailer rest)) known,
        trailer_known body trailer rest whole is trailer_short (whole_is ∙ append-nil body),
      ),
    )
chunks_known (c ∷ chunks) last trailer body rest whole each line short none is trailer_short whole_is fits =
    let here = All-head IsChunk c chunks each in
    let later = (flat_map print_chunk chunks ++ (print_chunk_line last ++ trailer)) ++ rest in
    let made : whole ≡ (body ++ c.bytes) ++ flat_map (λ c. c.bytes) chunks =
    whole_is ∙ sym (append_assoc body c.bytes (flat_map (λ c. c.bytes) chunks)) in
    let onwards = chunks_known chunks last trailer (body ++ c.bytes) rest whole (All-tail IsChunk c chunks each) line short none is trailer_short made fits in
    let left = c.bytes ++ 13 ∷ 10 ∷ later in
    let room : length body + length c.bytes ≤ body_limit =
    omega (arith, ap length made, length-append (body ++ c.bytes) (flat_map (λ c. c.bytes) chunks), length-append body c.bytes, fits) in
    let known = line_known (print_chunk_line c.line) left (length c.bytes) (size_line c.line (length c.bytes) here.line (sym here.counted)) (line_ends c.line here.line) here.short in (
      suc onwards.0,
      (
        Whole (length c.bytes) left,
        subst (λ (t : List ℕ). LineKnown t (Whole (length c.bytes) left))
            (regroup (print_chunk_line c.line) c.bytes (flat_map print_chunk chunks) (print_chunk_line last ++ trailer) rest) known,
        after_some (ChunksFrom onwards.0) body (length c.bytes) left (Whole whole rest) here.some
            (subst (λ (k : Known (List ℕ)). Then {A = List ℕ} {B = List ℕ} k (ChunksFrom onwards.0) (Whole whole rest)) (sym (chunk_whole body c.bytes later room)) onwards.1),
      ),
    )
  where
    regroup : (a b d e f : List ℕ) → a ++ (b ++ 13 ∷ 10 ∷ ((d ++ e) ++ f)) ≡ (((a ++ b ++ 13 ∷ 10 ∷ []) ++ d) ++ e) ++ f
    regroup a b d e f =
        let last : List ℕ = 13 ∷ 10 ∷ [] in
        sym (
        ap (λ (t : List ℕ). t ++ f) (append_assoc (a ++ b ++ last) d e)
        ∙ append_assoc (a ++ b ++ last) (d ++ e) f
        ∙ append_assoc (a ++ b) last ((d ++ e) ++ f)
        ∙ append_assoc a b (last ++ ((d ++ e) ++ f))
        )

known_of : (ended : Bool) (framing : Framing) (text rest body : List ℕ) → Spells ended framing text rest body → BodyKnown ended framing (text ++ rest) (Whole body rest)
known_of ended (Counted n) text rest body is =
    sym (ap (λ (t : List ℕ). counted n (t ++ rest)) is.0 ∙ ap (λ (k : ℕ). counted k (body ++ rest)) (sym is.1) ∙ counted_whole_text body rest)
  where
    counted_whole_text : (body rest : List ℕ) → counted (length body) (body ++ rest) ≡ Whole body rest
    counted_whole_text body rest = plain (counted (length body) (body ++ rest)) body rest (counted_done [] body rest)
      where
        plain : (k : Known (List ℕ)) (body rest : List ℕ) → behind [] k ≡ Whole body rest → k ≡ Whole body rest
        plain (Whole b r) body rest h = h
        plain Needs body rest h = cc
        plain (Refused e) body rest h = cc
known_of ended Chunked text rest body is =
    let s = is.0 in
    subst (λ (t : List ℕ). Chunks [] (t ++ rest) (Whole body rest)) (sym s.text_is)
    (chunks_known s.chunks s.last s.trailer [] rest body s.each s.last_line s.last_short s.last_zero s.trailer_is s.trailer_short s.body_is is.1)
known_of ended ToEnd text rest body is =
    let whole : open_body ended body ≡ Whole body [] =
    ap (λ (b : Bool). if b then (if ended then Whole body [] else Needs) else Refused TooLong) (le_true (length body) body_limit is.1)
    ∙ ap (λ (b : Bool). if b then Whole body [] else Needs) is.2 in
    ap (λ (t : List ℕ). Whole body t) is.3
    ∙ sym (
    ap (λ (t : List ℕ). open_body ended (text ++ t)) is.3
    ∙ ap (open_body ended) (append-nil text ∙ is.0)
    ∙ whole
    )

pub spelled_is_whole : SpelledIsWhole
spelled_is_whole ended side bytes m rest s =
    let head : Head = record { start = m.start; fields = m.fields } in
    subst (λ (t : List ℕ). Decides ended side t (Whole m rest)) (sym s.bytes_are) (
      Whole head (s.text ++ rest),
      head_whole side s.front (s.text ++ rest) head s.head (head_ends side s.front head s.head) s.front_short,
      subst (λ (r : Result Framing HttpError). FramedKnown ended r head (s.text ++ rest) (Whole m rest)) (sym s.framing_is)
          (Whole m.body rest, known_of ended s.framing s.text rest m.body s.body, refl),
    )

pub messages_end : MessagesEnd
messages_end side bytes m n result is finishes =
    finishes.2 ∙ ap at_end (one_outcome true side bytes finishes.0 (Whole m (drop n bytes)) finishes.1 (spelled_is_whole true side bytes m (drop n bytes) is.1))
