-- The bytes of a body.
use Rattle.std.specs.Prelude.{◌≡◌, ℕ, zero, suc, ◌+◌, ◌≤◌, nat_le, Bool, List, [], ◌∷◌, ◌++◌, length, take, drop, if◌then◌else◌, ◌==◌}
use Rattle.httparse.specs.Grammar.{ChunkLine, ReadsChunkLine, chunk_size, Field, LineEnd, ReadsSection}
use Rattle.cds_http.specs.declared.error.HttpError.TheVariants.{BadChunk, TooLong}
use Rattle.cds_http.specs.declared.lines.LinePlace.TheVariants.{Fresh, InLine}
use Rattle.cds_http.specs.declared.framing.Framing.{Framing}
use Rattle.cds_http.specs.declared.framing.Framing.TheVariants.{Counted, Chunked, ToEnd}
use Rattle.cds_http.specs.Known.{Known, Whole, Needs, Refused, Then, map_known}
use Rattle.cds_http.specs.Lines.{cut_at}
use Rattle.cds_http.specs.Head.{head_limit, field_limit}
use Rattle.cds_http.specs.Framing.{body_limit}

-- The first n bytes.
abbrev pub counted : ℕ → List ℕ → Known (List ℕ)
counted n bytes = if nat_le n (length bytes) then Whole (take n bytes) (drop n bytes) else Needs

-- A body that goes on to the end of the connection. The flag says whether that end has come.
abbrev pub open_body : Bool → List ℕ → Known (List ℕ)
open_body ended bytes =
    if nat_le (length bytes) body_limit then (if ended then Whole bytes [] else Needs) else Refused TooLong

-- The most bytes of a chunk line, with its CR LF.
abbrev pub line_limit : ℕ
line_limit = 4096

-- The text is a chunk line that gives this size.
abbrev pub IsSizeLine : List ℕ → ℕ → Type 0
IsSizeLine text size = (l : ChunkLine) × ReadsChunkLine text l [] × (size ≡ chunk_size l)

abbrev pub LineOf : List ℕ → List ℕ → Known ℕ → Type 0
LineOf text rest (Whole size left) = IsSizeLine text size × (left ≡ rest)
LineOf text rest Needs = ⊥
LineOf text rest (Refused e) = (e ≡ BadChunk) × ((size : ℕ) → ¬ (IsSizeLine text size))

-- A chunk line is judged when its LF has come.
abbrev pub line_cut : List ℕ → Known (List ℕ)
line_cut bytes = cut_at InLine BadChunk line_limit bytes

abbrev pub LineKnown : List ℕ → Known ℕ → Type 0
LineKnown bytes known = Then (line_cut bytes) LineOf known

-- The text is the fields of a trailer and its empty line, with at most `field_limit` fields.
abbrev pub IsTrailer : List ℕ → Type 0
IsTrailer text = (fields : List Field) × (last : LineEnd) × ReadsSection text fields last [] × (length fields ≤ field_limit)

abbrev pub TrailerOf : List ℕ → List ℕ → List ℕ → Known (List ℕ) → Type 0
TrailerOf body text rest (Whole thing left) = IsTrailer text × (thing ≡ body) × (left ≡ rest)
TrailerOf body text rest Needs = ⊥
TrailerOf body text rest (Refused e) = (e ≡ BadChunk) × ¬ (IsTrailer text)

-- A trailer is judged when its empty line has come, and then passed over.
abbrev pub trailer_cut : List ℕ → Known (List ℕ)
trailer_cut bytes = cut_at Fresh BadChunk head_limit bytes

abbrev pub TrailerKnown : List ℕ → List ℕ → Known (List ℕ) → Type 0
TrailerKnown body bytes known = Then (trailer_cut bytes) (TrailerOf body) known

-- The CR LF after the bytes of a chunk.
abbrev pub closed : List ℕ → List ℕ → Known (List ℕ)
closed body [] = Needs
closed body (first ∷ []) = if first == 13 then Needs else Refused BadChunk
closed body (first ∷ second ∷ rest) = if first == 13 then (if second == 10 then Whole body rest else Refused BadChunk) else Refused BadChunk

-- The body with the bytes of one more chunk, which end in CR LF.
abbrev pub closing : Known (List ℕ) → Known (List ℕ)
closing (Whole body rest) = closed body rest
closing Needs = Needs
closing (Refused e) = Refused e

-- Bytes that come after others.
abbrev pub behind : List ℕ → Known (List ℕ) → Known (List ℕ)
behind before known = map_known (λ bytes. before ++ bytes) known

abbrev pub one_more : List ℕ → ℕ → List ℕ → Known (List ℕ)
one_more body size rest = if nat_le (length body + size) body_limit then closing (behind body (counted size rest)) else Refused TooLong

-- The line of the last chunk has size 0, and the trailer comes after it. After any other line come its bytes and the
-- next.
abbrev pub AfterLine : (List ℕ → List ℕ → Known (List ℕ) → Type 0) → List ℕ → ℕ → List ℕ → Known (List ℕ) → Type 0
AfterLine next body zero rest known = TrailerKnown body rest known
AfterLine next body (suc n) rest known = Then (one_more body (suc n) rest) next known

-- What the bytes say of a body in chunks that follows these bytes of it, if at most n lines are looked at.
abbrev pub ChunksFrom : ℕ → List ℕ → List ℕ → Known (List ℕ) → Type 0
ChunksFrom zero body bytes known = ⊥
ChunksFrom (suc fewer) body bytes known =
    (line : Known ℕ) × LineKnown bytes line × Then line (AfterLine (ChunksFrom fewer) body) known

abbrev pub Chunks : List ℕ → List ℕ → Known (List ℕ) → Type 0
Chunks body bytes known = (most : ℕ) × ChunksFrom most body bytes known

-- What the bytes after a head say of the body.
abbrev pub BodyKnown : Bool → Framing → List ℕ → Known (List ℕ) → Type 0
BodyKnown ended (Counted n) bytes known = known ≡ counted n bytes
BodyKnown ended Chunked bytes known = Chunks [] bytes known
BodyKnown ended ToEnd bytes known = known ≡ open_body ended bytes
