-- Messages by the grammar, without a word on how they are read.
use Rattle.std.specs.Prelude.{◌≡◌, ℕ, ◌<◌, ◌≤◌, Bool, true, ◌++◌, List, [], length, drop, All, IsTrue, flat_map, Ok}
use Rattle.httparse.specs.Grammar.{ChunkLine, IsChunkLine, print_chunk_line, chunk_size, print_end, crlf}
use Rattle.cds_http.specs.declared.message.Side.{Side}
use Rattle.cds_http.specs.declared.message.Message.{Message}
use Rattle.cds_http.specs.declared.framing.Framing.{Framing}
use Rattle.cds_http.specs.declared.framing.Framing.TheVariants.{Counted, Chunked, ToEnd}
use Rattle.cds_http.specs.Head.{IsHead, head_limit}
use Rattle.cds_http.specs.Framing.{framing_of, body_limit}
use Rattle.cds_http.specs.Chunks.{line_limit, IsTrailer}

-- A chunk: its line, its bytes, CR LF.
pub record Chunk : Type 0 where
  pub line : ChunkLine
  pub bytes : List ℕ

abbrev pub print_chunk : Chunk → List ℕ
print_chunk c = print_chunk_line c.line ++ c.bytes ++ print_end crlf

-- The line is short enough. It gives the number of the bytes, and there is at least one.
pub record IsChunk (c : Chunk) : Type 0 where
  pub line : IsChunkLine c.line
  pub short : length (print_chunk_line c.line) ≤ line_limit
  pub some : 0 < length c.bytes
  pub counted : chunk_size c.line ≡ length c.bytes

-- Chunks, the line of the last chunk, which has no bytes, and a trailer, which is passed over.
pub record SpelledChunks (text body : List ℕ) : Type 0 where
  pub chunks : List Chunk
  pub last : ChunkLine
  pub trailer : List ℕ
  pub text_is : text ≡ flat_map print_chunk chunks ++ (print_chunk_line last ++ trailer)
  pub body_is : body ≡ flat_map (λ c. c.bytes) chunks
  pub each : All IsChunk chunks
  pub last_line : IsChunkLine last
  pub last_short : length (print_chunk_line last) ≤ line_limit
  pub last_zero : chunk_size last ≡ 0
  pub trailer_is : IsTrailer trailer
  pub trailer_short : length trailer ≤ head_limit

-- The text is this body by its length, by its chunks, or by the end of the connection, if that has come after it.
abbrev pub Spells : Bool → Framing → List ℕ → List ℕ → List ℕ → Type 0
Spells ended (Counted n) text rest body = (text ≡ body) × (length body ≡ n)
Spells ended Chunked text rest body = SpelledChunks text body × (length body ≤ body_limit)
Spells ended ToEnd text rest body = (text ≡ body) × (length body ≤ body_limit) × IsTrue ended × (rest ≡ [])

-- The bytes are the message and then the rest: a head, and a body by the rule that the fields of the head give.
pub record Spelled (ended : Bool) (side : Side) (bytes : List ℕ) (m : Message) (rest : List ℕ) : Type 0 where
  pub front : List ℕ
  pub text : List ℕ
  pub bytes_are : bytes ≡ front ++ (text ++ rest)
  pub front_short : length front ≤ head_limit
  pub head : IsHead side front (record { start = m.start; fields = m.fields })
  pub framing : Framing
  pub framing_is : framing_of side m.fields ≡ Ok framing
  pub body : Spells ended framing text rest m.body

-- The first n bytes are the message, if the connection has ended after all of them.
abbrev pub IsMessage : Side → List ℕ → Message → ℕ → Type 0
IsMessage side bytes m n = (n ≤ length bytes) × Spelled true side bytes m (drop n bytes)
