-- What is read of a chunk line and of a trailer that end there.
use Rattle.std.proofs.Common.{◌≡◌, ℕ, ◌≤◌, List, map, [], length, take, drop, ap, subst, arith}
use Rattle.std.proofs.lemmas.List.{length-map, length-take}
use Rattle.httparse.specs.Grammar.{ChunkLine, print_chunk_line, ReadsChunkLine, HasNoChunkLine, Field, print_section, ReadsSection}
use Rattle.httparse.specs.declared.spans.HeaderSpan.{HeaderSpan}
use Rattle.httparse.specs.Spans.{IsChunkLineAt, IsSectionOf, header_bytes, name_and_value}
use Rattle.cds_http.specs.declared.lines.LinePlace.TheVariants.{Fresh, InLine}
use Rattle.cds_http.specs.Lines.{EndsThere}
use Rattle.cds_http.specs.Chunks.{IsSizeLine, IsTrailer}
use Rattle.cds_http.proofs.Ends.{rest_none, line_ends, section_ends}

pub size_read : (line : List ℕ) (len size : ℕ) (l : ChunkLine) → IsChunkLineAt line len size l → EndsThere InLine line → IsSizeLine line size
size_read line len size l at whole =
    let none = rest_none InLine line (print_chunk_line l) (drop len line) whole (line_ends l at.reads.0) at.reads.1 in
    (l, subst (λ (rest : List ℕ). ReadsChunkLine line l rest) none at.reads, at.size_is)

pub no_size : (line : List ℕ) → HasNoChunkLine line → (size : ℕ) → ¬ (IsSizeLine line size)
no_size line none size is = none is.0 [] is.1

-- fields that are covered by headers are no more than those
pub few_fields : (buf : List ℕ) (headers : List HeaderSpan) (count limit : ℕ) (fields : List Field) → length headers ≤ limit
    → map (header_bytes buf) (take count headers) ≡ map name_and_value fields → length fields ≤ limit
few_fields buf headers count limit fields room are =
    omega (
      arith,
      ap length are,
      length-map (take count headers) (header_bytes buf),
      length-map fields name_and_value,
      length-take count headers,
    )

pub trailer_read : (text : List ℕ) (headers : List HeaderSpan) (len count : ℕ) → length headers ≤ 64 → IsSectionOf text 0 headers (len, count)
    → EndsThere Fresh text → IsTrailer text
trailer_read text headers len count room found whole =
    let at = found.2 in
    let none = rest_none Fresh text (print_section found.0 found.1) (drop len text) whole (section_ends found.0 found.1 at.reads.0) at.reads.1 in (
      found.0,
      found.1,
      subst (λ (rest : List ℕ). ReadsSection text found.0 found.1 rest) none at.reads,
      few_fields text headers count 64 found.0 room at.fields_are,
    )
