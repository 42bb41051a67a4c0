-- A body that is read piece by piece.
use Rattle.std.specs.Prelude.{◌≡◌, ℕ, ◌+◌, ◌<◌, ◌≤◌, ⊤, Bool, true, false, List, [], ◌∷◌, ◌++◌, length, take, Result, Ok, Err}
use Rattle.cds_http.specs.declared.error.HttpError.{HttpError}
use Rattle.cds_http.specs.declared.error.HttpError.TheVariants.{BadHead, HeadTooLong, BadLength, BadChunk, TooLong, Truncated, Failed, Mem}
use Rattle.cds_http.specs.declared.lines.LinePlace.TheVariants.{Fresh, InLine}
use Rattle.cds_http.specs.declared.body.Part.{Part}
use Rattle.cds_http.specs.declared.body.Part.TheVariants.{Counted, ToEnd, Line, Data, Close, Trailer}
use Rattle.cds_http.specs.declared.body.Body.{Body}
use Rattle.cds_http.specs.declared.body.Progress.{Progress}
use Rattle.cds_http.specs.declared.body.Progress.TheVariants.{More, Whole as WholeBody}
use Rattle.cds_http.specs.Known.{Known, Whole, Needs, Refused, Then}
use Rattle.cds_http.specs.Lines.{IsFront}
use Rattle.cds_http.specs.Head.{head_limit}
use Rattle.cds_http.specs.Framing.{body_limit}
use Rattle.cds_http.specs.Chunks.{counted, open_body, line_limit, closed, closing, behind, IsSizeLine, IsTrailer, TrailerKnown, ChunksFrom, Chunks}

-- What the next bytes say of a body. These bytes of it came, and this part comes next.
abbrev pub PartKnown : Bool → List ℕ → Part → List ℕ → Known (List ℕ) → Type 0
PartKnown ended body (Counted left) more known = known ≡ behind body (counted left more)
PartKnown ended body ToEnd more known = known ≡ open_body ended (body ++ more)
PartKnown ended body (Line front) more known = Chunks body (front.text ++ more) known
PartKnown ended body (Data left) more known =
    (most : ℕ) × Then (closing (behind body (counted left more))) (ChunksFrom most) known
PartKnown ended body Close more known = (most : ℕ) × Then (closed body (13 ∷ more)) (ChunksFrom most) known
PartKnown ended body (Trailer front) more known = TrailerKnown body (front.text ++ more) known

abbrev pub StillKnown : Bool → Body → List ℕ → Known (List ℕ) → Type 0
StillKnown ended b more known = PartKnown ended b.bytes b.part more known

-- What is kept of a line or a trailer has no end in it, and is not too long.
abbrev pub FitsPart : List ℕ → Part → Type 0
FitsPart body (Counted left) = ⊤
FitsPart body ToEnd = length body ≤ body_limit
FitsPart body (Line front) = IsFront InLine line_limit front
FitsPart body (Data left) = ⊤
FitsPart body Close = ⊤
FitsPart body (Trailer front) = IsFront Fresh head_limit front

abbrev pub Fits : Body → Type 0
Fits b = FitsPart b.bytes b.part

-- The body is not whole yet.
abbrev pub Waits : Body → Type 0
Waits b = StillKnown false b [] Needs

-- What is said of the bytes after the later state is said of them after the prefix and the earlier state.
abbrev pub Follows : Body → List ℕ → Body → Type 0
Follows before front after =
    (ended : Bool) (more : List ℕ) (known : Known (List ℕ)) → StillKnown ended after more known
    → StillKnown ended before (front ++ more) known

-- A refusal holds by its cause, and a refusal for memory needs none. The two others never come from bytes.
abbrev pub Explains : HttpError → Type 0 → Type 0
Explains Mem cause = ⊤
Explains Failed cause = ⊥
Explains Truncated cause = ⊥
Explains BadHead cause = cause
Explains HeadTooLong cause = cause
Explains BadLength cause = cause
Explains BadChunk cause = cause
Explains TooLong cause = cause

-- The outcome of bytes after a state: a later state after some of them, the body, or a refusal that holds whatever
-- follows.
abbrev pub Goes : Body → List ℕ → Result Progress HttpError → Type 0
Goes before bytes (Ok (More after used)) =
    (used ≤ length bytes) × Fits after × Waits after × Follows before (take used bytes) after
Goes before bytes (Ok (WholeBody body used)) =
    (used ≤ length bytes)
    × ((ended : Bool) (more : List ℕ) → StillKnown ended before (take used bytes ++ more) (Whole body more))
Goes before bytes (Err e) =
    Explains e ((ended : Bool) (more : List ℕ) → StillKnown ended before (bytes ++ more) (Refused e))

-- If there are bytes and the body goes on, at least one was used.
abbrev pub UsesSome : List ℕ → Result Progress HttpError → Type 0
UsesSome bytes (Ok (More after used)) = (used ≤ length bytes) × (0 < length bytes → 0 < used)
UsesSome bytes (Ok (WholeBody body used)) = used ≤ length bytes
UsesSome bytes (Err e) = ⊤

abbrev pub UsesAll : List ℕ → Result Progress HttpError → Type 0
UsesAll bytes (Ok (More after used)) = used ≡ length bytes
UsesAll bytes (Ok (WholeBody body used)) = used ≤ length bytes
UsesAll bytes (Err e) = ⊤

-- A chunk line comes after these bytes of a body.
abbrev pub Turns : List ℕ → List ℕ → Result Body HttpError → Type 0
Turns body line (Ok after) =
    Fits after × Waits after
    × ((ended : Bool) (more : List ℕ) (known : Known (List ℕ)) → StillKnown ended after more known → Chunks body (line ++ more) known)
Turns body line (Err e) = Explains e ((more : List ℕ) → Chunks body (line ++ more) (Refused e))

-- A chunk line is read.
abbrev pub SizeRead : List ℕ → Result ℕ HttpError → Type 0
SizeRead line (Ok size) = IsSizeLine line size
SizeRead line (Err e) = (e ≡ BadChunk) × ((size : ℕ) → ¬ (IsSizeLine line size))

-- A trailer ends with its text.
abbrev pub TrailerRead : List ℕ → Bool → Type 0
TrailerRead text true = IsTrailer text
TrailerRead text false = ¬ (IsTrailer text)

-- A piece is added to bytes, of which this many more are left, if it does not end them.
abbrev pub Adds : List ℕ → ℕ → List ℕ → Result Bool HttpError → List ℕ → ℕ → Type 0
Adds bytes left piece (Ok true) after rest = (length piece < left) × (length piece + rest ≡ left) × (after ≡ bytes ++ piece)
Adds bytes left piece (Ok false) after rest = (after ≡ bytes) × (rest ≡ left)
Adds bytes left piece (Err e) after rest = e ≡ Mem

-- A piece is added to a body in place, or the body stays as it was.
abbrev pub Lengthens : Body → List ℕ → Result Bool HttpError → Body → Type 0
Lengthens before piece (Ok true) after = Goes before piece (Ok (More after (length piece)))
Lengthens before piece (Ok false) after = after ≡ before
Lengthens before piece (Err e) after = e ≡ Mem
