-- Laws of what is said of messages.
use Rattle.std.specs.Prelude.{◌≡◌, ◌↔◌, ℕ, ◌-◌, ◌≤◌, ◌⊎◌, All, Bool, true, false, List, [], ◌∷◌, ◌++◌, length, drop, Option, Some, Result, Ok, Err}
use Rattle.cds_http.specs.declared.error.HttpError.{HttpError}
use Rattle.cds_http.specs.declared.error.HttpError.TheVariants.{BadHead, HeadTooLong, BadLength, BadChunk, TooLong, Mem}
use Rattle.cds_http.specs.declared.message.Side.{Side}
use Rattle.cds_http.specs.declared.message.Message.{Message}
use Rattle.cds_http.specs.declared.message.Fed.{Fed}
use Rattle.cds_http.specs.declared.message.Fed.TheVariants.{More, Whole as WholeFed}
use Rattle.cds_http.specs.Known.{Known, Whole, Needs, Refused}
use Rattle.cds_http.specs.Head.{IsNoHead, head_cut, head_limit}
use Rattle.cds_http.specs.Decided.{Decides}
use Rattle.cds_http.specs.Spelled.{Spelled, IsMessage}
use Rattle.cds_http.specs.Reading.{Takes, Finishes, at_end}

-- Bytes that begin with a message have at most one outcome.
abbrev pub OneOutcome : Type 0
OneOutcome =
    (ended : Bool) (side : Side) (bytes : List ℕ) (first second : Known Message) → Decides ended side bytes first → Decides ended side bytes second
    → first ≡ second

-- A whole message is one of the grammar.
abbrev pub WholeIsSpelled : Type 0
WholeIsSpelled =
    (ended : Bool) (side : Side) (bytes : List ℕ) (m : Message) (rest : List ℕ) → Decides ended side bytes (Whole m rest)
    → Spelled ended side bytes m rest

-- A message of the grammar is whole.
abbrev pub SpelledIsWhole : Type 0
SpelledIsWhole =
    (ended : Bool) (side : Side) (bytes : List ℕ) (m : Message) (rest : List ℕ) → Spelled ended side bytes m rest
    → Decides ended side bytes (Whole m rest)

-- The end of the connection after bytes whose first n are a message gives that message.
abbrev pub MessagesEnd : Type 0
MessagesEnd =
    (side : Side) (bytes : List ℕ) (m : Message) (n : ℕ) (result : Result Message HttpError) → IsMessage side bytes m n
    → Finishes side (Some bytes) result → result ≡ Ok m

-- Pieces come and then the end. The bytes after the message are the end of the piece in which it ends, by the number
-- that is answered, and the later pieces. If a piece is refused, that is the answer.
abbrev pub GoesOn : List ℕ → Result Fed HttpError → List ℕ → Result Message HttpError → (List ℕ → Type 0) → Type 0
GoesOn piece (Ok More) behind result onwards = onwards behind
GoesOn piece (Ok (WholeFed n)) behind result onwards = (later : List ℕ) × (behind ≡ drop (length piece - n) piece ++ later) × onwards later
GoesOn piece (Err e) behind result onwards = (result ≡ Err e) × (behind ≡ [])

abbrev pub Gives : Side → Option (List ℕ) → List (List ℕ) → List ℕ → Result Message HttpError → Type 0
Gives side came [] behind result = Finishes side came result × (behind ≡ [])
Gives side came (piece ∷ more) behind result =
    (step : Result Fed HttpError) × (now : Option (List ℕ)) × Takes side came piece step now
    × GoesOn piece step behind result (λ later. Gives side now more later result)

abbrev pub together : List (List ℕ) → List ℕ
together [] = []
together (piece ∷ more) = piece ++ together more

-- The bytes that are left after a message.
abbrev pub left_of : Known Message → List ℕ
left_of (Whole m rest) = rest
left_of Needs = []
left_of (Refused e) = []

-- The answer, and the bytes after the message, are what the bytes say, if memory does not run out.
abbrev pub IsAnswer : Side → List ℕ → List ℕ → Result Message HttpError → Type 0
IsAnswer side bytes behind result =
    (result ≡ Err Mem) ⊎ ((known : Known Message) × Decides true side bytes known × (result ≡ at_end known) × (behind ≡ left_of known))

-- However bytes are cut, a new reader answers and hands back what all of them say.
abbrev pub EveryCutting : Type 0
EveryCutting =
    (side : Side) (pieces : List (List ℕ)) (behind : List ℕ) (result : Result Message HttpError) → Gives side (Some []) pieces behind result
    → IsAnswer side (together pieces) behind result

-- Two cuttings of the same bytes have the same answer and the same bytes after the message, if memory runs out in
-- neither.
abbrev pub CuttingsAgree : Type 0
CuttingsAgree =
    (side : Side) (pieces others : List (List ℕ)) (behind other_behind : List ℕ) (result other_result : Result Message HttpError)
    → together pieces ≡ together others → Gives side (Some []) pieces behind result → Gives side (Some []) others other_behind other_result
    → (result ≡ Err Mem) ⊎ (other_result ≡ Err Mem) ⊎ ((result ≡ other_result) × (behind ≡ other_behind))

-- Every input has an outcome: the bytes are a whole message and a rest, or need more, or are refused.
abbrev pub BytesSay : Type 0
BytesSay = (ended : Bool) (side : Side) (bytes : List ℕ) → ¬ ((known : Known Message) → ¬ (Decides ended side bytes known))

-- Why bytes are refused.
abbrev pub IsCause : HttpError → Type 0
IsCause e = (e ≡ BadHead) ⊎ (e ≡ HeadTooLong) ⊎ (e ≡ BadLength) ⊎ (e ≡ BadChunk) ⊎ (e ≡ TooLong)

abbrev pub RefusedByCause : Type 0
RefusedByCause = (ended : Bool) (side : Side) (bytes : List ℕ) (e : HttpError) → Decides ended side bytes (Refused e) → IsCause e

-- What is whole before the connection has ended is the same message with the same rest at its end.
abbrev pub EndKeeps : Type 0
EndKeeps = (side : Side) (bytes : List ℕ) (m : Message) (rest : List ℕ) → Decides false side bytes (Whole m rest) → Decides true side bytes (Whole m rest)

-- CR or LF.
abbrev pub IsBreak : ℕ → Type 0
IsBreak byte = (byte ≡ 13) ⊎ (byte ≡ 10)

-- An empty line: CR LF, or LF alone.
abbrev pub IsEmptyLine : List ℕ → Type 0
IsEmptyLine text = (text ≡ 13 ∷ 10 ∷ []) ⊎ (text ≡ 10 ∷ [])

-- The text ends with an empty line after a line that is not empty. CR and LF may come before its first other byte.
-- After that byte, an LF comes before the empty line.
abbrev pub EndsWithEmptyLine : List ℕ → Type 0
EndsWithEmptyLine text =
    (blank : List ℕ) × (first : ℕ) × (others : List ℕ) × (last : List ℕ) × (text ≡ blank ++ (first ∷ others ++ 10 ∷ last))
    × All IsBreak blank × ¬ (IsBreak first) × IsEmptyLine last

-- No prefix of the bytes with at most this many bytes ends so.
abbrev pub NoneWithin : ℕ → List ℕ → Type 0
NoneWithin most bytes = (front rest : List ℕ) → bytes ≡ front ++ rest → length front ≤ most → ¬ (EndsWithEmptyLine front)

-- The text is the prefix of the bytes up to the first empty line after a line that is not empty, and short enough.
pub record IsFirstEnd (bytes text rest : List ℕ) : Type 0 where
  pub all : bytes ≡ text ++ rest
  pub ends : EndsWithEmptyLine text
  pub first : (shorter more : List ℕ) → text ≡ shorter ++ more → EndsWithEmptyLine shorter → more ≡ []
  pub short : length text ≤ head_limit

-- A head is cut off there.
abbrev pub HeadEnds : Type 0
HeadEnds = (bytes text rest : List ℕ) → (head_cut bytes ≡ Whole text rest) ↔ IsFirstEnd bytes text rest

-- A head is refused as too long exactly if at least `head_limit` bytes came and no such line ends within that many. It
-- is refused as no head exactly if the text up to that line is no head.
abbrev pub HeadsRefused : Type 0
HeadsRefused =
    (ended : Bool) (side : Side) (bytes : List ℕ)
    → (Decides ended side bytes (Refused HeadTooLong) ↔ ((head_limit ≤ length bytes) × NoneWithin head_limit bytes))
    × (Decides ended side bytes (Refused BadHead) ↔ ((text : List ℕ) × (rest : List ℕ) × IsFirstEnd bytes text rest × IsNoHead side text))
