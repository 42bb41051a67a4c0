-- A reader of a message that comes in pieces.
use Rattle.std.specs.Prelude.{◌≡◌, ℕ, ◌-◌, ◌≤◌, Bool, true, false, List, ◌++◌, length, take, Option, Some, None, Result, Ok, Err}
use Rattle.cds_http.specs.declared.error.HttpError.{HttpError}
use Rattle.cds_http.specs.declared.error.HttpError.TheVariants.{Truncated, Failed, Mem}
use Rattle.cds_http.specs.declared.message.Side.{Side}
use Rattle.cds_http.specs.declared.message.Message.{Message}
use Rattle.cds_http.specs.declared.message.Fed.{Fed}
use Rattle.cds_http.specs.declared.message.Fed.TheVariants.{More, Whole as WholeFed}
use Rattle.cds_http.specs.declared.lines.LinePlace.TheVariants.{Before}
use Rattle.cds_http.specs.declared.head.Head.{Head}
use Rattle.cds_http.specs.declared.body.Body.{Body}
use Rattle.cds_http.specs.declared.reader.Stage.{Stage}
use Rattle.cds_http.specs.declared.reader.Stage.TheVariants.{InHead, InBody, AtEnd, Refused as IsRefused}
use Rattle.cds_http.specs.declared.reader.Taken.{Taken}
use Rattle.cds_http.specs.declared.reader.MessageReader.{MessageReader}
use Rattle.cds_http.specs.Known.{Known, Whole, Needs, Refused}
use Rattle.cds_http.specs.Lines.{IsFront}
use Rattle.cds_http.specs.Head.{head_limit}
use Rattle.cds_http.specs.Decided.{Decides, with_head}
use Rattle.cds_http.specs.Steps.{StillKnown, Fits, Waits, Explains}

-- What the bytes after the state of a body say of it, they say of the message after all that came.
abbrev pub Continues : Side → List ℕ → Head → Body → Type 0
Continues side bytes head body =
    (ended : Bool) (more : List ℕ) (known : Known (List ℕ)) → StillKnown ended body more known
    → Decides ended side (bytes ++ more) (with_head head known)

-- The bytes are a whole message and nothing after it.
abbrev pub IsWhole : Side → List ℕ → Message → Type 0
IsWhole side bytes m = (ended : Bool) (more : List ℕ) → Decides ended side (bytes ++ more) (Whole m more)

-- A stage of reading stands for the bytes that came.
abbrev pub StageOf : Side → Stage → List ℕ → Type 0
StageOf side (InHead front) bytes = (front.text ≡ bytes) × IsFront Before head_limit front
StageOf side (InBody head body) bytes = Fits body × Waits body × Continues side bytes head body
StageOf side (AtEnd m) bytes = IsWhole side bytes m
StageOf side IsRefused bytes = ⊥

-- A reader of this side stands for the bytes that came. After a refusal it stands for none.
abbrev pub Stands : Side → MessageReader → Option (List ℕ) → Type 0
Stands side r None = r.stage ≡ IsRefused
Stands side r (Some bytes) = (r.side ≡ side) × StageOf side r.stage bytes

-- The answer to all bytes so far, which end with the piece, and what came then. A message that is whole came up to its
-- last byte, and nothing after it came.
abbrev pub Answers : Side → List ℕ → List ℕ → Result Fed HttpError → Option (List ℕ) → Type 0
Answers side bytes piece (Ok More) now = Decides false side (bytes ++ piece) Needs × (now ≡ Some (bytes ++ piece))
Answers side bytes piece (Ok (WholeFed rest)) now =
    (used : ℕ) × (used ≤ length piece) × (rest ≡ length piece - used) × (now ≡ Some (bytes ++ take used piece))
    × ((m : Message) × IsWhole side (bytes ++ take used piece) m)
Answers side bytes piece (Err e) now =
    (now ≡ None) × Explains e ((ended : Bool) (more : List ℕ) → Decides ended side ((bytes ++ piece) ++ more) (Refused e))

-- After a whole message a piece is not taken, and the answer is its length. Memory cannot run out there.
abbrev pub StaysWhole : Side → List ℕ → List ℕ → Result Fed HttpError → Option (List ℕ) → Type 0
StaysWhole side bytes piece result now = (m : Message) → IsWhole side bytes m → (result ≡ Ok (WholeFed (length piece))) × (now ≡ Some bytes)

-- A piece comes: what came before, the piece, the answer, and what has come then.
abbrev pub Takes : Side → Option (List ℕ) → List ℕ → Result Fed HttpError → Option (List ℕ) → Type 0
Takes side None piece result now = (result ≡ Err Failed) × (now ≡ None)
Takes side (Some bytes) piece result now = Answers side bytes piece result now × StaysWhole side bytes piece result now

-- What is answered at the end of the connection.
abbrev pub at_end : Known Message → Result Message HttpError
at_end (Whole m rest) = Ok m
at_end Needs = Err Truncated
at_end (Refused e) = Err e

abbrev pub Finishes : Side → Option (List ℕ) → Result Message HttpError → Type 0
Finishes side None result = result ≡ Err Failed
Finishes side (Some bytes) result = (known : Known Message) × Decides true side bytes known × (result ≡ at_end known)

-- The same of a stage, for the functions that a reader is made of.
abbrev pub StageTakes : Side → List ℕ → List ℕ → Result Taken HttpError → Type 0
StageTakes side bytes piece (Ok t) =
    (front : List ℕ) × StageOf side t.stage front × Answers side bytes piece (Ok t.fed) (Some front)
StageTakes side bytes piece (Err e) =
    Explains e ((ended : Bool) (more : List ℕ) → Decides ended side ((bytes ++ piece) ++ more) (Refused e))

-- A piece is added in place to what a stage keeps, or the stage stays as it was.
abbrev pub StageGrows : Side → List ℕ → Stage → List ℕ → Result Bool HttpError → Stage → Type 0
StageGrows side bytes before piece (Ok true) after = StageOf side after (bytes ++ piece) × Decides false side (bytes ++ piece) Needs
StageGrows side bytes before piece (Ok false) after = after ≡ before
StageGrows side bytes before piece (Err e) after = e ≡ Mem
