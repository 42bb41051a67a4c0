-- How one request is read from a connection.
use Rattle.std.specs.Prelude.{◌≡◌, ◌⊎◌, ℕ, false, true, List, [], ◌++◌, Option, Some, None, ⊤}
use Rattle.cds_outside.specs.Outside.{Rose}
use Rattle.cds_http.specs.declared.error.HttpError.{HttpError}
use Rattle.cds_http.specs.declared.error.HttpError.TheVariants.{BadHead, HeadTooLong, BadLength, BadChunk, TooLong, Truncated, Failed, Mem}
use Rattle.cds_http.specs.declared.message.Message.{Message}
use Rattle.cds_http.specs.declared.message.Side.TheVariants as side
use Rattle.cds_http.specs.declared.reader.MessageReader.{MessageReader}
use Rattle.cds_http.specs.Known.{Known, Needs, Refused}
use Rattle.cds_http.specs.Decided.{Decides}
use Rattle.cds_http.specs.Reading.{IsWhole, Stands}
use Rattle.cds_serve.specs.Answered.{NeedsTurn, ReadsFrom, file_asked, free_answer}
use Rattle.cds_serve.specs.declared.request.Filled.{Filled}
use Rattle.cds_serve.specs.declared.request.Filled.TheVariants as filled
use Rattle.cds_serve.specs.declared.request.Request.{Request}
use Rattle.cds_serve.specs.declared.request.Request.TheVariants as request

-- The request comes from bytes that say this.
abbrev pub IsRequest : Known Message → Request → Type 0
IsRequest known (request.Needing m) = NeedsTurn m known × (file_asked m ≡ None)
IsRequest known (request.Fetching asked) = NeedsTurn asked.message known × (file_asked asked.message ≡ Some asked.id)
IsRequest known (request.Free answer) = free_answer known ≡ Some answer
IsRequest known request.Broken = ⊤
IsRequest known request.Starved = ⊤

-- A connection that failed counts a fault.
abbrev pub BrokenRose : Request → ℕ → ℕ → Type 0
BrokenRose (request.Needing m) old new = ⊤
BrokenRose (request.Fetching asked) old new = ⊤
BrokenRose (request.Free answer) old new = ⊤
BrokenRose request.Broken old new = Rose old new
BrokenRose request.Starved old new = ⊤

abbrev pub FilledRose : Option Filled → ℕ → ℕ → Type 0
FilledRose None old new = ⊤
FilledRose (Some filled.Done) old new = ⊤
FilledRose (Some (filled.Refused cause)) old new = ⊤
FilledRose (Some filled.Broken) old new = Rose old new

-- A connection that failed has no last piece.
abbrev pub IsLastIn : Request → List ℕ → Type 0
IsLastIn (request.Needing m) piece = ⊤
IsLastIn (request.Fetching asked) piece = ⊤
IsLastIn (request.Free answer) piece = ⊤
IsLastIn request.Broken piece = piece ≡ []
IsLastIn request.Starved piece = ⊤

abbrev pub IsLastBy : Filled → List ℕ → Type 0
IsLastBy filled.Done piece = ⊤
IsLastBy (filled.Refused cause) piece = ⊤
IsLastBy filled.Broken piece = piece ≡ []

-- These bytes of a connection came to a reader and decide nothing yet; the rest is left.
pub record ComesTo (bytes : List ℕ) (left : Option (List ℕ)) (reader : MessageReader) : Type 0 where
  pub came : List ℕ
  pub rest : List ℕ
  pub all : bytes ≡ came ++ rest
  pub told : left ≡ Some rest
  pub stands : Stands side.Request reader (Some came)
  pub needed : Decides false side.Request came Needs

-- A reader has all that the message needs: the connection gave all its bytes, or the message is whole.
pub record HasAll (bytes : List ℕ) (reader : MessageReader) : Type 0 where
  pub came : List ℕ
  pub rest : List ℕ
  pub all : bytes ≡ came ++ rest
  pub stands : Stands side.Request reader (Some came)
  pub enough : (rest ≡ []) ⊎ ((m : Message) × IsWhole side.Request came m)

-- The bytes are refused for this cause, or memory ran out.
abbrev pub IsCause : HttpError → List ℕ → Type 0
IsCause Mem bytes = ⊤
IsCause BadHead bytes = Decides true side.Request bytes (Refused BadHead)
IsCause HeadTooLong bytes = Decides true side.Request bytes (Refused HeadTooLong)
IsCause BadLength bytes = Decides true side.Request bytes (Refused BadLength)
IsCause BadChunk bytes = Decides true side.Request bytes (Refused BadChunk)
IsCause TooLong bytes = Decides true side.Request bytes (Refused TooLong)
IsCause Truncated bytes = ⊥
IsCause Failed bytes = ⊥

abbrev pub IsFilled : Filled → List ℕ → MessageReader → Type 0
IsFilled filled.Done bytes reader = HasAll bytes reader
IsFilled (filled.Refused cause) bytes reader = IsCause cause bytes
IsFilled filled.Broken bytes reader = ⊤

-- After a piece the reader is done, with this piece as the last, or it goes on.
abbrev pub GoesOn : Option Filled → List ℕ → Option (List ℕ) → MessageReader → Type 0
GoesOn None bytes left reader = ComesTo bytes left reader
GoesOn (Some how) bytes left reader = IsFilled how bytes reader × ReadsFrom bytes left (IsLastBy how)
