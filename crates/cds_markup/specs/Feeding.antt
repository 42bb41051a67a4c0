-- Documents that come in pieces: what is given of the bytes that came so far, and what a piece and the end are answered.
use Rattle.std.specs.Prelude.{◌≡◌, ◌≢◌, ℕ, ◌<◌, ◌≤◌, Bool, true, false, Option, Some, None, Result, Ok, Err, List, [], ◌∷◌, ◌++◌, length}
use Rattle.cds_base.specs.declared.limits.TheConstants.{INPUT_LIMIT}
use Rattle.cds_markup.specs.declared.error.MarkupError.{MarkupError}
use Rattle.cds_markup.specs.declared.error.MarkupError.TheVariants.{Bad, TooDeep, TooLong, Mem}
use Rattle.cds_markup.specs.declared.part.Part.{Part}
use Rattle.cds_markup.specs.declared.part.Part.TheVariants.{Run}
use Rattle.cds_markup.specs.Document.{Meaning, Doc}
use Rattle.cds_markup.specs.Refusal.{Refuses, EndsShort, IsRefused}
use Rattle.cds_markup.specs.Parts.{DocumentParts, Says}
use Rattle.cds_markup.specs.GivenParts.{Given}
use Rattle.cds_markup.specs.Tellings.{Telling, told, begin_telling, last_parts, shown}

-- At this place stands a byte that a literal text may begin with: neither `<` nor `&`.
abbrev pub BeginsText : List ℕ → ℕ → Type 0
BeginsText bytes at = (before : List ℕ) × (byte : ℕ) × (rest : List ℕ) × (bytes ≡ before ++ byte ∷ rest) × (at ≡ length before) × (byte ≢ 60) × (byte ≢ 38)

-- A literal text may come in several runs of one place, one right after another. Together they are its one run. The first of them
-- that has a place of a character that is not white space has the text's. Nothing is said of the place of later ones. Any other
-- part comes as it is.
abbrev pub or_then : Option ℕ → Option ℕ → Option ℕ
or_then (Some place) later = Some place
or_then None later = later

pub data InRuns (bytes : List ℕ) : List Part → List Part → Type 0 where
  No-runs : InRuns bytes [] []
  A-part : (parts runs : List Part) (part : Part) → InRuns bytes parts runs → InRuns bytes (parts ++ part ∷ []) (runs ++ part ∷ [])
  More-text : (parts runs : List Part) (at : ℕ) (first second : Option ℕ) (text rest : List ℕ) → BeginsText bytes at → InRuns bytes (parts ++ Run at first text ∷ []) runs
      → InRuns bytes (parts ++ Run at (or_then first second) (text ++ rest) ∷ []) (runs ++ Run at second rest ∷ [])

-- These are the parts of the bytes. A literal text may come in several runs.
abbrev pub AreGiven : List ℕ → List Part → Type 0
AreGiven bytes runs = (parts : List Part) × Given bytes parts × InRuns bytes parts runs

-- There are no more bytes than may be, and none of them refuses them.
pub record IsClean (bytes : List ℕ) : Type 0 where
  pub short : length bytes ≤ INPUT_LIMIT
  pub none : (at : ℕ) → at < length bytes → Refuses bytes at → ⊥

-- A byte of the piece, which comes after these bytes, decides the refusal.
abbrev pub IsIn : List ℕ → List ℕ → MarkupError → Type 0
IsIn came piece (Bad at) = (length came ≤ at) × (at < length (came ++ piece))
IsIn came piece (TooDeep at) = (length came ≤ at) × (at < length (came ++ piece))
IsIn came piece TooLong = (length came ≤ INPUT_LIMIT) × (INPUT_LIMIT < length (came ++ piece))
IsIn came piece other = ⊥

-- A byte of the piece decides the refusal, and the refusal stands whatever comes after.
pub record IsDecided (came piece : List ℕ) (e : MarkupError) : Type 0 where
  pub inside : IsIn came piece e
  pub stands : (more : List ℕ) → IsRefused ((came ++ piece) ++ more) e

-- A reader of parts stands for these bytes that came and these parts that it gave.
abbrev pub StandsFor : Option Telling → List ℕ → List Part → Type 0
StandsFor now came given =
    (parts : List Part) × (p : Telling) × (told begin_telling came ≡ Ok (parts, p)) × (now ≡ Some (shown p)) × InRuns came (parts ++ last_parts p) given

-- A piece comes after these bytes, of which these parts were given. A taker that has enough is given no more, and the reader
-- stops there. `Mem` says nothing of the bytes.
abbrev pub GoesOn : Bool → List ℕ → List Part → Option Telling → Type 0
GoesOn true came given now = now ≡ None
GoesOn false came given now = IsClean came × StandsFor now came given

abbrev pub TakesPiece : {S : Type 0} → (S → List Part → S → Type 0) → (S → Bool) → List ℕ → List Part → List ℕ → Result (Unit {0}) MarkupError → S → S
    → Option Telling → Type 0
TakesPiece took enough came given piece (Ok done) before to now =
    (runs : List Part) × took before runs to × AreGiven (came ++ piece) (given ++ runs) × GoesOn (enough to) (came ++ piece) (given ++ runs) now
TakesPiece took enough came given piece (Err Mem) before to now = now ≡ None
TakesPiece took enough came given piece (Err e) before to now =
    (runs : List Part) × took before runs to × AreGiven (came ++ piece) (given ++ runs) × (enough to ≡ false) × IsDecided came piece e × (now ≡ None)

-- The end comes. The bytes are a document whose parts were given, or the input ends too early.
abbrev pub TakesEnd : List ℕ → List Part → Result (Unit {0}) MarkupError → Type 0
TakesEnd came given (Ok done) =
    (element : Meaning) × Doc came element × ((parts : List Part) × DocumentParts came parts × Says parts element × InRuns came parts given)
TakesEnd came given (Err (Bad at)) = EndsShort came at × AreGiven came given
TakesEnd came given (Err other) = ⊥

-- If parts say an element, their runs say it too.
abbrev pub RunsSay : Type 0
RunsSay = (bytes : List ℕ) (parts runs : List Part) (element : Meaning) → InRuns bytes parts runs → Says parts element → Says runs element
