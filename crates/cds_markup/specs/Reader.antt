-- A reader of a document that comes in pieces. What it answers is told of the bytes that came, however they were cut.
use Rattle.std.specs.Prelude.{◌≡◌, ℕ, Option, None, Result, Ok, Err, List, [], ◌++◌}
use Rattle.cds_markup.specs.declared.error.MarkupError.{MarkupError}
use Rattle.cds_markup.specs.declared.error.MarkupError.TheVariants.{Bad, Mem}
use Rattle.cds_markup.specs.declared.part.Part.{Part}
use Rattle.cds_markup.specs.declared.placed.Placed.{Placed}
use Rattle.cds_markup.specs.Document.{Meaning}
use Rattle.cds_markup.specs.Refusal.{EndsShort}
use Rattle.cds_markup.specs.Decided.{Decides}
use Rattle.cds_markup.specs.Feeding.{IsClean, IsDecided, StandsFor}
use Rattle.cds_markup.specs.Pieces.{Gives, together}
use Rattle.cds_markup.specs.Placed.{Placing, no_place, placed_by, DecidesPlaced}
use Rattle.cds_markup.specs.Tellings.{Telling}

-- A document as far as it came: what is read, and what its parts say. After a refusal nothing is read.
pub record Came : Type 0 where
  pub parts : Option Telling
  pub says : Placing

abbrev pub came : Option Telling → Placing → Came
came parts says = record { parts = parts; says = says }

-- These bytes came, in any pieces.
pub record IsRead (bytes : List ℕ) (now : Came) : Type 0 where
  pub given : List Part
  pub stands : StandsFor now.parts bytes given
  pub clean : IsClean bytes
  pub says : now.says ≡ placed_by no_place given

-- A piece comes after these bytes. It is taken if no byte so far refuses them. It is refused if a byte of it does, whatever comes
-- after. `Mem` says nothing of them.
abbrev pub TakesBytes : List ℕ → List ℕ → Result (Unit {0}) MarkupError → Came → Type 0
TakesBytes bytes piece (Ok done) now = IsClean (bytes ++ piece) × IsRead (bytes ++ piece) now
TakesBytes bytes piece (Err Mem) now = now.parts ≡ None
TakesBytes bytes piece (Err e) now = IsDecided bytes piece e × (now.parts ≡ None)

abbrev pub Fed : Came → List ℕ → Result (Unit {0}) MarkupError → Came → Type 0
Fed before piece result now = (bytes : List ℕ) → IsRead bytes before → TakesBytes bytes piece result now

-- The end comes. They are a document, or they end too early.
abbrev pub EndsSo : {A : Type 0} → (List ℕ → Result A MarkupError → Type 0) → List ℕ → Result A MarkupError → Type 0
EndsSo decides bytes (Ok found) = decides bytes (Ok found)
EndsSo decides bytes (Err (Bad at)) = decides bytes (Err (Bad at)) × EndsShort bytes at
EndsSo decides bytes (Err other) = ⊥

abbrev pub Finished : Came → Result Meaning MarkupError → Type 0
Finished now result = (bytes : List ℕ) → IsRead bytes now → EndsSo Decides bytes result

abbrev pub FinishedPlaced : Came → Result Placed MarkupError → Type 0
FinishedPlaced now result = (bytes : List ℕ) → IsRead bytes now → EndsSo DecidesPlaced bytes result

-- However bytes are cut, what a new reader answers to the pieces and the end decides them.
abbrev pub EveryCutting : Type 0
EveryCutting =
    (new : Came) (pieces : List (List ℕ)) (result : Result Meaning MarkupError) → IsRead [] new → Gives Fed Finished new pieces result
    → Decides (together pieces) result
