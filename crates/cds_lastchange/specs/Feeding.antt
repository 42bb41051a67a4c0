-- A reader of a StateEvent that comes in pieces. What it answers is told of the bytes that came, however they were cut.
use Rattle.std.specs.Prelude.{◌≡◌, ℕ, ◌<◌, ◌≤◌, Bool, Option, None, Result, Ok, Err, List, [], ◌++◌, length}
use Rattle.std.specs.List.{list_all}
use Rattle.cds_base.specs.declared.limits.TheConstants.{INPUT_LIMIT}
use Rattle.cds_base.specs.Characters.{is_blank}
use Rattle.cds_object.specs.declared.event.Event.{Event}
use Rattle.cds_lastchange.specs.declared.error.StateError.{StateError}
use Rattle.cds_lastchange.specs.declared.error.StateError.TheVariants.{Bad, NotStateEvent, TooLong, Mem}
use Rattle.cds_lastchange.specs.declared.judge.Judge.{Judge}
use Rattle.cds_lastchange.specs.Judged.{parts_judged, nothing_said}
use Rattle.cds_lastchange.specs.Refusal.{Shows, NoneShows, IsRefused, Decides}
use Rattle.cds_markup.specs.declared.part.Part.{Part}
use Rattle.cds_markup.specs.Refusal.{EndsShort}
use Rattle.cds_markup.specs.Feeding.{AreGiven, IsClean, StandsFor}
use Rattle.cds_markup.specs.Pieces.{Gives, together}
use Rattle.cds_markup.specs.Tellings.{Telling}

-- A StateEvent as far as it came: what is read, what its parts say, and whether nothing but white space came. After a refusal
-- nothing is read.
pub record Came : Type 0 where
  pub parts : Option Telling
  pub said : Result Judge ℕ
  pub blank : Bool

abbrev pub came : Option Telling → Result Judge ℕ → Bool → Came
came parts said blank = record { parts = parts; said = said; blank = blank }

-- These bytes came, in any pieces.
pub record IsRead (bytes : List ℕ) (now : Came) : Type 0 where
  pub given : List Part
  pub stands : StandsFor now.parts bytes given
  pub are : AreGiven bytes given
  pub clean : IsClean bytes
  pub judge : Judge
  pub judged : parts_judged nothing_said given ≡ Ok judge
  pub said : now.said ≡ Ok judge
  pub is_blank : now.blank ≡ list_all is_blank bytes

-- A byte of the piece, which comes after these bytes, decides the refusal. It is the byte at the place of the refusal, or the one
-- at which its cause shows.
abbrev pub IsIn : List ℕ → List ℕ → StateError → Type 0
IsIn came piece (Bad at) = (length came ≤ at) × (at < length (came ++ piece))
IsIn came piece (NotStateEvent at) = (shown : ℕ) × Shows (came ++ piece) shown at × (length came ≤ shown) × (shown < length (came ++ piece))
IsIn came piece TooLong = (length came ≤ INPUT_LIMIT) × (INPUT_LIMIT < length (came ++ piece))
IsIn came piece other = ⊥

-- A byte of the piece decides the refusal, and the refusal stands whatever comes after.
pub record IsDecided (came piece : List ℕ) (e : StateError) : Type 0 where
  pub inside : IsIn came piece e
  pub stands : (more : List ℕ) → IsRefused ((came ++ piece) ++ more) e

-- A piece comes after these bytes. It is taken if no byte so far refuses them as a document and none shows another cause. It is
-- refused if a byte of it does, whatever comes after. `Mem` says nothing of them.
abbrev pub TakesBytes : List ℕ → List ℕ → Result (Unit {0}) StateError → Came → Type 0
TakesBytes bytes piece (Ok done) now = IsClean (bytes ++ piece) × NoneShows (bytes ++ piece) (length (bytes ++ piece)) × IsRead (bytes ++ piece) now
TakesBytes bytes piece (Err Mem) now = now.parts ≡ None
TakesBytes bytes piece (Err e) now = IsDecided bytes piece e × (now.parts ≡ None)

abbrev pub Fed : Came → List ℕ → Result (Unit {0}) StateError → Came → Type 0
Fed before piece result now = (bytes : List ℕ) → IsRead bytes before → TakesBytes bytes piece result now

-- The end comes. They are events, or they end too early.
abbrev pub EndsSo : List ℕ → Result (List Event) StateError → Type 0
EndsSo bytes (Ok events) = Decides bytes (Ok events)
EndsSo bytes (Err (Bad at)) = Decides bytes (Err (Bad at)) × EndsShort bytes at
EndsSo bytes (Err other) = ⊥

abbrev pub Finished : Came → Result (List Event) StateError → Type 0
Finished now result = (bytes : List ℕ) → IsRead bytes now → EndsSo bytes result

-- However bytes are cut, what a new reader answers to the pieces and the end decides them.
abbrev pub EveryCutting : Type 0
EveryCutting =
    (new : Came) (pieces : List (List ℕ)) (result : Result (List Event) StateError) → IsRead [] new → Gives Fed Finished new pieces result
    → Decides (together pieces) result
