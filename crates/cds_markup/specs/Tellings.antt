-- What a reader of parts answers beside the definitions, with the state that it leaves. `took`, if a definition has it, is a
-- relation on what takes the parts. It says that these parts, in this order, turn the first into the second. `enough` says
-- whether it has enough. `Mem` says nothing.
use Rattle.std.specs.Prelude.{◌≡◌, ℕ, ◌+◌, ◌-◌, nat_le, Bool, true, false, if◌then◌else◌, Option, Some, None, Result, Ok, Err, List, [], ◌∷◌, ◌++◌, length, ⊤}
use Rattle.cds_base.specs.declared.limits.TheConstants.{INPUT_LIMIT}
use Rattle.cds_markup.specs.declared.error.MachineError.{MachineError}
use Rattle.cds_markup.specs.declared.error.MarkupError.{MarkupError}
use Rattle.cds_markup.specs.declared.error.MarkupError.TheVariants.{TooLong, Mem}
use Rattle.cds_markup.specs.declared.event.Event.{Event}
use Rattle.cds_markup.specs.declared.marks.Marks.{Marks}
use Rattle.cds_markup.specs.declared.part.Part.{Part}
use Rattle.cds_markup.specs.declared.part_reader.Spot.{Spot}
use Rattle.cds_markup.specs.Root.{Token}
use Rattle.cds_markup.specs.Bytes.{Reading, judge, nothing_read, refusal}
use Rattle.cds_markup.specs.Reads.{Progress, progress, JudgedSo, passed_byte}
use Rattle.cds_markup.specs.Marks.{marks, last_text, cuts_text, goes_on_as, marked}

-- One byte more at a place, with what it completes.
abbrev pub NextSo : Progress → ℕ → Result (Option Event) MarkupError → Progress → Type 0
NextSo p b (Ok event) now = (nat_le INPUT_LIMIT p.at ≡ false) × (now.at ≡ p.at + 1) × JudgedSo p.read b (Ok event) now.read
NextSo p b (Err Mem) now = ⊤
NextSo p b (Err e) now = passed_byte p b ≡ Err e

-- What is read at a place of the input, and what is open there.
pub record Telling : Type 0 where
  pub read : Reading
  pub marks : Marks
  pub at : ℕ

abbrev pub telling : Reading → Marks → ℕ → Telling
telling read marks at = record { read = read; marks = marks; at = at }

abbrev pub told_from : Progress → Marks → Telling
told_from p m = telling p.read m p.at

abbrev pub telling_of : Spot → Telling
telling_of s = told_from (progress s.cursor) s.marks

abbrev pub telling_in : Option Spot → Option Telling
telling_in None = None
telling_in (Some s) = Some (telling_of s)

abbrev pub begin_telling : Telling
begin_telling = telling nothing_read (marks 0 None) 0

-- The parts that end with what is read, if it ends there.
abbrev pub last_parts : Telling → List Part
last_parts p = last_text p.read p.marks p.at

-- The same place once those parts were given.
abbrev pub shown : Telling → Telling
shown p = telling p.read (marks p.marks.begin (goes_on_as (cuts_text p.read) (p.at - length p.read.begun) p.marks.text)) p.at

-- The parts that bytes complete and what is open after them. If there is a refusal, the parts up to it and the refusal.
abbrev pub Told : Type 0
Told = Result (List Part × Telling) (List Part × MarkupError)

abbrev pub moved_on : Telling → Reading → List Part × Marks → List Part × Telling
moved_on p s found = (found.0, telling s found.1 (p.at + 1))

abbrev pub judged_told : Telling → Result (Reading × List Token) MachineError → Told
judged_told p (Err stop) = Err (last_parts p, refusal stop p.at)
judged_told p (Ok found) = Ok (moved_on p found.0 (marked p.read p.marks p.at found.0 found.1))

abbrev pub told_byte_within : ℕ → Telling → ℕ → Told
told_byte_within most p b = if nat_le most p.at then Err (last_parts p, TooLong) else judged_told p (judge p.read b)

abbrev pub behind_parts : List Part → Told → Told
behind_parts ps (Err found) = Err (ps ++ found.0, found.1)
behind_parts ps (Ok found) = Ok (ps ++ found.0, found.1)

abbrev pub told_on : Told → (Telling → Told) → Told
told_on (Err found) next = Err found
told_on (Ok found) next = behind_parts found.0 (next found.1)

abbrev pub told_within : ℕ → Telling → List ℕ → Told
told_within most p [] = Ok ([], p)
told_within most p (b ∷ w) = told_on (told_byte_within most p b) (λ q. told_within most q w)

abbrev pub told_byte : Telling → ℕ → Told
told_byte p b = told_byte_within INPUT_LIMIT p b

abbrev pub told : Telling → List ℕ → Told
told p w = told_within INPUT_LIMIT p w

-- A piece. What is open after it is given as far as it goes, and may go on.
abbrev pub told_piece : Telling → List ℕ → Told
told_piece p w = told_on (told p w) (λ q. Ok (last_parts q, shown q))

-- What is given if bytes are told so. A refusal is the answer only if what takes the parts does not have enough before it.
abbrev pub ToldSo : {S : Type 0} → (S → List Part → S → Type 0) → (S → Bool) → S → Told → Result (Unit {0}) MarkupError → S → Telling → Type 0
ToldSo took enough before outcome (Err Mem) to now = ⊤
ToldSo took enough before (Ok found) (Ok done) to now = took before found.0 to × (enough to ≡ false → now ≡ found.1)
ToldSo took enough before (Err found) (Ok done) to now = took before found.0 to × (enough to ≡ true)
ToldSo took enough before (Err found) (Err e) to now = took before found.0 to × (enough to ≡ false) × (e ≡ found.1)
ToldSo took enough before outcome result to now = ⊥

-- A part that may be missing, as a list, and the parts that are given.
abbrev pub listed : Option Part → List Part
listed None = []
listed (Some part) = part ∷ []

abbrev pub Puts : {S : Type 0} → (S → List Part → S → Type 0) → S → List Part → Result (Unit {0}) MarkupError → S → Type 0
Puts took before parts (Ok done) to = took before parts to
Puts took before parts (Err Mem) to = ⊤
Puts took before parts (Err e) to = ⊥
