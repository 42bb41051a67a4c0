-- What a reader of bytes answers beside the definitions, with the state that it leaves. An answer that memory ran out says
-- nothing.
use Rattle.std.specs.Prelude.{◌≡◌, ℕ, ◌+◌, nat_le, true, false, if◌then◌else◌, Option, Some, None, Result, Ok, Err, List, [], ◌∷◌, ⊤}
use Rattle.cds_base.specs.declared.limits.TheConstants.{INPUT_LIMIT}
use Rattle.cds_markup.specs.declared.error.MachineError.{MachineError}
use Rattle.cds_markup.specs.declared.error.MachineError.TheVariants.{Broken, NamespaceRule, Mem as OutOfMemory}
use Rattle.cds_markup.specs.declared.error.MarkupError.{MarkupError}
use Rattle.cds_markup.specs.declared.error.MarkupError.TheVariants.{Bad, TooLong, Failed}
use Rattle.cds_markup.specs.declared.event.Event.{Event}
use Rattle.cds_markup.specs.declared.event.Event.TheVariants.{Letter as ALetter, Referred as AReferred, Section as ASection, Comment as AComment, Start, Empty, Shut as AShut, End}
use Rattle.cds_markup.specs.declared.name.Name.{Name}
use Rattle.cds_markup.specs.declared.name.Attr.{Attr}
use Rattle.cds_markup.specs.declared.machine.Machine.{Machine}
use Rattle.cds_markup.specs.declared.cursor.Cursor.{Cursor}
use Rattle.cds_markup.specs.declared.tag.Tag.{Tag}
use Rattle.cds_markup.specs.declared.tag.Open.{Open}
use Rattle.cds_markup.specs.Namespaces.{tag_says}
use Rattle.cds_markup.specs.Utf8.{any_at}
use Rattle.cds_markup.specs.Root.{Token, Letter, Referred, SectionOf, Commented, Started, Slash, Shut, Ended}
use Rattle.cds_markup.specs.Wholes.{step}
use Rattle.cds_markup.specs.Bytes.{Reading, reading, moved, byte_step, scopes_in, breaks_rule, judged, judge, nothing_read, may_end, refusal}
use Rattle.cds_markup.specs.Steps.{opens_after}

abbrev pub reading_of : Machine → Reading
reading_of m = reading m.begun.items m.mode m.opens.items

-- A byte below U+0080 alone.
abbrev pub AsciiSo : ℕ → Result (Option ℕ) MachineError → Type 0
AsciiSo b (Ok (Some c)) = any_at (b ∷ []) ≡ Ok (c, [])
AsciiSo b (Err Broken) = any_at (b ∷ []) ≡ Err (b ∷ [])
AsciiSo b result = ⊥

-- A byte, which ends a character or does not.
abbrev pub ByteSo : Reading → ℕ → Result (Option ℕ) MachineError → Reading → Type 0
ByteSo r b (Ok (Some c)) now = (byte_step r b ≡ moved (step r.mode r.opens c)) × (now ≡ reading [] r.mode r.opens)
ByteSo r b (Ok None) now = byte_step r b ≡ Some (now, [])
ByteSo r b (Err Broken) now = byte_step r b ≡ None
ByteSo r b (Err OutOfMemory) now = ⊤
ByteSo r b result now = ⊥

-- A start tag.
abbrev pub TaggedSo : List Open → Tag → Result (Name × List Attr) MachineError → Type 0
TaggedSo opens tag (Ok found) = tag_says (scopes_in opens) tag ≡ Some found
TaggedSo opens tag (Err NamespaceRule) = tag_says (scopes_in opens) tag ≡ None
TaggedSo opens tag (Err OutOfMemory) = ⊤
TaggedSo opens tag result = ⊥

-- What a token says, if these elements are open.
abbrev pub if_said : (Name → List Attr → Event) → Option (Name × List Attr) → Option Event
if_said made None = None
if_said made (Some said) = Some (made said.0 said.1)

abbrev pub said_as : List Open → Token → Option Event
said_as opens (Letter c) = Some (ALetter c)
said_as opens (Referred c) = Some (AReferred c)
said_as opens (SectionOf text) = Some (ASection text)
said_as opens Commented = Some AComment
said_as opens (Started tag) = if_said Start (tag_says (scopes_in opens) tag)
said_as opens (Slash tag) = if_said Empty (tag_says (scopes_in opens) tag)
said_as opens Shut = Some AShut
said_as opens Ended = Some End

abbrev pub TakenSo : Reading → Token → Result Event MachineError → Reading → Type 0
TakenSo r t (Ok e) now =
    (breaks_rule r.opens (t ∷ []) ≡ false) × (said_as r.opens t ≡ Some e) × (now ≡ reading r.begun r.mode (opens_after t r.opens))
TakenSo r t (Err NamespaceRule) now = breaks_rule r.opens (t ∷ []) ≡ true
TakenSo r t (Err OutOfMemory) now = ⊤
TakenSo r t result now = ⊥

-- A whole character, and a byte.
abbrev pub WholeSo : Reading → ℕ → Result (Option Event) MachineError → Reading → Type 0
WholeSo r c (Ok None) now = judged r.opens (moved (step r.mode r.opens c)) ≡ Ok (now, [])
WholeSo r c (Ok (Some e)) now =
    (t : Token) × (judged r.opens (moved (step r.mode r.opens c)) ≡ Ok (now, t ∷ [])) × (said_as r.opens t ≡ Some e)
WholeSo r c (Err OutOfMemory) now = ⊤
WholeSo r c (Err stop) now = judged r.opens (moved (step r.mode r.opens c)) ≡ Err stop

abbrev pub JudgedSo : Reading → ℕ → Result (Option Event) MachineError → Reading → Type 0
JudgedSo r b (Ok None) now = judge r b ≡ Ok (now, [])
JudgedSo r b (Ok (Some e)) now = (t : Token) × (judge r b ≡ Ok (now, t ∷ [])) × (said_as r.opens t ≡ Some e)
JudgedSo r b (Err OutOfMemory) now = ⊤
JudgedSo r b (Err stop) now = judge r b ≡ Err stop

-- What is read at a place of the input.
pub record Progress : Type 0 where
  pub read : Reading
  pub at : ℕ

abbrev pub progressed : Reading → ℕ → Progress
progressed read at = record { read = read; at = at }

abbrev pub progress : Cursor → Progress
progress p = progressed (reading_of p.machine) p.at

abbrev pub begin_reading : Progress
begin_reading = progressed nothing_read 0

-- One byte more, and a piece more, up to the first byte that is refused.
abbrev pub Passed : Type 0
Passed = Result Progress MarkupError

abbrev pub judged_at : ℕ → Result (Reading × List Token) MachineError → Passed
judged_at at (Err stop) = Err (refusal stop at)
judged_at at (Ok found) = Ok (progressed found.0 (at + 1))

abbrev pub byte_within : ℕ → Progress → ℕ → Passed
byte_within most p b = if nat_le most p.at then Err TooLong else judged_at p.at (judge p.read b)

abbrev pub passed_on : Passed → (Progress → Passed) → Passed
passed_on (Err e) next = Err e
passed_on (Ok p) next = next p

abbrev pub passed_within : ℕ → Progress → List ℕ → Passed
passed_within most p [] = Ok p
passed_within most p (b ∷ w) = passed_on (byte_within most p b) (λ q. passed_within most q w)

abbrev pub passed_byte : Progress → ℕ → Passed
passed_byte p b = byte_within INPUT_LIMIT p b

abbrev pub passed : Progress → List ℕ → Passed
passed p w = passed_within INPUT_LIMIT p w

-- The end comes.
abbrev pub ended : Option Progress → Result (Unit {0}) MarkupError
ended None = Err Failed
ended (Some p) = if may_end p.read then Ok tt else Err (Bad p.at)

abbrev pub ended_of : Passed → Result (Unit {0}) MarkupError
ended_of (Err e) = Err e
ended_of (Ok p) = ended (Some p)
