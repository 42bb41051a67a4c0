-- The parts of bytes along the run of the machine: the place of each, and what it says.
use Rattle.std.specs.Prelude.{◌≡◌, ◌==◌, ℕ, ◌+◌, ◌-◌, Bool, true, false, not, ◌&&◌, if◌then◌else◌, Option, Some, None, Result, Ok, Err, List, [], ◌∷◌, ◌++◌, length, take, encode_utf8, ⊤}
use Rattle.cds_base.specs.declared.limits.TheConstants.{INPUT_LIMIT}
use Rattle.cds_base.specs.declared.mem.Mem.{Mem}
use Rattle.cds_base.specs.Characters.{is_blank}
use Rattle.cds_markup.specs.declared.error.MachineError.{MachineError}
use Rattle.cds_markup.specs.declared.event.Event.{Event}
use Rattle.cds_markup.specs.declared.event.Event.TheVariants.{Letter, Referred, Section, Comment, Start as Began, Empty, Shut, End as Over}
use Rattle.cds_markup.specs.declared.marks.Marks.{Marks}
use Rattle.cds_markup.specs.declared.marks.OpenText.{OpenText}
use Rattle.cds_markup.specs.declared.mode.Misc.TheVariants.{Blanks}
use Rattle.cds_markup.specs.declared.mode.Mode.{Mode}
use Rattle.cds_markup.specs.declared.mode.Mode.TheVariants.{Begin, Marked, Prolog, Inside}
use Rattle.cds_markup.specs.declared.part.Part.{Part}
use Rattle.cds_markup.specs.declared.part.Part.TheVariants.{Start, End, Run}
use Rattle.cds_markup.specs.Namespaces.{is_empty}
use Rattle.cds_markup.specs.Document.{line_ends}
use Rattle.cds_markup.specs.Root.{Token}
use Rattle.cds_markup.specs.Wholes.{is_content}
use Rattle.cds_markup.specs.Bytes.{Reading, judge, nothing_read}
use Rattle.cds_markup.specs.Reads.{said_as}

-- Whether the state is between the things that parts are made of, before the root or inside it.
abbrev pub is_between : Mode → Bool
is_between Begin = true
is_between Marked = true
is_between (Prolog Blanks) = true
is_between (Inside root_state) = is_content root_state
is_between other = false

-- A literal text so far: its place, the place of its first character that is not white space, what it says, and whether a
-- carriage return stands right before.
abbrev pub open_text : ℕ → OpenText
open_text at = record { at = at; non_blank = None; said = []; behind_return = false }

abbrev pub line_end_says : Bool → ℕ → List ℕ
line_end_says behind c = if c == 10 && behind then [] else if c == 13 then (10 ∷ []) else encode_utf8 c

abbrev pub or_here : Option ℕ → Bool → ℕ → Option ℕ
or_here (Some place) blank at = Some place
or_here None blank at = if blank then None else Some at

abbrev pub text_with : OpenText → ℕ → ℕ → OpenText
text_with t at c = record {
  at = t.at;
  non_blank = or_here t.non_blank (is_blank c) at;
  said = t.said ++ line_end_says t.behind_return c;
  behind_return = c == 13;
}

abbrev pub marks : ℕ → Option OpenText → Marks
marks begin text = record { begin = begin; text = text }

abbrev pub text_or : ℕ → Option OpenText → OpenText
text_or at (Some t) = t
text_or at None = open_text at

abbrev pub letter_in : Marks → ℕ → ℕ → Marks
letter_in m at c = marks m.begin (Some (text_with (text_or at m.text) at c))

-- The part that a text is at its end. If the first bytes of one more character came, that character counts as not white space.
abbrev pub run_of : OpenText → Part
run_of t = Run t.at t.non_blank t.said

abbrev pub ended_part : Option OpenText → List Part
ended_part None = []
ended_part (Some t) = run_of t ∷ []

abbrev pub ended_text : Marks → List Part
ended_text m = ended_part m.text

abbrev pub begun_text : ℕ → OpenText → OpenText
begun_text at t = record { at = t.at; non_blank = or_here t.non_blank false at; said = t.said; behind_return = t.behind_return }

-- The same text once what it says so far was given. After that nothing is said yet.
abbrev pub rest_of : OpenText → OpenText
rest_of t = record { at = t.at; non_blank = None; said = []; behind_return = t.behind_return }

abbrev pub goes_on_as : Bool → ℕ → Option OpenText → Option OpenText
goes_on_as cut first (Some t) = Some (rest_of t)
goes_on_as cut first None = if cut then Some (open_text first) else None

-- What the end of what is read makes of the open text. The first bytes of a character may stand after it.
abbrev pub is_in_content : Mode → Bool
is_in_content (Inside root_state) = is_content root_state
is_in_content other = false

abbrev pub cuts_text : Reading → Bool
cuts_text r = is_in_content r.mode && not (is_empty r.begun)

abbrev pub last_part : Bool → ℕ → Marks → List Part
last_part cut first m = if cut then run_of (begun_text first (text_or first m.text)) ∷ [] else ended_text m

abbrev pub last_text : Reading → Marks → ℕ → List Part
last_text r m at = last_part (cuts_text r) (at - length r.begun) m

-- What the byte at `at` completes. The first byte of its character is at `first`.
abbrev pub completed : Marks → ℕ → ℕ → Event → List Part × Marks
completed m at first (Letter c) = ([], letter_in m first c)
completed m at first (Referred c) = (Run m.begin (Some m.begin) (encode_utf8 c) ∷ [], m)
completed m at first (Section text) = (Run m.begin (Some m.begin) (line_ends text) ∷ [], m)
completed m at first Comment = ([], m)
completed m at first (Began name attrs) = (Start m.begin at name attrs ∷ [], m)
completed m at first (Empty name attrs) = (Start m.begin at name attrs ∷ [], marks at m.text)
completed m at first Shut = (End m.begin ∷ [], m)
completed m at first Over = (End m.begin ∷ [], m)

abbrev pub completed_as : Marks → ℕ → ℕ → Option Event → List Part × Marks
completed_as m at first None = ([], m)
completed_as m at first (Some event) = completed m at first event

abbrev pub begins : Reading → Reading → Bool
begins r s = is_between r.mode && not (is_between s.mode)

abbrev pub passed_over : Bool → Marks → ℕ → List Part × Marks
passed_over begins m at = if begins then (ended_text m, marks at None) else ([], m)

abbrev pub marked : Reading → Marks → ℕ → Reading → List Token → List Part × Marks
marked r m at s [] = passed_over (begins r s) m at
marked r m at s (t ∷ ts) = completed_as m at (at - length r.begun) (said_as r.opens t)

-- All bytes up to the first that stops it.
abbrev pub given_on : List Part → Result (Reading × List Token) MachineError → (Reading × List Token → List Part) → List Part
given_on ending (Err stop) next = ending
given_on ending (Ok found) next = next found

abbrev pub parts_from : Reading → Marks → ℕ → List ℕ → List Part
parts_from r m at [] = last_text r m at
parts_from r m at (b ∷ w) =
    given_on (last_text r m at) (judge r b) (λ found.
    (marked r m at found.0 found.1).0 ++ parts_from found.0 (marked r m at found.0 found.1).1 (at + 1) w)

unfoldable pub parts_of : List ℕ → List Part
parts_of bytes = parts_from nothing_read (marks 0 None) 0 (take INPUT_LIMIT bytes)

-- What a method answers that ends a text or completes a part.
abbrev pub EndsSo : List Part → Option Part → Type 0
EndsSo parts None = parts ≡ []
EndsSo parts (Some part) = parts ≡ part ∷ []

abbrev pub MarksSo : Marks → ℕ → ℕ → Event → Result (Option Part) Mem → Marks → Type 0
MarksSo m at first event (Err e) now = ⊤
MarksSo m at first event (Ok part) now = EndsSo (completed m at first event).0 part × (now ≡ (completed m at first event).1)
