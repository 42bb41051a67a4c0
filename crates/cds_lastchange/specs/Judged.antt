-- How the parts of a document are judged, one by one. It is proved that this answers what the bytes are.
use Rattle.std.specs.Prelude.{◌≡◌, ℕ, Bool, true, false, if◌then◌else◌, Option, Some, None, Result, Ok, Err, List, [], ◌∷◌, ◌++◌, ⊤}
use Rattle.cds_object.specs.declared.event.Event.{Event}
use Rattle.cds_markup.specs.declared.name.Name.{Name}
use Rattle.cds_markup.specs.declared.name.Attr.{Attr}
use Rattle.cds_markup.specs.declared.part.Part.{Part}
use Rattle.cds_markup.specs.declared.part.Part.TheVariants.{Start, End, Run}
use Rattle.cds_markup.specs.declared.error.MarkupError.{MarkupError}
use Rattle.cds_markup.specs.declared.error.MarkupError.TheVariants.{Bad as BadAt, TooDeep, TooLong as TooManyBytes, Failed as FailedBefore, Mem as OutOfMemory}
use Rattle.cds_lastchange.specs.declared.error.StateError.{StateError}
use Rattle.cds_lastchange.specs.declared.error.StateError.TheVariants.{Bad, NotStateEvent, TooLong, Failed, Mem}
use Rattle.cds_lastchange.specs.declared.judge.Level.{Level}
use Rattle.cds_lastchange.specs.declared.judge.Level.TheVariants.{Outside, InRoot, InEvent}
use Rattle.cds_lastchange.specs.declared.judge.Judge.{Judge}
use Rattle.cds_lastchange.specs.declared.judge.Unfit.{Unfit}
use Rattle.cds_lastchange.specs.declared.judge.Unfit.TheVariants.{Misplaced, Mem as NoMemory}
use Rattle.cds_lastchange.specs.Attributes.{event_of, is_state_event}

-- What a start tag makes of a judge. If its element may not stand there, the place of its `<` is answered.
abbrev pub event_judged : List Event → ℕ → Option Event → Result Judge ℕ
event_judged events at None = Err at
event_judged events at (Some event) = Ok record { level = InEvent; events = events ++ event ∷ [] }

abbrev pub start_judged : Level → List Event → ℕ → Name → List Attr → Result Judge ℕ
start_judged Outside events at name attrs = if is_state_event name then Ok record { level = InRoot; events = events } else Err at
start_judged InRoot events at name attrs = event_judged events at (event_of name attrs)
start_judged InEvent events at name attrs = Err at

-- The level after an end tag.
abbrev pub outer : Level → Level
outer Outside = Outside
outer InRoot = Outside
outer InEvent = InRoot

-- What is said up to and with a part. If the part does not stand, the place that is answered.
abbrev pub part_judged : Judge → Part → Result Judge ℕ
part_judged j (Start at end name attrs) = start_judged j.level j.events at name attrs
part_judged j (End at) = Ok record { level = outer j.level; events = j.events }
part_judged j (Run at None text) = Ok j
part_judged j (Run at (Some non_blank) text) = Err non_blank

abbrev pub and_judged : Result Judge ℕ → (Judge → Result Judge ℕ) → Result Judge ℕ
and_judged (Err at) next = Err at
and_judged (Ok j) next = next j

abbrev pub parts_judged : Judge → List Part → Result Judge ℕ
parts_judged j [] = Ok j
parts_judged j (part ∷ rest) = and_judged (part_judged j part) (λ k. parts_judged k rest)

abbrev pub nothing_said : Judge
nothing_said = record { level = Outside; events = [] }

-- Parts are taken one by one, up to the first that does not stand.
abbrev pub judged_on : Result Judge ℕ → Part → Result Judge ℕ → Type 0
judged_on before part now = now ≡ and_judged before (λ j. part_judged j part)

abbrev pub is_misplaced : Result Judge ℕ → Bool
is_misplaced (Err at) = true
is_misplaced (Ok j) = false

abbrev pub misplaced : Result Judge ℕ → Option ℕ
misplaced (Err at) = Some at
misplaced (Ok j) = None

-- What is answered of the parts so far, and of what reading them answered. A place in the parts comes before the fault at which
-- they end. A document of at most two open elements is never too deep.
abbrev pub as_refusal : MarkupError → StateError
as_refusal (BadAt at) = Bad at
as_refusal (TooDeep at) = Bad at
as_refusal TooManyBytes = TooLong
as_refusal FailedBefore = Failed
as_refusal OutOfMemory = Mem

abbrev pub as_read : Result (Unit {0}) MarkupError → Result (Unit {0}) StateError
as_read (Ok done) = Ok done
as_read (Err r) = Err (as_refusal r)

abbrev pub or_misplaced : Option ℕ → Result (Unit {0}) StateError → Result (Unit {0}) StateError
or_misplaced (Some at) read = Err (NotStateEvent at)
or_misplaced None read = read

-- If memory ran out, nothing is said of the parts.
abbrev pub refused_so : Result (Unit {0}) MarkupError → Option ℕ → Result (Unit {0}) StateError
refused_so (Err OutOfMemory) place = Err Mem
refused_so (Err FailedBefore) place = Err Failed
refused_so read place = or_misplaced place (as_read read)

-- What is answered at the end. There are no events if nothing but white space came. Otherwise the events are answered if nothing
-- is refused.
abbrev pub ended_so : Result (Unit {0}) MarkupError → Bool → Result Judge ℕ → Result (List Event) StateError
ended_so (Err FailedBefore) blank said = Err Failed
ended_so read true said = Ok []
ended_so (Err r) false said = Err (as_refusal r)
ended_so (Ok done) false (Ok j) = Ok j.events
ended_so (Ok done) false (Err at) = Err (NotStateEvent at)

-- What a call answers, unless memory ran out.
abbrev pub Judges : Result Judge ℕ → Result (Unit {0}) Unfit → Judge → Type 0
Judges judged (Err NoMemory) now = ⊤
Judges (Ok j) (Ok done) now = now ≡ j
Judges (Err at) (Err (Misplaced place)) now = place ≡ at
Judges judged result now = ⊥
