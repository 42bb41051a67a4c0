-- What the parts of reading the body of a note answer.
use Rattle.std.specs.Prelude.{◌≡◌, ℕ, List, Option, Result, Ok, Err, ⊤}
use Rattle.cds_object.specs.declared.event.Event.{Event}
use Rattle.cds_markup.specs.declared.error.MarkupError.{MarkupError}
use Rattle.cds_markup.specs.declared.error.MarkupError.TheVariants.{Mem as OutOfMemory, Bad as BadAt, TooDeep, TooLong as TooManyBytes, Failed as RefusedBefore}
use Rattle.cds_markup.specs.Document.{Meaning, Doc}
use Rattle.cds_lastchange.specs.declared.error.StateError.{StateError}
use Rattle.cds_lastchange.specs.declared.error.StateError.TheVariants.{Mem as Out, Bad, NotStateEvent, TooLong, Failed}
use Rattle.cds_lastchange.specs.StateEvent.{IsStateEvent}
use Rattle.cds_notify.specs.declared.note.NoteError.{NoteError}
use Rattle.cds_notify.specs.declared.note.NoteError.TheVariants.{Mem, Head, Precondition, Body}
use Rattle.cds_notify.specs.declared.body.Content.{Content}
use Rattle.cds_notify.specs.declared.body.Said.{Said}
use Rattle.cds_notify.specs.Said.{said_of, Says}

-- why a note is refused if its changes, or its body, are refused for this reason
abbrev pub of_state : StateError → NoteError
of_state Out = Mem
of_state (Bad at) = Body
of_state (NotStateEvent at) = Body
of_state TooLong = Body
of_state Failed = Body

abbrev pub of_document : MarkupError → NoteError
of_document OutOfMemory = Mem
of_document (BadAt at) = Body
of_document (TooDeep at) = Body
of_document TooManyBytes = Body
of_document RefusedBefore = Body

-- the events of a text, what the set of properties that a body is says, and what the whole body says. If memory runs
-- out, that says nothing of them. Besides that, the only refusal is `Body`
abbrev pub EventsTold : List ℕ → Result (List Event) NoteError → Type 0
EventsTold text (Ok events) = IsStateEvent text events
EventsTold text (Err Mem) = ⊤
EventsTold text (Err Head) = ⊥
EventsTold text (Err Precondition) = ⊥
EventsTold text (Err Body) = (events : List Event) → IsStateEvent text events → ⊥

pub record IsSaid (body : List ℕ) (said : Option Said) : Type 0 where
  pub root : Meaning
  pub document : Doc body root
  pub is : said_of root ≡ said

abbrev pub SaidTold : List ℕ → Result (Option Said) NoteError → Type 0
SaidTold body (Ok said) = IsSaid body said
SaidTold body (Err Mem) = ⊤
SaidTold body (Err Head) = ⊥
SaidTold body (Err Precondition) = ⊥
SaidTold body (Err Body) = (root : Meaning) → Doc body root → ⊥

abbrev pub BodyTold : List ℕ → Result Content NoteError → Type 0
BodyTold body (Ok content) = Says body content.number content.events
BodyTold body (Err Mem) = ⊤
BodyTold body (Err Head) = ⊥
BodyTold body (Err Precondition) = ⊥
BodyTold body (Err Body) = (number : ℕ) (events : List Event) → Says body number events → ⊥
