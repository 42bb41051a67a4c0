-- What holds of the definitions themselves.
use Rattle.std.specs.Prelude.{◌≡◌, ◌≢◌, ℕ, ◌≤◌, ◌⊎◌, List, length}
use Rattle.std.specs.List.{AllByRecursion}
use Rattle.cds_base.specs.declared.limits.TheConstants.{INPUT_LIMIT}
use Rattle.cds_object.specs.declared.event.Event.{Event}
use Rattle.cds_markup.specs.Document.{Meaning, Doc}
use Rattle.cds_lastchange.specs.declared.error.StateError.{StateError}
use Rattle.cds_lastchange.specs.declared.error.StateError.TheVariants.{Mem}
use Rattle.cds_lastchange.specs.Spelled.{spelled, IsNumbered}
use Rattle.cds_lastchange.specs.StateEvent.{IsEmpty, IsStateEvent}
use Rattle.cds_lastchange.specs.Refusal.{IsRefused}

-- What is written of events is read as these events, if it is no longer than may be.
abbrev pub WrittenIsRead : Type 0
WrittenIsRead = (events : List Event) → AllByRecursion IsNumbered events → length (spelled events) ≤ INPUT_LIMIT → IsStateEvent (spelled events) events

-- Bytes are at most one list of events.
abbrev pub OneList : Type 0
OneList = (bytes : List ℕ) (one other : List Event) → IsStateEvent bytes one → IsStateEvent bytes other → one ≡ other

-- Bytes are events, or they are refused in one way, and not both.
abbrev pub OneAnswer : Type 0
OneAnswer =
    (bytes : List ℕ) (r : StateError) → IsRefused bytes r → r ≢ Mem
    → ((events : List Event) → IsStateEvent bytes events → ⊥) × ((other : StateError) → IsRefused bytes other → other ≢ Mem → other ≡ r)

-- There is an answer to all bytes.
abbrev pub AllAreAnswered : Type 0
AllAreAnswered =
    (bytes : List ℕ) → ((events : List Event) × IsStateEvent bytes events) ⊎ ((r : StateError) × IsRefused bytes r × (r ≢ Mem))

-- Bytes that are events are white space, which has no event, or a document with an element. Then their start tags keep the rules,
-- and no more elements are open than may be.
abbrev pub StateEventsAreDocuments : Type 0
StateEventsAreDocuments =
    (bytes : List ℕ) (events : List Event) → IsStateEvent bytes events → IsEmpty bytes events ⊎ ((element : Meaning) × Doc bytes element)
