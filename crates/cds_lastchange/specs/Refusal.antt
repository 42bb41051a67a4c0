-- Why bytes are no StateEvent: each refusal at its place, and the first in reading order (this project's profile).
use Rattle.std.specs.Prelude.{◌≡◌, ◌≢◌, ℕ, ◌<◌, Bool, true, false, ◌⊎◌, Some, Result, Ok, Err, is_some, List, [], ◌∷◌, length, ⊤}
use Rattle.std.specs.List.{list_all}
use Rattle.cds_base.specs.declared.limits.TheConstants.{INPUT_LIMIT}
use Rattle.cds_base.specs.Characters.{is_blank}
use Rattle.cds_object.specs.declared.event.Event.{Event}
use Rattle.cds_markup.specs.declared.name.Name.{Name}
use Rattle.cds_markup.specs.declared.name.Attr.{Attr}
use Rattle.cds_markup.specs.declared.tag.Tag.{Tag}
use Rattle.cds_markup.specs.Grammar.{Leaf, Reference, Section}
use Rattle.cds_markup.specs.Namespaces.{tag_says}
use Rattle.cds_markup.specs.declared.error.MarkupError.TheVariants.{Bad as BadAt, TooLong as TooManyBytes}
use Rattle.cds_markup.specs.Refusal.{scopes_of, TagEnds, LeafEnds, TextByte, IsRefused as IsRefusedDocument}
use Rattle.cds_markup.specs.PartsFound.{Clear}
use Rattle.cds_lastchange.specs.declared.error.StateError.{StateError}
use Rattle.cds_lastchange.specs.declared.error.StateError.TheVariants.{Bad, NotStateEvent, TooLong, Failed, Mem}
use Rattle.cds_lastchange.specs.Attributes.{event_of, is_state_event}
use Rattle.cds_lastchange.specs.StateEvent.{IsStateEvent}

-- Whether an element may stand inside open elements with these start tags, from the innermost to the root. Without any, a
-- StateEvent may; in the root, an event; in an event, none.
abbrev pub may_stand : List Tag → Name → List Attr → Bool
may_stand [] name attrs = is_state_event name
may_stand (root ∷ []) name attrs = is_some (event_of name attrs)
may_stand (event ∷ root ∷ outer) name attrs = false

-- The start tag of an element that may not stand there. It shows at the `>` or `/` that ends the tag.
pub record IsMisplaced (bytes : List ℕ) (shown at : ℕ) : Type 0 where
  pub tags : List Tag
  pub tag : Tag
  pub name : Name
  pub attrs : List Attr
  pub ends : TagEnds bytes tags at shown tag
  pub says : tag_says (scopes_of tags) tag ≡ Some (name, attrs)
  pub misplaced : may_stand tags name attrs ≡ false

-- A reference or a CDATA section, whatever it says. It shows at its last byte.
abbrev pub is_indirect : Leaf → Bool
is_indirect (Reference c) = true
is_indirect (Section text) = true
is_indirect other = false

pub record IsIndirect (bytes : List ℕ) (shown at : ℕ) : Type 0 where
  pub tags : List Tag
  pub leaf : Leaf
  pub ends : LeafEnds bytes tags at shown leaf
  pub indirect : is_indirect leaf ≡ true

-- A character that is not white space. It shows at its first byte, whatever follows.
pub record IsStray (bytes : List ℕ) (shown at : ℕ) : Type 0 where
  pub tags : List Tag
  pub byte : ℕ
  pub begins : TextByte bytes tags at byte
  pub here : shown ≡ at

-- A cause that makes a document no StateEvent. `shown` is the place of the byte at which it shows, and `at` the place that is
-- answered.
abbrev pub Shows : List ℕ → ℕ → ℕ → Type 0
Shows bytes shown at = IsMisplaced bytes shown at ⊎ (IsIndirect bytes shown at ⊎ IsStray bytes shown at)

-- None of these shows before this place.
abbrev pub NoneShows : List ℕ → ℕ → Type 0
NoneShows bytes place = (earlier at : ℕ) → earlier < place → Shows bytes earlier at → ⊥

-- The bytes are refused as a document, and that shows first. If the same byte shows another cause, the document's counts. White
-- space alone is no document, but it is refused only if there is too much of it.
pub record IsBadEvent (bytes : List ℕ) (at : ℕ) : Type 0 where
  pub blank : list_all is_blank bytes ≡ true → INPUT_LIMIT < length bytes
  pub refused : IsRefusedDocument bytes (BadAt at)
  pub first : NoneShows bytes at

-- Another cause shows first. No document is refused up to and with the byte at which it shows.
pub record IsNoStateEvent (bytes : List ℕ) (at : ℕ) : Type 0 where
  pub shown : ℕ
  pub shows : Shows bytes shown at
  pub clear : Clear bytes shown
  pub first : NoneShows bytes shown

-- What a refusal says of the bytes. `Mem` says nothing of them. `Failed` says that a reader refused before, which is no cause.
abbrev pub IsRefused : List ℕ → StateError → Type 0
IsRefused bytes (Bad at) = IsBadEvent bytes at
IsRefused bytes (NotStateEvent at) = IsNoStateEvent bytes at
IsRefused bytes TooLong = IsRefusedDocument bytes TooManyBytes × NoneShows bytes INPUT_LIMIT
IsRefused bytes Failed = ⊥
IsRefused bytes Mem = ⊤

-- An answer to bytes: the one list of events that they are, or the one refusal that stands against them. `Mem` says nothing of
-- them.
abbrev pub Decides : List ℕ → Result (List Event) StateError → Type 0
Decides bytes (Ok events) = IsStateEvent bytes events × ((other : List Event) → IsStateEvent bytes other → other ≡ events)
Decides bytes (Err Mem) = ⊤
Decides bytes (Err r) =
    IsRefused bytes r × ((other : StateError) → IsRefused bytes other → other ≢ Mem → other ≡ r)
    × ((events : List Event) → IsStateEvent bytes events → ⊥)
