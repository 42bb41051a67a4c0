-- Reading a StateEvent: which events bytes are (this project's profile of UPnP ContentDirectory:4 on LastChange).
use Rattle.std.specs.Prelude.{◌≡◌, ℕ, ◌≤◌, Bool, true, false, ◌&&◌, if◌then◌else◌, ◌⊎◌, Option, Some, None, List, [], ◌∷◌, length}
use Rattle.std.specs.List.{list_all}
use Rattle.cds_base.specs.declared.limits.TheConstants.{INPUT_LIMIT}
use Rattle.cds_base.specs.Characters.{is_blank}
use Rattle.cds_object.specs.declared.event.Event.{Event}
use Rattle.cds_markup.specs.declared.name.Name.{Name}
use Rattle.cds_markup.specs.declared.name.Attr.{Attr}
use Rattle.cds_markup.specs.declared.tag.Declaration.{Declaration}
use Rattle.cds_markup.specs.Grammar.{Leaf, Text, Comment, Tree, EmptyElement, Full, Content, Nothing, LeafThen, TreeThen, IsDocument}
use Rattle.cds_markup.specs.Namespaces.{declarations, tag_says}
use Rattle.cds_lastchange.specs.Attributes.{event_of, is_state_event}

-- White space, as it is written, and comments. A reference to a space is none, and neither is an empty CDATA section.
abbrev pub is_space : Leaf → Bool
is_space (Text text) = list_all is_blank text
is_space Comment = true
is_space other = false

abbrev pub has_only_space : Content → Bool
has_only_space Nothing = true
has_only_space (LeafThen leaf more) = is_space leaf && has_only_space more
has_only_space (TreeThen tree more) = false

-- The event that a start tag says within the scopes of the elements around it. There is none if the tag breaks a rule of start
-- tags or is no event. Nothing but white space and comments may stand in the element.
abbrev pub event_said : Option (Name × List Attr) → Option Event
event_said None = None
event_said (Some said) = event_of said.0 said.1

abbrev pub event_in : List (List Declaration) → Tree → Option Event
event_in scopes (EmptyElement t) = event_said (tag_says scopes t)
event_in scopes (Full t content) = if has_only_space content then event_said (tag_says scopes t) else None

-- The events among the children of the root, in order. There are none if anything but white space and comments stands between.
abbrev pub and_more : Option Event → Option (List Event) → Option (List Event)
and_more None events = None
and_more (Some event) None = None
and_more (Some event) (Some events) = Some (event ∷ events)

abbrev pub events_in : List (List Declaration) → Content → Option (List Event)
events_in scopes Nothing = Some []
events_in scopes (LeafThen leaf more) = if is_space leaf then events_in scopes more else None
events_in scopes (TreeThen tree more) = and_more (event_in scopes tree) (events_in scopes more)

-- Whether a start tag without an element around it is that of a StateEvent.
abbrev pub is_root : Option (Name × List Attr) → Bool
is_root None = false
is_root (Some said) = is_state_event said.0

abbrev pub root_events : Tree → Option (List Event)
root_events (EmptyElement t) = if is_root (tag_says [] t) then Some [] else None
root_events (Full t content) = if is_root (tag_says [] t) then events_in (declarations t.attrs ∷ []) content else None

-- A document of these events. At most two elements are open anywhere in it, so the limit of open elements is kept.
abbrev pub IsDocumentOf : List ℕ → List Event → Type 0
IsDocumentOf bytes events = (root : Tree) × IsDocument bytes root × (root_events root ≡ Some events)

-- White space alone, or nothing, has no events.
abbrev pub IsEmpty : List ℕ → List Event → Type 0
IsEmpty bytes events = (list_all is_blank bytes ≡ true) × (events ≡ [])

-- The bytes are these events. The limit of bytes is that of documents.
pub record IsStateEvent (bytes : List ℕ) (events : List Event) : Type 0 where
  pub is : IsEmpty bytes events ⊎ IsDocumentOf bytes events
  pub short : length bytes ≤ INPUT_LIMIT
