-- How parts are put together, from the first to the last. A state has the elements that are open, from the innermost, each with
-- what stood before it in the element around it. Then it has what stands in the innermost so far, and a text that may go on.
use Rattle.std.specs.Prelude.{◌≡◌, ℕ, if◌then◌else◌, Option, Some, None, List, [], ◌∷◌, ◌++◌, string_bytes}
use Rattle.cds_markup.specs.declared.build.Builder.{Builder}
use Rattle.cds_markup.specs.declared.build.Frame.{Frame}
use Rattle.cds_markup.specs.declared.element.Node.TheVariants.{Text, Child}
use Rattle.cds_markup.specs.declared.name.Name.{Name}
use Rattle.cds_markup.specs.declared.name.Attr.{Attr}
use Rattle.cds_markup.specs.declared.part.Part.{Part}
use Rattle.cds_markup.specs.declared.part.Part.TheVariants.{Start, End, Run}
use Rattle.cds_markup.specs.Namespaces.{is_empty}
use Rattle.cds_markup.specs.Document.{Meaning, Meanings, Element, TextThen, ChildThen, End as Childless}
use Rattle.cds_markup.specs.Elements.{and_node}

pub record State : Type 0 where
  pub frames : List Frame
  pub nodes : Meanings
  pub text : List ℕ

-- A text is kept in one place if it is one run, and in another if it is more.
abbrev pub text_kept : List ℕ → List ℕ → List ℕ
text_kept one [] = one
text_kept one (b ∷ more) = b ∷ more

abbrev pub state_of : Builder → State
state_of b = record { frames = b.frames.items; nodes = b.nodes; text = text_kept b.text (string_bytes b.more) }

abbrev pub state : List Frame → Meanings → List ℕ → State
state frames nodes text = record { frames = frames; nodes = nodes; text = text }

-- The text goes to the nodes, if there is one.
abbrev pub and_text : Meanings → List ℕ → Meanings
and_text nodes text = if is_empty text then nodes else and_node nodes (Text text)

abbrev pub flushed : State → State
flushed s = state s.frames (and_text s.nodes s.text) []

-- What a start tag, the end of an element, and a run of text make of a state.
abbrev pub opened : Name → List Attr → State → State
opened name attrs s = state (record { name = name; attrs = attrs; before = s.nodes } ∷ s.frames) Childless []

abbrev pub closed_in : List Frame → Meanings → State
closed_in [] nodes = state [] nodes []
closed_in (f ∷ outer) nodes = state outer (and_node f.before (Child (Element f.name f.attrs nodes))) []

abbrev pub closed : State → State
closed s = closed_in s.frames s.nodes

abbrev pub with_text : List ℕ → State → State
with_text text s = state s.frames s.nodes (s.text ++ text)

abbrev pub with_part : State → Part → State
with_part s (Start at end name attrs) = opened name attrs (flushed s)
with_part s (End at) = closed (flushed s)
with_part s (Run at non_blank text) = with_text text s

abbrev pub built : State → List Part → State
built s [] = s
built s (part ∷ more) = built (with_part s part) more

-- A builder takes the next part.
abbrev pub builds : Builder → Part → Builder → Type 0
builds before part now = state_of now ≡ with_part (state_of before) part

abbrev pub nothing_yet : State
nothing_yet = state [] Childless []

-- What is built of the parts of one element.
abbrev pub built_as : Meaning → State
built_as element = state [] (ChildThen element Childless) []

-- The first child, if it is an element.
abbrev pub first_element : Meanings → Option Meaning
first_element Childless = None
first_element (TextThen text more) = None
first_element (ChildThen child more) = Some child
