-- What formats over documents look for in an element: its children by their names, its own text, and its attributes that are in
-- no namespace. Also the places where its children begin.
use Rattle.std.specs.Prelude.{◌≡◌, ◌==◌, ◌+◌, ◌-◌, ℕ, nat_eq, Bool, true, false, ◌&&◌, if◌then◌else◌, Option, Some, None, List, [], ◌∷◌, filter, find, length, slice_get}
use Rattle.std.specs.List.{flat_map}
use Rattle.std.specs.Str.{bytes_eq}
use Rattle.cds_markup.specs.declared.element.Node.{Node}
use Rattle.cds_markup.specs.declared.element.Node.TheVariants.{Text, Child}
use Rattle.cds_markup.specs.declared.name.Name.{Name}
use Rattle.cds_markup.specs.declared.name.Attr.{Attr}
use Rattle.cds_markup.specs.declared.part.Part.{Part}
use Rattle.cds_markup.specs.declared.part.Part.TheVariants.{Start, End, Run}
use Rattle.cds_markup.specs.Document.{Meaning, Element}
use Rattle.cds_markup.specs.Elements.{nodes_of}
use Rattle.cds_markup.specs.Parts.{DocumentParts}
use Rattle.cds_markup.specs.GivenParts.{Given}

-- An element's name, its attributes and what stands in it.
abbrev pub name_of : Meaning → Name
name_of (Element name attrs children) = name

abbrev pub attrs_of : Meaning → List Attr
attrs_of (Element name attrs children) = attrs

abbrev pub nodes_in : Meaning → List Node
nodes_in (Element name attrs children) = nodes_of children

-- The elements among nodes.
abbrev pub elements_in : List Node → List Meaning
elements_in [] = []
elements_in (Text text ∷ more) = elements_in more
elements_in (Child child ∷ more) = child ∷ elements_in more

-- The text that stands in an element itself, without that of its children.
abbrev pub text_in : Node → List ℕ
text_in (Text text) = text
text_in (Child child) = []

abbrev pub texts_in : List Node → List ℕ
texts_in nodes = flat_map text_in nodes

-- The elements that have a name in a namespace, and those that have a local name in any namespace or none.
abbrev pub is_named : List ℕ → List ℕ → Meaning → Bool
is_named space local element = bytes_eq (name_of element).space space && bytes_eq (name_of element).local local

abbrev pub is_called : List ℕ → Meaning → Bool
is_called local element = bytes_eq (name_of element).local local

abbrev pub named : List ℕ → List ℕ → List Node → List Meaning
named space local nodes = filter (is_named space local) (elements_in nodes)

abbrev pub called : List ℕ → List Node → List Meaning
called local nodes = filter (is_called local) (elements_in nodes)

-- The same for one node.
abbrev pub element_in : Node → Option Meaning
element_in (Text text) = None
element_in (Child child) = Some child

abbrev pub where_it : (Meaning → Bool) → Option Meaning → Option Meaning
where_it test None = None
where_it test (Some element) = if test element then Some element else None

abbrev pub named_in : List ℕ → List ℕ → Node → Option Meaning
named_in space local node = where_it (is_named space local) (element_in node)

abbrev pub called_in : List ℕ → Node → Option Meaning
called_in local node = where_it (is_called local) (element_in node)

-- Whether a list has any member, and its member if it has exactly one.
abbrev pub is_any : {X : Type 0} → List X → Bool
is_any [] = false
is_any (x ∷ xs) = true

abbrev pub only_of : {X : Type 0} → List X → Option X
only_of [] = None
only_of (x ∷ []) = Some x
only_of (x ∷ y ∷ more) = None

-- The value of the attribute that has this name and no namespace. A document's element has at most one such attribute.
abbrev pub is_plain : List ℕ → Attr → Bool
is_plain local a = nat_eq (length a.name.space) 0 && bytes_eq a.name.local local

abbrev pub value_in : Option Attr → Option (List ℕ)
value_in None = None
value_in (Some a) = Some a.value

abbrev pub plain_value : List ℕ → List Attr → Option (List ℕ)
plain_value local attrs = value_in (find (is_plain local) attrs)

-- The place of a child's start tag, if one element is open before the part, and how many are open after the part.
abbrev pub child_at : ℕ → Part → Option ℕ
child_at open_ (Start at end name attrs) = if open_ == 1 then Some at else None
child_at open_ (End at) = None
child_at open_ (Run at non_blank text) = None

abbrev pub open_behind : ℕ → Part → ℕ
open_behind open_ (Start at end name attrs) = open_ + 1
open_behind open_ (End at) = open_ - 1
open_behind open_ (Run at non_blank text) = open_

-- The places of the start tags of the root's child elements among these parts of a document, before which `open_` elements are
-- open.
abbrev pub and_place : Option ℕ → List ℕ → List ℕ
and_place None places = places
and_place (Some at) places = at ∷ places

abbrev pub child_starts : ℕ → List Part → List ℕ
child_starts open_ [] = []
child_starts open_ (part ∷ more) = and_place (child_at open_ part) (child_starts (open_behind open_ part) more)

-- The place of the root's start tag.
abbrev pub root_start : List Part → Option ℕ
root_start [] = None
root_start (Start at end name attrs ∷ more) = Some at
root_start (End at ∷ more) = None
root_start (Run at non_blank text ∷ more) = None

-- The bytes are a document with these parts, and `found` finds the place in them.
pub record IsPlace (bytes : List ℕ) (found : List Part → Option ℕ) (at : ℕ) : Type 0 where
  pub parts : List Part
  pub are : DocumentParts bytes parts
  pub given : Given bytes parts
  pub place : found parts ≡ Some at

-- The place of the root's start tag in a document, and that of the child element that has `number` children before it.
abbrev pub IsRootPlace : List ℕ → ℕ → Type 0
IsRootPlace bytes at = IsPlace bytes root_start at

abbrev pub IsChildPlace : List ℕ → ℕ → ℕ → Type 0
IsChildPlace bytes number at = IsPlace bytes (λ parts. slice_get (child_starts 0 parts) number) at

-- Bytes have at most one place of the root's start tag, and at most one of each child's.
abbrev pub PlacesAreOne : Type 0
PlacesAreOne =
    (bytes : List ℕ) (found : List Part → Option ℕ) (one other : ℕ) → IsPlace bytes found one → IsPlace bytes found other → one ≡ other
