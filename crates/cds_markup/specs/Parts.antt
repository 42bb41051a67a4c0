-- The parts of a document in the order of its bytes, along the grammar: what is read of it up to any place. Places are numbers of
-- bytes from its start.
use Rattle.std.specs.Prelude.{◌≡◌, ℕ, ◌+◌, ◌≤◌, false, ◌&&◌, if◌then◌else◌, Option, Some, None, List, [], ◌∷◌, ◌++◌, length, encode_utf8}
use Rattle.cds_base.specs.Characters.{is_blank}
use Rattle.cds_markup.specs.declared.name.Name.{Name}
use Rattle.cds_markup.specs.declared.name.Attr.{Attr}
use Rattle.cds_markup.specs.declared.part.Part.{Part}
use Rattle.cds_markup.specs.declared.part.Part.TheVariants.{Start, End, Run}
use Rattle.cds_markup.specs.declared.tag.Tag.{Tag}
use Rattle.cds_markup.specs.declared.tag.Declaration.{Declaration}
use Rattle.cds_markup.specs.Grammar.{Leaf, Text, Reference, Section, Comment, Tree, EmptyElement, Full, Content, Nothing, LeafThen, TreeThen, is_text, begins_with_text, IsLeaf, IsEmptyTag, IsStartTag, IsEndTag, IsProlog, IsMisc}
use Rattle.cds_markup.specs.Namespaces.{declarations, tag_says}
use Rattle.cds_markup.specs.Document.{Meaning, Element, Meanings, ChildThen, End as Childless, joined, line_ends, most_open, depths}
use Rattle.cds_markup.specs.Refusal.{scopes_of}

-- The place of the first character of a text that is not white space.
abbrev pub first_non_blank : ℕ → List ℕ → Option ℕ
first_non_blank at [] = None
first_non_blank at (b ∷ rest) = if is_blank b then first_non_blank (at + 1) rest else Some at

-- The part of a leaf at a place. A comment has none.
abbrev pub leaf_parts : ℕ → Leaf → List Part
leaf_parts at (Text text) = Run at (first_non_blank at text) (line_ends text) ∷ []
leaf_parts at (Reference c) = Run at (Some at) (encode_utf8 c) ∷ []
leaf_parts at (Section text) = Run at (Some at) (line_ends text) ∷ []
leaf_parts at Comment = []

-- The parts of an element and of content at a place, within scopes, if all start tags keep the rules.
abbrev mutual
  pub TreeParts : Tree → ℕ → List (List Declaration) → List ℕ → List Part → Type 0
  TreeParts (EmptyElement t) at scopes bytes parts =
      (name : Name) × (attrs : List Attr) × (end : ℕ) × IsEmptyTag bytes t × (tag_says scopes t ≡ Some (name, attrs))
      × (end + 2 ≡ at + length bytes) × (parts ≡ Start at end name attrs ∷ End end ∷ [])
  TreeParts (Full t content) at scopes bytes parts =
      (name : Name) × (attrs : List Attr) × (end : ℕ) × (start : List ℕ) × (inside : List ℕ) × (closing : List ℕ) × (inner : List Part)
      × (bytes ≡ start ++ (inside ++ closing)) × IsStartTag start t × IsEndTag t.name closing tt
      × (tag_says scopes t ≡ Some (name, attrs)) × (end + 1 ≡ at + length start)
      × ContentParts content (at + length start) (declarations t.attrs ∷ scopes) inside inner
      × (parts ≡ Start at end name attrs ∷ (inner ++ End (at + length start + length inside) ∷ []))

  pub ContentParts : Content → ℕ → List (List Declaration) → List ℕ → List Part → Type 0
  ContentParts Nothing at scopes bytes parts = (bytes ≡ []) × (parts ≡ [])
  ContentParts (LeafThen leaf more) at scopes bytes parts =
      (front : List ℕ) × (back : List ℕ) × (behind : List Part) × (bytes ≡ front ++ back) × IsLeaf front leaf
      × (is_text leaf && begins_with_text more ≡ false) × ContentParts more (at + length front) scopes back behind
      × (parts ≡ leaf_parts at leaf ++ behind)
  ContentParts (TreeThen tree more) at scopes bytes parts =
      (front : List ℕ) × (back : List ℕ) × (first : List Part) × (behind : List Part) × (bytes ≡ front ++ back)
      × TreeParts tree at scopes front first × ContentParts more (at + length front) scopes back behind
      × (parts ≡ first ++ behind)

-- The parts up to a place before or inside the root. Elements with these start tags are open there, from the innermost to the
-- root, and never more than may be.
abbrev pub OpensParts : List Tag → List ℕ → List Part → Type 0
OpensParts [] bytes parts = IsProlog bytes tt × (parts ≡ [])
OpensParts (t ∷ outer) bytes parts =
    (name : Name) × (attrs : List Attr) × (end : ℕ) × (before : List ℕ) × (start : List ℕ) × (inside : List ℕ) × (content : Content)
    × (earlier : List Part) × (inner : List Part) × (bytes ≡ before ++ (start ++ inside)) × OpensParts outer before earlier
    × IsStartTag start t × (tag_says (scopes_of outer) t ≡ Some (name, attrs)) × (end + 1 ≡ length before + length start)
    × ContentParts content (length before + length start) (scopes_of (t ∷ outer)) inside inner
    × (length (t ∷ outer) + depths content ≤ most_open)
    × (parts ≡ earlier ++ (Start (length before) end name attrs ∷ inner))

-- Parts nested and runs joined. The result is the children that stand open, from the innermost, read from the last part to the
-- first. Parts that do not nest say nothing.
abbrev pub add_part : Part → List Meanings → List Meanings
add_part (End at) open_ = Childless ∷ open_
add_part (Run at non_blank text) [] = []
add_part (Run at non_blank text) (children ∷ outer) = joined text children ∷ outer
add_part (Start at end name attrs) (children ∷ siblings ∷ outer) = ChildThen (Element name attrs children) siblings ∷ outer
add_part (Start at end name attrs) other = []

abbrev pub nested : List Part → List Meanings
nested [] = Childless ∷ []
nested (part ∷ rest) = add_part part (nested rest)

-- The parts are those of one element.
abbrev pub Says : List Part → Meaning → Type 0
Says parts element = nested parts ≡ ChildThen element Childless ∷ []

-- The parts of a whole document, each at its place.
pub record DocumentParts (bytes : List ℕ) (parts : List Part) : Type 0 where
  pub root : Tree
  pub prolog : List ℕ
  pub element : List ℕ
  pub epilog : List ℕ
  pub spelled : bytes ≡ prolog ++ (element ++ epilog)
  pub is_prolog : IsProlog prolog tt
  pub is_element : TreeParts root (length prolog) [] element parts
  pub is_epilog : IsMisc epilog tt
