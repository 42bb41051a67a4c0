-- What a document means: the element that its bytes are (XML 1.0, Namespaces in XML).
use Rattle.std.specs.Prelude.{◌≡◌, ◌==◌, ℕ, suc, ◌≤◌, if◌then◌else◌, Option, Some, None, List, [], ◌∷◌, ◌++◌, length, map, max, encode_utf8}
use Rattle.cds_base.specs.declared.limits.TheConstants.{INPUT_LIMIT}
use Rattle.cds_markup.specs.declared.name.Name.{Name}
use Rattle.cds_markup.specs.declared.name.Attr.{Attr}
use Rattle.cds_markup.specs.declared.tag.Declaration.{Declaration}
use Rattle.cds_markup.specs.Grammar.{Leaf, Text, Reference, Section, Comment, Tree, EmptyElement, Full, Content, Nothing, LeafThen, TreeThen, IsDocument}
use Rattle.cds_markup.specs.Namespaces.{declarations, tag_says, is_empty}

-- An element with its children in order: texts and elements.
mutual
  pub data Meaning : Type 0 where
    Element : Name → List Attr → Meanings → Meaning

  pub data Meanings : Type 0 where
    End : Meanings
    TextThen : List ℕ → Meanings → Meanings
    ChildThen : Meaning → Meanings → Meanings

-- The bytes without the line feed that they begin with, if they do.
abbrev pub without_feed : List ℕ → List ℕ
without_feed [] = []
without_feed (b ∷ rest) = if b == 10 then rest else b ∷ rest

-- Each line end is one line feed, be it a carriage return and a line feed or a lone carriage return (XML 1.0 on line ends). The
-- line feed right after a carriage return is left out, and each carriage return becomes a line feed.
abbrev pub return_before : ℕ → List ℕ → List ℕ
return_before b rest = if b == 13 then b ∷ without_feed rest else b ∷ rest

abbrev pub lone_returns : List ℕ → List ℕ
lone_returns [] = []
lone_returns (b ∷ rest) = return_before b (lone_returns rest)

abbrev pub line_ends : List ℕ → List ℕ
line_ends text = map (λ b. if b == 13 then 10 else b) (lone_returns text)

-- What a leaf says. A comment says nothing.
abbrev pub leaf_says : Leaf → List ℕ
leaf_says (Text text) = line_ends text
leaf_says (Reference c) = encode_utf8 c
leaf_says (Section text) = line_ends text
leaf_says Comment = []

-- A text before other children. An empty one is no child. A text right after it is joined to it.
abbrev pub joined : List ℕ → Meanings → Meanings
joined text (TextThen more children) = TextThen (text ++ more) children
joined text children = if is_empty text then children else TextThen text children

-- The meaning of an element within scopes, if all its start tags keep the rules.
abbrev pub and_joined : List ℕ → Option Meanings → Option Meanings
and_joined text None = None
and_joined text (Some children) = Some (joined text children)

abbrev pub and_children : Option Meaning → Option Meanings → Option Meanings
and_children None children = None
and_children (Some child) None = None
and_children (Some child) (Some children) = Some (ChildThen child children)

abbrev pub of_tag : Option (Name × List Attr) → Option Meanings → Option Meaning
of_tag None children = None
of_tag (Some said) None = None
of_tag (Some said) (Some children) = Some (Element said.0 said.1 children)

abbrev mutual
  pub meaning : Tree → List (List Declaration) → Option Meaning
  meaning (EmptyElement t) scopes = of_tag (tag_says scopes t) (Some End)
  meaning (Full t content) scopes = of_tag (tag_says scopes t) (meanings content (declarations t.attrs ∷ scopes))

  pub meanings : Content → List (List Declaration) → Option Meanings
  meanings Nothing scopes = Some End
  meanings (LeafThen leaf more) scopes = and_joined (leaf_says leaf) (meanings more scopes)
  meanings (TreeThen tree more) scopes = and_children (meaning tree scopes) (meanings more scopes)

-- The greatest number of elements that are open at one place of it.
abbrev mutual
  pub depth : Tree → ℕ
  depth (EmptyElement t) = 1
  depth (Full t content) = suc (depths content)

  pub depths : Content → ℕ
  depths Nothing = 0
  depths (LeafThen leaf more) = depths more
  depths (TreeThen tree more) = max (depth tree) (depths more)

-- The most elements that may be open, in this project's profile. The most bytes that a document may have are `INPUT_LIMIT`, which
-- proofs call `most_bytes`.
abbrev pub most_open : ℕ
most_open = 16

abbrev pub most_bytes : ℕ
most_bytes = INPUT_LIMIT

-- The bytes are a document with this root as it is written. This element is what it means, and both limits are kept.
pub record DocOf (bytes : List ℕ) (root : Tree) (element : Meaning) : Type 0 where
  pub document : IsDocument bytes root
  pub means : meaning root [] ≡ Some element
  pub within : depth root ≤ most_open
  pub short : length bytes ≤ INPUT_LIMIT

abbrev pub Doc : List ℕ → Meaning → Type 0
Doc bytes element = (root : Tree) × DocOf bytes root element
