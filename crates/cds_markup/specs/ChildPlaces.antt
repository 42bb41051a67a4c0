-- The places of a document's elements, in the words of the grammar. A place among the parts is that of the element's own bytes.
use Rattle.std.specs.Prelude.{◌≡◌, ℕ, ◌+◌, Some, List, [], ◌∷◌, ◌++◌, codes, length, slice_get}
use Rattle.cds_markup.specs.declared.tag.Tag.{Tag}
use Rattle.cds_markup.specs.Grammar.{Tree, Content, Nothing, LeafThen, TreeThen, IsTree, IsProlog, IsMisc}
use Rattle.cds_markup.specs.Document.{Meaning, meaning, Doc}
use Rattle.cds_markup.specs.Refusal.{Opens, scopes_of}
use Rattle.cds_markup.specs.Children.{elements_in, nodes_in, IsRootPlace, IsChildPlace}

-- How many elements stand side by side in content.
abbrev pub trees_in : Content → ℕ
trees_in Nothing = 0
trees_in (LeafThen leaf more) = trees_in more
trees_in (TreeThen tree more) = trees_in more + 1

-- The bytes of a tree as it is written, of which the first is its `<`, stand right after the bytes `before`.
pub record StandsBehind (bytes before : List ℕ) (tree : Tree) (at : ℕ) : Type 0 where
  pub after_sign : List ℕ
  pub rest : List ℕ
  pub spelled : bytes ≡ before ++ ((codes "<" ++ after_sign) ++ rest)
  pub is_tree : IsTree tree (codes "<" ++ after_sign)
  pub place : at ≡ length before

-- The root stands at a place. Before it and after it is only what may stand there. It says the document's element.
pub record RootStands (bytes : List ℕ) (element : Meaning) (at : ℕ) : Type 0 where
  pub root : Tree
  pub prolog : List ℕ
  pub stands : StandsBehind bytes prolog root at
  pub is_prolog : IsProlog prolog tt
  pub is_epilog : IsMisc stands.rest tt
  pub means : meaning root [] ≡ Some element

-- The child of the root that has `number` elements before it stands at a place. Before it stand the root's start tag and content
-- with this many elements. It says that child of the document's element.
pub record ChildStands (bytes : List ℕ) (element : Meaning) (number at : ℕ) : Type 0 where
  pub root : Tag
  pub child : Tree
  pub before : List ℕ
  pub says : Meaning
  pub stands : StandsBehind bytes before child at
  pub opens : Opens (root ∷ []) before
  pub so_many : trees_in opens.3 ≡ number
  pub means : meaning child (scopes_of (root ∷ [])) ≡ Some says
  pub among : slice_get (elements_in (nodes_in element)) number ≡ Some says

-- In a document of an element, what has the root's place is the root. What has a child's place is that child.
pub record PlacesAreIn (bytes : List ℕ) (element : Meaning) : Type 0 where
  pub of_root : (at : ℕ) → IsRootPlace bytes at → RootStands bytes element at
  pub of_child : (number at : ℕ) → IsChildPlace bytes number at → ChildStands bytes element number at

abbrev pub PlacesAreOfElements : Type 0
PlacesAreOfElements = (bytes : List ℕ) (element : Meaning) → Doc bytes element → PlacesAreIn bytes element
