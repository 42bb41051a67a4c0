-- The one written form of an element, which is this project's profile of XML 1.0 and of Namespaces in XML. Also the elements that
-- can be written so.
use Rattle.std.specs.Prelude.{◌≡◌, ℕ, suc, ◌+◌, ◌≤◌, Bool, true, false, ◌&&◌, if◌then◌else◌, List, [], ◌∷◌, ◌++◌, codes, length, max}
use Rattle.std.specs.List.{flat_map, AllByRecursion}
use Rattle.std.specs.Str.{bytes_eq}
use Rattle.std.specs.Fmt.{decimal}
use Rattle.cds_base.specs.declared.limits.TheConstants.{INPUT_LIMIT}
use Rattle.cds_base.specs.Escape.{escaped}
use Rattle.cds_base.specs.Characters.{AreAllowed}
use Rattle.cds_markup.specs.declared.name.Name.{Name}
use Rattle.cds_markup.specs.declared.name.Attr.{Attr}
use Rattle.cds_markup.specs.declared.tag.TagAttr.{TagAttr}
use Rattle.cds_markup.specs.declared.tag.Tag.{Tag}
use Rattle.cds_markup.specs.Grammar.{IsName, name_bytes}
use Rattle.cds_markup.specs.Namespaces.{is_empty, xml_space, no_name_twice}
use Rattle.cds_markup.specs.Document.{Meaning, Meanings, Element, End, TextThen, ChildThen, most_open, Doc}

-- The prefix of the attribute that has this number among those of its tag that have a namespace, counted from 1.
abbrev pub numbered : ℕ → List ℕ
numbered number = codes "a" ++ decimal number

-- An attribute as it stands in a tag, under a prefix, and the declaration of a prefix.
abbrev pub under : List ℕ → Attr → TagAttr
under prefix a = record { name = record { prefix = prefix; local = a.name.local }; value = a.value }

abbrev pub declares : List ℕ → List ℕ → TagAttr
declares prefix space = record { name = record { prefix = codes "xmlns"; local = prefix }; value = space }

-- An attribute that has a namespace, with its number. Its prefix is declared just before it. The namespace of the prefix `xml` is
-- never declared.
abbrev pub with_prefix : ℕ → Attr → List TagAttr
with_prefix number a =
    if bytes_eq a.name.space xml_space then under (codes "xml") a ∷ []
    else declares (numbered number) a.name.space ∷ under (numbered number) a ∷ []

-- An attribute, before which `before` attributes have a namespace. One without a namespace has no prefix. Then how many have one
-- with it.
abbrev pub with_name : ℕ → Attr → List TagAttr
with_name before a = if is_empty a.name.space then under [] a ∷ [] else with_prefix (before + 1) a

abbrev pub counted : ℕ → Attr → ℕ
counted before a = if is_empty a.name.space then before else before + 1

-- Attributes in order.
abbrev pub tag_attrs : ℕ → List Attr → List TagAttr
tag_attrs before [] = []
tag_attrs before (a ∷ more) = with_name before a ++ tag_attrs (counted before a) more

-- The declaration of the element's namespace, if it differs from that of the element around it.
abbrev pub default_declared : List ℕ → List ℕ → List TagAttr
default_declared around space =
    if bytes_eq around space then []
    else record { name = record { prefix = []; local = codes "xmlns" }; value = space } ∷ []

-- The start tag of an element. Its name has no prefix.
abbrev pub tag_of : List ℕ → Name → List Attr → Tag
tag_of around name attrs =
    record { name = record { prefix = []; local = name.local }; attrs = default_declared around name.space ++ tag_attrs 0 attrs }

-- How tags are written.
abbrev pub written_attr : TagAttr → List ℕ
written_attr a = codes " " ++ (name_bytes a.name ++ (codes "=\"" ++ (escaped a.value ++ codes "\"")))

abbrev pub attr_text : List ℕ → List ℕ → List ℕ → List ℕ
attr_text prefix local value = written_attr record { name = record { prefix = prefix; local = local }; value = value }

-- An attribute after the declaration of a prefix of its own.
abbrev pub own_text : ℕ → Attr → List ℕ
own_text number a = written_attr (declares (numbered number) a.name.space) ++ written_attr (under (numbered number) a)

abbrev pub written_attrs : List TagAttr → List ℕ
written_attrs attrs = flat_map written_attr attrs

abbrev pub written_start : Tag → List ℕ
written_start t = codes "<" ++ (name_bytes t.name ++ (written_attrs t.attrs ++ codes ">"))

abbrev pub written_end : Tag → List ℕ
written_end t = codes "</" ++ (name_bytes t.name ++ codes ">")

-- An element inside one of this namespace, and what stands in an element of it. An element without children is also written with
-- both its tags.
abbrev mutual
  pub written_in : List ℕ → Meaning → List ℕ
  written_in around (Element name attrs children) =
      written_start (tag_of around name attrs)
      ++ (written_inside name.space children ++ written_end (tag_of around name attrs))

  pub written_inside : List ℕ → Meanings → List ℕ
  written_inside space End = []
  written_inside space (TextThen text more) = escaped text ++ written_inside space more
  written_inside space (ChildThen child more) = written_in space child ++ written_inside space more

-- The root, around which there is no namespace. No XML declaration stands before it.
abbrev pub written : Meaning → List ℕ
written element = written_in [] element

-- An attribute that can be written. If it has no namespace, it is not called `xmlns`, which would declare one.
pub record CanBeAttr (a : Attr) : Type 0 where
  pub local : IsName a.name.local a.name.local
  pub space : AreAllowed a.name.space
  pub value : AreAllowed a.value
  pub declares_none : is_empty a.name.space && bytes_eq a.name.local (codes "xmlns") ≡ false

-- An element and children that can be written. Names are names, all characters are allowed, no attribute comes twice, no text is
-- empty, and no two texts stand side by side.
abbrev pub begins_with_text : Meanings → Bool
begins_with_text (TextThen text more) = true
begins_with_text other = false

pub record CanBeTag (name : Name) (attrs : List Attr) : Type 0 where
  pub local : IsName name.local name.local
  pub space : AreAllowed name.space
  pub each : AllByRecursion CanBeAttr attrs
  pub once : no_name_twice attrs ≡ true

abbrev mutual
  pub CanBe : Meaning → Type 0
  CanBe (Element name attrs children) = CanBeTag name attrs × CanBeInside children

  pub CanBeInside : Meanings → Type 0
  CanBeInside End = Unit {0}
  CanBeInside (TextThen text more) = (is_empty text ≡ false) × AreAllowed text × (begins_with_text more ≡ false) × CanBeInside more
  CanBeInside (ChildThen child more) = CanBe child × CanBeInside more

-- The greatest number of elements that are open at one place of it.
abbrev mutual
  pub element_depth : Meaning → ℕ
  element_depth (Element name attrs children) = suc (inside_depth children)

  pub inside_depth : Meanings → ℕ
  inside_depth End = 0
  inside_depth (TextThen text more) = inside_depth more
  inside_depth (ChildThen child more) = max (element_depth child) (inside_depth more)

-- An element that can be written within the limits.
pub record CanBeWritten (element : Meaning) : Type 0 where
  pub can_be : CanBe element
  pub within : element_depth element ≤ most_open
  pub short : length (written element) ≤ INPUT_LIMIT

-- What is written of an element is a document that means it.
abbrev pub WrittenIsRead : Type 0
WrittenIsRead = (element : Meaning) → CanBeWritten element → Doc (written element) element
