-- The parts of bytes as far as nothing refuses them. They are those up to a place of the grammar, after which no others come.
use Rattle.std.specs.Prelude.{◌≡◌, ◌≢◌, ⊤, ℕ, ◌+◌, ◌<◌, ◌≤◌, Bool, false, ◌⊎◌, Some, Result, Ok, Err, List, [], ◌∷◌, ◌++◌, codes, length}
use Rattle.cds_base.specs.declared.limits.TheConstants.{INPUT_LIMIT}
use Rattle.cds_markup.specs.declared.name.Name.{Name}
use Rattle.cds_markup.specs.declared.name.Attr.{Attr}
use Rattle.cds_markup.specs.declared.part.Part.{Part}
use Rattle.cds_markup.specs.declared.part.Part.TheVariants.{Start, Run}
use Rattle.cds_markup.specs.declared.tag.Tag.{Tag}
use Rattle.cds_markup.specs.declared.error.MarkupError.{MarkupError}
use Rattle.cds_markup.specs.declared.error.MarkupError.TheVariants.{Mem}
use Rattle.cds_markup.specs.Form.{Character}
use Rattle.cds_markup.specs.Grammar.{IsTag, Tree, Content, Nothing, LeafThen, TreeThen, is_text, Without, is_in_text, IsProlog}
use Rattle.cds_markup.specs.Namespaces.{tag_says}
use Rattle.cds_markup.specs.Document.{Meaning, Doc, line_ends, most_open, depth}
use Rattle.cds_markup.specs.Refusal.{scopes_of, IsRefused}
use Rattle.cds_markup.specs.Taking.{Takes, Answered}
use Rattle.cds_markup.specs.Parts.{first_non_blank, TreeParts, OpensParts, DocumentParts, Says}

-- The bytes end right after the root. The parts are those of the root.
pub record RootEnds (front : List ℕ) (parts : List Part) : Type 0 where
  pub root : Tree
  pub prolog : List ℕ
  pub element : List ℕ
  pub spelled : front ≡ prolog ++ element
  pub is_prolog : IsProlog prolog tt
  pub is_element : TreeParts root (length prolog) [] element parts
  pub within : depth root ≤ most_open

-- Whether content ends in a literal text.
abbrev pub ends_with_text : Content → Bool
ends_with_text Nothing = false
ends_with_text (LeafThen leaf Nothing) = is_text leaf
ends_with_text (LeafThen leaf (LeafThen next more)) = ends_with_text (LeafThen next more)
ends_with_text (LeafThen leaf (TreeThen tree more)) = ends_with_text (TreeThen tree more)
ends_with_text (TreeThen tree more) = ends_with_text more

-- The bytes end with the `/` of an empty element's tag, whose `>` is still to come.
pub record SlashEnds (front : List ℕ) (parts : List Part) : Type 0 where
  pub tags : List Tag
  pub before : List ℕ
  pub inside : List ℕ
  pub tag : Tag
  pub end : ℕ
  pub name : Name
  pub attrs : List Attr
  pub earlier : List Part
  pub spelled : front ≡ before ++ (codes "<" ++ (inside ++ codes "/"))
  pub place : end + 1 ≡ length front
  pub opens : OpensParts tags before earlier
  pub is_tag : IsTag inside tag
  pub says : tag_says (scopes_of tags) tag ≡ Some (name, attrs)
  pub room : length tags < most_open
  pub is : parts ≡ earlier ++ Start (length before) end name attrs ∷ []

-- The bytes end with whole characters of a literal text, perhaps none, and the first bytes of one more, but not all of them.
abbrev pub IsPlain : List ℕ → Type 0
IsPlain bytes = Without (codes "]]>") is_in_text bytes bytes

abbrev pub IsBegun : List ℕ → Type 0
IsBegun bytes = (bytes ≢ []) × (more : List ℕ) × (c : ℕ) × (more ≢ []) × Character is_in_text (bytes ++ more) c

pub record TextCut (front : List ℕ) (parts : List Part) : Type 0 where
  pub tag : Tag
  pub outer : List Tag
  pub before : List ℕ
  pub text : List ℕ
  pub begun : List ℕ
  pub earlier : List Part
  pub spelled : front ≡ before ++ (text ++ begun)
  pub opens : OpensParts (tag ∷ outer) before earlier
  pub alone : ends_with_text opens.6 ≡ false
  pub plain : IsPlain text
  pub cut : IsBegun begun
  pub is : parts ≡ earlier ++ Run (length before) (first_non_blank (length before) (text ++ begun)) (line_ends text) ∷ []

-- The parts up to a place that the grammar tells. It is before or inside the root, right after it, after such a `/`, or inside
-- such a cut character.
abbrev pub PartsTo : List ℕ → List Part → Type 0
PartsTo front parts =
    ((tags : List Tag) × OpensParts tags front parts)
    ⊎ (RootEnds front parts ⊎ (SlashEnds front parts ⊎ TextCut front parts))

-- The parts of bytes: those up to a place within the limit. Any such place further on has the same parts.
pub record Given (bytes : List ℕ) (parts : List Part) : Type 0 where
  pub front : List ℕ
  pub rest : List ℕ
  pub spelled : bytes ≡ front ++ rest
  pub within : length front ≤ INPUT_LIMIT
  pub stand : PartsTo front parts
  pub last : (other back : List ℕ) (others : List Part) → bytes ≡ other ++ back → length front ≤ length other → length other ≤ INPUT_LIMIT
      → PartsTo other others → others ≡ parts

-- What reading the parts of bytes answers, and the parts that it adds to those before. Of a document these are the parts of its
-- root, which nested are its element. `Mem` says nothing of the bytes and adds none.
abbrev pub Tells : List ℕ → Result (Unit {0}) MarkupError → List Part → List Part → Type 0
Tells bytes (Err Mem) before parts = parts ≡ before
Tells bytes (Err refusal) before parts = (found : List Part) × (parts ≡ before ++ found) × Given bytes found × IsRefused bytes refusal
Tells bytes (Ok done) before parts =
    (found : List Part) × (parts ≡ before ++ found) × Given bytes found × (element : Meaning) × Doc bytes element
    × DocumentParts bytes found × Says found element

-- The same if something takes the parts one by one, until it has enough. `took` says what a part makes of it. `Mem` says nothing.
abbrev pub TellsTo : {S : Type 0} → (S → Part → S → Type 0) → (S → Bool) → List ℕ → Result (Unit {0}) MarkupError → S → S → Type 0
TellsTo took enough bytes (Err Mem) before now = ⊤
TellsTo took enough bytes result before now =
    (parts : List Part) × (answer : Result (Unit {0}) MarkupError) × Tells bytes answer [] parts × (answer ≢ Err Mem)
    × Takes took enough before parts now × Answered (enough now) result answer
