-- What stands in bytes as far as nothing refuses them. Each part stands at its place by the grammar alone, with the start tags
-- that are open around it and the parts before it.
use Rattle.std.specs.Prelude.{◌≡◌, ◌≢◌, ℕ, ◌+◌, ◌<◌, ◌≤◌, false, ◌⊎◌, Option, Some, List, [], ◌∷◌, ◌++◌, length}
use Rattle.cds_base.specs.declared.limits.TheConstants.{INPUT_LIMIT}
use Rattle.cds_markup.specs.declared.name.Name.{Name}
use Rattle.cds_markup.specs.declared.name.Attr.{Attr}
use Rattle.cds_markup.specs.declared.part.Part.{Part}
use Rattle.cds_markup.specs.declared.part.Part.TheVariants.{Start, End, Run}
use Rattle.cds_markup.specs.declared.tag.Tag.{Tag}
use Rattle.cds_markup.specs.Grammar.{Leaf, is_text, IsEndTag}
use Rattle.cds_markup.specs.Namespaces.{tag_says}
use Rattle.cds_markup.specs.Document.{line_ends, most_open}
use Rattle.cds_markup.specs.Refusal.{Opens, scopes_of, TagEnds, LeafEnds, TextByte, Refuses}
use Rattle.cds_markup.specs.Parts.{first_non_blank, leaf_parts, OpensParts}
use Rattle.cds_markup.specs.GivenParts.{IsPlain, IsBegun}

-- Nothing refuses the bytes up to and with the byte at this place, which is within the limit.
pub record Clear (bytes : List ℕ) (at : ℕ) : Type 0 where
  pub none : (earlier : ℕ) → earlier ≤ at → Refuses bytes earlier → ⊥
  pub short : (at < INPUT_LIMIT) ⊎ (length bytes ≤ INPUT_LIMIT)

-- A start tag that keeps the rules, found at the `>` or `/` that ends it. One more element may be open.
pub record StartStands (bytes : List ℕ) (earlier : List Part) (begin end : ℕ) (name : Name) (attrs : List Attr) : Type 0 where
  pub tags : List Tag
  pub tag : Tag
  pub found : TagEnds bytes tags begin end tag
  pub parts : OpensParts tags found.before earlier
  pub says : tag_says (scopes_of tags) tag ≡ Some (name, attrs)
  pub room : length tags < most_open
  pub clear : Clear bytes end

-- An end tag of the innermost element, found at its `>`.
pub record EndTag (bytes : List ℕ) (tag : Tag) (outer : List Tag) (begin at : ℕ) : Type 0 where
  pub before : List ℕ
  pub closing : List ℕ
  pub rest : List ℕ
  pub spelled : bytes ≡ before ++ (closing ++ rest)
  pub begins : begin ≡ length before
  pub place : at + 1 ≡ begin + length closing
  pub opens : Opens (tag ∷ outer) before
  pub is_end : IsEndTag tag.name closing tt

pub record EndStands (bytes : List ℕ) (earlier : List Part) (begin : ℕ) : Type 0 where
  pub tag : Tag
  pub outer : List Tag
  pub at : ℕ
  pub found : EndTag bytes tag outer begin at
  pub parts : OpensParts (tag ∷ outer) found.before earlier
  pub clear : Clear bytes at

-- The `/` of an empty element's tag, with its `>` right after it. Its start tag is the part before.
pub record EmptyStands (bytes : List ℕ) (earlier : List Part) (at : ℕ) : Type 0 where
  pub front : List Part
  pub begin : ℕ
  pub name : Name
  pub attrs : List Attr
  pub start : StartStands bytes front begin at name attrs
  pub is : earlier ≡ front ++ Start begin at name attrs ∷ []
  pub more : List ℕ
  pub slash : start.found.end ≡ 47
  pub closes : start.found.rest ≡ 62 ∷ more
  pub clear : Clear bytes (at + 1)

-- A reference or a section, found at its last byte. A comment is no part.
pub record LeafStands (bytes : List ℕ) (earlier : List Part) (part : Part) : Type 0 where
  pub tags : List Tag
  pub begin : ℕ
  pub at : ℕ
  pub leaf : Leaf
  pub found : LeafEnds bytes tags begin at leaf
  pub no_text : is_text leaf ≡ false
  pub parts : OpensParts tags found.before earlier
  pub is : leaf_parts begin leaf ≡ part ∷ []
  pub clear : Clear bytes at

-- A literal text from its beginning, as far as its whole characters go. Its first character that is not white space is found at
-- its first byte. This may be a character that a fault cuts after the text.
pub record TextStands (bytes : List ℕ) (earlier : List Part) (begin : ℕ) (non_blank : Option ℕ) (text : List ℕ) : Type 0 where
  pub tags : List Tag
  pub before : List ℕ
  pub front : List ℕ
  pub begun : List ℕ
  pub rest : List ℕ
  pub spelled : bytes ≡ before ++ (front ++ (begun ++ rest))
  pub begins : begin ≡ length before
  pub inside : tags ≢ []
  pub parts : OpensParts tags before earlier
  pub plain : IsPlain front
  pub cut : (begun ≡ []) ⊎ IsBegun begun
  pub some : front ++ begun ≢ []
  pub says : text ≡ line_ends front
  pub is_non_blank : non_blank ≡ first_non_blank begin (front ++ begun)
  pub found : (at : ℕ) → non_blank ≡ Some at → (byte : ℕ) × TextByte bytes tags at byte × Clear bytes at

-- The part stands in the bytes after these parts.
abbrev pub Stands : List ℕ → List Part → Part → Type 0
Stands bytes earlier (Start begin end name attrs) = StartStands bytes earlier begin end name attrs
Stands bytes earlier (End at) = EndStands bytes earlier at ⊎ EmptyStands bytes earlier at
Stands bytes earlier (Run begin non_blank text) = LeafStands bytes earlier (Run begin non_blank text) ⊎ TextStands bytes earlier begin non_blank text

-- A start tag that is found is among the parts, after exactly the parts before it.
pub record TagGiven (bytes : List ℕ) (parts : List Part) (tags : List Tag) (begin at : ℕ) (tag : Tag) (before : List ℕ) : Type 0 where
  pub name : Name
  pub attrs : List Attr
  pub earlier : List Part
  pub later : List Part
  pub says : tag_says (scopes_of tags) tag ≡ Some (name, attrs)
  pub opens : OpensParts tags before earlier
  pub is : parts ≡ earlier ++ Start begin at name attrs ∷ later

-- A reference or a section that is found is among the parts, after exactly the parts before it.
pub record PartsGiven (parts found : List Part) (tags : List Tag) (before : List ℕ) : Type 0 where
  pub earlier : List Part
  pub later : List Part
  pub opens : OpensParts tags before earlier
  pub is : parts ≡ earlier ++ (found ++ later)

-- If a character of a text is found that is not white space, the run of the text is among the parts, after exactly the parts
-- before it. The run has the place of this character or of one before it.
pub record TextGiven (bytes : List ℕ) (parts : List Part) (tags : List Tag) (at : ℕ) : Type 0 where
  pub earlier : List Part
  pub later : List Part
  pub before : List ℕ
  pub between : List ℕ
  pub rest : List ℕ
  pub non_blank : ℕ
  pub text : List ℕ
  pub spelled : bytes ≡ before ++ (between ++ rest)
  pub place : at ≡ length before + length between
  pub plain : IsPlain between
  pub opens : OpensParts tags before earlier
  pub from : length before ≤ non_blank
  pub to : non_blank ≤ at
  pub letter : (byte : ℕ) × TextByte bytes tags non_blank byte
  pub is : parts ≡ earlier ++ Run (length before) (Some non_blank) text ∷ later
