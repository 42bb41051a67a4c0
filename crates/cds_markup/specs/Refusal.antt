-- Why bytes are no document: each refusal at its place, and the first in reading order. The places and limits are this project's
-- profile.
use Rattle.std.specs.Prelude.{◌≡◌, ◌≢◌, ℕ, ◌+◌, ◌<◌, ◌≤◌, false, ◌⊎◌, None, List, [], ◌∷◌, ◌++◌, length, take, codes, map, ⊤}
use Rattle.cds_base.specs.declared.limits.TheConstants.{INPUT_LIMIT}
use Rattle.cds_markup.specs.declared.error.MarkupError.{MarkupError}
use Rattle.cds_markup.specs.declared.error.MarkupError.TheVariants.{Bad, TooDeep, TooLong, Failed, Mem}
use Rattle.cds_markup.specs.declared.tag.Tag.{Tag}
use Rattle.cds_markup.specs.declared.tag.Declaration.{Declaration}
use Rattle.cds_base.specs.Characters.{begins_name, is_blank}
use Rattle.cds_markup.specs.Form.{Character}
use Rattle.cds_markup.specs.Grammar.{Leaf, Tree, Content, IsLeaf, IsDocument, IsProlog, IsStartTag, IsContent, IsTag}
use Rattle.cds_markup.specs.Namespaces.{declarations, tag_says}
use Rattle.cds_markup.specs.Document.{most_open}

-- The bytes begin a document by the grammar alone, whatever its depth and its namespaces.
abbrev pub CanGoOn : List ℕ → Type 0
CanGoOn bytes = (more : List ℕ) × (root : Tree) × IsDocument (bytes ++ more) root

-- The bytes before the place can go on, and with the byte at the place they cannot.
pub record BreaksAt (bytes : List ℕ) (at : ℕ) : Type 0 where
  pub inside : at < length bytes
  pub before : CanGoOn (take at bytes)
  pub here : CanGoOn (take (at + 1) bytes) → ⊥

-- The input ends at the place. It can go on, but is no document.
pub record EndsShort (bytes : List ℕ) (at : ℕ) : Type 0 where
  pub end : at ≡ length bytes
  pub before : CanGoOn bytes
  pub here : (root : Tree) → IsDocument bytes root → ⊥

abbrev pub Breaks : List ℕ → ℕ → Type 0
Breaks bytes at = BreaksAt bytes at ⊎ EndsShort bytes at

-- The bytes lead to a place before or inside the root. Elements with these start tags are open there, from the innermost to the
-- root.
abbrev pub Opens : List Tag → List ℕ → Type 0
Opens [] bytes = IsProlog bytes tt
Opens (t ∷ outer) bytes =
    (before : List ℕ) × (start : List ℕ) × (inside : List ℕ) × (content : Content)
    × (bytes ≡ before ++ (start ++ inside)) × Opens outer before × IsStartTag start t × IsContent content inside

-- The scopes of open elements, from the innermost to the root.
abbrev pub scopes_of : List Tag → List (List Declaration)
scopes_of tags = map (λ t. declarations t.attrs) tags

-- A start tag begins at `begin` while elements with these tags are open. The `>` or `/` that ends it is at `at`.
pub record TagEnds (bytes : List ℕ) (tags : List Tag) (begin at : ℕ) (tag : Tag) : Type 0 where
  pub before : List ℕ
  pub inside : List ℕ
  pub end : ℕ
  pub rest : List ℕ
  pub spelled : bytes ≡ before ++ (codes "<" ++ (inside ++ end ∷ rest))
  pub begins : begin ≡ length before
  pub place : at ≡ begin + 1 + length inside
  pub opens : Opens tags before
  pub is_tag : IsTag inside tag
  pub ends : (end ≡ 47) ⊎ (end ≡ 62)

-- A reference, a section, a comment or a literal text begins at `begin` inside the root. Its last byte is at `at`.
pub record LeafEnds (bytes : List ℕ) (tags : List Tag) (begin at : ℕ) (leaf : Leaf) : Type 0 where
  pub before : List ℕ
  pub front : List ℕ
  pub rest : List ℕ
  pub spelled : bytes ≡ before ++ (front ++ rest)
  pub begins : begin ≡ length before
  pub place : at + 1 ≡ begin + length front
  pub opens : Opens tags before
  pub inside : tags ≢ []
  pub is_leaf : IsLeaf front leaf

-- The byte at the place begins a character of a literal text inside the root that is not white space.
pub record TextByte (bytes : List ℕ) (tags : List Tag) (at byte : ℕ) : Type 0 where
  pub before : List ℕ
  pub rest : List ℕ
  pub spelled : bytes ≡ before ++ byte ∷ rest
  pub place : at ≡ length before
  pub opens : Opens tags before
  pub inside : tags ≢ []
  pub no_blank : is_blank byte ≡ false
  pub no_markup : (byte ≢ 60) × (byte ≢ 38)
  pub may_be : CanGoOn (take (at + 1) bytes)

-- The byte at the place is the `>` or `/` that ends a start tag which breaks a rule.
abbrev pub BreaksRule : List ℕ → ℕ → Type 0
BreaksRule bytes at =
    (tags : List Tag) × (begin : ℕ) × (tag : Tag) × TagEnds bytes tags begin at tag × (tag_says (scopes_of tags) tag ≡ None)

-- As many elements are open as may be, and the byte at the place is the first of a start tag's name.
pub record IsTooDeep (bytes : List ℕ) (at : ℕ) : Type 0 where
  pub tags : List Tag
  pub before : List ℕ
  pub first : ℕ
  pub rest : List ℕ
  pub spelled : bytes ≡ before ++ (codes "<" ++ first ∷ rest)
  pub place : at ≡ length before + 1
  pub opens : Opens tags before
  pub many : length tags ≡ most_open
  pub begins : (c : ℕ) × (tail : List ℕ) × Character begins_name (first ∷ tail) c

-- The causes of a refusal at one place, except the length.
abbrev pub IsBad : List ℕ → ℕ → Type 0
IsBad bytes at = Breaks bytes at ⊎ BreaksRule bytes at

abbrev pub Refuses : List ℕ → ℕ → Type 0
Refuses bytes at = IsBad bytes at ⊎ IsTooDeep bytes at

-- No cause comes before the place, and no byte up to it is past the limit.
pub record IsFirst (bytes : List ℕ) (at : ℕ) : Type 0 where
  pub none_before : (earlier : ℕ) → earlier < at → Refuses bytes earlier → ⊥
  pub short : (at < INPUT_LIMIT) ⊎ (length bytes ≤ INPUT_LIMIT)

-- What a refusal says of the bytes: the first cause in reading order. `Mem` says nothing of them.
abbrev pub IsRefused : List ℕ → MarkupError → Type 0
IsRefused bytes (Bad at) = IsBad bytes at × IsFirst bytes at
IsRefused bytes (TooDeep at) = IsTooDeep bytes at × IsFirst bytes at
IsRefused bytes TooLong = (INPUT_LIMIT < length bytes) × ((earlier : ℕ) → earlier < INPUT_LIMIT → Refuses bytes earlier → ⊥)
IsRefused bytes Failed = ⊥
IsRefused bytes Mem = ⊤
