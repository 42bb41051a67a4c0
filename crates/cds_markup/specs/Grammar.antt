-- The grammar of documents, which is this project's profile of XML 1.0. It is in UTF-8, and leaves out document types, processing
-- instructions and a document's own entities. Names may have every allowed character from U+0080 on, and comments may end in a
-- dash. Each definition is one row of it.
use Rattle.std.specs.Prelude.{◌≡◌, ◌≢◌, ◌==◌, ℕ, ◌+◌, nat_le, Bool, true, false, not, ◌&&◌, ◌||◌, if◌then◌else◌, ◌⊎◌, Option, Some, None, List, [], ◌∷◌, ◌++◌, codes, map, encode_utf8}
use Rattle.std.specs.List.{starts_with, flat_map}
use Rattle.cds_markup.specs.declared.tag.QName.{QName}
use Rattle.cds_markup.specs.declared.tag.TagAttr.{TagAttr}
use Rattle.cds_markup.specs.declared.tag.Tag.{Tag}
use Rattle.cds_markup.specs.declared.values.ValuePiece.{ValuePiece}
use Rattle.cds_markup.specs.declared.values.ValuePiece.TheVariants.{Literal, Referred}
use Rattle.cds_base.specs.Characters.{is_blank, begins_name, is_in_name}
use Rattle.cds_base.specs.Reference.{IsReference}
use Rattle.cds_markup.specs.Form.{Word, Byte, Character, Then, Says, Many, Maybe, Raw}

-- White space that may be missing, and white space that has at least one character. They say nothing.
abbrev pub IsBlanks : List ℕ → Unit {0} → Type 0
IsBlanks = Then (Many (Byte is_blank)) (λ blanks. Says tt)

abbrev pub IsSpace : List ℕ → Unit {0} → Type 0
IsSpace = Then (Byte is_blank) (λ first. IsBlanks)

-- An equals sign, with white space around it.
abbrev pub IsEquals : List ℕ → Unit {0} → Type 0
IsEquals = Then IsBlanks (λ before. Then (Word (codes "=")) (λ sign. IsBlanks))

-- A name. It says its bytes.
abbrev pub IsName : List ℕ → List ℕ → Type 0
IsName = Raw (Then (Character begins_name) (λ first. Many (Character is_in_name)))

-- A name, or two with a colon between them: the prefix and the local name.
abbrev pub qualified : List ℕ → Option (List ℕ) → QName
qualified first None = record { prefix = []; local = first }
qualified first (Some second) = record { prefix = first; local = second }

abbrev pub IsQName : List ℕ → QName → Type 0
IsQName =
    Then IsName (λ first.
    Then (Maybe (Then (Word (codes ":")) (λ colon. IsName))) (λ second. Says (qualified first second)))

-- How a qualified name is written.
abbrev pub written_name : List ℕ → List ℕ → List ℕ
written_name [] local = local
written_name (first ∷ rest) local = (first ∷ rest) ++ codes ":" ++ local

abbrev pub name_bytes : QName → List ℕ
name_bytes q = written_name q.prefix q.local

-- A piece of an attribute's value: a character that stands there itself, or one that is referred to. The first kind leaves out
-- the quote that ends the value, `<` and `&`.
abbrev pub is_in_value : ℕ → ℕ → Bool
is_in_value quote c = not (c == quote) && (not (c == 60) && not (c == 38))

abbrev pub IsValuePiece : ℕ → List ℕ → ValuePiece → Type 0
IsValuePiece quote bytes (Literal c) = Character (is_in_value quote) bytes c
IsValuePiece quote bytes (Referred c) = IsReference bytes c

abbrev pub is_quote : ℕ → Bool
is_quote b = b == 34 || b == 39

-- What a piece of a value says. White space that stands there itself says a space.
abbrev pub piece_says : ValuePiece → List ℕ
piece_says (Literal c) = if is_blank c then (32 ∷ []) else encode_utf8 c
piece_says (Referred c) = encode_utf8 c

-- A literal carriage return with a literal line feed right after it.
abbrev pub is_line_end : ValuePiece → ValuePiece → Bool
is_line_end (Literal c) (Literal d) = c == 13 && d == 10
is_line_end first second = false

-- The pieces with only the first piece of each such line end.
abbrev pub and_behind : ValuePiece → List ValuePiece → List ValuePiece
and_behind first [] = first ∷ []
and_behind first (second ∷ rest) = if is_line_end first second then first ∷ rest else first ∷ second ∷ rest

abbrev pub with_line_ends : List ValuePiece → List ValuePiece
with_line_ends [] = []
with_line_ends (piece ∷ more) = and_behind piece (with_line_ends more)

-- What a value says (XML 1.0 on line ends and on the normalization of attribute values).
abbrev pub value_says : List ValuePiece → List ℕ
value_says pieces = flat_map piece_says (with_line_ends pieces)

-- What stands between the quotes of a value, and the value with them.
abbrev pub IsInside : ℕ → List ℕ → List ℕ → Type 0
IsInside quote = Then (Many (IsValuePiece quote)) (λ pieces. Says (value_says pieces))

abbrev pub IsValue : List ℕ → List ℕ → Type 0
IsValue =
    Then (Byte is_quote) (λ quote.
    Then (IsInside quote) (λ text. Then (Byte (λ b. b == quote)) (λ same. Says text)))

abbrev pub IsTagAttr : List ℕ → TagAttr → Type 0
IsTagAttr =
    Then IsQName (λ name.
    Then IsEquals (λ sign.
    Then IsValue (λ value. Says (record { name = name; value = value }))))

-- What stands in a tag between its `<` and the `/` or `>` that ends it.
abbrev pub IsTag : List ℕ → Tag → Type 0
IsTag =
    Then IsQName (λ name.
    Then (Many (Then IsSpace (λ space. IsTagAttr))) (λ attrs.
    Then IsBlanks (λ blanks. Says (record { name = name; attrs = attrs }))))

-- Whether this word, which is not empty, stands anywhere in the bytes.
abbrev pub contains : List ℕ → List ℕ → Bool
contains word [] = false
contains word (b ∷ rest) = starts_with (λ x y. x == y) (b ∷ rest) word || contains word rest

abbrev pub is_any : ℕ → Bool
is_any c = true

-- Allowed characters that pass a test, among which the word does not stand. They say their bytes.
pub record Without (word : List ℕ) (test : ℕ → Bool) (bytes text : List ℕ) : Type 0 where
  pub says : text ≡ bytes
  pub characters : List ℕ
  pub each : Many (Character test) bytes characters
  pub none : contains word bytes ≡ false

abbrev pub is_in_text : ℕ → Bool
is_in_text c = not (c == 60) && not (c == 38)

-- A literal text, which is not empty.
pub record IsText (bytes text : List ℕ) : Type 0 where
  pub characters : Without (codes "]]>") is_in_text bytes text
  pub some : text ≢ []

-- A CDATA section. It says what stands in it.
abbrev pub IsSection : List ℕ → List ℕ → Type 0
IsSection =
    Then (Word (codes "<![CDATA[")) (λ opening.
    Then (Without (codes "]]>") is_any) (λ text. Then (Word (codes "]]>")) (λ closing. Says text)))

abbrev pub IsComment : List ℕ → Unit {0} → Type 0
IsComment =
    Then (Word (codes "<!--")) (λ opening. Then (Without (codes "--") is_any) (λ text. Word (codes "-->")))

-- What stands between tags.
pub data Leaf : Type 0 where
  Text : List ℕ → Leaf
  Reference : ℕ → Leaf
  Section : List ℕ → Leaf
  Comment : Leaf

abbrev pub IsLeaf : List ℕ → Leaf → Type 0
IsLeaf bytes (Text text) = IsText bytes text
IsLeaf bytes (Reference c) = IsReference bytes c
IsLeaf bytes (Section text) = IsSection bytes text
IsLeaf bytes Comment = IsComment bytes tt

-- An element as it is written, and the content of one: leaves and elements in order.
mutual
  pub data Tree : Type 0 where
    EmptyElement : Tag → Tree
    Full : Tag → Content → Tree

  pub data Content : Type 0 where
    Nothing : Content
    LeafThen : Leaf → Content → Content
    TreeThen : Tree → Content → Content

-- Two literal texts never stand side by side, since they would be one.
abbrev pub is_text : Leaf → Bool
is_text (Text text) = true
is_text other = false

abbrev pub begins_with_text : Content → Bool
begins_with_text (LeafThen leaf more) = is_text leaf
begins_with_text other = false

-- The tags of an element. White space may stand before the `>` of an end tag.
abbrev pub IsEmptyTag : List ℕ → Tag → Type 0
IsEmptyTag = Then (Word (codes "<")) (λ opening. Then IsTag (λ t. Then (Word (codes "/>")) (λ closing. Says t)))

abbrev pub IsStartTag : List ℕ → Tag → Type 0
IsStartTag = Then (Word (codes "<")) (λ opening. Then IsTag (λ t. Then (Word (codes ">")) (λ closing. Says t)))

abbrev pub IsEndTag : QName → List ℕ → Unit {0} → Type 0
IsEndTag name =
    Then (Word (codes "</")) (λ opening.
    Then (Word (name_bytes name)) (λ same. Then IsBlanks (λ blanks. Word (codes ">"))))

abbrev mutual
  pub IsTree : Tree → List ℕ → Type 0
  IsTree (EmptyElement t) bytes = IsEmptyTag bytes t
  IsTree (Full t content) bytes =
      (start : List ℕ) × (inside : List ℕ) × (end : List ℕ) × (bytes ≡ start ++ (inside ++ end))
      × IsStartTag start t × IsContent content inside × IsEndTag t.name end tt

  pub IsContent : Content → List ℕ → Type 0
  IsContent Nothing bytes = bytes ≡ []
  IsContent (LeafThen leaf more) bytes =
      (front : List ℕ) × (back : List ℕ) × (bytes ≡ front ++ back)
      × IsLeaf front leaf × IsContent more back × (is_text leaf && begins_with_text more ≡ false)
  IsContent (TreeThen tree more) bytes =
      (front : List ℕ) × (back : List ℕ) × (bytes ≡ front ++ back) × IsTree tree front × IsContent more back

-- White space and comments.
pub data MiscPiece : Type 0 where
  Blank : MiscPiece
  MiscComment : MiscPiece

abbrev pub IsMiscPiece : List ℕ → MiscPiece → Type 0
IsMiscPiece bytes Blank = (b : ℕ) × Byte is_blank bytes b
IsMiscPiece bytes MiscComment = IsComment bytes tt

abbrev pub IsMisc : List ℕ → Unit {0} → Type 0
IsMisc = Then (Many IsMiscPiece) (λ pieces. Says tt)

-- An ASCII letter comes in lower case.
abbrev pub lower_case : ℕ → ℕ
lower_case b = if nat_le 65 b && nat_le b 90 then b + 32 else b

-- A word in any case of its ASCII letters. The word itself is in lower case.
abbrev pub AnyCase : List ℕ → List ℕ → Unit {0} → Type 0
AnyCase word bytes said = map lower_case bytes ≡ word

-- A form in one of the two quotes.
abbrev pub IsQuoted : (List ℕ → Unit {0} → Type 0) → List ℕ → Unit {0} → Type 0
IsQuoted G = Then (Byte is_quote) (λ quote. Then G (λ inside. Then (Byte (λ b. b == quote)) (λ same. Says tt)))

-- A part of the declaration: a word, an equals sign and what is quoted after it.
abbrev pub IsPseudoAttr : List ℕ → (List ℕ → Unit {0} → Type 0) → List ℕ → Unit {0} → Type 0
IsPseudoAttr word G = Then IsSpace (λ space. Then (Word word) (λ name. Then IsEquals (λ sign. IsQuoted G)))

abbrev pub IsYesOrNo : List ℕ → Unit {0} → Type 0
IsYesOrNo bytes said = (bytes ≡ codes "yes") ⊎ (bytes ≡ codes "no")

-- The declaration: the version, then perhaps the encoding, then perhaps whether the document stands alone.
abbrev pub IsDeclaration : List ℕ → Unit {0} → Type 0
IsDeclaration =
    Then (Word (codes "<?xml")) (λ opening.
    Then (IsPseudoAttr (codes "version") (Word (codes "1.0"))) (λ version.
    Then (Maybe (IsPseudoAttr (codes "encoding") (AnyCase (codes "utf-8")))) (λ encoding.
    Then (Maybe (IsPseudoAttr (codes "standalone") IsYesOrNo)) (λ standalone.
    Then IsBlanks (λ blanks. Word (codes "?>"))))))

-- What stands before the root: a byte order mark, a declaration, white space and comments. Each of them may be missing.
abbrev pub byte_order_mark : List ℕ
byte_order_mark = 239 ∷ 187 ∷ 191 ∷ []

abbrev pub IsProlog : List ℕ → Unit {0} → Type 0
IsProlog = Then (Maybe (Word byte_order_mark)) (λ mark. Then (Maybe IsDeclaration) (λ declaration. IsMisc))

-- A document by the grammar alone.
pub record IsDocument (bytes : List ℕ) (root : Tree) : Type 0 where
  pub prolog : List ℕ
  pub element : List ℕ
  pub epilog : List ℕ
  pub spelled : bytes ≡ prolog ++ (element ++ epilog)
  pub is_prolog : IsProlog prolog tt
  pub is_element : IsTree root element
  pub is_epilog : IsMisc epilog tt
