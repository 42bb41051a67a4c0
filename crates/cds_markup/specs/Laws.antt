-- What holds of the words about documents, whichever way they are read.
use Rattle.std.specs.Prelude.{◌≡◌, ◌≢◌, ◌⊎◌, ⊤, ℕ, ◌<◌, ◌≤◌, false, Result, Ok, Err, List, [], ◌∷◌, ◌++◌, length}
use Rattle.cds_base.specs.declared.limits.TheConstants.{INPUT_LIMIT}
use Rattle.cds_markup.specs.declared.error.MarkupError.{MarkupError}
use Rattle.cds_markup.specs.declared.error.MarkupError.TheVariants.{Mem}
use Rattle.cds_markup.specs.declared.part.Part.{Part}
use Rattle.cds_markup.specs.declared.tag.Tag.{Tag}
use Rattle.cds_markup.specs.Grammar.{Leaf, Tree, is_text}
use Rattle.cds_markup.specs.Document.{Meaning, DocOf, Doc}
use Rattle.cds_markup.specs.Refusal.{CanGoOn, BreaksAt, TagEnds, LeafEnds, TextByte, IsRefused}
use Rattle.cds_markup.specs.Answer.{answer_to, parts_in}
use Rattle.cds_markup.specs.Parts.{leaf_parts, OpensParts, DocumentParts, Says}
use Rattle.cds_markup.specs.GivenParts.{ends_with_text, RootEnds, SlashEnds, PartsTo, Given, Tells}
use Rattle.cds_markup.specs.PartsFound.{Clear, Stands, TagGiven, PartsGiven, TextGiven}
use Rattle.cds_markup.specs.Building.{built, nothing_yet, built_as}

-- What reading any bytes answers is what the grammar says of them. It is an element exactly if they are a document. It is a
-- refusal exactly if they are refused so. Bytes are a document of at most one element, which their parts say.
pub record ReadAs (bytes : List ℕ) : Type 0 where
  pub whole : (element : Meaning) → Doc bytes element → (answer_to bytes ≡ Ok tt) × Says (parts_in bytes) element
  pub document : answer_to bytes ≡ Ok tt → (element : Meaning) × Doc bytes element
  pub refused : (r : MarkupError) → IsRefused bytes r → r ≢ Mem → answer_to bytes ≡ Err r
  pub refusal : (r : MarkupError) → answer_to bytes ≡ Err r → IsRefused bytes r

abbrev pub DocumentsAreRead : Type 0
DocumentsAreRead = (bytes : List ℕ) → ReadAs bytes

-- A document is of one element.
abbrev pub OneElement : Type 0
OneElement = (bytes : List ℕ) (one other : Meaning) → Doc bytes one → Doc bytes other → one ≡ other

-- There is an answer to all bytes: they are a document, or they are refused.
abbrev pub AllAreAnswered : Type 0
AllAreAnswered = (bytes : List ℕ) → ((element : Meaning) × Doc bytes element) ⊎ ((r : MarkupError) × IsRefused bytes r × (r ≢ Mem))

-- Bytes are a document, or they are refused in one way, and not both.
abbrev pub OneAnswer : Type 0
OneAnswer =
    (bytes : List ℕ) (r : MarkupError) → IsRefused bytes r → r ≢ Mem
    → ((element : Meaning) → Doc bytes element → ⊥) × ((other : MarkupError) → IsRefused bytes other → other ≢ Mem → other ≡ r)

-- The parts that reading any bytes gives are their parts.
abbrev pub PartsAreGiven : Type 0
PartsAreGiven = (bytes : List ℕ) → Given bytes (parts_in bytes)

-- The parts up to a place are the parts of the bytes before it, whatever stands there.
abbrev pub PartsStandBefore : Type 0
PartsStandBefore = (front : List ℕ) (parts : List Part) → length front ≤ INPUT_LIMIT → PartsTo front parts → Given front parts

-- Each part stands in the bytes. Among the parts is each start tag, reference, section and text that is found while nothing
-- refuses the bytes.
pub record AreFound (bytes : List ℕ) (parts : List Part) : Type 0 where
  pub each : (earlier later : List Part) (part : Part) → parts ≡ earlier ++ part ∷ later → Stands bytes earlier part
  pub starts : (tags : List Tag) (begin at : ℕ) (tag : Tag) → (found : TagEnds bytes tags begin at tag) → Clear bytes at
      → TagGiven bytes parts tags begin at tag found.before
  pub leaves : (tags : List Tag) (begin at : ℕ) (leaf : Leaf) → (found : LeafEnds bytes tags begin at leaf) → is_text leaf ≡ false
      → Clear bytes at → PartsGiven parts (leaf_parts begin leaf) tags found.before
  pub texts : (tags : List Tag) (at byte : ℕ) → TextByte bytes tags at byte → Clear bytes at → TextGiven bytes parts tags at

abbrev pub PartsAreFound : Type 0
PartsAreFound = (bytes : List ℕ) (parts : List Part) → Given bytes parts → AreFound bytes parts

-- Take the parts up to a place at which no literal text ends. They begin the parts of all bytes that begin so.
abbrev pub EndsNoText : (tags : List Tag) (front : List ℕ) (parts : List Part) → OpensParts tags front parts → Type 0
EndsNoText [] front parts opens = ⊤
EndsNoText (t ∷ outer) front parts opens = ends_with_text opens.6 ≡ false

abbrev pub PartsBegin : Type 0
PartsBegin =
    (front rest : List ℕ) (tags : List Tag) (earlier parts : List Part) → length front ≤ INPUT_LIMIT → Given (front ++ rest) parts
    → ((opens : OpensParts tags front earlier) × EndsNoText tags front earlier opens) ⊎ (RootEnds front earlier ⊎ SlashEnds front earlier)
    → (later : List Part) × (parts ≡ earlier ++ later)

-- A reference or a section that begins at a place ends at one place.
abbrev pub LeavesHaveOneEnd : Type 0
LeavesHaveOneEnd =
    (bytes : List ℕ) (tags others : List Tag) (begin at end : ℕ) (leaf other : Leaf) → LeafEnds bytes tags begin at leaf → is_text leaf ≡ false
    → LeafEnds bytes others begin end other → is_text other ≡ false → end ≡ at

-- Whichever root the bytes of a document are, its parts are those of that root.
abbrev pub PartsAreOfRoots : Type 0
PartsAreOfRoots =
    (bytes : List ℕ) (root : Tree) (element : Meaning) → DocOf bytes root element → (d : DocumentParts bytes (parts_in bytes)) × (d.root ≡ root)

-- The parts of bytes are one list. The bytes alone tell what stands at its place by the grammar.
abbrev pub PartsAreOne : Type 0
PartsAreOne = (bytes : List ℕ) (one other : List Part) → Given bytes one → Given bytes other → one ≡ other

-- What is built of a document's parts is its element.
abbrev pub PartsAreBuilt : Type 0
PartsAreBuilt = (bytes : List ℕ) (element : Meaning) → Doc bytes element → built nothing_yet (parts_in bytes) ≡ built_as element

-- The parts that reading a document gives are its parts, each at its place.
abbrev pub PartsAreTold : Type 0
PartsAreTold = (bytes : List ℕ) (element : Meaning) → Doc bytes element → DocumentParts bytes (parts_in bytes)

-- What is told of bytes is one answer and one list of parts, unless memory ran out.
abbrev pub OneTelling : Type 0
OneTelling =
    (bytes : List ℕ) (result : Result (Unit {0}) MarkupError) (parts : List Part) → Tells bytes result [] parts → result ≢ Err Mem
    → (result ≡ answer_to bytes) × (parts ≡ parts_in bytes)

-- What is told of all bytes is what they are answered and the parts that reading gives of them.
abbrev pub AllIsTold : Type 0
AllIsTold = (bytes : List ℕ) → Tells bytes (answer_to bytes) [] (parts_in bytes)

-- By the grammar alone, whatever the depth and the rules of start tags, one of two holds. A document goes on from the bytes, or
-- there is a first byte with which none does.
abbrev pub GoOnOrBreak : Type 0
GoOnOrBreak = (bytes : List ℕ) → CanGoOn bytes ⊎ ((at : ℕ) × BreaksAt bytes at)

-- If there are more bytes than may be, what comes after them changes nothing.
abbrev pub NothingCountsPastTheLimit : Type 0
NothingCountsPastTheLimit =
    (bytes more : List ℕ) → INPUT_LIMIT < length bytes → (answer_to (bytes ++ more) ≡ answer_to bytes) × (parts_in (bytes ++ more) ≡ parts_in bytes)
