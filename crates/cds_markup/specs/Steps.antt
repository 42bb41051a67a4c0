-- What a method of a machine answers beside the step of the definitions, with the state that it leaves. `Mem` says nothing.
use Rattle.std.specs.Prelude.{◌≡◌, ◌==◌, ℕ, ◌+◌, ◌≤◌, Bool, true, false, Option, Some, None, Result, Ok, Err, List, [], ◌∷◌, take, drop, length, ⊤}
use Rattle.cds_base.specs.declared.mem.Mem.{Mem as CommonMem}
use Rattle.cds_markup.specs.declared.mode.AttributeState.{AttributeState}
use Rattle.cds_markup.specs.declared.mode.AttributeState.TheVariants.{Value}
use Rattle.cds_markup.specs.declared.tag.QName.{QName}
use Rattle.cds_markup.specs.declared.tag.Tag.{Tag}
use Rattle.cds_markup.specs.declared.mode.StartTagState.{StartTagState}
use Rattle.cds_markup.specs.declared.mode.StartTagState.TheVariants.{Opened, Attribute}
use Rattle.cds_markup.specs.Names.{name_begun}
use Rattle.cds_markup.specs.declared.mode.NameState.{NameState}
use Rattle.cds_markup.specs.declared.mode.NameStep.{NameStep}
use Rattle.cds_markup.specs.declared.mode.NameStep.TheVariants.{Goes, Ends, Breaks}
use Rattle.cds_markup.specs.declared.mode.ReferenceState.{ReferenceState}
use Rattle.cds_markup.specs.declared.mode.ReferenceState.TheVariants.{Entity}
use Rattle.cds_markup.specs.declared.utf8.Decoded.{Decoded}
use Rattle.cds_markup.specs.declared.utf8.Decoded.TheVariants.{Whole, More, Broken as NoCharacter}
use Rattle.cds_markup.specs.declared.error.MachineError.{MachineError}
use Rattle.cds_markup.specs.declared.error.MachineError.TheVariants.{Broken, Mem}
use Rattle.cds_markup.specs.declared.mode.RootState.{RootState}
use Rattle.cds_markup.specs.declared.mode.RootState.TheVariants.{Bang, Dash, Comment, Cdata, Section, Reference, StartTag}
use Rattle.cds_markup.specs.declared.tag.Open.{Open}
use Rattle.cds_markup.specs.declared.mode.Stage.{Stage}
use Rattle.cds_markup.specs.declared.mode.Stage.TheVariants.{Version, Standalone, Closing}
use Rattle.cds_markup.specs.declared.mode.DeclarationState.{DeclarationState}
use Rattle.cds_markup.specs.declared.mode.DeclarationState.TheVariants.{Xml, Gap, PartName, PartEquals, PartValue, YesOrNo, BehindPart, Question}
use Rattle.cds_markup.specs.declared.mode.Mode.{Mode}
use Rattle.cds_markup.specs.declared.mode.Mode.TheVariants.{Inside}
use Rattle.cds_markup.specs.XmlDeclaration.{is_letter}
use Rattle.cds_markup.specs.Utf8.{Step}
use Rattle.cds_markup.specs.Wholes.{Move, Nowhere, To}
use Rattle.cds_markup.specs.Next.{Next, Stuck, On, Done}
use Rattle.cds_markup.specs.Tags.{step_tag}
use Rattle.cds_markup.specs.Root.{Token, Started, Ended, Given, given, opened, begins_with}

abbrev pub Agrees : {M A : Type 0} → Next M A → Result (Option A) MachineError → M → Type 0
Agrees next (Err Mem) now = ⊤
Agrees Stuck (Err Broken) now = ⊤
Agrees (On m) (Ok None) now = now ≡ m
Agrees (Done a) (Ok (Some b)) now = b ≡ a
Agrees next result now = ⊥

-- Whether a character is the next byte of a word, and whether the word is over.
abbrev pub is_next : ℕ → List ℕ → Bool
is_next c [] = false
is_next c (b ∷ left) = c == b

abbrev pub is_over : List ℕ → Bool
is_over [] = true
is_over (b ∷ left) = false

-- What an entity stands for.
abbrev pub entity_code : ReferenceState → ℕ
entity_code (Entity left code) = code
entity_code other = 0

-- What a name answers to a character: that the character goes on with it, or that it does not belong to it.
abbrev pub GoesSo : Option NameState → Result Bool CommonMem → NameState → NameState → Type 0
GoesSo next (Err e) before now = ⊤
GoesSo (Some n) (Ok true) before now = now ≡ n
GoesSo None (Ok false) before now = now ≡ before
GoesSo next result before now = ⊥

-- The name of an attribute whose value is read.
abbrev pub attr_name : AttributeState → QName
attr_name (Value q v) = q
attr_name other = record { prefix = []; local = [] }

-- The same for a name that may end there.
abbrev pub NamedSo : Option NameState → Bool → QName → Result NameStep CommonMem → NameState → Type 0
NamedSo next whole q (Err e) now = ⊤
NamedSo (Some n) whole q (Ok Goes) now = now ≡ n
NamedSo None true q (Ok (Ends p)) now = p ≡ q
NamedSo None false q (Ok Breaks) now = Unit {0}
NamedSo next whole q result now = ⊥

-- The tag in which an attribute is read.
abbrev pub tag_open : StartTagState → Tag
tag_open (Attribute tag m) = tag
tag_open other = record { name = record { prefix = []; local = [] }; attrs = [] }

-- A name that begins.
abbrev pub IsBegun : ℕ → Result NameState CommonMem → Type 0
IsBegun c (Ok n) = n ≡ name_begun c
IsBegun c (Err e) = ⊤

-- Whether bytes stand at a place of a name, and the place after them.
abbrev pub StandsSo : List ℕ → ℕ → List ℕ → Option ℕ → Type 0
StandsSo name at bytes None = begins_with (drop at name) bytes ≡ false
StandsSo name at bytes (Some behind) = (begins_with (drop at name) bytes ≡ true) × (behind ≡ at + length bytes)

-- The place after the first bytes that stand at a place of a name.
pub record StandsUpTo (name : List ℕ) (at : ℕ) (bytes : List ℕ) (place : ℕ) : Type 0 where
  pub count : ℕ
  pub within : count ≤ length bytes
  pub stands : StandsSo name at (take count bytes) (Some place)

-- A tag that begins with a character.
abbrev pub BeginsTag : ℕ → Result StartTagState MachineError → Type 0
BeginsTag c (Ok t) = step_tag Opened c ≡ On t
BeginsTag c (Err Broken) = step_tag Opened c ≡ Stuck
BeginsTag c (Err Mem) = ⊤
BeginsTag c result = ⊥

-- The elements that are open after a token.
abbrev pub opens_after : Token → List Open → List Open
opens_after (Started tag) opens = opened tag ∷ opens
opens_after Ended opens = drop 1 opens
opens_after other opens = opens

-- What a token inside an element is answered as.
abbrev pub RootSo : List Open → Next RootState Given → Result (Option Token) MachineError → RootState → Type 0
RootSo opens next (Err Mem) now = ⊤
RootSo opens Stuck (Err Broken) now = ⊤
RootSo opens (On root_state) (Ok None) now = now ≡ root_state
RootSo opens (Done g) (Ok (Some t)) now = g ≡ given t (opens_after t opens) now
RootSo opens next result now = ⊥

-- Whether it is in a start tag, and whether in a comment, a section or a reference.
abbrev pub is_start_tag : RootState → Bool
is_start_tag (StartTag start_tag_state) = true
is_start_tag other = false

abbrev pub is_seldom : RootState → Bool
is_seldom Bang = true
is_seldom Dash = true
is_seldom (Comment dashes) = true
is_seldom (Cdata left) = true
is_seldom (Section brackets text) = true
is_seldom (Reference r) = true
is_seldom other = false

-- The next letter of a part's value in the declaration.
abbrev pub is_next_letter : Stage → List ℕ → ℕ → Bool
is_next_letter stage [] c = false
is_next_letter stage (b ∷ left) c = is_letter stage b c

-- The part of the declaration that a state is in, or that may come next, and the quote of its value.
abbrev pub stage_of : DeclarationState → Stage
stage_of (Xml left) = Version
stage_of (Gap stage) = stage
stage_of (PartName stage left) = stage
stage_of (PartEquals stage) = stage
stage_of (PartValue stage quote left) = stage
stage_of (YesOrNo quote) = Standalone
stage_of (BehindPart stage) = stage
stage_of Question = Closing

abbrev pub quote_in : DeclarationState → ℕ
quote_in (PartValue stage quote left) = quote
quote_in other = 0

-- What a character of a document is answered as.
abbrev pub MovesSo : List Open → Move → Result (Option Token) MachineError → Mode → Type 0
MovesSo opens move (Err Mem) now = ⊤
MovesSo opens move (Err Broken) now = move ≡ Nowhere
MovesSo opens move (Ok None) now = move ≡ To now opens []
MovesSo opens move (Ok (Some t)) now = move ≡ To now (opens_after t opens) (t ∷ [])
MovesSo opens move result now = ⊥

-- Whether a document is outside its root, and whether no element is open after what a character completes.
abbrev pub is_outside : Mode → Bool
is_outside (Inside root_state) = false
is_outside other = true

abbrev pub is_last : Result (Option Token) MachineError → List Open → Bool
is_last (Ok (Some token)) opens = length (opens_after token opens) == 0
is_last other opens = false

-- What bytes that begin with something are answered as, and what is left of them.
abbrev pub ReadSo : {A : Type 0} → Step A → Option A → List ℕ → Type 0
ReadSo (Ok found) (Some value) left = (value ≡ found.0) × (left ≡ found.1)
ReadSo (Err rest) None left = left ≡ rest
ReadSo step result left = ⊥

abbrev pub DecodesSo : Step ℕ → Decoded → Type 0
DecodesSo (Ok found) (Whole c) = c ≡ found.0
DecodesSo (Err []) More = Unit {0}
DecodesSo (Err (b ∷ rest)) NoCharacter = Unit {0}
DecodesSo step result = ⊥
