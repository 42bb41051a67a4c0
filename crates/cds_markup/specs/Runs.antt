-- Runs: the first bytes that go on with what is open, one like the other, and complete nothing. A run is passed over at once. An
-- answer that memory ran out says nothing.
use Rattle.std.specs.Prelude.{◌≡◌, ◌≤◌, ◌==◌, ◌⊎◌, ℕ, ◌+◌, ◌-◌, nat_lt, Bool, true, false, not, ◌&&◌, ◌||◌, if◌then◌else◌, Option, Some, None, IfOk, Result, Ok, Err, List, [], ◌∷◌, ◌++◌, length, take, drop, take_while, ⊤}
use Rattle.std.specs.List.{list_all}
use Rattle.cds_base.specs.declared.limits.TheConstants.{INPUT_LIMIT}
use Rattle.cds_base.specs.declared.mem.Mem.{Mem}
use Rattle.cds_base.specs.Characters.{begins_name, is_in_name}
use Rattle.cds_base.specs.Runs.{stands_for_itself}
use Rattle.cds_markup.specs.declared.marks.Marks.{Marks}
use Rattle.cds_markup.specs.declared.marks.OpenText.{OpenText}
use Rattle.cds_markup.specs.declared.mode.NameState.{NameState}
use Rattle.cds_markup.specs.declared.mode.ValueState.{ValueState}
use Rattle.cds_markup.specs.declared.mode.AttributeState.{AttributeState}
use Rattle.cds_markup.specs.declared.mode.AttributeState.TheVariants.{AttrName, Value}
use Rattle.cds_markup.specs.declared.mode.StartTagState.{StartTagState}
use Rattle.cds_markup.specs.declared.mode.StartTagState.TheVariants.{Name, Tagged, Spaced, Attribute}
use Rattle.cds_markup.specs.declared.mode.Misc.{Misc}
use Rattle.cds_markup.specs.declared.mode.Misc.TheVariants.{MiscComment}
use Rattle.cds_markup.specs.declared.mode.RootState.{RootState}
use Rattle.cds_markup.specs.declared.mode.RootState.TheVariants.{Content, Less, Comment, Section, StartTag, EndTag}
use Rattle.cds_markup.specs.declared.mode.Mode.{Mode}
use Rattle.cds_markup.specs.declared.mode.Mode.TheVariants.{Prolog, Inside, Epilog}
use Rattle.cds_markup.specs.declared.plain.Plain.{Plain}
use Rattle.cds_markup.specs.declared.plain.Plain.TheVariants.{Letters, InName, Written, Blanks}
use Rattle.cds_markup.specs.declared.tag.Tag.{Tag}
use Rattle.cds_markup.specs.declared.tag.TagAttr.{TagAttr}
use Rattle.cds_markup.specs.declared.tag.Open.{Open}
use Rattle.cds_markup.specs.Grammar.{written_name, name_bytes}
use Rattle.cds_markup.specs.Document.{most_open}
use Rattle.cds_markup.specs.Names.{name_state, name_of}
use Rattle.cds_markup.specs.Namespaces.{is_empty}
use Rattle.cds_markup.specs.Tags.{tag_named, with_attr}
use Rattle.cds_markup.specs.Steps.{StandsSo}
use Rattle.cds_markup.specs.Values.{value_state}
use Rattle.cds_markup.specs.Bytes.{Reading, is_none, begins_tag}
use Rattle.cds_markup.specs.Tellings.{Telling, telling, told}

-- What a run is of:
-- - letters that stand for themselves wherever letters stand;
-- - bytes that go on with any name;
-- - such bytes and colons;
-- - white space without carriage returns.
abbrev pub is_plain_in_name : ℕ → Bool
is_plain_in_name b = nat_lt b 128 && is_in_name b

abbrev pub is_written : ℕ → Bool
is_written b = is_plain_in_name b || b == 58

abbrev pub is_line_blank : ℕ → Bool
is_line_blank b = (b == 32 || b == 9) || b == 10

abbrev pub is_plain : Plain → ℕ → Bool
is_plain Letters = stands_for_itself
is_plain InName = is_plain_in_name
is_plain Written = is_written
is_plain Blanks = is_line_blank

-- While a literal text is white space, only white space is passed over. Its first other character has its place.
abbrev pub in_text : Option ℕ → Plain
in_text None = Blanks
in_text (Some place) = Letters

-- The first bytes that pass the test are passed over, or none if none may be. They are added to a text or dropped.
abbrev pub Passes : Bool → (ℕ → Bool) → List ℕ → ℕ → Type 0
Passes true test bytes n = n ≡ length (take_while test bytes)
Passes false test bytes n = n ≡ 0

abbrev pub Collects : Bool → (ℕ → Bool) → List ℕ → List ℕ → Result ℕ Mem → List ℕ → Type 0
Collects going test text bytes (Err e) now = ⊤
Collects true test text bytes (Ok n) now = (n ≡ length (take_while test bytes)) × (now ≡ text ++ take_while test bytes)
Collects false test text bytes (Ok n) now = (n ≡ 0) × (now ≡ text)

-- What passing over a run makes of each state. A value goes on if no reference is open and no carriage return stands right
-- before. A comment goes on if no dash does, and a section if no bracket does.
abbrev pub takes_letters : ValueState → Bool
takes_letters v = not v.behind_return && is_none v.reference

abbrev pub ValueRuns : ValueState → List ℕ → Result ℕ Mem → ValueState → Type 0
ValueRuns v bytes result now =
    (now ≡ value_state v.double now.text v.behind_return v.reference) × Collects (takes_letters v) (is_plain Letters) v.text bytes result now.text

abbrev pub AttrRuns : AttributeState → List ℕ → Result ℕ Mem → AttributeState → Type 0
AttrRuns (Value q v) bytes result (Value p u) = (p ≡ q) × ValueRuns v bytes result u
AttrRuns a bytes result now = (result ≡ Ok 0) × (now ≡ a)

-- A whole start tag is passed over in steps. The first is its name in ASCII, with white space right after it. Then comes each
-- attribute with such a name and a value in double quotes, all of whose letters stand for themselves. Of any other attribute it
-- is the name.
abbrev pub begins_plain_name : ℕ → Bool
begins_plain_name b = nat_lt b 128 && begins_name b

abbrev pub is_plain_name : List ℕ → Bool
is_plain_name [] = false
is_plain_name (b ∷ more) = begins_plain_name b && list_all is_plain_in_name more

abbrev pub is_plain_qname : List ℕ → List ℕ → Bool
is_plain_qname [] local = is_plain_name local
is_plain_qname (b ∷ more) local = is_plain_name (b ∷ more) && is_plain_name local

abbrev pub begins_blank : List ℕ → Bool
begins_blank [] = false
begins_blank (b ∷ more) = is_line_blank b

abbrev pub PartAt : List ℕ → List ℕ → List ℕ → Type 0
PartAt name rest bytes = (is_plain_name name ≡ true) × (bytes ≡ name ++ rest)

abbrev pub NameAt : List ℕ → List ℕ → List ℕ → List ℕ → Type 0
NameAt prefix local rest bytes = (is_plain_qname prefix local ≡ true) × (bytes ≡ written_name prefix local ++ rest)

abbrev pub ValueAt : List ℕ → List ℕ → List ℕ → Type 0
ValueAt value rest bytes = (list_all stands_for_itself value ≡ true) × (bytes ≡ 34 ∷ (value ++ 34 ∷ rest))

abbrev pub attr_with : List ℕ → List ℕ → List ℕ → List ℕ → List ℕ
attr_with prefix local value rest = written_name prefix local ++ 61 ∷ (34 ∷ (value ++ 34 ∷ rest))

abbrev pub AttrAt : List ℕ → List ℕ → List ℕ → List ℕ → List ℕ → Type 0
AttrAt prefix local value rest bytes =
    (is_plain_qname prefix local ≡ true) × (list_all stands_for_itself value ≡ true) × (bytes ≡ attr_with prefix local value rest)

abbrev pub plain_name_state : List ℕ → List ℕ → NameState
plain_name_state prefix local = if is_empty prefix then name_state local None else name_state prefix (Some local)

abbrev pub plain_attr : List ℕ → List ℕ → List ℕ → TagAttr
plain_attr prefix local value = record { name = name_of (plain_name_state prefix local); value = value }

pub record HasAttr (tag : Tag) (bytes : List ℕ) (n : ℕ) (now : Tag) : Type 0 where
  pub prefix : List ℕ
  pub local : List ℕ
  pub value : List ℕ
  pub rest : List ℕ
  pub at : AttrAt prefix local value rest bytes
  pub count : n ≡ length bytes - length rest
  pub adds : now ≡ with_attr tag (plain_attr prefix local value)

abbrev pub AddsAttr : Tag → List ℕ → Result (Option ℕ) Mem → Tag → Type 0
AddsAttr tag bytes (Err e) now = ⊤
AddsAttr tag bytes (Ok None) now = now ≡ tag
AddsAttr tag bytes (Ok (Some n)) now = HasAttr tag bytes n now

abbrev pub BeginsSo : List ℕ → List ℕ → List ℕ → ℕ → ℕ → StartTagState → Type 0
BeginsSo prefix local rest k n (Spaced now) = (begins_blank rest ≡ true) × (n ≡ k + 1) × (now ≡ tag_named (name_of (plain_name_state prefix local)))
BeginsSo prefix local rest k n (Name now) = (n ≡ k) × (now ≡ plain_name_state prefix local)
BeginsSo prefix local rest k n now = ⊥

pub record HasName (bytes : List ℕ) (n : ℕ) (now : StartTagState) : Type 0 where
  pub prefix : List ℕ
  pub local : List ℕ
  pub rest : List ℕ
  pub at : NameAt prefix local rest bytes
  pub begins : BeginsSo prefix local rest (length bytes - length rest) n now

abbrev pub SpacedRuns : Tag → List ℕ → Result ℕ Mem → StartTagState → Type 0
SpacedRuns tag bytes (Err e) now = ⊤
SpacedRuns tag bytes (Ok n) (Tagged now) = HasAttr tag bytes n now
SpacedRuns tag bytes (Ok n) (Attribute same (AttrName now)) = (same ≡ tag) × HasName bytes n (Name now)
SpacedRuns tag bytes (Ok n) (Spaced now) =
    ((n ≡ 0) × (now ≡ tag)) ⊎ ((k : ℕ) × (n ≡ k + 1) × HasAttr tag bytes k now × (begins_blank (drop k bytes) ≡ true))
SpacedRuns tag bytes (Ok n) now = ⊥

-- In an end tag, bytes are passed over that go on with the innermost element's name as it is written.
pub record HasEnd (opens : List Open) (k : ℕ) (bytes : List ℕ) (n : ℕ) (now : RootState) : Type 0 where
  pub innermost : Open
  pub outer : List Open
  pub is : opens ≡ innermost ∷ outer
  pub count : n ≤ length (take_while is_written bytes)
  pub place : ℕ
  pub stands : StandsSo (name_bytes innermost.name) k (take n bytes) (Some place)
  pub ends : now ≡ EndTag place

abbrev pub EndRuns : List Open → ℕ → List ℕ → ℕ → RootState → Type 0
EndRuns opens k bytes n now = ((n ≡ 0) × (now ≡ EndTag k)) ⊎ HasEnd opens k bytes n now

pub record HasSlash (opens : List Open) (bytes : List ℕ) (n : ℕ) (now : RootState) : Type 0 where
  pub text : List ℕ
  pub count : ℕ
  pub is : bytes ≡ 47 ∷ text
  pub adds : n ≡ count + 1
  pub some : (length opens == 0) ≡ false
  pub ends : EndRuns opens 0 text count now

abbrev pub LessRuns : List Open → List ℕ → Result ℕ Mem → RootState → Type 0
LessRuns opens bytes (Err e) now = ⊤
LessRuns opens bytes (Ok n) (StartTag now) = HasName bytes n now
LessRuns opens bytes (Ok n) (EndTag k) = HasSlash opens bytes n (EndTag k)
LessRuns opens bytes (Ok n) Less = n ≡ 0
LessRuns opens bytes (Ok n) now = ⊥

abbrev pub TagRuns : StartTagState → List ℕ → Result ℕ Mem → StartTagState → Type 0
TagRuns (Attribute tag a) bytes result (Attribute same b) = (same ≡ tag) × AttrRuns a bytes result b
TagRuns (Spaced tag) bytes result now = SpacedRuns tag bytes result now
TagRuns t bytes result now = (result ≡ Ok 0) × (now ≡ t)

abbrev pub RootRuns : List Open → RootState → List ℕ → Result ℕ Mem → RootState → Type 0
RootRuns opens (Comment k) bytes result (Comment j) = (j ≡ k) × IfOk result (Passes (k == 0) stands_for_itself bytes)
RootRuns opens (Section k text) bytes result (Section j now) = (j ≡ k) × Collects (k == 0) (is_plain Letters) text bytes result now
RootRuns opens (StartTag t) bytes result (StartTag u) = TagRuns t bytes result u
RootRuns opens Less bytes result now = LessRuns opens bytes result now
RootRuns opens (EndTag k) bytes result now = IfOk result (λ n. EndRuns opens k bytes n now)
RootRuns opens t bytes result now = (result ≡ Ok 0) × (now ≡ t)

abbrev pub MiscRuns : Misc → List ℕ → ℕ → Type 0
MiscRuns (MiscComment k) bytes n = Passes (k == 0) stands_for_itself bytes n
MiscRuns m bytes n = n ≡ 0

abbrev pub ModeRuns : List Open → Mode → List ℕ → Result ℕ Mem → Mode → Type 0
ModeRuns opens (Inside t) bytes result (Inside u) = RootRuns opens t bytes result u
ModeRuns opens (Prolog m) bytes result (Prolog k) = (k ≡ m) × IfOk result (MiscRuns m bytes)
ModeRuns opens (Epilog m) bytes result (Epilog k) = (k ≡ m) × IfOk result (MiscRuns m bytes)
ModeRuns opens m bytes result now = (result ≡ Ok 0) × (now ≡ m)

-- A literal text that goes on: no closing bracket stands right before. That an element is open is said in `takes_run`, and that
-- no carriage return stands right before in `TextRuns`.
abbrev pub is_plain_content : Mode → Bool
is_plain_content (Inside (Content brackets)) = brackets == 0
is_plain_content other = false

-- As many elements are open as may be, and a `<` came.
abbrev pub is_full : Reading → Bool
is_full r = length r.opens == most_open && begins_tag r.mode

abbrev pub takes_run : Reading → Bool
takes_run r = is_empty r.begun && (not (length r.opens == 0) && is_plain_content r.mode)

-- A text that begins with this byte, which is not added yet. The place of its first other character is that of the byte, unless
-- the byte is a space, a tab or a line feed.
abbrev pub text_before : ℕ → ℕ → OpenText
text_before at b = record { at = at; non_blank = if is_line_blank b then None else Some at; said = []; behind_return = false }

abbrev pub TextRuns : OpenText → List ℕ → Result ℕ Mem → OpenText → Type 0
TextRuns t bytes result now =
    (now ≡ record { at = t.at; non_blank = t.non_blank; said = now.said; behind_return = t.behind_return })
    × Collects (not t.behind_return) (is_plain (in_text t.non_blank)) t.said bytes result now.said

-- Bytes that complete nothing lead from one state to another, whatever is open and at any place.
abbrev pub QuietSo : Reading → List ℕ → Result ℕ Mem → Reading → Type 0
QuietSo r bytes (Err e) now = ⊤
QuietSo r bytes (Ok n) now =
    (n ≤ length bytes)
    × ((m : Marks) (at : ℕ) → at + length bytes ≤ INPUT_LIMIT → told (telling r m at) (take n bytes) ≡ Ok ([], telling now m (at + n)))

-- What passing over `n` bytes makes of what is told.
abbrev pub RunSo : Telling → List ℕ → Result ℕ Mem → Telling → Type 0
RunSo p bytes (Err e) now = ⊤
RunSo p bytes (Ok n) now = (n ≤ length bytes) × (told p (take n bytes) ≡ Ok ([], now))
