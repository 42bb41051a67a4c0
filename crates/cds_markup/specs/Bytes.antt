-- Documents byte by byte. Characters come in bytes, and a byte is refused if it begins no character that may stand there. The
-- rules of start tags and the depth are looked at beside the grammar.
use Rattle.std.specs.Prelude.{◌==◌, ℕ, ◌+◌, nat_lt, Bool, true, false, ◌&&◌, if◌then◌else◌, Option, Some, None, Result, Ok, Err, List, [], ◌∷◌, ◌++◌, drop, length, map, take}
use Rattle.cds_base.specs.declared.limits.TheConstants.{INPUT_LIMIT}
use Rattle.cds_base.specs.Characters.{begins_name}
use Rattle.cds_markup.specs.declared.error.MachineError.{MachineError}
use Rattle.cds_markup.specs.declared.error.MachineError.TheVariants.{Broken, NamespaceRule, Deep, Mem as OutOfMemory}
use Rattle.cds_markup.specs.declared.error.MarkupError.{MarkupError}
use Rattle.cds_markup.specs.declared.error.MarkupError.TheVariants.{Bad, TooDeep, TooLong, Mem}
use Rattle.cds_markup.specs.declared.mode.ReferenceState.{ReferenceState}
use Rattle.cds_markup.specs.declared.mode.StartTagState.{StartTagState}
use Rattle.cds_markup.specs.declared.mode.AttributeState.{AttributeState}
use Rattle.cds_markup.specs.declared.mode.AttributeState.TheVariants.{AttrName, Value}
use Rattle.cds_markup.specs.declared.mode.StartTagState.TheVariants.{Opened, Name as TagName, Spaced, Attribute}
use Rattle.cds_markup.specs.declared.mode.Misc.{Misc}
use Rattle.cds_markup.specs.declared.mode.Misc.TheVariants.{Blanks, MiscLess, MiscComment}
use Rattle.cds_markup.specs.declared.mode.RootState.{RootState}
use Rattle.cds_markup.specs.declared.mode.RootState.TheVariants.{Content, Less, Comment, Cdata, Section, StartTag, EndTag}
use Rattle.cds_markup.specs.declared.mode.Mode.{Mode}
use Rattle.cds_markup.specs.declared.mode.Mode.TheVariants.{Begin, First, Prolog, Inside, Epilog}
use Rattle.cds_markup.specs.declared.tag.Open.{Open}
use Rattle.cds_markup.specs.declared.tag.Declaration.{Declaration}
use Rattle.cds_markup.specs.declared.name.Name.{Name}
use Rattle.cds_markup.specs.declared.name.Attr.{Attr}
use Rattle.cds_markup.specs.Grammar.{byte_order_mark, name_bytes}
use Rattle.cds_markup.specs.Namespaces.{is_empty, tag_says}
use Rattle.cds_markup.specs.Document.{most_open}
use Rattle.cds_markup.specs.Utf8.{Step, any_at, is_within}
use Rattle.cds_markup.specs.Root.{Token, Started, Slash, begins_with}
use Rattle.cds_markup.specs.Wholes.{Move, Nowhere, To, step}

-- What is read so far: the first bytes of a character that is not whole yet, the state after the whole ones, and the open
-- elements.
pub record Reading : Type 0 where
  pub begun : List ℕ
  pub mode : Mode
  pub opens : List Open

abbrev pub reading : List ℕ → Mode → List Open → Reading
reading begun mode opens = record { begun = begun; mode = mode; opens = opens }

-- Whether characters of more than one byte may stand in a state. Either all of them may, or none.
abbrev pub is_none : Option ReferenceState → Bool
is_none None = true
is_none (Some r) = false

abbrev pub wide_attr : AttributeState → Bool
wide_attr (AttrName n) = true
wide_attr (Value q v) = is_none v.reference
wide_attr other = false

abbrev pub wide_tag : StartTagState → Bool
wide_tag Opened = true
wide_tag (TagName n) = true
wide_tag (Spaced tag) = true
wide_tag (Attribute tag m) = wide_attr m
wide_tag other = false

abbrev pub wide_root : RootState → Bool
wide_root (Content brackets) = true
wide_root Less = true
wide_root (Comment dashes) = nat_lt dashes 2
wide_root (Cdata left) = length left == 0
wide_root (Section brackets text) = true
wide_root (StartTag t) = wide_tag t
wide_root other = false

abbrev pub wide_misc : Bool → Misc → Bool
wide_misc before MiscLess = before
wide_misc before (MiscComment dashes) = nat_lt dashes 2
wide_misc before other = false

abbrev pub takes_wide : Mode → Bool
takes_wide First = true
takes_wide (Prolog m) = wide_misc true m
takes_wide (Inside root_state) = wide_root root_state
takes_wide (Epilog m) = wide_misc false m
takes_wide other = false

-- Whether these bytes may begin a character in a state. A byte order mark and an end tag's name are compared byte by byte.
abbrev pub end_begins : ℕ → List Open → List ℕ → Bool
end_begins n [] bytes = false
end_begins n (innermost ∷ outer) bytes = begins_with (drop n (name_bytes innermost.name)) bytes

abbrev pub root_begins : RootState → List Open → List ℕ → Bool
root_begins (EndTag n) opens bytes = end_begins n opens bytes
root_begins root_state opens bytes = wide_root root_state

abbrev pub may_begin : Mode → List Open → List ℕ → Bool
may_begin Begin opens bytes = begins_with byte_order_mark bytes
may_begin (Inside root_state) opens bytes = root_begins root_state opens bytes
may_begin mode opens bytes = takes_wide mode

-- What a byte leads to by the grammar alone.
abbrev pub Goes : Type 0
Goes = Option (Reading × List Token)

abbrev pub moved : Move → Goes
moved Nowhere = None
moved (To mode opens tokens) = Some (reading [] mode opens, tokens)

abbrev pub go_on : Mode → List Open → List ℕ → Step ℕ → Goes
go_on mode opens bytes (Ok found) = moved (step mode opens found.0)
go_on mode opens bytes (Err []) = if may_begin mode opens bytes then Some (reading bytes mode opens, []) else None
go_on mode opens bytes (Err (b ∷ rest)) = None

abbrev pub byte_step : Reading → ℕ → Goes
byte_step r b = go_on r.mode r.opens (r.begun ++ b ∷ []) (any_at (r.begun ++ b ∷ []))

-- If as many elements are open as may be, the first byte of a name stops the run, also if its character is broken.
abbrev pub may_begin_name : ℕ → Bool
may_begin_name b = if nat_lt b 128 then begins_name b else is_within 194 244 b

abbrev pub begins_tag : Mode → Bool
begins_tag (Inside Less) = true
begins_tag other = false

abbrev pub is_deep : Reading → ℕ → Bool
is_deep r b = (length r.opens == most_open && begins_tag r.mode) && (is_empty r.begun && may_begin_name b)

-- A start tag that breaks a rule.
abbrev pub scopes_in : List Open → List (List Declaration)
scopes_in opens = map (λ o. o.declared) opens

abbrev pub is_missing : Option (Name × List Attr) → Bool
is_missing None = true
is_missing (Some said) = false

abbrev pub breaks_rule : List Open → List Token → Bool
breaks_rule opens (Started tag ∷ more) = is_missing (tag_says (scopes_in opens) tag)
breaks_rule opens (Slash tag ∷ more) = is_missing (tag_says (scopes_in opens) tag)
breaks_rule opens other = false

abbrev pub judged : List Open → Goes → Result (Reading × List Token) MachineError
judged opens None = Err Broken
judged opens (Some found) = if breaks_rule opens found.1 then Err NamespaceRule else Ok found

abbrev pub judge : Reading → ℕ → Result (Reading × List Token) MachineError
judge r b = if is_deep r b then Err Deep else judged r.opens (byte_step r b)

-- All bytes up to the first that stops the run.
abbrev pub Ran : Type 0
Ran = Result Reading (MachineError × ℕ)

abbrev pub ran_on : Result (Reading × List Token) MachineError → ℕ → (Reading → Ran) → Ran
ran_on (Err stop) at next = Err (stop, at)
ran_on (Ok found) at next = next found.0

abbrev pub run : Reading → ℕ → List ℕ → Ran
run r at [] = Ok r
run r at (b ∷ w) = ran_on (judge r b) at (λ s. run s (at + 1) w)

abbrev pub nothing_read : Reading
nothing_read = reading [] Begin []

-- The end of the input.
abbrev pub is_blanks : Misc → Bool
is_blanks Blanks = true
is_blanks other = false

abbrev pub is_behind : Mode → Bool
is_behind (Epilog m) = is_blanks m
is_behind other = false

abbrev pub may_end : Reading → Bool
may_end r = is_empty r.begun && is_behind r.mode

-- What any bytes are answered.
abbrev pub refusal : MachineError → ℕ → MarkupError
refusal Deep at = TooDeep at
refusal OutOfMemory at = Mem
refusal stop at = Bad at

abbrev pub answered : ℕ → Bool → Ran → Result (Unit {0}) MarkupError
answered total cut (Err found) = Err (refusal found.0 found.1)
answered total cut (Ok r) = if cut then Err TooLong else if may_end r then Ok tt else Err (Bad total)

unfoldable pub answer_of : List ℕ → Result (Unit {0}) MarkupError
answer_of bytes = answered (length bytes) (nat_lt INPUT_LIMIT (length bytes)) (run nothing_read 0 (take INPUT_LIMIT bytes))
