-- The inside of elements, one token after another. A token is a character of a literal text, a reference, a section, a comment, a
-- start tag, the `>` of an empty element's tag, or an end tag.
use Rattle.std.specs.Prelude.{◌==◌, ℕ, ◌+◌, Bool, not, ◌&&◌, if◌then◌else◌, List, [], ◌∷◌, codes, drop, length, encode_utf8}
use Rattle.std.specs.List.{starts_with}
use Rattle.cds_base.specs.Characters.{is_blank}
use Rattle.cds_markup.specs.declared.mode.ReferenceState.TheVariants.{Ampersand}
use Rattle.cds_markup.specs.declared.mode.StartTagState.{StartTagState}
use Rattle.cds_markup.specs.declared.mode.StartTagState.TheVariants.{Opened}
use Rattle.cds_markup.specs.declared.mode.RootState.{RootState}
use Rattle.cds_markup.specs.declared.mode.RootState.TheVariants.{Content, Less, Bang, Dash, Comment, Cdata, Section, Reference, StartTag, Slashed, EndTag}
use Rattle.cds_markup.specs.declared.tag.Tag.{Tag}
pub use Rattle.cds_markup.specs.declared.token.Token.{Token}
pub use Rattle.cds_markup.specs.declared.token.Token.TheVariants.{Letter, Referred, SectionOf, Commented, Started, Slash, Shut, Ended}
use Rattle.cds_markup.specs.declared.tag.Open.{Open}
use Rattle.cds_markup.specs.Grammar.{name_bytes}
use Rattle.cds_markup.specs.Namespaces.{declarations}
use Rattle.cds_markup.specs.Next.{Next, Stuck, On, Done, leads}
use Rattle.cds_markup.specs.References.{step_reference}
use Rattle.cds_markup.specs.Tags.{step_tag}
use Rattle.cds_markup.specs.Delimiters.{step_comment, brackets_with, closes_section, step_section}

-- A token, the elements that are open after it, and the state there.
pub record Given : Type 0 where
  pub token : Token
  pub opens : List Open
  pub root_state : RootState

abbrev pub given : Token → List Open → RootState → Given
given token opens root_state = record { token = token; opens = opens; root_state = root_state }

abbrev pub opened : Tag → Open
opened tag = record { name = tag.name; declared = declarations tag.attrs }

-- A literal character, or what begins at it.
abbrev pub is_in_run : ℕ → ℕ → Bool
is_in_run brackets c = not (c == 60) && (not (c == 38) && not (closes_section brackets c))

abbrev pub content_step : ℕ → List Open → ℕ → Next RootState Given
content_step brackets opens c =
    if c == 60 then On Less
    else if c == 38 then On (Reference Ampersand)
    else if closes_section brackets c then Stuck
    else Done (given (Letter c) opens (Content (brackets_with brackets c)))

-- A start tag that ended.
abbrev pub tag_given : List Open → Tag × ℕ → Given
tag_given opens found =
    if found.1 == 62 then given (Started found.0) (opened found.0 ∷ opens) (Content 0) else given (Slash found.0) opens Slashed

abbrev pub start_step : List Open → StartTagState → ℕ → Next RootState Given
start_step opens t c = leads (step_tag t c) StartTag (λ found. Done (tag_given opens found))

-- A character after a `<`, and one after a `<!`. An end tag stands only if an element is open.
abbrev pub slash_step : List Open → Next RootState Given
slash_step [] = Stuck
slash_step (innermost ∷ outer) = On (EndTag 0)

abbrev pub less_step : List Open → ℕ → Next RootState Given
less_step opens c =
    if c == 47 then slash_step opens else if c == 33 then On Bang else start_step opens Opened c

abbrev pub bang_step : ℕ → Next RootState Given
bang_step c = if c == 45 then On Dash else if c == 91 then On (Cdata (codes "CDATA[")) else Stuck

abbrev pub section_step : ℕ → List ℕ → List Open → ℕ → Next RootState Given
section_step brackets text opens c =
    leads (step_section brackets text c) (λ s. Section s.0 s.1) (λ said. Done (given (SectionOf said) opens (Content 0)))

abbrev pub cdata_step : List ℕ → List Open → ℕ → Next RootState Given
cdata_step [] opens c = section_step 0 [] opens c
cdata_step (b ∷ left) opens c = if c == b then On (Cdata left) else Stuck

-- An end tag, after `n` bytes of its name.
abbrev pub begins_with : List ℕ → List ℕ → Bool
begins_with left bytes = starts_with (λ x y. x == y) left bytes

abbrev pub end_blanks_step : ℕ → List Open → ℕ → Next RootState Given
end_blanks_step n outer c = if is_blank c then On (EndTag n) else if c == 62 then Done (given Ended outer (Content 0)) else Stuck

abbrev pub end_name_step : ℕ → List ℕ → List Open → ℕ → Next RootState Given
end_name_step n [] outer c = end_blanks_step n outer c
end_name_step n (b ∷ left) outer c = if begins_with (b ∷ left) (encode_utf8 c) then On (EndTag (n + length (encode_utf8 c))) else Stuck

abbrev pub end_step : ℕ → List Open → ℕ → Next RootState Given
end_step n [] c = Stuck
end_step n (innermost ∷ outer) c = end_name_step n (drop n (name_bytes innermost.name)) outer c

abbrev pub step_root : RootState → List Open → ℕ → Next RootState Given
step_root (Content brackets) opens c = content_step brackets opens c
step_root Less opens c = less_step opens c
step_root Bang opens c = bang_step c
step_root Dash opens c = if c == 45 then On (Comment 0) else Stuck
step_root (Comment dashes) opens c = leads (step_comment dashes c) Comment (λ over. Done (given Commented opens (Content 0)))
step_root (Cdata left) opens c = cdata_step left opens c
step_root (Section brackets text) opens c = section_step brackets text opens c
step_root (Reference r) opens c = leads (step_reference r c) Reference (λ code. Done (given (Referred code) opens (Content 0)))
step_root (StartTag t) opens c = start_step opens t c
step_root Slashed opens c = if c == 62 then Done (given Shut opens (Content 0)) else Stuck
step_root (EndTag n) opens c = end_step n opens c
