-- The declaration, character by character, from after its `<?`.
use Rattle.std.specs.Prelude.{◌==◌, ℕ, Bool, if◌then◌else◌, List, [], ◌∷◌, codes}
use Rattle.cds_base.specs.Characters.{is_blank}
use Rattle.cds_markup.specs.declared.mode.Stage.{Stage}
use Rattle.cds_markup.specs.declared.mode.Stage.TheVariants.{Version, Encoding, Standalone, Closing}
use Rattle.cds_markup.specs.declared.mode.DeclarationState.{DeclarationState}
use Rattle.cds_markup.specs.declared.mode.DeclarationState.TheVariants.{Xml, Gap, PartName, PartEquals, PartValue, YesOrNo, BehindPart, Question}
use Rattle.cds_markup.specs.Grammar.{is_quote, lower_case}
use Rattle.cds_markup.specs.Next.{Next, Stuck, On, Done}

-- The part that may come after a part.
abbrev pub behind : Stage → Stage
behind Version = Encoding
behind Encoding = Standalone
behind other = Closing

-- What begins after white space.
abbrev pub closing_step : ℕ → Next DeclarationState (Unit {0})
closing_step c = if c == 63 then On Question else Stuck

abbrev pub standalone_step : ℕ → Next DeclarationState (Unit {0})
standalone_step c = if c == 115 then On (PartName Standalone (codes "tandalone")) else closing_step c

abbrev pub begin_step : Stage → ℕ → Next DeclarationState (Unit {0})
begin_step Version c = if c == 118 then On (PartName Version (codes "ersion")) else Stuck
begin_step Encoding c = if c == 101 then On (PartName Encoding (codes "ncoding")) else standalone_step c
begin_step Standalone c = standalone_step c
begin_step Closing c = closing_step c

-- What stands right after a part. The declaration may end there, except before the version.
abbrev pub right_step : Stage → ℕ → Next DeclarationState (Unit {0})
right_step Version c = Stuck
right_step other c = closing_step c

abbrev pub part_step : Stage → ℕ → Next DeclarationState (Unit {0})
part_step stage c = if is_blank c then On (Gap stage) else right_step stage c

abbrev pub xml_step : List ℕ → ℕ → Next DeclarationState (Unit {0})
xml_step [] c = part_step Version c
xml_step (b ∷ left) c = if c == b then On (Xml left) else Stuck

abbrev pub name_step : Stage → List ℕ → ℕ → Next DeclarationState (Unit {0})
name_step stage [] c = if is_blank c then On (PartName stage []) else if c == 61 then On (PartEquals stage) else Stuck
name_step stage (b ∷ left) c = if c == b then On (PartName stage left) else Stuck

-- The quote before a part's value.
abbrev pub value_begins : Stage → ℕ → Next DeclarationState (Unit {0})
value_begins Version quote = On (PartValue Version quote (codes "1.0"))
value_begins Encoding quote = On (PartValue Encoding quote (codes "utf-8"))
value_begins Standalone quote = On (YesOrNo quote)
value_begins Closing quote = Stuck

-- A letter of a part's value. For the encoding either case is right.
abbrev pub is_letter : Stage → ℕ → ℕ → Bool
is_letter Encoding b c = lower_case c == b
is_letter other b c = c == b

abbrev pub value_letter : Stage → ℕ → List ℕ → ℕ → Next DeclarationState (Unit {0})
value_letter stage quote [] c = if c == quote then On (BehindPart (behind stage)) else Stuck
value_letter stage quote (b ∷ left) c = if is_letter stage b c then On (PartValue stage quote left) else Stuck

abbrev pub step_declaration : DeclarationState → ℕ → Next DeclarationState (Unit {0})
step_declaration (Xml left) c = xml_step left c
step_declaration (Gap stage) c = if is_blank c then On (Gap stage) else begin_step stage c
step_declaration (PartName stage left) c = name_step stage left c
step_declaration (PartEquals stage) c =
    if is_blank c then On (PartEquals stage) else if is_quote c then value_begins stage c else Stuck
step_declaration (PartValue stage quote left) c = value_letter stage quote left c
step_declaration (YesOrNo quote) c =
    if c == 121 then On (PartValue Standalone quote (codes "es"))
    else if c == 110 then On (PartValue Standalone quote (codes "o"))
    else Stuck
step_declaration (BehindPart stage) c = part_step stage c
step_declaration Question c = if c == 62 then Done tt else Stuck
