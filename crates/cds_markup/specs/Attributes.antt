-- Attributes, character by character.
use Rattle.std.specs.Prelude.{◌==◌, ℕ, Bool, true, false, if◌then◌else◌, Option, Some, None, List, []}
use Rattle.cds_base.specs.Characters.{is_blank}
use Rattle.cds_markup.specs.declared.mode.NameState.{NameState}
use Rattle.cds_markup.specs.declared.mode.AttributeState.{AttributeState}
use Rattle.cds_markup.specs.declared.mode.AttributeState.TheVariants.{AttrName, AttrNamed, Equals, Value}
use Rattle.cds_markup.specs.declared.tag.QName.{QName}
use Rattle.cds_markup.specs.declared.tag.TagAttr.{TagAttr}
use Rattle.cds_markup.specs.Grammar.{is_quote}
use Rattle.cds_markup.specs.Next.{Next, Stuck, On, Done, leads}
use Rattle.cds_markup.specs.Names.{goes_on, is_whole, name_of}
use Rattle.cds_markup.specs.Values.{value_state, step_value}

abbrev pub attr_of : QName → List ℕ → TagAttr
attr_of q value = record { name = q; value = value }

-- A character after the name, and one after the equals sign.
abbrev pub named_step : QName → ℕ → Next AttributeState TagAttr
named_step q c = if is_blank c then On (AttrNamed q) else if c == 61 then On (Equals q) else Stuck

abbrev pub equals_step : QName → ℕ → Next AttributeState TagAttr
equals_step q c =
    if is_blank c then On (Equals q) else if is_quote c then On (Value q (value_state (c == 34) [] false None)) else Stuck

-- A name that goes on, or what stands after it.
abbrev pub named_or : {M A : Type 0} → Option NameState → (NameState → M) → Bool → Next M A → Next M A
named_or (Some n) on whole behind = On (on n)
named_or None on true behind = behind
named_or None on false behind = Stuck

abbrev pub step_attr : AttributeState → ℕ → Next AttributeState TagAttr
step_attr (AttrName n) c = named_or (goes_on n c) AttrName (is_whole n.second) (named_step (name_of n) c)
step_attr (AttrNamed q) c = named_step q c
step_attr (Equals q) c = equals_step q c
step_attr (Value q v) c = leads (step_value v c) (Value q) (λ text. Done (attr_of q text))
