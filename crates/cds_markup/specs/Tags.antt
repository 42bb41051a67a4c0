-- Start tags, character by character, from after their `<` to the `>` or `/` that ends them.
use Rattle.std.specs.Prelude.{◌==◌, ℕ, Bool, ◌||◌, if◌then◌else◌, [], ◌∷◌, ◌++◌}
use Rattle.cds_base.specs.Characters.{is_blank, begins_name}
use Rattle.cds_markup.specs.declared.mode.AttributeState.TheVariants.{AttrName}
use Rattle.cds_markup.specs.declared.mode.StartTagState.{StartTagState}
use Rattle.cds_markup.specs.declared.mode.StartTagState.TheVariants.{Opened, Name, Tagged, Spaced, Attribute}
use Rattle.cds_markup.specs.declared.tag.QName.{QName}
use Rattle.cds_markup.specs.declared.tag.TagAttr.{TagAttr}
use Rattle.cds_markup.specs.declared.tag.Tag.{Tag}
use Rattle.cds_markup.specs.Next.{Next, Stuck, On, Done, leads}
use Rattle.cds_markup.specs.Names.{name_begun, goes_on, is_whole, name_of}
use Rattle.cds_markup.specs.Attributes.{named_or, step_attr}

abbrev pub ends_tag : ℕ → Bool
ends_tag c = c == 47 || c == 62

abbrev pub tag_named : QName → Tag
tag_named q = record { name = q; attrs = [] }

abbrev pub with_attr : Tag → TagAttr → Tag
with_attr tag a = record { name = tag.name; attrs = tag.attrs ++ a ∷ [] }

-- A character after a name or a value, and one after white space.
abbrev pub tagged_step : Tag → ℕ → Next StartTagState (Tag × ℕ)
tagged_step tag c = if is_blank c then On (Spaced tag) else if ends_tag c then Done (tag, c) else Stuck

abbrev pub spaced_step : Tag → ℕ → Next StartTagState (Tag × ℕ)
spaced_step tag c =
    if is_blank c then On (Spaced tag)
    else if ends_tag c then Done (tag, c)
    else if begins_name c then On (Attribute tag (AttrName (name_begun c)))
    else Stuck

abbrev pub step_tag : StartTagState → ℕ → Next StartTagState (Tag × ℕ)
step_tag Opened c = if begins_name c then On (Name (name_begun c)) else Stuck
step_tag (Name n) c = named_or (goes_on n c) Name (is_whole n.second) (tagged_step (tag_named (name_of n)) c)
step_tag (Tagged tag) c = tagged_step tag c
step_tag (Spaced tag) c = spaced_step tag c
step_tag (Attribute tag m) c = leads (step_attr m c) (Attribute tag) (λ a. On (Tagged (with_attr tag a)))
