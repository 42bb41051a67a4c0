-- The ends of start tags: in which states a `>` or `/` ends one, and which tag that is.
use Rattle.std.specs.Prelude.{◌==◌, ◌&&◌, ℕ, Bool, true, false, if◌then◌else◌, []}
use Rattle.cds_markup.specs.declared.tag.Tag.{Tag}
use Rattle.cds_markup.specs.declared.mode.StartTagState.{StartTagState}
use Rattle.cds_markup.specs.declared.mode.StartTagState.TheVariants.{Name, Tagged, Spaced}
use Rattle.cds_markup.specs.declared.mode.RootState.{RootState}
use Rattle.cds_markup.specs.declared.mode.RootState.TheVariants.{Content, StartTag, Slashed}
use Rattle.cds_markup.specs.declared.mode.Mode.{Mode}
use Rattle.cds_markup.specs.declared.mode.Mode.TheVariants.{Inside}
use Rattle.cds_markup.specs.Names.{is_whole, name_of}
use Rattle.cds_markup.specs.Tags.{ends_tag, tag_named}
use Rattle.cds_markup.specs.Root.{Token, Started, Slash}

abbrev pub is_tag_over : StartTagState → Bool
is_tag_over (Name n) = is_whole n.second
is_tag_over (Tagged tag) = true
is_tag_over (Spaced tag) = true
is_tag_over other = false

abbrev pub tag_there : StartTagState → Tag
tag_there (Name n) = tag_named (name_of n)
tag_there (Tagged tag) = tag
tag_there (Spaced tag) = tag
tag_there other = tag_named (record { prefix = []; local = [] })

abbrev pub is_over_in : RootState → Bool
is_over_in (StartTag t) = is_tag_over t
is_over_in other = false

abbrev pub ends_start : Mode → ℕ → Bool
ends_start (Inside root_state) c = ends_tag c && is_over_in root_state
ends_start other c = false

-- What the character makes of the tag, and the state that it leads to.
abbrev pub token_at : ℕ → Tag → Token
token_at c tag = if c == 62 then Started tag else Slash tag

abbrev pub state_at : ℕ → RootState
state_at c = if c == 62 then Content 0 else Slashed
