-- How the two variables of a note are gathered from the parts of a document, from the first to the last.
use Rattle.std.specs.Prelude.{◌≡◌, ◌^◌, ℕ, Bool, true, false, ◌&&◌, if◌then◌else◌, List, [], ◌∷◌, codes, bytes_eq, Option, Some, option_and_then}
use Rattle.cds_base.specs.Number.{number_below}
use Rattle.cds_markup.specs.declared.name.Name.{Name}
use Rattle.cds_markup.specs.declared.part.Part.{Part}
use Rattle.cds_markup.specs.declared.part.Part.TheVariants.{Start, End, Run}
use Rattle.cds_notify.specs.declared.body.Said.{Said}
use Rattle.cds_notify.specs.declared.variables.Level.{Level}
use Rattle.cds_notify.specs.declared.variables.Level.TheVariants.{Outside, InSet, InProperty, InNumber, InChanges, Passed}
use Rattle.cds_notify.specs.declared.variables.Variables.{Variables}
use Rattle.cds_notify.specs.Joined.{Texts, no_texts, counted, run_kept, only_text}
use Rattle.cds_notify.specs.Said.{event_space, ◌>>=◌}

-- ---- one element

-- a name in the namespace of events
abbrev pub is_event : List ℕ → Name → Bool
is_event local name = bytes_eq name.space event_space && bytes_eq name.local local

-- what an element of a name is: outside, in a set, and in a property
abbrev pub set_level : Name → Level
set_level name = if is_event (codes "propertyset") name then InSet else Passed

abbrev pub property_level : Name → Level
property_level name = if is_event (codes "property") name then InProperty else Passed

abbrev pub variable_level : Name → Level
variable_level name =
    if bytes_eq name.local (codes "SystemUpdateID") then InNumber
    else if bytes_eq name.local (codes "LastChange") then InChanges
    else Passed

abbrev pub level_in : Level → Name → Level
level_in Outside name = set_level name
level_in InSet name = property_level name
level_in InProperty name = variable_level name
level_in other name = Passed

-- where a run of text is one of a variable
abbrev pub is_number : Level → Bool
is_number InNumber = true
is_number other = false

abbrev pub is_changes : Level → Bool
is_changes InChanges = true
is_changes other = false

-- ---- all of them

-- the innermost element that is open, what is open around it, and the variables so far
pub record Gathering : Type 0 where
  pub level : Level
  pub around : List Level
  pub number : Texts
  pub changes : Texts

abbrev pub gathering : Level → List Level → Texts → Texts → Gathering
gathering level around number changes = record { level = level; around = around; number = number; changes = changes }

abbrev pub gathering_of : Variables → Gathering
gathering_of v = gathering v.level v.around.items v.number v.changes

abbrev pub gathering_begun : Gathering
gathering_begun = gathering Outside [] no_texts no_texts

-- what a start tag, the end of an element, and a run of text make of it
abbrev pub entered : Level → Gathering → Gathering
entered level s = gathering level (s.level ∷ s.around) (counted (is_number level) s.number) (counted (is_changes level) s.changes)

abbrev pub opened : Name → Gathering → Gathering
opened name s = entered (level_in s.level name) s

abbrev pub closed_in : Level → List Level → Texts → Texts → Gathering
closed_in level [] number changes = gathering level [] number changes
closed_in level (outer ∷ around) number changes = gathering outer around number changes

abbrev pub closed : Gathering → Gathering
closed s = closed_in s.level s.around s.number s.changes

abbrev pub and_run : List ℕ → Gathering → Gathering
and_run text s = gathering s.level s.around (run_kept (is_number s.level) text s.number) (run_kept (is_changes s.level) text s.changes)

abbrev pub and_part : Gathering → Part → Gathering
and_part s (Start at end name attrs) = opened name s
and_part s (End at) = closed s
and_part s (Run at non_blank text) = and_run text s

abbrev pub gathered : Gathering → List Part → Gathering
gathered s [] = s
gathered s (part ∷ more) = gathered (and_part s part) more

-- the next part is taken
abbrev pub gathers : Variables → Part → Variables → Type 0
gathers before part now = gathering_of now ≡ and_part (gathering_of before) part

-- ---- what they say

unfoldable pub said_by : Texts → Texts → Option Said
said_by numbers changed = do
  number ← option_and_then (number_below (2 ^ 32)) (only_text numbers)
  changes ← only_text changed
  Some (record { number = number; changes = changes })
