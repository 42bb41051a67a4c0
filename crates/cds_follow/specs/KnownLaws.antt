-- Laws of what a replica knows from its notes, over every list of turns: its position, the changes that it counted, and that
-- notes leave a running load as it is.
use Rattle.std.specs.Prelude.{◌≡◌, ◌≤◌, ◌&&◌, ℕ, Bool, true, false, cond, not, max, List, [], ◌∷◌, ◌++◌, length}
use Rattle.cds_object.specs.Object.{ObjectRow}
use Rattle.cds_object.specs.declared.event.Event.{Event}
use Rattle.cds_load.specs.Outcome.{Goes, is_no}
use Rattle.cds_load.specs.Stages.{Held, Idle, Loads, HasCopy}
use Rattle.cds_load.specs.declared.exchange.Shown.{Shown}
use Rattle.cds_load.specs.declared.exchange.Shown.TheVariants.{Text, Number, Page, Fault}
use Rattle.cds_commands.specs.Notes.{Note, changes_above}
use Rattle.cds_follow.specs.Copy.{Happening, Changes, Reads}
use Rattle.cds_follow.specs.Inbox.{ReplicaTurn, Begins, Shows, Requests, Accepts, Refuses, Delivers, held_notes, held_limit, taken_by}
use Rattle.cds_follow.specs.Follow.{Known, position, new_changes, greatest_of, is_drop, with_notes, known_by, is_refused}

-- all notes that were taken, the oldest first; a turn that is refused takes none
abbrev pub taken_notes : List ReplicaTurn → List Note
taken_notes [] = []
taken_notes (turn ∷ older) = taken_notes older ++ cond (is_no (with_notes (taken_by turn older) (known_by older))) [] (taken_by turn older)

-- the position is the greatest of the number that the last ended load read and the numbers of all notes that were taken
abbrev pub position_is_the_greatest : Type 0
position_is_the_greatest = (turns : List ReplicaTurn) → position (known_by turns) ≡ max (known_by turns).base (greatest_of 0 (taken_notes turns))

-- whether a copy stands
abbrev pub has_copy : Held → Bool
has_copy Idle = false
has_copy (Loads stage) = false
has_copy (HasCopy number rows) = true

-- the number that a reply showed, and that of a turn; 0 if it showed none
abbrev pub shown_number : Shown → ℕ
shown_number (Text token) = 0
shown_number (Number number) = number
shown_number (Page rows total update) = 0
shown_number (Fault code) = 0

abbrev pub number_shown : ReplicaTurn → ℕ
number_shown Begins = 0
number_shown (Shows shown) = shown_number shown
number_shown Requests = 0
number_shown (Accepts name) = 0
number_shown Refuses = 0
number_shown (Delivers note) = 0

-- the number that was shown when a load ended last: no copy stood before it, and one stood after it; 0 if none ended
abbrev pub ended_at : List ReplicaTurn → ℕ
ended_at [] = 0
ended_at (turn ∷ older) = cond (not (has_copy (known_by older).held) && has_copy (known_by (turn ∷ older)).held) (number_shown turn) (ended_at older)

-- the number that the last load read is the one that was shown when it ended
abbrev pub base_is_the_last_end : Type 0
base_is_the_last_end = (turns : List ReplicaTurn) → (known_by turns).base ≡ ended_at turns

-- the new changes of notes, after those before them. Notes that are refused tell none. If a first note drops the copy, those
-- before it do not count any more
abbrev pub and_told : List Note → Known → List Event → List Event
and_told notes known told =
    cond (is_no (with_notes notes known)) told (cond (is_drop (position known) notes) [] told ++ new_changes (position known) notes)

-- the changes that were new in the notes taken since the last load began, the oldest first
abbrev pub told_since : List ReplicaTurn → List Event
told_since [] = []
told_since (Begins ∷ older) = []
told_since (Shows shown ∷ older) = told_since older
told_since (Requests ∷ older) = told_since older
told_since (Accepts name ∷ older) = and_told (taken_by (Accepts name) older) (known_by older) (told_since older)
told_since (Refuses ∷ older) = told_since older
told_since (Delivers note ∷ older) = and_told (taken_by (Delivers note) older) (known_by older) (told_since older)

-- the changes among what befell a copy, the oldest first
abbrev pub counted_changes : List Happening → List Event
counted_changes [] = []
counted_changes (Changes event ∷ older) = counted_changes older ++ event ∷ []
counted_changes (Reads id v ∷ older) = counted_changes older

-- if a copy stands, the changes that were counted on it are these: those above the number that its load read, of those that were
-- new since this load began. Each was counted once and in order
abbrev pub counted_changes_are_fresh : Type 0
counted_changes_are_fresh = (turns : List ReplicaTurn) (number : ℕ) (rows : List ObjectRow) → (known_by turns).held ≡ HasCopy number rows →
    counted_changes (known_by turns).happenings ≡ changes_above (known_by turns).base (told_since turns)

-- notes that are taken leave a load, and the rows that a copy's load read, as they are, except a first note that drops them
abbrev pub notes_leave_the_load : Type 0
notes_leave_the_load = (notes : List Note) (known now : Known) → with_notes notes known ≡ Goes now → is_drop (position known) notes ≡ false →
    (now.held ≡ known.held) × (now.base ≡ known.base)

-- turns none of which is refused, as those of a replica are
abbrev pub NoneRefused : List ReplicaTurn → Type 0
NoneRefused [] = Unit {0}
NoneRefused (turn ∷ older) = (is_refused turn older ≡ false) × NoneRefused older

-- at most 64 notes are held, early ones included
abbrev pub at_most_64_are_held : Type 0
at_most_64_are_held = (turns : List ReplicaTurn) → NoneRefused turns → length (held_notes turns) ≤ held_limit
