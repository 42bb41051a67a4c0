-- Notes as they come: with a SEQ, which wraps. Each is given a place, by which it is received and taken (UPnP Device
-- Architecture 2.0 on event keys; how far a place may be is this project's profile).
use Rattle.std.specs.Prelude.{◌≡◌, ◌+◌, ◌-◌, ◌<◌, ◌≤◌, ◌^◌, ◌⊎◌, ◌||◌, ℕ, Bool, true, cond, not, nat_lt, List, Option, Some, None}
use Rattle.std.specs.Option.{option_map}
use Rattle.cds_commands.specs.Notes.{Note}
use Rattle.cds_commands.specs.Places.{seq_at, reach, place_of}
use Rattle.cds_commands.specs.Wire.{WireNote, on_wire, note_at}
use Rattle.cds_load.specs.Outcome.{Outcome, Goes}
use Rattle.cds_follow.specs.Inbox.{ReplicaTurn, Delivers, is_out, is_accepted, next_place, taken_by, Arrival, IsUnknown, IsRepeat, IsTooMany, IsEarly, IsHeld, IsNext, arrival}
use Rattle.cds_follow.specs.Follow.{Known, known_by, with_notes, is_refused, and_turn, says}
use Rattle.cds_follow.specs.declared.says.Says.{Says}
use Rattle.cds_follow.specs.declared.says.Says.TheVariants.{Gap, BehindLoad, BehindRead, BehindVersion, Stands}

-- the place near which those of a name are: the one after those taken for the accepted name, and 0 for every other
abbrev pub place_near : ℕ → List ReplicaTurn → ℕ
place_near name turns = cond (is_accepted name turns) (next_place turns) 0

-- a note that came, at the place that it is given
abbrev pub placed : ℕ → WireNote → List ReplicaTurn → Option Note
placed wrap note turns = option_map (note_at note) (place_of wrap (place_near note.name turns) note.seq)

-- what becomes of a note, and what a replica says, with a SEQ for the place that is missing
abbrev pub arrival_by_seq : ℕ → Arrival → Arrival
arrival_by_seq wrap IsUnknown = IsUnknown
arrival_by_seq wrap IsRepeat = IsRepeat
arrival_by_seq wrap (IsTooMany held) = IsTooMany held
arrival_by_seq wrap IsEarly = IsEarly
arrival_by_seq wrap (IsHeld place) = IsHeld (seq_at wrap place)
arrival_by_seq wrap IsNext = IsNext

abbrev pub says_by_seq : ℕ → Says → Says
says_by_seq wrap (Gap place) = Gap (seq_at wrap place)
says_by_seq wrap BehindLoad = BehindLoad
says_by_seq wrap (BehindRead id) = BehindRead id
says_by_seq wrap (BehindVersion number) = BehindVersion number
says_by_seq wrap (Stands number) = Stands number

abbrev pub says_on_wire : ℕ → List ReplicaTurn → Says
says_on_wire wrap turns = says_by_seq wrap (says turns)

-- what becomes of a note that came: without a place it is unknown
abbrev pub arrival_of : ℕ → Option Note → List ReplicaTurn → Arrival
arrival_of wrap None turns = IsUnknown
arrival_of wrap (Some note) turns = arrival_by_seq wrap (arrival note turns)

abbrev pub arrival_on_wire : ℕ → WireNote → List ReplicaTurn → Arrival
arrival_on_wire wrap note turns = arrival_of wrap (placed wrap note turns) turns

-- the turns with it: without a place it is no turn; and what becomes of what is known
abbrev pub and_note : Option Note → List ReplicaTurn → List ReplicaTurn
and_note None turns = turns
and_note (Some note) turns = and_turn (Delivers note) turns

abbrev pub heard : Option Note → List ReplicaTurn → Outcome Known
heard None turns = Goes (known_by turns)
heard (Some note) turns = with_notes (taken_by (Delivers note) turns) (known_by turns)

-- how far two places are from each other
abbrev pub apart : ℕ → ℕ → ℕ
apart a b = (a - b) + (b - a)

-- whether notes of a name are heard: it is accepted, or a request is out
abbrev pub is_heard : ℕ → List ReplicaTurn → Bool
is_heard name turns = is_accepted name turns || is_out turns

-- whether a note, if it is heard, is fewer places away than a wrap without a reach
abbrev pub is_recent : ℕ → Note → List ReplicaTurn → Bool
is_recent wrap note turns = not (is_heard note.name turns) || nat_lt (apart note.place (place_near note.name turns)) (wrap - reach wrap)

-- a note that is within reach is given its own place
abbrev pub near_notes_are_placed : Type 0
near_notes_are_placed = (wrap : ℕ) (note : Note) (turns : List ReplicaTurn) → 256 ≤ wrap → place_near note.name turns < 2 ^ 63 →
    apart note.place (place_near note.name turns) ≤ reach wrap → placed wrap (on_wire wrap note) turns ≡ Some note

-- one that is recent is given its own place; or it is unknown, and its delivery is refused at whichever place it is given
abbrev pub notes_are_placed_or_unknown : Type 0
notes_are_placed_or_unknown = (wrap : ℕ) (note : Note) (turns : List ReplicaTurn) → 256 ≤ wrap → is_recent wrap note turns ≡ true →
    (placed wrap (on_wire wrap note) turns ≡ Some note)
    ⊎ ((arrival_on_wire wrap (on_wire wrap note) turns ≡ IsUnknown)
    × ((other : Note) → placed wrap (on_wire wrap note) turns ≡ Some other → is_refused (Delivers other) turns ≡ true))
