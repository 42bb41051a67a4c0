-- Which notes a replica received, took and misses: sets of places over its turns, with no copy in them (UPnP Device
-- Architecture 2.0 on event keys; what is kept of notes that come early or out of order is this project's profile).
use Rattle.std.specs.Prelude.{◌+◌, ◌&&◌, ℕ, zero, suc, Bool, true, false, cond, not, nat_eq, nat_lt, nat_le, List, [], ◌∷◌, ◌++◌, filter, length, Option, Some, None}
use Rattle.std.specs.List.{list_any}
use Rattle.std.specs.Option.{option_eq}
use Rattle.cds_commands.specs.Notes.{Note, notes_from_to}
use Rattle.cds_load.specs.declared.exchange.Shown.{Shown}

-- one turn of a replica: a load is begun; a reply shows something; a subscribe request goes out; its reply comes, with a name or
-- with a refusal; a note is delivered. A turn that was refused is none, and the newest is the first
pub data ReplicaTurn : Type 0 where
  Begins : ReplicaTurn
  Shows : Shown → ReplicaTurn
  Requests : ReplicaTurn
  Accepts : ℕ → ReplicaTurn
  Refuses : ReplicaTurn
  Delivers : Note → ReplicaTurn

-- whether a subscribe request is out
abbrev pub is_out : List ReplicaTurn → Bool
is_out [] = false
is_out (Begins ∷ older) = is_out older
is_out (Shows shown ∷ older) = is_out older
is_out (Requests ∷ older) = true
is_out (Accepts name ∷ older) = false
is_out (Refuses ∷ older) = false
is_out (Delivers note ∷ older) = is_out older

-- the name that was accepted last
abbrev pub accepted : List ReplicaTurn → Option ℕ
accepted [] = None
accepted (Begins ∷ older) = accepted older
accepted (Shows shown ∷ older) = accepted older
accepted (Requests ∷ older) = accepted older
accepted (Accepts name ∷ older) = Some name
accepted (Refuses ∷ older) = accepted older
accepted (Delivers note ∷ older) = accepted older

-- whether a name is the accepted one; and whether a note is early: a request is out, and its name is not the accepted one
abbrev pub is_accepted : ℕ → List ReplicaTurn → Bool
is_accepted name turns = option_eq nat_eq (accepted turns) (Some name)

abbrev pub is_early : Note → List ReplicaTurn → Bool
is_early note turns = is_out turns && not (is_accepted note.name turns)

-- the early notes of the request that is out, as often as each came
abbrev pub early_notes : List ReplicaTurn → List Note
early_notes [] = []
early_notes (Begins ∷ older) = early_notes older
early_notes (Shows shown ∷ older) = early_notes older
early_notes (Requests ∷ older) = []
early_notes (Accepts name ∷ older) = []
early_notes (Refuses ∷ older) = []
early_notes (Delivers note ∷ older) = cond (is_early note older) (note ∷ early_notes older) (early_notes older)

-- the notes of the accepted name that were received: those that came since it was accepted, and those that came early for the
-- request that it answered
abbrev pub received : List ReplicaTurn → List Note
received [] = []
received (Begins ∷ older) = received older
received (Shows shown ∷ older) = received older
received (Requests ∷ older) = received older
received (Accepts name ∷ older) = filter (λ (note : Note). nat_eq note.name name) (early_notes older)
received (Refuses ∷ older) = received older
received (Delivers note ∷ older) = cond (is_accepted note.name older) (note ∷ received older) (received older)

-- whether a place is among those of notes
abbrev pub has_place : List Note → ℕ → Bool
has_place notes place = list_any (λ (note : Note). nat_eq note.place place) notes

-- the least place from one on that is not among those of notes; among as many places as there are notes, and one, there is one
abbrev pub least_outside : ℕ → ℕ → List Note → ℕ
least_outside zero place notes = place
least_outside (suc more) place notes = cond (has_place notes place) (least_outside more (place + 1) notes) place

-- the place after those that were taken: these are the longest run 0, 1, .. of those received
abbrev pub next_place : List ReplicaTurn → ℕ
next_place turns = least_outside (length (received turns)) 0 (received turns)

-- the least place that is missing: it was not received, and a greater one was
abbrev pub missing_of : List Note → ℕ → Option ℕ
missing_of notes next = cond (list_any (λ (note : Note). nat_lt next note.place) notes) (Some next) None

abbrev pub missing : List ReplicaTurn → Option ℕ
missing turns = missing_of (received turns) (next_place turns)

-- notes without those whose name and place an earlier one has; the newest is the first
abbrev pub is_same_note : Note → Note → Bool
is_same_note note other = nat_eq note.name other.name && nat_eq note.place other.place

abbrev pub different : List Note → List Note
different [] = []
different (note ∷ older) = cond (list_any (is_same_note note) older) (different older) (note ∷ different older)

-- the notes that are held: those received and not taken, and the early ones, each once
abbrev pub waiting_notes : List ReplicaTurn → List Note
waiting_notes turns = filter (λ (note : Note). nat_lt (next_place turns) note.place) (different (received turns))

abbrev pub held_notes : List ReplicaTurn → List Note
held_notes turns = waiting_notes turns ++ different (early_notes turns)

-- how many notes are held at most
abbrev pub held_limit : ℕ
held_limit = 64

-- the notes that a turn lets the replica take, in ascending order of places: those that are taken after it and were not before.
-- What was taken under another name is not counted
abbrev pub taken_by : ReplicaTurn → List ReplicaTurn → List Note
taken_by Begins older = []
taken_by (Shows shown) older = []
taken_by Requests older = []
taken_by (Accepts name) older = notes_from_to 0 (next_place (Accepts name ∷ older)) (received (Accepts name ∷ older))
taken_by Refuses older = []
taken_by (Delivers note) older =
    cond (is_accepted note.name older)
    (notes_from_to (next_place older) (next_place (Delivers note ∷ older)) (received (Delivers note ∷ older))) []

-- what becomes of a delivered note by the notes alone: its name is not known; it came before; no room is left to hold it; it is
-- held for the request that is out; it is held for a place before it that is missing; or it is next, and to be taken
pub data Arrival : Type 0 where
  IsUnknown : Arrival
  IsRepeat : Arrival
  IsTooMany : ℕ → Arrival
  IsEarly : Arrival
  IsHeld : ℕ → Arrival
  IsNext : Arrival

-- whether a note is a repeat: one of the accepted name at its place was received, or an early one of its name and place
abbrev pub is_repeat : Note → List ReplicaTurn → Bool
is_repeat note turns =
    cond (is_accepted note.name turns) (has_place (received turns) note.place)
    (is_out turns && list_any (is_same_note note) (early_notes turns))

-- whether a note is the next one of the accepted name
abbrev pub is_next : Note → List ReplicaTurn → Bool
is_next note turns = is_accepted note.name turns && nat_eq note.place (next_place turns)

abbrev pub arrival : Note → List ReplicaTurn → Arrival
arrival note turns =
    cond (not (is_accepted note.name turns) && not (is_out turns)) IsUnknown
    (cond (is_repeat note turns) IsRepeat
    (cond (not (is_next note turns) && nat_le held_limit (length (held_notes turns))) (IsTooMany (length (held_notes turns)))
    (cond (not (is_accepted note.name turns)) IsEarly
    (cond (nat_lt (next_place turns) note.place) (IsHeld (next_place turns)) IsNext))))
