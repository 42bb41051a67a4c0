-- Laws of which notes were taken and which are missing, over every list of turns.
use Rattle.std.specs.Prelude.{◌≡◌, ◌↔◌, ◌⊎◌, ◌<◌, ℕ, Bool, true, false, List, [], ◌∷◌, ◌++◌, map, Some, Contains}
use Rattle.std.specs.List.{AllByRecursion, range_with_len}
use Rattle.cds_commands.specs.Notes.{Note, notes_from_to}
use Rattle.cds_follow.specs.Inbox.{ReplicaTurn, Begins, Shows, Requests, Accepts, Refuses, Delivers, is_accepted, is_early, received, has_place, next_place, missing, taken_by}

-- whether a turn accepts a name; and whether it is a subscribe request, or the reply to one
abbrev pub accepts_name : ReplicaTurn → Bool
accepts_name Begins = false
accepts_name (Shows shown) = false
accepts_name Requests = false
accepts_name (Accepts name) = true
accepts_name Refuses = false
accepts_name (Delivers note) = false

abbrev pub is_call : ReplicaTurn → Bool
is_call Begins = false
is_call (Shows shown) = false
is_call Requests = true
is_call (Accepts name) = true
is_call Refuses = true
is_call (Delivers note) = false

-- a note was delivered since its name was accepted, and no name was since; or it came early for the request that was answered
-- with its name, and no name was accepted since
abbrev pub CameFor : Note → List ReplicaTurn → List ReplicaTurn → Type 0
CameFor note newer older =
    ((is_accepted note.name older ≡ true) × AllByRecursion (λ turn. accepts_name turn ≡ false) newer)
    ⊎ ((since : List ReplicaTurn) × (between : List ReplicaTurn) × (newer ≡ since ++ Accepts note.name ∷ between)
    × AllByRecursion (λ turn. accepts_name turn ≡ false) since × AllByRecursion (λ turn. is_call turn ≡ false) between
    × (is_early note older ≡ true))

-- the notes that are received are exactly those that were delivered so
abbrev pub received_notes_came : Type 0
received_notes_came = (turns : List ReplicaTurn) (note : Note) →
    (Contains (received turns) note)
    ↔ ((newer : List ReplicaTurn) × (older : List ReplicaTurn) × (turns ≡ newer ++ Delivers note ∷ older) × CameFor note newer older)

-- the notes that were taken are the longest run of places from 0 on that were received: all before the next one were, and the next
-- one was not
abbrev pub the_longest_run_is_taken : Type 0
the_longest_run_is_taken = (turns : List ReplicaTurn) →
    ((place : ℕ) → place < next_place turns → has_place (received turns) place ≡ true) × (has_place (received turns) (next_place turns) ≡ false)

-- the notes that were taken since the name was accepted last, in the order in which they were
abbrev pub taken_since : List ReplicaTurn → List Note
taken_since [] = []
taken_since (Begins ∷ older) = taken_since older
taken_since (Shows shown ∷ older) = taken_since older
taken_since (Requests ∷ older) = taken_since older
taken_since (Accepts name ∷ older) = taken_by (Accepts name) older
taken_since (Refuses ∷ older) = taken_since older
taken_since (Delivers note ∷ older) = taken_since older ++ taken_by (Delivers note) older

-- each note of the longest run was taken once, in the order of places, and as it was received first: position and copy go by
-- these notes alone
abbrev pub each_note_is_taken_once : Type 0
each_note_is_taken_once = (turns : List ReplicaTurn) →
    (map (λ (note : Note). note.place) (taken_since turns) ≡ range_with_len 0 (next_place turns))
    × (taken_since turns ≡ notes_from_to 0 (next_place turns) (received turns))

-- a place is missing if and only if it is the least that was not received, and a greater one was
abbrev pub the_least_is_missing : Type 0
the_least_is_missing = (turns : List ReplicaTurn) (seq : ℕ) →
    (missing turns ≡ Some seq → (has_place (received turns) seq ≡ false) × ((less : ℕ) → less < seq → has_place (received turns) less ≡ true)
    × ((more : ℕ) × (seq < more) × (has_place (received turns) more ≡ true)))
    × (has_place (received turns) seq ≡ false → ((less : ℕ) → less < seq → has_place (received turns) less ≡ true) →
    (more : ℕ) → seq < more → has_place (received turns) more ≡ true → missing turns ≡ Some seq)
