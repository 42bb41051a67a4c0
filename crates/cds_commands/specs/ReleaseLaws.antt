-- Laws of releases and of the places of notes, over the commands alone.
use Rattle.std.specs.Prelude.{◌≡◌, ◌<◌, ◌≤◌, ◌+◌, ℕ, true, List, ◌∷◌, ◌++◌, map}
use Rattle.std.specs.List.{range_with_len}
use Rattle.cds_catalog.specs.History.{end_of}
use Rattle.cds_commands.specs.Commands.{Command, Ticks, scans_of, oldest, AreAccepted}
use Rattle.cds_commands.specs.Releases.{Release, release_size, released_to, may_release, releases_of}
use Rattle.cds_commands.specs.Notes.{Note, next_place_of, notes_of, sent_to}

-- each release is that of a tick. It begins at the end of the one before it, and comes after its pause. It ends at the greatest
-- end of the scans before the tick that its size allows. It has at least one change, so each takes at least one scan with
-- changes, however many changes that had
abbrev pub releases_go_on : Type 0
releases_go_on = (first : ℕ) (commands : List Command) (release : Release) (newer older : List Release) → AreAccepted first commands →
    releases_of first commands ≡ newer ++ release ∷ older →
    (later : List Command) × (before : List Command) × (commands ≡ later ++ Ticks release.moment ∷ before) × (releases_of first before ≡ older)
    × (release.from ≡ released_to first older) × (may_release release.moment older ≡ true)
    × (release.from < release.to) × (release.to ≤ release.from + release_size)
    × ((j : ℕ) × (end_of (scans_of first (oldest j before)) ≡ release.to))
    × ((j : ℕ) → end_of (scans_of first (oldest j before)) ≤ release.from + release_size → end_of (scans_of first (oldest j before)) ≤ release.to)

-- the notes of a name have the places 0, 1, 2 and so on, in the order in which they were sent
abbrev pub places_count_from_zero : Type 0
places_count_from_zero = (first : ℕ) (commands : List Command) (name : ℕ) →
    map (λ (note : Note). note.place) (sent_to name (notes_of first commands)) ≡ range_with_len 0 (next_place_of name (notes_of first commands))
