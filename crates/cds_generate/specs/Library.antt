-- The tracks of a generated library, and how they change from scan to scan (this project's profile).
use Rattle.std.specs.Prelude.{ℕ, zero, suc, ◌+◌, ◌/◌, ◌<◌, true, cond, not, nat_eq, nat_lt, ◌&&◌, List, [], ◌∷◌, length, replicate}
use Rattle.cds_generate.specs.declared.library.Track.{Track}
use Rattle.cds_generate.specs.Draws.{next_number, drawn_below}

-- the tracks, which are numbered from 0, and the number of the generator of draws
pub record LibraryState : Type 0 where
  pub number : ℕ
  pub tracks : List Track

-- at first each track is present, in version 0
abbrev pub first_track : Track
first_track = record { version = 0; present = true }

abbrev pub first_library : ℕ → ℕ → LibraryState
first_library seed count = record { number = seed; tracks = replicate count first_track }

-- the version of a track rises by one
abbrev pub raised : Track → Track
raised track = record { version = track.version + 1; present = track.present }

-- a track goes, or comes back
abbrev pub turned : Track → Track
turned track = record { version = track.version; present = not track.present }

-- a drawn change of the track of a number. If the kind is 0 and it is not track 0, it goes or comes back; else its version rises
abbrev pub changed : ℕ → ℕ → Track → Track
changed number kind track = cond (nat_eq kind 0 && not (nat_eq number 0)) (turned track) (raised track)

-- tracks with a change of the one at a place
abbrev pub at_place : ℕ → (Track → Track) → List Track → List Track
at_place n change [] = []
at_place zero change (track ∷ tracks) = change track ∷ tracks
at_place (suc n) change (track ∷ tracks) = track ∷ at_place n change tracks

-- one drawn change, by the generator's numbers after its two draws: of the track, and of the kind among four
abbrev pub changed_by : ℕ → ℕ → List Track → List Track
changed_by first second tracks = at_place (drawn_below (length tracks) first) (changed (drawn_below (length tracks) first) (drawn_below 4 second)) tracks

abbrev pub drawn_change : LibraryState → LibraryState
drawn_change library = record {
  number = next_number (next_number library.number);
  tracks = changed_by (next_number library.number) (next_number (next_number library.number)) library.tracks;
}

-- this many drawn changes, one after the other
unfoldable pub drawn_changes : ℕ → LibraryState → LibraryState
drawn_changes zero library = library
drawn_changes (suc n) library = drawn_change (drawn_changes n library)

-- how many changes are drawn for a scan
abbrev pub changes_of : ℕ → ℕ
changes_of count = count / 50 + 1

-- track 0 changes before each scan
abbrev pub first_raised : LibraryState → LibraryState
first_raised library = record { number = library.number; tracks = at_place 0 raised library.tracks }

-- the library at the scan of a step. Before the first step nothing changes
abbrev pub library_at : ℕ → LibraryState → LibraryState
library_at step library = cond (nat_lt 1 step) (drawn_changes (changes_of (length library.tracks)) (first_raised library)) library

-- a draw that changes no track
abbrev pub drawn : LibraryState → LibraryState
drawn library = record { number = next_number library.number; tracks = library.tracks }

-- ---- bounds

-- the versions of all tracks are below a number
abbrev pub AreBelow : ℕ → List Track → Type 0
AreBelow n [] = Unit {0}
AreBelow n (track ∷ tracks) = (track.version < n) × AreBelow n tracks

-- a version has 32 bits
abbrev pub version_limit : ℕ
version_limit = 4294967295

-- at most this many changes are drawn for a scan of at most 10,000 tracks
abbrev pub most_changes : ℕ
most_changes = 201
