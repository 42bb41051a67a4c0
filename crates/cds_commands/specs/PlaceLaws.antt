-- Laws of places.
use Rattle.std.specs.Prelude.{◌≡◌, ◌<◌, ◌≤◌, ◌-◌, ◌+◌, ◌^◌, ℕ, suc, Some, None}
use Rattle.cds_commands.specs.Places.{seq_at, seq_after, reach, place_from, place_of}

-- with the wrap of the protocol, and fewer than 2^30 notes, a place is the SEQ
abbrev pub places_are_seqs : Type 0
places_are_seqs = (next seq : ℕ) → next < 2 ^ 30 → seq < 2 ^ 30 → place_of 4294967295 next seq ≡ Some seq

-- from a place on the least one with a SEQ is the true one, where that is not a whole wrap away
abbrev pub least_place_is_found : Type 0
least_place_is_found = (wrap low place : ℕ) → 0 < wrap → low ≤ place → place - low < wrap → place_from wrap (suc low) (seq_at wrap (suc place)) ≡ suc place

-- a note within reach is given its true place
abbrev pub near_places_are_true : Type 0
near_places_are_true = (wrap next place : ℕ) → 256 ≤ wrap → next < 2 ^ 63 → next ≤ place + reach wrap → place ≤ next + reach wrap →
    place_of wrap next (seq_at wrap place) ≡ Some place

-- one that is not, and is fewer than W - Q places away, is given none: neither an old one nor a new one
abbrev pub old_places_are_none : Type 0
old_places_are_none = (wrap next place : ℕ) → 256 ≤ wrap → place + reach wrap < next → next < place + (wrap - reach wrap) → place_of wrap next (seq_at wrap place) ≡ None

abbrev pub new_places_are_none : Type 0
new_places_are_none = (wrap next place : ℕ) → 256 ≤ wrap → next + reach wrap < place → place < next + (wrap - reach wrap) → place_of wrap next (seq_at wrap place) ≡ None

-- the SEQ of a next place is the one after that of the place before it
abbrev pub next_places_have_next_seqs : Type 0
next_places_have_next_seqs = (wrap place : ℕ) → 0 < wrap → seq_at wrap (suc place) ≡ seq_after wrap (seq_at wrap place)

-- at wrap 256 the place 256 has the last SEQ and the place 257 has SEQ 1 again. If 258 places were taken, a SEQ belongs to the
-- place with it that is at most 64 places away: the next one, one that was taken, or none
abbrev pub places_evaluated : Type 0
places_evaluated =
    (seq_at 256 0 ≡ 0) × (seq_at 256 256 ≡ 256) × (seq_at 256 257 ≡ 1) × (seq_at 256 513 ≡ 1) × (reach 256 ≡ 64) × (reach 257 ≡ 65)
    × (place_of 256 0 0 ≡ Some 0) × (place_of 256 257 1 ≡ Some 257) × (place_of 256 258 2 ≡ Some 258) × (place_of 256 258 199 ≡ Some 199)
    × (place_of 256 258 194 ≡ Some 194) × (place_of 256 258 193 ≡ None) × (place_of 256 258 149 ≡ None)
    × (place_of 256 258 66 ≡ Some 322) × (place_of 256 258 67 ≡ None) × (place_of 256 258 0 ≡ None) × (place_of 256 258 257 ≡ None)
    × (place_of 256 64 0 ≡ Some 0) × (place_of 256 65 0 ≡ None)
    × (place_of 4294967295 4294967295 4294967295 ≡ Some 4294967295) × (place_of 4294967295 4294967296 1 ≡ Some 4294967296)
    × (place_of 4294967295 (2 ^ 63) 1 ≡ None)
