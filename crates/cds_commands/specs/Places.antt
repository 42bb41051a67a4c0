-- The place of a note among those of its subscription, where SEQs wrap: after SEQ W comes SEQ 1.
use Rattle.std.specs.Prelude.{◌+◌, ◌-◌, ◌/◌, ◌%◌, ◌^◌, ℕ, zero, suc, max, cond, nat_eq, nat_lt, nat_le, Option, Some, None}

-- the last SEQ of the protocol: UI4 has no greater number
abbrev pub last_seq : ℕ
last_seq = 4294967295

-- the SEQ of a place
abbrev pub seq_at : ℕ → ℕ → ℕ
seq_at wrap zero = 0
seq_at wrap (suc k) = suc (k % wrap)

-- the SEQ after a SEQ: 1 after the last one
abbrev pub seq_after : ℕ → ℕ → ℕ
seq_after wrap seq = cond (nat_lt seq wrap) (seq + 1) 1

-- how far from the place after those taken a place may be: a quarter of the wrap, rounded up
abbrev pub reach : ℕ → ℕ
reach wrap = (wrap + 3) / 4

-- past this place no note is known any more
abbrev pub place_limit : ℕ
place_limit = 2 ^ 63

-- the least place from one on that has a SEQ above 0; the place to begin at is above 0 too
abbrev pub place_from : ℕ → ℕ → ℕ → ℕ
place_from wrap low seq = low + ((seq - 1) + (wrap - (low - 1) % wrap)) % wrap

abbrev pub within : ℕ → ℕ → Option ℕ
within most place = cond (nat_le place most) (Some place) None

-- the place with a SEQ that is within reach of the place after those taken; None where there is none
abbrev pub place_of : ℕ → ℕ → ℕ → Option ℕ
place_of wrap next seq =
    cond (nat_le place_limit next) None
    (cond (nat_eq seq 0) (cond (nat_le next (reach wrap)) (Some 0) None)
    (cond (nat_lt wrap seq) None
    (within (next + reach wrap) (place_from wrap (max 1 (next - reach wrap)) seq))))
