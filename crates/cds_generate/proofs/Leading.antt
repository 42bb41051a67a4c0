-- Track 0 of a generated library is always present, and its version rises from scan to scan.
use Rattle.std.proofs.Common.{◌≡◌, ◌+◌, ◌<◌, ◌≤◌, ℕ, zero, suc, Bool, true, false, cond, ◌&&◌, nat_eq, nat_lt, List, [], ◌∷◌, length, slice_get, replicate, Option, Some, None, refl, ap, arith}
use Rattle.std.proofs.lemmas.Bool.{ltb-false}
use Rattle.cds_generate.specs.declared.library.Track.{Track}
use Rattle.cds_generate.specs.Draws.{next_number, drawn_below}
use Rattle.cds_generate.specs.Library.{LibraryState, first_track, raised, turned, changed, at_place, drawn_changes, changes_of, first_raised, library_at}
use Rattle.cds_generate.specs.History.{first_history, kind_of, sent_by, late_by, after_steps}

-- ---- track 0

abbrev pub first_version : List Track → ℕ
first_version [] = 0
first_version (track ∷ tracks) = track.version

abbrev pub IsLed : List Track → Type 0
IsLed [] = ⊥
IsLed (track ∷ tracks) = track.present ≡ true

pub led-first : (tracks : List Track) → IsLed tracks → slice_get tracks 0 ≡ Some (record { version = first_version tracks; present = true })
led-first [] led = absurd led
led-first (track ∷ tracks) led = ap (λ present. Some (record { version = track.version; present = present })) led

pub led-some : (tracks : List Track) → IsLed tracks → 0 < length tracks
led-some [] led = absurd led
led-some (track ∷ tracks) led = omega arith

-- ---- its changes

led-changed : (n kind : ℕ) (tracks : List Track) → IsLed tracks → IsLed (at_place n (changed n kind) tracks) × (first_version tracks ≤ first_version (at_place n (changed n kind) tracks))
led-changed n kind [] led = absurd led
led-changed zero kind (track ∷ tracks) led = by (nat_eq kind 0)
  where
    by : (b : Bool) → ((cond (b && false) (turned track) (raised track)).present ≡ true) × (track.version ≤ (cond (b && false) (turned track) (raised track)).version)
    by true = (led, omega arith)
    by false = (led, omega arith)
led-changed (suc n) kind (track ∷ tracks) led = (led, omega arith)

led-changes : (k : ℕ) (library : LibraryState) → IsLed library.tracks → IsLed (drawn_changes k library).tracks × (first_version library.tracks ≤ first_version (drawn_changes k library).tracks)
unfolding drawn_changes
led-changes zero library led = (led, omega arith)
led-changes (suc k) library led =
    let rest = led-changes k library led in
    let now = drawn_changes k library in
    let one =
    led-changed (drawn_below (length now.tracks) (next_number now.number)) (drawn_below 4 (next_number (next_number now.number))) now.tracks rest.0 in
    let low = rest.1 in
    let more = one.1 in
    (one.0, omega (arith, low, more))

led-raised : (tracks : List Track) → IsLed tracks → IsLed (at_place 0 raised tracks) × (first_version tracks + 1 ≤ first_version (at_place 0 raised tracks))
led-raised [] led = absurd led
led-raised (track ∷ tracks) led = (led, omega arith)

pub led-library : (step : ℕ) (library : LibraryState) → IsLed library.tracks → IsLed (library_at step library).tracks × (1 < step → first_version library.tracks < first_version (library_at step library).tracks)
led-library step library led = by (nat_lt 1 step) refl
  where
    by : (b : Bool) → nat_lt 1 step ≡ b
        → IsLed (cond b (drawn_changes (changes_of (length library.tracks)) (first_raised library)) library).tracks
        × (1 < step → first_version library.tracks < first_version (cond b (drawn_changes (changes_of (length library.tracks)) (first_raised library)) library).tracks)
    by true e =
        let up = led-raised library.tracks led in
        let on = led-changes (changes_of (length library.tracks)) (first_raised library) up.0 in
        let one = up.1 in
        let two = on.1 in
        (on.0, λ later. omega (arith, one, two))
    by false e = (led, λ later. let early = ltb-false 1 step e in absurd (omega (arith, early, later)))

led-replicate : (count : ℕ) → 1 ≤ count → IsLed (replicate count first_track)
led-replicate zero some = absurd (omega (arith, some))
led-replicate (suc count) some = refl

pub led-steps : (k seed count : ℕ) → 1 ≤ count → IsLed (after_steps k (first_history seed count)).library.tracks
unfolding after_steps
led-steps zero seed count some = led-replicate count some
led-steps (suc k) seed count some = (led-library (suc k) (after_steps k (first_history seed count)).library (led-steps k seed count some)).0

-- ---- notes

-- a late note was sent
abbrev pub WasSent : Option ℕ → ℕ → Type 0
WasSent None sent = Unit {0}
WasSent (Some note) sent = (1 ≤ note) × (note ≤ sent)

late-step : (kind note : ℕ) → 1 ≤ note → WasSent (late_by kind note) (sent_by kind note)
late-step kind note some = by (nat_eq kind 2) (nat_eq kind 0)
  where
    by : (a b : Bool) → WasSent (cond a (Some note) None) (cond b (note + 1) note)
    by true true = (some, omega arith)
    by true false = (some, omega arith)
    by false b = tt

pub late-sent : (k seed count : ℕ) → WasSent (after_steps k (first_history seed count)).late (after_steps k (first_history seed count)).sent
unfolding after_steps
late-sent zero seed count = tt
late-sent (suc k) seed count =
    let before = after_steps k (first_history seed count) in
    late-step (kind_of (library_at (suc k) before.library)) (before.sent + 1) (omega arith)
