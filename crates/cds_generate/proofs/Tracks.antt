-- Tracks and the numbers of a history stay within bounds.
use Rattle.std.proofs.Common.{◌≡◌, ◌≤◌, ◌<◌, ◌+◌, ◌*◌, ◌-◌, ℕ, zero, suc, Bool, true, false, cond, not, nat_eq, nat_lt, ◌&&◌, List, [], ◌∷◌, length, get_or, set, replicate, refl, ap, ◌∙◌, arith, add-one}
use Rattle.std.proofs.lemmas.List.{length-replicate}
use Rattle.cds_generate.specs.declared.library.Track.{Track}
use Rattle.cds_generate.specs.Draws.{next_number, drawn_below}
use Rattle.cds_generate.specs.Library.{LibraryState, first_track, raised, turned, changed, at_place, drawn_change, drawn_changes, changes_of, first_raised, library_at, AreBelow, version_limit, most_changes}
use Rattle.cds_generate.specs.History.{HistoryState, first_history, kind_of, sent_by, after_step, after_steps, CanGoOn}

-- ---- a place

pub place-length : (n : ℕ) (change : Track → Track) (tracks : List Track) → length (at_place n change tracks) ≡ length tracks
place-length n change [] = refl
place-length zero change (track ∷ tracks) = refl
place-length (suc n) change (track ∷ tracks) = ap suc (place-length n change tracks)

pub place-set : (n : ℕ) (change : Track → Track) (tracks : List Track) (d : Track) → n < length tracks →
    at_place n change tracks ≡ set tracks n (change (get_or tracks n d))
place-set n change [] d within = absurd (omega (arith, within))
place-set zero change (track ∷ tracks) d within = refl
place-set (suc n) change (track ∷ tracks) d within = ap (λ (ts : List Track). track ∷ ts) (place-set n change tracks d (omega (arith, within)))

-- ---- versions

pub below-more : (n m : ℕ) (tracks : List Track) → n ≤ m → AreBelow n tracks → AreBelow m tracks
below-more n m [] few are = tt
below-more n m (track ∷ tracks) few are = (omega (arith, are.0, few), below-more n m tracks few are.1)

pub below-at : (n k : ℕ) (tracks : List Track) (d : Track) → k < length tracks → AreBelow n tracks → (get_or tracks k d).version < n
below-at n k [] d within are = absurd (omega (arith, within))
below-at n zero (track ∷ tracks) d within are = are.0
below-at n (suc k) (track ∷ tracks) d within are = below-at n k tracks d (omega (arith, within)) are.1

below-place : (n k : ℕ) (change : Track → Track) (tracks : List Track) → ((track : Track) → track.version < n → (change track).version < n + 1) →
    AreBelow n tracks → AreBelow (n + 1) (at_place k change tracks)
below-place n k change [] rises are = tt
below-place n zero change (track ∷ tracks) rises are = (rises track are.0, below-more n (n + 1) tracks (omega arith) are.1)
below-place n (suc k) change (track ∷ tracks) rises are = (omega (arith, are.0), below-place n k change tracks rises are.1)

below-first : (count : ℕ) → AreBelow 1 (replicate count first_track)
below-first zero = tt
below-first (suc count) = (omega arith, below-first count)

raised-rises : (n : ℕ) (track : Track) → track.version < n → (raised track).version < n + 1
raised-rises n track low = omega (arith, low)

changed-rises : (n number kind : ℕ) (track : Track) → track.version < n → (changed number kind track).version < n + 1
changed-rises n number kind track low = by (nat_eq kind 0 && not (nat_eq number 0))
  where
    by : (b : Bool) → (cond b (turned track) (raised track)).version < n + 1
    by true = omega (arith, low)
    by false = omega (arith, low)

-- ---- drawn changes

module _ (library : LibraryState) where
  abbrev at : ℕ
  at = drawn_below (length library.tracks) (next_number library.number)

  abbrev kind : ℕ
  kind = drawn_below 4 (next_number (next_number library.number))

  pub change-length : length (drawn_change library).tracks ≡ length library.tracks
  change-length = place-length at (changed at kind) library.tracks

  pub change-below : (n : ℕ) → AreBelow n library.tracks → AreBelow (n + 1) (drawn_change library).tracks
  change-below n are = below-place n at (changed at kind) library.tracks (changed-rises n at kind) are

pub changes-none : (library : LibraryState) → drawn_changes 0 library ≡ library
unfolding drawn_changes
changes-none library = refl

pub changes-more : (k : ℕ) (library : LibraryState) → drawn_changes (k + 1) library ≡ drawn_change (drawn_changes k library)
unfolding drawn_changes
changes-more k library = rw add-one refl

pub changes-length : (k : ℕ) (library : LibraryState) → length (drawn_changes k library).tracks ≡ length library.tracks
unfolding drawn_changes
changes-length zero library = refl
changes-length (suc k) library = change-length (drawn_changes k library) ∙ changes-length k library

pub changes-below : (k n : ℕ) (library : LibraryState) → AreBelow n library.tracks → AreBelow (n + k) (drawn_changes k library).tracks
unfolding drawn_changes
changes-below zero n library are = below-more n (n + 0) library.tracks (omega arith) are
changes-below (suc k) n library are =
    below-more (n + k + 1) (n + suc k) (drawn_change (drawn_changes k library)).tracks (omega arith)
    (change-below (drawn_changes k library) (n + k) (changes-below k n library are))

-- ---- the library of a step

pub first-length : (library : LibraryState) → length (first_raised library).tracks ≡ length library.tracks
first-length library = place-length 0 raised library.tracks

pub first-below : (n : ℕ) (library : LibraryState) → AreBelow n library.tracks → AreBelow (n + 1) (first_raised library).tracks
first-below n library are = below-place n 0 raised library.tracks (raised-rises n) are

pub few-changes : (count : ℕ) → count ≤ 10000 → changes_of count ≤ most_changes
few-changes count few = omega (arith, few)

pub library-length : (step : ℕ) (library : LibraryState) → length (library_at step library).tracks ≡ length library.tracks
library-length step library = by (nat_lt 1 step)
  where
    by : (b : Bool) → length (cond b (drawn_changes (changes_of (length library.tracks)) (first_raised library)) library).tracks ≡ length library.tracks
    by true = changes-length (changes_of (length library.tracks)) (first_raised library) ∙ first-length library
    by false = refl

pub library-below : (step n : ℕ) (library : LibraryState) → length library.tracks ≤ 10000 → AreBelow n library.tracks → AreBelow (n + 202) (library_at step library).tracks
library-below step n library few are = by (nat_lt 1 step)
  where
    count : ℕ
    count = changes_of (length library.tracks)

    by : (b : Bool) → AreBelow (n + 202) (cond b (drawn_changes (changes_of (length library.tracks)) (first_raised library)) library).tracks
    by true =
        let most = few-changes (length library.tracks) few in
        below-more (n + 1 + changes_of (length library.tracks)) (n + 202) (drawn_changes (changes_of (length library.tracks)) (first_raised library)).tracks (omega (arith, most))
        (changes-below (changes_of (length library.tracks)) (n + 1) (first_raised library) (first-below n library are))
    by false = below-more n (n + 202) library.tracks (omega arith) are

-- ---- the history

pub steps-none : (history : HistoryState) → after_steps 0 history ≡ history
unfolding after_steps
steps-none history = refl

pub steps-more : (k : ℕ) (history : HistoryState) → after_steps (k + 1) history ≡ after_step (k + 1) (after_steps k history)
unfolding after_steps
steps-more k history = rw add-one refl

pub step-length : (number : ℕ) (history : HistoryState) → length (after_step number history).library.tracks ≡ length history.library.tracks
step-length number history = library-length number history.library

-- after k steps
pub record IsBounded (k count : ℕ) (history : HistoryState) : Type 0 where
  pub size : length history.library.tracks ≡ count
  pub versions : AreBelow (1 + 202 * k) history.library.tracks
  pub notes : history.sent ≤ 1 + 2 * k

bounded-first : (seed count : ℕ) → IsBounded 0 count (first_history seed count)
bounded-first seed count = record {
  size = length-replicate count first_track;
  versions = below-first count;
  notes = omega arith;
}

sent-low : (kind note : ℕ) → sent_by kind note ≤ note + 1
sent-low kind note = by (nat_eq kind 0)
  where
    by : (b : Bool) → cond b (note + 1) note ≤ note + 1
    by true = omega arith
    by false = omega arith

bounded-step : (k count number : ℕ) (history : HistoryState) → count ≤ 10000 → IsBounded k count history → IsBounded (suc k) count (after_step number history)
bounded-step k count number history few is =
    let low = sent-low (kind_of (library_at number history.library)) (history.sent + 1) in
    record {
      size = step-length number history ∙ is.size;
      versions = below-more (1 + 202 * k + 202) (1 + 202 * suc k) (library_at number history.library).tracks (omega arith)
          (library-below number (1 + 202 * k) history.library (omega (arith, is.size, few)) is.versions);
      notes = omega (arith, low, is.notes);
    }

pub bounded-steps : (k seed count : ℕ) → count ≤ 10000 → IsBounded k count (after_steps k (first_history seed count))
unfolding after_steps
bounded-steps zero seed count few = bounded-first seed count
bounded-steps (suc k) seed count few =
    bounded-step k count (suc k) (after_steps k (first_history seed count)) few (bounded-steps k seed count few)

pub goes_on : (k seed count : ℕ) → 1 ≤ count → count ≤ 10000 → k ≤ 40 → CanGoOn (after_steps k (first_history seed count))
goes_on k seed count some few most =
    let is = bounded-steps k seed count few in
    record {
      some = omega (arith, is.size, some);
      few = omega (arith, is.size, few);
      room = below-more (1 + 202 * k) (version_limit - most_changes - 1) (after_steps k (first_history seed count)).library.tracks (omega (arith, most)) is.versions;
      notes = omega (arith, is.notes, most);
    }
