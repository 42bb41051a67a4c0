-- The history of a generated library: what each step draws, and which notes were sent by then (this project's profile).
use Rattle.std.specs.Prelude.{ℕ, zero, suc, ◌+◌, ◌-◌, ◌<◌, ◌≤◌, cond, nat_eq, length, Option, Some, None}
use Rattle.cds_generate.specs.Draws.{next_number, drawn_below}
use Rattle.cds_generate.specs.Library.{LibraryState, first_library, library_at, drawn, AreBelow, version_limit, most_changes}
use Rattle.cds_generate.specs.declared.history.Step.{Step}

-- the library, how many notes were sent, and the note of the newest step if it is delivered a step late
pub record HistoryState : Type 0 where
  pub library : LibraryState
  pub sent : ℕ
  pub late : Option ℕ

-- before the first step the replica has loaded, and has its first note
abbrev pub first_history : ℕ → ℕ → HistoryState
first_history seed count = record { library = first_library seed count; sent = 1; late = None }

-- what is drawn for the note of a step, from 0 to 9. With 0 there is a new subscription, with 1 the note is delivered twice, with 2
-- it is late, and else it is delivered once
abbrev pub kind_of : LibraryState → ℕ
kind_of library = drawn_below 10 (next_number library.number)

-- what a step has to write besides the library: its number from 1 on, its kind, the number of its note, and the late note of the
-- step before
abbrev pub step_at : ℕ → HistoryState → Step
step_at number history = record {
  number = number;
  kind = kind_of (library_at number history.library);
  note = history.sent + 1;
  late = history.late;
}

-- a new subscription sends one more note
abbrev pub sent_by : ℕ → ℕ → ℕ
sent_by kind note = cond (nat_eq kind 0) (note + 1) note

-- the note that is late
abbrev pub late_by : ℕ → ℕ → Option ℕ
late_by kind note = cond (nat_eq kind 2) (Some note) None

abbrev pub after_step : ℕ → HistoryState → HistoryState
after_step number history = record {
  library = drawn (library_at number history.library);
  sent = sent_by (kind_of (library_at number history.library)) (history.sent + 1);
  late = late_by (kind_of (library_at number history.library)) (history.sent + 1);
}

-- after this many steps, of which the first has number 1
unfoldable pub after_steps : ℕ → HistoryState → HistoryState
after_steps zero history = history
after_steps (suc n) history = after_step (suc n) (after_steps n history)

-- ---- bounds

-- one more step may follow: there are tracks, not too many, and no number reaches its limit
pub record CanGoOn (history : HistoryState) : Type 0 where
  pub some : 0 < length history.library.tracks
  pub few : length history.library.tracks ≤ 10000
  pub room : AreBelow (version_limit - most_changes - 1) history.library.tracks
  pub notes : history.sent < version_limit - 1
