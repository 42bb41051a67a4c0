-- The load, the number that the last ended load read and the position, by replies and notes alone: no word of what is known or
-- held stands in them.
use Rattle.std.specs.Prelude.{◌≡◌, ℕ, max, Bool, false, cond, not, ◌&&◌, List, [], ◌∷◌, Option, Some, None}
use Rattle.std.specs.Option.{option_map}
use Rattle.cds_load.specs.Attempts.{joined, is_complete, attempt_of}
use Rattle.cds_load.specs.declared.exchange.Shown.{Shown}
use Rattle.cds_commands.specs.Notes.{Note}
use Rattle.cds_follow.specs.Inbox.{ReplicaTurn, Begins, Shows, Requests, Accepts, Refuses, Delivers, taken_by}
use Rattle.cds_follow.specs.Follow.{position, greatest_of, is_drop, known_by}
use Rattle.cds_follow.specs.KnownLaws.{has_copy, shown_number, NoneRefused}
use Rattle.cds_follow.specs.LoadTurns.{load_turns, ShowsRows}

-- the replies of the attempt that runs or has ended, none before the first load; the number that was shown when a load ended last;
-- and the greatest number of a note that was taken
pub record Course : Type 0 where
  pub attempt : Option (List Shown)
  pub base : ℕ
  pub last_note : ℕ

-- whether a copy stands: the attempt is complete
abbrev pub stands_by : Option (List Shown) → Bool
stands_by None = false
stands_by (Some attempt) = is_complete attempt

-- the attempt after one more reply; while a copy stands, a reply is of an unread object
abbrev pub attempt_with : Shown → Option (List Shown) → Option (List Shown)
attempt_with shown attempt = cond (stands_by attempt) attempt (option_map (λ replies. joined replies shown) attempt)

abbrev pub and_reply : Shown → Course → Course
and_reply shown course = record {
  attempt = attempt_with shown course.attempt;
  base = cond (not (stands_by course.attempt) && stands_by (attempt_with shown course.attempt)) (shown_number shown) course.base;
  last_note = course.last_note;
}

-- notes that are taken: a first note above the position begins a load
abbrev pub and_notes : List Note → Course → Course
and_notes notes course = record {
  attempt = cond (is_drop (max course.base course.last_note) notes) (Some []) course.attempt;
  base = course.base;
  last_note = greatest_of course.last_note notes;
}

abbrev pub course_of : List ReplicaTurn → Course
course_of [] = record { attempt = None; base = 0; last_note = 0 }
course_of (Begins ∷ older) = record (course_of older) { attempt = Some [] }
course_of (Shows shown ∷ older) = and_reply shown (course_of older)
course_of (Requests ∷ older) = course_of older
course_of (Accepts name ∷ older) = and_notes (taken_by (Accepts name) older) (course_of older)
course_of (Refuses ∷ older) = course_of older
course_of (Delivers note ∷ older) = and_notes (taken_by (Delivers note) older) (course_of older)

-- what a replica knows goes by it: the attempt, whether a copy stands, the number of the last ended load, and the position
pub record GoesByCourse (turns : List ReplicaTurn) : Type 0 where
  pub attempt : attempt_of (load_turns turns) ≡ (course_of turns).attempt
  pub copy : has_copy (known_by turns).held ≡ stands_by (course_of turns).attempt
  pub base : (known_by turns).base ≡ (course_of turns).base
  pub at : position (known_by turns) ≡ max (course_of turns).base (course_of turns).last_note

-- so of all turns of which none is refused, and whose replies show rows
abbrev pub loads_go_by_replies : Type 0
loads_go_by_replies = (turns : List ReplicaTurn) → NoneRefused turns → ShowsRows turns → GoesByCourse turns
