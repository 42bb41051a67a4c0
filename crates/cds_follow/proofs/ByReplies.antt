-- What a replica knows of its load goes by the replies and the notes alone.
use Rattle.std.proofs.Common.{◌≡◌, ℕ, max, Bool, true, false, cond, not, ◌&&◌, ◌||◌, List, [], ◌∷◌, Option, Some, None, unwrap_or, refl, sym, ap, ◌∙◌, true≢false}
use Rattle.std.specs.Option.{option_map}
use Rattle.cds_load.specs.Attempts.{Verdict, verdict_of, verdict_in, verdict_by, number_in, is_complete, joined, after_verdict, attempt_of, says_by}
use Rattle.cds_load.specs.Outcome.{Outcome, Goes, CannotBeRead, Jumps, Tears, after_outcome, is_no}
use Rattle.cds_load.specs.Stages.{Held, Idle, Loads, HasCopy, stage_taken, taken, Said, BehindLoad, Stands, says as load_says, ReplicaTurn as LoadTurn, Begins as LoadBegins, Shows as LoadShows, held_by}
use Rattle.cds_load.specs.declared.exchange.Shown.{Shown}
use Rattle.cds_load.proofs.Traces.{refusals-of_attempts, answers-of_attempts}
use Rattle.cds_commands.specs.Notes.{Note}
use Rattle.cds_follow.specs.Inbox.{ReplicaTurn, Begins, Shows, Requests, Accepts, Refuses, Delivers, arrival, taken_by}
use Rattle.cds_follow.specs.Follow.{Known, position, load_begun, greatest_of, is_drop, with_notes, loaded, with_reply, known_by, is_turned_away, is_refused}
use Rattle.cds_follow.specs.KnownLaws.{has_copy, shown_number, NoneRefused}
use Rattle.cds_follow.specs.LoadTurns.{load_turns, ShowsRows}
use Rattle.cds_follow.specs.CourseLaws.{Course, stands_by, attempt_with, and_reply, and_notes, course_of, loads_go_by_replies}
use Rattle.cds_follow.proofs.Ended.{reply-end}
use Rattle.cds_follow.proofs.Happened.{neither}
use Rattle.cds_follow.proofs.Heard.{notes-leave, notes-heard, reply-heard}
use Rattle.cds_follow.proofs.LoadTurns.{loads-are-of-turns, loads-show-rows}

-- ---- whether a copy stands

abbrev is_standing : Said → Bool
is_standing BehindLoad = false
is_standing (Stands number) = true

said-held : (held : Held) → is_standing (load_says held) ≡ has_copy held
said-held Idle = refl
said-held (Loads stage) = refl
said-held (HasCopy number rows) = refl

said-by : (o : Option (List Shown)) → is_standing (says_by o) ≡ stands_by o
said-by None = refl
said-by (Some attempt) = by (is_complete attempt) (unwrap_or (number_in attempt) 0)
  where
    by : (b : Bool) (number : ℕ) → is_standing (cond b (Stands number) BehindLoad) ≡ b
    by true number = refl
    by false number = refl

copy-by : (turns : List ReplicaTurn) → ShowsRows turns → has_copy (known_by turns).held ≡ stands_by (attempt_of (load_turns turns))
copy-by turns rows =
    ap has_copy (loads-are-of-turns turns) ∙ sym (said-held (held_by (load_turns turns)))
    ∙ ap is_standing (answers-of_attempts (load_turns turns) (loads-show-rows turns rows)) ∙ said-by (attempt_of (load_turns turns))

-- ---- notes

abbrev Goes_by : List LoadTurn → Known → Course → Type 0
Goes_by loads known course = (attempt_of loads ≡ course.attempt) × (known.base ≡ course.base) × (known.last_note ≡ course.last_note)

notes-course : (notes : List Note) (loads : List LoadTurn) (known : Known) (course : Course) → Goes_by loads known course → is_no (with_notes notes known) ≡ false
    → Goes_by (cond (is_drop (position known) notes) (LoadBegins ∷ loads) loads) (after_outcome known (with_notes notes known)) (and_notes notes course)
notes-course notes loads known course is free =
    let left = leaves (with_notes notes known) refl free in (
      begins (is_drop (position known) notes) ∙ (λ i. cond (is_drop (max (is.1 i) (is.2 i)) notes) (Some []) (is.0 i)),
      left.0 ∙ is.1,
      left.1 ∙ ap (λ (n : ℕ). greatest_of n notes) is.2,
    )
  where
    begins : (b : Bool) → attempt_of (cond b (LoadBegins ∷ loads) loads) ≡ cond b (Some []) (attempt_of loads)
    begins true = refl
    begins false = refl

    start : (b : Bool) → (cond b (load_begun known) known).base ≡ known.base
    start true = refl
    start false = refl

    leaves : (o : Outcome Known) → with_notes notes known ≡ o → is_no o ≡ false
        → ((after_outcome known o).base ≡ known.base) × ((after_outcome known o).last_note ≡ greatest_of known.last_note notes)
    leaves (Goes now) e k = ((notes-leave notes known now e).1 ∙ start (is_drop (position known) notes), notes-heard notes known now e)
    leaves CannotBeRead e k = absurd (true≢false k)
    leaves (Jumps expected first) e k = absurd (true≢false k)
    leaves (Tears id) e k = absurd (true≢false k)

-- ---- replies

goes-free : (known : Known) (t : Outcome Held) → is_no (loaded known t) ≡ false → is_no t ≡ false
goes-free known (Goes held) free = refl
goes-free known CannotBeRead free = free
goes-free known (Jumps expected first) free = free
goes-free known (Tears id) free = free

taken-free : (known : Known) (held : Held) (shown : Shown) → has_copy held ≡ false → is_no (with_reply known held shown) ≡ false → is_no (taken held shown) ≡ false
taken-free known Idle shown none free = free
taken-free known (Loads stage) shown none free = goes-free known (stage_taken stage shown) free
taken-free known (HasCopy number rows) shown none free = absurd (true≢false none)

verdict-free : (t : Outcome Held) → is_no (verdict_of t) ≡ is_no t
verdict-free (Goes held) = refl
verdict-free CannotBeRead = refl
verdict-free (Jumps expected first) = refl
verdict-free (Tears id) = refl

joined-fine : (attempt : List Shown) (shown : Shown) (verdict : Verdict) → is_no verdict ≡ false → after_verdict verdict attempt shown ≡ joined attempt shown
joined-fine attempt shown (Goes done) free = refl
joined-fine attempt shown CannotBeRead free = absurd (true≢false free)
joined-fine attempt shown (Jumps expected first) free = absurd (true≢false free)
joined-fine attempt shown (Tears id) free = absurd (true≢false free)

joined-by : (o : Option (List Shown)) (shown : Shown) → is_no (verdict_by o shown) ≡ false
    → option_map (λ attempt. after_verdict (verdict_in attempt shown) attempt shown) o ≡ option_map (λ attempt. joined attempt shown) o
joined-by None shown free = refl
joined-by (Some attempt) shown free = ap (λ replies. Some replies) (joined-fine attempt shown (verdict_in attempt shown) free)

module _ (older : List ReplicaTurn) (shown : Shown) (free : is_refused (Shows shown) older ≡ false) (rows : ShowsRows (Shows shown ∷ older))
    (is : Goes_by (load_turns older) (known_by older) (course_of older)) where
  copy-before : has_copy (known_by older).held ≡ stands_by (course_of older).attempt
  copy-before = copy-by older rows.1 ∙ ap stands_by is.0

  -- a reply of a load joins the attempt
  joins : has_copy (known_by older).held ≡ false → attempt_of (LoadShows shown ∷ load_turns older) ≡ option_map (λ attempt. joined attempt shown) (attempt_of (load_turns older))
  joins none =
      joined-by (attempt_of (load_turns older)) shown
      (ap is_no (sym (refusals-of_attempts (load_turns older) shown (rows.0, loads-show-rows older rows.1)))
      ∙ verdict-free (taken (held_by (load_turns older)) shown)
      ∙ ap (λ (h : Held). is_no (taken h shown)) (sym (loads-are-of-turns older))
      ∙ taken-free (known_by older) (known_by older).held shown none free)

  attempt-after : attempt_of (load_turns (Shows shown ∷ older)) ≡ attempt_with shown (course_of older).attempt
  attempt-after =
      by (has_copy (known_by older).held) refl
      ∙ (λ i. cond (copy-before i) (is.0 i) (option_map (λ attempt. joined attempt shown) (is.0 i)))
    where
      by : (b : Bool) → has_copy (known_by older).held ≡ b
          → attempt_of (cond (b || is_refused (Shows shown) older) (load_turns older) (LoadShows shown ∷ load_turns older))
          ≡ cond b (attempt_of (load_turns older)) (option_map (λ attempt. joined attempt shown) (attempt_of (load_turns older)))
      by true e = refl
      by false e = (λ i. attempt_of (cond (free i) (load_turns older) (LoadShows shown ∷ load_turns older))) ∙ joins e

  copy-after : has_copy (known_by (Shows shown ∷ older)).held ≡ stands_by (attempt_with shown (course_of older).attempt)
  copy-after = copy-by (Shows shown ∷ older) rows ∙ ap stands_by attempt-after

  last-after : (o : Outcome Known) → with_reply (known_by older) (known_by older).held shown ≡ o → (after_outcome (known_by older) o).last_note ≡ (known_by older).last_note
  last-after (Goes now) e = reply-heard (known_by older) now (known_by older).held shown e
  last-after CannotBeRead e = refl
  last-after (Jumps expected first) e = refl
  last-after (Tears id) e = refl

  reply-course : Goes_by (load_turns (Shows shown ∷ older)) (known_by (Shows shown ∷ older)) (and_reply shown (course_of older))
  reply-course = (
    attempt-after,
    reply-end (known_by older) shown ∙ (λ i. cond (not (copy-before i) && copy-after i) (shown_number shown) (is.1 i)),
    last-after (with_reply (known_by older) (known_by older).held shown) refl ∙ is.2,
  )

-- ---- turns

course-is : (turns : List ReplicaTurn) → NoneRefused turns → ShowsRows turns → Goes_by (load_turns turns) (known_by turns) (course_of turns)
course-is [] none rows = (refl, refl, refl)
course-is (Begins ∷ older) none rows = let is = course-is older none.1 rows in (refl, is.1, is.2)
course-is (Shows shown ∷ older) none rows = reply-course older shown none.0 rows (course-is older none.1 rows.1)
course-is (Requests ∷ older) none rows = course-is older none.1 rows
course-is (Accepts name ∷ older) none rows =
    notes-course (taken_by (Accepts name) older) (load_turns older) (known_by older) (course_of older) (course-is older none.1 rows) none.0
course-is (Refuses ∷ older) none rows = course-is older none.1 rows
course-is (Delivers note ∷ older) none rows =
    notes-course (taken_by (Delivers note) older) (load_turns older) (known_by older) (course_of older) (course-is older none.1 rows)
    (neither (is_turned_away (arrival note older)) (is_no (with_notes (taken_by (Delivers note) older) (known_by older))) none.0).1

pub go-by-replies : loads_go_by_replies
go-by-replies turns none rows =
    let is = course-is turns none rows in
    record {
      attempt = is.0;
      copy = copy-by turns rows ∙ ap stands_by is.0;
      base = is.1;
      at = λ i. max (is.1 i) (is.2 i);
    }
