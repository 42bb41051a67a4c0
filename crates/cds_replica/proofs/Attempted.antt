-- The load in a replica's turns, by its attempt.
use Rattle.std.proofs.Common.{◌≡◌, inl, inr, ◌+◌, ℕ, Bool, true, false, cond, nat_eq, nat_lt, List, [], ◌∷◌, Option, Some, None, Result, Ok, Err, refl, sym, ap, ◌∙◌, subst, true≢false, zero, suc, Bor}
use Rattle.std.specs.Prelude.{IfSome, option_copied, slice_get}
use Rattle.std.specs.List.{AllByRecursion}
use Rattle.cds_object.specs.Object.{ObjectRow}
use Rattle.cds_object.specs.declared.event.Event.{Event}
use Rattle.cds_load.specs.Attempts.{Verdict, verdict_of, attempt_of, says_by, ShowsRows}
use Rattle.cds_load.specs.Stages.{Held, Idle, HasCopy, Shows as LoadShows, held_by, taken, next_ask as load_ask, says as load_says, copied as load_copied, BehindLoad as LoadRuns, Stands as LoadStands, Loads}
use Rattle.cds_load.specs.declared.exchange.Ask.{Ask}
use Rattle.cds_load.specs.declared.exchange.Read.{Read}
use Rattle.cds_load.specs.declared.exchange.Shown.{Shown}
use Rattle.cds_follow.specs.Copy.{KnownRow, Happening, rows_after, least_unread, read_up_to}
use Rattle.cds_follow.specs.Inbox.{ReplicaTurn}
use Rattle.cds_follow.specs.Follow.{Known, position, first_torn, judged, counted_from, load_ended, loaded, with_reply, known_by, next_ask, ask_of, copy_says, says_without_gap, says_of, copied}
use Rattle.cds_commands.specs.Notes.{changes_above}
use Rattle.cds_follow.specs.KnownLaws.{has_copy}
use Rattle.cds_follow.specs.LoadTurns.{load_turns}
use Rattle.cds_follow.specs.Seen.{WasShown}
use Rattle.cds_follow.specs.declared.says.Says.{Says}
use Rattle.cds_follow.specs.declared.says.Says.TheVariants.{BehindLoad, BehindVersion, Stands}
use Rattle.cds_replica.specs.Attempted.{AsksByAttempt, TakesByAttempt, SaysByAttempt, CopiesByAttempt, EndsRefused, IsVerdict}
use Rattle.cds_replica.specs.Calls.{IsAnswer}
use Rattle.cds_replica.specs.Steps.{phase_all}
use Rattle.cds_replica.specs.State.{phase_of, ReplicaState, StandsFor}
use Rattle.cds_replica.proofs.KeptCounts.{known-copied}
use Rattle.cds_replica.proofs.Keeping.{no-gap}
use Rattle.cds_follow.specs.Wire.{says_by_seq, says_on_wire}
use Rattle.cds_follow.proofs.LoadTurns.{loads-are-of-turns}
use Rattle.cds_follow.proofs.Seen.{copies-shown}
use Rattle.cds_load.proofs.NoJumps.{no-jump}
use Rattle.cds_load.proofs.Traces.{asks-of_attempts, refusals-of_attempts, answers-of_attempts, copies-of_attempts}
use Rattle.cds_replica.specs.declared.error.AnswerError.{AnswerError}
use Rattle.cds_replica.specs.declared.error.AnswerError.TheVariants.{Unreadable, Jump, Torn, Mem}
use Rattle.cds_object.specs.Events.{update_of}
use Rattle.cds_load.specs.Outcome.{Outcome, Goes, CannotBeRead, Jumps, Tears, after_outcome}

-- ---- the next ask

ask-load : (known : Known) (held : Held) → has_copy held ≡ false → ask_of known held ≡ load_ask held
ask-load known Idle e = refl
ask-load known (Loads stage) e = refl
ask-load known (HasCopy number rows) e = absurd (true≢false e)

pub asks-by_attempt : (kept : ReplicaState) (result : Option Ask) → ((wrap : ℕ) (turns : List ReplicaTurn) → StandsFor kept wrap turns → result ≡ next_ask (known_by turns)) → AsksByAttempt kept result
asks-by_attempt kept result next wrap turns stood rows load =
    next wrap turns stood ∙ ask-load (known_by turns) (known_by turns).held load ∙ ap load_ask (loads-are-of-turns turns) ∙ asks-of_attempts (load_turns turns) rows

-- ---- replies to the load

counted-read : (rows : List ObjectRow) (known : Known) (at : ℕ) (events : List Event) → counted_from rows known at events ≡ CannotBeRead → ⊥
counted-read rows known at [] e = cc
counted-read rows known at (event ∷ events) e = by (nat_eq (update_of event) (at + 1)) (first_torn (rows_after rows known.happenings) (event ∷ events)) e
  where
    by : (b : Bool) (o : Option ℕ) → cond b (judged known (event ∷ events) o) (Jumps (at + 1) (update_of event)) ≡ CannotBeRead → ⊥
    by true (Some id) f = cc
    by true None f = cc
    by false o f = cc

loaded-read : (known : Known) (held : Held) → loaded known (Goes held) ≡ CannotBeRead → ⊥
loaded-read known Idle e = cc
loaded-read known (Loads stage) e = cc
loaded-read known (HasCopy number rows) e =
    counted-read rows (record { held = HasCopy number rows; base = number; last_note = known.last_note; kept = []; happenings = [] }) number (changes_above number known.kept) e

-- a reply that ends the load with a refusal
ends-refused : (turns : List ReplicaTurn) (shown : Shown) → ShowsRows (LoadShows shown ∷ load_turns turns) → (held : Held) (outcome : Outcome Known) →
    taken (held_by (load_turns turns)) shown ≡ Goes held → loaded (known_by turns) (Goes held) ≡ outcome → ((now : Known) → outcome ≡ Goes now → ⊥) → EndsRefused turns shown outcome
ends-refused turns shown rows Idle outcome becomes is never = absurd (never _ (sym is))
ends-refused turns shown rows (Loads stage) outcome becomes is never = absurd (never _ (sym is))
ends-refused turns shown rows (HasCopy number copy) outcome becomes is never =
    let now : held_by (LoadShows shown ∷ load_turns turns) ≡ HasCopy number copy = ap (after_outcome (held_by (load_turns turns))) becomes in
    record {
      number = number;
      complete = sym (answers-of_attempts (LoadShows shown ∷ load_turns turns) rows) ∙ ap load_says now;
      refused = ap (load_ended (known_by turns) number) (sym (copies-of_attempts (LoadShows shown ∷ load_turns turns) rows) ∙ ap load_copied now) ∙ is;
    }

-- what cannot be of this object, as a verdict and as an outcome
abbrev verdict-torn : ℕ → Verdict
verdict-torn id = Tears id

abbrev outcome-torn : ℕ → Outcome Known
outcome-torn id = Tears id

verdict-loaded : (turns : List ReplicaTurn) (shown : Shown) → ShowsRows (LoadShows shown ∷ load_turns turns) → (becomes : Outcome Held) → taken (held_by (load_turns turns)) shown ≡ becomes →
    (result : Result Read AnswerError) → IsAnswer (loaded (known_by turns) becomes) result → IsVerdict turns shown (verdict_of becomes) result
verdict-loaded turns shown rows CannotBeRead e (Ok read) is = let no : CannotBeRead ≡ Goes is.0 = is.1 in cc
verdict-loaded turns shown rows CannotBeRead e (Err Unreadable) is = refl
verdict-loaded turns shown rows CannotBeRead e (Err (Jump expected first)) is = cc
verdict-loaded turns shown rows CannotBeRead e (Err (Torn id)) is = cc
verdict-loaded turns shown rows CannotBeRead e (Err Mem) is = tt
verdict-loaded turns shown rows (Jumps expected first) e result is = absurd (no-jump (held_by (load_turns turns)) shown expected first e)
verdict-loaded turns shown rows (Tears other) e (Ok read) is = let no : Tears other ≡ Goes is.0 = is.1 in cc
verdict-loaded turns shown rows (Tears other) e (Err Unreadable) is = cc
verdict-loaded turns shown rows (Tears other) e (Err (Jump expected first)) is = cc
verdict-loaded turns shown rows (Tears other) e (Err (Torn id)) is = inl same
  where
    same : verdict-torn other ≡ verdict-torn id
    same = ap verdict-torn (tears other id is)
      where
        tears : (a b : ℕ) → outcome-torn a ≡ outcome-torn b → a ≡ b
        tears a b e = cc
verdict-loaded turns shown rows (Tears other) e (Err Mem) is = tt
verdict-loaded turns shown rows (Goes held) e (Ok read) is = refl
verdict-loaded turns shown rows (Goes held) e (Err Unreadable) is = absurd (loaded-read (known_by turns) held is)
verdict-loaded turns shown rows (Goes held) e (Err (Jump expected first)) is =
    (refl, ends-refused turns shown rows held (Jumps expected first) e is (apart expected first))
  where
    apart : (n m : ℕ) (now : Known) → Jumps n m ≡ Goes now → ⊥
    apart n m now f = cc
verdict-loaded turns shown rows (Goes held) e (Err (Torn id)) is = inr (refl, ends-refused turns shown rows held (Tears id) e is (apart id))
  where
    apart : (n : ℕ) (now : Known) → Tears n ≡ Goes now → ⊥
    apart n now f = cc
verdict-loaded turns shown rows (Goes held) e (Err Mem) is = tt

reply-loaded : (known : Known) (held : Held) (shown : Shown) → has_copy held ≡ false → with_reply known held shown ≡ loaded known (taken held shown)
reply-loaded known Idle shown e = refl
reply-loaded known (Loads stage) shown e = refl
reply-loaded known (HasCopy number rows) shown e = absurd (true≢false e)

pub takes-by_attempt : (kept : ReplicaState) (shown : Shown) (result : Result Read AnswerError)
    → ((wrap : ℕ) (turns : List ReplicaTurn) → StandsFor kept wrap turns → IsAnswer (with_reply (known_by turns) (known_by turns).held shown) result) → TakesByAttempt kept shown result
takes-by_attempt kept shown result answer wrap turns stood rows load =
    subst (λ (v : Verdict). IsVerdict turns shown v result) (refusals-of_attempts (load_turns turns) shown rows)
    (verdict-loaded turns shown rows (taken (held_by (load_turns turns)) shown) refl result
    (subst (λ (o : Outcome Known). IsAnswer o result)
    (reply-loaded (known_by turns) (known_by turns).held shown load ∙ ap (λ (h : Held). loaded (known_by turns) (taken h shown)) (loads-are-of-turns turns)) (answer wrap turns stood)))

-- ---- whether a copy stands

copy-runs : (known : Known) (o : Option ℕ) → copy_says known o ≡ BehindLoad → ⊥
copy-runs known (Some id) e = cc
copy-runs known None e = by (nat_lt (position known) (read_up_to known.happenings)) e
  where
    by : (b : Bool) → cond b (BehindVersion (read_up_to known.happenings)) (Stands (position known)) ≡ BehindLoad → ⊥
    by true f = cc
    by false f = cc

runs-same : (known : Known) (held : Held) → (says_without_gap known held ≡ BehindLoad → load_says held ≡ LoadRuns) × (load_says held ≡ LoadRuns → says_without_gap known held ≡ BehindLoad)
runs-same known Idle = (λ e. refl, λ e. refl)
runs-same known (Loads stage) = (λ e. refl, λ e. refl)
runs-same known (HasCopy number rows) = (λ e. absurd (copy-runs known (least_unread known.happenings) e), λ e. absurd (stands number e))
  where
    stands : (n : ℕ) → LoadStands n ≡ LoadRuns → ⊥
    stands n e = cc

pub says-by_attempt : (kept : ReplicaState) (result : Says) → ((wrap : ℕ) (turns : List ReplicaTurn) → StandsFor kept wrap turns → result ≡ says_on_wire wrap turns) → SaysByAttempt kept result
says-by_attempt kept result said wrap turns stood rows none =
    let whole : result ≡ says_without_gap (known_by turns) (known_by turns).held =
    said wrap turns stood ∙ ap (λ (o : Option ℕ). says_by_seq wrap (says_of o (known_by turns))) none ∙ sym (no-gap wrap (known_by turns) (known_by turns).held) in
    let load : load_says (known_by turns).held ≡ says_by (attempt_of (load_turns turns)) = ap load_says (loads-are-of-turns turns) ∙ answers-of_attempts (load_turns turns) rows in
    let same = runs-same (known_by turns) (known_by turns).held in
    (λ e. sym load ∙ same.0 (sym whole ∙ e), λ e. whole ∙ same.1 (load ∙ e))

-- ---- the rows were shown

at-place : (P : ObjectRow → Type 0) (rows : List ObjectRow) (at : ℕ) (row : ObjectRow) → AllByRecursion P rows → slice_get rows at ≡ Some row → P row
at-place P [] at row all e = absurd (cc)
at-place P (next ∷ rows) zero row all e = let same : next ≡ row = cc in subst P same all.0
at-place P (next ∷ rows) (suc at) row all e = at-place P rows at row all.1 e

pub rows-shown : (kept : ReplicaState) (at : ℕ) (result : Option (Bor ObjectRow)) (wrap : ℕ) (turns : List ReplicaTurn)
    → ((wrap : ℕ) (turns : List ReplicaTurn) → StandsFor kept wrap turns → option_copied result ≡ slice_get (copied (known_by turns)) at) → StandsFor kept wrap turns
    → IfSome result (λ row. WasShown row.now turns)
rows-shown kept at None wrap turns is stood = tt
rows-shown kept at (Some row) wrap turns is stood =
    at-place (λ (r : ObjectRow). WasShown r turns) (copied (known_by turns)) at row.now (copies-shown turns) (sym (is wrap turns stood))

-- ---- the rows of a copy are the attempt's, with what befell it since

all-held : (held : Held) (happenings : List Happening) → has_copy held ≡ true → phase_all (phase_of held happenings) ≡ rows_after (load_copied held) happenings
all-held Idle happenings e = absurd (true≢false (sym e))
all-held (Loads stage) happenings e = absurd (true≢false (sym e))
all-held (HasCopy number rows) happenings e = known-copied rows happenings

pub copies-by_attempt : (kept : ReplicaState) (rows : List KnownRow) → rows ≡ phase_all kept.known.phase → CopiesByAttempt kept rows
copies-by_attempt kept rows is wrap turns stood shown copy =
    is ∙ ap (λ (k : ReplicaState). phase_all k.known.phase) stood ∙ all-held (known_by turns).held (known_by turns).happenings copy
    ∙ ap (λ (l : List ObjectRow). rows_after l (known_by turns).happenings) (ap load_copied (loads-are-of-turns turns) ∙ copies-of_attempts (load_turns turns) shown)
