-- What is kept beside the notes, turn by turn.
use Rattle.std.proofs.Common.{◌≡◌, ◌+◌, ℕ, Bool, true, false, cond, nat_eq, nat_lt, List, [], ◌∷◌, ◌++◌, map, Option, Some, None, refl, sym, ap, ◌∙◌}
use Rattle.std.specs.Prelude.{reverse}
use Rattle.std.specs.Option.{option_map}
use Rattle.std.specs.List.{filter_map}
use Rattle.cds_object.specs.Object.{ObjectRow}
use Rattle.cds_object.specs.declared.event.Event.{Event}
use Rattle.cds_load.specs.Stages.{Held, Idle, HasCopy, taken, Loads}
use Rattle.cds_load.specs.declared.exchange.Ask.TheVariants.{Metadata}
use Rattle.cds_load.specs.declared.exchange.Shown.{Shown}
use Rattle.cds_load.specs.declared.exchange.Shown.TheVariants.{Text, Number, Page, Fault}
use Rattle.cds_commands.specs.Notes.{Note, changes_above}
use Rattle.cds_follow.specs.Copy.{Happening, Changes, Reads, rows_after, shown_row, known_of, least_unread, read_up_to}
use Rattle.cds_commands.specs.Places.{seq_at}
use Rattle.cds_follow.specs.Inbox.{ReplicaTurn, missing}
use Rattle.cds_follow.specs.Wire.{says_by_seq, says_on_wire}
use Rattle.cds_follow.specs.declared.says.Says.TheVariants.{BehindVersion, Stands}
use Rattle.cds_follow.specs.Follow.{Known, position, first_torn, judged, counted_from, with_changes, load_begun, new_changes, greatest_of, is_drop, heard_of, with_notes, loaded, is_of, row_read, object_read, copy_read, with_reply, known_by, next_ask, ask_of, copy_says, says_without_gap, says_of, rows_held, copied}
use Rattle.cds_replica.specs.CopyState.{KeptCopy, copy_of, IsSound, AreAbove}
use Rattle.cds_replica.specs.CopySteps.{count_from, count_of, copy_read as copy_with, version_of}
use Rattle.cds_replica.specs.Ended.{end_count}
use Rattle.cds_replica.specs.State.{KeptPhase, Copies, phase_of, KeptKnown, kept_known, kept_of, NoCopy}
use Rattle.cds_replica.specs.Steps.{kept_outcome, hears_changes, with_new_changes, load_takes, with_phase, row_of_read, object_of_read, copy_takes, answers, phase_ask, copy_tells, phase_tells, tells_or_gap, kept_says, phase_rows, phase_all}
use Rattle.cds_replica.specs.NewChanges.{tells, nothing_told}
use Rattle.cds_replica.proofs.Inboxed.{missing-kept}
use Rattle.cds_replica.proofs.KeptCounts.{count-kept, known-copied, can-same, read-copied}
use Rattle.cds_replica.proofs.KeptTurns.{SoundHeld, SoundKnown, SoundTaken, taken-sound, above-filter, new-above, turns-sound}
use Rattle.cds_replica.proofs.KeptUnread.{least-kept}
use Rattle.cds_object.specs.Events.{update_of}
use Rattle.cds_load.specs.Outcome.{Outcome, Goes, CannotBeRead, Jumps, Tears, outcome_map}

-- ---- changes are counted

with-with : {X Y Z : Type 0} (f : X → Y) (g : Y → Z) (b : Outcome X) → outcome_map g (outcome_map f b) ≡ outcome_map (λ x. g (f x)) b
with-with f g (Goes x) = refl
with-with f g CannotBeRead = refl
with-with f g (Jumps expected first) = refl
with-with f g (Tears id) = refl

-- what is known with a copy that counted changes
abbrev with-copy : Known → ℕ → KeptCopy → KeptKnown
with-copy known number copy = record (kept_known known) { phase = Copies number copy }

counted-known : (rows : List ObjectRow) (number at : ℕ) (known : Known) (events : List Event) → known.held ≡ HasCopy number rows
    → kept_outcome (counted_from rows known at events) ≡ outcome_map (with-copy known number) (count_of rows (counted_from rows known at events))
counted-known rows number at known [] e = λ i. Goes (record (kept_known known) { phase = phase_of (e i) known.happenings })
counted-known rows number at known (event ∷ events) e =
    by (nat_eq (update_of event) (at + 1)) (first_torn (rows_after rows known.happenings) (event ∷ events))
  where
    by : (b : Bool) (o : Option ℕ) → kept_outcome (cond b (judged known (event ∷ events) o) (Jumps (at + 1) (update_of event)))
        ≡ outcome_map (with-copy known number) (count_of rows (cond b (judged known (event ∷ events) o) (Jumps (at + 1) (update_of event))))
    by true (Some id) = refl
    by true None = λ i. Goes (record (kept_known known) { phase = phase_of (e i) (reverse (map Changes (event ∷ events)) ++ known.happenings) })
    by false o = refl

count-known : (rows : List ObjectRow) (number at : ℕ) (known : Known) (events : List Event) → known.held ≡ HasCopy number rows → IsSound rows known.happenings → AreAbove at events
    → kept_outcome (counted_from rows known at events) ≡ outcome_map (with-copy known number) (count_from (copy_of rows known.happenings) at events)
count-known rows number at known events e sound above =
    counted-known rows number at known events e ∙ ap (outcome_map (with-copy known number)) (count-kept rows known at events sound above)

-- ---- notes are taken

with-heard : List Note → KeptKnown → KeptKnown
with-heard notes kept = record kept { last_note = greatest_of kept.last_note notes }

heard-of : (notes : List Note) (outcome : Outcome Known) → kept_outcome (heard_of notes outcome) ≡ outcome_map (with-heard notes) (kept_outcome outcome)
unfolding with-heard
heard-of notes (Goes now) = refl
heard-of notes CannotBeRead = refl
heard-of notes (Jumps expected first) = refl
heard-of notes (Tears id) = refl

-- what notes tell of which the first does not drop the copy
stays-kept : (held : Held) (known : Known) (notes : List Note) → known.held ≡ held → SoundHeld held known.happenings
    → kept_outcome (heard_of notes (with_changes held known (position known) (new_changes (position known) notes)))
    ≡ outcome_map (λ (now : KeptPhase × List Event). record { phase = now.0; base = known.base; last_note = greatest_of known.last_note notes; changes = now.1 })
    (hears_changes (phase_of held known.happenings) (position known) known.kept (new_changes (position known) notes))
unfolding with-heard
stays-kept Idle known notes e sound = λ i. Goes (record { phase = phase_of (e i) known.happenings; base = known.base; last_note = greatest_of known.last_note notes; changes = known.kept })
stays-kept (Loads stage) known notes e sound = λ i. Goes (record { phase = phase_of (e i) known.happenings; base = known.base; last_note = greatest_of known.last_note notes; changes = known.kept ++ new_changes (position known) notes })
stays-kept (HasCopy number rows) known notes e sound =
    heard-of notes (counted_from rows known (position known) (new_changes (position known) notes))
    ∙ ap (outcome_map (with-heard notes)) (count-known rows number (position known) known (new_changes (position known) notes) e sound (new-above (position known) notes))
    ∙ by (count_from (copy_of rows known.happenings) (position known) (new_changes (position known) notes))
  where
    by : (b : Outcome KeptCopy) → outcome_map (with-heard notes) (outcome_map (with-copy known number) b)
        ≡ outcome_map (λ (now : KeptPhase × List Event). record { phase = now.0; base = known.base; last_note = greatest_of known.last_note notes; changes = now.1 })
        (outcome_map (λ (now : KeptCopy). (Copies number now, known.kept)) b)
    by (Goes copy) = refl
    by CannotBeRead = refl
    by (Jumps expected first) = refl
    by (Tears id) = refl

-- what becomes of notes that are taken, in what is kept
pub notes-kept : (notes : List Note) (known : Known) → SoundKnown known
    → kept_outcome (with_notes notes known)
    ≡ with_new_changes (is_drop (position known) notes) (tells notes (nothing_told (position known) known.last_note)) (kept_known known)
notes-kept notes known sound = by (is_drop (position known) notes)
  where
    by : (b : Bool) → kept_outcome (heard_of notes (with_changes (cond b (load_begun known) known).held (cond b (load_begun known) known) (position known) (new_changes (position known) notes)))
        ≡ with_new_changes b (tells notes (nothing_told (position known) known.last_note)) (kept_known known)
    by true = refl
    by false = stays-kept known.held known notes refl sound

-- ---- replies are taken

-- the same where nothing else is known than the load and its end
loaded-kept : (held : Held) (known : Known) (becomes : Outcome Held) → known.held ≡ held → SoundTaken becomes
    → kept_outcome (loaded known becomes) ≡ outcome_map (with_phase (kept_known known)) (load_takes known.kept becomes)
loaded-kept held known CannotBeRead e sound = refl
loaded-kept held known (Jumps expected first) e sound = refl
loaded-kept held known (Tears id) e sound = refl
loaded-kept held known (Goes Idle) e sound = refl
loaded-kept held known (Goes (Loads stage)) e sound = refl
loaded-kept held known (Goes (HasCopy number rows)) e sound =
    count-known rows number number ended (changes_above number known.kept) refl sound (above-filter number known.kept)
    ∙ sym (with-with (Copies number) (with_phase (kept_known known)) (end_count rows number known.kept))
  where
    ended : Known
    ended = record { held = HasCopy number rows; base = number; last_note = known.last_note; kept = []; happenings = [] }

row-kept : (rows : List ObjectRow) (number id : ℕ) (known : Known) (shown : List ObjectRow) → known.held ≡ HasCopy number rows → IsSound rows known.happenings
    → kept_outcome (row_read known rows id shown) ≡ outcome_map (with-copy known number) (row_of_read (copy_of rows known.happenings) id shown)
row-kept rows number id known [] e sound = refl
row-kept rows number id known (row ∷ next ∷ others) e sound = refl
row-kept rows number id known (row ∷ []) e sound =
    by (is_of id row (known_of id (rows_after rows known.happenings)))
    ∙ ap (λ (b : Bool). outcome_map (with-copy known number) (cond b (Goes (copy_with (copy_of rows known.happenings) id (version_of row))) (Tears id)))
    (sym (can-same rows known.happenings id row))
  where
    by : (b : Bool) → kept_outcome (cond b (Goes (record known { happenings = Reads id (version_of row) ∷ known.happenings })) (Tears id))
        ≡ outcome_map (with-copy known number) (cond b (Goes (copy_with (copy_of rows known.happenings) id (version_of row))) (Tears id))
    by true =
        (λ i. Goes (record (kept_known known) { phase = phase_of (e i) (Reads id (version_of row) ∷ known.happenings) }))
        ∙ ap (λ (copy : KeptCopy). Goes (with-copy known number copy)) (sym (read-copied rows known.happenings id row sound))
    by false = refl

-- what becomes of a reply to the next ask, in what is kept
pub reply-kept : (held : Held) (known : Known) (shown : Shown) → known.held ≡ held → SoundHeld held known.happenings
    → kept_outcome (with_reply known held shown) ≡ answers (kept_known known) (phase_of held known.happenings) shown
reply-kept Idle known shown e sound = refl
reply-kept (Loads stage) known shown e sound = loaded-kept (Loads stage) known (taken (Loads stage) shown) e (taken-sound (Loads stage) known.happenings shown sound)
reply-kept (HasCopy number rows) known shown e sound =
    by (least_unread known.happenings) shown
    ∙ ap (λ (o : Option ℕ). outcome_map (with-copy known number) (copy_takes (copy_of rows known.happenings) o shown)) (least-kept rows known.happenings sound)
  where
    object : (id : ℕ) (shown : Shown) → kept_outcome (object_read known rows id shown) ≡ outcome_map (with-copy known number) (object_of_read (copy_of rows known.happenings) id shown)
    object id (Text token) = refl
    object id (Number n) = refl
    object id (Page shown total update) = row-kept rows number id known shown e sound
    object id (Fault code) = λ i. Goes (record (kept_known known) { phase = phase_of (e i) known.happenings })

    by : (o : Option ℕ) (shown : Shown) → kept_outcome (copy_read known rows o shown) ≡ outcome_map (with-copy known number) (copy_takes (copy_of rows known.happenings) o shown)
    by None shown = refl
    by (Some id) shown = object id shown

-- ---- what is asked and said

asks : (held : Held) (known : Known) → SoundHeld held known.happenings → phase_ask (phase_of held known.happenings) ≡ ask_of known held
asks Idle known sound = refl
asks (Loads stage) known sound = refl
asks (HasCopy number rows) known sound = ap (option_map (λ (id : ℕ). Metadata id)) (sym (least-kept rows known.happenings sound))

pub ask-kept : (wrap : ℕ) (turns : List ReplicaTurn) → phase_ask (kept_of wrap turns).known.phase ≡ next_ask (known_by turns)
ask-kept wrap turns = asks (known_by turns).held (known_by turns) (turns-sound turns)

tells-kept : (held : Held) (known : Known) → SoundHeld held known.happenings → phase_tells (kept_known known) (phase_of held known.happenings) ≡ says_without_gap known held
tells-kept Idle known sound = refl
tells-kept (Loads stage) known sound = refl
tells-kept (HasCopy number rows) known sound =
    ap (copy_tells (position known) (copy_of rows known.happenings)) (sym (least-kept rows known.happenings sound)) ∙ by (least_unread known.happenings)
  where
    by : (o : Option ℕ) → copy_tells (position known) (copy_of rows known.happenings) o ≡ copy_says known o
    by None = refl
    by (Some id) = refl

-- without a gap the same is said on the wire
pub no-gap : (wrap : ℕ) (known : Known) (held : Held) → says_without_gap known held ≡ says_by_seq wrap (says_without_gap known held)
no-gap wrap known Idle = refl
no-gap wrap known (Loads stage) = refl
no-gap wrap known (HasCopy number rows) = by (least_unread known.happenings)
  where
    at : (b : Bool) → cond b (BehindVersion (read_up_to known.happenings)) (Stands (position known))
        ≡ says_by_seq wrap (cond b (BehindVersion (read_up_to known.happenings)) (Stands (position known)))
    at true = refl
    at false = refl

    by : (o : Option ℕ) → copy_says known o ≡ says_by_seq wrap (copy_says known o)
    by None = at (nat_lt (position known) (read_up_to known.happenings))
    by (Some id) = refl

pub says-kept : (wrap : ℕ) (turns : List ReplicaTurn) → kept_says (kept_of wrap turns) ≡ says_on_wire wrap turns
says-kept wrap turns =
    (λ i. tells_or_gap (option_map (seq_at wrap) (sym (missing-kept turns) i)) (tells-kept (known_by turns).held (known_by turns) (turns-sound turns) i)) ∙ by (missing turns)
  where
    by : (o : Option ℕ) → tells_or_gap (option_map (seq_at wrap) o) (says_without_gap (known_by turns) (known_by turns).held) ≡ says_by_seq wrap (says_of o (known_by turns))
    by None = no-gap wrap (known_by turns) (known_by turns).held
    by (Some place) = refl

rows-held : (held : Held) (happenings : List Happening) → phase_rows (phase_of held happenings) ≡ rows_held held happenings
rows-held Idle happenings = refl
rows-held (Loads stage) happenings = refl
rows-held (HasCopy number rows) happenings = ap (filter_map shown_row) (known-copied rows happenings)

pub rows-kept : (wrap : ℕ) (turns : List ReplicaTurn) → phase_rows (kept_of wrap turns).known.phase ≡ copied (known_by turns)
rows-kept wrap turns = rows-held (known_by turns).held (known_by turns).happenings

all-rows : (phase : KeptPhase) → filter_map shown_row (phase_all phase) ≡ phase_rows phase
all-rows (NoCopy held) = refl
all-rows (Copies number copy) = refl

pub all-kept : (wrap : ℕ) (turns : List ReplicaTurn) → filter_map shown_row (phase_all (kept_of wrap turns).known.phase) ≡ copied (known_by turns)
all-kept wrap turns = all-rows (kept_of wrap turns).known.phase ∙ rows-kept wrap turns
