-- What is kept after a turn.
use Rattle.std.proofs.Common.{◌≡◌, ◌≤◌, ℕ, true, false, cond, ◌||◌, List, [], ◌∷◌, Option, Some, None, Result, Ok, Err, refl, sym, ap, ◌∙◌, subst}
use Rattle.std.proofs.lemmas.List.{append-nil}
use Rattle.cds_object.specs.declared.event.Event.{Event}
use Rattle.cds_load.specs.Stages.{Held, Idle, HasCopy, Loads}
use Rattle.cds_load.specs.declared.exchange.Read.{Read}
use Rattle.cds_load.specs.declared.exchange.Shown.{Shown}
use Rattle.cds_commands.specs.Notes.{Note}
use Rattle.cds_commands.specs.Places.{seq_at}
use Rattle.cds_commands.specs.Wire.{WireNote}
use Rattle.cds_follow.specs.Wire.{placed, arrival_by_seq, arrival_of, arrival_on_wire, and_note, heard}
use Rattle.cds_follow.specs.Inbox.{ReplicaTurn, Shows, Accepts, Delivers, Arrival, IsUnknown, IsRepeat, IsTooMany, IsEarly, IsHeld, IsNext, held_limit, arrival, taken_by}
use Rattle.cds_follow.specs.Follow.{Known, with_notes, with_reply, known_by, is_turned_away, is_refused, and_turn}
use Rattle.cds_replica.specs.Calls.{TakesTurn, TakesNote, IsArrived, HoldsFew, IsNotice, IsAcceptance, IsAnswer, UnlessNoMemory, UnlessMem, of_notes, IsTaking, IsDelivered}
use Rattle.cds_replica.specs.Inboxed.{KeptInbox, IsInbox, inbox_of, placed_in, held_count, arrival_in, with_name, taken_early, with_note, taken_in, followers}
use Rattle.cds_replica.specs.Steps.{kept_outcome, kept_changes, hears_changes, with_new_changes, answers, IsStep}
use Rattle.cds_replica.specs.State.{KeptPhase, Copies, KeptKnown, kept_known, kept_position, ReplicaState, kept_of, StandsFor, NoCopy}
use Rattle.cds_replica.specs.NewChanges.{tells, nothing_told}
use Rattle.cds_replica.specs.declared.error.AnswerError.{AnswerError}
use Rattle.cds_replica.specs.declared.error.AnswerError.TheVariants.{Unreadable as AnswerUnreadable, Jump as AnswerJump, Torn as AnswerTorn, Mem as AnswerMem}
use Rattle.cds_replica.specs.declared.note.Taken.{Taken}
use Rattle.cds_replica.specs.declared.note.Taken.TheVariants.{Took, Repeat, Early, Held as Waits}
use Rattle.cds_replica.specs.declared.notify_error.NotifyError.{NotifyError}
use Rattle.cds_replica.specs.declared.notify_error.NotifyError.TheVariants.{Unknown, Full, Jump, Torn, Mem}
use Rattle.cds_replica.proofs.Inboxed.{held-kept, arrival-kept, accepted-kept, accepted-taken, delivered-kept}
use Rattle.cds_replica.proofs.KeptTurns.{turns-sound}
use Rattle.cds_replica.proofs.Keeping.{notes-kept, reply-kept}
use Rattle.cds_load.specs.Outcome.{Outcome, Goes, CannotBeRead, Jumps, Tears, after_outcome, outcome_map, is_no}

-- ---- outcomes in what is kept are those in what is known

leads-known : (o : Outcome Known) (kept : KeptKnown) → kept_outcome o ≡ Goes kept → (now : Known) × (o ≡ Goes now) × (kept_known now ≡ kept)
leads-known (Goes now) kept e = (now, refl, same)
  where
    same : kept_known now ≡ kept
    same = cc
leads-known CannotBeRead kept e = let no : ⊥ = cc in absurd no
leads-known (Jumps expected first) kept e = let no : ⊥ = cc in absurd no
leads-known (Tears id) kept e = let no : ⊥ = cc in absurd no

leap-jumps : (o : Outcome Known) (expected first : ℕ) → kept_outcome o ≡ Jumps expected first → o ≡ Jumps expected first
leap-jumps (Goes now) expected first e = let no : ⊥ = cc in absurd no
leap-jumps CannotBeRead expected first e = let no : ⊥ = cc in absurd no
leap-jumps (Jumps a b) expected first e = cc
leap-jumps (Tears id) expected first e = let no : ⊥ = cc in absurd no

tear-tears : (o : Outcome Known) (id : ℕ) → kept_outcome o ≡ Tears id → o ≡ Tears id
tear-tears (Goes now) id e = let no : ⊥ = cc in absurd no
tear-tears CannotBeRead id e = let no : ⊥ = cc in absurd no
tear-tears (Jumps a b) id e = let no : ⊥ = cc in absurd no
tear-tears (Tears other) id e = cc

unread-cannot : (o : Outcome Known) → kept_outcome o ≡ CannotBeRead → o ≡ CannotBeRead
unread-cannot (Goes now) e = let no : ⊥ = cc in absurd no
unread-cannot CannotBeRead e = refl
unread-cannot (Jumps a b) e = let no : ⊥ = cc in absurd no
unread-cannot (Tears id) e = let no : ⊥ = cc in absurd no

-- ---- turns that are taken, and turns that are refused

goes-on : (wrap : ℕ) (turn : ReplicaTurn) (turns : List ReplicaTurn) (new : ReplicaState) → is_refused turn turns ≡ false → new ≡ kept_of wrap (turn ∷ turns) → StandsFor new wrap (and_turn turn turns)
goes-on wrap turn turns new e is = is ∙ ap (kept_of wrap) (λ i. cond (sym e i) turns (turn ∷ turns))

stays : (wrap : ℕ) (turn : ReplicaTurn) (turns : List ReplicaTurn) (old new : ReplicaState) → is_refused turn turns ≡ true → old ≡ kept_of wrap turns → new ≡ old → StandsFor new wrap (and_turn turn turns)
stays wrap turn turns old new e stood same = same ∙ stood ∙ ap (kept_of wrap) (λ i. cond (sym e i) turns (turn ∷ turns))

-- what is kept after a turn whose outcome is known
kept-then : (known now : Known) (inbox : KeptInbox) (o : Outcome Known) (new : ReplicaState) → o ≡ Goes now → kept_known now ≡ new.known → new.inbox ≡ inbox
    → new ≡ record { known = kept_known (after_outcome known o); inbox = inbox }
kept-then known now inbox o new e same box = λ i. record { known = (sym same ∙ ap (λ (o : Outcome Known). kept_known (after_outcome known o)) (sym e)) i; inbox = box i }

-- ---- few notes are held

pub holds-few : (kept : ReplicaState) → IsInbox kept.inbox → HoldsFew kept
holds-few kept is wrap turns stood =
    subst (λ (count : ℕ). count ≤ held_limit) (ap (λ (k : ReplicaState). held_count k.inbox) stood ∙ sym (held-kept wrap turns)) is.few

-- ---- a name is accepted

of-early : (wrap name : ℕ) (turns : List ReplicaTurn) (old : ReplicaState) → old ≡ kept_of wrap turns
    → of_notes (taken_early name old.inbox) old.known ≡ kept_outcome (with_notes (taken_by (Accepts name) turns) (known_by turns))
of-early wrap name turns old stood =
    (λ i. of_notes (taken_early name (stood i).inbox) (stood i).known)
    ∙ ap (λ (notes : List Note). of_notes notes (kept_known (known_by turns))) (sym (accepted-taken wrap name turns))
    ∙ sym (notes-kept (taken_by (Accepts name) turns) (known_by turns) (turns-sound turns))

pub accepted-stands : (wrap name : ℕ) (turns : List ReplicaTurn) (old new : ReplicaState) (result : Result (Unit {0}) NotifyError) → StandsFor old wrap turns
    → IsTaking (of_notes (taken_early name old.inbox) old.known) old (with_name name old.inbox) new result
    → UnlessNoMemory result (StandsFor new wrap (and_turn (Accepts name) turns)) × IsAcceptance (with_notes (taken_by (Accepts name) turns) (known_by turns)) result
accepted-stands wrap name turns old new (Ok done) stood is =
    let lead = leads-known (with_notes (taken_by (Accepts name) turns) (known_by turns)) new.known (sym (of-early wrap name turns old stood) ∙ is.0) in
    let box : new.inbox ≡ inbox_of wrap (Accepts name ∷ turns) = is.1 ∙ ap (λ (kept : ReplicaState). with_name name kept.inbox) stood ∙ sym (accepted-kept wrap name turns) in (
      goes-on wrap (Accepts name) turns new (ap is_no lead.1)
          (kept-then (known_by turns) lead.0 (inbox_of wrap (Accepts name ∷ turns)) (with_notes (taken_by (Accepts name) turns) (known_by turns)) new lead.1 lead.2 box),
      (lead.0, lead.1),
    )
accepted-stands wrap name turns old new (Err Unknown) stood is = absurd is
accepted-stands wrap name turns old new (Err (Full held)) stood is = absurd is
accepted-stands wrap name turns old new (Err (Jump expected first)) stood is =
    let jump = leap-jumps (with_notes (taken_by (Accepts name) turns) (known_by turns)) expected first (sym (of-early wrap name turns old stood) ∙ is.0) in
    (stays wrap (Accepts name) turns old new (ap is_no jump) stood is.1, jump)
accepted-stands wrap name turns old new (Err (Torn id)) stood is =
    let torn = tear-tears (with_notes (taken_by (Accepts name) turns) (known_by turns)) id (sym (of-early wrap name turns old stood) ∙ is.0) in
    (stays wrap (Accepts name) turns old new (ap is_no torn) stood is.1, torn)
accepted-stands wrap name turns old new (Err Mem) stood is = (tt, tt)

pub taking-unchanged : (becomes : Outcome KeptKnown) (old new : ReplicaState) (inbox : KeptInbox) (error : NotifyError) → IsTaking becomes old inbox new (Err error) → new ≡ old
taking-unchanged becomes old new inbox Unknown is = absurd is
taking-unchanged becomes old new inbox (Full held) is = absurd is
taking-unchanged becomes old new inbox (Jump expected first) is = is.1
taking-unchanged becomes old new inbox (Torn id) is = is.1
taking-unchanged becomes old new inbox Mem is = is

-- ---- a note is delivered

-- no notes change nothing
no-notes : (kept : KeptKnown) → with_new_changes false (tells [] (nothing_told (kept_position kept) kept.last_note)) kept ≡ Goes kept
no-notes kept = by kept.phase refl
  where
    load : (held : Held) → kept_changes held kept.changes [] ≡ kept.changes
    load Idle = refl
    load (Loads stage) = append-nil kept.changes
    load (HasCopy number rows) = refl

    now : (phase : KeptPhase) → hears_changes phase (kept_position kept) kept.changes [] ≡ Goes (phase, kept.changes)
    now (NoCopy held) = λ i. Goes (NoCopy held, load held i)
    now (Copies number copy) = refl

    by : (phase : KeptPhase) → kept.phase ≡ phase → with_new_changes false (tells [] (nothing_told (kept_position kept) kept.last_note)) kept ≡ Goes kept
    by phase e =
        ap (outcome_map (λ (n : KeptPhase × List Event). record { phase = n.0; base = kept.base; last_note = kept.last_note; changes = n.1 }))
        ((λ i. hears_changes (e i) (kept_position kept) kept.changes []) ∙ now phase)
        ∙ (λ i. Goes (record { phase = sym e i; base = kept.base; last_note = kept.last_note; changes = kept.changes }))

module _ (wrap : ℕ) (note : Note) (turns : List ReplicaTurn) (old new : ReplicaState) (stood : StandsFor old wrap turns) where
  abbrev out : Outcome Known
  out = with_notes (taken_by (Delivers note) turns) (known_by turns)

  arrives : arrival_in note old.inbox ≡ arrival note turns
  arrives = ap (λ (kept : ReplicaState). arrival_in note kept.inbox) stood ∙ sym (arrival-kept wrap note turns)

  -- the notes that are taken, and what is kept then, by the arrival
  at : (arr : Arrival) → arrival note turns ≡ arr → is_turned_away arr ≡ false
      → (inbox_of wrap (Delivers note ∷ turns) ≡ with_note arr note old.inbox) × (out ≡ with_notes (taken_in arr note old.inbox) (known_by turns))
  at arr e kept =
      let law = delivered-kept wrap note turns (ap is_turned_away e ∙ kept) in (
        law.0 ∙ (λ i. with_note (e i) note (sym stood i).inbox),
        ap (λ (notes : List Note). with_notes notes (known_by turns)) (law.1 ∙ (λ i. taken_in (e i) note (sym stood i).inbox)),
      )

  refused-by : (arr : Arrival) → arrival note turns ≡ arr → is_turned_away arr ≡ false → is_refused (Delivers note) turns ≡ is_no out
  refused-by arr e kept = λ i. (ap is_turned_away e ∙ kept) i || is_no out

  -- a note that is turned away
  away : (arr : Arrival) → arrival_in note old.inbox ≡ arr → is_turned_away arr ≡ true → new ≡ old → StandsFor new wrap (and_turn (Delivers note) turns)
  away arr e turned same =
      stays wrap (Delivers note) turns old new (λ i. (ap is_turned_away (sym arrives ∙ e) ∙ turned) i || is_no out) stood same

  -- a note that lets none be taken
  none : (arr : Arrival) → arrival_in note old.inbox ≡ arr → is_turned_away arr ≡ false → taken_in arr note old.inbox ≡ []
      → new.known ≡ old.known → new.inbox ≡ with_note arr note old.inbox → StandsFor new wrap (and_turn (Delivers note) turns)
  none arr e kept takes known box =
      let here = at arr (sym arrives ∙ e) kept in
      let nothing : kept_outcome out ≡ Goes (kept_known (known_by turns)) =
      ap kept_outcome here.1 ∙ ap (λ (notes : List Note). kept_outcome (with_notes notes (known_by turns))) takes
      ∙ notes-kept [] (known_by turns) (turns-sound turns) ∙ no-notes (kept_known (known_by turns)) in
      let lead = leads-known out (kept_known (known_by turns)) nothing in
      goes-on wrap (Delivers note) turns new (refused-by arr (sym arrives ∙ e) kept ∙ ap is_no lead.1)
      (kept-then (known_by turns) lead.0 (inbox_of wrap (Delivers note ∷ turns)) out new lead.1 (lead.2 ∙ sym (known ∙ ap (λ (k : ReplicaState). k.known) stood)) (box ∙ sym here.0))

  -- the next note
  of-next : arrival_in note old.inbox ≡ IsNext → of_notes (note ∷ followers old.inbox) old.known ≡ kept_outcome out
  of-next e =
      let here = at IsNext (sym arrives ∙ e) refl in
      (λ i. of_notes (note ∷ followers old.inbox) (stood i).known)
      ∙ sym (notes-kept (note ∷ followers old.inbox) (known_by turns) (turns-sound turns)) ∙ ap kept_outcome (sym here.1)

  pub delivered-stands : (result : Result Taken NotifyError) → IsDelivered (arrival_in note old.inbox) note old new result
      → UnlessNoMemory result (StandsFor new wrap (and_turn (Delivers note) turns)) × IsNotice (arrival_by_seq wrap (arrival note turns)) out result
  delivered-stands (Ok Took) is =
      let here = at IsNext (sym arrives ∙ is.0) refl in
      let lead = leads-known out new.known (sym (of-next is.0) ∙ is.1) in (
        goes-on wrap (Delivers note) turns new (refused-by IsNext (sym arrives ∙ is.0) refl ∙ ap is_no lead.1)
            (kept-then (known_by turns) lead.0 (inbox_of wrap (Delivers note ∷ turns)) out new lead.1 lead.2 (is.2 ∙ sym here.0)),
        (ap (arrival_by_seq wrap) (sym arrives ∙ is.0), (lead.0, lead.1)),
      )
  delivered-stands (Ok Repeat) is =
      (none IsRepeat is.0 refl refl (ap (λ (k : ReplicaState). k.known) is.1) (ap (λ (k : ReplicaState). k.inbox) is.1), ap (arrival_by_seq wrap) (sym arrives ∙ is.0))
  delivered-stands (Ok Early) is =
      (none IsEarly is.0 refl refl (ap (λ (k : ReplicaState). k.known) is.1) (ap (λ (k : ReplicaState). k.inbox) is.1), ap (arrival_by_seq wrap) (sym arrives ∙ is.0))
  delivered-stands (Ok (Waits missing)) is = (
    none (IsHeld old.inbox.next) is.0 refl refl (ap (λ (k : ReplicaState). k.known) is.2) (ap (λ (k : ReplicaState). k.inbox) is.2),
    ap (arrival_by_seq wrap) (sym arrives ∙ is.0) ∙ ap (λ (k : ReplicaState). IsHeld (seq_at k.inbox.wrap old.inbox.next)) (sym stood) ∙ ap IsHeld (sym is.1),
  )
  delivered-stands (Err Unknown) is = (away IsUnknown is.0 refl is.1, ap (arrival_by_seq wrap) (sym arrives ∙ is.0))
  delivered-stands (Err (Full held)) is = (away (IsTooMany held) is.0 refl is.1, ap (arrival_by_seq wrap) (sym arrives ∙ is.0))
  delivered-stands (Err (Jump expected first)) is =
      let jump = leap-jumps out expected first (sym (of-next is.0) ∙ is.1) in
      (stays wrap (Delivers note) turns old new (refused-by IsNext (sym arrives ∙ is.0) refl ∙ ap is_no jump) stood is.2, (ap (arrival_by_seq wrap) (sym arrives ∙ is.0), jump))
  delivered-stands (Err (Torn id)) is =
      let torn = tear-tears out id (sym (of-next is.0) ∙ is.1) in
      (stays wrap (Delivers note) turns old new (refused-by IsNext (sym arrives ∙ is.0) refl ∙ ap is_no torn) stood is.2, (ap (arrival_by_seq wrap) (sym arrives ∙ is.0), torn))
  delivered-stands (Err Mem) is = (tt, tt)

pub delivered-unchanged : (arr : Arrival) (note : Note) (old new : ReplicaState) (error : NotifyError) → IsDelivered arr note old new (Err error) → new ≡ old
delivered-unchanged arr note old new Unknown is = is.1
delivered-unchanged arr note old new (Full held) is = is.1
delivered-unchanged arr note old new (Jump expected first) is = is.2
delivered-unchanged arr note old new (Torn id) is = is.2
delivered-unchanged arr note old new Mem is = is

-- ---- a note comes

pub arrived-stands : (wrap : ℕ) (note : WireNote) (turns : List ReplicaTurn) (old new : ReplicaState) (result : Result Taken NotifyError) → StandsFor old wrap turns
    → IsArrived (placed_in note old.inbox) old new result
    → UnlessNoMemory result (StandsFor new wrap (and_note (placed wrap note turns) turns))
    × IsNotice (arrival_on_wire wrap note turns) (heard (placed wrap note turns) turns) result
arrived-stands wrap note turns old new result stood is = by (placed wrap note turns) refl
  where
    same : placed_in note old.inbox ≡ placed wrap note turns
    same = ap (λ (kept : ReplicaState). placed_in note kept.inbox) stood

    by : (o : Option Note) → placed wrap note turns ≡ o
        → UnlessNoMemory result (StandsFor new wrap (and_note o turns)) × IsNotice (arrival_of wrap o turns) (heard o turns) result
    by None e =
        let here = subst (λ (o : Option Note). IsArrived o old new result) (same ∙ e) is in
        let stands : StandsFor new wrap turns = here.1 ∙ stood in
        subst (λ (r : Result Taken NotifyError). UnlessNoMemory r (StandsFor new wrap turns) × IsNotice IsUnknown (Goes (known_by turns)) r) (sym here.0) (stands, refl)
    by (Some there) e = delivered-stands wrap there turns old new stood result (subst (λ (o : Option Note). IsArrived o old new result) (same ∙ e) is)

pub arrived-unchanged : (o : Option Note) (old new : ReplicaState) (error : NotifyError) → IsArrived o old new (Err error) → new ≡ old
arrived-unchanged None old new error is = is.1
arrived-unchanged (Some note) old new error is = delivered-unchanged (arrival_in note old.inbox) note old new error is

-- ---- a reply is taken

pub answered-stands : (wrap : ℕ) (shown : Shown) (turns : List ReplicaTurn) (old new : ReplicaState) (result : Result Read AnswerError) → StandsFor old wrap turns → new.inbox ≡ old.inbox
    → IsStep (answers old.known old.known.phase shown) old.known new.known result
    → UnlessMem result (StandsFor new wrap (and_turn (Shows shown) turns)) × IsAnswer (with_reply (known_by turns) (known_by turns).held shown) result
answered-stands wrap shown turns old new result stood box = by result
  where
    out : Outcome Known
    out = with_reply (known_by turns) (known_by turns).held shown

    becomes : answers old.known old.known.phase shown ≡ kept_outcome out
    becomes = (λ i. answers (stood i).known (stood i).known.phase shown) ∙ sym (reply-kept (known_by turns).held (known_by turns) shown refl (turns-sound turns))

    same : new.known ≡ old.known → new ≡ old
    same e = λ i. record { known = e i; inbox = box i }

    by : (result : Result Read AnswerError) → IsStep (answers old.known old.known.phase shown) old.known new.known result
        → UnlessMem result (StandsFor new wrap (and_turn (Shows shown) turns)) × IsAnswer out result
    by (Ok read) is =
        let lead = leads-known out new.known (sym becomes ∙ is) in (
          goes-on wrap (Shows shown) turns new (ap is_no lead.1)
              (kept-then (known_by turns) lead.0 (inbox_of wrap (Shows shown ∷ turns)) out new lead.1 lead.2 (box ∙ ap (λ (k : ReplicaState). k.inbox) stood)),
          (lead.0, lead.1),
        )
    by (Err AnswerUnreadable) is =
        let unread = unread-cannot out (sym becomes ∙ is.0) in (stays wrap (Shows shown) turns old new (ap is_no unread) stood (same is.1), unread)
    by (Err (AnswerJump expected first)) is =
        let jump = leap-jumps out expected first (sym becomes ∙ is.0) in (stays wrap (Shows shown) turns old new (ap is_no jump) stood (same is.1), jump)
    by (Err (AnswerTorn id)) is =
        let torn = tear-tears out id (sym becomes ∙ is.0) in (stays wrap (Shows shown) turns old new (ap is_no torn) stood (same is.1), torn)
    by (Err AnswerMem) is = (tt, tt)

pub step-unchanged : {X : Type 0} (becomes : Outcome X) (old new : X) (error : AnswerError) → IsStep becomes old new (Err error) → new ≡ old
step-unchanged becomes old new AnswerUnreadable is = is.1
step-unchanged becomes old new (AnswerJump expected first) is = is.1
step-unchanged becomes old new (AnswerTorn id) is = is.1
step-unchanged becomes old new AnswerMem is = is

-- ---- a fact for every list of turns that holds unless memory ran out

pub unless-no_memory : {A : Type 0} (result : Result A NotifyError) (old new : ReplicaState) (turn : ReplicaTurn)
    → ((wrap : ℕ) (turns : List ReplicaTurn) → StandsFor old wrap turns → UnlessNoMemory result (StandsFor new wrap (and_turn turn turns))) → UnlessNoMemory result (TakesTurn old turn new)
unless-no_memory (Ok x) old new turn h = h
unless-no_memory (Err Unknown) old new turn h = h
unless-no_memory (Err (Full held)) old new turn h = h
unless-no_memory (Err (Jump expected first)) old new turn h = h
unless-no_memory (Err (Torn id)) old new turn h = h
unless-no_memory (Err Mem) old new turn h = tt

pub unless-note : (result : Result Taken NotifyError) (old new : ReplicaState) (note : WireNote)
    → ((wrap : ℕ) (turns : List ReplicaTurn) → StandsFor old wrap turns → UnlessNoMemory result (StandsFor new wrap (and_note (placed wrap note turns) turns))) → UnlessNoMemory result (TakesNote old note new)
unless-note (Ok x) old new note h = h
unless-note (Err Unknown) old new note h = h
unless-note (Err (Full held)) old new note h = h
unless-note (Err (Jump expected first)) old new note h = h
unless-note (Err (Torn id)) old new note h = h
unless-note (Err Mem) old new note h = tt

pub unless-mem : (result : Result Read AnswerError) (old new : ReplicaState) (turn : ReplicaTurn)
    → ((wrap : ℕ) (turns : List ReplicaTurn) → StandsFor old wrap turns → UnlessMem result (StandsFor new wrap (and_turn turn turns))) → UnlessMem result (TakesTurn old turn new)
unless-mem (Ok read) old new turn h = h
unless-mem (Err AnswerUnreadable) old new turn h = h
unless-mem (Err (AnswerJump expected first)) old new turn h = h
unless-mem (Err (AnswerTorn id)) old new turn h = h
unless-mem (Err AnswerMem) old new turn h = tt
