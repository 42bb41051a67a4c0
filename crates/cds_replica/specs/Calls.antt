-- What a replica's calls say of every list of turns that it stood for, honest or not.
use Rattle.std.specs.Prelude.{◌≡◌, ◌≤◌, ℕ, List, ◌∷◌, length, Option, Some, None, Result, Ok, Err}
use Rattle.cds_load.specs.declared.exchange.Read.{Read}
use Rattle.cds_follow.specs.Inbox.{ReplicaTurn, held_notes, held_limit, Arrival, IsUnknown, IsRepeat, IsTooMany, IsEarly, IsHeld, IsNext}
use Rattle.cds_commands.specs.Notes.{Note}
use Rattle.cds_commands.specs.Places.{seq_at}
use Rattle.cds_commands.specs.Wire.{WireNote}
use Rattle.cds_follow.specs.Follow.{Known, is_drop, and_turn}
use Rattle.cds_follow.specs.Wire.{placed, and_note}
use Rattle.cds_replica.specs.Inboxed.{KeptInbox, arrival_in, with_early, with_waiting, followers, with_next}
use Rattle.cds_replica.specs.Steps.{with_new_changes}
use Rattle.cds_replica.specs.State.{KeptKnown, kept_position, ReplicaState, StandsFor}
use Rattle.cds_replica.specs.NewChanges.{tells, nothing_told}
use Rattle.cds_replica.specs.declared.count_error.CountError.{CountError}
use Rattle.cds_replica.specs.declared.count_error.CountError.TheVariants.{Jump as CountJump, Torn as CountTorn, Mem as CountMem}
use Rattle.cds_replica.specs.declared.error.AnswerError.{AnswerError}
use Rattle.cds_replica.specs.declared.error.AnswerError.TheVariants.{Unreadable, Jump as AnswerJump, Torn as AnswerTorn, Mem as AnswerMem}
use Rattle.cds_replica.specs.declared.notify_error.NotifyError.{NotifyError}
use Rattle.cds_replica.specs.declared.notify_error.NotifyError.TheVariants.{Unknown, Full, Jump, Torn, Mem}
use Rattle.cds_replica.specs.declared.note.Taken.{Taken}
use Rattle.cds_replica.specs.declared.note.Taken.TheVariants.{Took, Repeat, Early, Held}
use Rattle.cds_load.specs.Outcome.{Outcome, Goes, CannotBeRead, Jumps, Tears}

-- what stood for some turns stands for them and this one
abbrev pub GoesOn : ReplicaState → ReplicaTurn → ReplicaState → Type 0
GoesOn old turn new = (wrap : ℕ) (turns : List ReplicaTurn) → StandsFor old wrap turns → StandsFor new wrap (turn ∷ turns)

-- what stood for some turns stands for them and this one, if it is not refused
abbrev pub TakesTurn : ReplicaState → ReplicaTurn → ReplicaState → Type 0
TakesTurn old turn new = (wrap : ℕ) (turns : List ReplicaTurn) → StandsFor old wrap turns → StandsFor new wrap (and_turn turn turns)

-- what stood for some turns stands for them and a note that came, at the place near those that were taken. If it has none there, or
-- is refused, it is no turn
abbrev pub TakesNote : ReplicaState → WireNote → ReplicaState → Type 0
TakesNote old note new =
    (wrap : ℕ) (turns : List ReplicaTurn) → StandsFor old wrap turns → StandsFor new wrap (and_note (placed wrap note turns) turns)

-- at most 64 notes are held, early ones included
abbrev pub HoldsFew : ReplicaState → Type 0
HoldsFew kept = (wrap : ℕ) (turns : List ReplicaTurn) → StandsFor kept wrap turns → length (held_notes turns) ≤ held_limit

-- something was taken
abbrev pub IsTaken : Outcome Known → Type 0
IsTaken outcome = (now : Known) × (outcome ≡ Goes now)

-- an answer to a note is exactly what becomes of it: by the notes alone, and, if it is the next one, by what the notes tell that
-- are taken. If memory runs out, this is the answer instead
abbrev pub IsNotice : Arrival → Outcome Known → Result Taken NotifyError → Type 0
IsNotice arrives becomes (Ok Took) = (arrives ≡ IsNext) × IsTaken becomes
IsNotice arrives becomes (Ok Repeat) = arrives ≡ IsRepeat
IsNotice arrives becomes (Ok Early) = arrives ≡ IsEarly
IsNotice arrives becomes (Ok (Held missing)) = arrives ≡ IsHeld missing
IsNotice arrives becomes (Err Unknown) = arrives ≡ IsUnknown
IsNotice arrives becomes (Err (Full held)) = arrives ≡ IsTooMany held
IsNotice arrives becomes (Err (Jump expected first)) = (arrives ≡ IsNext) × (becomes ≡ Jumps expected first)
IsNotice arrives becomes (Err (Torn id)) = (arrives ≡ IsNext) × (becomes ≡ Tears id)
IsNotice arrives becomes (Err Mem) = Unit {0}

-- an answer to a name that is accepted is exactly what becomes of its early notes
abbrev pub IsAcceptance : Outcome Known → Result (Unit {0}) NotifyError → Type 0
IsAcceptance becomes (Ok done) = IsTaken becomes
IsAcceptance becomes (Err Unknown) = ⊥
IsAcceptance becomes (Err (Full held)) = ⊥
IsAcceptance becomes (Err (Jump expected first)) = becomes ≡ Jumps expected first
IsAcceptance becomes (Err (Torn id)) = becomes ≡ Tears id
IsAcceptance becomes (Err Mem) = Unit {0}

-- an answer to a reply is exactly what becomes of it
abbrev pub IsAnswer : Outcome Known → Result Read AnswerError → Type 0
IsAnswer becomes (Ok read) = IsTaken becomes
IsAnswer becomes (Err Unreadable) = becomes ≡ CannotBeRead
IsAnswer becomes (Err (AnswerJump expected first)) = becomes ≡ Jumps expected first
IsAnswer becomes (Err (AnswerTorn id)) = becomes ≡ Tears id
IsAnswer becomes (Err AnswerMem) = Unit {0}

-- a fact that holds unless memory ran out
abbrev pub UnlessNoMemory : {A : Type 0} → Result A NotifyError → Type 0 → Type 0
UnlessNoMemory (Ok x) fact = fact
UnlessNoMemory (Err Unknown) fact = fact
UnlessNoMemory (Err (Full held)) fact = fact
UnlessNoMemory (Err (Jump expected first)) fact = fact
UnlessNoMemory (Err (Torn id)) fact = fact
UnlessNoMemory (Err Mem) fact = Unit {0}

abbrev pub UnlessMem : Result Read AnswerError → Type 0 → Type 0
UnlessMem (Ok read) fact = fact
UnlessMem (Err Unreadable) fact = fact
UnlessMem (Err (AnswerJump expected first)) fact = fact
UnlessMem (Err (AnswerTorn id)) fact = fact
UnlessMem (Err AnswerMem) fact = Unit {0}

-- ---- the same in what is kept

-- what becomes of notes that are taken
abbrev pub of_notes : List Note → KeptKnown → Outcome KeptKnown
of_notes notes kept = with_new_changes (is_drop (kept_position kept) notes) (tells notes (nothing_told (kept_position kept) kept.last_note)) kept

-- an answer if notes are to be taken, after which this inbox is kept
abbrev pub IsTaking : Outcome KeptKnown → ReplicaState → KeptInbox → ReplicaState → Result (Unit {0}) NotifyError → Type 0
IsTaking becomes old inbox new (Ok done) = (becomes ≡ Goes new.known) × (new.inbox ≡ inbox)
IsTaking becomes old inbox new (Err Unknown) = ⊥
IsTaking becomes old inbox new (Err (Full held)) = ⊥
IsTaking becomes old inbox new (Err (Jump expected first)) = (becomes ≡ Jumps expected first) × (new ≡ old)
IsTaking becomes old inbox new (Err (Torn id)) = (becomes ≡ Tears id) × (new ≡ old)
IsTaking becomes old inbox new (Err Mem) = new ≡ old

-- an answer to a delivered note, and what is kept then
abbrev pub IsDelivered : Arrival → Note → ReplicaState → ReplicaState → Result Taken NotifyError → Type 0
IsDelivered arrives note old new (Ok Took) =
    (arrives ≡ IsNext) × (of_notes (note ∷ followers old.inbox) old.known ≡ Goes new.known) × (new.inbox ≡ with_next old.inbox)
IsDelivered arrives note old new (Ok Repeat) = (arrives ≡ IsRepeat) × (new ≡ old)
IsDelivered arrives note old new (Ok Early) = (arrives ≡ IsEarly) × (new ≡ record old { inbox = with_early note old.inbox })
IsDelivered arrives note old new (Ok (Held missing)) =
    (arrives ≡ IsHeld old.inbox.next) × (missing ≡ seq_at old.inbox.wrap old.inbox.next) × (new ≡ record old { inbox = with_waiting note old.inbox })
IsDelivered arrives note old new (Err Unknown) = (arrives ≡ IsUnknown) × (new ≡ old)
IsDelivered arrives note old new (Err (Full held)) = (arrives ≡ IsTooMany held) × (new ≡ old)
IsDelivered arrives note old new (Err (Jump expected first)) =
    (arrives ≡ IsNext) × (of_notes (note ∷ followers old.inbox) old.known ≡ Jumps expected first) × (new ≡ old)
IsDelivered arrives note old new (Err (Torn id)) = (arrives ≡ IsNext) × (of_notes (note ∷ followers old.inbox) old.known ≡ Tears id) × (new ≡ old)
IsDelivered arrives note old new (Err Mem) = new ≡ old

-- an answer to a note that came: if it has no place near those that were taken, it is unknown
abbrev pub IsArrived : Option Note → ReplicaState → ReplicaState → Result Taken NotifyError → Type 0
IsArrived None old new result = (result ≡ Err Unknown) × (new ≡ old)
IsArrived (Some note) old new result = IsDelivered (arrival_in note old.inbox) note old new result

-- the answer to a note whose changes cannot be counted
abbrev pub refusal_of : CountError → NotifyError
refusal_of (CountJump expected first) = Jump expected first
refusal_of (CountTorn id) = Torn id
refusal_of CountMem = Mem
