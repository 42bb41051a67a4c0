-- What a replica's calls say if all that it is given is an honest server's. The server may have any reset token and any names for
-- its subscriptions. The notes may come in every order, with losses and repeats.
use Rattle.std.specs.Prelude.{◌≡◌, ◌≤◌, ◌&&◌, ℕ, Bool, true, false, nat_lt, nat_le, List, ◌∷◌, Some, None, Result, Ok, Err, Contains}
use Rattle.std.specs.Option.{option_map}
use Rattle.std.specs.List.{AllByRecursion}
use Rattle.cds_object.specs.Object.{ObjectRow}
use Rattle.cds_catalog.specs.History.{end_of}
use Rattle.cds_catalog.specs.Catalog.{catalog}
use Rattle.cds_load.specs.Server.{Moment, reply_to}
use Rattle.cds_load.specs.declared.exchange.Read.{Read}
use Rattle.cds_load.specs.declared.exchange.Shown.{Shown}
use Rattle.cds_commands.specs.Commands.{Command, scans_of, oldest, AreAccepted}
use Rattle.cds_commands.specs.Notes.{Note, alive_names, notes_of}
use Rattle.cds_commands.specs.Places.{place_limit, reach}
use Rattle.cds_commands.specs.Wire.{WireNote, on_wire}
use Rattle.cds_commands.specs.Releases.{released_to, releases_of}
use Rattle.cds_follow.specs.Inbox.{ReplicaTurn, accepted, received, has_place}
use Rattle.cds_follow.specs.Follow.{known_by, next_ask}
use Rattle.cds_follow.specs.Given.{grants_of, moment_after, Entry, Asks, Granted, Gets, length_at, given_by, IsGiven}
use Rattle.cds_follow.specs.HonestLaws.{load_was_begun}
use Rattle.cds_follow.specs.Named.{TellApart, named_note, named}
use Rattle.cds_follow.specs.Wire.{apart, place_near, is_recent}
use Rattle.cds_follow.specs.declared.says.Says.{Says}
use Rattle.cds_follow.specs.declared.says.Says.TheVariants.{Stands}
use Rattle.cds_replica.specs.Steps.{phase_rows}
use Rattle.cds_replica.specs.State.{ReplicaState, StandsFor}
use Rattle.cds_replica.specs.declared.error.AnswerError.{AnswerError}
use Rattle.cds_replica.specs.declared.error.AnswerError.TheVariants.{Unreadable, Jump as AnswerJump, Torn as AnswerTorn, Mem as AnswerMem}
use Rattle.cds_replica.specs.declared.notify_error.NotifyError.{NotifyError}
use Rattle.cds_replica.specs.declared.notify_error.NotifyError.TheVariants.{Unknown, Full, Jump, Torn, Mem}

-- what is shown is a server's reply to the next ask after some turns
abbrev pub IsReplyOf : Moment → List ReplicaTurn → Shown → Type 0
IsReplyOf moment turns shown = option_map (reply_to moment) (next_ask (known_by turns)) ≡ Some shown

-- a reply is never refused, and this holds then; but memory may run out
abbrev pub IsReadThen : Result Read AnswerError → Type 0 → Type 0
IsReadThen (Ok read) fact = fact
IsReadThen (Err Unreadable) fact = ⊥
IsReadThen (Err (AnswerJump expected first)) fact = ⊥
IsReadThen (Err (AnswerTorn id)) fact = ⊥
IsReadThen (Err AnswerMem) fact = Unit {0}

-- what notes tell is never refused, and this holds then; but a note may be of another name, or one too many, or memory may run
-- out
abbrev pub IsHeardThen : {A : Type 0} → Result A NotifyError → Type 0 → Type 0
IsHeardThen (Ok x) fact = fact
IsHeardThen (Err Unknown) fact = fact
IsHeardThen (Err (Full held)) fact = fact
IsHeardThen (Err (Jump expected first)) fact = ⊥
IsHeardThen (Err (Torn id)) fact = ⊥
IsHeardThen (Err Mem) fact = Unit {0}

-- what stood for the entries of a server stands for them and one more read
abbrev pub TakesGiven : ReplicaState → Shown → ReplicaState → Result Read AnswerError → Type 0
TakesGiven old shown new result = (token : List ℕ) (names : ℕ → ℕ) (wrap first : ℕ) (commands : List Command) (entries : List Entry) (k : ℕ) → TellApart names (grants_of commands) → AreAccepted first commands →
    IsGiven token first commands (Asks k ∷ entries) → StandsFor old wrap (named names (given_by token first commands entries)) →
    IsReplyOf (moment_after token first (oldest k commands)) (given_by token first commands entries) shown →
    IsReadThen result (StandsFor new wrap (named names (given_by token first commands (Asks k ∷ entries))))

-- whether a note is within reach of the notes that were taken before it, so that its SEQ tells its place; and the entries with it.
-- A note that is not within reach is passed over, as if it was lost
abbrev pub is_near : ℕ → Note → List ReplicaTurn → Bool
is_near wrap note turns = nat_lt (place_near note.name turns) place_limit && nat_le (apart note.place (place_near note.name turns)) (reach wrap)

abbrev pub and_gets : Bool → ℕ → Note → List Entry → List Entry
and_gets true k note entries = Gets k note ∷ entries
and_gets false k note entries = entries

-- and one more note, as it comes, fewer than a wrap without a reach away from the notes that were taken before it
abbrev pub HearsGiven : {A : Type 0} → ReplicaState → WireNote → ReplicaState → Result A NotifyError → Type 0
HearsGiven old note new result = (token : List ℕ) (names : ℕ → ℕ) (wrap first : ℕ) (commands : List Command) (entries : List Entry) (k : ℕ) (sent : Note) →
    note ≡ on_wire wrap (named_note names sent) → 256 ≤ wrap → is_recent wrap sent (given_by token first commands entries) ≡ true →
    TellApart names (grants_of commands) → AreAccepted first commands →
    IsGiven token first commands (Gets k sent ∷ entries) → StandsFor old wrap (named names (given_by token first commands entries)) →
    IsHeardThen result (StandsFor new wrap (named names (given_by token first commands (and_gets (is_near wrap sent (given_by token first commands entries)) k sent entries))))

-- and one more name that is accepted
abbrev pub AcceptsGiven : {A : Type 0} → ReplicaState → ℕ → ReplicaState → Result A NotifyError → Type 0
AcceptsGiven old name new result = (token : List ℕ) (names : ℕ → ℕ) (wrap first : ℕ) (commands : List Command) (entries : List Entry) (k number : ℕ) → name ≡ names number → TellApart names (grants_of commands) → AreAccepted first commands →
    IsGiven token first commands (Granted k number ∷ entries) → StandsFor old wrap (named names (given_by token first commands entries)) →
    IsHeardThen result (StandsFor new wrap (named names (given_by token first commands (Granted k number ∷ entries))))

-- a number is the end of the scans of some of the oldest commands, at most this many, and rows are the catalog after them
pub record StoodAfter (first : ℕ) (commands : List Command) (most number : ℕ) (rows : List ObjectRow) : Type 0 where
  pub length : ℕ
  pub within : length ≤ most
  pub ends : end_of (scans_of first (oldest length commands)) ≡ number
  pub has_catalog : rows ≡ catalog (scans_of first (oldest length commands))

-- if a replica stands, it does at a scan end, with the catalog there
abbrev pub SaysGiven : ReplicaState → Says → Type 0
SaysGiven kept answer = (token : List ℕ) (names : ℕ → ℕ) (wrap first : ℕ) (commands : List Command) (newest : Entry) (older : List Entry) (number : ℕ) → TellApart names (grants_of commands) → AreAccepted first commands →
    IsGiven token first commands (newest ∷ older) → StandsFor kept wrap (named names (given_by token first commands (newest ∷ older))) → answer ≡ Stands number →
    StoodAfter first commands (length_at newest) number (phase_rows kept.known.phase)

-- the answer is complete under these conditions: a load was begun; the subscription that was accepted last lives; each note that
-- was sent to it was received; no change waits for its release; and nothing is to be read. Then the replica stands at the
-- server's number
abbrev pub CompletesGiven : ReplicaState → Says → Type 0
CompletesGiven kept answer = (token : List ℕ) (names : ℕ → ℕ) (wrap first : ℕ) (commands : List Command) (newest : Entry) (older : List Entry) (name now : ℕ) → TellApart names (grants_of commands) → AreAccepted first commands →
    IsGiven token first commands (newest ∷ older) →
    StandsFor kept wrap (named names (given_by token first commands (newest ∷ older))) →
    load_was_begun (given_by token first commands (newest ∷ older)) ≡ true →
    accepted (given_by token first commands (newest ∷ older)) ≡ Some name →
    Contains (alive_names now commands) name →
    AllByRecursion (λ (note : Note). note.name ≡ name → has_place (received (given_by token first commands (newest ∷ older))) note.place ≡ true) (notes_of first commands) →
    released_to first (releases_of first commands) ≡ end_of (scans_of first commands) →
    next_ask (known_by (given_by token first commands (newest ∷ older))) ≡ None →
    answer ≡ Stands (end_of (scans_of first commands))
