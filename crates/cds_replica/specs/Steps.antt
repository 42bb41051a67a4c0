-- What becomes of notes and replies in what a replica keeps, what it asks and what it says.
use Rattle.std.specs.Prelude.{◌≡◌, ℕ, Bool, cond, nat_lt, List, [], ◌∷◌, ◌++◌, Option, Some, None, Result, Ok, Err}
use Rattle.std.specs.List.{filter_map}
use Rattle.std.specs.Option.{option_map}
use Rattle.cds_object.specs.Object.{ObjectRow}
use Rattle.cds_object.specs.declared.event.Event.{Event}
use Rattle.cds_load.specs.Outcome.{Outcome, Goes, CannotBeRead, Jumps, Tears, outcome_map, outcome_then}
use Rattle.cds_load.specs.Stages.{Held, Idle, Loads, Begun, HasCopy, taken, next_ask as load_ask}
use Rattle.cds_load.specs.declared.exchange.Ask.{Ask}
use Rattle.cds_load.specs.declared.exchange.Ask.TheVariants.{Metadata}
use Rattle.cds_load.specs.declared.exchange.Read.{Read}
use Rattle.cds_load.specs.declared.exchange.Shown.{Shown}
use Rattle.cds_load.specs.declared.exchange.Shown.TheVariants.{Text, Number, Page, Fault}
use Rattle.cds_follow.specs.Copy.{KnownRow, shown_row}
use Rattle.cds_replica.specs.Inboxed.{missing_seq}
use Rattle.cds_follow.specs.Follow.{Known}
use Rattle.cds_follow.specs.declared.says.Says.{Says}
use Rattle.cds_follow.specs.declared.says.Says.TheVariants.{Gap, BehindLoad, BehindRead, BehindVersion, Stands}
use Rattle.cds_replica.specs.CopyState.{KeptCopy, bare_rows, least_wanted}
use Rattle.cds_replica.specs.CopySteps.{count_from, copy_read, version_of, can_be_of}
use Rattle.cds_replica.specs.Ended.{end_count}
use Rattle.cds_replica.specs.State.{KeptPhase, NoCopy, Copies, KeptKnown, kept_known, kept_position, ReplicaState}
use Rattle.cds_replica.specs.NewChanges.{KeptChanges}
use Rattle.cds_replica.specs.declared.error.AnswerError.{AnswerError}
use Rattle.cds_replica.specs.declared.error.AnswerError.TheVariants.{Unreadable as AnswerUnreadable, Jump, Torn, Mem}

-- what becomes of it by what is known
abbrev pub kept_outcome : Outcome Known → Outcome KeptKnown
kept_outcome = outcome_map kept_known

-- an answer to a reply is exactly what becomes of it, and a refusal changes nothing. If memory runs out, this is the answer
-- instead, and nothing changes
abbrev pub IsStep : {X : Type 0} → Outcome X → X → X → Result Read AnswerError → Type 0
IsStep becomes old new (Ok read) = becomes ≡ Goes new
IsStep becomes old new (Err AnswerUnreadable) = (becomes ≡ CannotBeRead) × (new ≡ old)
IsStep becomes old new (Err (Jump expected first)) = (becomes ≡ Jumps expected first) × (new ≡ old)
IsStep becomes old new (Err (Torn id)) = (becomes ≡ Tears id) × (new ≡ old)
IsStep becomes old new (Err Mem) = new ≡ old

-- ---- notes that are taken

-- what is kept when a load begins: the copy is dropped
abbrev pub kept_begun : KeptKnown → KeptKnown
kept_begun kept = record { phase = NoCopy (Loads Begun); base = kept.base; last_note = kept.last_note; changes = [] }

-- the changes that are kept for the end of a load; before the first one none are
abbrev pub kept_changes : Held → List Event → List Event → List Event
kept_changes Idle changes more = changes
kept_changes (Loads stage) changes more = changes ++ more
kept_changes (HasCopy number rows) changes more = changes

-- what becomes of the changes that notes tell, at a position: a load keeps them, and a copy counts them
abbrev pub hears_changes : KeptPhase → ℕ → List Event → List Event → Outcome (KeptPhase × List Event)
hears_changes (NoCopy held) at changes more = Goes (NoCopy held, kept_changes held changes more)
hears_changes (Copies number copy) at changes more = outcome_map (λ now. (Copies number now, changes)) (count_from copy at more)

abbrev pub hears : KeptChanges → KeptKnown → Outcome KeptKnown
hears told kept =
    outcome_map (λ (now : KeptPhase × List Event). record { phase = now.0; base = kept.base; last_note = told.last_note; changes = now.1 })
    (hears_changes kept.phase (kept_position kept) kept.changes told.changes)

-- what becomes of what notes tell, if the first of them may drop the copy
abbrev pub with_new_changes : Bool → KeptChanges → KeptKnown → Outcome KeptKnown
with_new_changes drops told kept = cond drops (Goes (record { phase = NoCopy (Loads Begun); base = kept.base; last_note = told.last_note; changes = told.changes })) (hears told kept)

-- ---- replies that are taken

-- what a load leads to: its end to a copy, with the changes counted that were kept meanwhile
abbrev pub leads_to : List Event → Held → Outcome KeptPhase
leads_to changes Idle = Goes (NoCopy Idle)
leads_to changes (Loads stage) = Goes (NoCopy (Loads stage))
leads_to changes (HasCopy number rows) = outcome_map (Copies number) (end_count rows number changes)

abbrev pub load_takes : List Event → Outcome Held → Outcome KeptPhase
load_takes changes = outcome_then (leads_to changes)

-- what is kept with what a load led to
abbrev pub with_phase : KeptKnown → KeptPhase → KeptKnown
with_phase kept (NoCopy held) = record kept { phase = NoCopy held }
with_phase kept (Copies number copy) = record { phase = Copies number copy; base = number; last_note = kept.last_note; changes = [] }

-- what becomes of an unread object's own row
abbrev pub row_of_read : KeptCopy → ℕ → List ObjectRow → Outcome KeptCopy
row_of_read copy id [] = CannotBeRead
row_of_read copy id (row ∷ []) = cond (can_be_of copy id row) (Goes (copy_read copy id (version_of row))) (Tears id)
row_of_read copy id (row ∷ next ∷ others) = CannotBeRead

abbrev pub object_of_read : KeptCopy → ℕ → Shown → Outcome KeptCopy
object_of_read copy id (Text token) = CannotBeRead
object_of_read copy id (Number number) = CannotBeRead
object_of_read copy id (Page shown total update) = row_of_read copy id shown
object_of_read copy id (Fault code) = Goes copy

abbrev pub copy_takes : KeptCopy → Option ℕ → Shown → Outcome KeptCopy
copy_takes copy None shown = CannotBeRead
copy_takes copy (Some id) shown = object_of_read copy id shown

abbrev pub answers : KeptKnown → KeptPhase → Shown → Outcome KeptKnown
answers kept (NoCopy held) shown = outcome_map (with_phase kept) (load_takes kept.changes (taken held shown))
answers kept (Copies number copy) shown = outcome_map (λ now. record kept { phase = Copies number now }) (copy_takes copy (least_wanted copy) shown)

-- ---- what is asked and said

abbrev pub phase_ask : KeptPhase → Option Ask
phase_ask (NoCopy held) = load_ask held
phase_ask (Copies number copy) = option_map (λ id. Metadata id) (least_wanted copy)

abbrev pub copy_tells : ℕ → KeptCopy → Option ℕ → Says
copy_tells at copy (Some id) = BehindRead id
copy_tells at copy None = cond (nat_lt at copy.read_up_to) (BehindVersion copy.read_up_to) (Stands at)

abbrev pub phase_tells : KeptKnown → KeptPhase → Says
phase_tells kept (NoCopy held) = BehindLoad
phase_tells kept (Copies number copy) = copy_tells (kept_position kept) copy (least_wanted copy)

abbrev pub tells_or_gap : Option ℕ → Says → Says
tells_or_gap (Some seq) otherwise = Gap seq
tells_or_gap None otherwise = otherwise

abbrev pub kept_says : ReplicaState → Says
kept_says kept = tells_or_gap (missing_seq kept.inbox) (phase_tells kept.known kept.known.phase)

-- the rows of the copy whose objects are known
abbrev pub phase_rows : KeptPhase → List ObjectRow
phase_rows (NoCopy held) = []
phase_rows (Copies number copy) = filter_map shown_row (bare_rows copy)

-- all its rows, also those of which it is not known yet what they say
abbrev pub phase_all : KeptPhase → List KnownRow
phase_all (NoCopy held) = []
phase_all (Copies number copy) = bare_rows copy
