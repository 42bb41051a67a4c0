-- The lines of a report, by what the store and the replica answered.
use Rattle.std.specs.Prelude.{◌+◌, ℕ, Bool, true, false, List, [], ◌∷◌, ◌++◌, map, Result, Ok, Err, codes}
use Rattle.std.specs.List.{filter_map}
use Rattle.cds_follow.specs.Copy.{shown_row}
use Rattle.cds_replica.specs.CopyState.{KeptRow}
use Rattle.std.specs.Fmt.{decimal}
use Rattle.cds_object.specs.Object.{ObjectRow}
use Rattle.cds_object.specs.Fragment.{full_text}
use Rattle.cds_store.specs.declared.span.Span.{Span}
use Rattle.cds_store.specs.declared.error.ApplyError.{ApplyError}
use Rattle.cds_store.specs.declared.error.ApplyError.TheVariants.{BadRecords, Full, Spent, Mem}
use Rattle.cds_load.specs.declared.exchange.Read.{Read}
use Rattle.cds_load.specs.declared.exchange.Read.TheVariants.{Ok as ReadOk, Fault as ReadFault}
use Rattle.cds_follow.specs.declared.says.Says.{Says}
use Rattle.cds_follow.specs.declared.says.Says.TheVariants.{Gap, BehindLoad, BehindRead, BehindVersion, Stands}
use Rattle.cds_replica.specs.declared.note.Taken.{Taken}
use Rattle.cds_replica.specs.declared.note.Taken.TheVariants.{Took, Repeat, Early, Held}
use Rattle.cds_replica.specs.declared.notify_error.NotifyError.{NotifyError}
use Rattle.cds_replica.specs.declared.notify_error.NotifyError.TheVariants.{Unknown, Full as TooMany, Jump, Torn, Mem as NoMemory}
use Rattle.cds_replay.specs.declared.sent.SentHead.{SentHead}
use Rattle.cds_replay.specs.Sending.{SentNote, head_of}

-- a line of a word and a number
abbrev pub numbered_line : List ℕ → ℕ → List ℕ
numbered_line word number = word ++ decimal number ++ codes "\n"

-- the line that answers a scan; empty if memory ran out
abbrev pub scan_line : Result Span ApplyError → List ℕ
scan_line (Ok span) = numbered_line (codes "scan ") span.to
scan_line (Err (BadRecords line)) = numbered_line (codes "scan bad ") line
scan_line (Err (Full objects)) = numbered_line (codes "scan full ") objects
scan_line (Err (Spent needed)) = numbered_line (codes "scan spent ") needed
scan_line (Err Mem) = []

-- whether a scan was answered: memory did not run out
abbrev pub was_answered : Result Span ApplyError → Bool
was_answered (Ok span) = true
was_answered (Err (BadRecords line)) = true
was_answered (Err (Full objects)) = true
was_answered (Err (Spent needed)) = true
was_answered (Err Mem) = false

-- the line of what became of a reply that was taken
abbrev pub read_line : Read → List ℕ
read_line ReadOk = codes "read ok\n"
read_line (ReadFault code) = numbered_line (codes "read ") code

-- the number of a copy and its rows
abbrev pub stands_text : ℕ → List ObjectRow → List ℕ
stands_text number rows = numbered_line (codes "stands ") number ++ full_text rows

-- what a replica that says this writes, by the rows of its copy
abbrev pub known_text : Says → List ObjectRow → List ℕ
known_text (Gap missing) rows = numbered_line (codes "gap ") missing
known_text BehindLoad rows = codes "behind load\n"
known_text (BehindRead id) rows = numbered_line (codes "behind read ") id
known_text (BehindVersion version) rows = numbered_line (codes "behind version ") version
known_text (Stands number) rows = stands_text number rows

-- the line of a note that was sent, with its number
abbrev pub note_line : ℕ → SentHead → List ℕ
note_line number head = codes "note " ++ decimal number ++ codes " seq " ++ decimal head.seq ++ numbered_line (codes " at ") head.number

-- the word of what became of a note; empty if memory ran out, or if the replica refused its changes, as it does none in a script
abbrev pub taken_text : Result Taken NotifyError → List ℕ
taken_text (Ok Took) = codes "took"
taken_text (Ok Repeat) = codes "repeat"
taken_text (Ok Early) = codes "early"
taken_text (Ok (Held missing)) = codes "held " ++ decimal missing
taken_text (Err Unknown) = codes "unknown"
taken_text (Err (TooMany held)) = codes "full " ++ decimal held
taken_text (Err (Jump expected first)) = []
taken_text (Err (Torn id)) = []
taken_text (Err NoMemory) = []

-- the line of what became of the note of a number
abbrev pub delivered_line : ℕ → Result Taken NotifyError → List ℕ
delivered_line number answer = codes "deliver " ++ decimal number ++ codes " " ++ taken_text answer ++ codes "\n"

-- the rows of a copy that are known: it is known what they say
abbrev pub known_rows : List KeptRow → List ObjectRow
known_rows rows = filter_map shown_row (map (λ (kept : KeptRow). kept.row) rows)

-- whether a note was answered: memory did not run out
abbrev pub was_noticed : Result Taken NotifyError → Bool
was_noticed (Ok taken) = true
was_noticed (Err Unknown) = true
was_noticed (Err (TooMany held)) = true
was_noticed (Err (Jump expected first)) = true
was_noticed (Err (Torn id)) = true
was_noticed (Err NoMemory) = false

-- whether what a note told could be: the replica did not refuse it for its changes
abbrev pub can_be_told : Result Taken NotifyError → Bool
can_be_told (Ok taken) = true
can_be_told (Err Unknown) = true
can_be_told (Err (TooMany held)) = true
can_be_told (Err (Jump expected first)) = false
can_be_told (Err (Torn id)) = false
can_be_told (Err NoMemory) = true

-- the lines of notes that were sent, the first of which has this number
abbrev pub sent_lines : ℕ → List SentNote → List ℕ
sent_lines number [] = []
sent_lines number (note ∷ notes) = note_line number (head_of note) ++ sent_lines (number + 1) notes
