-- The script of a generated library, by a seed and the number of its tracks (this project's profile).
use Rattle.std.specs.Prelude.{ℕ, zero, suc, ◌+◌, ◌*◌, ◌/◌, ◌%◌, max, Bool, true, false, cond, nat_eq, List, [], ◌++◌, length, Option, Some, None, slice_get, codes}
use Rattle.std.specs.Fmt.{decimal}
use Rattle.cds_generate.specs.declared.library.Track.{Track}
use Rattle.cds_generate.specs.declared.history.Step.{Step}
use Rattle.cds_generate.specs.History.{HistoryState, first_history, step_at, after_step, after_steps}

-- how many folders there are for this many tracks
abbrev pub folders_of : ℕ → ℕ
folders_of count = max 1 (count * 3 / 40)

-- how many reads a whole load takes at most
abbrev pub load_reads : ℕ → ℕ
load_reads count = 4 + 2 * (folders_of count + 1 + (folders_of count + count) / 256)

-- how many reads all objects take
abbrev pub all_reads : ℕ → ℕ
all_reads count = count + folders_of count

-- how many reads a step has: all objects are new in the first one, and few are in each other
abbrev pub step_reads : ℕ → ℕ → ℕ
step_reads step count = cond (nat_eq step 1) (all_reads count) (2 * (count / 50 + 2))

-- the texts of the numbers below n, in ascending order
unfoldable pub texts_below : ℕ → (ℕ → List ℕ) → List ℕ
texts_below zero text = []
texts_below (suc n) text = texts_below n text ++ text n

-- this many reads
abbrev pub reads_text : ℕ → List ℕ
reads_text n = texts_below n (λ _. codes "read\n")

-- the line of a note that is delivered
abbrev pub deliver_line : ℕ → List ℕ
deliver_line note = codes "deliver " ++ decimal note ++ codes "\n"

-- ---- the library

abbrev pub folder_line : ℕ → List ℕ
folder_line folder = codes "folder f" ++ decimal folder ++ codes "\n"

-- a track is in the folder whose number is what its own leaves by the number of folders. Its size shows its version
abbrev pub track_place : ℕ → ℕ → List ℕ
track_place folders number = codes "track f" ++ decimal (number % folders) ++ codes "/t" ++ decimal number ++ codes ".flac "

abbrev pub track_facts : ℕ → ℕ → List ℕ
track_facts number version = decimal (1000000 + 1000 * number + version) ++ codes " 44100 2 16 " ++ decimal (441000 + number) ++ codes "\n"

abbrev pub track_line : ℕ → ℕ → ℕ → List ℕ
track_line folders number version = track_place folders number ++ track_facts number version

abbrev pub tag_line : ℕ → List ℕ
tag_line number = codes "tag TITLE Title%20" ++ decimal number ++ codes "\n"

-- the lines of a track, if there is one and it is present
abbrev pub present_lines : ℕ → ℕ → Option Track → List ℕ
present_lines folders number None = []
present_lines folders number (Some track) = cond track.present (track_line folders number track.version ++ tag_line number) []

abbrev pub tracks_text : List Track → List ℕ
tracks_text tracks = texts_below (length tracks) (λ number. present_lines (folders_of (length tracks)) number (slice_get tracks number))

-- all folders, and then the tracks that are present
abbrev pub library_text : List Track → List ℕ
library_text tracks = texts_below (folders_of (length tracks)) folder_line ++ tracks_text tracks

-- ---- a step

-- the scan, a quarter of a second after the one before
abbrev pub scan_text : ℕ → List ℕ
scan_text step = codes "scan\nat " ++ decimal (250 * step) ++ codes "\n"

-- what becomes of the note of a step, by the reads of a whole load
abbrev pub note_text : ℕ → ℕ → ℕ → List ℕ
note_text reads kind note =
    cond (nat_eq kind 0) (codes "unsubscribe\nsubscribe\naccept\n" ++ deliver_line (note + 1) ++ reads_text reads)
    (cond (nat_eq kind 1) (deliver_line note ++ deliver_line note)
    (cond (nat_eq kind 2) [] (deliver_line note)))

-- a note of the step before that is late
abbrev pub late_text : Option ℕ → List ℕ
late_text None = []
late_text (Some note) = deliver_line note

abbrev pub ask_text : Bool → List ℕ
ask_text false = []
ask_text true = codes "ask\n"

-- what ends a step, and the script: the late note, reads, and maybe an ask
abbrev pub ending_text : Option ℕ → ℕ → Bool → List ℕ
ending_text late reads asks = late_text late ++ reads_text reads ++ ask_text asks

-- the library is scanned, and its note is delivered or not
abbrev pub scanned_text : List Track → Step → List ℕ
scanned_text tracks step = library_text tracks ++ scan_text step.number ++ note_text (load_reads (length tracks)) step.kind step.note

-- a step with the tracks of its scan. Each tenth step ends with an ask
abbrev pub step_text : List Track → Step → List ℕ
step_text tracks step =
    scanned_text tracks step ++ ending_text step.late (step_reads step.number (length tracks)) (nat_eq (step.number % 10) 0)

-- the step of a number, after a history
abbrev pub text_of_step : ℕ → HistoryState → List ℕ
text_of_step number history = step_text (after_step number history).library.tracks (step_at number history)

-- ---- the script

-- a load of the empty library, and a subscription
abbrev pub opening : List ℕ
opening = codes "load\nread\nread\nread\nread\nread\nread\nsubscribe\naccept\ndeliver 1\n"

abbrev pub closing_text : HistoryState → List ℕ
closing_text history = ending_text history.late (all_reads (length history.library.tracks)) true

-- this many steps after a history
abbrev pub steps_text : ℕ → HistoryState → List ℕ
steps_text steps history = texts_below steps (λ done. text_of_step (done + 1) (after_steps done history))

-- the script of this many steps
unfoldable pub script_of : ℕ → ℕ → ℕ → List ℕ
script_of steps seed count =
    opening ++ steps_text steps (first_history seed count) ++ closing_text (after_steps steps (first_history seed count))

-- the script, which has 40 steps
unfoldable pub generated : ℕ → ℕ → List ℕ
generated seed count = script_of 40 seed count
