-- A generated script is within the limit of scripts: each number has at most 20 digits, and there are few lines.
use Rattle.std.proofs.Common.{◌≡◌, ◌+◌, ◌*◌, ◌/◌, ◌%◌, ◌^◌, ◌<◌, ◌≤◌, ℕ, zero, suc, Bool, true, false, cond, nat_eq, List, [], ◌∷◌, ◌++◌, length, slice_get, Option, Some, None, codes, subst, length-append, arith}
use Rattle.std.specs.Fmt.{decimal}
use Rattle.std.proofs.lemmas.Nat.{mod_below}
use Rattle.cds_script.specs.Lines.{script_limit}
use Rattle.cds_generate.specs.Generated.{all_reads, ask_text, closing_text, deliver_line, ending_text, folder_line, folders_of, generated, late_text, library_text, load_reads, note_text, opening, present_lines, reads_text, scan_text, scanned_text, script_of, step_reads, steps_text, tag_line, text_of_step, texts_below, track_facts, track_line, track_place, tracks_text}
use Rattle.cds_generate.specs.History.{HistoryState, after_step, after_steps, first_history, kind_of, step_at}
use Rattle.cds_generate.specs.Library.{AreBelow, library_at}
use Rattle.cds_generate.specs.Language.{scripts_are_short}
use Rattle.cds_generate.specs.declared.library.Track.{Track}
use Rattle.cds_generate.proofs.Plain.{decimal-short}
use Rattle.cds_generate.proofs.Tracks.{IsBounded, bounded-steps, steps-more}

-- two pieces
joined : (m n : ℕ) (a b : List ℕ) → length a ≤ m → length b ≤ n → length (a ++ b) ≤ m + n
joined m n a b one two = let sum = length-append a b in omega (arith, sum, one, two)

-- a bound that is above another
above : (m n : ℕ) (a : List ℕ) → m ≤ n → length a ≤ m → length a ≤ n
above m n a low size = omega (arith, low, size)

-- ---- lines with numbers

deliver-size : (n : ℕ) → n < 2 ^ 64 → length (deliver_line n) ≤ 29
deliver-size n low = joined 28 1 (codes "deliver " ++ decimal n) (codes "\n") (joined 8 20 (codes "deliver ") (decimal n) (omega arith) (decimal-short n low)) (omega arith)

folder-size : (n : ℕ) → n < 2 ^ 64 → length (folder_line n) ≤ 29
folder-size n low = joined 28 1 (codes "folder f" ++ decimal n) (codes "\n") (joined 8 20 (codes "folder f") (decimal n) (omega arith) (decimal-short n low)) (omega arith)

scan-size : (step : ℕ) → step ≤ 40 → length (scan_text step) ≤ 29
scan-size step low =
    joined 28 1 (codes "scan\nat " ++ decimal (250 * step)) (codes "\n")
    (joined 8 20 (codes "scan\nat ") (decimal (250 * step)) (omega arith) (decimal-short (250 * step) (omega (arith, low)))) (omega arith)

tag-size : (n : ℕ) → n < 2 ^ 64 → length (tag_line n) ≤ 39
tag-size n low =
    joined 38 1 (codes "tag TITLE Title%20" ++ decimal n) (codes "\n") (joined 18 20 (codes "tag TITLE Title%20") (decimal n) (omega arith) (decimal-short n low)) (omega arith)

track-size : (folders number version : ℕ) → number ≤ 10000 → version < 2 ^ 32 → number % folders < 2 ^ 64 → length (track_line folders number version) ≤ 108
track-size folders number version few low place =
    joined 55 53 (track_place folders number) (track_facts number version)
    (joined 49 6 (((codes "track f" ++ decimal (number % folders)) ++ codes "/t") ++ decimal number) (codes ".flac ")
    (joined 29 20 ((codes "track f" ++ decimal (number % folders)) ++ codes "/t") (decimal number)
    (joined 27 2 (codes "track f" ++ decimal (number % folders)) (codes "/t")
    (joined 7 20 (codes "track f") (decimal (number % folders)) (omega arith) (decimal-short (number % folders) place)) (omega arith))
    (decimal-short number (omega (arith, few)))) (omega arith))
    (joined 52 1 ((decimal (1000000 + 1000 * number + version) ++ codes " 44100 2 16 ") ++ decimal (441000 + number)) (codes "\n")
    (joined 32 20 (decimal (1000000 + 1000 * number + version) ++ codes " 44100 2 16 ") (decimal (441000 + number))
    (joined 20 12 (decimal (1000000 + 1000 * number + version)) (codes " 44100 2 16 ") (decimal-short (1000000 + 1000 * number + version) (omega (arith, few, low))) (omega arith))
    (decimal-short (441000 + number) (omega (arith, few)))) (omega arith))

-- ---- many pieces

texts-size : (size n : ℕ) (text : ℕ → List ℕ) → ((k : ℕ) → k < n → length (text k) ≤ size) → length (texts_below n text) ≤ size * n
unfolding texts_below
texts-size size zero text each = omega arith
texts-size size (suc n) text each =
    let rest = texts-size size n text (λ k low. each k (omega (arith, low))) in
    let last = each n (omega arith) in
    let sum = length-append (texts_below n text) (text n) in
    let product : size * suc n ≡ size * n + size = omega arith in
    omega (arith, rest, last, sum, product)

reads-size : (n : ℕ) → length (reads_text n) ≤ 5 * n
reads-size n = texts-size 5 n (λ (_ : ℕ). codes "read\n") (λ k low. omega arith)

abbrev IsLow : Option Track → Type 0
IsLow None = Unit {0}
IsLow (Some track) = track.version < 2 ^ 32

got-low : (n k : ℕ) (tracks : List Track) → n ≤ 2 ^ 32 → AreBelow n tracks → IsLow (slice_get tracks k)
got-low n k [] wide are = tt
got-low n zero (track ∷ tracks) wide are = omega (arith, are.0, wide)
got-low n (suc k) (track ∷ tracks) wide are = got-low n k tracks wide are.1

present-size : (folders number : ℕ) (track : Option Track) → number ≤ 10000 → number % folders < 2 ^ 64 → IsLow track → length (present_lines folders number track) ≤ 147
present-size folders number None few place low = omega arith
present-size folders number (Some track) few place low = by track.present
  where
    by : (b : Bool) → length (cond b (track_line folders number track.version ++ tag_line number) []) ≤ 147
    by true = joined 108 39 (track_line folders number track.version) (tag_line number) (track-size folders number track.version few low place) (tag-size number (omega (arith, few)))
    by false = omega arith

folders-few : (count : ℕ) → count ≤ 10000 → folders_of count ≤ 751
folders-few count few = omega (arith, few)

library-size : (n : ℕ) (tracks : List Track) → length tracks ≤ 10000 → n ≤ 2 ^ 32 → AreBelow n tracks → length (library_text tracks) ≤ 1491779
library-size n tracks few wide are =
    let most = folders-few (length tracks) few in
    let some : 0 < folders_of (length tracks) = omega arith in
    let first = texts-size 29 (folders_of (length tracks)) folder_line (λ k low. folder-size k (omega (arith, low, most))) in
    let rest = texts-size 147 (length tracks) (λ (number : ℕ). present_lines (folders_of (length tracks)) number (slice_get tracks number))
    (λ k low. present-size (folders_of (length tracks)) k (slice_get tracks k) (omega (arith, low, few))
    (let below = mod_below k (folders_of (length tracks)) some in omega (arith, below, most)) (got-low n k tracks wide are)) in
    joined 21779 1470000 (texts_below (folders_of (length tracks)) folder_line) (tracks_text tracks) (omega (arith, first, most)) (omega (arith, rest, few))

note-size : (reads kind note : ℕ) → reads ≤ 1600 → note + 1 < 2 ^ 64 → length (note_text reads kind note) ≤ 8061
note-size reads kind note few low = by (nat_eq kind 0) (nat_eq kind 1) (nat_eq kind 2)
  where
    once : length (deliver_line note) ≤ 29
    once = deliver-size note (omega (arith, low))

    by : (a b d : Bool) → length (cond a (codes "unsubscribe\nsubscribe\naccept\n" ++ deliver_line (note + 1) ++ reads_text reads)
        (cond b (deliver_line note ++ deliver_line note) (cond d [] (deliver_line note)))) ≤ 8061
    by true b d =
        joined 61 8000 (codes "unsubscribe\nsubscribe\naccept\n" ++ deliver_line (note + 1)) (reads_text reads)
        (joined 32 29 (codes "unsubscribe\nsubscribe\naccept\n") (deliver_line (note + 1)) (omega arith) (deliver-size (note + 1) low))
        (let size = reads-size reads in omega (arith, size, few))
    by false true d = above 58 8061 (deliver_line note ++ deliver_line note) (omega arith) (joined 29 29 (deliver_line note) (deliver_line note) once once)
    by false false true = omega arith
    by false false false = above 29 8061 (deliver_line note) (omega arith) once

abbrev LowNote : Option ℕ → Type 0
LowNote None = Unit {0}
LowNote (Some note) = note < 2 ^ 64

late-size : (late : Option ℕ) → LowNote late → length (late_text late) ≤ 29
late-size None low = omega arith
late-size (Some note) low = deliver-size note low

ask-size : (asks : Bool) → length (ask_text asks) ≤ 4
ask-size true = omega arith
ask-size false = omega arith

ending-size : (late : Option ℕ) (reads : ℕ) (asks : Bool) → LowNote late → reads ≤ 10751 → length (ending_text late reads asks) ≤ 53788
ending-size late reads asks low few =
    joined 53784 4 (late_text late ++ reads_text reads) (ask_text asks)
    (joined 29 53755 (late_text late) (reads_text reads) (late-size late low) (let size = reads-size reads in omega (arith, size, few))) (ask-size asks)

late-low : (k seed count : ℕ) → count ≤ 10000 → k ≤ 40 → LowNote (after_steps k (first_history seed count)).late
unfolding after_steps
late-low zero seed count few most = tt
late-low (suc k) seed count few most = by (nat_eq (kind_of (library_at (suc k) (after_steps k (first_history seed count)).library)) 2)
  where
    by : (b : Bool) → LowNote (cond b (Some ((after_steps k (first_history seed count)).sent + 1)) None)
    by true = let is = bounded-steps k seed count few in let notes = is.notes in omega (arith, notes, most)
    by false = tt

load-few : (count : ℕ) → count ≤ 10000 → load_reads count ≤ 1600
load-few count few = omega (arith, few)

step-few : (step count : ℕ) → count ≤ 10000 → step_reads step count ≤ 10751
step-few step count few = by (nat_eq step 1)
  where
    by : (b : Bool) → cond b (all_reads count) (2 * (count / 50 + 2)) ≤ 10751
    by true = omega (arith, few)
    by false = omega (arith, few)

-- ---- a step, and the script

module _ (k seed count : ℕ) (few : count ≤ 10000) (low : k < 40) where
  abbrev history : HistoryState
  history = after_steps k (first_history seed count)

  abbrev tracks : List Track
  tracks = (after_step (k + 1) history).library.tracks

  later : IsBounded (k + 1) count (after_step (k + 1) history)
  later = subst (λ (h : HistoryState). IsBounded (k + 1) count h) (steps-more k (first_history seed count)) (bounded-steps (k + 1) seed count few)

  few-tracks : length tracks ≤ 10000
  few-tracks = let is = later in let size = is.size in omega (arith, size, few)

  note-low : history.sent + 1 + 1 < 2 ^ 64
  note-low = let is = bounded-steps k seed count few in let notes = is.notes in omega (arith, notes, low)

  step-size : length (text_of_step (k + 1) history) ≤ 1553657
  step-size =
      let is = later in
      joined 1499869 53788 (scanned_text tracks (step_at (k + 1) history)) (ending_text history.late (step_reads (k + 1) (length tracks)) (nat_eq ((k + 1) % 10) 0))
      (joined 1491808 8061 (library_text tracks ++ scan_text (k + 1)) (note_text (load_reads (length tracks)) (kind_of (library_at (k + 1) history.library)) (history.sent + 1))
      (joined 1491779 29 (library_text tracks) (scan_text (k + 1)) (library-size (1 + 202 * (k + 1)) tracks few-tracks (omega (arith, low)) is.versions) (scan-size (k + 1) (omega (arith, low))))
      (note-size (load_reads (length tracks)) (kind_of (library_at (k + 1) history.library)) (history.sent + 1) (load-few (length tracks) few-tracks) note-low))
      (ending-size history.late (step_reads (k + 1) (length tracks)) (nat_eq ((k + 1) % 10) 0) (late-low k seed count few (omega (arith, low)))
      (step-few (k + 1) (length tracks) few-tracks))

pub short : scripts_are_short
unfolding generated script_of
short seed count some few =
    let is = bounded-steps 40 seed count few in
    let size = is.size in
    let steps = texts-size 1553657 40 (λ (done : ℕ). text_of_step (done + 1) (after_steps done (first_history seed count))) (λ k low. step-size k seed count few low) in
    above (100 + 62146280 + 53788) script_limit
    (opening ++ steps_text 40 (first_history seed count) ++ closing_text (after_steps 40 (first_history seed count))) (omega arith)
    (joined (100 + 62146280) 53788 (opening ++ steps_text 40 (first_history seed count)) (closing_text (after_steps 40 (first_history seed count)))
    (joined 100 62146280 opening (steps_text 40 (first_history seed count)) (omega arith) (omega (arith, steps)))
    (ending-size (after_steps 40 (first_history seed count)).late (all_reads (length (after_steps 40 (first_history seed count)).library.tracks)) true
    (late-low 40 seed count few (omega arith)) (omega (arith, size, few))))
