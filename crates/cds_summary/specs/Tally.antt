-- What is kept of a report that comes in parts: the counts of its lines so far.
use Rattle.std.specs.Prelude.{◌≡◌, ℕ, ◌+◌, cond, true, List, ◌++◌, length, codes}
use Rattle.cds_object.specs.Content.{same_text}
use Rattle.cds_script.specs.Lines.{lines_of, is_unbroken}
use Rattle.cds_summary.specs.Summary.{count_line, count_of, first_word, held}
use Rattle.cds_summary.specs.declared.counts.Counts.{Counts}
use Rattle.cds_summary.specs.declared.tally.Tally.{Tally}

-- the counts of lines
abbrev pub counts_of : List (List ℕ) → Counts
counts_of all = record {
  lines = held (length all);
  accept = count_of (codes "accept") all;
  behind = count_of (codes "behind") all;
  deliver = count_of (codes "deliver") all;
  gap = count_of (codes "gap") all;
  note = count_of (codes "note") all;
  read = count_of (codes "read") all;
  readfault = count_of (codes "readfault") all;
  renew = count_of (codes "renew") all;
  scan = count_of (codes "scan") all;
  stands = count_of (codes "stands") all;
  unsubscribe = count_of (codes "unsubscribe") all;
}

-- a count after one more line, by the line's first word
abbrev pub and_word : List ℕ → List ℕ → ℕ → ℕ
and_word word first n = cond (same_text first word) (held (n + 1)) n

-- counts after one more line
abbrev pub and_line : List ℕ → Counts → Counts
and_line line counts = record {
  lines = held (counts.lines + 1);
  accept = and_word (codes "accept") (first_word line) counts.accept;
  behind = and_word (codes "behind") (first_word line) counts.behind;
  deliver = and_word (codes "deliver") (first_word line) counts.deliver;
  gap = and_word (codes "gap") (first_word line) counts.gap;
  note = and_word (codes "note") (first_word line) counts.note;
  read = and_word (codes "read") (first_word line) counts.read;
  readfault = and_word (codes "readfault") (first_word line) counts.readfault;
  renew = and_word (codes "renew") (first_word line) counts.renew;
  scan = and_word (codes "scan") (first_word line) counts.scan;
  stands = and_word (codes "stands") (first_word line) counts.stands;
  unsubscribe = and_word (codes "unsubscribe") (first_word line) counts.unsubscribe;
}

-- the lines that tell counts, in three parts
abbrev pub first_counts : Counts → List ℕ
first_counts counts =
    count_line (codes "lines") counts.lines ++ (count_line (codes "accept") counts.accept
    ++ (count_line (codes "behind") counts.behind ++ count_line (codes "deliver") counts.deliver))

abbrev pub middle_counts : Counts → List ℕ
middle_counts counts =
    count_line (codes "gap") counts.gap ++ (count_line (codes "note") counts.note
    ++ (count_line (codes "read") counts.read ++ count_line (codes "readfault") counts.readfault))

abbrev pub last_counts : Counts → List ℕ
last_counts counts =
    count_line (codes "renew") counts.renew ++ (count_line (codes "scan") counts.scan
    ++ (count_line (codes "stands") counts.stands ++ count_line (codes "unsubscribe") counts.unsubscribe))

abbrev pub counts_text : Counts → List ℕ
counts_text counts = first_counts counts ++ (middle_counts counts ++ last_counts counts)

-- a tally of a report so far: the lines that an LF ended are counted, and the bytes after them are kept
pub record IsTally (tally : Tally) (report : List ℕ) : Type 0 where
  pub front : List ℕ
  pub parts : report ≡ front ++ tally.partial.items
  pub unbroken : is_unbroken tally.partial.items ≡ true
  pub counted : tally.counts ≡ counts_of (lines_of front)
  pub whole : (more : List ℕ) → lines_of (front ++ more) ≡ lines_of front ++ lines_of more
