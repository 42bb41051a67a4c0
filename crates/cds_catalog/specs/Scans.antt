-- Which lists of records a server accepts, and what it answers to each (this project's profile).
use Rattle.std.specs.Prelude.{◌+◌, ◌||◌, ◌&&◌, ℕ, Bool, true, cond, not, nat_lt, List, [], ◌∷◌, ◌++◌, length, Option, Some, None}
use Rattle.std.specs.List.{list_any}
use Rattle.cds_object.specs.Path.{same_path, parent_of}
use Rattle.cds_object.specs.Object.{is_folder}
use Rattle.cds_object.specs.declared.record.Record.{Record}
use Rattle.cds_catalog.specs.Library.{map_of, found}
use Rattle.cds_catalog.specs.History.{History, latest, end_of, with_scan}

-- whether a place is the root's or that of a folder of the records
abbrev pub is_container : List Record → List (List ℕ) → Bool
is_container records [] = true
is_container records (name ∷ names) = list_any (λ r. same_path (name ∷ names) r.path && is_folder r.content) records

-- whether a record cannot stand: nothing holds its place, or its place came before. Nor can one at the root's own place, which no
-- path that was read names
abbrev pub is_bad : List Record → List Record → Record → Bool
is_bad records before r =
    same_path r.path [] || not (is_container records (parent_of r.path)) || list_any (λ other. same_path r.path other.path) before

-- the first record of the rest that cannot stand, counted from 1 over all records
abbrev pub bad_from : List Record → List Record → List Record → Option ℕ
bad_from records before [] = None
bad_from records before (r ∷ rest) =
    cond (is_bad records before r) (Some (length before + 1)) (bad_from records (before ++ r ∷ []) rest)

abbrev pub bad_record : List Record → Option ℕ
bad_record records = bad_from records [] records

-- how many changes a scan of these records makes
abbrev pub needed_by : History → List Record → ℕ
needed_by history records = length (found (latest history.maps) (map_of records))

-- what is answered to a scan: it is accepted; or its first record that cannot stand; or how many objects there are besides the
-- root, if they are more than 65,535; or how many changes there are, if they lead above 4,294,967,295
pub data ScanAnswer : Type 0 where
  Accepted : ScanAnswer
  BadRecord : ℕ → ScanAnswer
  TooMany : ℕ → ScanAnswer
  NoNumbers : ℕ → ScanAnswer

abbrev pub answer_by : History → List Record → Option ℕ → ScanAnswer
answer_by history records (Some line) = BadRecord line
answer_by history records None =
    cond (nat_lt 65535 (length records)) (TooMany (length records))
    (cond (nat_lt 4294967295 (end_of history + needed_by history records)) (NoNumbers (needed_by history records)) Accepted)

abbrev pub scan_answer : History → List Record → ScanAnswer
scan_answer history records = answer_by history records (bad_record records)

-- the history after a scan, which a refusal leaves as it was
abbrev pub history_by : History → List Record → ScanAnswer → History
history_by history records Accepted = with_scan history (map_of records)
history_by history records (BadRecord line) = history
history_by history records (TooMany objects) = history
history_by history records (NoNumbers needed) = history

abbrev pub after_scan : History → List Record → History
after_scan history records = history_by history records (scan_answer history records)
