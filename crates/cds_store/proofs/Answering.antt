-- What is answered to a scan, by the tests that the store makes in their order.
use Rattle.std.proofs.Common.{◌≡◌, ◌+◌, ◌<◌, ◌≤◌, ◌^◌, true, false, cond, nat_lt, List, [], ◌∷◌, length, reverse, Option, Some, None, refl, sym, ◌∙◌, ap, arith}
use Rattle.std.specs.List.{filter_map, cons_option}
use Rattle.std.proofs.lemmas.Bool.Decides.{nat_tests}
use Rattle.std.proofs.lemmas.List.{length-reverse, length-append, length-map}
use Rattle.cds_object.specs.declared.record.Record.{Record}
use Rattle.cds_catalog.specs.Library.{FolderMap, map_of, found, arrival, departure}
use Rattle.cds_catalog.specs.History.{History, latest, end_of}
use Rattle.cds_catalog.specs.Catalog.{PlacedRow, placed_rows}
use Rattle.cds_catalog.specs.Scans.{Accepted, NoNumbers, scan_answer, bad_record, needed_by}
use Rattle.cds_catalog.specs.Steps.{Standing}
use Rattle.cds_catalog.specs.declared.change.Change.{Change}
use Rattle.cds_catalog.proofs.Accepted.{accepted_map}
use Rattle.cds_catalog.proofs.StepsWithin.{length-catalog}
use Rattle.cds_store.specs.Rows.{put_places}
use Rattle.cds_store.specs.Stands.{IsCatalogOf}
use Rattle.cds_store.proofs.Shown.{rows_show_library}

pub answer_to_good : (history : History) (records : List Record) → bad_record records ≡ None → length records ≤ 65535 →
    scan_answer history records
    ≡ cond (nat_lt 4294967295 (end_of history + needed_by history records)) (NoNumbers (needed_by history records)) Accepted
answer_to_good history records good few =
    let fits : nat_lt 65535 (length records) ≡ false = grind (arith, nat_tests) in
    rw (good, fits) refl

few_given : {X : Type 0} (h : X → Option Change) (xs : List X) → length (filter_map h xs) ≤ length xs
few_given h [] = omega arith
few_given {X} h (x ∷ xs) = by (h x) (few_given h xs)
  where
    by : (o : Option Change) → length (filter_map h xs) ≤ length xs → length (cons_option o (filter_map h xs)) ≤ length (x ∷ xs)
    by None few = omega arith
    by (Some change) few = omega arith

few_found : (old new : FolderMap) → length (found old new) ≤ length old + length new
few_found old new =
    let a = length-append (reverse (filter_map (arrival old) new)) (filter_map (departure new) old) in
    let b = length-reverse (filter_map (arrival old) new) in
    let c = few_given (arrival old) new in
    let d = few_given (departure new) old in
    omega (arith, a, b, c, d)

-- the changes from what the rows show are those from the newest folder map
pub changes_shown : (s : Standing) (history : History) (records : List Record) (changes : List Change) → IsCatalogOf s history →
    reverse changes ≡ found (put_places [] s.rows) (map_of records) → reverse changes ≡ found (latest history.maps) (map_of records)
changes_shown s history records changes stands e =
    e ∙ ap (λ (t : Standing). found (put_places [] t.rows) (map_of records)) stands.1
    ∙ ap (λ m. found m (map_of records)) (rows_show_library history stands.0)

pub changes_needed : (s : Standing) (history : History) (records : List Record) (changes : List Change) → IsCatalogOf s history →
    reverse changes ≡ found (put_places [] s.rows) (map_of records) → length changes ≡ needed_by history records
changes_needed s history records changes stands e = sym (length-reverse changes) ∙ ap length (changes_shown s history records changes stands e)

pub few_changes : (s : Standing) (history : History) (records : List Record) (changes : List Change) → IsCatalogOf s history → length s.rows ≤ 65536 →
    bad_record records ≡ None → length records ≤ 65535 →
    reverse changes ≡ found (put_places [] s.rows) (map_of records) → length changes < 2 ^ 32
few_changes s history records changes stands few good room e =
    let needed = changes_needed s history records changes stands e in
    let bound = few_found (latest history.maps) (map_of records) in
    let new = (accepted_map records good).1 in
    let old = length-catalog history in
    let rows = length-map (placed_rows history) (λ (placed : PlacedRow). placed.1) in
    let same = ap (λ (t : Standing). length t.rows) stands.1 in
    omega (arith, needed, bound, new, old, rows, same)

-- the answer where no record is bad and there are few
pub scan_accepted : (s : Standing) (history : History) (records : List Record) (changes : List Change) → IsCatalogOf s history →
    bad_record records ≡ None → length records ≤ 65535 →
    reverse changes ≡ found (put_places [] s.rows) (map_of records) →
    nat_lt 4294967295 (s.number + length changes) ≡ false → scan_answer history records ≡ Accepted
scan_accepted s history records changes stands good few e spent =
    answer_to_good history records good few
    ∙ ap (λ b. cond b (NoNumbers (needed_by history records)) Accepted)
    (ap (λ n. nat_lt 4294967295 (n + needed_by history records)) (sym (ap (λ (t : Standing). t.number) stands.1))
    ∙ ap (λ n. nat_lt 4294967295 (s.number + n)) (sym (changes_needed s history records changes stands e)) ∙ spent)

pub scan_spent : (s : Standing) (history : History) (records : List Record) (changes : List Change) → IsCatalogOf s history →
    bad_record records ≡ None → length records ≤ 65535 →
    reverse changes ≡ found (put_places [] s.rows) (map_of records) →
    nat_lt 4294967295 (s.number + length changes) ≡ true → scan_answer history records ≡ NoNumbers (length changes)
scan_spent s history records changes stands good few e spent =
    let needed = changes_needed s history records changes stands e in
    answer_to_good history records good few
    ∙ ap (λ b. cond b (NoNumbers (needed_by history records)) Accepted)
    (ap (λ n. nat_lt 4294967295 (n + needed_by history records)) (sym (ap (λ (t : Standing). t.number) stands.1))
    ∙ ap (λ n. nat_lt 4294967295 (s.number + n)) (sym needed) ∙ spent)
    ∙ ap NoNumbers (sym needed)
