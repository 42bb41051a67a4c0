-- What follows for a store from an accepted scan.
use Rattle.std.proofs.Common.{◌≡◌, ◌+◌, ◌<◌, ◌≤◌, ◌^◌, ℕ, Bool, true, false, nat_lt, List, [], ◌++◌, length, Option, Some, None, refl, sym, ◌∙◌, ap, subst, arith}
use Rattle.std.proofs.lemmas.Bool.Decides.{nat_tests}
use Rattle.std.proofs.lemmas.List.{length-append, length-map}
use Rattle.cds_object.specs.declared.record.Record.{Record}
use Rattle.cds_catalog.specs.Library.{map_of, found}
use Rattle.cds_catalog.specs.History.{History, latest, changes_of, end_of, with_scan}
use Rattle.cds_catalog.specs.Catalog.{PlacedRow, placed_rows}
use Rattle.cds_catalog.specs.Scans.{Accepted, BadRecord, TooMany, NoNumbers, scan_answer, bad_record, needed_by}
use Rattle.cds_catalog.specs.Steps.{Standing, stepped}
use Rattle.cds_catalog.specs.declared.change.Change.{Change}
use Rattle.cds_catalog.proofs.Accepted.{accepted_map}
use Rattle.cds_catalog.proofs.StepsWithin.{length-catalog}
use Rattle.cds_catalog.proofs.StepsCatalog.{steps_lead_to_the_catalog-proof}
use Rattle.cds_changes.specs.declared.event_with_parent.EventWithParent.{EventWithParent}
use Rattle.cds_changes.specs.EventsWithParents.{all_after}
use Rattle.cds_catalog.specs.Laws.{AreLibraries}
use Rattle.cds_catalog.proofs.Maps.{latest_is_library}
use Rattle.cds_changes.specs.Subtrees.{IsOrderly}
use Rattle.cds_changes.proofs.Orderly.{found-orderly}
use Rattle.cds_store.specs.ChangeEvents.{changes_in, all_events_by}
use Rattle.cds_store.specs.SubtreeIndex.{AreMarked}
use Rattle.cds_store.specs.declared.subtrees.MarkedChange.{MarkedChange}
use Rattle.cds_store.proofs.KeptEvents.{kept-more, kept-same}
use Rattle.cds_store.proofs.ScanEvents.{told-scan}
use Rattle.cds_store.specs.Stands.{Stored, IsCatalogOf, StandsFor, IsStore, IsScan}

-- what an accepted scan has passed
record Passed (history : History) (records : List Record) : Type 0 where
  good : bad_record records ≡ None
  few : length records ≤ 65535
  fits : end_of history + needed_by history records < 2 ^ 32

passed : (history : History) (records : List Record) → scan_answer history records ≡ Accepted → Passed history records
passed history records accepted = by_bad (bad_record records) refl
  where
    by_end : (b : Bool) → bad_record records ≡ None → nat_lt 65535 (length records) ≡ false →
        nat_lt 4294967295 (end_of history + needed_by history records) ≡ b → Passed history records
    by_end true good few spent =
        let answer : scan_answer history records ≡ NoNumbers (needed_by history records) = rw (good, few, spent) refl in
        cc
    by_end false good few spent = record { good = good; few = grind (arith, nat_tests); fits = grind (arith, nat_tests) }

    by_few : (b : Bool) → bad_record records ≡ None → nat_lt 65535 (length records) ≡ b → Passed history records
    by_few true good many =
        let answer : scan_answer history records ≡ TooMany (length records) = rw (good, many) refl in
        cc
    by_few false good few = by_end (nat_lt 4294967295 (end_of history + needed_by history records)) good few refl

    by_bad : (o : Option ℕ) → bad_record records ≡ o → Passed history records
    by_bad (Some line) bad =
        let answer : scan_answer history records ≡ BadRecord line = rw bad refl in
        cc
    by_bad None good = by_few (nat_lt 65535 (length records)) good refl

end_of_scan : (history : History) (records : List Record) → end_of (with_scan history (map_of records)) ≡ end_of history + needed_by history records
end_of_scan history records =
    let both = length-append (found (latest history.maps) (map_of records)) (changes_of history.maps) in
    omega arith

-- the changes of an accepted scan can be made
pub accepted_is_scan : (s : Standing) (history : History) (records : List Record) (changes : List Change) → IsCatalogOf s history →
    scan_answer history records ≡ Accepted → changes ≡ found (latest history.maps) (map_of records) → IsScan s changes
accepted_is_scan s history records changes stands accepted made =
    let p = passed history records accepted in
    let fits = p.fits in
    let end = end_of_scan history records in
    record {
      history = history;
      library = map_of records;
      stands = stands;
      is_library = (accepted_map records p.good).0;
      made = made;
      fits = omega arith;
    }

-- once they are made the store stands for the history with the scan
pub applied_stands : (s now : Standing) (history : History) (records : List Record) (changes : List Change) → IsCatalogOf s history →
    scan_answer history records ≡ Accepted → changes ≡ found (latest history.maps) (map_of records) → now ≡ stepped s changes →
    IsCatalogOf now (with_scan history (map_of records))
applied_stands s now history records changes stands accepted made is =
    let library = (accepted_map records (passed history records accepted).good).0 in (
      (library, stands.0),
      is ∙ ap (stepped s) made ∙ ap (λ (t : Standing). stepped t (found (latest history.maps) (map_of records))) stands.1
          ∙ sym (steps_lead_to_the_catalog-proof history (map_of records) stands.0 library),
    )

few_rows : (now : Standing) (history : History) (records : List Record) → scan_answer history records ≡ Accepted →
    IsCatalogOf now (with_scan history (map_of records)) → length now.rows ≤ 65536
few_rows now history records accepted stands =
    let p = passed history records accepted in
    let few = p.few in
    let new = (accepted_map records p.good).1 in
    let counted = length-catalog (with_scan history (map_of records)) in
    let rows = length-map (placed_rows (with_scan history (map_of records))) (λ (placed : PlacedRow). placed.1) in
    let same = ap (λ (t : Standing). length t.rows) stands.1 in
    omega (arith, few, new, counted, rows, same)

-- the store that keeps the events of the changes as well
pub stored_after : (store : Stored) (now : Standing) (kept : List EventWithParent) (history : History) (records : List Record) (changes : List Change) →
    StandsFor store history → scan_answer history records ≡ Accepted → changes ≡ found (latest history.maps) (map_of records) →
    now ≡ stepped store.standing changes →
    kept ≡ all_after (with_scan history (map_of records)) store.forgotten →
    StandsFor (record { standing = now; forgotten = store.forgotten; kept = kept }) (with_scan history (map_of records))
stored_after store now kept history records changes stands accepted made is keeps =
    let after = applied_stands store.standing now history records changes (stands.0, stands.1) accepted made is in
    let end = end_of_scan history records in
    let low = stands.2 in
    (after.0, after.1, omega (arith, end, low), keeps)

pub stored_is_store : (store : Stored) (history : History) (records : List Record) → scan_answer history records ≡ Accepted →
    StandsFor store (with_scan history (map_of records)) → IsStore store
stored_is_store store history records accepted stands = record {
  history = with_scan history (map_of records);
  stands = stands;
  few = few_rows store.standing history records accepted (stands.0, stands.1);
}

-- the changes of an accepted scan are in order, and closed
pub accepted_orderly : (history : History) (records : List Record) (changes : List Change) → AreLibraries history.maps →
    scan_answer history records ≡ Accepted → changes ≡ found (latest history.maps) (map_of records) → IsOrderly changes
accepted_orderly history records changes all accepted made =
    subst IsOrderly (sym made)
    (found-orderly (latest history.maps) (map_of records) (latest_is_library history.maps all) (accepted_map records (passed history records accepted).good).0)

-- the store after all changes of a scan are made, with their events
pub scanned : (store : Stored) (history : History) (records : List Record) (changes : List Change) (plan : List MarkedChange) (next now : Standing)
    (told kept : List EventWithParent) → StandsFor store history → scan_answer history records ≡ Accepted → changes ≡ found (latest history.maps) (map_of records) →
    changes_in plan ≡ changes → AreMarked changes plan [] → next ≡ store.standing → now ≡ stepped next (changes_in plan) →
    told ≡ all_events_by next plan → kept ≡ store.kept ++ told →
    StandsFor (record { standing = now; forgotten = store.forgotten; kept = kept }) (with_scan history (map_of records))
scanned store history records changes plan next now told kept stands accepted made planned marked copy steps tells keeps =
    let library = (accepted_map records (passed history records accepted).good).0 in
    stored_after store now kept history records changes stands accepted made
    (steps ∙ (λ i. stepped (copy i) (planned i)))
    (keeps ∙ kept-more history (map_of records) store.forgotten store.kept told stands.2 stands.3
    (tells ∙ told-scan history (map_of records) next changes plan stands.0 library (copy ∙ stands.1) made planned marked))

-- without changes everything stays
pub unchanged : (store : Stored) (history : History) (records : List Record) (changes : List Change) → StandsFor store history →
    scan_answer history records ≡ Accepted → changes ≡ found (latest history.maps) (map_of records) → changes ≡ [] →
    StandsFor store (with_scan history (map_of records))
unchanged store history records changes stands accepted made none =
    stored_after store store.standing store.kept history records changes stands accepted made
    (ap (stepped store.standing) (sym none))
    (kept-same history (map_of records) store.forgotten store.kept stands.2 stands.3 (sym none ∙ made))
