-- The numbers of the rows lie between the first and the newest.
use Rattle.std.proofs.Common.{◌≡◌, ◌+◌, ◌≤◌, ℕ, max, Bool, true, false, cond, map, List, [], ◌∷◌, length, MatchOption, arith}
use Rattle.std.specs.List.{count_by}
use Rattle.std.proofs.lemmas.List.Sums.{count_by-le-length}
use Rattle.cds_object.specs.declared.content.Content.{Content}
use Rattle.cds_object.specs.declared.content.Content.TheVariants.{Folder, Track}
use Rattle.cds_catalog.specs.Library.{FolderMap}
use Rattle.cds_catalog.specs.History.{latest, changes_of, end_of, is_addition, adds, sets, is_under, deletes_under, up_to, after}
use Rattle.cds_catalog.specs.Catalog.{PlacedRow, root_entry, row_at, trackers_of, placed_rows}
use Rattle.cds_catalog.specs.RowLaws.{LiesBetween, CountsWithin, numbers_lie_between}
use Rattle.cds_catalog.specs.declared.change.Change.{Change}
use Rattle.cds_catalog.specs.declared.change.Change.TheVariants.{Deletion, Addition, Modification}
use Rattle.cds_catalog.proofs.StepsPaths.{Place}
use Rattle.cds_catalog.proofs.StepsFind.{Entry, each-all, each-map, count_by-cons}
use Rattle.cds_catalog.proofs.StepsOrder.{each-in_order}
use Rattle.cds_catalog.proofs.StepsIds.{length-up_to}

up : (first a n : ℕ) → a ≤ n → first + a ≤ first + n
up first a n h = omega arith

both_up : (first a b n : ℕ) → a ≤ n → b ≤ n → first + max a b ≤ first + n
both_up first a b n h k = omega arith

from_first : (first a : ℕ) → first ≤ first + a
from_first first a = omega arith

-- an addition deletes nothing
both_counted : (p : Place) (changes : List Change) → count_by is_addition changes + count_by (deletes_under p) changes ≤ length changes
both_counted p [] = omega arith
both_counted p (Deletion at ∷ older) =
    by (deletes_under p (Deletion at)) (count_by-cons (deletes_under p) (Deletion at) older) (count_by-cons is_addition (Deletion at) older) (both_counted p older)
  where
    by : (t : Bool) → count_by (deletes_under p) (Deletion at ∷ older) ≡ cond t 1 0 + count_by (deletes_under p) older
        → count_by is_addition (Deletion at ∷ older) ≡ 0 + count_by is_addition older
        → count_by is_addition older + count_by (deletes_under p) older ≤ length older
        → count_by is_addition (Deletion at ∷ older) + count_by (deletes_under p) (Deletion at ∷ older) ≤ length (Deletion at ∷ older)
    by true b a r = omega arith
    by false b a r = omega arith
both_counted p (Addition at content ∷ older) =
    let a = count_by-cons is_addition (Addition at content) older in
    let b = count_by-cons (deletes_under p) (Addition at content) older in
    let r = both_counted p older in
    omega arith
both_counted p (Modification at content ∷ older) =
    let a = count_by-cons is_addition (Modification at content) older in
    let b = count_by-cons (deletes_under p) (Modification at content) older in
    let r = both_counted p older in
    omega arith

count-after : (counted test : Change → Bool) (changes : List Change) → count_by counted (after test changes) ≤ count_by counted changes
count-after counted test [] = omega arith
count-after counted test (change ∷ older) = by (test change) (count-after counted test older)
  where
    by : (b : Bool) → count_by counted (after test older) ≤ count_by counted older
        → count_by counted (cond b [] (change ∷ after test older)) ≤ count_by counted (change ∷ older)
    by true r = omega arith
    by false r =
        let one = count_by-cons counted change older in
        let some = count_by-cons counted change (after test older) in
        omega arith

summed : (first a b c n : ℕ) → a + b ≤ n → c ≤ b → first + (a + c) ≤ first + n
summed first a b c n h k = omega arith

tracked_between : (first : ℕ) (changes : List Change) (library : FolderMap) (p : Place) (content : Content)
    → MatchOption (trackers_of first changes library p content) (Unit {0})
    (λ t. (first ≤ t.container_update) × (t.container_update ≤ first + length changes))
tracked_between first changes library p (Folder title) = (
  from_first first (max (length (up_to (adds p) changes)) (length (up_to (is_under p) changes))),
  both_up first (length (up_to (adds p) changes)) (length (up_to (is_under p) changes)) (length changes) (length-up_to (adds p) changes) (length-up_to (is_under p) changes),
)
tracked_between first changes library p (Track track) = tt

row_between : (first : ℕ) (changes : List Change) (library : FolderMap) (e : Entry) → LiesBetween first (first + length changes) (row_at first changes library e)
row_between first changes library e = record {
  above = from_first first (length (up_to (sets e.0) changes));
  below = up first (length (up_to (sets e.0) changes)) (length changes) (length-up_to (sets e.0) changes);
  tracked = tracked_between first changes library e.0 e.1;
}

counts_within : (first : ℕ) (changes : List Change) (library : FolderMap) (p : Place) (content : Content)
    → MatchOption (trackers_of first changes library p content) (Unit {0}) (λ t. first + (count_by is_addition changes + t.deleted) ≤ first + length changes)
counts_within first changes library p (Folder title) =
    summed first (count_by is_addition changes) (count_by (deletes_under p) changes) (count_by (deletes_under p) (after (adds p) changes)) (length changes)
    (both_counted p changes) (count-after (deletes_under p) (adds p) changes)
counts_within first changes library p (Track track) = tt

pub numbers_lie_between-proof : numbers_lie_between
numbers_lie_between-proof history all = (
  each-map (LiesBetween history.first (end_of history)) (λ (placed : PlacedRow). placed.1) (placed_rows history)
      (each-in_order (λ placed. LiesBetween history.first (end_of history) placed.1) (map counted (root_entry ∷ latest history.maps))
      (each-map (λ (placed : PlacedRow). LiesBetween history.first (end_of history) placed.1) counted (root_entry ∷ latest history.maps)
      (each-all (λ e. LiesBetween history.first (end_of history) (counted e).1) (row_between history.first changes (latest history.maps)) (root_entry ∷ latest history.maps)))),
  each-map (CountsWithin history) (λ (placed : PlacedRow). placed.1) (placed_rows history)
      (each-in_order (λ placed. CountsWithin history placed.1) (map counted (root_entry ∷ latest history.maps))
      (each-map (λ (placed : PlacedRow). CountsWithin history placed.1) counted (root_entry ∷ latest history.maps)
      (each-all (λ e. CountsWithin history (counted e).1) (λ e. counts_within history.first changes (latest history.maps) e.0 e.1) (root_entry ∷ latest history.maps)))),
  up history.first (count_by is_addition changes) (length changes) (count_by-le-length is_addition changes),
)
  where
    changes : List Change
    changes = changes_of history.maps

    counted : Entry → PlacedRow
    counted e = (e.0, row_at history.first (changes_of history.maps) (latest history.maps) e)
