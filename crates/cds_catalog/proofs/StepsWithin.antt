-- No number of a row is above the number that stands, and there is a row for the root and each place.
use Rattle.std.proofs.Common.{◌≡◌, ◌+◌, ◌≤◌, ℕ, suc, max, Bool, true, false, cond, map, List, [], ◌∷◌, length, MatchOption, refl, ◌∙◌, ap, arith}
use Rattle.std.specs.List.{count_by}
use Rattle.std.proofs.lemmas.List.Sums.{count_by-le-length}
use Rattle.cds_object.specs.declared.content.Content.{Content}
use Rattle.cds_object.specs.declared.content.Content.TheVariants.{Folder, Track}
use Rattle.cds_catalog.specs.Library.{FolderMap}
use Rattle.cds_catalog.specs.History.{History, latest, changes_of, is_addition, adds, sets, is_under, deletes_under, up_to, after}
use Rattle.cds_catalog.specs.Catalog.{PlacedRow, root_entry, row_at, trackers_of, placed_rows, catalog}
use Rattle.cds_catalog.specs.Steps.{standing_of}
use Rattle.cds_catalog.specs.Laws.{IsWithin, rows_are_within}
use Rattle.cds_catalog.specs.declared.change.Change.{Change}
use Rattle.cds_catalog.proofs.StepsPaths.{Place}
use Rattle.cds_catalog.proofs.StepsFind.{Entry, each-all, each-map}
use Rattle.cds_catalog.proofs.StepsOrder.{each-in_order, length-in_order}
use Rattle.cds_catalog.proofs.StepsIds.{length-up_to, id_drawn}

length-after : (test : Change → Bool) (changes : List Change) → length (after test changes) ≤ length changes
length-after test [] = omega arith
length-after test (change ∷ older) = by (test change) (length-after test older)
  where
    by : (b : Bool) → length (after test older) ≤ length older → length (cond b [] (change ∷ after test older)) ≤ length (change ∷ older)
    by true r = omega arith
    by false r = omega arith

pub length-map : {X Y : Type 0} (f : X → Y) (xs : List X) → length (map f xs) ≡ length xs
length-map f [] = refl
length-map f (x ∷ xs) = ap suc (length-map f xs)

above : (first a n : ℕ) → a ≤ n → first + a ≤ first + n
above first a n h = omega arith

both_above : (first a b n : ℕ) → a ≤ n → b ≤ n → first + max a b ≤ first + n
both_above first a b n h k = omega arith

far_above : (first a b n : ℕ) → a ≤ b → b ≤ n → a ≤ first + n
far_above first a b n h k = omega arith

trackers_within : (first : ℕ) (changes : List Change) (library : FolderMap) (p : Place) (content : Content)
    → MatchOption (trackers_of first changes library p content) (Unit {0})
    (λ t. (t.container_update ≤ first + length changes) × (t.deleted ≤ first + length changes))
trackers_within first changes library p (Folder title) = (
  both_above first (length (up_to (adds p) changes)) (length (up_to (is_under p) changes)) (length changes) (length-up_to (adds p) changes) (length-up_to (is_under p) changes),
  far_above first _ _ (length changes) (count_by-le-length (deletes_under p) (after (adds p) changes)) (length-after (adds p) changes),
)
trackers_within first changes library p (Track track) = tt

-- no number of a row that is counted over changes is above theirs
pub row_within : (rows : List PlacedRow) (first : ℕ) (changes : List Change) (library : FolderMap) (e : Entry)
    → IsWithin (record { number = first + length changes; drawn = count_by is_addition changes; rows = rows }) (row_at first changes library e)
row_within rows first changes library e = record {
  id = id_drawn changes e.0;
  object_update = above first (length (up_to (sets e.0) changes)) (length changes) (length-up_to (sets e.0) changes);
  trackers = trackers_within first changes library e.0 e.1;
}

-- there is a row for the root and for each place of the newest folder map
pub length-catalog : (history : History) → length (catalog history) ≡ length (latest history.maps) + 1
length-catalog history = length-map (λ (placed : PlacedRow). placed.1) (placed_rows history) ∙ length-in_order (map counted (root_entry ∷ latest history.maps)) ∙ plus_one _ _ (length-map counted (latest history.maps))
  where
    counted : Entry → PlacedRow
    counted e = (e.0, row_at history.first (changes_of history.maps) (latest history.maps) e)

    plus_one : (a b : ℕ) → a ≡ b → suc a ≡ b + 1
    plus_one a b p = omega arith

pub rows_are_within-proof : rows_are_within
rows_are_within-proof history all = (
  each-map (IsWithin (standing_of history)) (λ (placed : PlacedRow). placed.1) (placed_rows history)
      (each-in_order (λ placed. IsWithin (standing_of history) placed.1) (map counted (root_entry ∷ latest history.maps))
      (each-map (λ (placed : PlacedRow). IsWithin (standing_of history) placed.1) counted (root_entry ∷ latest history.maps)
      (each-all (λ e. IsWithin (standing_of history) (counted e).1) (row_within (placed_rows history) history.first (changes_of history.maps) (latest history.maps)) (root_entry ∷ latest history.maps)))),
  count_by-le-length is_addition (changes_of history.maps),
  length-catalog history,
)
  where
    counted : Entry → PlacedRow
    counted e = (e.0, row_at history.first (changes_of history.maps) (latest history.maps) e)
