-- The catalog counted afresh is the rows over all changes, and so the steps lead to it.
use Rattle.std.proofs.Common.{◌≡◌, ℕ, false, cond, List, [], ◌∷◌, Some, refl, sym, ◌∙◌, ap}
use Rattle.cds_object.specs.Path.{path_cmp, same_path, parent_of}
use Rattle.std.proofs.Common.{Less}
use Rattle.cds_catalog.specs.Library.{FolderMap, content_at, found}
use Rattle.cds_catalog.specs.Laws.{Ascends, IsLibrary, AreLibraries, steps_lead_to_the_catalog}
use Rattle.cds_catalog.specs.History.{History, latest, changes_of, with_scan}
use Rattle.cds_catalog.specs.Catalog.{PlacedRow, in_order, root_entry, row_at, id_of, child_count_of, placed_rows}
use Rattle.cds_catalog.specs.Replay.{IsLegal}
use Rattle.cds_catalog.specs.Steps.{standing_of, stepped}
use Rattle.cds_catalog.specs.declared.change.Change.{Change}
use Rattle.cds_catalog.proofs.Paths.{same_path_Less}
use Rattle.cds_catalog.proofs.Maps.{content_at_step, ascends_head, ascends_tail, latest_is_library}
use Rattle.cds_catalog.proofs.Found.{history_is_legal}
use Rattle.cds_catalog.proofs.StepsPaths.{Place, swapped}
use Rattle.cds_catalog.proofs.StepsFind.{Entry, find_in, Apart, each-all, each-weaker, map-agree, Apart_from_Rising, count_same}
use Rattle.cds_catalog.proofs.StepsOrder.{order_same}
use Rattle.cds_catalog.proofs.StepsLive.{shown, find_live}
use Rattle.cds_catalog.proofs.StepsIds.{ids_rise}
use Rattle.cds_catalog.proofs.StepsRow.{same_row, same_trackers, trackers_left}
use Rattle.cds_catalog.proofs.StepsRows.{row_over, rows_over, standing_over, stepped_over}
use Rattle.cds_catalog.proofs.Live.{live}

find_content : (library : FolderMap) (p : Place) → find_in library p ≡ content_at library p
find_content [] p = refl
find_content (e ∷ es) p = ap (cond (same_path p e.0) (Some e.1)) (find_content es p) ∙ sym (content_at_step e es p)

Apart_from_Ascends : (library : FolderMap) → Ascends library → Apart library
Apart_from_Ascends [] a = tt
Apart_from_Ascends (e ∷ es) a = (
  each-weaker (λ o. path_cmp e.0 o.0 ≡ Less) (λ o. same_path e.0 o.0 ≡ false) (λ o. same_path_Less e.0 o.0) es (ascends_head e es a),
  Apart_from_Ascends es (ascends_tail e es a),
)

-- the root and the places of a folder map are apart
rooted_apart : (library : FolderMap) → IsLibrary library → Apart (root_entry ∷ library)
rooted_apart library is = (
  each-weaker (λ e. same_path e.0 [] ≡ false) (λ e. same_path [] e.0 ≡ false) (λ e. swapped e.0 [] false) library is.rootless,
  Apart_from_Ascends library is.ascending,
)

-- a row knows its folder map by the children alone
row_in : (first : ℕ) (changes : List Change) (library other : FolderMap) → ((p : Place) → child_count_of library p ≡ child_count_of other p) → (e : Entry)
    → row_at first changes library e ≡ row_at first changes other e
row_in first changes library other h e =
    same_row _ _ refl refl refl refl (trackers_left first changes changes library other e.0 e.1 (same_trackers _ _ refl (h e.0) refl))

module _ (first : ℕ) (maps : List FolderMap) (all : AreLibraries maps) where
  legal : IsLegal (changes_of maps)
  legal = (history_is_legal maps all).0

  -- what is live is what the newest folder map has
  answers : (p : Place) → find_in (latest maps) p ≡ find_in (live (changes_of maps)) p
  answers p = find_content (latest maps) p ∙ sym ((history_is_legal maps all).1 p) ∙ sym (find_live (changes_of maps) legal p)

  children : (p : Place) → child_count_of (latest maps) p ≡ child_count_of (live (changes_of maps)) p
  children p =
      count_same (λ q. same_path p (parent_of q)) (latest maps) (live (changes_of maps)) (Apart_from_Ascends (latest maps) (latest_is_library maps all).ascending)
      (Apart_from_Rising (id_of (changes_of maps)) (live (changes_of maps)) (ids_rise (changes_of maps) legal).1) answers

  pub placed_rows_over : placed_rows (record { first = first; maps = maps }) ≡ rows_over first (changes_of maps)
  placed_rows_over =
      ap in_order (map-agree counted (row_over first (changes_of maps)) (root_entry ∷ latest maps)
      (each-all (λ e. counted e ≡ row_over first (changes_of maps) e) (λ e i. (e.0, row_in first (changes_of maps) (latest maps) (live (changes_of maps)) children e i)) (root_entry ∷ latest maps)))
      ∙ order_same (id_of (changes_of maps)) (row_over first (changes_of maps)) (λ e. refl) (root_entry ∷ latest maps) (shown (changes_of maps))
      (rooted_apart (latest maps) (latest_is_library maps all)) (ids_rise (changes_of maps) legal)
      (λ p. ap (cond (same_path p []) (Some root_entry.1)) (answers p))
    where
      counted : Entry → PlacedRow
      counted e = (e.0, row_at first (changes_of maps) (latest maps) e)

pub standing_is_over : (history : History) → AreLibraries history.maps → standing_of history ≡ standing_over history.first (changes_of history.maps)
standing_is_over history all =
    λ i. record {
      number = (standing_of history).number;
      drawn = (standing_of history).drawn;
      rows = placed_rows_over history.first history.maps all i;
    }

pub steps_lead_to_the_catalog-proof : steps_lead_to_the_catalog
steps_lead_to_the_catalog-proof history library all is =
    standing_is_over (with_scan history library) (is, all)
    ∙ stepped_over history.first (found (latest history.maps) library) (changes_of history.maps) (history_is_legal (library ∷ history.maps) (is, all)).0
    ∙ ap (λ s. stepped s (found (latest history.maps) library)) (sym (standing_is_over history all))
