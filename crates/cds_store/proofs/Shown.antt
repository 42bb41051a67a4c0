-- The rows of a catalog show its newest folder map.
use Rattle.std.proofs.Common.{◌≡◌, false, cond, List, [], ◌∷◌, map, refl, ◌∙◌, ap}
use Rattle.std.specs.List.{AllByRecursion}
use Rattle.std.specs.BTreeMap.{insert_entry}
use Rattle.cds_object.specs.Path.{path_cmp, same_path}
use Rattle.cds_catalog.specs.Library.{FolderMap}
use Rattle.cds_catalog.specs.History.{History, latest, changes_of}
use Rattle.cds_catalog.specs.Laws.{AreLibraries}
use Rattle.cds_catalog.specs.Catalog.{PlacedRow, placed_rows}
use Rattle.cds_catalog.specs.Replay.{IsLegal}
use Rattle.cds_catalog.proofs.Found.{history_is_legal}
use Rattle.cds_catalog.proofs.StepsPaths.{swapped}
use Rattle.cds_catalog.proofs.StepsFind.{Entry, away_from_none}
use Rattle.cds_catalog.proofs.StepsLive.{find_live, rootless}
use Rattle.cds_catalog.proofs.StepsScan.{with_entries, live_is_library, entry_of, entries_of_rows}
use Rattle.cds_store.specs.Rows.{put_place, put_places}
use Rattle.cds_catalog.proofs.Live.{live}

abbrev put_entry : FolderMap → Entry → FolderMap
put_entry library e = cond (same_path e.0 []) library (insert_entry path_cmp library e.0 e.1)

abbrev put_entries : FolderMap → List Entry → FolderMap
put_entries library [] = library
put_entries library (e ∷ es) = put_entries (put_entry library e) es

places_are_entries : (library : FolderMap) (rows : List PlacedRow) → put_places library rows ≡ put_entries library (map entry_of rows)
places_are_entries library [] = refl
places_are_entries library (placed ∷ others) = places_are_entries (put_place library placed) others

rootless_entries : (library : FolderMap) (es : List Entry) → AllByRecursion (λ e. same_path [] e.0 ≡ false) es → put_entries library es ≡ with_entries library es
rootless_entries library [] away = refl
rootless_entries library (e ∷ es) away =
    ap (λ b. put_entries (cond b library (insert_entry path_cmp library e.0 e.1)) es) (swapped [] e.0 false away.0)
    ∙ rootless_entries (insert_entry path_cmp library e.0 e.1) es away.1

pub rows_show_library : (history : History) → AreLibraries history.maps → put_places [] (placed_rows history) ≡ latest history.maps
rows_show_library history all =
    let changes = changes_of history.maps in
    let legal : IsLegal changes = (history_is_legal history.maps all).0 in
    places_are_entries [] (placed_rows history)
    ∙ ap (put_entries []) (entries_of_rows history all)
    ∙ rootless_entries [] (live changes) (away_from_none (live changes) [] (find_live changes legal [] ∙ rootless changes legal))
    ∙ live_is_library history.maps all
