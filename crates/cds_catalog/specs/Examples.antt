-- Catalogs of small libraries, evaluated from the definitions.
use Rattle.std.specs.Prelude.{◌≡◌, ℕ, List, [], ◌∷◌, map, Option, Some, None, codes}
use Rattle.cds_object.specs.Object.{ObjectRow}
use Rattle.cds_object.specs.declared.content.Content.{Content}
use Rattle.cds_object.specs.declared.content.Content.TheVariants.{Folder, Track}
use Rattle.cds_object.specs.declared.row.Trackers.{Trackers}
use Rattle.cds_catalog.specs.Library.{FolderMap}
use Rattle.cds_catalog.specs.History.{History, end_of}
use Rattle.cds_catalog.specs.Catalog.{catalog, catalog_at}

-- a folder's trackers as its containerUpdateID, its children and the deleted ones; a track has none
abbrev pub tracked : Option Trackers → List ℕ
tracked None = []
tracked (Some t) = t.container_update ∷ t.child_count ∷ t.deleted ∷ []

-- a row without what it says of itself
abbrev pub Outline : Type 0
Outline = ℕ × Option ℕ × ℕ × List ℕ

abbrev pub outline : ObjectRow → Outline
outline row = (row.id, row.parent, row.object_update, tracked row.trackers)

-- a small track of the size given
abbrev pub a_track : ℕ → Content
a_track size = Track (record {
  title = codes "t";
  artist = None;
  album = None;
  genre = None;
  number = None;
  size = size;
  duration = None;
  rate = 0;
  channels = 1;
  bits = 8;
})

abbrev pub a_folder : Content
a_folder = Folder (codes "f")

abbrev pub outlines : History → List Outline
outlines history = map outline (catalog history)

-- two scans of an empty library leave the root alone, and no number
abbrev pub two_empty_scans : Type 0
two_empty_scans = let h : History = record { first = 0; maps = [] ∷ [] ∷ [] } in
    (end_of h ≡ 0) × (outlines h ≡ (0, None, 0, 0 ∷ 0 ∷ 0 ∷ []) ∷ [])

-- a folder with one track
abbrev pub one_folder : FolderMap
one_folder = (codes "R" ∷ [], a_folder) ∷ (codes "R" ∷ codes "a" ∷ [], a_track 1) ∷ []

abbrev pub one_scan_of_a_folder : Type 0
one_scan_of_a_folder = let h : History = record { first = 0; maps = one_folder ∷ [] } in
    (end_of h ≡ 2) × (outlines h ≡ (0, None, 0, 1 ∷ 1 ∷ 0 ∷ []) ∷ (1, Some 0, 1, 2 ∷ 1 ∷ 0 ∷ []) ∷ (2, Some 1, 2, []) ∷ [])

-- a track becomes a folder: one deletion and one addition with a new id, and rows in ascending order of ids
abbrev pub two_tracks : FolderMap
two_tracks = (codes "x" ∷ [], a_track 1) ∷ (codes "y" ∷ [], a_track 1) ∷ []

abbrev pub folder_and_track : FolderMap
folder_and_track = (codes "x" ∷ [], a_folder) ∷ (codes "y" ∷ [], a_track 1) ∷ []

abbrev pub kind_change_draws_a_new_id : Type 0
kind_change_draws_a_new_id = let h : History = record { first = 0; maps = folder_and_track ∷ two_tracks ∷ [] } in
    (end_of h ≡ 4) × (outlines h ≡ (0, None, 0, 4 ∷ 2 ∷ 1 ∷ []) ∷ (2, Some 0, 2, []) ∷ (3, Some 0, 4, 4 ∷ 0 ∷ 0 ∷ []) ∷ [])

-- a folder goes with its track, deepest first, comes again and starts its trackers anew. A track that changes keeps its id. The
-- catalog of an earlier number stays what it was
abbrev pub changed_track : FolderMap
changed_track = (codes "R" ∷ [], a_folder) ∷ (codes "R" ∷ codes "a" ∷ [], a_track 2) ∷ []

abbrev pub folder_comes_again : Type 0
folder_comes_again = let h : History = record { first = 10; maps = changed_track ∷ one_folder ∷ [] ∷ one_folder ∷ [] } in
    (end_of h ≡ 17)
    × (outlines h ≡ (0, None, 10, 15 ∷ 1 ∷ 1 ∷ []) ∷ (3, Some 0, 15, 17 ∷ 1 ∷ 0 ∷ []) ∷ (4, Some 3, 17, []) ∷ [])
    × (map outline (catalog_at 10 h.maps 14) ≡ (0, None, 10, 14 ∷ 0 ∷ 1 ∷ []) ∷ [])
