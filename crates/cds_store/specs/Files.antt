-- The files of tracks, found by the ids of objects.
use Rattle.std.specs.Prelude.{ℕ, cond, nat_eq, List, [], ◌∷◌, Option, Some, None}
use Rattle.std.specs.Option.{option_map}
use Rattle.cds_object.specs.declared.content.Content.{Content}
use Rattle.cds_object.specs.declared.content.Content.TheVariants.{Folder, Track}
use Rattle.cds_catalog.specs.Catalog.{PlacedRow}

-- the path and the size of the file of what stands at a place; a folder has none
abbrev pub file_in : List (List ℕ) → Content → Option (List (List ℕ) × ℕ)
file_in path (Folder title) = None
file_in path (Track track) = Some (path, track.size)

-- the path and the size of the file of the track with an id, if there is one
abbrev pub file_under : ℕ → List PlacedRow → Option (List (List ℕ) × ℕ)
file_under id [] = None
file_under id (placed ∷ others) = cond (nat_eq placed.1.id id) (file_in placed.0 placed.1.content) (file_under id others)

abbrev pub path_under : ℕ → List PlacedRow → Option (List (List ℕ))
path_under id rows = option_map (λ file. file.0) (file_under id rows)
