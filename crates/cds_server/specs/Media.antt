-- The files of tracks, by the ids of their objects and by the commands that a server accepted.
use Rattle.std.specs.Prelude.{◌≡◌, ℕ, List, [], ◌∷◌, Option, Ok}
use Rattle.std.specs.List.{join_with_byte}
use Rattle.std.specs.Option.{option_map}
use Rattle.cds_object.specs.Path.{path_read}
use Rattle.cds_catalog.specs.Catalog.{PlacedRow, placed_rows}
use Rattle.cds_commands.specs.Commands.{Command, Start, scans_of}
use Rattle.cds_store.specs.Files.{file_under}
use Rattle.cds_server.specs.declared.media.Media.{Media}

-- the file of the track with an id, if there is one
abbrev pub media_in : List PlacedRow → ℕ → Option Media
media_in rows id = option_map (λ file. record { path = file.0; size = file.1 }) (file_under id rows)

-- The catalog is counted afresh over the scans.
abbrev pub media_by : Start → List Command → ℕ → Option Media
media_by start commands id = media_in (placed_rows (scans_of start.first commands)) id

-- the text of a path: its names with a `/` between each two
abbrev pub path_text : List (List ℕ) → List ℕ
path_text path = join_with_byte 47 path

-- what stands after a name: nothing, or a `/` and further names
abbrev pub after_name : List (List ℕ) → List ℕ
after_name [] = []
after_name (next ∷ names) = 47 ∷ path_text (next ∷ names)

-- A path that was read from a text has this text.
abbrev pub PathsKeepTheirText : Type 0
PathsKeepTheirText = (text : List ℕ) (path : List (List ℕ)) → path_read text ≡ Ok path → path_text path ≡ text
