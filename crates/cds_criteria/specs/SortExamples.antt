-- Texts with the sort keys that they are, and texts with the places at which they are refused, evaluated from the definitions.
use Rattle.std.specs.Prelude.{◌≡◌, [], ◌∷◌, codes, Ok, Err, true, false}
use Rattle.cds_criteria.specs.Sorting.{Title, Artist, Album, Genre, TrackNumber, ObjectUpdate, key, keys_read}

abbrev pub KeysAreRead : Type 0
KeysAreRead =
    (keys_read ([]) ≡ Ok ([]))
    × (keys_read (codes "+dc:title") ≡ Ok (key false Title ∷ []))
    × (keys_read (codes "-dc:title") ≡ Ok (key true Title ∷ []))
    × (keys_read (codes "+upnp:artist,-upnp:album") ≡ Ok (key false Artist ∷ key true Album ∷ []))
    × (keys_read (codes "+upnp:originalTrackNumber,+upnp:objectUpdateID,-upnp:genre") ≡ Ok (key false TrackNumber ∷ key false ObjectUpdate ∷ key true Genre ∷ []))
    × (keys_read (codes "+dc:title,-dc:title") ≡ Ok (key false Title ∷ key true Title ∷ []))

abbrev pub SortFaultsHavePlaces : Type 0
SortFaultsHavePlaces =
    (keys_read (codes "dc:title") ≡ Err 0)
    × (keys_read (codes "+dc:title,") ≡ Err 10)
    × (keys_read (codes ",+dc:title") ≡ Err 0)
    × (keys_read (codes "+dc:title,,+dc:title") ≡ Err 10)
    × (keys_read (codes "+dc:title, -dc:title") ≡ Err 10)
    × (keys_read (codes " +dc:title") ≡ Err 0)
    × (keys_read (codes "+dc:title ") ≡ Err 0)
    × (keys_read (codes "+DC:title") ≡ Err 0)
    × (keys_read (codes "+res@size") ≡ Err 0)
    × (keys_read (codes "+dc:title,-upnp:class") ≡ Err 10)
    × (keys_read (codes "+") ≡ Err 0)
    × (keys_read (codes "+dc:title;+upnp:album") ≡ Err 0)
    × (keys_read (codes ",") ≡ Err 0)
    × (keys_read (codes " ") ≡ Err 0)
    × (keys_read (codes "+upnp:artist,upnp:album") ≡ Err 13)
