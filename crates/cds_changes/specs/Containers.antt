-- Which containers changed in a span, as ContainerUpdateIDs tells (UPnP ContentDirectory:4).
use Rattle.std.specs.Prelude.{◌+◌, ◌&&◌, ℕ, Bool, true, false, cond, nat_eq, nat_le, List, [], ◌∷◌, length, Option, Some, None}
use Rattle.std.specs.List.{count_by, filter_map, range_with_len}
use Rattle.std.specs.Option.{option_map}
use Rattle.cds_object.specs.Path.{parent_of}
use Rattle.cds_object.specs.Object.{is_folder}
use Rattle.cds_catalog.specs.History.{History, changes_of, place_of, is_addition}
use Rattle.cds_catalog.specs.Catalog.{id_of}
use Rattle.cds_catalog.specs.declared.change.Change.{Change}
use Rattle.cds_catalog.specs.declared.change.Change.TheVariants.{Deletion, Addition}

-- whether a change, after the older ones, adds the container of an id
abbrev pub adds_container : ℕ → List Change → Change → Bool
adds_container id older (Addition path content) = is_folder content && nat_eq (id_of (Addition path content ∷ older) path) id
adds_container id older other = false

-- whether it names the container as the parent of its object
abbrev pub is_in_container : ℕ → List Change → Change → Bool
is_in_container id older change = nat_eq (id_of older (parent_of (place_of change))) id

-- whether it deletes the object of an id
abbrev pub deletes_id : ℕ → List Change → Change → Bool
deletes_id id older (Deletion path) = nat_eq (id_of older path) id
deletes_id id older other = false

-- the number of the last change above a number that adds a container or names it as parent, after a first number
abbrev pub last_touch : ℕ → ℕ → ℕ → List Change → Option ℕ
last_touch first from id [] = None
last_touch first from id (change ∷ older) =
    cond (nat_le (first + length (change ∷ older)) from) None
    (cond (adds_container id older change) (Some (first + length (change ∷ older)))
    (cond (is_in_container id older change) (Some (first + length (change ∷ older))) (last_touch first from id older)))

-- whether a change above a number deletes the object of an id
abbrev pub was_deleted : ℕ → ℕ → ℕ → List Change → Bool
was_deleted first from id [] = false
was_deleted first from id (change ∷ older) =
    cond (nat_le (first + length (change ∷ older)) from) false
    (cond (deletes_id id older change) true (was_deleted first from id older))

-- the changes up to a number
abbrev pub changes_to : ℕ → ℕ → List Change → List Change
changes_to first to [] = []
changes_to first to (change ∷ older) =
    cond (nat_le (first + length (change ∷ older)) to) (change ∷ older) (changes_to first to older)

-- the containers that a change of the span above one scan end up to another adds or names as parent, except those that one of
-- these changes deletes. Each comes with the last such number, in ascending order of ids
abbrev pub touched_containers : ℕ → ℕ → List Change → List (ℕ × ℕ)
touched_containers first from changes =
    filter_map (λ id. cond (was_deleted first from id changes) None (option_map (λ number. (id, number)) (last_touch first from id changes)))
    (range_with_len 0 (count_by is_addition changes + 1))

abbrev pub containers_between : History → ℕ → ℕ → List (ℕ × ℕ)
containers_between history from to = touched_containers history.first from (changes_to history.first to (changes_of history.maps))
