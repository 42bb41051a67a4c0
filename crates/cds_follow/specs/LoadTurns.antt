-- The load among the turns of a replica that takes notes: what its load holds is what the turns of this load hold.
use Rattle.std.specs.Prelude.{◌≡◌, ◌||◌, cond, List, [], ◌∷◌}
use Rattle.std.specs.List.{AllByRecursion}
use Rattle.cds_object.specs.Object.{IsRow}
use Rattle.cds_load.specs.Seen.{rows_shown}
use Rattle.cds_load.specs.Attempts.{ShowsRows as LoadShowsRows}
use Rattle.cds_load.specs.Stages.{ReplicaTurn as LoadTurn, Begins as LoadBegins, Shows as LoadShows, held_by}
use Rattle.cds_follow.specs.Inbox.{ReplicaTurn, Begins, Shows, Requests, Accepts, Refuses, Delivers, taken_by}
use Rattle.cds_follow.specs.Follow.{position, is_drop, known_by, is_refused}
use Rattle.cds_follow.specs.KnownLaws.{has_copy}

-- the turns of loads among those of a replica: a load is begun, also by a first note that drops the copy; and a reply shows
-- something while no copy stands, and is not refused
abbrev pub load_turns : List ReplicaTurn → List LoadTurn
load_turns [] = []
load_turns (Begins ∷ older) = LoadBegins ∷ load_turns older
load_turns (Shows shown ∷ older) =
    cond (has_copy (known_by older).held || is_refused (Shows shown) older) (load_turns older) (LoadShows shown ∷ load_turns older)
load_turns (Requests ∷ older) = load_turns older
load_turns (Accepts name ∷ older) =
    cond (is_drop (position (known_by older)) (taken_by (Accepts name) older)) (LoadBegins ∷ load_turns older) (load_turns older)
load_turns (Refuses ∷ older) = load_turns older
load_turns (Delivers note ∷ older) =
    cond (is_drop (position (known_by older)) (taken_by (Delivers note) older)) (LoadBegins ∷ load_turns older) (load_turns older)

-- what a replica holds of its load is what the turns of its loads hold, with notes between them or not. So what holds of every
-- list of such turns holds of its load
abbrev pub loads_are_of_turns : Type 0
loads_are_of_turns = (turns : List ReplicaTurn) → (known_by turns).held ≡ held_by (load_turns turns)

-- the rows that were shown are rows: only the root has no parent, and exactly the folders track their children
abbrev pub ShowsRows : List ReplicaTurn → Type 0
ShowsRows [] = Unit {0}
ShowsRows (Begins ∷ older) = ShowsRows older
ShowsRows (Shows shown ∷ older) = AllByRecursion IsRow (rows_shown shown) × ShowsRows older
ShowsRows (Requests ∷ older) = ShowsRows older
ShowsRows (Accepts name ∷ older) = ShowsRows older
ShowsRows (Refuses ∷ older) = ShowsRows older
ShowsRows (Delivers note ∷ older) = ShowsRows older

-- the turns of loads show rows if all turns do: so the laws of attempts hold of them
abbrev pub loads_show_rows : Type 0
loads_show_rows = (turns : List ReplicaTurn) → ShowsRows turns → LoadShowsRows (load_turns turns)
