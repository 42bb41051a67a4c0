-- In which order what befell a copy stands: a read stands above a change exactly if its reply came after the note of the change.
use Rattle.std.specs.Prelude.{◌≡◌, ℕ, List, [], ◌∷◌, ◌++◌, Option, Some, None}
use Rattle.cds_object.specs.Object.{ObjectRow}
use Rattle.cds_load.specs.declared.exchange.Shown.{Shown}
use Rattle.cds_load.specs.declared.exchange.Shown.TheVariants.{Text, Number, Page, Fault}
use Rattle.cds_follow.specs.Copy.{Happening, Reads, least_unread}
use Rattle.cds_follow.specs.Inbox.{ReplicaTurn, Begins, Shows, Requests, Accepts, Refuses, Delivers, taken_by}
use Rattle.cds_follow.specs.Follow.{position, new_changes, known_by}
use Rattle.cds_follow.specs.KnownLaws.{NoneRefused}
use Rattle.cds_follow.specs.Seen.{StandsThrough}
use Rattle.cds_follow.specs.ServerLaws.{befalling}

-- the read that rows are for an object which was asked for: one row, its own
abbrev pub read_of_rows : Option ℕ → List ObjectRow → List Happening
read_of_rows None rows = []
read_of_rows (Some id) [] = []
read_of_rows (Some id) (row ∷ []) = Reads id (record { content = row.content; object_update = row.object_update }) ∷ []
read_of_rows (Some id) (row ∷ next ∷ others) = []

-- the read that a reply is; a refusal is none
abbrev pub read_of_reply : Option ℕ → Shown → List Happening
read_of_reply asked (Text token) = []
read_of_reply asked (Number number) = []
read_of_reply asked (Page rows total update) = read_of_rows asked rows
read_of_reply asked (Fault code) = []

-- what one turn does to a copy that stands, after the older turns: the read of the least unread object; or the new changes of the
-- notes that it lets the replica take, the newest first
abbrev pub befell_by : ReplicaTurn → List ReplicaTurn → List Happening
befell_by Begins older = []
befell_by (Shows shown) older = read_of_reply (least_unread (known_by older).happenings) shown
befell_by Requests older = []
befell_by (Accepts name) older = befalling (new_changes (position (known_by older)) (taken_by (Accepts name) older))
befell_by Refuses older = []
befell_by (Delivers note) older = befalling (new_changes (position (known_by older)) (taken_by (Delivers note) older))

-- what several turns do to it, the newest first
abbrev pub befell_in : List ReplicaTurn → List ReplicaTurn → List Happening
befell_in [] older = []
befell_in (turn ∷ newer) older = befell_by turn (newer ++ older) ++ befell_in newer older

-- while a copy stands each turn puts what it does to the copy above all that befell it before
abbrev pub happenings_are_in_order : Type 0
happenings_are_in_order = (newer older : List ReplicaTurn) → NoneRefused (newer ++ older) → StandsThrough newer older →
    (known_by (newer ++ older)).happenings ≡ befell_in newer older ++ (known_by older).happenings
