-- How many reads a load takes, and what a replica knows whose replies are those of an honest server: definitions and laws.
use Rattle.std.specs.Prelude.{◌≡◌, ◌+◌, ◌*◌, ◌/◌, ◌<◌, ◌≤◌, ℕ, zero, suc, max, List, [], ◌∷◌, Option, Some, None, IsSome}
use Rattle.std.specs.List.{sum_by}
use Rattle.cds_object.specs.Object.{ObjectRow}
use Rattle.cds_object.specs.Tree.{IsTree}
use Rattle.cds_object.specs.declared.row.Trackers.{Trackers}
use Rattle.cds_load.specs.declared.exchange.Ask.{Ask as Asked}
use Rattle.cds_load.specs.Server.{Moment, reply_to}
use Rattle.cds_load.specs.Outcome.{after_outcome}
use Rattle.cds_load.specs.Stages.{Held, Loads, Begun, HasCopy, taken, next_ask, BehindLoad, says}

-- how many pages the listing of an object takes: at least one for a container, none for a track
abbrev pub pages_for : Option Trackers → ℕ
pages_for None = 0
pages_for (Some t) = max 1 ((t.child_count + 255) / 256)

-- how many reads a load of rows takes: four before any page, and two for each page
abbrev pub load_reads : List ObjectRow → ℕ
load_reads rows = 4 + 2 * sum_by (λ (row : ObjectRow). pages_for row.trackers) rows

-- what is held after one read, and after some, all answered by a server as it stands at a moment
abbrev pub held_with : Moment → Held → Option Asked → Held
held_with moment held None = held
held_with moment held (Some ask) = after_outcome held (taken held (reply_to moment ask))

abbrev pub read_once : Moment → Held → Held
read_once moment held = held_with moment held (next_ask held)

abbrev pub reads : ℕ → Moment → Held → Held
reads zero moment held = held
reads (suc n) moment held = read_once moment (reads n moment held)

-- a load from a server whose number stays ends after exactly the reads that it takes, with the server's rows
abbrev pub loads_end : Type 0
loads_end = (moment : Moment) → IsTree moment.rows →
    (reads (load_reads moment.rows) moment (Loads Begun) ≡ HasCopy moment.number moment.rows)
    × ((n : ℕ) → n < load_reads moment.rows → IsSome (next_ask (reads n moment (Loads Begun))) × (says (reads n moment (Loads Begun)) ≡ BehindLoad))

-- an honest server: its rows are a tree at each length of the list of its commands, its numbers never fall, and equal numbers
-- have equal rows
pub record IsServer (server : ℕ → Moment) : Type 0 where
  pub trees : (k : ℕ) → IsTree (server k).rows
  pub rising : (j k : ℕ) → j ≤ k → (server j).number ≤ (server k).number
  pub same : (j k : ℕ) → (server j).number ≡ (server k).number → (server j).rows ≡ (server k).rows
