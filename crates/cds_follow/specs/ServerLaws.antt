-- Laws of what a server has as its commands go on, and of what it tells between: over the commands alone.
use Rattle.std.specs.Prelude.{◌≡◌, ◌<◌, ◌≤◌, ℕ, true, false, nat_eq, List, map, reverse, Some}
use Rattle.std.specs.List.{AllByRecursion, list_any, filter_map}
use Rattle.cds_object.specs.Object.{ObjectRow, is_folder}
use Rattle.cds_object.specs.Tree.{row_of}
use Rattle.cds_object.specs.declared.event.Event.{Event}
use Rattle.cds_catalog.specs.Laws.{AreLibraries}
use Rattle.cds_load.specs.Server.{Moment}
use Rattle.cds_load.specs.Loads.{IsServer}
use Rattle.cds_commands.specs.Commands.{Command, scans_of, oldest}
use Rattle.cds_follow.specs.Copy.{Happening, Changes, deletes, marks, since_deletion}
use Rattle.cds_follow.specs.Given.{moment_after}
use Rattle.cds_commands.specs.Notes.{told_between}

-- what a server has after this many of its commands, the oldest ones
abbrev pub served : List ℕ → ℕ → List Command → ℕ → Moment
served token first commands k = moment_after token first (oldest k commands)

-- commands whose scans have folder maps make an honest server: its rows are trees, its numbers never fall, and equal numbers have
-- equal rows
abbrev pub commands_are_servers : Type 0
commands_are_servers = (token : List ℕ) (first : ℕ) (commands : List Command) → AreLibraries (scans_of first commands).maps → IsServer (served token first commands)

-- an id and an objectUpdateID determine what the object says, and an id alone its parent and whether it holds others
abbrev pub versions_have_one_content : Type 0
versions_have_one_content = (token : List ℕ) (first : ℕ) (commands : List Command) (j k id : ℕ) (row other : ObjectRow) → AreLibraries (scans_of first commands).maps →
    row_of id (served token first commands j).rows ≡ Some row → row_of id (served token first commands k).rows ≡ Some other →
    (row.parent ≡ other.parent) × (is_folder row.content ≡ is_folder other.content)
    × (row.object_update ≡ other.object_update → row.content ≡ other.content)

-- an objectUpdateID that is not above an earlier number is that of the object's row then, which said the same
abbrev pub versions_are_settled : Type 0
versions_are_settled = (token : List ℕ) (first : ℕ) (commands : List Command) (j k id : ℕ) (row : ObjectRow) → AreLibraries (scans_of first commands).maps → j ≤ k →
    row_of id (served token first commands k).rows ≡ Some row → row.object_update ≤ (served token first commands j).number →
    (before : ObjectRow) × (row_of id (served token first commands j).rows ≡ Some before) × (before.content ≡ row.content)
    × (before.object_update ≡ row.object_update)

-- changes as they befall a copy: the newest is the first
abbrev pub befalling : List Event → List Happening
befalling events = reverse (map Changes events)

-- the changes since an earlier number tell of what stands now. If its objectUpdateID is not above that number, nothing deleted
-- it. Otherwise it was added or modified at its objectUpdateID, and not deleted since
abbrev pub versions_are_told : Type 0
versions_are_told = (token : List ℕ) (first : ℕ) (commands : List Command) (j k id : ℕ) (row : ObjectRow) → AreLibraries (scans_of first commands).maps → j ≤ k →
    row_of id (served token first commands k).rows ≡ Some row →
    (row.object_update ≤ (served token first commands j).number →
    AllByRecursion (λ happening. deletes id happening ≡ false)
    (befalling (told_between first commands (served token first commands j).number (served token first commands k).number)))
    × ((served token first commands j).number < row.object_update →
    list_any (nat_eq row.object_update) (filter_map (marks id) (since_deletion id
    (befalling (told_between first commands (served token first commands j).number (served token first commands k).number)))) ≡ true)
