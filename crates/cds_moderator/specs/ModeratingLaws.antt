-- What other commands do to what a moderator keeps, and when releases come, over the commands alone.
use Rattle.std.specs.Prelude.{◌≡◌, ℕ, List, ◌∷◌}
use Rattle.cds_catalog.specs.Library.{FolderMap}
use Rattle.cds_catalog.specs.History.{end_of}
use Rattle.cds_commands.specs.Commands.{Command, Scans, Grants, Renews, Ends, Stops, scans_of}
use Rattle.cds_moderator.specs.Moderating.{moderated_by}

-- a scan without a change leaves all as it was; so does each command other than a scan or a tick
abbrev pub other_commands_change_nothing : Type 0
other_commands_change_nothing = (first : ℕ) (older : List Command) →
    ((library : FolderMap) → end_of (scans_of first (Scans library ∷ older)) ≡ end_of (scans_of first older)
    → moderated_by first (Scans library ∷ older) ≡ moderated_by first older)
    × ((moment : ℕ) (callback : List ℕ) (seconds : ℕ) → moderated_by first (Grants moment callback seconds ∷ older) ≡ moderated_by first older)
    × ((moment name seconds : ℕ) → moderated_by first (Renews moment name seconds ∷ older) ≡ moderated_by first older)
    × ((moment name : ℕ) → moderated_by first (Ends moment name ∷ older) ≡ moderated_by first older)
    × (moderated_by first (Stops ∷ older) ≡ moderated_by first older)
