-- A law of the numbers of a server as its commands go on.
use Rattle.std.specs.Prelude.{◌≡◌, ℕ, List}
use Rattle.cds_catalog.specs.History.{changes_of, end_of}
use Rattle.cds_commands.specs.Commands.{Command, scans_of, oldest}

-- between two equal numbers no change lies, whatever the scans were
abbrev pub equal_numbers_have_no_change_between : Type 0
equal_numbers_have_no_change_between = (first : ℕ) (commands : List Command) (j k : ℕ) →
    end_of (scans_of first (oldest j commands)) ≡ end_of (scans_of first (oldest k commands)) →
    changes_of (scans_of first (oldest j commands)).maps ≡ changes_of (scans_of first (oldest k commands)).maps
