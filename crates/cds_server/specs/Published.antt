-- What a server publishes, by the commands that it accepted: all that a control request can ask for.
use Rattle.std.specs.Prelude.{ℕ, List}
use Rattle.std.specs.Int.{w128, to_be_bytes}
use Rattle.uuid.specs.Text.{hyphenated_text, lower}
use Rattle.cds_catalog.specs.History.{History, end_of}
use Rattle.cds_catalog.specs.Catalog.{catalog}
use Rattle.cds_commands.specs.Commands.{Command, Start, scans_of}
use Rattle.cds_commands.specs.Names.{names_of}
use Rattle.cds_control.specs.Published.{Published}

-- the reset token (UPnP ContentDirectory:4 on ServiceResetToken): name number 0 of the server, in the text of a UUID in lower
-- case
abbrev pub token_of : ℕ → List ℕ
token_of names = hyphenated_text lower (to_be_bytes w128 names)

-- the UUID of the device that a server is (UPnP Device Architecture 2.0 on UDN): name number 0 of the server
abbrev pub device_name : ℕ → List ℕ
device_name names = to_be_bytes w128 names

-- The catalog is counted afresh over the scans.
abbrev pub published_after : Start → History → Published
published_after start history = record { token = token_of (names_of start); number = end_of history; rows = catalog history }

abbrev pub published_by : Start → List Command → Published
published_by start commands = published_after start (scans_of start.first commands)
