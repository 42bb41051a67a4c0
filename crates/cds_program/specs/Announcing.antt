-- What `announce` answers by its words (this project's profile).
use Rattle.std.specs.Prelude.{◌≡◌, ◌⊎◌, ℕ, Option, Some, None}
use Rattle.cds_outside.specs.Outside.{SinkTold, Told}
use Rattle.cds_outside.specs.Told.{OutsideTold}
use Rattle.cds_announce.specs.Ended.{AsksForDatagrams, EndsAnnouncement}
use Rattle.cds_ssdp.specs.declared.device.Device.{Device}
use Rattle.cds_subcommands.specs.Run.{WritesText}
use Rattle.cds_program.specs.Command.{usage_text}

-- How `announce` ends. If the location is one, the device is announced: with the status 0, each datagram was answered. The outside
-- is asked for the datagrams of the port alone, or for nothing if memory ran out before. If the location is none, the usage is
-- written.
abbrev pub EndsAnnounce : Option Device → ℕ → ℕ → ℕ → OutsideTold → OutsideTold → Type 0
EndsAnnounce (Some device) port count status old new =
    EndsAnnouncement device count status old new
    × (AsksForDatagrams port old.asked new.asked ⊎ ((status ≡ 4) × (new.asked ≡ old.asked)))
EndsAnnounce None port count status old new = ((status ≡ 5) ⊎ ((status ≡ 3) ⊎ (status ≡ 4))) × (new ≡ old)

-- What `announce` writes: nothing, or the usage if the location is none.
abbrev pub WritesAnnounce : Option Device → ℕ → SinkTold → SinkTold → Type 0
WritesAnnounce (Some device) status old new = new ≡ old
WritesAnnounce None status old new = (status ≡ 4) ⊎ Told old.holds (λ before. WritesText status usage_text before new.holds)

-- No folder and no link came back to the outside.
abbrev pub KeepsOthers : OutsideTold → OutsideTold → Type 0
KeepsOthers old new = (new.ended ≡ old.ended) × (new.ended_links ≡ old.ended_links)
