-- Laws of what a device answers.
use Rattle.std.specs.Prelude.{◌≡◌, ℕ, List}
use Rattle.cds_outside.specs.declared.datagrams.DatagramReply.{DatagramReply}
use Rattle.cds_ssdp.specs.declared.device.Device.{Device}
use Rattle.cds_announce.specs.Announcing.{AnswersAll}

-- Datagrams have one list of replies.
abbrev pub OneAnnouncement : Type 0
OneAnnouncement =
    (device : Device) (given : ℕ) (datagrams : List (List ℕ)) (one other : List DatagramReply) → AnswersAll device given datagrams one
    → AnswersAll device given datagrams other → one ≡ other
