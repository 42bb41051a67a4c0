-- What a server accepted, in order, and the history of its scans (UPnP ContentDirectory:4 on update identifiers, UPnP Device
-- Architecture 2.0 on eventing).
use Rattle.std.specs.Prelude.{◌-◌, ◌≤◌, ℕ, Bool, true, false, List, [], ◌∷◌, length, drop}
use Rattle.std.specs.List.{AllByRecursion}
use Rattle.cds_catalog.specs.Library.{FolderMap}
use Rattle.cds_catalog.specs.History.{History, end_of, with_scan}
use Rattle.cds_catalog.specs.Laws.{AreLibraries}

-- what a server begins with, which no command changes: the two boot words, of which its names are made, its first number, and
-- the SEQ after which comes SEQ 1. This wrap is 4,294,967,295 except in tests, and at least 256
pub record Start : Type 0 where
  pub high : ℕ
  pub low : ℕ
  pub first : ℕ
  pub wrap : ℕ

-- what a server accepted: a scan with its folder map; a subscription at a moment, with its callback and the seconds that are
-- granted; its renewal, its end; a tick at a moment; and that the server stops. A subscription is named by its number among the
-- grants, counted from 1. Moments are in milliseconds. They are any numbers, and may fall from command to command
pub data Command : Type 0 where
  Scans : FolderMap → Command
  Grants : ℕ → List ℕ → ℕ → Command
  Renews : ℕ → ℕ → ℕ → Command
  Ends : ℕ → ℕ → Command
  Ticks : ℕ → Command
  Stops : Command

-- the history of the scans, from a first number; of commands the newest is the first
abbrev pub scans_of : ℕ → List Command → History
scans_of first [] = record { first = first; maps = [] }
scans_of first (Scans library ∷ older) = with_scan (scans_of first older) library
scans_of first (command ∷ older) = scans_of first older

-- whether the server stopped
abbrev pub is_stopped : List Command → Bool
is_stopped [] = false
is_stopped (Stops ∷ older) = true
is_stopped (command ∷ older) = is_stopped older

-- this many of the oldest commands; all if there are no more
abbrev pub oldest : ℕ → List Command → List Command
oldest k commands = drop (length commands - k) commands

-- what holds of the scans among commands that a server accepted: each folder map is one, with at most 65,535 places, and no
-- number passes 4,294,967,295
pub record AreAccepted (first : ℕ) (commands : List Command) : Type 0 where
  pub libraries : AreLibraries (scans_of first commands).maps
  pub few : AllByRecursion (λ library. length library ≤ 65535) (scans_of first commands).maps
  pub numbers : end_of (scans_of first commands) ≤ 4294967295
