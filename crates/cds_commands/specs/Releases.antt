-- When a server tells of its changes: its releases (the moderation of 200 milliseconds is UPnP ContentDirectory:4's, its rule
-- in full this project's profile).
use Rattle.std.specs.Prelude.{◌+◌, ◌&&◌, ℕ, Bool, true, cond, nat_lt, nat_le, List, [], ◌∷◌, Option, Some, None}
use Rattle.cds_catalog.specs.Library.{FolderMap}
use Rattle.cds_catalog.specs.History.{History, end_of}
use Rattle.cds_changes.specs.Containers.{containers_between}
use Rattle.cds_commands.specs.Commands.{Command, Ticks, scans_of}

-- how many changes one release has at most, and how many milliseconds lie between two
abbrev pub release_size : ℕ
release_size = 262144

abbrev pub release_pause : ℕ
release_pause = 200

-- a release: its moment, and the span of its changes, above one scan end up to another
pub record Release : Type 0 where
  pub moment : ℕ
  pub from : ℕ
  pub to : ℕ

-- the end of the last release, or the first number before any
abbrev pub released_to : ℕ → List Release → ℕ
released_to first [] = first
released_to first (release ∷ older) = release.to

-- whether a release may come at a moment: there was none yet, or the last one is long enough past
abbrev pub may_release : ℕ → List Release → Bool
may_release now [] = true
may_release now (release ∷ older) = nat_le (release.moment + release_pause) now

-- the greatest scan end that is not above a number, or the first number
abbrev pub scan_end_within : ℕ → ℕ → List FolderMap → ℕ
scan_end_within first most [] = first
scan_end_within first most (library ∷ older) =
    cond (nat_le (end_of (record { first = first; maps = library ∷ older })) most)
    (end_of (record { first = first; maps = library ∷ older })) (scan_end_within first most older)

-- the release of a tick, if there is one: some change is not released yet, and the pause is over. It goes from the end of the
-- last one to the greatest scan end that its size allows
abbrev pub release_at : ℕ → History → List Release → Option Release
release_at now history releases =
    cond (nat_lt (released_to history.first releases) (end_of history) && may_release now releases)
    (Some (record {
      moment = now;
      from = released_to history.first releases;
      to = scan_end_within history.first (released_to history.first releases + release_size) history.maps;
    }))
    None

-- a release put before the others, if there is one
abbrev pub and_release : Option Release → List Release → List Release
and_release None releases = releases
and_release (Some release) releases = release ∷ releases

-- all releases, the newest first
abbrev pub releases_of : ℕ → List Command → List Release
releases_of first [] = []
releases_of first (Ticks moment ∷ older) = and_release (release_at moment (scans_of first older) (releases_of first older)) (releases_of first older)
releases_of first (command ∷ older) = releases_of first older

-- the containers that ContainerUpdateIDs of a release tells, each with its number
abbrev pub released_containers : History → Release → List (ℕ × ℕ)
released_containers history release = containers_between history release.from release.to
