-- What a subscription is: when it lives, said of the commands since its grant, and which notes it gets. Another law says when a
-- tick releases. All is said of the commands alone.
use Rattle.std.specs.Prelude.{◌≡◌, ◌↔◌, ◌⊎◌, ◌<◌, ◌≤◌, ◌+◌, ℕ, Bool, true, cond, nat_eq, List, [], ◌∷◌, ◌++◌, Option, Some, IsSome, Contains}
use Rattle.cds_catalog.specs.History.{History, end_of}
use Rattle.cds_changes.specs.Events.{events_between}
use Rattle.cds_commands.specs.Commands.{Command, Grants, Renews, Ends, Ticks, scans_of}
use Rattle.cds_commands.specs.Releases.{Release, release_pause, released_to, release_at, releases_of}
use Rattle.cds_commands.specs.Subscriptions.{granted, end_after, is_alive}
use Rattle.cds_commands.specs.Notes.{Note, alive_names, first_note, notes_of, sent_to}

-- the end of what was granted up to a moment, after the commands since then, of which the newest is the first: the last renewal
-- of the name counts
abbrev pub lease_end : ℕ → ℕ → List Command → ℕ
lease_end name end [] = end
lease_end name end (Renews moment other seconds ∷ older) = cond (nat_eq name other) (end_after moment seconds) (lease_end name end older)
lease_end name end (command ∷ older) = lease_end name end older

-- a subscription was granted and has not ended since: it was not given up, and no tick came at or past the end that it had then
pub record HasRun (name : ℕ) (commands : List Command) (end : ℕ) : Type 0 where
  pub newer : List Command
  pub older : List Command
  pub moment : ℕ
  pub callback : List ℕ
  pub seconds : ℕ
  pub parts : commands ≡ newer ++ Grants moment callback seconds ∷ older
  pub named : name ≡ granted older + 1
  pub not_given_up : (later before : List Command) (at : ℕ) → newer ≡ later ++ Ends at name ∷ before → ⊥
  pub not_past : (later before : List Command) (at : ℕ) → newer ≡ later ++ Ticks at ∷ before → at < lease_end name (end_after moment seconds) before
  pub ends : end ≡ lease_end name (end_after moment seconds) newer

-- it lives at a moment if this is before its end
abbrev pub Lives : ℕ → ℕ → List Command → Type 0
Lives name now commands = (end : ℕ) × HasRun name commands end × (now < end)

-- exactly such names live
abbrev pub subscriptions_live_until_their_end : Type 0
subscriptions_live_until_their_end = (name now : ℕ) (commands : List Command) →
    (Contains (alive_names now commands) name) ↔ Lives name now commands

-- a tick releases if and only if some change waits, and no release came before it or the last one is long enough past
abbrev pub ticks_release_what_is_due : Type 0
ticks_release_what_is_due = (first now : ℕ) (commands : List Command) →
    IsSome (release_at now (scans_of first commands) (releases_of first commands))
    ↔ ((released_to first (releases_of first commands) < end_of (scans_of first commands))
    × ((releases_of first commands ≡ [])
    ⊎ ((last : Release) × (before : List Release) × (releases_of first commands ≡ last ∷ before) × (last.moment + release_pause ≤ now))))

-- the releases at which a name lived, the oldest first; what each tick adds is the law below it
abbrev pub and_lived : Bool → Option Release → List Release → List Release
and_lived true (Some release) releases = releases ++ release ∷ []
and_lived other release releases = releases

abbrev pub lived_at : ℕ → ℕ → List Command → List Release
lived_at first name [] = []
lived_at first name (Ticks moment ∷ older) =
    and_lived (is_alive name moment older)
    (release_at moment (scans_of first older) (releases_of first older)) (lived_at first name older)
lived_at first name (command ∷ older) = lived_at first name older

-- the release of a tick is one of them if and only if the subscription lives at that moment
abbrev pub releases_reach_what_lives : Type 0
releases_reach_what_lives = (first name moment : ℕ) (older : List Command) (release : Release) →
    release_at moment (scans_of first older) (releases_of first older) ≡ Some release →
    (Lives name moment older → lived_at first name (Ticks moment ∷ older) ≡ lived_at first name older ++ release ∷ [])
    × ((Lives name moment older → ⊥) → lived_at first name (Ticks moment ∷ older) ≡ lived_at first name older)

-- the note of a release at a place, and the notes of releases at places from one on
abbrev pub note_of_release : History → ℕ → ℕ → Release → Note
note_of_release history name place release =
    record { name = name; place = place; number = release.to; events = events_between history release.from release.to }

abbrev pub notes_of_releases : History → ℕ → ℕ → List Release → List Note
notes_of_releases history name place [] = []
notes_of_releases history name place (release ∷ releases) = note_of_release history name place release ∷ notes_of_releases history name (place + 1) releases

-- since its grant the notes of a subscription are its first note, with the number of that time, and then one of each release at
-- which it lived. They are in order: its k-th note is that of the k-th such release
abbrev pub notes_are_of_releases : Type 0
notes_are_of_releases = (first : ℕ) (newer older : List Command) (moment : ℕ) (callback : List ℕ) (seconds : ℕ) →
    sent_to (granted older + 1) (notes_of first (newer ++ Grants moment callback seconds ∷ older))
    ≡ first_note (granted older + 1) (end_of (scans_of first older))
    ∷ notes_of_releases (scans_of first (newer ++ Grants moment callback seconds ∷ older)) (granted older + 1) 1
    (lived_at first (granted older + 1) (newer ++ Grants moment callback seconds ∷ older))
