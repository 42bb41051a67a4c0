-- Releases go on from one another, each with at least one scan.
use Rattle.std.proofs.Common.{◌≡◌, ◌⊎◌, inl, inr, ◌+◌, ◌-◌, ◌<◌, ◌≤◌, ℕ, zero, suc, Bool, true, false, cond, ◌&&◌, nat_lt, nat_le, List, [], ◌∷◌, ◌++◌, length, drop, reverse, Option, Some, None, refl, sym, ap, ◌∙◌, subst, arith, true≢false, ltb-true, leb-true, length-append}
use Rattle.std.specs.List.{AllByRecursion, filter_map, cons_option}
use Rattle.std.proofs.lemmas.Bool.{cases_lt}
use Rattle.std.proofs.lemmas.List.{length-reverse}
use Rattle.cds_catalog.specs.Library.{FolderMap, found, arrival, departure}
use Rattle.cds_catalog.specs.History.{History, latest, changes_of, end_of}
use Rattle.cds_catalog.proofs.StepsFind.{none≢some}
use Rattle.cds_commands.specs.Commands.{Command, Scans, Grants, Renews, Ends, Ticks, Stops, scans_of}
use Rattle.cds_commands.specs.Releases.{Release, release_size, released_to, may_release, scan_end_within, release_at, and_release, releases_of}
use Rattle.cds_commands.specs.ReleaseLaws.{releases_go_on}
use Rattle.cds_commands.proofs.Sent.{Stood, within-stood, within-greatest, release-is, first-is, released-stood}
use Rattle.cds_commands.proofs.Fewer.{stood-served}

-- ---- how many changes a scan has

some-less : {X Y : Type 0} (f : X → Option Y) (xs : List X) → length (filter_map f xs) ≤ length xs
some-less f [] = omega arith
some-less {X} {Y} f (x ∷ xs) = by (f x) (some-less f xs)
  where
    by : (o : Option Y) → length (filter_map f xs) ≤ length xs → length (cons_option o (filter_map f xs)) ≤ suc (length xs)
    by None l = omega (arith, l)
    by (Some y) l = omega (arith, l)

found-few : (old new : FolderMap) → length (found old new) ≤ length old + length new
found-few old new =
    let parts = length-append (reverse (filter_map (arrival old) new)) (filter_map (departure new) old) in
    let same = length-reverse (filter_map (arrival old) new) in
    let come = some-less (arrival old) new in
    let gone = some-less (departure new) old in
    omega (arith, parts, same, come, gone)

abbrev Few : List FolderMap → Type 0
Few = AllByRecursion (λ (library : FolderMap). length library ≤ 65535)

latest-few : (maps : List FolderMap) → Few maps → length (latest maps) ≤ 65535
latest-few [] few = omega arith
latest-few (library ∷ older) few = few.0

few-older : (first : ℕ) (command : Command) (older : List Command) → Few (scans_of first (command ∷ older)).maps → Few (scans_of first older).maps
few-older first (Scans library) older few = few.1
few-older first (Grants moment callback seconds) older few = few
few-older first (Renews moment name seconds) older few = few
few-older first (Ends moment name) older few = few
few-older first Stops older few = few
few-older first (Ticks moment) older few = few

abbrev end : ℕ → List Command → ℕ
end first commands = end_of (scans_of first commands)

rises-few : (first : ℕ) (command : Command) (older : List Command) → Few (scans_of first (command ∷ older)).maps → end first (command ∷ older) ≤ end first older + 131070
rises-few first (Scans library) older few =
    let all = length-append (found (latest (scans_of first older).maps) library) (changes_of (scans_of first older).maps) in
    let most = found-few (latest (scans_of first older).maps) library in
    let now = few.0 in
    let before = latest-few (scans_of first older).maps few.1 in
    omega (arith, all, most, now, before)
rises-few first (Grants moment callback seconds) older few = omega arith
rises-few first (Renews moment name seconds) older few = omega arith
rises-few first (Ends moment name) older few = omega arith
rises-few first Stops older few = omega arith
rises-few first (Ticks moment) older few = omega arith

-- after a scan end that is not the last there is a greater one, at most as much greater as one scan has changes
next-end : (first : ℕ) (commands : List Command) → Few (scans_of first commands).maps → (n : ℕ) → end first (drop n commands) < end first commands
    → (m : ℕ) × (end first (drop n commands) < end first (drop m commands)) × (end first (drop m commands) ≤ end first (drop n commands) + 131070)
next-end first commands few zero l = let no : ⊥ = omega (arith, l) in absurd no
next-end first [] few (suc n) l = let no : ⊥ = omega (arith, l) in absurd no
next-end first (command ∷ older) few (suc n) l = by (cases_lt (end first (drop n older)) (end first older)) (λ m. next-end first older (few-older first command older few) n m)
  where
    Goal : Type 0
    Goal = (m : ℕ) × (end first (drop n older) < end first (drop m (command ∷ older))) × (end first (drop m (command ∷ older)) ≤ end first (drop n older) + 131070)

    by : (end first (drop n older) < end first older) ⊎ (end first older ≤ end first (drop n older))
        → (end first (drop n older) < end first older
        → (m : ℕ) × (end first (drop n older) < end first (drop m older)) × (end first (drop m older) ≤ end first (drop n older) + 131070)) → Goal
    by (inl m) r = let found = r m in (suc found.0, found.1, found.2)
    by (inr m) r = let most = rises-few first command older few in (0, l, omega (arith, most, m))

-- ---- one release

within-most : (first most : ℕ) (maps : List FolderMap) → first ≤ most → scan_end_within first most maps ≤ most
within-most first most [] l = l
within-most first most (library ∷ older) l = by (nat_le (end_of (record { first = first; maps = library ∷ older })) most) refl (within-most first most older l)
  where
    by : (b : Bool) → nat_le (end_of (record { first = first; maps = library ∷ older })) most ≡ b → scan_end_within first most older ≤ most
        → cond b (end_of (record { first = first; maps = library ∷ older })) (scan_end_within first most older) ≤ most
    by true e r = leb-true (end_of (record { first = first; maps = library ∷ older })) most e
    by false e r = r

both-hold : (a b : Bool) → a && b ≡ true → (a ≡ true) × (b ≡ true)
both-hold true b e = (refl, e)
both-hold false b e = absurd (true≢false (sym e))

release-test : (moment : ℕ) (history : History) (releases : List Release) (release : Release) → release_at moment history releases ≡ Some release
    → (nat_lt (released_to history.first releases) (end_of history) ≡ true) × (may_release release.moment releases ≡ true) × (moment ≡ release.moment)
release-test moment history releases release e = by (nat_lt (released_to history.first releases) (end_of history) && may_release moment releases) refl e
  where
    made : Release
    made = record {
      moment = moment;
      from = released_to history.first releases;
      to = scan_end_within history.first (released_to history.first releases + release_size) history.maps;
    }

    by : (b : Bool) → nat_lt (released_to history.first releases) (end_of history) && may_release moment releases ≡ b → cond b (Some made) None ≡ Some release
        → (nat_lt (released_to history.first releases) (end_of history) ≡ true) × (may_release release.moment releases ≡ true) × (moment ≡ release.moment)
    by true t k =
        let both = both-hold (nat_lt (released_to history.first releases) (end_of history)) (may_release moment releases) t in
        let is : made ≡ release = cc in
        (both.0, ap (λ (r : Release). may_release r.moment releases) (sym is) ∙ both.1, ap (λ (r : Release). r.moment) is)
    by false t k = none≢some None release refl k

-- what holds of the release of a tick after the commands before it
abbrev GoesAt : ℕ → List Command → Release → Type 0
GoesAt first before release =
    (release.from ≡ released_to first (releases_of first before)) × (may_release release.moment (releases_of first before) ≡ true)
    × (release.from < release.to) × (release.to ≤ release.from + release_size) × Stood first before release.to
    × ((n : ℕ) → end first (drop n before) ≤ release.from + release_size → end first (drop n before) ≤ release.to)

goes-new : (first moment : ℕ) (older : List Command) (release : Release) → Few (scans_of first older).maps → release_at moment (scans_of first older) (releases_of first older) ≡ Some release
    → GoesAt first older release
goes-new first moment older release few e =
    let releases : List Release = releases_of first older in
    let same = first-is first older in
    let is = release-is first moment (scans_of first older) releases release same e in
    let test = release-test moment (scans_of first older) releases release e in
    let stood = released-stood first older in
    let at = stood.1 in
    let low : released_to first releases < end first older =
    ltb-true (released_to first releases) (end first older) (ap (λ (f : ℕ). nat_lt (released_to f releases) (end first older)) (sym same) ∙ test.0) in
    let next = next-end first older few stood.0 (omega (arith, at, low)) in
    let above = next.1 in
    let most = next.2 in
    let reach = within-greatest first (released_to first releases + release_size) older next.0 (omega (arith, most, at)) in
    let least = first-is first (drop stood.0 older) in
    let size = within-most first (released_to first releases + release_size) (scans_of first older).maps (omega (arith, at, least)) in
    let from = is.0 in
    let to = is.1 in (
      from,
      test.1,
      omega (arith, above, at, reach, from, to),
      omega (arith, size, from, to),
      subst (Stood first older) (sym to) (within-stood first (released_to first releases + release_size) older),
      (λ n l.
          let within = within-greatest first (released_to first releases + release_size) older n (omega (arith, l, from)) in
          omega (arith, within, to)),
    )

-- ---- all releases

abbrev Goes : ℕ → List Command → Release → List Release → Type 0
Goes first commands release older =
    (later : List Command) × (before : List Command) × (commands ≡ later ++ Ticks release.moment ∷ before) × (releases_of first before ≡ older) × GoesAt first before release

goes-later : (first : ℕ) (command : Command) (commands : List Command) (release : Release) (older : List Release) → Goes first commands release older → Goes first (command ∷ commands) release older
goes-later first command commands release older g = (command ∷ g.0, g.1, ap (λ (l : List Command). command ∷ l) g.2, g.3, g.4)

none-is : (newer : List Release) (release : Release) (older : List Release) → [] ≡ newer ++ release ∷ older → ⊥
none-is [] release older e = absurd (cc)
none-is (next ∷ newer) release older e = absurd (cc)

all-go : (first : ℕ) (commands : List Command) → Few (scans_of first commands).maps → (release : Release) (newer older : List Release)
    → releases_of first commands ≡ newer ++ release ∷ older → Goes first commands release older
all-go first [] few release newer older e = absurd (none-is newer release older e)
all-go first (Scans library ∷ before) few release newer older e = goes-later first (Scans library) before release older (all-go first before few.1 release newer older e)
all-go first (Grants moment callback seconds ∷ before) few release newer older e = goes-later first (Grants moment callback seconds) before release older (all-go first before few release newer older e)
all-go first (Renews moment name seconds ∷ before) few release newer older e = goes-later first (Renews moment name seconds) before release older (all-go first before few release newer older e)
all-go first (Ends moment name ∷ before) few release newer older e = goes-later first (Ends moment name) before release older (all-go first before few release newer older e)
all-go first (Stops ∷ before) few release newer older e = goes-later first Stops before release older (all-go first before few release newer older e)
all-go first (Ticks moment ∷ before) few release newer older e =
    by (release_at moment (scans_of first before) (releases_of first before)) refl newer e (λ some k. goes-later first (Ticks moment) before release older (all-go first before few release some older k))
  where
    by : (o : Option Release) → release_at moment (scans_of first before) (releases_of first before) ≡ o → (some : List Release) → and_release o (releases_of first before) ≡ some ++ release ∷ older
        → ((others : List Release) → releases_of first before ≡ others ++ release ∷ older → Goes first (Ticks moment ∷ before) release older) → Goes first (Ticks moment ∷ before) release older
    by None k some is r = r some is
    by (Some new) k [] is r =
        let same : new ≡ release = cc in
        let rest : releases_of first before ≡ older = cc in
        let made = k ∙ ap Some same in
        let tick = (release-test moment (scans_of first before) (releases_of first before) release made).2 in
        ([], before, ap (λ (m : ℕ). Ticks m ∷ before) tick, rest, goes-new first moment before release few made)
    by (Some new) k (next ∷ some) is r = let rest : releases_of first before ≡ some ++ release ∷ older = cc in r some rest

pub releases-go : releases_go_on
releases-go first commands release newer older accepted is =
    let g = all-go first commands accepted.few release newer older is in
    let before : List Command = g.1 in
    let all : length before - length before ≡ 0 = omega arith in
    let stood = stood-served first before (length before) release.to (subst (λ (n : ℕ). Stood first (drop n before) release.to) (sym all) g.4.4) in (
      g.0,
      before,
      g.2,
      g.3,
      g.4.0 ∙ ap (released_to first) g.3,
      ap (may_release release.moment) (sym g.3) ∙ g.4.1,
      g.4.2,
      g.4.3,
      (stood.0, sym stood.2),
      (λ j l. g.4.5 (length before - j) l),
    )
