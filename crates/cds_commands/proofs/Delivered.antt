-- The notes of a subscription are its first note and one of each release at which it lived.
use Rattle.std.proofs.Common.{◌≡◌, ◌⊎◌, inl, inr, ◌+◌, ◌<◌, ◌≤◌, ℕ, zero, suc, Bool, true, false, cond, nat_eq, List, [], ◌∷◌, ◌++◌, map, filter, length, Option, Some, None, is_some, refl, sym, ap, ◌∙◌, subst, arith, eq-eqb, ne_eqb}
use Rattle.std.specs.List.{AllByRecursion, range_with_len}
use Rattle.std.proofs.lemmas.Bool.{cases_lt}
use Rattle.std.proofs.lemmas.List.{append-nil}
use Rattle.std.proofs.lemmas.List.Elements.{filter-append}
use Rattle.cds_catalog.specs.Library.{FolderMap}
use Rattle.cds_catalog.specs.History.{History, end_of}
use Rattle.cds_changes.specs.Events.{events_between}
use Rattle.cds_changes.proofs.Spans.{spans-stay}
use Rattle.cds_commands.specs.Commands.{Command, Scans, Grants, Renews, Ends, Ticks, Stops, scans_of}
use Rattle.cds_commands.specs.Releases.{Release, release_at, releases_of, released_to, release_size}
use Rattle.cds_commands.specs.Subscriptions.{granted, unless_past, runs_until, is_alive}
use Rattle.cds_commands.specs.Notes.{Note, next_place_of, released_note, released_notes, first_note, sent_by, notes_of, sent_to}
use Rattle.cds_commands.specs.SubscriptionLaws.{Lives, and_lived, lived_at, note_of_release, notes_of_releases, notes_are_of_releases, releases_reach_what_lives}
use Rattle.cds_commands.proofs.Among.{seq-none, among-all}
use Rattle.cds_commands.proofs.Scanned.{scans-first, dropped-grows}
use Rattle.cds_commands.proofs.Sent.{Sound, all-sound, stood-below, first-is, release-is, within-stood, granted-more}
use Rattle.cds_commands.proofs.Lives.{runs-granted, test-lives, lives-test}

-- ---- of numbers in a row one is a name once

others-none : (f : ℕ → Note) → ((n : ℕ) → (f n).name ≡ n) → (p : ℕ → Bool) (a n name : ℕ) → name < a → sent_to name (map f (filter p (range_with_len a n))) ≡ []
others-none f named p a zero name l = refl
others-none f named p a (suc n) name l = by (p a) (others-none f named p (a + 1) n name (omega (arith, l)))
  where
    rest : List Note
    rest = map f (filter p (range_with_len (a + 1) n))

    by : (b : Bool) → sent_to name rest ≡ [] → sent_to name (map f (cond b (a ∷ filter p (range_with_len (a + 1) n)) (filter p (range_with_len (a + 1) n)))) ≡ []
    by true r =
        let is = named a in
        ap (λ b. cond b (f a ∷ sent_to name rest) (sent_to name rest)) (ne_eqb (f a).name name (λ e. omega (arith, e, is, l))) ∙ r
    by false r = r

one-of : (f : ℕ → Note) → ((n : ℕ) → (f n).name ≡ n) → (p : ℕ → Bool) (a n name : ℕ) → a ≤ name → name < a + n →
    sent_to name (map f (filter p (range_with_len a n))) ≡ cond (p name) (f name ∷ []) []
one-of f named p a zero name l h = let no : ⊥ = omega (arith, l, h) in absurd no
one-of f named p a (suc n) name l h = by (cases_lt a name) (λ m. one-of f named p (a + 1) n name m (omega (arith, h)))
  where
    rest : List ℕ
    rest = filter p (range_with_len (a + 1) n)

    Is : ℕ → Type 0
    Is x = sent_to name (map f (cond (p a) (a ∷ rest) rest)) ≡ cond (p x) (f x ∷ []) []

    later : a < name → (b : Bool) → sent_to name (map f rest) ≡ cond (p name) (f name ∷ []) [] →
        sent_to name (map f (cond b (a ∷ rest) rest)) ≡ cond (p name) (f name ∷ []) []
    later m true r =
        let is = named a in
        ap (λ b. cond b (f a ∷ sent_to name (map f rest)) (sent_to name (map f rest))) (ne_eqb (f a).name name (λ e. omega (arith, e, is, m))) ∙ r
    later m false r = r

    here : a ≡ name → (b : Bool) → sent_to name (map f (cond b (a ∷ rest) rest)) ≡ cond b (f a ∷ []) []
    here e true =
        let is = named a in
        ap (λ b. cond b (f a ∷ sent_to name (map f rest)) (sent_to name (map f rest))) (eq-eqb (f a).name name (is ∙ e))
        ∙ ap (λ (notes : List Note). f a ∷ notes) (others-none f named p (a + 1) n name (omega (arith, e)))
    here e false = others-none f named p (a + 1) n name (omega (arith, e))

    by : (a < name) ⊎ (name ≤ a) → (a + 1 ≤ name → sent_to name (map f rest) ≡ cond (p name) (f name ∷ []) []) → sent_to name (map f (cond (p a) (a ∷ rest) rest)) ≡ cond (p name) (f name ∷ []) []
    by (inl m) r = later m (p a) (r (omega (arith, m)))
    by (inr m) r = let e : a ≡ name = omega (arith, l, m) in here e (p a) ∙ ap (λ (x : ℕ). cond (p x) (f x ∷ []) []) e

-- ---- notes of releases

more-releases : (history : History) (name seq : ℕ) (some : List Release) (release : Release) →
    notes_of_releases history name seq (some ++ release ∷ []) ≡ notes_of_releases history name seq some ++ note_of_release history name (seq + length some) release ∷ []
more-releases history name seq [] release = let e : seq ≡ seq + 0 = omega arith in ap (λ (n : ℕ). note_of_release history name n release ∷ []) e
more-releases history name seq (first ∷ some) release =
    ap (λ (notes : List Note). note_of_release history name seq first ∷ notes)
    (more-releases history name (seq + 1) some release
    ∙ (let e : seq + 1 + length some ≡ seq + suc (length some) = omega arith in
    ap (λ (n : ℕ). notes_of_releases history name (seq + 1) some ++ note_of_release history name n release ∷ []) e))

many : (history : History) (name seq : ℕ) (some : List Release) → length (notes_of_releases history name seq some) ≡ length some
many history name seq [] = refl
many history name seq (release ∷ some) = ap suc (many history name (seq + 1) some)

-- ---- a later scan changes nothing of what was released

abbrev Ended : ℕ → List Command → Release → Type 0
Ended first commands release = release.to ≤ end_of (scans_of first commands)

ended-more : (first : ℕ) (command : Command) (older : List Command) (release : Release) → Ended first older release → Ended first (command ∷ older) release
ended-more first command older release low =
    let below = stood-below first (command ∷ older) (end_of (scans_of first older)) (1, refl) in omega (arith, low, below)

release-ended : (first moment : ℕ) (older : List Command) (release : Release) → release_at moment (scans_of first older) (releases_of first older) ≡ Some release → Ended first older release
release-ended first moment older release e =
    let is = release-is first moment (scans_of first older) (releases_of first older) release (first-is first older) e in
    subst (λ (n : ℕ). n ≤ end_of (scans_of first older)) (sym is.1)
    (stood-below first older _ (within-stood first (released_to first (releases_of first older) + release_size) older))

lived-ended : (first name : ℕ) (commands : List Command) → AllByRecursion (Ended first commands) (lived_at first name commands)
lived-ended first name [] = tt
lived-ended first name (command ∷ older) = on command (all-more (lived_at first name older) (lived-ended first name older))
  where
    all-more : (releases : List Release) → AllByRecursion (Ended first older) releases → AllByRecursion (Ended first (command ∷ older)) releases
    all-more [] all = tt
    all-more (release ∷ releases) all = (ended-more first command older release all.0, all-more releases all.1)

    behind : (releases : List Release) (release : Release) → AllByRecursion (Ended first (command ∷ older)) releases → Ended first (command ∷ older) release →
        AllByRecursion (Ended first (command ∷ older)) (releases ++ release ∷ [])
    behind [] release all low = (low, tt)
    behind (other ∷ releases) release all low = (all.0, behind releases release all.1 low)

    with_one : (b : Bool) (moment : ℕ) (o : Option Release) → release_at moment (scans_of first older) (releases_of first older) ≡ o →
        AllByRecursion (Ended first (command ∷ older)) (lived_at first name older) → AllByRecursion (Ended first (command ∷ older)) (and_lived b o (lived_at first name older))
    with_one false moment o e all = all
    with_one true moment None e all = all
    with_one true moment (Some release) e all =
        behind (lived_at first name older) release all (ended-more first command older release (release-ended first moment older release e))

    on : (c : Command) → AllByRecursion (Ended first (command ∷ older)) (lived_at first name older) → AllByRecursion (Ended first (command ∷ older)) (lived_at first name (c ∷ older))
    on (Scans library) all = all
    on (Grants moment callback seconds) all = all
    on (Renews moment other seconds) all = all
    on (Ends moment other) all = all
    on (Ticks moment) all =
        with_one (is_alive name moment older) moment (release_at moment (scans_of first older) (releases_of first older)) refl all
    on Stops all = all

events-stay : (first : ℕ) (command : Command) (older : List Command) (from to : ℕ) → to ≤ end_of (scans_of first older) →
    events_between (scans_of first (command ∷ older)) from to ≡ events_between (scans_of first older) from to
events-stay first command older from to low =
    let grows = dropped-grows first 1 (command ∷ older) in
    let few = ap end_of (scans-first first older) in
    (λ i. events_between ((scans-first first (command ∷ older) ∙ ap (λ (l : List FolderMap). record { first = first; maps = l }) grows.1) i) from to)
    ∙ spans-stay first grows.0 (scans_of first older).maps from to (omega (arith, low, few))
    ∙ (λ i. events_between (sym (scans-first first older) i) from to)

notes-stay : (first name seq : ℕ) (command : Command) (older : List Command) (releases : List Release) → AllByRecursion (Ended first older) releases →
    notes_of_releases (scans_of first (command ∷ older)) name seq releases ≡ notes_of_releases (scans_of first older) name seq releases
notes-stay first name seq command older [] all = refl
notes-stay first name seq command older (release ∷ releases) all = λ i.
    record { name = name; place = seq; number = release.to; events = events-stay first command older release.from release.to all.0 i }
    ∷ notes-stay first name (seq + 1) command older releases all.1 i

-- ---- before its grant a name has no note and lives at no release

not-alive : (name now : ℕ) (older : List Command) → granted older < name → is_alive name now older ≡ false
not-alive name now older high = by (runs_until name older) refl
  where
    by : (o : Option ℕ) → runs_until name older ≡ o → is_some (unless_past now o) ≡ false
    by None e = refl
    by (Some end) e = let within = runs-granted name end older e in let low = within.1 in let no : ⊥ = omega (arith, low, high) in absurd no

never-lived : (first name : ℕ) (commands : List Command) → granted commands < name → lived_at first name commands ≡ []
never-lived first name [] high = refl
never-lived first name (command ∷ older) high =
    let more = granted-more command older in on command (never-lived first name older (omega (arith, more, high))) (omega (arith, more, high))
  where
    on : (c : Command) → lived_at first name older ≡ [] → granted older < name → lived_at first name (c ∷ older) ≡ []
    on (Scans library) r low = r
    on (Grants moment callback seconds) r low = r
    on (Renews moment other seconds) r low = r
    on (Ends moment other) r low = r
    on (Ticks moment) r low =
        (λ i. and_lived (not-alive name moment older low i)
        (release_at moment (scans_of first older) (releases_of first older)) (r i))
    on Stops r low = r

empty-length : (notes : List Note) → length notes ≡ 0 → notes ≡ []
empty-length [] e = refl
empty-length (note ∷ notes) e = let no : ⊥ = omega (arith, e) in absurd no

none-yet : (first name : ℕ) (commands : List Command) → granted commands < name → sent_to name (notes_of first commands) ≡ []
none-yet first name commands high = empty-length (sent_to name (notes_of first commands))
    (seq-none name (notes_of first commands)
    (λ note a e. let known = (among-all (Sound first commands) (notes_of first commands) note (all-sound first commands) a).known in omega (arith, known, e, high)))

-- ---- one command

-- the notes of a name are its first one, with a number, and those of the releases at which it lived
abbrev pub Of : ℕ → ℕ → ℕ → List Command → Type 0
Of first name number commands = sent_to name (notes_of first commands)
    ≡ first_note name number ∷ notes_of_releases (scans_of first commands) name 1 (lived_at first name commands)

module _ (first name number : ℕ) (older : List Command) where
  -- a command that sends nothing to the name and at which it is no release
  quiet : (command : Command) → sent_to name (sent_by first older (notes_of first older) command) ≡ [] → lived_at first name (command ∷ older) ≡ lived_at first name older →
      Of first name number older → Of first name number (command ∷ older)
  quiet command none same is =
      filter-append (λ (note : Note). nat_eq note.name name) (notes_of first older) (sent_by first older (notes_of first older) command)
      ∙ ap (λ (notes : List Note). sent_to name (notes_of first older) ++ notes) none ∙ append-nil (sent_to name (notes_of first older)) ∙ is
      ∙ ap (λ (notes : List Note). first_note name number ∷ notes)
      (sym (notes-stay first name 1 command older (lived_at first name older) (lived-ended first name older))
      ∙ ap (notes_of_releases (scans_of first (command ∷ older)) name 1) (sym same))

  tick : (moment : ℕ) → 1 ≤ name → name ≤ granted older → Of first name number older → Of first name number (Ticks moment ∷ older)
  tick moment low high of = by (release_at moment (scans_of first older) (releases_of first older)) refl of
    where
      p : ℕ → Bool
      p n = is_alive n moment older

      sent : Option Release → List Note
      sent o = released_notes (scans_of first older) o (notes_of first older) (filter p (range_with_len 1 (granted older)))

      Then : Option Release → Bool → Type 0
      Then o b = sent_to name (notes_of first older ++ sent o)
          ≡ first_note name number ∷ notes_of_releases (scans_of first older) name 1 (and_lived b o (lived_at first name older))

      join : (o : Option Release) (b : Bool) → sent_to name (sent o) ≡ [] → and_lived b o (lived_at first name older) ≡ lived_at first name older → Of first name number older → Then o b
      join o b none same is =
          filter-append (λ (note : Note). nat_eq note.name name) (notes_of first older) (sent o)
          ∙ ap (λ (notes : List Note). sent_to name (notes_of first older) ++ notes) none ∙ append-nil (sent_to name (notes_of first older)) ∙ is
          ∙ ap (λ (l : List Release). first_note name number ∷ notes_of_releases (scans_of first older) name 1 l) (sym same)

      made : (release : Release) → sent_to name (sent (Some release)) ≡ cond (p name) (released_note (scans_of first older) release (notes_of first older) name ∷ []) []
      made release = one-of (released_note (scans_of first older) release (notes_of first older)) (λ n. refl) p 1 (granted older) name low (omega (arith, high))

      one : (release : Release) (b : Bool) → sent_to name (sent (Some release)) ≡ cond b (released_note (scans_of first older) release (notes_of first older) name ∷ []) [] →
          Of first name number older → Then (Some release) b
      one release false e is = join (Some release) false e refl is
      one release true e is =
          let lived = lived_at first name older in
          let seq : next_place_of name (notes_of first older) ≡ 1 + length lived = ap length is ∙ ap suc (many (scans_of first older) name 1 lived) ∙ omega arith in
          filter-append (λ (note : Note). nat_eq note.name name) (notes_of first older) (sent (Some release))
          ∙ (λ i. is i ++ e i)
          ∙ ap (λ (n : ℕ). first_note name number ∷ (notes_of_releases (scans_of first older) name 1 lived ++ note_of_release (scans_of first older) name n release ∷ [])) seq
          ∙ ap (λ (notes : List Note). first_note name number ∷ notes) (sym (more-releases (scans_of first older) name 1 lived release))

      by : (o : Option Release) → release_at moment (scans_of first older) (releases_of first older) ≡ o → Of first name number older → Then o (p name)
      by None e is = join None (p name) refl (nothing (p name)) is
        where
          nothing : (b : Bool) → and_lived b None (lived_at first name older) ≡ lived_at first name older
          nothing true = refl
          nothing false = refl
      by (Some release) e is = one release (p name) (made release) is

  granting : (moment seconds : ℕ) (callback : List ℕ) → name ≤ granted older → Of first name number older → Of first name number (Grants moment callback seconds ∷ older)
  granting moment seconds callback high of =
      quiet (Grants moment callback seconds)
      (ap (λ b. cond b (first_note (granted older + 1) (end_of (scans_of first older)) ∷ []) []) (ne_eqb (granted older + 1) name (λ e. omega (arith, e, high)))) refl of

granted-now : (first name moment seconds : ℕ) (callback : List ℕ) (older : List Command) → name ≡ granted older + 1 →
    Of first name (end_of (scans_of first older)) (Grants moment callback seconds ∷ older)
granted-now first name moment seconds callback older e =
    let note : Note = first_note (granted older + 1) (end_of (scans_of first older)) in
    filter-append (λ (n : Note). nat_eq n.name name) (notes_of first older) (note ∷ [])
    ∙ (λ i. none-yet first name older (let l : granted older < name = omega (arith, e) in l) i ++ cond (eq-eqb (granted older + 1) name (sym e) i) (note ∷ []) [])
    ∙ ap (λ (n : ℕ). first_note n (end_of (scans_of first older)) ∷ []) (sym e)
    ∙ ap (λ (l : List Release). first_note name (end_of (scans_of first older)) ∷ notes_of_releases (scans_of first older) name 1 l)
    (sym (never-lived first name older (omega (arith, e))))

-- ---- all commands since a grant

-- the grant stands among the commands after it
granted-since : (newer older : List Command) (moment seconds : ℕ) (callback : List ℕ) → granted older + 1 ≤ granted (newer ++ Grants moment callback seconds ∷ older)
granted-since [] older moment seconds callback = omega arith
granted-since (command ∷ newer) older moment seconds callback =
    let more = granted-more command (newer ++ Grants moment callback seconds ∷ older) in
    let low = granted-since newer older moment seconds callback in
    omega (arith, more, low)

since : (first name moment seconds : ℕ) (callback : List ℕ) (newer older : List Command) → name ≡ granted older + 1 →
    Of first name (end_of (scans_of first older)) (newer ++ Grants moment callback seconds ∷ older)
since first name moment seconds callback [] older e = granted-now first name moment seconds callback older e
since first name moment seconds callback (command ∷ newer) older e = on command (since first name moment seconds callback newer older e)
  where
    before : List Command
    before = newer ++ Grants moment callback seconds ∷ older

    number : ℕ
    number = end_of (scans_of first older)

    high : name ≤ granted before
    high = let low = granted-since newer older moment seconds callback in omega (arith, low, e)

    on : (c : Command) → Of first name number before → Of first name number (c ∷ before)
    on (Scans library) of = quiet first name number before (Scans library) refl refl of
    on (Grants at other_callback other_seconds) of = granting first name number before at other_seconds other_callback high of
    on (Renews at other other_seconds) of = quiet first name number before (Renews at other other_seconds) refl refl of
    on (Ends at other) of = quiet first name number before (Ends at other) refl refl of
    on (Ticks at) of = tick first name number before at (let low : 1 ≤ name = omega (arith, e) in low) high of
    on Stops of = quiet first name number before Stops refl refl of

pub of-releases : notes_are_of_releases
of-releases first newer older moment callback seconds = since first (granted older + 1) moment seconds callback newer older refl

-- ---- the releases at which a subscription lived

pub lived-where : releases_reach_what_lives
lived-where first name moment older release e = (
  (λ lives. at-release true (lives-now lives)),
  (λ dead. at-release false (dies-now dead)),
)
  where
    p : Bool
    p = is_alive name moment older

    at-release : (b : Bool) → p ≡ b → lived_at first name (Ticks moment ∷ older) ≡ and_lived b (Some release) (lived_at first name older)
    at-release b f = λ i. and_lived (f i) (e i) (lived_at first name older)

    lives-now : Lives name moment older → p ≡ true
    lives-now lives = lives-test name moment older lives

    dies-now : (Lives name moment older → ⊥) → p ≡ false
    dies-now dead = by p refl
      where
        by : (b : Bool) → p ≡ b → b ≡ false
        by true f = absurd (dead (test-lives name moment older f))
        by false f = refl
