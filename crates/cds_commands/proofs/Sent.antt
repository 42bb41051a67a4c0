-- What holds of the notes that commands send: their names, SEQs, numbers and events.
use Rattle.std.proofs.Common.{◌≡◌, ◌⊎◌, inl, inr, ◌+◌, ◌<◌, ◌≤◌, ℕ, zero, suc, Bool, true, false, cond, ◌&&◌, nat_eq, nat_lt, nat_le, List, [], ◌∷◌, ◌++◌, map, drop, Option, Some, None, is_some, refl, sym, ap, ◌∙◌, subst, arith, true≢false, eqb-true, ne_eqb, leb-false}
use Rattle.std.specs.List.{AllByRecursion, range_with_len}
use Rattle.std.proofs.lemmas.Bool.{cases_lt, eqb-false}
use Rattle.cds_catalog.specs.Library.{FolderMap}
use Rattle.cds_catalog.specs.History.{History, end_of}
use Rattle.cds_catalog.proofs.Numbers.{ends_rise}
use Rattle.cds_catalog.proofs.StepsFind.{each-append, each-weaker, each-map, none≢some}
use Rattle.cds_changes.specs.Events.{events_between}
use Rattle.cds_changes.proofs.Spans.{spans-stay}
use Rattle.cds_commands.specs.Commands.{Command, Scans, Grants, Renews, Ends, Ticks, Stops, scans_of}
use Rattle.cds_commands.specs.Releases.{Release, release_size, released_to, may_release, scan_end_within, release_at, and_release, releases_of}
use Rattle.cds_commands.specs.Subscriptions.{granted, end_after, renewed_until, unless_past, runs_until, is_alive}
use Rattle.cds_commands.specs.Notes.{Note, next_place_of, alive_names, released_note, released_notes, first_note, sent_by, notes_of}
use Rattle.cds_commands.proofs.Among.{Among, among-all, all-among, among-append, among-map, among-filter, filter-among, among-row, row-among, seq-append, seq-among, seq-none}
use Rattle.cds_commands.proofs.Scanned.{scans-first, Grows, dropped-grows}

-- ---- scan ends

-- a number that is the end of the scans of some of the commands, the oldest ones
abbrev pub Stood : ℕ → List Command → ℕ → Type 0
Stood first commands number = (n : ℕ) × (number ≡ end_of (scans_of first (drop n commands)))

pub stood-later : (first : ℕ) (command : Command) (older : List Command) (number : ℕ) → Stood first older number → Stood first (command ∷ older) number
stood-later first command older number s = (suc s.0, s.1)

pub grows-rise : (first : ℕ) (more fewer : List Command) → Grows first more fewer → end_of (scans_of first fewer) ≤ end_of (scans_of first more)
grows-rise first more fewer grows =
    let rise = ends_rise first grows.0 (scans_of first fewer).maps in
    let few = ap end_of (scans-first first fewer) in
    let many = ap end_of (scans-first first more ∙ ap (λ (l : List FolderMap). record { first = first; maps = l }) grows.1) in
    omega (arith, rise, few, many)

pub stood-below : (first : ℕ) (commands : List Command) (number : ℕ) → Stood first commands number → number ≤ end_of (scans_of first commands)
stood-below first commands number s =
    let rise = grows-rise first commands (drop s.0 commands) (dropped-grows first s.0 commands) in
    let is = s.1 in
    omega (arith, rise, is)

pub within-stood : (first most : ℕ) (commands : List Command) → Stood first commands (scan_end_within first most (scans_of first commands).maps)
within-stood first most [] = (0, omega arith)
within-stood first most (Scans library ∷ older) = by (nat_le (end_of (record { first = first; maps = library ∷ (scans_of first older).maps })) most) (within-stood first most older)
  where
    by : (b : Bool) → Stood first older (scan_end_within first most (scans_of first older).maps)
        → Stood first (Scans library ∷ older) (cond b (end_of (record { first = first; maps = library ∷ (scans_of first older).maps })) (scan_end_within first most (scans_of first older).maps))
    by true r = (0, sym (ap end_of (scans-first first (Scans library ∷ older))))
    by false r = stood-later first (Scans library) older _ r
within-stood first most (Grants moment callback seconds ∷ older) = stood-later first (Grants moment callback seconds) older _ (within-stood first most older)
within-stood first most (Renews moment name seconds ∷ older) = stood-later first (Renews moment name seconds) older _ (within-stood first most older)
within-stood first most (Ends moment name ∷ older) = stood-later first (Ends moment name) older _ (within-stood first most older)
within-stood first most (Stops ∷ older) = stood-later first Stops older _ (within-stood first most older)
within-stood first most (Ticks moment ∷ older) = stood-later first (Ticks moment) older _ (within-stood first most older)

-- the greatest scan end within a number is not below one that is within it
pub within-greatest : (first most : ℕ) (commands : List Command) (n : ℕ) → end_of (scans_of first (drop n commands)) ≤ most
    → end_of (scans_of first (drop n commands)) ≤ scan_end_within first most (scans_of first commands).maps
within-greatest first most [] zero l = omega arith
within-greatest first most [] (suc n) l = omega arith
within-greatest first most (Scans library ∷ older) n l =
    by (nat_le (end_of (record { first = first; maps = library ∷ (scans_of first older).maps })) most) refl n l (λ m k. within-greatest first most older m k)
  where
    all : end_of (scans_of first (Scans library ∷ older)) ≡ end_of (record { first = first; maps = library ∷ (scans_of first older).maps })
    all = ap end_of (scans-first first (Scans library ∷ older))

    by : (b : Bool) → nat_le (end_of (record { first = first; maps = library ∷ (scans_of first older).maps })) most ≡ b → (m : ℕ)
        → end_of (scans_of first (drop m (Scans library ∷ older))) ≤ most
        → ((i : ℕ) → end_of (scans_of first (drop i older)) ≤ most → end_of (scans_of first (drop i older)) ≤ scan_end_within first most (scans_of first older).maps)
        → end_of (scans_of first (drop m (Scans library ∷ older)))
        ≤ cond b (end_of (record { first = first; maps = library ∷ (scans_of first older).maps })) (scan_end_within first most (scans_of first older).maps)
    by true e m k r =
        let rise = grows-rise first (Scans library ∷ older) (drop m (Scans library ∷ older)) (dropped-grows first m (Scans library ∷ older)) in
        let is = all in
        omega (arith, rise, is)
    by false e zero k r =
        let above = leb-false (end_of (record { first = first; maps = library ∷ (scans_of first older).maps })) most e in
        let is = all in
        let no : ⊥ = omega (arith, above, is, k) in
        absurd no
    by false e (suc m) k r = r m k
within-greatest first most (Grants moment callback seconds ∷ older) zero l = within-greatest first most older zero l
within-greatest first most (Grants moment callback seconds ∷ older) (suc n) l = within-greatest first most older n l
within-greatest first most (Renews moment name seconds ∷ older) zero l = within-greatest first most older zero l
within-greatest first most (Ends moment name ∷ older) zero l = within-greatest first most older zero l
within-greatest first most (Stops ∷ older) zero l = within-greatest first most older zero l
within-greatest first most (Renews moment name seconds ∷ older) (suc n) l = within-greatest first most older n l
within-greatest first most (Ends moment name ∷ older) (suc n) l = within-greatest first most older n l
within-greatest first most (Stops ∷ older) (suc n) l = within-greatest first most older n l
within-greatest first most (Ticks moment ∷ older) zero l = within-greatest first most older zero l
within-greatest first most (Ticks moment ∷ older) (suc n) l = within-greatest first most older n l

-- ---- releases

pub release-is : (first moment : ℕ) (history : History) (releases : List Release) (release : Release) → history.first ≡ first → release_at moment history releases ≡ Some release
    → (release.from ≡ released_to first releases) × (release.to ≡ scan_end_within first (released_to first releases + release_size) history.maps)
release-is first moment history releases release same e = by (nat_lt (released_to history.first releases) (end_of history) && may_release moment releases) e
  where
    made : ℕ → Release
    made f = record { moment = moment; from = released_to f releases; to = scan_end_within f (released_to f releases + release_size) history.maps }

    by : (b : Bool) → cond b (Some (made history.first)) None ≡ Some release
        → (release.from ≡ released_to first releases) × (release.to ≡ scan_end_within first (released_to first releases + release_size) history.maps)
    by true k =
        let is : made history.first ≡ release = cc in (
          sym (ap (λ (r : Release). r.from) is) ∙ ap (λ (f : ℕ). released_to f releases) same,
          sym (ap (λ (r : Release). r.to) is) ∙ ap (λ (f : ℕ). scan_end_within f (released_to f releases + release_size) history.maps) same,
        )
    by false k = none≢some None release refl k

pub first-is : (first : ℕ) (commands : List Command) → (scans_of first commands).first ≡ first
first-is first commands = ap (λ (h : History). h.first) (scans-first first commands)

pub released-stood : (first : ℕ) (commands : List Command) → Stood first commands (released_to first (releases_of first commands))
released-stood first [] = (0, omega arith)
released-stood first (Scans library ∷ older) = stood-later first (Scans library) older _ (released-stood first older)
released-stood first (Grants moment callback seconds ∷ older) = stood-later first (Grants moment callback seconds) older _ (released-stood first older)
released-stood first (Renews moment name seconds ∷ older) = stood-later first (Renews moment name seconds) older _ (released-stood first older)
released-stood first (Ends moment name ∷ older) = stood-later first (Ends moment name) older _ (released-stood first older)
released-stood first (Stops ∷ older) = stood-later first Stops older _ (released-stood first older)
released-stood first (Ticks moment ∷ older) = by (release_at moment (scans_of first older) (releases_of first older)) refl (released-stood first older)
  where
    by : (o : Option Release) → release_at moment (scans_of first older) (releases_of first older) ≡ o → Stood first older (released_to first (releases_of first older))
        → Stood first (Ticks moment ∷ older) (released_to first (and_release o (releases_of first older)))
    by None e r = stood-later first (Ticks moment) older _ r
    by (Some release) e r =
        stood-later first (Ticks moment) older _
        (subst (Stood first older) (sym (release-is first moment (scans_of first older) (releases_of first older) release (first-is first older) e).1)
        (within-stood first (released_to first (releases_of first older) + release_size) older))

-- ---- which notes a command sends

-- how the last release stands to a note: it does not go past the note's number, and ends there but for a first note
abbrev pub Reaches : ℕ → Note → Type 0
Reaches released note = (released ≤ note.number) × ((note.place ≡ 0) ⊎ (released ≡ note.number))

-- a note that a command sends after the older ones, with so many names granted after it, and all released up to a number
pub record Fresh (first : ℕ) (older : List Command) (names after : ℕ) (note : Note) : Type 0 where
  pub named : 1 ≤ note.name
  pub known : note.name ≤ names
  pub place : note.place ≡ next_place_of note.name (notes_of first older)
  pub stood : Stood first older note.number
  pub begins : note.place ≡ 0 → note.events ≡ []
  pub reaches : Reaches after note
  pub follows : 0 < note.place → (is_some (runs_until note.name older) ≡ true)
      × (note.events ≡ events_between (scans_of first older) (released_to first (releases_of first older)) note.number)
      × (released_to first (releases_of first older) ≤ note.number)

-- what holds of a note that was sent
pub record Sound (first : ℕ) (commands : List Command) (note : Note) : Type 0 where
  pub named : 1 ≤ note.name
  pub known : note.name ≤ granted commands
  pub counted : note.place < next_place_of note.name (notes_of first commands)
  pub stood : Stood first commands note.number
  pub begins : note.place ≡ 0 → note.events ≡ []
  pub latest : note.place + 1 ≡ next_place_of note.name (notes_of first commands)
      → is_some (runs_until note.name commands) ≡ true → Reaches (released_to first (releases_of first commands)) note

past-runs : (moment : ℕ) (o : Option ℕ) → is_some (unless_past moment o) ≡ true → is_some o ≡ true
past-runs moment None e = e
past-runs moment (Some end) e = refl

-- of a name that was granted: where a command sends it no note and it still runs, it ran before, and nothing was released
Silent : ℕ → List Command → Command → ℕ → Type 0
Silent first older command name =
    next_place_of name (sent_by first older (notes_of first older) command) ≡ 0 → is_some (runs_until name (command ∷ older)) ≡ true
    → (is_some (runs_until name older) ≡ true) × (released_to first (releases_of first (command ∷ older)) ≡ released_to first (releases_of first older))

silent : (first : ℕ) (older : List Command) (command : Command) (name : ℕ) → 1 ≤ name → name ≤ granted older → Silent first older command name
unfolding Silent
silent first older (Scans library) name low high none runs = (runs, refl)
silent first older (Grants moment callback seconds) name low high none runs = (
  by (nat_eq name (granted older + 1)) (ne_eqb name (granted older + 1) (λ e. omega (arith, e, high))) runs,
  refl,
)
  where
    by : (b : Bool) → b ≡ false → is_some (cond b (Some (end_after moment seconds)) (runs_until name older)) ≡ true → is_some (runs_until name older) ≡ true
    by true e k = absurd (true≢false e)
    by false e k = k
silent first older (Renews moment other seconds) name low high none runs = (by (nat_eq name other) runs, refl)
  where
    still : (o : Option ℕ) → is_some (renewed_until (end_after moment seconds) o) ≡ true → is_some o ≡ true
    still None k = k
    still (Some end) k = refl

    by : (b : Bool) → is_some (cond b (renewed_until (end_after moment seconds) (runs_until name older)) (runs_until name older)) ≡ true → is_some (runs_until name older) ≡ true
    by true k = still (runs_until name older) k
    by false k = k
silent first older (Ends moment other) name low high none runs = (by (nat_eq name other) runs, refl)
  where
    by : (b : Bool) → is_some (cond b None (runs_until name older)) ≡ true → is_some (runs_until name older) ≡ true
    by true k = absurd (true≢false (sym k))
    by false k = k
silent first older Stops name low high none runs = (runs, refl)
silent first older (Ticks moment) name low high none runs =
    (past-runs moment (runs_until name older) runs, by (release_at moment (scans_of first older) (releases_of first older)) none)
  where
    among : Among name (alive_names moment older)
    among =
        among-filter (λ (n : ℕ). is_alive n moment older) (range_with_len 1 (granted older)) name
        (among-row 1 (granted older) name low (omega (arith, high)))
        runs

    by : (o : Option Release)
        → next_place_of name (released_notes (scans_of first older) o (notes_of first older) (alive_names moment older)) ≡ 0
        → released_to first (and_release o (releases_of first older)) ≡ released_to first (releases_of first older)
    by None e = refl
    by (Some release) e =
        let some = seq-among (map (released_note (scans_of first older) release (notes_of first older)) (alive_names moment older))
        (released_note (scans_of first older) release (notes_of first older) name)
        (among-map (released_note (scans_of first older) release (notes_of first older)) (alive_names moment older) name among) in
        let no : ⊥ = omega (arith, some, e) in
        absurd no

fresh : (first : ℕ) (older : List Command) (command : Command) → AllByRecursion (Sound first older) (notes_of first older)
    → ((name : ℕ) → 1 ≤ name → name ≤ granted older → 1 ≤ next_place_of name (notes_of first older))
    → AllByRecursion (Fresh first older (granted (command ∷ older)) (released_to first (releases_of first (command ∷ older)))) (sent_by first older (notes_of first older) command)
fresh first older (Scans library) sound some = tt
fresh first older (Grants moment callback seconds) sound some = (
  record {
    named = omega arith;
    known = omega arith;
    place = sym (seq-none (granted older + 1) (notes_of first older)
        (λ note a e. let known = (among-all (Sound first older) (notes_of first older) note sound a).known in omega (arith, known, e)));
    stood = (0, refl);
    begins = λ e. refl;
    reaches = (stood-below first older (released_to first (releases_of first older)) (released-stood first older), inl refl);
    follows = λ l. let no : ⊥ = omega (arith, l) in absurd no;
  },
  tt,
)
fresh first older (Renews moment name seconds) sound some = tt
fresh first older (Ends moment name) sound some = tt
fresh first older Stops sound some = tt
fresh first older (Ticks moment) sound some = by (release_at moment (scans_of first older) (releases_of first older)) refl
  where
    released : ℕ
    released = released_to first (releases_of first older)

    names : List ℕ
    names = alive_names moment older

    one : (release : Release) → release_at moment (scans_of first older) (releases_of first older) ≡ Some release → (name : ℕ) → Among name names
        → (1 ≤ name) × (name ≤ granted older) × (is_some (runs_until name older) ≡ true)
        × (release.from ≡ released) × Stood first older release.to × (released ≤ release.to)
    one release e name a =
        let f = filter-among (λ (n : ℕ). is_alive n moment older) (range_with_len 1 (granted older)) name a in
        let row = row-among 1 (granted older) name f.0 in
        let low = row.0 in
        let high = row.1 in
        let is = release-is first moment (scans_of first older) (releases_of first older) release (first-is first older) e in
        let stood = released-stood first older in
        let end = stood.1 in
        let least = within-greatest first (released + release_size) older stood.0 (omega (arith, end)) in
        let to = is.1 in (
          low,
          omega (arith, high),
          past-runs moment (runs_until name older) f.1,
          is.0,
          subst (Stood first older) (sym to) (within-stood first (released + release_size) older),
          omega (arith, least, to, end),
        )

    by : (o : Option Release) → release_at moment (scans_of first older) (releases_of first older) ≡ o
        → AllByRecursion (Fresh first older (granted older) (released_to first (and_release o (releases_of first older))))
        (released_notes (scans_of first older) o (notes_of first older) names)
    by None e = tt
    by (Some release) e =
        each-map (Fresh first older (granted older) release.to) (released_note (scans_of first older) release (notes_of first older)) names
        (all-among (λ (name : ℕ). Fresh first older (granted older) release.to (released_note (scans_of first older) release (notes_of first older) name)) names (λ name a.
        let is = one release e name a in
        let many = some name is.0 is.1 in
        record {
          named = is.0;
          known = is.1;
          place = refl;
          stood = is.4;
          begins = λ none. let no : ⊥ = omega (arith, none, many) in absurd no;
          reaches = (omega arith, inr refl);
          follows = λ l. (is.2, ap (λ (from : ℕ). events_between (scans_of first older) from release.to) is.3, is.5);
        }))

-- ---- all notes

pub granted-more : (command : Command) (older : List Command) → granted older ≤ granted (command ∷ older)
granted-more (Scans library) older = omega arith
granted-more (Grants moment callback seconds) older = omega arith
granted-more (Renews moment name seconds) older = omega arith
granted-more (Ends moment name) older = omega arith
granted-more Stops older = omega arith
granted-more (Ticks moment) older = omega arith

-- each name that was granted has a note
pub some-older : (first : ℕ) (commands : List Command) (name : ℕ) → 1 ≤ name → name ≤ granted commands → 1 ≤ next_place_of name (notes_of first commands)
some-older first [] name low high = let no : ⊥ = omega (arith, low, high) in absurd no
some-older first (Scans library ∷ older) name low high = let more = seq-append name (notes_of first older) [] in let r = some-older first older name low high in omega (arith, more, r)
some-older first (Renews moment other seconds ∷ older) name low high = let more = seq-append name (notes_of first older) [] in let r = some-older first older name low high in omega (arith, more, r)
some-older first (Ends moment other ∷ older) name low high = let more = seq-append name (notes_of first older) [] in let r = some-older first older name low high in omega (arith, more, r)
some-older first (Stops ∷ older) name low high = let more = seq-append name (notes_of first older) [] in let r = some-older first older name low high in omega (arith, more, r)
some-older first (Ticks moment ∷ older) name low high =
    let more = seq-append name (notes_of first older) (sent_by first older (notes_of first older) (Ticks moment)) in let r = some-older first older name low high in omega (arith, more, r)
some-older first (Grants moment callback seconds ∷ older) name low high = by (nat_eq name (granted older + 1)) refl (λ l. some-older first older name low l)
  where
    note : Note
    note = first_note (granted older + 1) (end_of (scans_of first older))

    apart : (name ≡ granted older + 1 → ⊥) → name ≤ granted older
    apart d = on (cases_lt (granted older) name)
      where
        on : (granted older < name) ⊎ (name ≤ granted older) → name ≤ granted older
        on (inl l) = let same : name ≡ granted older + 1 = omega (arith, l, high) in absurd (d same)
        on (inr l) = l

    by : (b : Bool) → nat_eq name (granted older + 1) ≡ b → (name ≤ granted older → 1 ≤ next_place_of name (notes_of first older))
        → 1 ≤ next_place_of name (notes_of first older ++ note ∷ [])
    by true e r =
        let same : granted older + 1 ≡ name = sym (eqb-true name (granted older + 1) e) in
        let one = subst (λ (n : ℕ). 1 ≤ next_place_of n (note ∷ [])) same (seq-among (note ∷ []) note (inl refl)) in
        let more = seq-append name (notes_of first older) (note ∷ []) in
        omega (arith, more, one)
    by false e r =
        let more = seq-append name (notes_of first older) (note ∷ []) in
        let rest = r (apart (eqb-false name (granted older + 1) e)) in
        omega (arith, more, rest)

old-sound : (first : ℕ) (command : Command) (older : List Command) (note : Note) → Sound first older note → Sound first (command ∷ older) note
unfolding Silent
old-sound first command older note sound =
    let more = seq-append note.name (notes_of first older) (sent_by first older (notes_of first older) command) in
    let counted = sound.counted in
    let known = sound.known in
    let names = granted-more command older in
    record {
      named = sound.named;
      known = omega (arith, known, names);
      counted = omega (arith, more, counted);
      stood = stood-later first command older note.number sound.stood;
      begins = sound.begins;
      latest = λ last runs.
          let none : next_place_of note.name (sent_by first older (notes_of first older) command) ≡ 0 = omega (arith, more, counted, last) in
          let still = silent first older command note.name sound.named sound.known none runs in
          subst (λ (r : ℕ). Reaches r note) (sym still.1) (sound.latest (omega (arith, more, counted, last)) still.0);
    }

new-sound : (first : ℕ) (command : Command) (older : List Command) (note : Note) → Among note (sent_by first older (notes_of first older) command)
    → Fresh first older (granted (command ∷ older)) (released_to first (releases_of first (command ∷ older))) note → Sound first (command ∷ older) note
new-sound first command older note a fresh =
    let more = seq-append note.name (notes_of first older) (sent_by first older (notes_of first older) command) in
    let one = seq-among (sent_by first older (notes_of first older) command) note a in
    let seq = fresh.place in
    record {
      named = fresh.named;
      known = fresh.known;
      counted = omega (arith, more, one, seq);
      stood = stood-later first command older note.number fresh.stood;
      begins = fresh.begins;
      latest = λ last runs. fresh.reaches;
    }

pub all-sound : (first : ℕ) (commands : List Command) → AllByRecursion (Sound first commands) (notes_of first commands)
all-sound first [] = tt
all-sound first (command ∷ older) =
    each-append (Sound first (command ∷ older)) (notes_of first older) (sent_by first older (notes_of first older) command)
    (each-weaker (Sound first older) (Sound first (command ∷ older)) (old-sound first command older) (notes_of first older) (all-sound first older))
    (all-among (Sound first (command ∷ older)) (sent_by first older (notes_of first older) command) (λ note a.
    new-sound first command older note a
    (among-all (Fresh first older (granted (command ∷ older)) (released_to first (releases_of first (command ∷ older)))) (sent_by first older (notes_of first older) command) note
    (fresh first older command (all-sound first older) (some-older first older)) a)))

pub all-fresh : (first : ℕ) (older : List Command) (command : Command) (note : Note) → Among note (sent_by first older (notes_of first older) command)
    → Fresh first older (granted (command ∷ older)) (released_to first (releases_of first (command ∷ older))) note
all-fresh first older command note a =
    among-all (Fresh first older (granted (command ∷ older)) (released_to first (releases_of first (command ∷ older)))) (sent_by first older (notes_of first older) command) note
    (fresh first older command (all-sound first older) (some-older first older)) a

-- ---- one note after another

-- a note's events are those of a span that begins at or below the number of the note before it, and at that number where
-- this one is not the first
pub record Follows (first : ℕ) (commands : List Command) (before note : Note) : Type 0 where
  pub from : ℕ
  pub events : note.events ≡ events_between (scans_of first commands) from note.number
  pub below : from ≤ before.number
  pub continues : (before.place ≡ 0) ⊎ (from ≡ before.number)
  pub ends : from ≤ note.number

follows-later : (first : ℕ) (command : Command) (older : List Command) (before note : Note) → Stood first older note.number → Follows first older before note → Follows first (command ∷ older) before note
follows-later first command older before note stood f = record {
  from = f.from;
  events = f.events ∙ later;
  below = f.below;
  continues = f.continues;
  ends = f.ends;
}
  where
    later : events_between (scans_of first older) f.from note.number ≡ events_between (scans_of first (command ∷ older)) f.from note.number
    later =
        let grows = dropped-grows first 1 (command ∷ older) in
        let low = stood-below first older note.number stood in
        let few = ap end_of (scans-first first older) in
        sym ((λ i. events_between ((scans-first first (command ∷ older) ∙ ap (λ (l : List FolderMap). record { first = first; maps = l }) grows.1) i) f.from note.number)
        ∙ spans-stay first grows.0 (scans_of first older).maps f.from note.number (omega (arith, low, few))
        ∙ (λ i. events_between (sym (scans-first first older) i) f.from note.number))

pub follows-all : (first : ℕ) (commands : List Command) (before note : Note) → Among before (notes_of first commands) → Among note (notes_of first commands)
    → before.name ≡ note.name → before.place + 1 ≡ note.place → Follows first commands before note
follows-all first [] before note a b named next = absurd a
follows-all first (command ∷ older) before note a b named next =
    by (among-append (notes_of first older) sent before a) (among-append (notes_of first older) sent note b) (λ c d. follows-all first older before note c d named next)
  where
    sent : List Note
    sent = sent_by first older (notes_of first older) command

    sound : (n : Note) → Among n (notes_of first older) → Sound first older n
    sound n c = among-all (Sound first older) (notes_of first older) n (all-sound first older) c

    new : (n : Note) → Among n sent → Fresh first older (granted (command ∷ older)) (released_to first (releases_of first (command ∷ older))) n
    new n c = all-fresh first older command n c

    same : next_place_of before.name (notes_of first older) ≡ next_place_of note.name (notes_of first older)
    same = ap (λ (n : ℕ). next_place_of n (notes_of first older)) named

    by : Among before (notes_of first older) ⊎ Among before sent → Among note (notes_of first older) ⊎ Among note sent
        → (Among before (notes_of first older) → Among note (notes_of first older) → Follows first older before note) → Follows first (command ∷ older) before note
    by (inl c) (inl d) r = follows-later first command older before note (sound note d).stood (r c d)
    by (inr c) (inl d) r =
        let seq = (new before c).place in
        let counted = (sound note d).counted in
        let equal = same in
        let no : ⊥ = omega (arith, seq, counted, equal, next) in
        absurd no
    by (inr c) (inr d) r =
        let seq = (new before c).place in
        let other = (new note d).place in
        let equal = same in
        let no : ⊥ = omega (arith, seq, other, equal, next) in
        absurd no
    by (inl c) (inr d) r =
        let seq = (new note d).place in
        let equal = same in
        let f = (new note d).follows (omega (arith, next)) in
        let latest = (sound before c).latest (omega (arith, seq, equal, next)) (ap (λ (n : ℕ). is_some (runs_until n older)) named ∙ f.0) in
        follows-later first command older before note (new note d).stood (record {
          from = released_to first (releases_of first older);
          events = f.1;
          below = latest.0;
          continues = latest.1;
          ends = f.2;
        })
