-- What the commands of a generated script lead to: scans are accepted, each tick sends a note, and few subscriptions are granted.
use Rattle.std.proofs.Common.{◌≡◌, ◌+◌, ◌*◌, ◌<◌, ◌≤◌, ℕ, suc, Bool, true, false, cond, nat_lt, List, [], ◌∷◌, reverse, filter, length, Option, Some, None, is_some, refl, sym, ap, subst, ◌∙◌, arith, length-append, eq-eqb}
use Rattle.std.specs.List.{filter_map, cons_option, range_with_len}
use Rattle.std.proofs.lemmas.Bool.{and_from, lt-ltb, le-leb, ltb-true}
use Rattle.std.proofs.lemmas.List.{length-map, length-reverse}
use Rattle.std.proofs.lemmas.List.FromFn.{length-range_with_len}
use Rattle.cds_object.specs.declared.content.Content.{Content}
use Rattle.cds_object.specs.declared.record.Record.{Record}
use Rattle.cds_catalog.specs.Library.{FolderMap, map_of, content_at, arrival, departure, found}
use Rattle.cds_catalog.specs.History.{History, latest, end_of, changes_of}
use Rattle.cds_catalog.specs.Laws.{IsLibrary, AreLibraries}
use Rattle.cds_catalog.specs.FoundLaws.{owed_at, changes_at}
use Rattle.cds_catalog.specs.Scans.{bad_record, scan_answer, answer_by, Accepted, TooMany, NoNumbers, needed_by}
use Rattle.cds_catalog.specs.declared.change.Change.{Change}
use Rattle.cds_catalog.proofs.Accepted.{accepted_map}
use Rattle.cds_catalog.proofs.FoundAt.{scans_find_what_changed-proof}
use Rattle.cds_catalog.proofs.Maps.{latest_is_library}
use Rattle.cds_commands.specs.Commands.{Command, Scans, Ends, Ticks, scans_of}
use Rattle.cds_commands.specs.Releases.{Release, release_size, released_to, scan_end_within, may_release, release_at, and_release, releases_of}
use Rattle.cds_commands.specs.Subscriptions.{granted, end_after, runs_until, unless_past, is_alive}
use Rattle.cds_commands.specs.Notes.{alive_names, has_room, released_note, released_notes, notes_of, sent_by}
use Rattle.cds_commands.proofs.Among.{Among, among-filter, among-row}
use Rattle.cds_commands.proofs.Lives.{runs-granted}
use Rattle.cds_commands.proofs.Sent.{first-is, released-stood, stood-below}
use Rattle.cds_script.specs.Script.{grant_at, granted_seconds}

-- ---- lists

filter-length : {X : Type 0} (p : X → Bool) (xs : List X) → length (filter p xs) ≤ length xs
filter-length p [] = omega arith
filter-length p (x ∷ xs) = by (p x) (filter-length p xs)
  where
    by : (b : Bool) → length (filter p xs) ≤ length xs → length (cond b (x ∷ filter p xs) (filter p xs)) ≤ suc (length xs)
    by true rest = omega (arith, rest)
    by false rest = omega (arith, rest)

map-length : {X Y : Type 0} (h : X → Option Y) (xs : List X) → length (filter_map h xs) ≤ length xs
map-length h [] = omega arith
map-length {X} {Y} h (x ∷ xs) = by (h x) (map-length h xs)
  where
    by : (o : Option Y) → length (filter_map h xs) ≤ length xs → length (cons_option o (filter_map h xs)) ≤ suc (length xs)
    by None rest = omega (arith, rest)
    by (Some y) rest = omega (arith, rest)

among-some : {X : Type 0} (x : X) (xs : List X) → Among x xs → 1 ≤ length xs
among-some x [] a = absurd a
among-some x (y ∷ ys) a = omega arith

-- as many subscriptions live at most as were granted
pub names-few : (now : ℕ) (commands : List Command) → length (alive_names now commands) ≤ granted commands
names-few now commands =
    let less = filter-length (λ name. is_alive name now commands) (range_with_len 1 (granted commands)) in
    let all = length-range_with_len 1 (granted commands) in
    omega (arith, less, all)

-- ---- a scan that changes something

found-few : (old new : FolderMap) → length (found old new) ≤ length old + length new
found-few old new =
    let sum = length-append (reverse (filter_map (arrival old) new)) (filter_map (departure new) old) in
    let turned = length-reverse (filter_map (arrival old) new) in
    let one = map-length (arrival old) new in
    let two = map-length (departure new) old in
    omega (arith, sum, turned, one, two)

found-some : (old new : FolderMap) (path : List (List ℕ)) → IsLibrary old → IsLibrary new → (owed_at path (content_at old path) (content_at new path) ≡ [] → ⊥) → 1 ≤ length (found old new)
found-some old new path before now owed = by (found old new) (scans_find_what_changed-proof old new before now path)
  where
    by : (changes : List Change) → changes_at path changes ≡ owed_at path (content_at old path) (content_at new path) → 1 ≤ length changes
    by [] e = absurd (owed (sym e))
    by (change ∷ changes) e = omega arith

accepts : (history : History) (records : List Record) → bad_record records ≡ None → length records ≤ 65535 → end_of history + needed_by history records ≤ 4294967295
    → scan_answer history records ≡ Accepted
accepts history records good few room =
    ap (answer_by history records) good
    ∙ by (nat_lt 65535 (length records)) (nat_lt 4294967295 (end_of history + needed_by history records)) refl refl
  where
    by : (a b : Bool) → nat_lt 65535 (length records) ≡ a → nat_lt 4294967295 (end_of history + needed_by history records) ≡ b
        → cond a (TooMany (length records)) (cond b (NoNumbers (needed_by history records)) Accepted) ≡ Accepted
    by true b e f = let more = ltb-true 65535 (length records) e in absurd (omega (arith, more, few))
    by false true e f = let more = ltb-true 4294967295 (end_of history + needed_by history records) f in absurd (omega (arith, more, room))
    by false false e f = refl

-- ---- what holds after commands

-- at least so many notes were sent, and at most so many; all releases are at least 200 ms before any moment that is so long after
-- the last one; so many subscriptions were granted at most; the scans have so many changes at most, and this stands at a place
pub record IsKept (path : List (List ℕ)) (commands : List Command) (least moment grants notes changes : ℕ) (at : Option Content) : Type 0 where
  pub sent : least ≤ length (notes_of 0 commands)
  pub few : length (notes_of 0 commands) ≤ notes
  pub granted : granted commands ≤ grants
  pub libraries : AreLibraries (scans_of 0 commands).maps
  pub size : length (latest (scans_of 0 commands).maps) ≤ 10751
  pub number : end_of (scans_of 0 commands) ≤ changes
  pub shown : content_at (latest (scans_of 0 commands).maps) path ≡ at
  pub paused : (now : ℕ) → moment + 200 ≤ now → may_release now (releases_of 0 commands) ≡ true

-- the newest subscription lives for half an hour after the beginning
pub record IsAlive (commands : List Command) : Type 0 where
  pub until : ℕ
  pub runs : runs_until (granted commands) commands ≡ Some until
  pub long : 1800000 ≤ until

some-granted : (commands : List Command) → IsAlive commands → 1 ≤ granted commands
some-granted commands alive = (runs-granted (granted commands) alive.until commands alive.runs).0

-- some change waits for a release
abbrev pub Waits : List Command → Type 0
Waits commands = released_to 0 (releases_of 0 commands) < end_of (scans_of 0 commands)

module _ (path : List (List ℕ)) where
  pub kept-first : IsKept path [] 0 0 0 0 0 None
  kept-first = record {
    sent = omega arith;
    few = omega arith;
    granted = omega arith;
    libraries = tt;
    size = omega arith;
    number = omega arith;
    shown = refl;
    paused = λ now late. refl;
  }

  pub kept-weaker : (commands : List Command) (sent less moment grants more notes others changes many : ℕ) (at : Option Content) → less ≤ sent → grants ≤ more → notes ≤ others → changes ≤ many
      → IsKept path commands sent moment grants notes changes at → IsKept path commands less moment more others many at
  kept-weaker commands sent less moment grants more notes others changes many at a b c d kept = record {
    sent = omega (arith, a, kept.sent);
    few = omega (arith, c, kept.few);
    granted = omega (arith, b, kept.granted);
    libraries = kept.libraries;
    size = kept.size;
    number = omega (arith, d, kept.number);
    shown = kept.shown;
    paused = kept.paused;
  }

  -- ---- a scan

  module _ (commands : List Command) (sent moment grants notes changes : ℕ) (at : Option Content) (kept : IsKept path commands sent moment grants notes changes at) where
    abbrev history : History
    history = scans_of 0 commands

    pub scan-accepted : (records : List Record) → bad_record records ≡ None → length records ≤ 10751 → changes ≤ 1000000000 → scan_answer history records ≡ Accepted
    scan-accepted records good few room =
        let size = (accepted_map records good).1 in
        let most = found-few (latest history.maps) (map_of records) in
        accepts history records good (omega (arith, few)) (omega (arith, size, most, few, room, kept.size, kept.number))

    pub kept-scan : (records : List Record) (now : Content) → bad_record records ≡ None → length records ≤ 10751 → content_at (map_of records) path ≡ Some now
        → (owed_at path at (Some now) ≡ [] → ⊥)
        → IsKept path (Scans (map_of records) ∷ commands) sent moment grants notes (changes + 21502) (Some now) × Waits (Scans (map_of records) ∷ commands)
    kept-scan records now good few stands owed =
        let is = accepted_map records good in
        let most = found-few (latest history.maps) (map_of records) in
        let sum = length-append (found (latest history.maps) (map_of records)) (changes_of history.maps) in
        let one = found-some (latest history.maps) (map_of records) path (latest_is_library history.maps kept.libraries) is.0
        (λ e. owed ((λ i. owed_at path (sym kept.shown i) (sym stands i)) ∙ e)) in
        let nothing = length-append (notes_of 0 commands) [] in
        let released = stood-below 0 commands (released_to 0 (releases_of 0 commands)) (released-stood 0 commands) in
        let start = first-is 0 commands in (
          record {
            sent = omega (arith, nothing, kept.sent);
            few = omega (arith, nothing, kept.few);
            granted = kept.granted;
            libraries = (is.0, kept.libraries);
            size = omega (arith, is.1, few);
            number = omega (arith, sum, most, kept.number, kept.size, is.1, few);
            shown = stands;
            paused = kept.paused;
          },
          omega (arith, sum, one, released),
        )

    -- ---- subscriptions

    alive-few : (now : ℕ) → length (alive_names now commands) ≤ grants
    alive-few now = let few = names-few now commands in omega (arith, few, kept.granted)

    pub room : (now : ℕ) → grants < 64 → has_room now commands ≡ true
    room now low = let few = alive-few now in lt-ltb (length (alive_names now commands)) 64 (omega (arith, few, low))

    pub kept-grant : (now : ℕ) → IsKept path (grant_at now ∷ commands) (sent + 1) moment (grants + 1) (notes + 1) changes at × IsAlive (grant_at now ∷ commands)
    kept-grant now =
        let more = length-append (notes_of 0 commands) (sent_by 0 commands (notes_of 0 commands) (grant_at now)) in (
          record {
            sent = omega (arith, more, kept.sent);
            few = omega (arith, more, kept.few);
            granted = omega (arith, kept.granted);
            libraries = kept.libraries;
            size = kept.size;
            number = kept.number;
            shown = kept.shown;
            paused = kept.paused;
          },
          record {
            until = now + 1800 * 1000;
            runs = ap (λ b. cond b (Some (end_after now granted_seconds)) (runs_until (granted commands + 1) commands)) (eq-eqb (granted commands + 1) (granted commands + 1) refl);
            long = omega arith;
          },
        )

    pub kept-end : (now name : ℕ) → IsKept path (Ends now name ∷ commands) sent moment grants notes changes at
    kept-end now name =
        let nothing = length-append (notes_of 0 commands) [] in
        record {
          sent = omega (arith, nothing, kept.sent);
          few = omega (arith, nothing, kept.few);
          granted = kept.granted;
          libraries = kept.libraries;
          size = kept.size;
          number = kept.number;
          shown = kept.shown;
          paused = kept.paused;
        }

    -- ---- a tick

    module _ (now : ℕ) (alive : IsAlive commands) (waits : Waits commands) (late : moment + 200 ≤ now) (early : now < 1800000) where
      abbrev releases : List Release
      releases = releases_of 0 commands

      abbrev release : Release
      release = record {
        moment = now;
        from = released_to history.first releases;
        to = scan_end_within history.first (released_to history.first releases + release_size) history.maps;
      }

      releases-now : release_at now history releases ≡ Some release
      releases-now =
          let start = first-is 0 commands in
          let due : nat_lt (released_to history.first releases) (end_of history) ≡ true =
          subst (λ (first : ℕ). nat_lt (released_to first releases) (end_of history) ≡ true) (sym start) (lt-ltb (released_to 0 releases) (end_of history) waits) in
          ap (λ b. cond b (Some release) None) (and_from (nat_lt (released_to history.first releases) (end_of history)) (may_release now releases) due (kept.paused now late))

      lives : is_alive (granted commands) now commands ≡ true
      lives =
          let long = alive.long in
          ap (λ (o : Option ℕ). is_some (unless_past now o)) alive.runs ∙ ap (λ b. is_some (cond b (Some alive.until) None)) (lt-ltb now alive.until (omega (arith, long, early)))

      one-lives : 1 ≤ length (alive_names now commands)
      one-lives =
          among-some (granted commands) (alive_names now commands)
          (among-filter (λ name. is_alive name now commands) (range_with_len 1 (granted commands)) (granted commands)
          (among-row 1 (granted commands) (granted commands) (some-granted commands alive) (omega arith)) lives)

      told : length (sent_by 0 commands (notes_of 0 commands) (Ticks now)) ≡ length (alive_names now commands)
      told =
          ap (λ (o : Option Release). length (released_notes history o (notes_of 0 commands) (alive_names now commands))) releases-now
          ∙ length-map (alive_names now commands) (released_note history release (notes_of 0 commands))

      pub kept-tick : IsKept path (Ticks now ∷ commands) (sent + 1) now grants (notes + grants) changes at × IsAlive (Ticks now ∷ commands)
      kept-tick =
          let more = length-append (notes_of 0 commands) (sent_by 0 commands (notes_of 0 commands) (Ticks now)) in
          let same = told in
          let some = one-lives in
          let few = alive-few now in
          let long = alive.long in (
            record {
              sent = omega (arith, more, same, some, kept.sent);
              few = omega (arith, more, same, few, kept.few);
              granted = kept.granted;
              libraries = kept.libraries;
              size = kept.size;
              number = kept.number;
              shown = kept.shown;
              paused = λ later past. ap (λ (o : Option Release). may_release later (and_release o releases)) releases-now ∙ le-leb (now + 200) later past;
            },
            record {
              until = alive.until;
              runs = ap (unless_past now) alive.runs ∙ ap (λ b. cond b (Some alive.until) None) (lt-ltb now alive.until (omega (arith, long, early)));
              long = alive.long;
            },
          )
