-- What the turns of a generated script do, each after turns that led to something known.
use Rattle.std.proofs.Common.{◌≡◌, ◌+◌, ◌-◌, ◌<◌, ◌≤◌, ◌&&◌, ℕ, Bool, true, false, cond, nat_lt, nat_le, List, [], ◌∷◌, ◌++◌, map, length, Option, Some, None, refl, sym, ap, subst, ◌∙◌, arith}
use Rattle.std.proofs.lemmas.Bool.{and_from, lt-ltb, le-leb}
use Rattle.cds_object.specs.declared.content.Content.{Content}
use Rattle.cds_object.specs.declared.info.Comment.{Comment}
use Rattle.cds_object.specs.declared.record.Record.{Record}
use Rattle.cds_catalog.specs.FoundLaws.{owed_at}
use Rattle.cds_catalog.specs.Library.{map_of, content_at}
use Rattle.cds_catalog.specs.Scans.{ScanAnswer, bad_record, scan_answer}
use Rattle.cds_commands.specs.Commands.{Command, Scans, Ends, scans_of}
use Rattle.cds_commands.specs.Notes.{Note, has_room, notes_of}
use Rattle.cds_commands.specs.Places.{last_seq, reach}
use Rattle.cds_commands.specs.Subscriptions.{granted}
use Rattle.cds_follow.specs.Inbox.{Requests, accepted}
use Rattle.cds_script.specs.FoundFile.{FoundFile, with_comment}
use Rattle.cds_script.specs.Report.{Played, number_of, first_of, clock_of, found_since, records_since, record_of, last_commented, played, scanned, given_up, lives, sent_note, is_recent_one, may_stand}
use Rattle.cds_script.specs.Script.{grant_at}
use Rattle.cds_script.specs.Played.{AllStand}
use Rattle.cds_script.proofs.Given.{turns-kept}
use Rattle.cds_script.proofs.Recent.{all-recent}
use Rattle.cds_script.specs.declared.found.Found.{Found}
use Rattle.cds_script.specs.declared.found.Found.TheVariants.{Folder as FolderFound, Track as TrackFound}
use Rattle.cds_script.specs.declared.reply.HeldReply.TheVariants.{Named, Refusal}
use Rattle.cds_script.specs.declared.turn.ScriptTurn.{ScriptTurn}
use Rattle.cds_script.specs.declared.turn.ScriptTurn.TheVariants.{Folder, Track, Scan, Load, Read, Ask, At, Subscribe, Accept, Unsubscribe, Deliver}
use Rattle.cds_generate.proofs.Serving.{IsKept, IsAlive, Waits, scan-accepted, kept-scan, room, kept-grant, kept-end, kept-tick}

-- what turns led to: what was found since the last scan, and what holds of the commands
pub record IsAt (path : List (List ℕ)) (found : List Found) (sent moment grants notes changes : ℕ) (at : Option Content) (older : List ScriptTurn) : Type 0 where
  pub first : first_of older ≡ 0
  pub clock : clock_of older ≡ moment
  pub since : found_since older ≡ found
  pub kept : IsKept path (played older).commands sent moment grants notes changes at
  pub wrap : (played older).wrap ≡ last_seq
  pub all : AllStand older

-- and the newest subscription lives
abbrev pub Lives : List (List ℕ) → List Found → ℕ → ℕ → ℕ → ℕ → ℕ → Option Content → List ScriptTurn → Type 0
Lives path found sent moment grants notes changes at older = IsAt path found sent moment grants notes changes at older × IsAlive (played older).commands

first-stays : (turn : ScriptTurn) (older : List ScriptTurn) → number_of turn ≡ 0 → first_of older ≡ 0 → first_of (turn ∷ older) ≡ 0
first-stays turn [] none first = none
first-stays turn (next ∷ older) none first = first

-- a comment goes to the file that was found last
pub commented-last : (comment : Comment) (file : FoundFile) (found : List Found) → last_commented comment (found ++ TrackFound file ∷ []) ≡ found ++ TrackFound (with_comment comment file) ∷ []
commented-last comment file [] = refl
commented-last comment file (one ∷ []) = refl
commented-last comment file (one ∷ two ∷ found) = ap (λ (fs : List Found). one ∷ fs) (commented-last comment file (two ∷ found))

module _ (path : List (List ℕ)) (sent moment grants notes changes : ℕ) (at : Option Content) (found : List Found) (older : List ScriptTurn) where
  abbrev Now : Type 0
  Now = IsAt path found sent moment grants notes changes at older

  -- ---- turns that change nothing here

  pub load-at : Now → IsAt path found sent moment grants notes changes at (Load ∷ older)
  load-at now = record { first = first-stays Load older refl now.first; clock = now.clock; since = now.since; kept = now.kept; wrap = now.wrap; all = (refl, now.all) }

  pub read-at : Now → IsAt path found sent moment grants notes changes at (Read ∷ older)
  read-at now = record { first = first-stays Read older refl now.first; clock = now.clock; since = now.since; kept = now.kept; wrap = now.wrap; all = (refl, now.all) }

  pub ask-at : Now → IsAt path found sent moment grants notes changes at (Ask ∷ older)
  ask-at now = record { first = first-stays Ask older refl now.first; clock = now.clock; since = now.since; kept = now.kept; wrap = now.wrap; all = (refl, now.all) }

  pub accept-at : Now → IsAt path found sent moment grants notes changes at (Accept ∷ older)
  accept-at now = record { first = first-stays Accept older refl now.first; clock = now.clock; since = now.since; kept = now.kept; wrap = now.wrap; all = (refl, now.all) }

  pub deliver-at : (note : ℕ) → may_stand older (Deliver note) ≡ true → Now → IsAt path found sent moment grants notes changes at (Deliver note ∷ older)
  deliver-at note may now = record {
    first = first-stays (Deliver note) older refl now.first;
    clock = now.clock;
    since = now.since;
    kept = now.kept;
    wrap = now.wrap;
    all = (may, now.all);
  }

  -- fewer notes were sent than the wrap without its reach
  note-recent : (note : ℕ) → notes < 1073741824 → Now → is_recent_one (played older).wrap (sent_note note (notes_of (first_of older) (played older).commands)) (played older).replica ≡ true
  note-recent note few now = by (sent_note note (notes_of (first_of older) (played older).commands)) refl
    where
      least : first_of older ≤ 4294967295
      least = let first = now.first in omega (arith, first)

      apart : (wrap : ℕ) → wrap ≡ last_seq → length (notes_of (first_of older) (played older).commands) < wrap - reach wrap
      apart wrap e =
          let most : length (notes_of (first_of older) (played older).commands) ≤ notes =
          subst (λ first. length (notes_of first (played older).commands) ≤ notes) (sym now.first) now.kept.few in
          subst (λ w. length (notes_of (first_of older) (played older).commands) < w - reach w) (sym e) (omega (arith, most, few))

      by : (o : Option Note) → sent_note note (notes_of (first_of older) (played older).commands) ≡ o → is_recent_one (played older).wrap o (played older).replica ≡ true
      by None e = refl
      by (Some one) e = all-recent (first_of older) (played older) (turns-kept older least now.all) (apart (played older).wrap now.wrap) note one e

  pub deliver-may : (note : ℕ) → 1 ≤ note → note ≤ sent → notes < 1073741824 → Now → may_stand older (Deliver note) ≡ true
  deliver-may note some low few now =
      let least = now.kept.sent in
      and_from (nat_lt 0 note && nat_le note (length (notes_of (first_of older) (played older).commands)))
      (is_recent_one (played older).wrap (sent_note note (notes_of (first_of older) (played older).commands)) (played older).replica)
      (and_from (nat_lt 0 note) (nat_le note (length (notes_of (first_of older) (played older).commands))) (lt-ltb 0 note (omega (arith, some)))
      (subst (λ first. nat_le note (length (notes_of first (played older).commands)) ≡ true) (sym now.first)
      (le-leb note (length (notes_of 0 (played older).commands)) (omega (arith, low, least)))))
      (note-recent note few now)

  -- ---- what is found

  pub folder-at : (place : List (List ℕ)) → Now → IsAt path (found ++ FolderFound place ∷ []) sent moment grants notes changes at (Folder place ∷ older)
  folder-at place now = record {
    first = first-stays (Folder place) older refl now.first;
    clock = now.clock;
    since = ap (λ (fs : List Found). fs ++ FolderFound place ∷ []) now.since;
    kept = now.kept;
    wrap = now.wrap;
    all = (refl, now.all);
  }

  pub track-at : (file : FoundFile) → Now → IsAt path (found ++ TrackFound file ∷ []) sent moment grants notes changes at (Track file.path file.info file.size ∷ older)
  track-at file now = record {
    first = first-stays (Track file.path file.info file.size) older refl now.first;
    clock = now.clock;
    since = ap (λ (fs : List Found). fs ++ TrackFound file ∷ []) now.since;
    kept = now.kept;
    wrap = now.wrap;
    all = (refl, now.all);
  }

  -- ---- subscriptions

  -- both ends of a subscribe
  abbrev granted_now : Played
  granted_now = record (played older) {
    commands = grant_at (clock_of older) ∷ (played older).commands;
    replica = Requests ∷ (played older).replica;
    reply = Named (granted (played older).commands + 1);
  }

  abbrev refused_now : Played
  refused_now = record (played older) { replica = Requests ∷ (played older).replica; reply = Refusal }

  pub subscribe-at : grants < 64 → Now → Lives path found (sent + 1) moment (grants + 1) (notes + 1) changes at (Subscribe ∷ older)
  subscribe-at low now =
      let commands = (played older).commands in
      let roomy : has_room (clock_of older) commands ≡ true = room path commands sent moment grants notes changes at now.kept (clock_of older) low in
      let same : (played (Subscribe ∷ older)).commands ≡ grant_at (clock_of older) ∷ commands = ap (λ b. (cond b granted_now refused_now).commands) roomy in
      let made = kept-grant path commands sent moment grants notes changes at now.kept (clock_of older) in (
        record {
          first = first-stays Subscribe older refl now.first;
          clock = now.clock;
          since = now.since;
          kept = subst (λ (cs : List Command). IsKept path cs (sent + 1) moment (grants + 1) (notes + 1) changes at) (sym same) made.0;
          wrap = ap (λ b. (cond b granted_now refused_now).wrap) roomy ∙ now.wrap;
          all = (refl, now.all);
        },
        subst IsAlive (sym same) made.1,
      )

  kept-given_up : (name : Option ℕ) (now : ℕ) (commands : List Command) → IsKept path commands sent moment grants notes changes at
      → IsKept path (given_up name now commands) sent moment grants notes changes at
  kept-given_up None now commands kept = kept
  kept-given_up (Some name) now commands kept = by (lives name now commands)
    where
      by : (b : Bool) → IsKept path (cond b (Ends now name ∷ commands) commands) sent moment grants notes changes at
      by true = kept-end path commands sent moment grants notes changes at kept now name
      by false = kept

  pub unsubscribe-at : Now → IsAt path found sent moment grants notes changes at (Unsubscribe ∷ older)
  unsubscribe-at now = record {
    first = first-stays Unsubscribe older refl now.first;
    clock = now.clock;
    since = now.since;
    kept = kept-given_up (accepted (played older).replica) (clock_of older) (played older).commands now.kept;
    wrap = now.wrap;
    all = (refl, now.all);
  }

  -- ---- a scan, and the tick after it

  pub scan-at : (records : List Record) (content : Content) → map record_of found ≡ records → bad_record records ≡ None → length records ≤ 10751 → changes ≤ 1000000000
      → content_at (map_of records) path ≡ Some content → (owed_at path at (Some content) ≡ [] → ⊥) → Lives path found sent moment grants notes changes at older
      → Lives path [] sent moment grants notes (changes + 21502) (Some content) (Scan ∷ older) × Waits (played (Scan ∷ older)).commands
  scan-at records content are good few low stands owed now =
      let commands = (played older).commands in
      let kept = now.0.kept in
      let since : records_since older ≡ records = ap (map record_of) now.0.since ∙ are in
      let same : (played (Scan ∷ older)).commands ≡ Scans (map_of records) ∷ commands =
      (λ i. scanned (scan_answer (scans_of (now.0.first i) commands) (since i)) (since i) commands)
      ∙ ap (λ (answer : ScanAnswer). scanned answer records commands) (scan-accepted path commands sent moment grants notes changes at kept records good few low) in
      let made = kept-scan path commands sent moment grants notes changes at kept records content good few stands owed in
      let alive : IsAlive (Scans (map_of records) ∷ commands) = record { until = now.1.until; runs = now.1.runs; long = now.1.long } in (
        (
          record {
            first = first-stays Scan older refl now.0.first;
            clock = now.0.clock;
            since = refl;
            kept = subst (λ (cs : List Command). IsKept path cs sent moment grants notes (changes + 21502) (Some content)) (sym same) made.0;
            wrap = now.0.wrap;
            all = (refl, now.0.all);
          },
          subst IsAlive (sym same) alive,
        ),
        subst Waits (sym same) made.1,
      )

  pub tick-may : (later : ℕ) → moment ≤ later → Now → may_stand older (At later) ≡ true
  tick-may later late now = ap (λ clock. nat_le clock later) now.clock ∙ le-leb moment later late

  pub tick-at : (later : ℕ) → moment + 200 ≤ later → later < 1800000 → Lives path found sent moment grants notes changes at older → Waits (played older).commands
      → Lives path found (sent + 1) later grants (notes + grants) changes at (At later ∷ older)
  tick-at later late early now waits =
      let made = kept-tick path (played older).commands sent moment grants notes changes at now.0.kept later now.1 waits late early in (
        record {
          first = first-stays (At later) older refl now.0.first;
          clock = refl;
          since = now.0.since;
          kept = made.0;
          wrap = now.0.wrap;
          all = (tick-may later (omega (arith, late)) now.0, now.0.all);
        },
        made.1,
      )
