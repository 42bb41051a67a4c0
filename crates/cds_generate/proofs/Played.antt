-- A generated script is played to its end.
use Rattle.std.proofs.Common.{◌≡◌, ◌+◌, ◌*◌, ◌%◌, ◌^◌, ◌<◌, ◌≤◌, ℕ, zero, suc, Bool, true, false, cond, nat_eq, List, [], ◌∷◌, ◌++◌, map, length, drop, slice_get, Option, Some, None, codes, refl, sym, ap, subst, ◌∙◌, arith, append_assoc, add-one}
use Rattle.std.specs.List.{AllByRecursion}
use Rattle.std.specs.Fmt.{decimal}
use Rattle.std.proofs.lemmas.List.{append-nil}
use Rattle.std.proofs.lemmas.Nat.{mod_below}
use Rattle.cds_object.specs.Content.{same_content}
use Rattle.cds_object.specs.declared.content.Content.{Content}
use Rattle.cds_catalog.specs.FoundLaws.{owed_at}
use Rattle.cds_catalog.specs.Library.{content_at, map_of}
use Rattle.cds_catalog.specs.Scans.{ScanAnswer, bad_record, Accepted, BadRecord, TooMany, NoNumbers, scan_answer}
use Rattle.cds_catalog.specs.declared.change.Change.TheVariants.{Modification}
use Rattle.cds_catalog.proofs.Contents.{same_content_is}
use Rattle.cds_commands.specs.Commands.{Command, Ends, Renews, scans_of}
use Rattle.cds_commands.specs.Notes.{has_room}
use Rattle.cds_commands.specs.Subscriptions.{granted}
use Rattle.cds_follow.specs.Inbox.{Requests, accepted}
use Rattle.cds_object.specs.declared.record.Record.{Record}
use Rattle.cds_script.specs.Played.{script_turns}
use Rattle.cds_script.specs.Report as report
use Rattle.cds_script.specs.Report.{first_of, clock_of, records_since, record_of, played, scanned, given_up, with_renewal, lives}
use Rattle.cds_script.specs.Script.{grant_at, granted_seconds}
use Rattle.cds_script.specs.declared.found.Found.{Found}
use Rattle.cds_script.specs.declared.found.Found.TheVariants.{Folder as FolderFound, Track as TrackFound}
use Rattle.cds_script.specs.declared.reply.HeldReply.TheVariants.{Named, Refusal}
use Rattle.cds_script.specs.declared.turn.ScriptTurn.{ScriptTurn}
use Rattle.cds_script.specs.declared.turn.ScriptTurn.TheVariants.{Folder, Track, Tag, Scan, Load, Read, Ask, First, Wrap, At, Subscribe, Accept, Renew, Unsubscribe, Deliver, ReadFault}
use Rattle.cds_generate.specs.Generated.{folders_of, reads_text, deliver_line, folder_line, track_line, tag_line, present_lines, tracks_text, library_text, scan_text, note_text, late_text, ask_text, ending_text, scanned_text, step_reads, load_reads, all_reads, text_of_step, opening, closing_text, steps_text, texts_below, script_of, generated}
use Rattle.cds_generate.specs.History.{HistoryState, first_history, kind_of, sent_by, after_steps, step_at}
use Rattle.cds_generate.specs.Library.{AreBelow, library_at}
use Rattle.cds_generate.specs.Language.{IsTurnLine, lines_are_turns, scripts_are_played}
use Rattle.cds_generate.specs.declared.library.Track.{Track as TrackState}
use Rattle.cds_generate.proofs.Acts.{IsAt, Lives, commented-last, load-at, read-at, ask-at, accept-at, deliver-at, deliver-may, folder-at, track-at, subscribe-at, unsubscribe-at, scan-at, tick-may, tick-at}
use Rattle.cds_generate.proofs.Leading.{first_version, IsLed, led-first, led-some, led-library, led-steps, WasSent, late-sent}
use Rattle.cds_generate.proofs.Libraries.{folder_name, title_of, place_of, bare_file, file_found, track_found, folders_found, tracks_found, library_found, said_of, all-good, all-few, first-stands, versions-differ}
use Rattle.cds_generate.proofs.Playing.{Plays, play-none, play-join, play-after, play-line, play-texts, played-lines, played-turns, played-well, played-after}
use Rattle.cds_generate.proofs.Serving.{Waits, kept-first, kept-weaker, names-few}
use Rattle.cds_generate.proofs.Sizes.{short}
use Rattle.cds_generate.proofs.Spoken.{IsSpoken, deliver_first-spoken, load-spoken, read-spoken, ask-spoken, scan-spoken, subscribe-spoken, accept-spoken, unsubscribe-spoken, deliver-spoken, at-spoken, folder-spoken, tag-spoken, track-spoken}
use Rattle.cds_generate.proofs.Tracks.{IsBounded, bounded-steps, library-below, library-length}

abbrev Turns : Type 0
Turns = List ScriptTurn

-- ---- pieces after turns of which something is known

module _ (path : List (List ℕ)) (sent moment grants notes changes : ℕ) (at : Option Content) where
  abbrev pub Known : List Found → List ScriptTurn → Type 0
  Known found older = Lives path found sent moment grants notes changes at older

  pub read-plays : (found : List Found) → Plays (Known found) (codes "read\n") (Known found)
  read-plays found =
      play-line (Known found) (Known found) (codes "read\n") Read read-spoken
      (λ older now. (refl, (read-at path sent moment grants notes changes at found older now.0, record { until = now.1.until; runs = now.1.runs; long = now.1.long })))

  pub reads-play : (found : List Found) (n : ℕ) → Plays (Known found) (reads_text n) (Known found)
  reads-play found n = play-texts (λ (_ : ℕ). Known found) n (λ (_ : ℕ). codes "read\n") (λ k low. read-plays found)

  pub ask-plays : (found : List Found) (asks : Bool) → Plays (Known found) (ask_text asks) (Known found)
  ask-plays found true =
      play-line (Known found) (Known found) (codes "ask\n") Ask ask-spoken
      (λ older now. (refl, (ask-at path sent moment grants notes changes at found older now.0, record { until = now.1.until; runs = now.1.runs; long = now.1.long })))
  ask-plays found false = play-none (Known found)

  pub said-plays : (found : List Found) (text : List ℕ) (note : ℕ) → 1 ≤ note → note ≤ sent → notes < 1073741824 → IsSpoken text (Deliver note) → Plays (Known found) text (Known found)
  said-plays found text note some low few spoken =
      play-line (Known found) (Known found) text (Deliver note) spoken
      (λ older now.
      let may = deliver-may path sent moment grants notes changes at found older note some low few now.0 in (
        may,
        (deliver-at path sent moment grants notes changes at found older note may now.0, record { until = now.1.until; runs = now.1.runs; long = now.1.long }),
      ))

  pub deliver-plays : (found : List Found) (note : ℕ) → 1 ≤ note → note ≤ sent → notes < 1073741824 → note < 2 ^ 32 → Plays (Known found) (deliver_line note) (Known found)
  deliver-plays found note some low few wide = said-plays found (deliver_line note) note some low few (deliver-spoken note wide)

  pub accept-plays : (found : List Found) → Plays (Known found) (codes "accept\n") (Known found)
  accept-plays found =
      play-line (Known found) (Known found) (codes "accept\n") Accept accept-spoken
      (λ older now. (refl, (accept-at path sent moment grants notes changes at found older now.0, record { until = now.1.until; runs = now.1.runs; long = now.1.long })))

  pub late-plays : (found : List Found) (late : Option ℕ) → WasSent late sent → notes < 1073741824 → sent < 2 ^ 32 → Plays (Known found) (late_text late) (Known found)
  late-plays found None was few wide = play-none (Known found)
  late-plays found (Some note) was few wide = deliver-plays found note was.0 was.1 few (let low = was.1 in omega (arith, low, wide))

  pub ending-plays : (late : Option ℕ) (reads : ℕ) (asks : Bool) → WasSent late sent → notes < 1073741824 → sent < 2 ^ 32 → Plays (Known []) (ending_text late reads asks) (Known [])
  ending-plays late reads asks was few wide =
      play-join (Known []) (Known []) (Known []) (late_text late ++ reads_text reads) (ask_text asks)
      (play-join (Known []) (Known []) (Known []) (late_text late) (reads_text reads) (late-plays [] late was few wide) (reads-play [] reads)) (ask-plays [] asks)

  -- ---- a library

  folder-plays : (found : List Found) (n : ℕ) → n < 2 ^ 64 → Plays (Known found) (folder_line n) (Known (found ++ FolderFound (folder_name n ∷ []) ∷ []))
  folder-plays found n wide =
      play-line (Known found) (Known (found ++ FolderFound (folder_name n ∷ []) ∷ [])) (folder_line n) (Folder (folder_name n ∷ [])) (folder-spoken n wide)
      (λ older now. (
        refl,
        (folder-at path sent moment grants notes changes at found older (folder_name n ∷ []) now.0, record { until = now.1.until; runs = now.1.runs; long = now.1.long }),
      ))

  track-plays : (found : List Found) (folders n version : ℕ) → n ≤ 10000 → version < 2 ^ 32 → n % folders < 2 ^ 64
      → Plays (Known found) (track_line folders n version ++ tag_line n) (Known (found ++ file_found folders n version ∷ []))
  track-plays found folders n version few low rest =
      let file = bare_file folders n version in
      let commented = found ++ file_found folders n version ∷ [] in
      play-join (Known found) Tagging (Known commented) (track_line folders n version) (tag_line n)
      (play-line (Known found) Tagging (track_line folders n version) (Track file.path file.info file.size) (track-spoken folders n version few low rest)
      (λ older now. (
        refl,
        (
          (track-at path sent moment grants notes changes at found older file now.0, record { until = now.1.until; runs = now.1.runs; long = now.1.long }),
          refl,
        ),
      )))
      (play-line Tagging (Known commented) (tag_line n) (Tag (title_of n)) (tag-spoken n (omega (arith, few)))
      (λ older now. (
        now.1,
        (
          record {
            first = tag-first older now.0.0.first;
            clock = now.0.0.clock;
            since = ap (report.last_commented (title_of n)) now.0.0.since ∙ commented-last (title_of n) file found;
            kept = now.0.0.kept;
            wrap = now.0.0.wrap;
            all = (now.1, now.0.0.all);
          },
          record { until = now.0.1.until; runs = now.0.1.runs; long = now.0.1.long },
        ),
      )))
    where
      Tagging : List ScriptTurn → Type 0
      Tagging older = Known (found ++ TrackFound (bare_file folders n version) ∷ []) older × (report.is_tagging older ≡ true)

      tag-first : (older : List ScriptTurn) → first_of older ≡ 0 → first_of (Tag (title_of n) ∷ older) ≡ 0
      tag-first [] first = refl
      tag-first (turn ∷ older) first = first

  -- ---- a subscription that is given up, and another one

  renewed-plays : grants < 64 → Plays (Known []) (codes "unsubscribe\nsubscribe\naccept\n") (Lives path [] (sent + 1) moment (grants + 1) (notes + 1) changes at)
  renewed-plays low =
      play-join (Known []) Subscribed Subscribed (codes "unsubscribe\nsubscribe\n") (codes "accept\n")
      (play-join (Known []) Free Subscribed (codes "unsubscribe\n") (codes "subscribe\n")
      (play-line (Known []) Free (codes "unsubscribe\n") Unsubscribe unsubscribe-spoken
      (λ older now. (refl, unsubscribe-at path sent moment grants notes changes at [] older now.0)))
      (play-line Free Subscribed (codes "subscribe\n") Subscribe subscribe-spoken
      (λ older now. (refl, subscribe-at path sent moment grants notes changes at [] older low now))))
      (play-line Subscribed Subscribed (codes "accept\n") Accept accept-spoken
      (λ older now. (
        refl,
        (
          accept-at path (sent + 1) moment (grants + 1) (notes + 1) changes at [] older now.0,
          record { until = now.1.until; runs = now.1.runs; long = now.1.long },
        ),
      )))
    where
      Free : List ScriptTurn → Type 0
      Free older = IsAt path [] sent moment grants notes changes at older

      Subscribed : List ScriptTurn → Type 0
      Subscribed older = Lives path [] (sent + 1) moment (grants + 1) (notes + 1) changes at older

  -- ---- a scan, and the tick after it

  scan-plays : (found : List Found) (records : List Record) (content : Content) (step : ℕ) → map record_of found ≡ records → bad_record records ≡ None
      → length records ≤ 10751 → changes ≤ 1000000000
      → content_at (map_of records) path ≡ Some content → (owed_at path at (Some content) ≡ [] → ⊥)
      → moment + 200 ≤ 250 * step → 250 * step < 1800000
      → Plays (Known found) (scan_text step) (Lives path [] (sent + 1) (250 * step) grants (notes + grants) (changes + 21502) (Some content))
  scan-plays found records content step are good few low stands owed late early =
      play-join (Known found) Waiting (Lives path [] (sent + 1) (250 * step) grants (notes + grants) (changes + 21502) (Some content)) (codes "scan\n") (codes "at " ++ decimal (250 * step) ++ codes "\n")
      (play-line (Known found) Waiting (codes "scan\n") Scan scan-spoken
      (λ older now. (refl, scan-at path sent moment grants notes changes at found older records content are good few low stands owed now)))
      (play-line Waiting (Lives path [] (sent + 1) (250 * step) grants (notes + grants) (changes + 21502) (Some content)) (codes "at " ++ decimal (250 * step) ++ codes "\n") (At (250 * step))
      (at-spoken (250 * step) (omega (arith, early)))
      (λ older now. (
        tick-may path sent moment grants notes (changes + 21502) (Some content) [] older (250 * step) (omega (arith, late)) now.0.0,
        tick-at path sent moment grants notes (changes + 21502) (Some content) [] older (250 * step) late early now.0 now.1,
      )))
    where
      Waiting : List ScriptTurn → Type 0
      Waiting older = Lives path [] sent moment grants notes (changes + 21502) (Some content) older × Waits (played older).commands

  lives-weaker : (less more others many : ℕ) → less ≤ sent → grants ≤ more → notes ≤ others → changes ≤ many → (older : List ScriptTurn) → Known [] older → Lives path [] less moment more others many at older
  lives-weaker less more others many a b c d older now = (
    record {
      first = now.0.first;
      clock = now.0.clock;
      since = now.0.since;
      kept = kept-weaker path (played older).commands sent less moment grants more notes others changes many at a b c d now.0.kept;
      wrap = now.0.wrap;
      all = now.0.all;
    },
    now.1,
  )

-- ---- a step

-- a note of a step. With 0 there is a new subscription
note-plays : (path : List (List ℕ)) (reads kind note sent moment grants more notes others changes : ℕ) (at : Option Content) → note ≤ sent → 1 ≤ note → note + 1 < 2 ^ 32 → grants < 64 → grants + 1 ≤ more
    → notes + 1 ≤ others → others < 1073741824 → Plays (Lives path [] sent moment grants notes changes at) (note_text reads kind note) (Lives path [] (sent_by kind note) moment more others changes at)
note-plays path reads kind note sent moment grants more notes others changes at known some wide low room space few = by (nat_eq kind 0) (nat_eq kind 1) (nat_eq kind 2)
  where
    Before : List ScriptTurn → Type 0
    Before older = Lives path [] sent moment grants notes changes at older

    Renewed : List ScriptTurn → Type 0
    Renewed older = Lives path [] (sent + 1) moment (grants + 1) (notes + 1) changes at older

    once : Plays Before (deliver_line note) Before
    once = deliver-plays path sent moment grants notes changes at [] note some known (omega (arith, space, few)) (omega (arith, wide))

    weaken : (text : List ℕ) → Plays Before text Before → Plays Before text (Lives path [] note moment more others changes at)
    weaken text plays =
        play-after Before Before (Lives path [] note moment more others changes at) text
        (lives-weaker path sent moment grants notes changes at note more others changes known (omega (arith, room)) (omega (arith, space)) (omega arith)) plays

    by : (a b d : Bool)
        → Plays Before (cond a (codes "unsubscribe\nsubscribe\naccept\n" ++ deliver_line (note + 1) ++ reads_text reads)
        (cond b (deliver_line note ++ deliver_line note) (cond d [] (deliver_line note))))
        (Lives path [] (cond a (note + 1) note) moment more others changes at)
    by true b d =
        play-after Before Renewed (Lives path [] (note + 1) moment more others changes at) (codes "unsubscribe\nsubscribe\naccept\n" ++ deliver_line (note + 1) ++ reads_text reads)
        (lives-weaker path (sent + 1) moment (grants + 1) (notes + 1) changes at (note + 1) more others changes (omega (arith, known)) room space (omega arith))
        (play-join Before Renewed Renewed (codes "unsubscribe\nsubscribe\naccept\n" ++ deliver_line (note + 1)) (reads_text reads)
        (play-join Before Renewed Renewed (codes "unsubscribe\nsubscribe\naccept\n") (deliver_line (note + 1)) (renewed-plays path sent moment grants notes changes at low)
        (deliver-plays path (sent + 1) moment (grants + 1) (notes + 1) changes at [] (note + 1) (omega arith) (omega (arith, known)) (omega (arith, space, few)) wide))
        (reads-play path (sent + 1) moment (grants + 1) (notes + 1) changes at [] reads))
    by false true d = weaken (deliver_line note ++ deliver_line note) (play-join Before Before Before (deliver_line note) (deliver_line note) once once)
    by false false true = weaken [] (play-none Before)
    by false false false = weaken (deliver_line note) once

-- ---- the lines of a library

abbrev IsLow : Option TrackState → Type 0
IsLow None = Unit {0}
IsLow (Some track) = track.version < 2 ^ 32

got-low : (n k : ℕ) (tracks : List TrackState) → n ≤ 2 ^ 32 → AreBelow n tracks → IsLow (slice_get tracks k)
got-low n k [] wide are = tt
got-low n zero (track ∷ tracks) wide are = omega (arith, are.0, wide)
got-low n (suc k) (track ∷ tracks) wide are = got-low n k tracks wide are.1

module _ (path : List (List ℕ)) (sent moment grants notes changes : ℕ) (at : Option Content) (n : ℕ) (tracks : List TrackState) (few : length tracks ≤ 10000) (wide : n ≤ 2 ^ 32) (are : AreBelow n tracks) where
  abbrev folders : ℕ
  folders = folders_of (length tracks)

  abbrev Found_so : List Found → List ScriptTurn → Type 0
  Found_so found older = Lives path found sent moment grants notes changes at older

  few-folders : folders ≤ 751
  few-folders = omega (arith, few)

  some-folders : 0 < folders
  some-folders = omega arith

  folders-play : Plays (Found_so []) (texts_below folders folder_line) (Found_so (folders_found folders))
  folders-play =
      play-texts (λ k. Found_so (folders_found k)) folders folder_line
      (λ k low. let most = few-folders in folder-plays path sent moment grants notes changes at (folders_found k) k (omega (arith, low, most)))

  abbrev so_far : ℕ → List Found
  so_far k = folders_found folders ++ tracks_found folders tracks k

  present-plays : (k : ℕ) → k < length tracks → Plays (Found_so (so_far k)) (present_lines folders k (slice_get tracks k)) (Found_so (so_far (suc k)))
  present-plays k low = by (slice_get tracks k) (got-low n k tracks wide are)
    where
      same : (more : List Found) → so_far k ++ more ≡ folders_found folders ++ (tracks_found folders tracks k ++ more)
      same more = append_assoc (folders_found folders) (tracks_found folders tracks k) more

      shown : (track : TrackState) → track.version < 2 ^ 32 → (b : Bool)
          → Plays (Found_so (so_far k)) (cond b (track_line folders k track.version ++ tag_line k) [])
          (Found_so (folders_found folders ++ (tracks_found folders tracks k ++ cond b (file_found folders k track.version ∷ []) [])))
      shown track version true =
          let rest = mod_below k folders some-folders in
          let most = few-folders in
          subst (λ (found : List Found). Plays (Found_so (so_far k)) (track_line folders k track.version ++ tag_line k) (Found_so found)) (same (file_found folders k track.version ∷ []))
          (track-plays path sent moment grants notes changes at (so_far k) folders k track.version (omega (arith, low, few)) version (omega (arith, rest, most)))
      shown track version false =
          subst (λ (found : List Found). Plays (Found_so (so_far k)) [] (Found_so found)) (sym (append-nil (so_far k)) ∙ same []) (play-none (Found_so (so_far k)))

      by : (o : Option TrackState) → IsLow o
          → Plays (Found_so (so_far k)) (present_lines folders k o) (Found_so (folders_found folders ++ (tracks_found folders tracks k ++ track_found folders k o)))
      by None version =
          subst (λ (found : List Found). Plays (Found_so (so_far k)) [] (Found_so found)) (sym (append-nil (so_far k)) ∙ same []) (play-none (Found_so (so_far k)))
      by (Some track) version = shown track version track.present

  pub library-plays : Plays (Found_so []) (library_text tracks) (Found_so (library_found tracks))
  library-plays =
      play-join (Found_so []) (Found_so (so_far 0)) (Found_so (library_found tracks)) (texts_below folders folder_line) (tracks_text tracks)
      (subst (λ (found : List Found). Plays (Found_so []) (texts_below folders folder_line) (Found_so found)) (sym (append-nil (folders_found folders))) folders-play)
      (play-texts (λ k. Found_so (so_far k)) (length tracks) (λ (k : ℕ). present_lines folders k (slice_get tracks k)) present-plays)

-- ---- the steps

module _ (seed count : ℕ) (some : 1 ≤ count) (few : count ≤ 10000) where
  abbrev after : ℕ → HistoryState
  after k = after_steps k (first_history seed count)

  -- where track 0 is, and what stands there after so many scans
  abbrev path : List (List ℕ)
  path = place_of (folders_of count) 0

  abbrev stands : ℕ → Option Content
  stands zero = None
  stands (suc k) = Some (said_of 0 (first_version (after (suc k)).library.tracks))

  abbrev State : ℕ → List ScriptTurn → Type 0
  State k older = Lives path [] (after k).sent (250 * k) (k + 1) (50 * k + 1) (21502 * k) (stands k) older

  wide-sent : (k : ℕ) → k ≤ 41 → (after k).sent < 4294967200
  wide-sent k most = let is = bounded-steps k seed count few in let low = is.notes in omega (arith, low, most)

  module _ (k : ℕ) (low : k < 40) where
    abbrev before : HistoryState
    before = after k

    abbrev tracks : List TrackState
    tracks = (library_at (suc k) before.library).tracks

    abbrev kind : ℕ
    kind = kind_of (library_at (suc k) before.library)

    bounded : IsBounded k count before
    bounded = bounded-steps k seed count few

    size : length tracks ≡ count
    size = let is = bounded in library-length (suc k) before.library ∙ is.size

    led : IsLed tracks
    led = (led-library (suc k) before.library (led-steps k seed count some)).0

    versions : AreBelow (1 + 202 * k + 202) tracks
    versions = let is = bounded in let same = is.size in library-below (suc k) (1 + 202 * k) before.library (omega (arith, same, few)) is.versions

    few-tracks : length tracks ≤ 10000
    few-tracks = let same = size in omega (arith, same, few)

    abbrev now : Content
    now = said_of 0 (first_version tracks)

    changed : (owed_at path (stands k) (Some now) ≡ []) → ⊥
    changed = by k (led-library (suc k) before.library (led-steps k seed count some)).1
      where
        differs : (version : ℕ) (b : Bool) → same_content (said_of 0 version) now ≡ b → version < first_version tracks → cond b [] (Modification path now ∷ []) ≡ [] → ⊥
        differs version true e less none = versions-differ version (first_version tracks) less (same_content_is (said_of 0 version) now e)
        differs version false e less none = absurd (cc)

        by : (j : ℕ) → (1 < suc j → first_version (after j).library.tracks < first_version tracks) → owed_at path (stands j) (Some now) ≡ [] → ⊥
        by zero rises none = absurd (cc)
        by (suc j) rises none =
            differs (first_version (after (suc j)).library.tracks) (same_content (said_of 0 (first_version (after (suc j)).library.tracks)) now) refl (rises (omega arith)) none

    stands-now : content_at (map_of (map record_of (library_found tracks))) path ≡ Some now
    stands-now =
        ap (λ n. content_at (map_of (map record_of (library_found tracks))) (place_of (folders_of n) 0)) (sym size)
        ∙ first-stands tracks few-tracks (first_version tracks) (led-first tracks led) (led-some tracks led)

    abbrev Scanned : List ScriptTurn → Type 0
    Scanned older = Lives path [] (before.sent + 1) (250 * suc k) (k + 1) (50 * k + 1 + (k + 1)) (21502 * k + 21502) (Some now) older

    abbrev Noted : List ScriptTurn → Type 0
    Noted older = Lives path [] (sent_by kind (before.sent + 1)) (250 * suc k) (k + 2) (50 * suc k + 1) (21502 * suc k) (Some now) older

    scanned-plays : Plays (State k) (library_text tracks ++ scan_text (suc k)) Scanned
    scanned-plays =
        play-join (State k) (Lives path (library_found tracks) before.sent (250 * k) (k + 1) (50 * k + 1) (21502 * k) (stands k)) Scanned (library_text tracks) (scan_text (suc k))
        (library-plays path before.sent (250 * k) (k + 1) (50 * k + 1) (21502 * k) (stands k) (1 + 202 * k + 202) tracks few-tracks (omega (arith, low)) versions)
        (scan-plays path before.sent (250 * k) (k + 1) (50 * k + 1) (21502 * k) (stands k) (library_found tracks) (map record_of (library_found tracks)) now (suc k) refl
        (all-good tracks few-tracks) (all-few tracks few-tracks) (omega (arith, low)) stands-now changed (omega arith) (omega (arith, low)))

    noted-plays : Plays Scanned (note_text (load_reads (length tracks)) kind (before.sent + 1)) (Lives path [] (sent_by kind (before.sent + 1)) (250 * suc k) (k + 2) (50 * suc k + 1) (21502 * k + 21502) (Some now))
    noted-plays =
        let wide = wide-sent k (omega (arith, low)) in
        note-plays path (load_reads (length tracks)) kind (before.sent + 1) (before.sent + 1) (250 * suc k) (k + 1) (k + 2) (50 * k + 1 + (k + 1)) (50 * suc k + 1) (21502 * k + 21502) (Some now)
        (omega arith) (omega arith) (omega (arith, wide)) (omega (arith, low)) (omega arith) (omega (arith, low)) (omega (arith, low))

    sent-more : before.sent ≤ sent_by kind (before.sent + 1)
    sent-more = by (nat_eq kind 0)
      where
        by : (b : Bool) → before.sent ≤ cond b (before.sent + 1 + 1) (before.sent + 1)
        by true = omega arith
        by false = omega arith

    sent-wide : sent_by kind (before.sent + 1) < 2 ^ 32
    sent-wide = by (nat_eq kind 0)
      where
        by : (b : Bool) → cond b (before.sent + 1 + 1) (before.sent + 1) < 2 ^ 32
        by true = let wide = wide-sent k (omega (arith, low)) in omega (arith, wide)
        by false = let wide = wide-sent k (omega (arith, low)) in omega (arith, wide)

    was-sent : WasSent before.late (sent_by kind (before.sent + 1))
    was-sent = later before.late (late-sent k seed count)
      where
        later : (late : Option ℕ) → WasSent late before.sent → WasSent late (sent_by kind (before.sent + 1))
        later None was = tt
        later (Some note) was = let low_note = was.1 in let more = sent-more in (was.0, omega (arith, low_note, more))

    step-plays : Plays (State k) (text_of_step (suc k) before) (Lives path [] (sent_by kind (before.sent + 1)) (250 * suc k) (k + 2) (50 * suc k + 1) (21502 * k + 21502) (Some now))
    step-plays =
        play-join (State k) (Lives path [] (sent_by kind (before.sent + 1)) (250 * suc k) (k + 2) (50 * suc k + 1) (21502 * k + 21502) (Some now))
        (Lives path [] (sent_by kind (before.sent + 1)) (250 * suc k) (k + 2) (50 * suc k + 1) (21502 * k + 21502) (Some now))
        (scanned_text tracks (step_at (suc k) before)) (ending_text before.late (step_reads (suc k) (length tracks)) (nat_eq (suc k % 10) 0))
        (play-join (State k) Scanned (Lives path [] (sent_by kind (before.sent + 1)) (250 * suc k) (k + 2) (50 * suc k + 1) (21502 * k + 21502) (Some now))
        (library_text tracks ++ scan_text (suc k)) (note_text (load_reads (length tracks)) kind (before.sent + 1)) scanned-plays noted-plays)
        (ending-plays path (sent_by kind (before.sent + 1)) (250 * suc k) (k + 2) (50 * suc k + 1) (21502 * k + 21502) (Some now) before.late (step_reads (suc k) (length tracks)) (nat_eq (suc k % 10) 0) was-sent
        (omega (arith, low)) sent-wide)

  state-plays : (k : ℕ) → k < 40 → Plays (State k) (text_of_step (k + 1) (after k)) (State (suc k))
  unfolding after_steps
  state-plays k low =
      let same : k + 2 ≡ suc k + 1 = omega arith in
      let sum : 21502 * k + 21502 ≡ 21502 * suc k = omega arith in
      subst (λ (number : ℕ). Plays (State k) (text_of_step number (after k)) (State (suc k))) (sym (add-one k))
      (subst (λ (c : ℕ). Plays (State k) (text_of_step (suc k) (after k)) (Lives path [] (after (suc k)).sent (250 * suc k) (suc k + 1) (50 * suc k + 1) c (stands (suc k)))) sum
      (subst (λ (g : ℕ). Plays (State k) (text_of_step (suc k) (after k)) (Lives path [] (after (suc k)).sent (250 * suc k) g (50 * suc k + 1) (21502 * k + 21502) (stands (suc k)))) same (step-plays k low)))

  -- ---- the opening, and the whole script

  abbrev Start : List ScriptTurn → Type 0
  Start older = IsAt path [] 0 0 0 0 0 None older

  abbrev Subscribed : List ScriptTurn → Type 0
  Subscribed older = Lives path [] 1 0 1 1 0 None older

  first-read : Plays Start (codes "read\n") Start
  first-read = play-line Start Start (codes "read\n") Read read-spoken (λ older now. (refl, read-at path 0 0 0 0 0 None [] older now))

  three-reads : Plays Start (codes "read\nread\nread\n") Start
  three-reads =
      play-join Start Start Start (codes "read\nread\n") (codes "read\n") (play-join Start Start Start (codes "read\n") (codes "read\n") first-read first-read) first-read

  start-plays : Plays (λ older. older ≡ []) (codes "load\n") Start
  start-plays =
      play-line (λ older. older ≡ []) Start (codes "load\n") Load load-spoken
      (λ older none. (
        refl,
        load-at path 0 0 0 0 0 None [] older (subst Start (sym none) (record { first = refl; clock = refl; since = refl; kept = kept-first path; wrap = refl; all = tt })),
      ))

  opening-plays : Plays (λ older. older ≡ []) opening (State 0)
  unfolding after_steps
  opening-plays =
      play-join (λ older. older ≡ []) Start Subscribed (codes "load\nread\nread\nread\nread\nread\nread\n") (codes "subscribe\naccept\ndeliver 1\n")
      (play-join (λ older. older ≡ []) Start Start (codes "load\n") (codes "read\nread\nread\nread\nread\nread\n") start-plays
      (play-join Start Start Start (codes "read\nread\nread\n") (codes "read\nread\nread\n") three-reads three-reads))
      (play-join Start Subscribed Subscribed (codes "subscribe\naccept\n") (codes "deliver 1\n")
      (play-join Start Subscribed Subscribed (codes "subscribe\n") (codes "accept\n")
      (play-line Start Subscribed (codes "subscribe\n") Subscribe subscribe-spoken (λ older now. (refl, subscribe-at path 0 0 0 0 0 None [] older (omega arith) now)))
      (accept-plays path 1 0 1 1 0 None []))
      (said-plays path 1 0 1 1 0 None [] (codes "deliver 1\n") 1 (omega arith) (omega arith) (omega arith) deliver_first-spoken))

  script-plays : Plays (λ older. older ≡ []) (generated seed count) (State 40)
  unfolding generated script_of
  script-plays =
      play-join (λ older. older ≡ []) (State 40) (State 40) (opening ++ steps_text 40 (first_history seed count)) (closing_text (after 40))
      (play-join (λ older. older ≡ []) (State 0) (State 40) opening (steps_text 40 (first_history seed count)) opening-plays
      (play-texts State 40 (λ (done : ℕ). text_of_step (done + 1) (after done)) state-plays))
      (ending-plays path (after 40).sent (250 * 40) (40 + 1) (50 * 40 + 1) (21502 * 40) (stands 40) (after 40).late (all_reads (length (after 40).library.tracks)) true (late-sent 40 seed count)
      (omega arith) (let wide = wide-sent 40 (omega arith) in omega (arith, wide)))

-- ---- few subscriptions

module _ (older : List ScriptTurn) where
  scan-grants : (answer : ScanAnswer) (records : List Record) (commands : List Command) → granted commands ≤ granted (scanned answer records commands)
  scan-grants Accepted records commands = omega arith
  scan-grants (BadRecord line) records commands = omega arith
  scan-grants (TooMany objects) records commands = omega arith
  scan-grants (NoNumbers needed) records commands = omega arith

  end-grants : (name : Option ℕ) (now : ℕ) (commands : List Command) → granted commands ≤ granted (given_up name now commands)
  end-grants None now commands = omega arith
  end-grants (Some name) now commands = by (lives name now commands)
    where
      by : (b : Bool) → granted commands ≤ granted (cond b (Ends now name ∷ commands) commands)
      by true = omega arith
      by false = omega arith

  renew-grants : (name : Option ℕ) (now : ℕ) (commands : List Command) → granted commands ≤ granted (with_renewal name now commands)
  renew-grants None now commands = omega arith
  renew-grants (Some name) now commands = by (lives name now commands)
    where
      by : (b : Bool) → granted commands ≤ granted (cond b (Renews now name granted_seconds ∷ commands) commands)
      by true = omega arith
      by false = omega arith

  turn-grants : (turn : ScriptTurn) → granted (played older).commands ≤ granted (played (turn ∷ older)).commands
  turn-grants (Folder place) = omega arith
  turn-grants (Track place info bytes) = omega arith
  turn-grants (Tag comment) = omega arith
  turn-grants Scan = scan-grants (scan_answer (scans_of (first_of older) (played older).commands) (records_since older)) (records_since older) (played older).commands
  turn-grants Load = omega arith
  turn-grants Read = omega arith
  turn-grants Ask = omega arith
  turn-grants (First number) = omega arith
  turn-grants (Wrap number) = omega arith
  turn-grants (At moment) = omega arith
  turn-grants Subscribe = by (has_room (clock_of older) (played older).commands)
    where
      by : (b : Bool) → granted (played older).commands ≤ granted (cond {A = report.Played} b (record (played older) {
        commands = grant_at (clock_of older) ∷ (played older).commands;
        replica = Requests ∷ (played older).replica;
        reply = Named (granted (played older).commands + 1);
      }) (record (played older) { replica = Requests ∷ (played older).replica; reply = Refusal })).commands
      by true = omega arith
      by false = omega arith
  turn-grants Accept = omega arith
  turn-grants Renew = renew-grants (accepted (played older).replica) (clock_of older) (played older).commands
  turn-grants Unsubscribe = end-grants (accepted (played older).replica) (clock_of older) (played older).commands
  turn-grants (Deliver note) = omega arith
  turn-grants ReadFault = omega arith

dropped-grants : (newer : ℕ) (turns : List ScriptTurn) → granted (played (drop newer turns)).commands ≤ granted (played turns).commands
dropped-grants zero turns = omega arith
dropped-grants (suc newer) [] = omega arith
dropped-grants (suc newer) (turn ∷ older) =
    let rest = dropped-grants newer older in
    let one = turn-grants older turn in
    omega (arith, rest, one)

-- ---- the laws

pub are-played : scripts_are_played
are-played seed count some few =
    let plays = script-plays seed count some few in
    let fits = short seed count some few in
    let last = (played-after (State seed count some few 40) (generated seed count) plays fits).0.kept.granted in
    record {
      well = played-well (State seed count some few 40) (generated seed count) plays fits;
      few = λ newer now.
          let names = names-few now (played (drop newer (script_turns (generated seed count)))).commands in
          let less = dropped-grants newer (script_turns (generated seed count)) in
          omega (arith, names, less, last);
    }

pub spoken : lines_are_turns
spoken seed count some few =
    let plays = script-plays seed count some few in
    let read = played-lines (State seed count some few 40) (generated seed count) plays (short seed count some few) in (
      subst (λ (lines : List (List ℕ)). AllByRecursion IsTurnLine lines) (sym read.0)
          (played-turns (State seed count some few 40) (generated seed count) plays (short seed count some few)),
      read.1 ∙ sym read.0,
    )
