-- What a server stands for after a request about a subscription, and after a scan.
use Rattle.std.proofs.Common.{◌≡◌, ◌+◌, ◌≤◌, ℕ, suc, Bool, true, false, cond, nat_eq, nat_lt, List, [], ◌∷◌, ◌++◌, length, reverse, Option, Some, None, is_some, refl, sym, ap, ◌∙◌, subst, arith, true≢false, ltb-false, length-append}
use Rattle.std.specs.List.{AllByRecursion, filter_map, cons_option}
use Rattle.std.proofs.lemmas.List.{length-reverse}
use Rattle.std.specs.Prelude.{Result, Ok}
use Rattle.cds_object.specs.declared.record.Record.{Record}
use Rattle.cds_catalog.specs.Library.{FolderMap, map_of, found, arrival, departure}
use Rattle.cds_catalog.specs.History.{History, changes_of, end_of, latest, with_scan}
use Rattle.cds_catalog.specs.Scans.{Accepted, BadRecord, NoNumbers, ScanAnswer, TooMany, answer_by, bad_record, needed_by, scan_answer}
use Rattle.cds_catalog.specs.Steps.{Standing}
use Rattle.cds_catalog.proofs.Accepted.{accepted_map}
use Rattle.cds_store.specs.Rows.{rows_of}
use Rattle.cds_store.specs.Stands.{Stored, StandsFor as StoreStandsFor}
use Rattle.cds_store.specs.declared.span.Span.{Span}
use Rattle.cds_http.specs.declared.message.Message.{Message}
use Rattle.cds_commands.specs.Commands.{Command, Start, Scans, Stops, AreAccepted, scans_of}
use Rattle.cds_commands.specs.Names.{names_of}
use Rattle.cds_commands.specs.Subscriptions.{granted, end_after}
use Rattle.cds_gena.specs.Subscribed.{Booked, Subscribed, StandsFor as BookStandsFor, grant_refusal, if_alive, if_full, last_number, living_named, number_of, subscribed_by, with_grant, renewed, without}
use Rattle.cds_gena.specs.declared.error.GenaError.{GenaError}
use Rattle.cds_gena.specs.declared.error.GenaError.TheVariants.{Spent}
use Rattle.cds_gena.specs.declared.gena.Gena.{Gena}
use Rattle.cds_gena.proofs.Commands.{as-many, number-alive, booked-scan, booked-grant, booked-renewal, booked-end, booked-stop}
use Rattle.cds_moderator.specs.Moderating.{Moderated, moderated_by, reached}
use Rattle.cds_server.specs.declared.made.Settled.{Settled}
use Rattle.cds_server.specs.Route.{Route, Subscribes, Goes, asks_events, route, way_by}
use Rattle.cds_server.specs.Published.{published_by, token_of}
use Rattle.cds_server.specs.Asking.{asked_command, asked_note, asked_outcome, asked_reply}
use Rattle.cds_server.specs.Outcome.{Outcome, Refused, Granted, Renewed, Ended, IsDone, and_command, command_of, done, first_of, if_lives, living_number, outcome, outcome_in, outcome_note, outcome_of, outcome_reply, refusal_of}
use Rattle.cds_server.specs.Replies.{command_at, command_by, note_at, note_by}
use Rattle.cds_server.specs.Serving.{Serving, StandsFor, IsServing, CanFollow, published_of}

-- ---- replies to other messages

pub published-is : (serving : Serving) (start : Start) (commands : List Command) → StandsFor serving start commands → published_of serving ≡ published_by start commands
published-is serving start commands s =
    let standing = s.store.1 in
    λ i. record { token = token_of (s.book.names i); number = (standing i).number; rows = rows_of (standing i).rows }

goes-way : (m : Message) → asks_events m.start ≡ false → route m ≡ Goes (way_by m.start m.fields)
goes-way m unasked = ap (λ b. cond b Subscribes (Goes (way_by m.start m.fields))) unasked

pub asks-way : (m : Message) → asks_events m.start ≡ true → route m ≡ Subscribes
asks-way m asked_so = ap (λ b. cond b Subscribes (Goes (way_by m.start m.fields))) asked_so

pub other-commands : (start : Start) (commands : List Command) (now : ℕ) (m : Message) → asks_events m.start ≡ false
    → and_command (command_at start commands now m) commands ≡ commands
other-commands start commands now m unasked = ap (λ (w : Route). and_command (command_by w now (outcome start commands now m)) commands) (goes-way m unasked)

pub other-command : (start : Start) (commands : List Command) (now : ℕ) (m : Message) → asks_events m.start ≡ false → command_at start commands now m ≡ None
other-command start commands now m unasked = ap (λ (w : Route). command_by w now (outcome start commands now m)) (goes-way m unasked)

pub other-note : (start : Start) (commands : List Command) (now : ℕ) (m : Message) → asks_events m.start ≡ false → note_at start commands now m ≡ None
other-note start commands now m unasked = ap (λ (w : Route). note_by w (first_of start commands now m)) (goes-way m unasked)

-- ---- what comes of a request about a subscription

pub outcome-is : (book : Booked) (start : Start) (commands : List Command) (now : ℕ) (asked : Result Gena GenaError) → BookStandsFor book start commands
    → outcome_in book now asked ≡ outcome_of (refusal_of now commands) (living_number start now commands) asked
outcome-is book start commands now asked s = λ i. outcome_of (refusal i) (λ name. number name i) asked
  where
    refusal : grant_refusal now book.subscribed ≡ refusal_of now commands
    refusal =
        ap (grant_refusal now) s.subscribed
        ∙ ap (λ n. cond (nat_eq (granted commands) last_number) (Some Spent) (if_full n)) (sym (as-many start now commands))

    lives : (o : Option ℕ) → if_alive now (subscribed_by start commands).living o ≡ if_lives now commands o
    lives None = refl
    lives (Some n) = ap (λ b. cond b (Some n) None) (number-alive start now commands n)

    number : (name : ℕ) → living_named now name book ≡ living_number start now commands name
    number name =
        (λ i. if_alive now (s.subscribed i).living (number_of (s.names i) name)) ∙ lives (number_of (names_of start) name)

done-names : (now : ℕ) (o : Outcome) (book : Booked) → (done now o book).names ≡ book.names
done-names now (Refused status) book = refl
done-names now (Granted callback seconds) book = refl
done-names now (Renewed number seconds) book = refl
done-names now (Ended number) book = refl

done-stands : (book : Booked) (start : Start) (commands : List Command) (now : ℕ) (o : Outcome) → BookStandsFor book start commands
    → BookStandsFor (done now o book) start (and_command (command_of now o) commands)
done-stands book start commands now (Refused status) s = s
done-stands book start commands now (Granted callback seconds) s = record {
  names = s.names;
  wrap = s.wrap;
  wide = s.wide;
  subscribed = ap (with_grant now callback seconds) s.subscribed ∙ sym (booked-grant start commands now callback seconds (omega (arith, s.wide)));
}
done-stands book start commands now (Renewed number seconds) s = record {
  names = s.names;
  wrap = s.wrap;
  wide = s.wide;
  subscribed = ap (renewed number (end_after now seconds)) s.subscribed ∙ sym (booked-renewal start commands now number seconds);
}
done-stands book start commands now (Ended number) s = record {
  names = s.names;
  wrap = s.wrap;
  wide = s.wide;
  subscribed = ap (without number) s.subscribed ∙ sym (booked-end start commands now number);
}

with-book : (serving : Serving) (start : Start) (commands : List Command) (now : ℕ) (o : Outcome) (after : Booked) → StandsFor serving start commands
    → BookStandsFor after start (and_command (command_of now o) commands)
    → StandsFor (record { store = serving.store; book = after; moderated = serving.moderated; stopped = serving.stopped }) start (and_command (command_of now o) commands)
with-book serving start commands now (Refused status) after s b = record { store = s.store; kept = s.kept; book = b; moderated = s.moderated; stopped = s.stopped }
with-book serving start commands now (Granted callback seconds) after s b = record { store = s.store; kept = s.kept; book = b; moderated = s.moderated; stopped = s.stopped }
with-book serving start commands now (Renewed number seconds) after s b = record { store = s.store; kept = s.kept; book = b; moderated = s.moderated; stopped = s.stopped }
with-book serving start commands now (Ended number) after s b = record { store = s.store; kept = s.kept; book = b; moderated = s.moderated; stopped = s.stopped }

accepted-done : (first : ℕ) (commands : List Command) (now : ℕ) (o : Outcome) → AreAccepted first commands → AreAccepted first (and_command (command_of now o) commands)
accepted-done first commands now (Refused status) a = a
accepted-done first commands now (Granted callback seconds) a = record { libraries = a.libraries; few = a.few; numbers = a.numbers }
accepted-done first commands now (Renewed number seconds) a = record { libraries = a.libraries; few = a.few; numbers = a.numbers }
accepted-done first commands now (Ended number) a = record { libraries = a.libraries; few = a.few; numbers = a.numbers }

keeps : (now : ℕ) (o : Outcome) (book : Booked) → command_of now o ≡ None → done now o book ≡ book
keeps now (Refused status) book e = refl
keeps now (Granted callback seconds) book e = absurd (true≢false (ap is_some e))
keeps now (Renewed number seconds) book e = absurd (true≢false (ap is_some e))
keeps now (Ended number) book e = absurd (true≢false (ap is_some e))

-- a server whose book was given a request keeps what every server keeps
pub event-serving : (serving : Serving) (now : ℕ) (o : Outcome) (after : Booked) → IsServing serving → after ≡ done now o serving.book
    → IsServing (record { store = serving.store; book = after; moderated = serving.moderated; stopped = serving.stopped })
event-serving serving now o after kept is =
    let names : after.names ≡ serving.book.names = ap (λ (b : Booked). b.names) is ∙ done-names now o serving.book in
    let room = kept.room in
    record {
      start = kept.start;
      commands = and_command (command_of now o) kept.commands;
      stands = with-book serving kept.start kept.commands now o after kept.stands
          (subst (λ (b : Booked). BookStandsFor b kept.start (and_command (command_of now o) kept.commands)) (sym is) (done-stands serving.book kept.start kept.commands now o kept.stands.book));
      accepted = accepted-done kept.start.first kept.commands now o kept.accepted;
      room = omega (arith, names, room);
    }

module _ (serving : Serving) (start : Start) (commands : List Command) (now : ℕ) (gena : Gena) (old new : List ℕ) (settled : Settled) (after : Booked)
    (s : StandsFor serving start commands)
    (is : IsDone serving.book serving.store.standing.number now (outcome_in serving.book now (Ok gena)) old new settled after) where
  come : outcome_in serving.book now (Ok gena) ≡ asked_outcome start commands now gena
  come = outcome-is serving.book start commands now (Ok gena) s.book

  many : serving.book.subscribed.granted ≡ granted commands
  many = ap (λ (t : Subscribed). t.granted) s.book.subscribed

  number : serving.store.standing.number ≡ end_of (scans_of start.first commands)
  number = ap (λ (t : Standing). t.number) s.store.1

  kept-is : after ≡ done now (asked_outcome start commands now gena) serving.book
  kept-is = is.kept ∙ ap (λ o. done now o serving.book) come

  pub event-replied : new ≡ old ++ asked_reply start commands now gena
  event-replied = is.replied ∙ (λ i. old ++ outcome_reply (s.book.names i) (many i) (come i))

  pub event-stands : StandsFor (record { store = serving.store; book = after; moderated = serving.moderated; stopped = serving.stopped }) start (and_command (asked_command start commands now gena) commands)
  event-stands =
      with-book serving start commands now (asked_outcome start commands now gena) after s
      (subst (λ (b : Booked). BookStandsFor b start (and_command (asked_command start commands now gena) commands)) (sym kept-is)
      (done-stands serving.book start commands now (asked_outcome start commands now gena) s.book))

  pub event-note : settled.note ≡ asked_note start commands now gena
  event-note = is.noted ∙ (λ i. outcome_note (s.book.names i) (many i) (number i) (come i))

  pub event-accepted : settled.accepted ≡ is_some (asked_command start commands now gena)
  event-accepted = is.accepted ∙ ap (λ o. is_some (command_of now o)) come

  pub event-same : asked_command start commands now gena ≡ None → after ≡ serving.book
  event-same none = kept-is ∙ keeps now (asked_outcome start commands now gena) serving.book none

-- ---- a scan

some-less : {X Y : Type 0} (f : X → Option Y) (xs : List X) → length (filter_map f xs) ≤ length xs
some-less f [] = omega arith
some-less {X} {Y} f (x ∷ xs) = by (f x) (some-less f xs)
  where
    by : (o : Option Y) → length (filter_map f xs) ≤ length xs → length (cons_option o (filter_map f xs)) ≤ suc (length xs)
    by None l = omega (arith, l)
    by (Some y) l = omega (arith, l)

found-few : (old new : FolderMap) → length (found old new) ≤ length old + length new
found-few old new =
    let parts = length-append (reverse (filter_map (arrival old) new)) (filter_map (departure new) old) in
    let same = length-reverse (filter_map (arrival old) new) in
    let come = some-less (arrival old) new in
    let gone = some-less (departure new) old in
    omega (arith, parts, same, come, gone)

latest-few : (maps : List FolderMap) → AllByRecursion (λ (library : FolderMap). length library ≤ 65535) maps → length (latest maps) ≤ 65535
latest-few [] few = omega arith
latest-few (library ∷ older) few = few.0

abbrev GoodCases : History → List Record → Type 0
GoodCases history records = (bad_record records ≡ None) × (length records ≤ 65535) × (end_of history + needed_by history records ≤ 4294967295)

abbrev is_accepted : ScanAnswer → Bool
is_accepted Accepted = true
is_accepted (BadRecord line) = false
is_accepted (TooMany objects) = false
is_accepted (NoNumbers needed) = false

good-cases : (history : History) (records : List Record) → scan_answer history records ≡ Accepted → GoodCases history records
good-cases history records e = by (bad_record records) refl e
  where
    by_tests : (b c : Bool) → nat_lt 65535 (length records) ≡ b → nat_lt 4294967295 (end_of history + needed_by history records) ≡ c → bad_record records ≡ None
        → cond b (TooMany (length records)) (cond c (NoNumbers (needed_by history records)) Accepted) ≡ Accepted → GoodCases history records
    by_tests true c l k good is = absurd (true≢false (sym (ap is_accepted is)))
    by_tests false true l k good is = absurd (true≢false (sym (ap is_accepted is)))
    by_tests false false l k good is = (good, ltb-false 65535 (length records) l, ltb-false 4294967295 (end_of history + needed_by history records) k)

    by : (o : Option ℕ) → bad_record records ≡ o → answer_by history records o ≡ Accepted → GoodCases history records
    by (Some line) good is = absurd (true≢false (sym (ap is_accepted is)))
    by None good is = by_tests _ _ refl refl good is

scan-ends : (history : History) (library : FolderMap) → end_of (with_scan history library) ≡ end_of history + length (found (latest history.maps) library)
scan-ends history library =
    let parts = length-append (found (latest history.maps) library) (changes_of history.maps) in
    omega (arith, parts)

scan-accepted : (first : ℕ) (records : List Record) (commands : List Command) → AreAccepted first commands → scan_answer (scans_of first commands) records ≡ Accepted
    → AreAccepted first (Scans (map_of records) ∷ commands)
scan-accepted first records commands a e =
    let good = good-cases (scans_of first commands) records e in
    let map = accepted_map records good.0 in
    let ends = scan-ends (scans_of first commands) (map_of records) in
    let long = map.1 in
    let few = good.1 in
    let most = good.2 in
    record {
      libraries = (map.0, a.libraries);
      few = (omega (arith, long, few), a.few);
      numbers = omega (arith, ends, most);
    }

reached-is : (first end e : ℕ) → reached first end ≡ Some e → e ≡ end
reached-is first end e is = by (nat_lt first end) is
  where
    by : (b : Bool) → cond b (Some end) None ≡ Some e → e ≡ end
    by true k = cc
    by false k = absurd (true≢false (sym (ap is_some k)))

abbrev span_after : History → List Record → Span
span_after history records = record { from = end_of history; to = end_of (with_scan history (map_of records)) }

-- its span can be told to the moderator
pub scan-follows : (serving : Serving) (records : List Record) (span : Span) (kept : IsServing serving)
    → scan_answer (scans_of kept.start.first kept.commands) records ≡ Accepted → span ≡ span_after (scans_of kept.start.first kept.commands) records
    → CanFollow span serving.moderated
scan-follows serving records span kept e is =
    λ some. (
      (let good = good-cases history records e in
          let map = accepted_map records good.0 in
          let ends = scan-ends history (map_of records) in
          let changes = found-few (latest history.maps) (map_of records) in
          let old = latest-few history.maps kept.accepted.few in
          let long = map.1 in
          let few = good.1 in
          let from = ap (λ (t : Span). t.from) is in
          let to = ap (λ (t : Span). t.to) is in
          omega (arith, ends, changes, old, long, few, from, to)),
      (λ end at.
          ap (λ (t : Span). t.from) is
          ∙ sym (reached-is kept.start.first (end_of history) end (sym (ap (λ (t : Moderated). t.end) kept.stands.moderated) ∙ at))),
    )
  where
    history : History
    history = scans_of kept.start.first kept.commands

-- and it stands for the scan then
pub scan-stands : (serving : Serving) (start : Start) (commands : List Command) (records : List Record) (store : Stored) (moderated : Moderated)
    → StandsFor serving start commands → StoreStandsFor store (with_scan (scans_of start.first commands) (map_of records)) → store.forgotten ≡ serving.store.forgotten
    → moderated ≡ moderated_by start.first (Scans (map_of records) ∷ commands)
    → StandsFor (record { store = store; book = serving.book; moderated = moderated; stopped = serving.stopped }) start (Scans (map_of records) ∷ commands)
scan-stands serving start commands records store moderated s stored same told = record {
  store = stored;
  kept = same ∙ s.kept;
  book = record {
    names = s.book.names;
    wrap = s.book.wrap;
    wide = s.book.wide;
    subscribed = s.book.subscribed ∙ sym (booked-scan start commands (map_of records));
  };
  moderated = told;
  stopped = s.stopped;
}

pub scan-serving : (serving : Serving) (records : List Record) (store : Stored) (moderated : Moderated) (kept : IsServing serving)
    → scan_answer (scans_of kept.start.first kept.commands) records ≡ Accepted
    → StoreStandsFor store (with_scan (scans_of kept.start.first kept.commands) (map_of records)) → store.forgotten ≡ serving.store.forgotten
    → moderated ≡ moderated_by kept.start.first (Scans (map_of records) ∷ kept.commands)
    → IsServing (record { store = store; book = serving.book; moderated = moderated; stopped = serving.stopped })
scan-serving serving records store moderated kept e stored same told = record {
  start = kept.start;
  commands = Scans (map_of records) ∷ kept.commands;
  stands = scan-stands serving kept.start kept.commands records store moderated kept.stands stored same told;
  accepted = scan-accepted kept.start.first records kept.commands kept.accepted e;
  room = kept.room;
}

-- ---- the end

-- a server that was told to stop
abbrev pub stopping : Serving → Serving
stopping serving = record { store = serving.store; book = serving.book; moderated = serving.moderated; stopped = true }

-- it stands for that too
pub stop-stands : (serving : Serving) (start : Start) (commands : List Command) → StandsFor serving start commands
    → StandsFor (stopping serving) start (Stops ∷ commands)
stop-stands serving start commands s = record {
  store = s.store;
  kept = s.kept;
  book = record { names = s.book.names; wrap = s.book.wrap; wide = s.book.wide; subscribed = s.book.subscribed ∙ sym (booked-stop start commands) };
  moderated = s.moderated;
  stopped = refl;
}

pub stop-serving : (serving : Serving) → IsServing serving → IsServing (stopping serving)
stop-serving serving kept = record {
  start = kept.start;
  commands = Stops ∷ kept.commands;
  stands = stop-stands serving kept.start kept.commands kept.stands;
  accepted = record { libraries = kept.accepted.libraries; few = kept.accepted.few; numbers = kept.accepted.numbers };
  room = kept.room;
}
