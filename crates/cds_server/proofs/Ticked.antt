-- What a tick sends, and what a server stands for after it.
use Rattle.std.proofs.Common.{◌≡◌, ◌+◌, ◌<◌, ◌≤◌, ℕ, Bool, true, false, cond, nat_lt, max, List, [], ◌∷◌, map, Option, Some, None, is_some, option_map, unwrap_or, IsSome, refl, sym, ap, ◌∙◌, subst, arith, true≢false}
use Rattle.std.specs.List.{AllByRecursion, cons_option, filter_map, range_with_len}
use Rattle.cds_catalog.specs.Library.{FolderMap}
use Rattle.cds_catalog.specs.History.{History, end_of}
use Rattle.cds_catalog.specs.Steps.{Standing}
use Rattle.cds_catalog.proofs.StepsFind.{each-all, each-filter, each-map, none≢some}
use Rattle.cds_catalog.proofs.StepsRows.{map_map}
use Rattle.cds_changes.specs.Containers.{containers_between}
use Rattle.cds_changes.specs.Events.{events_between}
use Rattle.cds_store.specs.Stands.{Stored, StandsFor as StoreStandsFor}
use Rattle.cds_store.specs.declared.span.Span.{Span}
use Rattle.cds_commands.specs.Commands.{Command, Start, Scans, Ticks, scans_of}
use Rattle.cds_commands.specs.Names.{names_of}
use Rattle.cds_commands.specs.Releases.{Release, and_release, release_at, release_size, released_to, releases_of, scan_end_within}
use Rattle.cds_commands.specs.Subscriptions.{callback_of, granted, runs_until}
use Rattle.cds_commands.specs.Places.{seq_at}
use Rattle.cds_commands.specs.Notes.{Note, alive_names, next_place_of, notes_of, released_note, released_notes, sent_by}
use Rattle.cds_commands.proofs.Sent.{Stood, first-is, release-is, stood-below, within-stood}
use Rattle.cds_gena.specs.declared.address.Address.{Address}
use Rattle.cds_gena.specs.declared.book.Subscription.{Subscription}
use Rattle.cds_gena.specs.Subscribed.{Booked, StandsFor as BookStandsFor, address_of, alive, running, subscribed_by, subscription_of}
use Rattle.cds_gena.specs.SubscribedLaws.{next_under, sent_under}
use Rattle.cds_gena.proofs.Commands.{notes-counted}
use Rattle.cds_moderator.specs.Moderating.{Moderated, above, last_moment, moderated_by, next_span, reached, scan_span, span_of, spans_of}
use Rattle.cds_moderator.proofs.Moderated.{next-is, others}
use Rattle.cds_catalog.proofs.Numbers.{ends_rise}
use Rattle.cds_notify.specs.Propertyset.{propertyset_text}
use Rattle.cds_server.specs.Due.{address_to, body_of, due, notes_at}
use Rattle.cds_server.specs.Laws.{notes_are_sent}
use Rattle.cds_server.specs.Serving.{Serving, StandsFor, IsServing}

-- ---- where the notes of a release go

abbrev Entry : Type 0
Entry = ℕ × Subscription

each-given : {X Y : Type 0} (P : Y → Type 0) (f : X → Option Y) (xs : List X) → ((x : X) (y : Y) → f x ≡ Some y → P y) → AllByRecursion P (filter_map f xs)
each-given P f [] h = tt
each-given {X} {Y} P f (x ∷ xs) h = by (f x) refl (each-given P f xs h)
  where
    by : (o : Option Y) → f x ≡ o → AllByRecursion P (filter_map f xs) → AllByRecursion P (cons_option o (filter_map f xs))
    by None e r = r
    by (Some y) e r = (h x y e, r)

-- each that has not ended has the callback of its grant
abbrev Calls : List Command → Entry → Type 0
Calls commands p = p.1.callback ≡ unwrap_or (callback_of p.0 commands) []

running-calls : (wrap number : ℕ) (callback : List ℕ) (place : ℕ) (o : Option ℕ) (p : Entry) → running wrap number callback place o ≡ Some p → (number ≡ p.0) × (callback ≡ p.1.callback)
running-calls wrap number callback place None p e = none≢some None p refl e
running-calls wrap number callback place (Some end) p e =
    let same : (number, record { callback = callback; end = end; next_seq = seq_at wrap place }) ≡ p = cc in
    (ap (λ (q : Entry). q.0) same, ap (λ (q : Entry). q.1.callback) same)

calls : (start : Start) (commands : List Command) (number : ℕ) (p : Entry) → subscription_of start commands number ≡ Some p → Calls commands p
calls start commands number p e =
    let is = running-calls start.wrap number (unwrap_or (callback_of number commands) []) (next_place_of number (notes_of start.first commands)) (runs_until number commands) p e in
    sym is.1 ∙ ap (λ n. unwrap_or (callback_of n commands) []) is.0

abbrev at : Start → List Command → (ℕ × ℕ) → Address
at start commands q = record { sid = record { 0 = names_of start + q.0 }; callback = unwrap_or (callback_of q.0 commands) []; seq = q.1 }

each-at : (start : Start) (commands : List Command) (living : List Entry) → AllByRecursion (Calls commands) living
    → map (address_of (names_of start)) living ≡ map (λ (p : Entry). at start commands (next_under p)) living
each-at start commands [] all = refl
each-at start commands (p ∷ living) all = λ i. record { sid = record { 0 = names_of start + p.0 }; callback = all.0 i; seq = p.1.next_seq } ∷ each-at start commands living all.1 i

pub addresses-are : (start : Start) (commands : List Command) (now : ℕ) (release : Release)
    → release_at now (scans_of start.first commands) (releases_of start.first commands) ≡ Some release
    → map (address_of (names_of start)) (alive now (subscribed_by start commands).living)
    ≡ map (address_to start commands) (sent_by start.first commands (notes_of start.first commands) (Ticks now))
addresses-are start commands now release e =
    each-at start commands living
    (each-filter (Calls commands) (λ (p : Entry). nat_lt now p.1.end) (subscribed_by start commands).living
    (each-given (Calls commands) (subscription_of start commands) (range_with_len 1 (granted commands)) (calls start commands)))
    ∙ sym (map_map (at start commands) next_under living)
    ∙ ap (map (at start commands)) (sym (notes-counted start now commands release e))
    ∙ map_map (at start commands) (sent_under start.wrap) (sent_by start.first commands (notes_of start.first commands) (Ticks now))
  where
    living : List Entry
    living = alive now (subscribed_by start commands).living

-- ---- a tick

module _ (serving : Serving) (start : Start) (commands : List Command) (now : ℕ) (s : StandsFor serving start commands) where
  abbrev history : History
  history = scans_of start.first commands

  abbrev releases : List Release
  releases = releases_of start.first commands

  abbrev found : Option Release
  found = release_at now history releases

  next : next_span now serving.moderated ≡ option_map span_of found
  next = ap (next_span now) s.moderated ∙ next-is start.first now commands

  none-from : (o : Option Release) → option_map span_of o ≡ None → o ≡ None
  none-from None e = refl
  none-from (Some release) e = absurd (true≢false (ap is_some e))

  pub no-release : next_span now serving.moderated ≡ None → found ≡ None
  no-release e = none-from found (sym next ∙ e)

  some-from : (o : Option Release) (span : Span) → option_map span_of o ≡ Some span → (release : Release) × (o ≡ Some release) × (span_of release ≡ span)
  some-from None span e = none≢some None span refl e
  some-from (Some release) span e = (release, refl, (let same : span_of release ≡ span = cc in same))

  pub released : (span : Span) → next_span now serving.moderated ≡ Some span → (release : Release) × (found ≡ Some release) × (span_of release ≡ span)
  released span e = some-from found span (sym next ∙ e)

  -- nothing is due
  pub silent : next_span now serving.moderated ≡ None → (after : Booked) → BookStandsFor after start (Ticks now ∷ commands)
      → StandsFor (record { store = serving.store; book = after; moderated = serving.moderated; stopped = serving.stopped }) start (Ticks now ∷ commands)
  silent e after b = record {
    store = s.store;
    kept = s.kept ∙ ap (λ (o : Option Release). released_to start.first (and_release o releases)) (sym (no-release e));
    book = b;
    moderated = s.moderated
        ∙ ap (λ (o : Option Release). record {
          pending = above (released_to start.first (and_release o releases)) (spans_of start.first history.maps);
          moment = last_moment (and_release o releases);
          end = reached start.first (end_of history);
        }) (sym (no-release e));
    stopped = s.stopped;
  }

  pub none-due : next_span now serving.moderated ≡ None → due start commands now ≡ None
  none-due e = ap (option_map (notes_at start commands now)) (no-release e)

  -- a release
  module _ (span : Span) (e : next_span now serving.moderated ≡ Some span) where
    abbrev release : Release
    release = (released span e).0

    is : found ≡ Some release
    is = (released span e).1

    same : span_of release ≡ span
    same = (released span e).2

    parts : (release.from ≡ released_to start.first releases) × (release.to ≡ scan_end_within start.first (released_to start.first releases + release_size) history.maps)
    parts = release-is start.first now history releases release (first-is start.first commands) is

    pub begins : span.from ≡ serving.store.forgotten
    begins = ap (λ (t : Span). t.from) (sym same) ∙ parts.0 ∙ sym s.kept

    pub some-release : IsSome found
    some-release = subst IsSome (sym is) refl

    pub ends : span.to ≤ serving.store.standing.number
    ends =
        let below = stood-below start.first commands release.to
        (subst (Stood start.first commands) (sym parts.1) (within-stood start.first (released_to start.first releases + release_size) commands)) in
        let number = ap (λ (t : Standing). t.number) s.store.1 in
        let to = ap (λ (t : Span). t.to) same in
        omega (arith, below, number, to)

    pub stands-after : (store : Stored) (book : Booked) (moderated : Moderated) → span.from < span.to → StoreStandsFor store history
        → store.forgotten ≡ max serving.store.forgotten span.to → BookStandsFor book start (Ticks now ∷ commands) → moderated ≡ moderated_by start.first (Ticks now ∷ commands)
        → StandsFor (record { store = store; book = book; moderated = moderated; stopped = serving.stopped }) start (Ticks now ∷ commands)
    stands-after store book moderated some stored forgotten b m = record {
      store = stored;
      kept =
          (let from = begins in
          let to = ap (λ (t : Span). t.to) same in
          let now_ : store.forgotten ≡ release.to = omega (arith, forgotten, some, from, to) in
          now_)
          ∙ ap (λ (o : Option Release). released_to start.first (and_release o releases)) (sym is);
      book = b;
      moderated = m;
      stopped = s.stopped;
    }

    -- the body of its notes
    pub body-told : (body : List ℕ) → body ≡ propertyset_text span.to (containers_between history span.from span.to) (events_between history span.from span.to)
        → body ≡ body_of start commands release
    body-told body is_body =
        is_body
        ∙ (λ i. propertyset_text (sym same i).to (containers_between history (sym same i).from (sym same i).to) (events_between history (sym same i).from (sym same i).to))

    pub notes-due : (body : List ℕ) (to : List Address)
        → body ≡ propertyset_text span.to (containers_between history span.from span.to) (events_between history span.from span.to)
        → to ≡ map (address_of serving.book.names) (alive now serving.book.subscribed.living)
        → Some (record { span = span; body = body; to = to }) ≡ due start commands now
    notes-due body to body-is to-is =
        (λ i. Some (record { span = sym same i; body = body-told body body-is i; to = to-there i })) ∙ ap (option_map (notes_at start commands now)) (sym is)
      where
        to-there : to ≡ map (address_to start commands) (sent_by start.first commands (notes_of start.first commands) (Ticks now))
        to-there =
            to-is ∙ (λ i. map (address_of (s.book.names i)) (alive now (s.book.subscribed i).living)) ∙ addresses-are start commands now release is

-- a tick leaves what every server keeps
pub ticked-serving : (serving after : Serving) (now : ℕ) (kept : IsServing serving) → after.book.names ≡ serving.book.names
    → StandsFor after kept.start (Ticks now ∷ kept.commands) → IsServing after
ticked-serving serving after now kept names stands =
    let room = kept.room in
    record {
      start = kept.start;
      commands = Ticks now ∷ kept.commands;
      stands = stands;
      accepted = record { libraries = kept.accepted.libraries; few = kept.accepted.few; numbers = kept.accepted.numbers };
      room = omega (arith, names, room);
    }

-- ---- a scan without a change is not told

pub untold : (first : ℕ) (commands : List Command) (library : FolderMap) (span : Span) → span ≡ scan_span (scans_of first commands) library → span.to ≤ span.from
    → moderated_by first commands ≡ moderated_by first (Scans library ∷ commands)
untold first commands library span is less =
    let from = ap (λ (t : Span). t.from) is in
    let to = ap (λ (t : Span). t.to) is in
    let rise = ends_rise (scans_of first commands).first (library ∷ []) (scans_of first commands).maps in
    sym ((others first commands).0 library (omega (arith, from, to, less, rise)))

-- ---- one body tells all notes of a tick

pub notes-sent : notes_are_sent
notes-sent start commands now release e =
    subst (λ (o : Option Release). AllByRecursion Told (released_notes history o (notes_of start.first commands) names)) (sym e)
    (each-map Told (released_note history release (notes_of start.first commands)) names
    (each-all (λ n. Told (released_note history release (notes_of start.first commands) n)) (λ n. (refl, refl)) names))
  where
    history : History
    history = scans_of start.first commands

    names : List ℕ
    names = alive_names now commands

    Told : Note → Type 0
    Told note = (note.number ≡ release.to) × (note.events ≡ events_between history release.from release.to)
