-- The notes that were sent over the wire are those that the commands send, in order.
use Rattle.std.proofs.Common.{◌≡◌, ℕ, zero, suc, ◌+◌, ◌-◌, ◌≤◌, ◌<◌, ◌^◌, Bool, true, false, cond, nat_eq, List, [], ◌∷◌, ◌++◌, map, filter, length, drop, Option, Some, None, refl, ap, sym, subst, ◌∙◌, arith, append_assoc, ◌⊎◌, inl, inr}
use Rattle.std.specs.Prelude.{codes, slice_get, unwrap_or, option_map, IfSome}
use Rattle.std.specs.Fmt.{decimal}
use Rattle.std.specs.List.{AllByRecursion, range_with_len}
use Rattle.std.proofs.Math.Seq.{drop-append_seam}
use Rattle.std.proofs.lemmas.Bool.{cases_lt, eqb-false}
use Rattle.cds_object.specs.declared.record.Record.{Record}
use Rattle.cds_catalog.specs.Scans.{ScanAnswer, Accepted, BadRecord, TooMany, NoNumbers, scan_answer}
use Rattle.cds_catalog.specs.History.{History}
use Rattle.cds_commands.specs.Commands.{Command, Scans, Grants, Renews, Ends, Ticks, Stops, scans_of, AreAccepted}
use Rattle.cds_commands.specs.Releases.{Release, release_at, releases_of, released_containers}
use Rattle.cds_commands.specs.Subscriptions.{granted, is_alive, callback_of}
use Rattle.cds_commands.specs.Notes.{Note, next_place_of, alive_names, has_room, released_note, released_notes, sent_by, notes_of}
use Rattle.std.proofs.lemmas.Nat.{mod_below}
use Rattle.cds_commands.specs.Places.{seq_at}
use Rattle.cds_load.specs.declared.exchange.Shown.{Shown}
use Rattle.cds_follow.specs.Inbox.{Requests, accepted}
use Rattle.cds_notify.specs.Laws.{AreNumbers}
use Rattle.cds_server.specs.Due.{address_to, body_of, notes_at, due}
use Rattle.cds_server.specs.declared.notes.Notes.{Notes}
use Rattle.cds_script.specs.declared.reply.HeldReply.TheVariants.{Named, Refusal}
use Rattle.cds_script.specs.declared.turn.ScriptTurn.{ScriptTurn}
use Rattle.cds_script.specs.declared.turn.ScriptTurn.TheVariants.{Folder, Track, Tag, Scan, Load, Read, Ask, First, Wrap, At, Subscribe, Accept, Renew, Unsubscribe, Deliver, ReadFault}
use Rattle.cds_script.specs.Report.{Played, first_of, clock_of, records_since, notes_text, sent_note, sent_text, scanned, given_up, with_renewal, lives}
use Rattle.cds_script.specs.Script.{grant_at, granted_seconds, script_callback}
use Rattle.cds_replay.specs.Lines.{note_line, sent_lines}
use Rattle.cds_replay.specs.Sending.{SentNote, sent_to, sent_notes, sent_of}
use Rattle.cds_replay.specs.Session.{IsSentAs, AreSentAs, Telling, all_telling, containers_told, release_tells, tellings_by, tellings_of, script_start, script_names}
use Rattle.cds_replay.specs.Wired.{ReplayStep, turns_in, play_read, played_by}
use Rattle.cds_replay.proofs.Numbers.{release-numbers}

-- ---- lists of them

pub sent-append : (wrap : ℕ) (one more : List SentNote) (notes others : List Telling) → AreSentAs wrap one notes → AreSentAs wrap more others → AreSentAs wrap (one ++ more) (notes ++ others)
sent-append wrap [] more [] others are too = too
sent-append wrap [] more (note ∷ notes) others are too = absurd are
sent-append wrap (s ∷ one) more [] others are too = absurd are
sent-append wrap (s ∷ one) more (note ∷ notes) others are too = (are.0, sent-append wrap one more notes others are.1 too)

pub sent-same : (wrap : ℕ) (sent : List SentNote) (notes others : List Telling) → notes ≡ others → AreSentAs wrap sent notes → AreSentAs wrap sent others
sent-same wrap sent notes others same are = subst (AreSentAs wrap sent) same are

-- without their containers they are the notes
abbrev pub plain : List Telling → List Note
plain tellings = map (λ (telling : Telling). telling.note) tellings

telling-notes : (containers : List (ℕ × ℕ)) (notes : List Note) → plain (all_telling containers notes) ≡ notes
telling-notes containers [] = refl
telling-notes containers (note ∷ notes) = ap (λ l. note ∷ l) (telling-notes containers notes)

plain-append : (one more : List Telling) → plain (one ++ more) ≡ plain one ++ plain more
plain-append [] more = refl
plain-append (telling ∷ one) more = ap (λ l. telling.note ∷ l) (plain-append one more)

pub tellings-notes : (first : ℕ) (commands : List Command) → plain (tellings_of first commands) ≡ notes_of first commands
tellings-notes first [] = refl
tellings-notes first (command ∷ older) =
    plain-append (tellings_of first older) (tellings_by first older command)
    ∙ (λ i. tellings-notes first older i ++ telling-notes (containers_told first older command) (sent_by first older (notes_of first older) command) i)

sent-length : (wrap : ℕ) (sent : List SentNote) (notes : List Telling) → AreSentAs wrap sent notes → length sent ≡ length (plain notes)
sent-length wrap [] [] are = refl
sent-length wrap [] (note ∷ notes) are = absurd are
sent-length wrap (s ∷ sent) [] are = absurd are
sent-length wrap (s ∷ sent) (note ∷ notes) are = ap suc (sent-length wrap sent notes are.1)

pub sent-count : (wrap : ℕ) (sent : List SentNote) (first : ℕ) (commands : List Command) → AreSentAs wrap sent (tellings_of first commands) → length sent ≡ length (notes_of first commands)
sent-count wrap sent first commands are = sent-length wrap sent (tellings_of first commands) are ∙ ap length (tellings-notes first commands)

-- ---- their lines

last-three : (x a n l r : List ℕ) → x ++ a ++ n ++ l ++ r ≡ (x ++ (a ++ n ++ l)) ++ r
last-three x a n l r = ap (λ v. v ++ r) (ap (λ v. v ++ l) (append_assoc x a n) ∙ append_assoc x (a ++ n) l)

line-told : (k seq number : ℕ) (rest : List ℕ) →
    codes "note " ++ decimal k ++ codes " seq " ++ decimal seq ++ codes " at " ++ decimal number ++ codes "\n" ++ rest
    ≡ note_line k (record { seq = seq; number = number }) ++ rest
line-told k seq number rest = last-three (codes "note " ++ decimal k ++ codes " seq " ++ decimal seq) (codes " at ") (decimal number) (codes "\n") rest

lines-told : (wrap k : ℕ) (sent : List SentNote) (notes : List Telling) → AreSentAs wrap sent notes → sent_lines k sent ≡ notes_text wrap k (plain notes)
lines-told wrap k [] [] are = refl
lines-told wrap k [] (note ∷ notes) are = absurd are
lines-told wrap k (s ∷ sent) [] are = absurd are
lines-told wrap k (s ∷ sent) (note ∷ notes) are =
    (λ i. note_line k (record { seq = (are.0.to i).seq; number = are.0.number i }) ++ lines-told wrap (k + 1) sent notes are.1 i)
    ∙ sym (line-told k (seq_at wrap note.note.place) note.note.number (notes_text wrap (k + 1) (plain notes)))

-- the lines of those that were added
lines-after : (wrap : ℕ) (sent more : List SentNote) (notes others : List Telling) → AreSentAs wrap sent notes → AreSentAs wrap more others →
    sent_lines (length sent + 1) (drop (length sent) (sent ++ more)) ≡ notes_text wrap (length (plain notes) + 1) (plain others)
lines-after wrap sent more notes others are too =
    ap (sent_lines (length sent + 1)) (drop-append_seam sent more)
    ∙ lines-told wrap (length sent + 1) more others too
    ∙ ap (λ n. notes_text wrap (n + 1) (plain others)) (sent-length wrap sent notes are)

pub lines-added : (wrap : ℕ) (sent more : List SentNote) (first : ℕ) (commands : List Command) (command : Command) → AreSentAs wrap sent (tellings_of first commands) →
    AreSentAs wrap more (tellings_by first commands command) → sent_lines (length sent + 1) (drop (length sent) (sent ++ more)) ≡ sent_text wrap first commands command
lines-added wrap sent more first commands command are too =
    lines-after wrap sent more (tellings_of first commands) (tellings_by first commands command) are too
    ∙ (λ i. notes_text wrap (length (tellings-notes first commands i) + 1)
    (telling-notes (containers_told first commands command) (sent_by first commands (notes_of first commands) command) i))

pub lines-none : (wrap : ℕ) (sent more : List SentNote) (first : ℕ) (commands : List Command) → AreSentAs wrap sent (tellings_of first commands) → AreSentAs wrap more [] →
    sent_lines (length sent + 1) (drop (length sent) (sent ++ more)) ≡ []
lines-none wrap sent more first commands are too = lines-after wrap sent more (tellings_of first commands) [] are too

-- ---- the one of a number

abbrev pub IsAt : ℕ → Option SentNote → Option Note → Type 0
IsAt wrap None None = Unit {0}
IsAt wrap None (Some note) = ⊥
IsAt wrap (Some sent) None = ⊥
IsAt wrap (Some sent) (Some note) = (containers : List (ℕ × ℕ)) × IsSentAs wrap sent note containers

place-at : (wrap : ℕ) (sent : List SentNote) (notes : List Telling) → AreSentAs wrap sent notes → (n : ℕ) → IsAt wrap (slice_get sent n) (slice_get (plain notes) n)
place-at wrap [] [] are n = tt
place-at wrap [] (note ∷ notes) are n = absurd are
place-at wrap (s ∷ sent) [] are n = absurd are
place-at wrap (s ∷ sent) (note ∷ notes) are zero = (note.containers, are.0)
place-at wrap (s ∷ sent) (note ∷ notes) are (suc n) = place-at wrap sent notes are.1 n

pub number-at : (wrap : ℕ) (sent : List SentNote) (first : ℕ) (commands : List Command) → AreSentAs wrap sent (tellings_of first commands) → (number : ℕ) →
    IsAt wrap (sent_of number sent) (sent_note number (notes_of first commands))
number-at wrap sent first commands are number =
    subst (λ (notes : List Note). IsAt wrap (sent_of number sent) (sent_note number notes)) (tellings-notes first commands) (by (nat_eq number 0))
  where
    by : (b : Bool) → IsAt wrap (cond b None (slice_get sent (number - 1))) (cond b None (slice_get (plain (tellings_of first commands)) (number - 1)))
    by true = tt
    by false = place-at wrap sent (tellings_of first commands) are (number - 1)

-- ---- each grant of a script has its callback

abbrev pub AllCall : List Command → Type 0
AllCall [] = Unit {0}
AllCall (Scans library ∷ older) = AllCall older
AllCall (Grants moment callback seconds ∷ older) = (callback ≡ script_callback) × AllCall older
AllCall (Renews moment name seconds ∷ older) = AllCall older
AllCall (Ends moment name ∷ older) = AllCall older
AllCall (Ticks moment ∷ older) = AllCall older
AllCall (Stops ∷ older) = AllCall older

below : (m n : ℕ) → m ≤ n + 1 → (m ≡ n + 1 → ⊥) → m ≤ n
below m n l other = by (cases_lt m (n + 1))
  where
    by : (m < n + 1) ⊎ (n + 1 ≤ m) → m ≤ n
    by (inl less) = omega (arith, less)
    by (inr more) = absurd (other (omega (arith, l, more)))

call-given : (moment seconds name : ℕ) (callback : List ℕ) (older : List Command) → callback ≡ script_callback →
    (name ≤ granted older → callback_of name older ≡ Some script_callback) → name ≤ granted older + 1 →
    callback_of name (Grants moment callback seconds ∷ older) ≡ Some script_callback
call-given moment seconds name callback older is before low = by (nat_eq name (granted older + 1)) refl
  where
    by : (b : Bool) → nat_eq name (granted older + 1) ≡ b → cond b (Some callback) (callback_of name older) ≡ Some script_callback
    by true e = ap Some is
    by false e = before (below name (granted older) low (eqb-false name (granted older + 1) e))

pub called : (name : ℕ) (commands : List Command) → AllCall commands → 1 ≤ name → name ≤ granted commands → callback_of name commands ≡ Some script_callback
called name [] all some low = absurd (omega (arith, some, low))
called name (Scans library ∷ older) all some low = called name older all some low
called name (Grants moment callback seconds ∷ older) all some low = call-given moment seconds name callback older all.0 (λ l. called name older all.1 some l) low
called name (Renews moment other seconds ∷ older) all some low = called name older all some low
called name (Ends moment other ∷ older) all some low = called name older all some low
called name (Ticks moment ∷ older) all some low = called name older all some low
called name (Stops ∷ older) all some low = called name older all some low

scanned-call : (answer : ScanAnswer) (records : List Record) (commands : List Command) → AllCall commands → AllCall (scanned answer records commands)
scanned-call Accepted records commands all = all
scanned-call (BadRecord line) records commands all = all
scanned-call (TooMany objects) records commands all = all
scanned-call (NoNumbers needed) records commands all = all

ended-call : (first now : ℕ) (commands : List Command) (o : Option ℕ) → AllCall commands → AllCall (given_up o now commands)
ended-call first now commands None all = all
ended-call first now commands (Some name) all = by (lives name now commands)
  where
    by : (b : Bool) → AllCall (cond b (Ends now name ∷ commands) commands)
    by true = all
    by false = all

renewed-call : (first now : ℕ) (commands : List Command) (o : Option ℕ) → AllCall commands → AllCall (with_renewal o now commands)
renewed-call first now commands None all = all
renewed-call first now commands (Some name) all = by (lives name now commands)
  where
    by : (b : Bool) → AllCall (cond b (Renews now name granted_seconds ∷ commands) commands)
    by true = all
    by false = all

one-call : (read : Option Shown) (first now : ℕ) (records : List Record) (p : Played) (turn : ScriptTurn) → AllCall p.commands →
    AllCall (play_read read first now records p turn).commands
one-call read first now records p (Folder path) all = all
one-call read first now records p (Track path info size) all = all
one-call read first now records p (Tag comment) all = all
one-call read first now records p Scan all = scanned-call (scan_answer (scans_of first p.commands) records) records p.commands all
one-call read first now records p Load all = all
one-call read first now records p Read all = all
one-call read first now records p Ask all = all
one-call read first now records p (First number) all = all
one-call read first now records p (Wrap number) all = all
one-call read first now records p (At moment) all = all
one-call read first now records p Subscribe all = by (has_room now p.commands)
  where
    granting : Played
    granting = record p { commands = grant_at now ∷ p.commands; replica = Requests ∷ p.replica; reply = Named (granted p.commands + 1) }

    refusing : Played
    refusing = record p { replica = Requests ∷ p.replica; reply = Refusal }

    by : (b : Bool) → AllCall (cond b granting refusing).commands
    by true = (refl, all)
    by false = all
one-call read first now records p Accept all = all
one-call read first now records p Renew all = renewed-call first now p.commands (accepted p.replica) all
one-call read first now records p Unsubscribe all = ended-call first now p.commands (accepted p.replica) all
one-call read first now records p (Deliver note) all = all
one-call read first now records p ReadFault all = all

pub steps-call : (steps : List ReplayStep) → AllCall (played_by steps).commands
steps-call [] = tt
steps-call (step ∷ older) =
    one-call step.read (first_of (turns_in older)) (clock_of (turns_in older)) (records_since (turns_in older)) (played_by older) step.turn (steps-call older)

-- ---- the notes of a tick

-- the names of subscriptions that live are those of grants
pub record IsLiving (commands : List Command) (name : ℕ) : Type 0 where
  pub some : 1 ≤ name
  pub low : name ≤ granted commands

each-living : (test : ℕ → Bool) (P : ℕ → Type 0) (from many most : ℕ) → from + many ≤ most + 1 → ((n : ℕ) → from ≤ n → n ≤ most → test n ≡ true → P n) →
    AllByRecursion P (filter test (range_with_len from many))
each-living test P from zero most l holds = tt
each-living test P from (suc many) most l holds =
    by (test from) refl (each-living test P (from + 1) many most (omega (arith, l)) (λ n low high is. holds n (omega (arith, low)) high is))
  where
    Rest : List ℕ
    Rest = filter test (range_with_len (from + 1) many)

    by : (b : Bool) → test from ≡ b → AllByRecursion P Rest → AllByRecursion P (cond b (from ∷ Rest) Rest)
    by true e rest = (holds from (omega arith) (omega (arith, l)) e, rest)
    by false e rest = rest

pub all-living : (now : ℕ) (commands : List Command) → AllByRecursion (IsLiving commands) (alive_names now commands)
all-living now commands =
    each-living (λ name. is_alive name now commands) (IsLiving commands) 1 (granted commands) (granted commands) (omega arith)
    (λ n low high is. record { some = low; low = high })

-- a SEQ is not above the wrap
pub seq-low : (wrap place : ℕ) → 0 < wrap → wrap ≤ 4294967295 → seq_at wrap place < 2 ^ 32
seq-low wrap zero some low = omega arith
seq-low wrap (suc k) some low = let below = mod_below k wrap some in omega (arith, below, low)

module _ (wrap first : ℕ) (some : 0 < wrap) (low : wrap ≤ 4294967295) (commands : List Command) (release : Release) (all : AllCall commands) (few : granted commands < 2 ^ 32)
    (numbers : AreNumbers release.to (released_containers (scans_of first commands) release) (Rattle.cds_changes.specs.Events.events_between (scans_of first commands) release.from release.to))
    (short : length (body_of (script_start wrap first) commands release) < 66000000) where
  abbrev notes : List Note
  notes = notes_of first commands

  one-sent : (name : ℕ) → IsLiving commands name →
      IsSentAs wrap (sent_to release.to (body_of (script_start wrap first) commands release) (address_to (script_start wrap first) commands (released_note (scans_of first commands) release notes name)))
      (released_note (scans_of first commands) release notes name) (released_containers (scans_of first commands) release)
  one-sent name is = record {
    to = ap (λ (o : Option (List ℕ)). record { sid = record { 0 = script_names name }; callback = unwrap_or o []; seq = seq_at wrap (next_place_of name notes) })
        (called name commands all is.some is.low);
    number = refl;
    body = refl;
    numbers = numbers;
    short = short;
    name = let l = is.low in omega (arith, l, few);
    seq = seq-low wrap (next_place_of name notes) some low;
  }

  pub all-sent : (names : List ℕ) → AllByRecursion (IsLiving commands) names →
      AreSentAs wrap
      (map (sent_to release.to (body_of (script_start wrap first) commands release)) (map (address_to (script_start wrap first) commands) (map (released_note (scans_of first commands) release notes) names)))
      (all_telling (released_containers (scans_of first commands) release) (map (released_note (scans_of first commands) release notes) names))
  all-sent [] living = tt
  all-sent (name ∷ names) living = (one-sent name living.0, all-sent names living.1)

-- the body of its notes is short
abbrev pub IsShort : Option Notes → Type 0
IsShort o = IfSome o (λ (notes : Notes). length notes.body < 66000000)

pub tick-sent : (wrap first now : ℕ) → 0 < wrap → wrap ≤ 4294967295 → (commands : List Command) (o : Option Notes) → AllCall commands → granted commands < 2 ^ 32 → AreAccepted first commands →
    o ≡ due (script_start wrap first) commands now → IsShort o → AreSentAs wrap (sent_notes o) (tellings_by first commands (Ticks now))
tick-sent wrap first now some low commands o all few accepted is short =
    by (release_at now history (releases_of first commands)) refl (subst (λ (n : Option Notes). IsShort n) is short)
    (λ (r : Option Release) (e : release_at now history (releases_of first commands) ≡ r).
    is ∙ ap (λ (x : Option Release). option_map (notes_at (script_start wrap first) commands now) x) e)
  where
    history : History
    history = scans_of first commands

    names : List ℕ
    names = alive_names now commands

    sends : (r : Option Release) → List Note
    sends r = released_notes history r (notes_of first commands) names

    tells : (r : Option Release) → List Telling
    tells r = all_telling (release_tells history r) (sends r)

    by : (r : Option Release) → release_at now history (releases_of first commands) ≡ r → IsShort (due (script_start wrap first) commands now) →
        ((r : Option Release) → release_at now history (releases_of first commands) ≡ r → o ≡ option_map (notes_at (script_start wrap first) commands now) r) →
        AreSentAs wrap (sent_notes o) (tellings_by first commands (Ticks now))
    by None e s told = subst (λ (x : Option Notes). AreSentAs wrap (sent_notes x) (tells (release_at now history (releases_of first commands)))) (sym (told None e))
        (subst (λ (x : Option Release). AreSentAs wrap [] (tells x)) (sym e) tt)
    by (Some release) e s told =
        subst (λ (x : Option Notes). AreSentAs wrap (sent_notes x) (tells (release_at now history (releases_of first commands)))) (sym (told (Some release) e))
        (subst (λ (x : Option Release). AreSentAs wrap (sent_notes (Some (notes_at (script_start wrap first) commands now release))) (tells x)) (sym e)
        (subst (λ (l : List Note). AreSentAs wrap (map (sent_to release.to (body_of (script_start wrap first) commands release)) (map (address_to (script_start wrap first) commands) l)) (tells (Some release)))
        (ap sends (sym e))
        (all-sent wrap first some low commands release all few (release-numbers now history (releases_of first commands) release accepted.numbers e)
        (subst (λ (x : Option Release). IsShort (option_map (notes_at (script_start wrap first) commands now) x)) e s)
        names (all-living now commands))))
