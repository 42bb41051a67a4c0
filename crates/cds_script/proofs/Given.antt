-- The replica of a script is one of an honest server.
use Rattle.std.proofs.Common.{◌≡◌, ◌⊎◌, inl, inr, ℕ, zero, suc, ◌+◌, ◌-◌, ◌<◌, ◌≤◌, List, [], ◌∷◌, length, drop, Bool, true, false, cond, nat_lt, refl, ap, sym, subst, ◌∙◌, arith, length-append, ltb-false, Option, Some, None}
use Rattle.std.specs.List.{Contains, slice_get}
use Rattle.std.proofs.lemmas.Bool.{ne_eqb}
use Rattle.std.proofs.lemmas.Option.{slice_get_within, get_or_from_slice_get}
use Rattle.cds_object.specs.declared.record.Record.{Record}
use Rattle.cds_catalog.specs.Library.{found, map_of}
use Rattle.cds_catalog.specs.History.{History, latest, changes_of, end_of}
use Rattle.cds_catalog.specs.Scans.{Accepted, TooMany, NoNumbers, bad_record, needed_by, answer_by, scan_answer}
use Rattle.cds_catalog.proofs.Accepted.{accepted_map}
use Rattle.cds_load.specs.Server.{Moment, reply_to}
use Rattle.cds_load.specs.declared.exchange.Ask.{Ask as Asked}
use Rattle.cds_commands.specs.Commands.{Command, Scans, Grants, Renews, Ends, Ticks, Stops, scans_of, oldest, AreAccepted}
use Rattle.cds_commands.specs.Notes.{Note, has_room, notes_of}
use Rattle.cds_commands.specs.Subscriptions.{granted}
use Rattle.cds_follow.specs.Inbox.{ReplicaTurn, Begins, Shows, Requests, Accepts, Refuses, Delivers, accepted, is_out}
use Rattle.cds_follow.specs.Follow.{is_refused, and_turn, known_by, next_ask}
use Rattle.cds_follow.specs.Given.{moment_after, Entry, Starts, Asks, Calls, Granted, Denied, Gets, asked_at, given_by, latest_length, length_before_call, IsGiven}
use Rattle.cds_script.specs.declared.turn.ScriptTurn.{ScriptTurn}
use Rattle.cds_script.specs.declared.turn.ScriptTurn.TheVariants.{Folder, Track, Tag, Scan, Load, Read, Ask, First, Wrap, At, Subscribe, Accept, Renew, Unsubscribe, Deliver, ReadFault}
use Rattle.cds_script.specs.Report.{number_of, first_of, clock_of, records_since, Played, scanned, after_reply, after_note, reaching, sent_note, lives, given_up, with_renewal, play, played, script_token}
use Rattle.cds_script.specs.ScriptGiven.{scripts_are_given}
use Rattle.cds_script.specs.Played.{AllStand}
use Rattle.cds_script.proofs.Wrapped.{Reaches, next-reaches}
use Rattle.cds_script.specs.declared.reply.HeldReply.{HeldReply}
use Rattle.cds_script.specs.declared.reply.HeldReply.TheVariants.{NoReply, Named, Refusal}
use Rattle.cds_script.specs.Script.{grant_at, granted_seconds}

-- ---- the oldest commands

pub oldest-more : (k : ℕ) (command : Command) (commands : List Command) → k ≤ length commands → oldest k (command ∷ commands) ≡ oldest k commands
oldest-more k command commands low =
    let e : suc (length commands) - k ≡ suc (length commands - k) = omega (arith, low) in ap (λ (m : ℕ). drop m (command ∷ commands)) e

pub oldest-all : (commands : List Command) → oldest (length commands) commands ≡ commands
oldest-all commands = let e : length commands - length commands ≡ 0 = omega arith in ap (λ (m : ℕ). drop m commands) e

pub granted-rises : (command : Command) (commands : List Command) → granted commands ≤ granted (command ∷ commands)
granted-rises (Scans library) commands = omega arith
granted-rises (Grants moment callback seconds) commands = omega arith
granted-rises (Renews moment name seconds) commands = omega arith
granted-rises Stops commands = omega arith
granted-rises (Ends moment name) commands = omega arith
granted-rises (Ticks moment) commands = omega arith

pub granted-dropped : (n : ℕ) (commands : List Command) → granted (drop n commands) ≤ granted commands
granted-dropped zero commands = omega arith
granted-dropped (suc n) [] = omega arith
granted-dropped (suc n) (command ∷ commands) =
    let rest = granted-dropped n commands in let rise = granted-rises command commands in omega (arith, rest, rise)

-- ---- more commands leave what was given

call-low : (first : ℕ) (commands : List Command) (entries : List Entry) → IsGiven script_token first commands entries → length_before_call entries ≤ latest_length entries
call-low first commands [] given = omega arith
call-low first commands (Starts k ∷ older) given = let low = given.0 in let rest = call-low first commands older given.2 in omega (arith, low, rest)
call-low first commands (Asks k ∷ older) given = let low = given.0 in let rest = call-low first commands older given.2 in omega (arith, low, rest)
call-low first commands (Calls k ∷ older) given = given.0
call-low first commands (Granted k name ∷ older) given = let low = given.0 in let rest = call-low first commands older given.2 in omega (arith, low, rest)
call-low first commands (Denied k ∷ older) given = let low = given.0 in let rest = call-low first commands older given.2 in omega (arith, low, rest)
call-low first commands (Gets k note ∷ older) given = let low = given.0 in let rest = call-low first commands older given.2 in omega (arith, low, rest)

module _ (first : ℕ) (command : Command) (commands : List Command) where
  abbrev Stays : List Entry → Type 0
  Stays entries = IsGiven script_token first (command ∷ commands) entries × (given_by script_token first (command ∷ commands) entries ≡ given_by script_token first commands entries)

  given-more : (entries : List Entry) → IsGiven script_token first commands entries → latest_length entries ≤ length commands → Stays entries
  given-more [] given low = (tt, refl)
  given-more (Starts k ∷ older) given low =
      let under = given.0 in let rest = given-more older given.2 (omega (arith, under, low)) in
      ((given.0, tt, rest.0), ap (λ turns. Begins ∷ turns) rest.1)
  given-more (Asks k ∷ older) given low =
      let under = given.0 in let rest = given-more older given.2 (omega (arith, under, low)) in
      let same : oldest k (command ∷ commands) ≡ oldest k commands = oldest-more k command commands low in
      ((given.0, tt, rest.0), λ i. asked_at (moment_after script_token first (same i)) (rest.1 i) (next_ask (known_by (rest.1 i))))
  given-more (Calls k ∷ older) given low =
      let under = given.0 in let rest = given-more older given.2 (omega (arith, under, low)) in
      ((given.0, tt, rest.0), ap (λ turns. Requests ∷ turns) rest.1)
  given-more (Granted k name ∷ older) given low =
      let under = given.0 in let rest = given-more older given.2 (omega (arith, under, low)) in
      let call = call-low first commands older given.2 in
      let before : oldest (length_before_call older) (command ∷ commands) ≡ oldest (length_before_call older) commands =
      oldest-more (length_before_call older) command commands (omega (arith, call, under, low)) in (
        (
          given.0,
          (
            ap is_out rest.1 ∙ given.1.0,
            subst (λ (cs : List Command). granted cs < name) (sym before) given.1.1,
            subst (λ (cs : List Command). name ≤ granted cs) (sym (oldest-more k command commands low)) given.1.2,
          ),
          rest.0,
        ),
        ap (and_turn (Accepts name)) rest.1,
      )
  given-more (Denied k ∷ older) given low =
      let under = given.0 in let rest = given-more older given.2 (omega (arith, under, low)) in
      ((given.0, tt, rest.0), ap (λ turns. Refuses ∷ turns) rest.1)
  given-more (Gets k note ∷ older) given low =
      let under = given.0 in let rest = given-more older given.2 (omega (arith, under, low)) in
      ((given.0, subst (λ (cs : List Command). Contains (notes_of first cs) note) (sym (oldest-more k command commands low)) given.1, rest.0), ap (and_turn (Delivers note)) rest.1)

-- ---- a request that is out stays out

pub out-and : (turn : ReplicaTurn) (turns : List ReplicaTurn) → is_out (turn ∷ turns) ≡ is_out turns → is_out (and_turn turn turns) ≡ is_out turns
out-and turn turns e = by (is_refused turn turns)
  where
    by : (b : Bool) → is_out (cond b turns (turn ∷ turns)) ≡ is_out turns
    by true = refl
    by false = e

pub out-asked : (moment : Moment) (turns : List ReplicaTurn) (o : Option Asked) → is_out (asked_at moment turns o) ≡ is_out turns
out-asked moment turns None = refl
out-asked moment turns (Some ask) = out-and (Shows (reply_to moment ask)) turns refl

-- ---- a note of a number is among those that were sent

-- it stands at the place below its number
pub sent-place : (n : ℕ) (notes : List Note) → sent_note (suc n) notes ≡ slice_get notes n
sent-place n notes = ap (λ b. cond b None (slice_get notes (suc n - 1))) (ne_eqb (suc n) 0 (λ e. omega (arith, e))) ∙ ap (λ (m : ℕ). slice_get notes m) less
  where
    less : suc n - 1 ≡ n
    less = omega arith

pub sent-contained : (number : ℕ) (notes : List Note) (note : Note) → sent_note number notes ≡ Some note → Contains notes note
sent-contained zero notes note e = absurd (cc)
sent-contained (suc n) notes note e =
    let there = sym (sent-place n notes) ∙ e in (n, slice_get_within notes n note there, get_or_from_slice_get notes n note note there)

-- ---- a scan that is accepted

abbrev pub ScannedCases : History → List Record → List Command → List Command → Type 0
ScannedCases history records commands now = (now ≡ commands)
    ⊎ ((bad_record records ≡ None) × (length records ≤ 65535) × (end_of history + needed_by history records ≤ 4294967295) × (now ≡ Scans (map_of records) ∷ commands))

pub scanned-cases : (history : History) (records : List Record) (commands : List Command) → ScannedCases history records commands (scanned (scan_answer history records) records commands)
scanned-cases history records commands = by (bad_record records) refl
  where
    by_test : (b c : Bool) → nat_lt 65535 (length records) ≡ b → nat_lt 4294967295 (end_of history + needed_by history records) ≡ c → bad_record records ≡ None →
        ScannedCases history records commands (scanned (cond b (TooMany (length records)) (cond c (NoNumbers (needed_by history records)) Accepted)) records commands)
    by_test true c l m e = inl refl
    by_test false true l m e = inl refl
    by_test false false l m e = inr (e, ltb-false 65535 (length records) l, ltb-false 4294967295 (end_of history + needed_by history records) m, refl)

    by : (o : Option ℕ) → bad_record records ≡ o → ScannedCases history records commands (scanned (answer_by history records o) records commands)
    by (Some line) e = inl refl
    by None e = by_test _ _ refl refl e

pub scan-accepted : (first : ℕ) (records : List Record) (commands : List Command) → AreAccepted first commands → bad_record records ≡ None → length records ≤ 65535 →
    end_of (scans_of first commands) + needed_by (scans_of first commands) records ≤ 4294967295 → AreAccepted first (Scans (map_of records) ∷ commands)
scan-accepted first records commands a good few most =
    let map = accepted_map records good in
    let history : History = scans_of first commands in
    let parts = length-append (found (latest history.maps) (map_of records)) (changes_of history.maps) in
    let long = map.1 in
    record {
      libraries = (map.0, a.libraries);
      few = (omega (arith, long, few), a.few);
      numbers = omega (arith, parts, most);
    }

-- ---- what a script keeps

-- the reply that is held back: a request is out, and a name was granted after all that was given before the request
abbrev pub Waits : List Command → List Entry → List ReplicaTurn → HeldReply → Type 0
Waits commands entries replica NoReply = Unit {0}
Waits commands entries replica Refusal = is_out replica ≡ true
Waits commands entries replica (Named name) =
    (is_out replica ≡ true) × (granted (oldest (length_before_call entries) commands) < name) × (name ≤ granted commands)

pub record Kept (first : ℕ) (p : Played) : Type 0 where
  pub accepted : AreAccepted first p.commands
  pub entries : List Entry
  pub given : IsGiven script_token first p.commands entries
  pub are : p.replica ≡ given_by script_token first p.commands entries
  pub within : latest_length entries ≤ length p.commands
  pub waits : Waits p.commands entries p.replica p.reply

-- one more command
more-waits : (command : Command) (commands : List Command) (entries : List Entry) (replica : List ReplicaTurn) → length_before_call entries ≤ length commands →
    (reply : HeldReply) → Waits commands entries replica reply → Waits (command ∷ commands) entries replica reply
more-waits command commands entries replica low NoReply w = tt
more-waits command commands entries replica low Refusal w = w
more-waits command commands entries replica low (Named name) w =
    let rise = granted-rises command commands in let high = w.2 in (
      w.0,
      subst (λ (cs : List Command). granted cs < name) (sym (oldest-more (length_before_call entries) command commands low)) w.1,
      omega (arith, rise, high),
    )

more-command : (first : ℕ) (p : Played) (command : Command) → Kept first p → AreAccepted first (command ∷ p.commands) → Kept first (record p { commands = command ∷ p.commands })
more-command first p command kept a =
    let stays = given-more first command p.commands kept.entries kept.given kept.within in
    let within = kept.within in
    let call = call-low first p.commands kept.entries kept.given in
    record {
      accepted = a;
      entries = kept.entries;
      given = stays.0;
      are = kept.are ∙ sym stays.1;
      within = omega (arith, within);
      waits = more-waits command p.commands kept.entries p.replica (omega (arith, call, within)) p.reply kept.waits;
    }

-- turns that leave the request leave what is held back
same-waits : (commands : List Command) (entries now : List Entry) (replica then : List ReplicaTurn) → length_before_call now ≡ length_before_call entries →
    is_out then ≡ is_out replica → (reply : HeldReply) → Waits commands entries replica reply → Waits commands now then reply
same-waits commands entries now replica then calls out NoReply w = tt
same-waits commands entries now replica then calls out Refusal w = out ∙ w
same-waits commands entries now replica then calls out (Named name) w =
    (out ∙ w.0, subst (λ (k : ℕ). granted (oldest k commands) < name) (sym calls) w.1, w.2)

load-kept : (first : ℕ) (p : Played) → Kept first p → Kept first (record p { replica = Begins ∷ p.replica })
load-kept first p kept = record {
  accepted = kept.accepted;
  entries = Starts (length p.commands) ∷ kept.entries;
  given = (kept.within, tt, kept.given);
  are = ap (λ turns. Begins ∷ turns) kept.are;
  within = omega arith;
  waits = same-waits p.commands kept.entries (Starts (length p.commands) ∷ kept.entries) p.replica (Begins ∷ p.replica) refl refl p.reply kept.waits;
}

read-kept : (first : ℕ) (p : Played) → Kept first p →
    Kept first (record p { replica = asked_at (moment_after script_token first p.commands) p.replica (next_ask (known_by p.replica)) })
read-kept first p kept = record {
  accepted = kept.accepted;
  entries = Asks (length p.commands) ∷ kept.entries;
  given = (kept.within, tt, kept.given);
  are = λ i. asked_at (moment_after script_token first (sym (oldest-all p.commands) i)) (kept.are i) (next_ask (known_by (kept.are i)));
  within = omega arith;
  waits = same-waits p.commands kept.entries (Asks (length p.commands) ∷ kept.entries) p.replica
      (asked_at (moment_after script_token first p.commands) p.replica (next_ask (known_by p.replica))) refl
      (out-asked (moment_after script_token first p.commands) p.replica (next_ask (known_by p.replica))) p.reply kept.waits;
}

-- the same turns of the replica, under whichever wrap
same-kept : (first wrap : ℕ) (p : Played) → Kept first p → Kept first (record p { wrap = wrap })
same-kept first wrap p kept = record {
  accepted = kept.accepted;
  entries = kept.entries;
  given = kept.given;
  are = kept.are;
  within = kept.within;
  waits = kept.waits;
}

sent-kept : (first : ℕ) (p : Played) (note : Note) → Contains (notes_of first p.commands) note → Kept first p → Kept first (record p { replica = and_turn (Delivers note) p.replica })
sent-kept first p note sent kept = record {
  accepted = kept.accepted;
  entries = Gets (length p.commands) note ∷ kept.entries;
  given = (kept.within, subst (λ (cs : List Command). Contains (notes_of first cs) note) (sym (oldest-all p.commands)) sent, kept.given);
  are = ap (and_turn (Delivers note)) kept.are;
  within = omega arith;
  waits = same-waits p.commands kept.entries (Gets (length p.commands) note ∷ kept.entries) p.replica (and_turn (Delivers note) p.replica) refl
      (out-and (Delivers note) p.replica refl) p.reply kept.waits;
}

-- a note that reaches the replica was sent, or is refused
note-kept : (first : ℕ) (p : Played) (o : Option Note) → ((note : Note) → o ≡ Some note → Contains (notes_of first p.commands) note ⊎ (is_refused (Delivers note) p.replica ≡ true)) →
    Kept first p → Kept first (record p { replica = after_note o p.replica })
note-kept first p None sent kept = same-kept first p.wrap p kept
note-kept first p (Some note) sent kept = by (sent note refl)
  where
    by : Contains (notes_of first p.commands) note ⊎ (is_refused (Delivers note) p.replica ≡ true) → Kept first (record p { replica = and_turn (Delivers note) p.replica })
    by (inl c) = sent-kept first p note c kept
    by (inr refused) =
        subst (λ (b : Bool). Kept first (record p { replica = cond b p.replica (Delivers note ∷ p.replica) })) (sym refused) (same-kept first p.wrap p kept)

refused-kept : (first : ℕ) (p : Played) → Kept first p → Kept first (record p { replica = Requests ∷ p.replica; reply = Refusal })
refused-kept first p kept = record {
  accepted = kept.accepted;
  entries = Calls (length p.commands) ∷ kept.entries;
  given = (kept.within, tt, kept.given);
  are = ap (λ turns. Requests ∷ turns) kept.are;
  within = omega arith;
  waits = refl;
}

granted-kept : (first now : ℕ) (p : Played) → Kept first p →
    Kept first (record p { commands = grant_at now ∷ p.commands; replica = Requests ∷ p.replica; reply = Named (granted p.commands + 1) })
granted-kept first now p kept =
    let a = kept.accepted in
    let stays = given-more first (grant_at now) p.commands kept.entries kept.given kept.within in
    let within = kept.within in
    let before = granted-dropped (length p.commands - latest_length kept.entries) p.commands in
    record {
      accepted = record { libraries = a.libraries; few = a.few; numbers = a.numbers };
      entries = Calls (length p.commands) ∷ kept.entries;
      given = (kept.within, tt, stays.0);
      are = ap (λ turns. Requests ∷ turns) (kept.are ∙ sym stays.1);
      within = omega arith;
      waits = (
        refl,
        subst (λ (cs : List Command). granted cs < granted p.commands + 1) (sym (oldest-more (latest_length kept.entries) (grant_at now) p.commands within)) (omega (arith, before)),
        omega arith,
      );
    }

accept-kept : (first wrap : ℕ) (commands : List Command) (replica : List ReplicaTurn) (reply : HeldReply) →
    Kept first (record { commands = commands; replica = replica; reply = reply; wrap = wrap }) →
    Kept first (record { commands = commands; replica = after_reply reply replica; reply = NoReply; wrap = wrap })
accept-kept first wrap commands replica NoReply kept = record {
  accepted = kept.accepted;
  entries = kept.entries;
  given = kept.given;
  are = kept.are;
  within = kept.within;
  waits = tt;
}
accept-kept first wrap commands replica Refusal kept = record {
  accepted = kept.accepted;
  entries = Denied (length commands) ∷ kept.entries;
  given = (kept.within, tt, kept.given);
  are = ap (λ turns. Refuses ∷ turns) kept.are;
  within = omega arith;
  waits = tt;
}
accept-kept first wrap commands replica (Named name) kept = record {
  accepted = kept.accepted;
  entries = Granted (length commands) name ∷ kept.entries;
  given = (
    kept.within,
    (
      ap is_out (sym kept.are) ∙ kept.waits.0,
      kept.waits.1,
      subst (λ (cs : List Command). name ≤ granted cs) (sym (oldest-all commands)) kept.waits.2,
    ),
    kept.given,
  );
  are = ap (and_turn (Accepts name)) kept.are;
  within = omega arith;
  waits = tt;
}

same-commands : (first : ℕ) (p : Played) (commands : List Command) → commands ≡ p.commands → Kept first p → Kept first (record p { commands = commands })
same-commands first p commands e kept =
    subst (λ (cs : List Command). Kept first (record p { commands = cs })) (sym e)
    (record { accepted = kept.accepted; entries = kept.entries; given = kept.given; are = kept.are; within = kept.within; waits = kept.waits })

scan-kept : (first : ℕ) (records : List Record) (p : Played) → Kept first p →
    Kept first (record p { commands = scanned (scan_answer (scans_of first p.commands) records) records p.commands })
scan-kept first records p kept = by _ (scanned-cases (scans_of first p.commands) records p.commands)
  where
    by : (now : List Command) → ScannedCases (scans_of first p.commands) records p.commands now → Kept first (record p { commands = now })
    by now (inl e) = same-commands first p now e kept
    by now (inr e) =
        subst (λ (cs : List Command). Kept first (record p { commands = cs })) (sym e.3)
        (more-command first p (Scans (map_of records)) kept (scan-accepted first records p.commands kept.accepted e.0 e.1 e.2))

tick-kept : (first moment : ℕ) (p : Played) → Kept first p → Kept first (record p { commands = Ticks moment ∷ p.commands })
tick-kept first moment p kept =
    let a = kept.accepted in more-command first p (Ticks moment) kept (record { libraries = a.libraries; few = a.few; numbers = a.numbers })

given_up-kept : (first now : ℕ) (p : Played) (o : Option ℕ) → Kept first p → Kept first (record p { commands = given_up o now p.commands })
given_up-kept first now p None kept = same-commands first p p.commands refl kept
given_up-kept first now p (Some name) kept = by (lives name now p.commands)
  where
    by : (b : Bool) → Kept first (record p { commands = cond b (Ends now name ∷ p.commands) p.commands })
    by true = let a = kept.accepted in more-command first p (Ends now name) kept (record { libraries = a.libraries; few = a.few; numbers = a.numbers })
    by false = same-commands first p p.commands refl kept

renewal-kept : (first now : ℕ) (p : Played) (o : Option ℕ) → Kept first p → Kept first (record p { commands = with_renewal o now p.commands })
renewal-kept first now p None kept = same-commands first p p.commands refl kept
renewal-kept first now p (Some name) kept = by (lives name now p.commands)
  where
    by : (b : Bool) → Kept first (record p { commands = cond b (Renews now name granted_seconds ∷ p.commands) p.commands })
    by true =
        let a = kept.accepted in
        more-command first p (Renews now name granted_seconds) kept (record { libraries = a.libraries; few = a.few; numbers = a.numbers })
    by false = same-commands first p p.commands refl kept

step : (first now : ℕ) (records : List Record) (p : Played) → Kept first p → (turn : ScriptTurn) → Reaches first p turn → Kept first (play first now records p turn)
step first now records p kept (Folder path) reaches = kept
step first now records p kept (Track path info size) reaches = kept
step first now records p kept (Tag comment) reaches = kept
step first now records p kept Scan reaches = scan-kept first records p kept
step first now records p kept Load reaches = load-kept first p kept
step first now records p kept Read reaches = read-kept first p kept
step first now records p kept Ask reaches = kept
step first now records p kept (First number) reaches = kept
step first now records p kept (Wrap number) reaches = same-kept first number p kept
step first now records p kept (At moment) reaches = tick-kept first moment p kept
step first now records p kept Subscribe reaches = by (has_room now p.commands)
  where
    by : (b : Bool) → Kept first (cond b
        (record p { commands = grant_at now ∷ p.commands; replica = Requests ∷ p.replica; reply = Named (granted p.commands + 1) })
        (record p { replica = Requests ∷ p.replica; reply = Refusal }))
    by true = granted-kept first now p kept
    by false = refused-kept first p kept
step first now records p kept Accept reaches = accept-kept first p.wrap p.commands p.replica p.reply (record {
  accepted = kept.accepted;
  entries = kept.entries;
  given = kept.given;
  are = kept.are;
  within = kept.within;
  waits = kept.waits;
})
step first now records p kept Renew reaches = renewal-kept first now p (accepted p.replica) kept
step first now records p kept Unsubscribe reaches = given_up-kept first now p (accepted p.replica) kept
step first now records p kept (Deliver note) reaches =
    note-kept first p (reaching p.wrap p.replica (sent_note note (notes_of first p.commands))) from kept
  where
    from : (n : Note) → reaching p.wrap p.replica (sent_note note (notes_of first p.commands)) ≡ Some n → Contains (notes_of first p.commands) n ⊎ (is_refused (Delivers n) p.replica ≡ true)
    from n e = by (reaches n e)
      where
        by : (sent_note note (notes_of first p.commands) ≡ Some n) ⊎ (is_refused (Delivers n) p.replica ≡ true) → Contains (notes_of first p.commands) n ⊎ (is_refused (Delivers n) p.replica ≡ true)
        by (inl sent) = inl (sent-contained note (notes_of first p.commands) n sent)
        by (inr refused) = inr refused
step first now records p kept ReadFault reaches = kept

nothing-kept : (first : ℕ) → first ≤ 4294967295 → Kept first (played [])
nothing-kept first low = record {
  accepted = record { libraries = tt; few = tt; numbers = omega (arith, low) };
  entries = [];
  given = tt;
  are = refl;
  within = omega arith;
  waits = tt;
}

first-kept : (turn : ScriptTurn) → number_of turn ≤ 4294967295 → Reaches 0 (played []) turn → Kept (number_of turn) (play 0 0 [] (played []) turn)
first-kept (First number) low reaches = nothing-kept number low
first-kept (Folder path) low reaches = nothing-kept 0 low
first-kept (Track path info size) low reaches = nothing-kept 0 low
first-kept (Tag comment) low reaches = nothing-kept 0 low
first-kept Scan low reaches = step 0 0 [] (played []) (nothing-kept 0 low) Scan reaches
first-kept Load low reaches = step 0 0 [] (played []) (nothing-kept 0 low) Load reaches
first-kept Read low reaches = step 0 0 [] (played []) (nothing-kept 0 low) Read reaches
first-kept Ask low reaches = nothing-kept 0 low
first-kept (Wrap number) low reaches = same-kept 0 number (played []) (nothing-kept 0 low)
first-kept (At moment) low reaches = step 0 0 [] (played []) (nothing-kept 0 low) (At moment) reaches
first-kept Subscribe low reaches = step 0 0 [] (played []) (nothing-kept 0 low) Subscribe reaches
first-kept Accept low reaches = step 0 0 [] (played []) (nothing-kept 0 low) Accept reaches
first-kept Renew low reaches = step 0 0 [] (played []) (nothing-kept 0 low) Renew reaches
first-kept Unsubscribe low reaches = step 0 0 [] (played []) (nothing-kept 0 low) Unsubscribe reaches
first-kept (Deliver note) low reaches = step 0 0 [] (played []) (nothing-kept 0 low) (Deliver note) reaches
first-kept ReadFault low reaches = nothing-kept 0 low

pub turns-kept : (turns : List ScriptTurn) → first_of turns ≤ 4294967295 → AllStand turns → Kept (first_of turns) (played turns)
turns-kept [] low all = nothing-kept 0 low
turns-kept (turn ∷ []) low all = first-kept turn low (next-reaches turn [] all)
turns-kept (turn ∷ next ∷ older) low all =
    step (first_of (next ∷ older)) (clock_of (next ∷ older)) (records_since (next ∷ older)) (played (next ∷ older)) (turns-kept (next ∷ older) low all.1) turn
    (next-reaches turn (next ∷ older) all)

pub scripts-given : scripts_are_given
scripts-given turns may =
    let kept = turns-kept turns may.number may.stand in
    record { accepted = kept.accepted; entries = kept.entries; given = kept.given; are = kept.are; within = kept.within }
