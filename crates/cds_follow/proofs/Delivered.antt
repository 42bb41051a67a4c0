-- A note of an honest server that was delivered is received, where its name is the accepted one and there was room to hold it.
use Rattle.std.proofs.Common.{◌≡◌, ◌⊎◌, inl, inr, ◌+◌, ◌-◌, ◌≤◌, ℕ, zero, suc, Bool, true, false, cond, not, ◌&&◌, ◌||◌, nat_eq, nat_lt, nat_le, List, [], ◌∷◌, ◌++◌, length, drop, Option, Some, None, refl, sym, ap, ◌∙◌, subst, arith, true≢false, eq-eqb, eqb-true}
use Rattle.std.specs.Option.{option_eq}
use Rattle.std.proofs.lemmas.List.{drop-drop}
use Rattle.cds_catalog.proofs.StepsFind.{none≢some}
use Rattle.cds_load.specs.Server.{Moment, reply_to}
use Rattle.cds_load.specs.declared.exchange.Ask.{Ask}
use Rattle.cds_commands.specs.Commands.{Command, oldest, AreAccepted}
use Rattle.cds_commands.specs.Notes.{Note, notes_of}
use Rattle.cds_commands.specs.Subscriptions.{granted}
use Rattle.cds_follow.specs.Inbox.{ReplicaTurn, Shows, Accepts, Delivers, is_out, accepted as accepted_name, is_accepted, is_early, early_notes, received, has_place, next_place, held_notes, held_limit, Arrival, IsUnknown, IsRepeat, IsTooMany, IsEarly, IsHeld, IsNext, is_repeat, is_next, arrival}
use Rattle.cds_follow.specs.Follow.{known_by, is_turned_away, is_refused, and_turn, next_ask}
use Rattle.cds_follow.specs.Given.{moment_after, Entry, Starts, Asks, Calls, Granted, Denied, Gets, asked_at, given_by, latest_length, length_before_call, IsGiven}
use Rattle.cds_follow.specs.HonestLaws.{delivered_notes_are_received}
use Rattle.cds_commands.proofs.Among.{Among, among-all, among-filter, among-contained}
use Rattle.cds_commands.proofs.Sent.{Sound, all-sound, granted-more}
use Rattle.cds_follow.proofs.Honest.{entry-taken}
use Rattle.cds_load.specs.Outcome.{is_no}

-- ---- names that were granted within fewer commands

pub granted-drop : (n : ℕ) (commands : List Command) → granted (drop n commands) ≤ granted commands
granted-drop zero commands = omega arith
granted-drop (suc n) [] = omega arith
granted-drop (suc n) (command ∷ older) = let r = granted-drop n older in let m = granted-more command older in omega (arith, r, m)

granted-later : (commands : List Command) (j k : ℕ) → j ≤ k → granted (oldest j commands) ≤ granted (oldest k commands)
granted-later commands j k l =
    let more : length commands - k + (length commands - j - (length commands - k)) ≡ length commands - j = omega (arith, l) in
    subst (λ (cs : List Command). granted cs ≤ granted (oldest k commands))
    (drop-drop (length commands - j - (length commands - k)) (length commands - k) commands ∙ ap (λ (n : ℕ). drop n commands) more)
    (granted-drop (length commands - j - (length commands - k)) (oldest k commands))

-- ---- one turn

-- what became of notes is the same after two lists of turns
record SameInbox (turns others : List ReplicaTurn) : Type 0 where
  pub out : is_out turns ≡ is_out others
  pub name : accepted_name turns ≡ accepted_name others
  pub received : received turns ≡ received others
  pub early : early_notes turns ≡ early_notes others

asked-same : (moment : Moment) (turns : List ReplicaTurn) (o : Option Ask) → SameInbox (asked_at moment turns o) turns
asked-same moment turns None = record { out = refl; name = refl; received = refl; early = refl }
asked-same moment turns (Some ask) = by (is_refused (Shows (reply_to moment ask)) turns)
  where
    by : (b : Bool) → SameInbox (cond b turns (Shows (reply_to moment ask) ∷ turns)) turns
    by true = record { out = refl; name = refl; received = refl; early = refl }
    by false = record { out = refl; name = refl; received = refl; early = refl }

delivered-out : (note : Note) (turns : List ReplicaTurn) → is_out (and_turn (Delivers note) turns) ≡ is_out turns
delivered-out note turns = by (is_refused (Delivers note) turns)
  where
    by : (b : Bool) → is_out (cond b turns (Delivers note ∷ turns)) ≡ is_out turns
    by true = refl
    by false = refl

delivered-name : (note : Note) (turns : List ReplicaTurn) → accepted_name (and_turn (Delivers note) turns) ≡ accepted_name turns
delivered-name note turns = by (is_refused (Delivers note) turns)
  where
    by : (b : Bool) → accepted_name (cond b turns (Delivers note ∷ turns)) ≡ accepted_name turns
    by true = refl
    by false = refl

maybe-more : (b : Bool) (note other : Note) (notes : List Note) → Among note notes → Among note (cond b (other ∷ notes) notes)
maybe-more true note other notes a = inr a
maybe-more false note other notes a = a

-- a delivered note takes none away
delivered-received : (note other : Note) (turns : List ReplicaTurn) → Among note (received turns) → Among note (received (and_turn (Delivers other) turns))
delivered-received note other turns a = by (is_refused (Delivers other) turns)
  where
    by : (b : Bool) → Among note (received (cond b turns (Delivers other ∷ turns)))
    by true = a
    by false = maybe-more (is_accepted other.name turns) note other (received turns) a

delivered-early : (note other : Note) (turns : List ReplicaTurn) → Among note (early_notes turns) → Among note (early_notes (and_turn (Delivers other) turns))
delivered-early note other turns a = by (is_refused (Delivers other) turns)
  where
    by : (b : Bool) → Among note (early_notes (cond b turns (Delivers other ∷ turns)))
    by true = a
    by false = maybe-more (is_early other turns) note other (early_notes turns) a

is-accepted : (name : ℕ) (turns : List ReplicaTurn) → accepted_name turns ≡ Some name → is_accepted name turns ≡ true
is-accepted name turns e = (λ i. option_eq nat_eq (e i) (Some name)) ∙ eq-eqb name name refl

-- what becomes of a note whose name is accepted, or that comes while a request is out: it is turned away only for want of room
abbrev form : ℕ → ℕ → Bool → Bool → Bool → Bool → Bool → Arrival
form held next named out again full above =
    cond (not named && not out) IsUnknown (cond again IsRepeat (cond full (IsTooMany held) (cond (not named) IsEarly (cond above (IsHeld next) IsNext))))

has-room : (held next : ℕ) (named out again full above : Bool) → named || out ≡ true → ((n : ℕ) → form held next named out again full above ≡ IsTooMany n → ⊥)
    → is_turned_away (form held next named out again full above) ≡ false
has-room held next false false again full above e few = absurd (true≢false (sym e))
has-room held next true out true full above e few = refl
has-room held next true out false true above e few = absurd (few held refl)
has-room held next true out false false true e few = refl
has-room held next true out false false false e few = refl
has-room held next false true true full above e few = refl
has-room held next false true false true above e few = absurd (few held refl)
has-room held next false true false false above e few = refl

not-away : (note : Note) (turns : List ReplicaTurn) → is_accepted note.name turns || is_out turns ≡ true → ((held : ℕ) → arrival note turns ≡ IsTooMany held → ⊥)
    → is_turned_away (arrival note turns) ≡ false
not-away note turns e few =
    has-room (length (held_notes turns)) (next_place turns) (is_accepted note.name turns) (is_out turns) (is_repeat note turns)
    (not (is_next note turns) && nat_le held_limit (length (held_notes turns))) (nat_lt (next_place turns) note.place) e few

-- ---- all entries

module _ (token : List ℕ) (first : ℕ) (commands : List Command) (accepted : AreAccepted first commands) where
  abbrev turns_of : List Entry → List ReplicaTurn
  turns_of entries = given_by token first commands entries

  abbrev names : ℕ → ℕ
  names k = granted (oldest k commands)

  granted-not-refused : (k name : ℕ) (older : List Entry) → IsGiven token first commands (Granted k name ∷ older) → turns_of (Granted k name ∷ older) ≡ Accepts name ∷ turns_of older
  granted-not-refused k name older given =
      let t = entry-taken token first commands accepted (Granted k name) older given in
      (λ i. cond (is_no (t.1 i)) (turns_of older) (Accepts name ∷ turns_of older))

  -- the accepted name was granted within the commands of the newest entry; where a request is out, within those of the entry
  -- before the request
  record IsNamed (entries : List Entry) : Type 0 where
    pub latest : (name : ℕ) → accepted_name (turns_of entries) ≡ Some name → name ≤ names (latest_length entries)
    pub before : (name : ℕ) → is_out (turns_of entries) ≡ true → accepted_name (turns_of entries) ≡ Some name → name ≤ names (length_before_call entries)

  named-later : (j k name : ℕ) → j ≤ k → name ≤ names j → name ≤ names k
  named-later j k name l n = let more = granted-later commands j k l in omega (arith, more, n)

  named : (entries : List Entry) → IsGiven token first commands entries → IsNamed entries
  named [] given = record {
    latest = λ name e. none≢some None name refl e;
    before = λ name out e. none≢some None name refl e;
  }
  named (Starts k ∷ older) given =
      let r = named older given.2 in
      record { latest = λ name e. named-later (latest_length older) k name given.0 (r.latest name e); before = r.before }
  named (Asks k ∷ older) given =
      let r = named older given.2 in
      let same = asked-same (moment_after token first (oldest k commands)) (turns_of older) (next_ask (known_by (turns_of older))) in
      record {
        latest = λ name e. named-later (latest_length older) k name given.0 (r.latest name (sym same.name ∙ e));
        before = λ name out e. r.before name (sym same.out ∙ out) (sym same.name ∙ e);
      }
  named (Calls k ∷ older) given =
      let r = named older given.2 in
      record { latest = λ name e. named-later (latest_length older) k name given.0 (r.latest name e); before = λ name out e. r.latest name e }
  named (Granted k name ∷ older) given =
      let is = granted-not-refused k name older given in
      record {
        latest = λ other e.
            let both : Some name ≡ Some other = sym (ap accepted_name is) ∙ e in
            let same : name ≡ other = cc in
            let low = given.1.2 in
            omega (arith, low, same);
        before = λ other out e. absurd (true≢false (sym out ∙ ap is_out is));
      }
  named (Denied k ∷ older) given =
      let r = named older given.2 in
      record { latest = λ name e. named-later (latest_length older) k name given.0 (r.latest name e); before = λ name out e. absurd (true≢false (sym out)) }
  named (Gets k note ∷ older) given =
      let r = named older given.2 in
      let name_same = delivered-name note (turns_of older) in
      record {
        latest = λ name e. named-later (latest_length older) k name given.0 (r.latest name (sym name_same ∙ e));
        before = λ name out e. r.before name (sym (delivered-out note (turns_of older)) ∙ out) (sym name_same ∙ e);
      }

  -- a note that was delivered: it is received where its name is accepted; where a request is out, it is early for it, or its
  -- name was granted before the request
  record IsKept (note : Note) (entries : List Entry) : Type 0 where
    pub here : accepted_name (turns_of entries) ≡ Some note.name → Among note (received (turns_of entries))
    pub early : is_out (turns_of entries) ≡ true → Among note (early_notes (turns_of entries)) ⊎ (note.name ≤ names (length_before_call entries))
    pub granted_by : note.name ≤ names (latest_length entries)

  kept-first : (k : ℕ) (note : Note) (older : List Entry) → IsGiven token first commands (Gets k note ∷ older)
      → ((held : ℕ) → arrival note (turns_of older) ≡ IsTooMany held → ⊥) → IsKept note (Gets k note ∷ older)
  kept-first k note older given room = record {
    here = here;
    early = early;
    granted_by =
        (among-all (Sound first (oldest k commands)) (notes_of first (oldest k commands)) note (all-sound first (oldest k commands))
        (among-contained (notes_of first (oldest k commands)) note given.1)).known;
  }
    where
      turns : List ReplicaTurn
      turns = turns_of older

      -- it is no refused turn
      is : is_accepted note.name turns || is_out turns ≡ true → and_turn (Delivers note) turns ≡ Delivers note ∷ turns
      is e =
          let t = entry-taken token first commands accepted (Gets k note) older given in
          (λ i. cond (not-away note turns e room i || is_no (t.1 i)) turns (Delivers note ∷ turns))

      here : accepted_name (and_turn (Delivers note) turns) ≡ Some note.name → Among note (received (and_turn (Delivers note) turns))
      here e =
          let named_so = is-accepted note.name turns (sym (delivered-name note turns) ∙ e) in
          subst (λ (l : List Note). Among note l)
          (sym (ap received (is (λ i. named_so i || is_out turns)) ∙ (λ i. cond (named_so i) (note ∷ received turns) (received turns)))) (inl refl)

      early : is_out (and_turn (Delivers note) turns) ≡ true
          → Among note (early_notes (and_turn (Delivers note) turns)) ⊎ (note.name ≤ names (length_before_call older))
      early o = by (is_accepted note.name turns) refl
        where
          out : is_out turns ≡ true
          out = sym (delivered-out note turns) ∙ o

          of-name : is_accepted note.name turns ≡ true → accepted_name turns ≡ Some note.name
          of-name e = on (accepted_name turns) e
            where
              on : (p : Option ℕ) → option_eq nat_eq p (Some note.name) ≡ true → p ≡ Some note.name
              on None q = absurd (true≢false (sym q))
              on (Some name) q = ap Some (eqb-true name note.name q)

          by : (b : Bool) → is_accepted note.name turns ≡ b
              → Among note (early_notes (and_turn (Delivers note) turns)) ⊎ (note.name ≤ names (length_before_call older))
          by true e = inr ((named older given.2).before note.name out (of-name e))
          by false e =
              inl (subst (λ (l : List Note). Among note l)
              (sym (ap early_notes (is (λ i. e i || out i)) ∙ (λ i. cond (out i && not (e i)) (note ∷ early_notes turns) (early_notes turns)))) (inl refl))

  kept-on : (note : Note) (entry : Entry) (older : List Entry) → IsGiven token first commands (entry ∷ older) → IsKept note older → IsKept note (entry ∷ older)
  kept-on note (Starts k) older given r = record { here = r.here; early = r.early; granted_by = named-later (latest_length older) k note.name given.0 r.granted_by }
  kept-on note (Asks k) older given r =
      let same = asked-same (moment_after token first (oldest k commands)) (turns_of older) (next_ask (known_by (turns_of older))) in
      record {
        here = λ e. subst (λ (l : List Note). Among note l) (sym same.received) (r.here (sym same.name ∙ e));
        early = λ o. subst (λ (l : List Note). Among note l ⊎ (note.name ≤ names (length_before_call older))) (sym same.early) (r.early (sym same.out ∙ o));
        granted_by = named-later (latest_length older) k note.name given.0 r.granted_by;
      }
  kept-on note (Calls k) older given r = record {
    here = r.here;
    early = λ o. inr r.granted_by;
    granted_by = named-later (latest_length older) k note.name given.0 r.granted_by;
  }
  kept-on note (Granted k name) older given r = record {
    here = here;
    early = λ o. absurd (true≢false (sym o ∙ ap is_out is));
    granted_by = named-later (latest_length older) k note.name given.0 r.granted_by;
  }
    where
      is : turns_of (Granted k name ∷ older) ≡ Accepts name ∷ turns_of older
      is = granted-not-refused k name older given

      here : accepted_name (turns_of (Granted k name ∷ older)) ≡ Some note.name → Among note (received (turns_of (Granted k name ∷ older)))
      here e = by (r.early given.1.0)
        where
          same : note.name ≡ name
          same =
              let both : Some name ≡ Some note.name = sym (ap accepted_name is) ∙ e in
              cc

          by : Among note (early_notes (turns_of older)) ⊎ (note.name ≤ names (length_before_call older)) → Among note (received (turns_of (Granted k name ∷ older)))
          by (inl a) =
              subst (λ (l : List Note). Among note l) (sym (ap received is))
              (among-filter (λ (n : Note). nat_eq n.name name) (early_notes (turns_of older)) note a (eq-eqb note.name name same))
          by (inr low) =
              let high = given.1.1 in
              let as_same = same in
              let no : ⊥ = omega (arith, low, high, as_same) in
              absurd no
  kept-on note (Denied k) older given r = record {
    here = r.here;
    early = λ o. absurd (true≢false (sym o));
    granted_by = named-later (latest_length older) k note.name given.0 r.granted_by;
  }
  kept-on note (Gets k other) older given r = record {
    here = λ e. delivered-received note other (turns_of older) (r.here (sym (delivered-name other (turns_of older)) ∙ e));
    early = λ o. on (r.early (sym (delivered-out other (turns_of older)) ∙ o));
    granted_by = named-later (latest_length older) k note.name given.0 r.granted_by;
  }
    where
      on : Among note (early_notes (turns_of older)) ⊎ (note.name ≤ names (length_before_call older))
          → Among note (early_notes (and_turn (Delivers other) (turns_of older))) ⊎ (note.name ≤ names (length_before_call older))
      on (inl a) = inl (delivered-early note other (turns_of older) a)
      on (inr l) = inr l

  kept : (newer : List Entry) (k : ℕ) (note : Note) (older : List Entry) → IsGiven token first commands (newer ++ Gets k note ∷ older)
      → ((held : ℕ) → arrival note (turns_of older) ≡ IsTooMany held → ⊥) → IsKept note (newer ++ Gets k note ∷ older)
  kept [] k note older given room = kept-first k note older given room
  kept (entry ∷ newer) k note older given room = kept-on note entry (newer ++ Gets k note ∷ older) given (kept newer k note older given.2 room)

among-seq : (notes : List Note) (note : Note) → Among note notes → has_place notes note.place ≡ true
among-seq [] note a = absurd a
among-seq (other ∷ notes) note a = by a (λ b. among-seq notes note b)
  where
    either : (b : Bool) → has_place notes note.place ≡ true → b || has_place notes note.place ≡ true
    either true h = refl
    either false h = h

    by : (note ≡ other) ⊎ Among note notes → (Among note notes → has_place notes note.place ≡ true) → nat_eq other.place note.place || has_place notes note.place ≡ true
    by (inl e) r = λ i. eq-eqb other.place note.place (ap (λ (n : Note). n.place) (sym e)) i || has_place notes note.place
    by (inr b) r = either (nat_eq other.place note.place) (r b)

pub delivered-are-received : delivered_notes_are_received
delivered-are-received token first commands newer k note older accepted given named_so room =
    among-seq (received (given_by token first commands (newer ++ Gets k note ∷ older))) note ((kept token first commands accepted newer k note older given room).here named_so)
