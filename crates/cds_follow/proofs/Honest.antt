-- A replica of an honest server: nothing that comes is refused, and its copies stood.
use Rattle.std.proofs.Common.{◌≡◌, ◌⊎◌, inl, inr, ◌-◌, ◌<◌, ◌≤◌, ℕ, zero, suc, Bool, true, false, cond, ◌||◌, nat_eq, nat_lt, List, [], ◌∷◌, length, Option, Some, None, refl, sym, ap, ◌∙◌, subst, arith, true≢false, eqb-true, ltb-false}
use Rattle.std.specs.Option.{option_eq}
use Rattle.std.proofs.lemmas.Bool.{cases_lt}
use Rattle.cds_object.specs.Object.{ObjectRow}
use Rattle.cds_catalog.specs.History.{end_of}
use Rattle.cds_catalog.specs.Catalog.{catalog}
use Rattle.cds_load.specs.declared.exchange.Ask.{Ask}
use Rattle.cds_load.specs.Server.{reply_to}
use Rattle.cds_load.specs.Stages.{Held, Idle, HasCopy, Loads}
use Rattle.cds_commands.specs.Commands.{Command, scans_of, oldest, AreAccepted}
use Rattle.cds_commands.specs.Notes.{Note, notes_of, note_of, notes_from_to}
use Rattle.cds_follow.specs.Copy.{least_unread, read_up_to}
use Rattle.cds_follow.specs.Inbox.{ReplicaTurn, Shows, Accepts, Delivers, accepted as accepted_name, is_accepted, is_early, early_notes, received, least_outside, next_place, missing, taken_by, arrival}
use Rattle.cds_follow.specs.Follow.{Known, position, greatest_of, with_notes, known_by, is_turned_away, is_refused, and_turn, next_ask, copy_says, says_without_gap, says_of, says, rows_held, copied}
use Rattle.cds_follow.specs.Given.{moment_after, Entry, Starts, Asks, Calls, Granted, Denied, Gets, length_at, asked_at, given_by, latest_length, IsGiven}
use Rattle.cds_follow.specs.HonestLaws.{IsTaken, honest_calls_are_taken, honest_copies_stood}
use Rattle.cds_follow.specs.ServerLaws.{served}
use Rattle.cds_follow.specs.declared.says.Says.TheVariants.{BehindVersion, Stands}
use Rattle.cds_commands.proofs.Among.{Among, among-contained, filter-among}
use Rattle.cds_follow.proofs.Received.{longest-run}
use Rattle.cds_commands.proofs.Chain.{note-later, note-among}
use Rattle.cds_follow.proofs.CopyOf.{IsCopy, copy-stands}
use Rattle.cds_follow.proofs.Stages.{IsFollowing, AreTaken, Stage, greatest-least, following-later, following-begins}
use Rattle.cds_follow.proofs.Following.{Follows, notes-follow, reply-follows}
use Rattle.cds_follow.proofs.Taken.{IsSent, IsBefore, run-taken, run-heard, has-note}
use Rattle.cds_commands.proofs.Fewer.{notes-later}
use Rattle.cds_follow.proofs.Heard.{notes-heard, reply-heard}
use Rattle.cds_load.specs.Outcome.{after_outcome, is_no}

-- what a replica received of an honest server: notes that were sent, those of the accepted name; and those that were taken
-- have no number above the greatest that it last_note
pub record IsHearing (first : ℕ) (commands : List Command) (k : ℕ) (turns : List ReplicaTurn) (last_note : ℕ) : Type 0 where
  pub sent : (note : Note) → Among note (received turns) → Among note (notes_of first (oldest k commands)) × (accepted_name turns ≡ Some note.name)
  pub early : (note : Note) → Among note (early_notes turns) → Among note (notes_of first (oldest k commands))
  pub last : (seq : ℕ) → seq < next_place turns → (note : Note) × (note_of seq (received turns) ≡ Some note) × (note.number ≤ last_note)

module _ (token : List ℕ) (first : ℕ) (commands : List Command) (accepted : AreAccepted first commands) where
  hearing-later : (j k : ℕ) (turns : List ReplicaTurn) (last_note : ℕ) → j ≤ k → IsHearing first commands j turns last_note → IsHearing first commands k turns last_note
  hearing-later j k turns last_note l h = record {
    sent = λ note a. let s = h.sent note a in (notes-later first commands j k note l s.0, s.1);
    early = λ note a. notes-later first commands j k note l (h.early note a);
    last = h.last;
  }

  -- a SEQ below the next one has a note
  have-note : (turns : List ReplicaTurn) (seq : ℕ) → seq < next_place turns → (note : Note) × (note_of seq (received turns) ≡ Some note)
  have-note turns seq l = has-note seq (received turns) ((longest-run turns).0 seq l)

  -- ---- notes that a turn lets the replica take

  -- those from the next SEQ on, of all that are received then
  next-taken : (k name : ℕ) (older : List ReplicaTurn) (turn : ReplicaTurn) (at : ℕ)
      → ((note : Note) → Among note (received (turn ∷ older)) → IsSent first commands k name note) → (from : ℕ) → IsBefore first commands k name at from
      → AreTaken token first commands k at (notes_from_to from (next_place (turn ∷ older)) (received (turn ∷ older)))
  next-taken k name older turn at sent from before =
      run-taken token first commands k name (received (turn ∷ older)) sent (next_place (turn ∷ older) - from) from at
      (λ s low high. have-note (turn ∷ older) s (omega (arith, low, high))) before

  next-heard : (k name : ℕ) (older : List ReplicaTurn) (turn : ReplicaTurn) (last_note : ℕ)
      → ((note : Note) → Among note (received (turn ∷ older)) → IsSent first commands k name note) → (from : ℕ)
      → ((seq : ℕ) → seq < from → (note : Note) × (note_of seq (received (turn ∷ older)) ≡ Some note) × (note.number ≤ last_note))
      → (seq : ℕ) → seq < next_place (turn ∷ older) → (note : Note) × (note_of seq (received (turn ∷ older)) ≡ Some note)
      × (note.number ≤ greatest_of last_note (notes_from_to from (next_place (turn ∷ older)) (received (turn ∷ older))))
  next-heard k name older turn last_note sent from before seq l = by (cases_lt seq from)
    where
      taken : List Note
      taken = notes_from_to from (next_place (turn ∷ older)) (received (turn ∷ older))

      by : (seq < from) ⊎ (from ≤ seq) → (note : Note) × (note_of seq (received (turn ∷ older)) ≡ Some note) × (note.number ≤ greatest_of last_note taken)
      by (inl m) = let b = before seq m in let low = b.2 in let least = greatest-least last_note taken in (b.0, b.1, omega (arith, low, least))
      by (inr m) =
          let note = have-note (turn ∷ older) seq l in (
            note.0,
            note.1,
            run-heard token first commands k name (received (turn ∷ older)) sent (next_place (turn ∷ older) - from) from last_note seq note.0
                (λ t low high. have-note (turn ∷ older) t (omega (arith, low, high))) m (omega (arith, m, l)) note.1,
          )

  -- ---- a delivered note

  module _ (k : ℕ) (turns : List ReplicaTurn) (note : Note) (here : Among note (notes_of first (oldest k commands)))
      (following : IsFollowing token first commands k (known_by turns)) (hearing : IsHearing first commands k turns (known_by turns).last_note) where
    -- of the accepted name
    of-name : is_accepted note.name turns ≡ true → accepted_name turns ≡ Some note.name
    of-name e = by (accepted_name turns) e
      where
        by : (o : Option ℕ) → option_eq nat_eq o (Some note.name) ≡ true → o ≡ Some note.name
        by None k = absurd (true≢false (sym k))
        by (Some name) k = ap Some (eqb-true name note.name k)

    of-other : (other : Note) → is_accepted note.name turns ≡ true → Among other (received turns) → IsSent first commands k note.name other
    of-other other e a =
        let s = hearing.sent other a in
        let both : Some other.name ≡ Some note.name = sym s.1 ∙ of-name e in
        (s.0, cc)

    -- what is received then
    then : is_accepted note.name turns ≡ true → received (Delivers note ∷ turns) ≡ note ∷ received turns
    then e = λ i. cond (e i) (note ∷ received turns) (received turns)

    then-sent : (e : is_accepted note.name turns ≡ true) → (other : Note) → Among other (received (Delivers note ∷ turns)) → IsSent first commands k note.name other
    then-sent e other a = by (subst (λ (l : List Note). Among other l) (then e) a)
      where
        by : (other ≡ note) ⊎ Among other (received turns) → IsSent first commands k note.name other
        by (inl s) = (subst (λ (n : Note). Among n (notes_of first (oldest k commands))) (sym s) here, ap (λ (n : Note). n.name) s)
        by (inr b) = of-other other e b

    -- the note before the next SEQ
    before : (e : is_accepted note.name turns ≡ true) → (n : ℕ) → next_place turns ≡ n → IsBefore first commands k note.name (position (known_by turns)) n
    before e zero s = inl refl
    before e (suc n) s =
        let last = hearing.last n (omega (arith, s)) in
        let a = note-among n (received turns) last.0 last.1 in
        let low = last.2 in
        let is = a.1 in
        inr (last.0, of-other last.0 e a.0, omega (arith, is), omega (arith, low))

    pub delivered-taken : AreTaken token first commands k (position (known_by turns)) (taken_by (Delivers note) turns)
    delivered-taken = by (is_accepted note.name turns) refl
      where
        by : (b : Bool) → is_accepted note.name turns ≡ b
            → AreTaken token first commands k (position (known_by turns))
            (cond b (notes_from_to (next_place turns) (next_place (Delivers note ∷ turns)) (received (Delivers note ∷ turns))) [])
        by true e = next-taken k note.name turns (Delivers note) (position (known_by turns)) (then-sent e) (next_place turns) (before e (next_place turns) refl)
        by false e = inl (refl, tt)

    delivered-early : (other : Note) → Among other (early_notes (Delivers note ∷ turns)) → Among other (notes_of first (oldest k commands))
    delivered-early other a = by (is_early note turns) a
      where
        by : (b : Bool) → Among other (cond b (note ∷ early_notes turns) (early_notes turns)) → Among other (notes_of first (oldest k commands))
        by true (inl s) = subst (λ (n : Note). Among n (notes_of first (oldest k commands))) (sym s) here
        by true (inr b) = hearing.early other b
        by false b = hearing.early other b

    pub delivered-hearing : (now : ℕ) → now ≡ greatest_of (known_by turns).last_note (taken_by (Delivers note) turns) → IsHearing first commands k (Delivers note ∷ turns) now
    delivered-hearing now is = record {
      sent = λ other a. sent other a;
      early = delivered-early;
      last = λ seq l. last seq l;
    }
      where
        sent : (other : Note) → Among other (received (Delivers note ∷ turns)) → Among other (notes_of first (oldest k commands)) × (accepted_name turns ≡ Some other.name)
        sent other a = by (is_accepted note.name turns) refl
          where
            by : (b : Bool) → is_accepted note.name turns ≡ b → Among other (notes_of first (oldest k commands)) × (accepted_name turns ≡ Some other.name)
            by true e = let s = then-sent e other a in (s.0, of-name e ∙ ap Some (sym s.1))
            by false e = hearing.sent other (subst (λ (l : List Note). Among other l) (λ i. cond (e i) (note ∷ received turns) (received turns)) a)

        last : (seq : ℕ) → seq < next_place (Delivers note ∷ turns) → (n : Note) × (note_of seq (received (Delivers note ∷ turns)) ≡ Some n) × (n.number ≤ now)
        last seq l = by (is_accepted note.name turns) refl
          where
            old : (e : is_accepted note.name turns ≡ true) → (s : ℕ) → s < next_place turns
                → (n : Note) × (note_of s (received (Delivers note ∷ turns)) ≡ Some n) × (n.number ≤ (known_by turns).last_note)
            old e s m = let was = hearing.last s m in (was.0, ap (note_of s) (then e) ∙ note-later s note was.0 (received turns) was.1, was.2)

            by : (b : Bool) → is_accepted note.name turns ≡ b → (n : Note) × (note_of seq (received (Delivers note ∷ turns)) ≡ Some n) × (n.number ≤ now)
            by true e =
                let all = next-heard k note.name turns (Delivers note) (known_by turns).last_note (then-sent e) (next_place turns) (old e) seq l in
                let low = all.2 in
                let same : greatest_of (known_by turns).last_note (notes_from_to (next_place turns) (next_place (Delivers note ∷ turns)) (received (Delivers note ∷ turns))) ≡ now =
                sym (is ∙ (λ i. greatest_of (known_by turns).last_note (cond (e i) (notes_from_to (next_place turns) (next_place (Delivers note ∷ turns)) (received (Delivers note ∷ turns))) []))) in
                (all.0, all.1, omega (arith, low, same))
            by false e =
                let same : received (Delivers note ∷ turns) ≡ received turns = λ i. cond (e i) (note ∷ received turns) (received turns) in
                let was = hearing.last seq (subst (λ (r : List Note). seq < least_outside (length r) 0 r) same l) in
                let least = greatest-least (known_by turns).last_note (taken_by (Delivers note) turns) in
                let low = was.2 in
                (was.0, ap (note_of seq) same ∙ was.1, omega (arith, is, least, low))

  -- ---- an accepted name

  module _ (k : ℕ) (turns : List ReplicaTurn) (name : ℕ) (hearing : IsHearing first commands k turns (known_by turns).last_note) where
    early-sent : (note : Note) → Among note (received (Accepts name ∷ turns)) → IsSent first commands k name note
    early-sent note a =
        let f = filter-among (λ (n : Note). nat_eq n.name name) (early_notes turns) note a in
        (hearing.early note f.0, eqb-true note.name name f.1)

    pub accepted-taken : AreTaken token first commands k (position (known_by turns)) (taken_by (Accepts name) turns)
    accepted-taken = next-taken k name turns (Accepts name) (position (known_by turns)) early-sent 0 (inl refl)

    pub accepted-hearing : (now : ℕ) → now ≡ greatest_of (known_by turns).last_note (taken_by (Accepts name) turns) → IsHearing first commands k (Accepts name ∷ turns) now
    accepted-hearing now is = record {
      sent = λ note a. let s = early-sent note a in (s.0, ap Some (sym s.1));
      early = λ note a. absurd a;
      last = λ seq l.
          let all = next-heard k name turns (Accepts name) (known_by turns).last_note early-sent 0 (λ s m. let no : ⊥ = omega (arith, m) in absurd no) seq l in
          let low = all.2 in
          (all.0, all.1, omega (arith, low, is));
    }

  -- ---- all turns

  -- what a replica knows and received of an honest server
  pub record IsServed (k : ℕ) (turns : List ReplicaTurn) : Type 0 where
    pub following : IsFollowing token first commands k (known_by turns)
    pub hearing : IsHearing first commands k turns (known_by turns).last_note

  pub served-later : (j k : ℕ) (turns : List ReplicaTurn) → j ≤ k → IsServed j turns → IsServed k turns
  served-later j k turns l s = record {
    following = following-later token first commands accepted j k (known_by turns) l s.following;
    hearing = hearing-later j k turns (known_by turns).last_note l s.hearing;
  }

  served-by : (k : ℕ) (turns : List ReplicaTurn) (now : Known) → known_by turns ≡ now → IsFollowing token first commands k now → IsHearing first commands k turns now.last_note → IsServed k turns
  served-by k turns now is following hearing = record {
    following = subst (IsFollowing token first commands k) (sym is) following;
    hearing = subst (λ (n : Known). IsHearing first commands k turns n.last_note) (sym is) hearing;
  }

  -- a turn that is not refused
  and-served : (k : ℕ) (turn : ReplicaTurn) (turns : List ReplicaTurn) → is_refused turn turns ≡ false → IsServed k (turn ∷ turns) → IsServed k (and_turn turn turns)
  and-served k turn turns free s = subst (IsServed k) (λ i. cond (sym free i) turns (turn ∷ turns)) s

  shows-served : (k : ℕ) (turns : List ReplicaTurn) (ask : Ask) → IsServed k turns → next_ask (known_by turns) ≡ Some ask
      → IsServed k (and_turn (Shows (reply_to (served token first commands k) ask)) turns)
  shows-served k turns ask s asks =
      let r = reply-follows token first commands accepted k (known_by turns) ask s.following asks in
      and-served k (Shows (reply_to (served token first commands k) ask)) turns (ap is_no r.1)
      (served-by k (Shows (reply_to (served token first commands k) ask) ∷ turns) r.0 (ap (after_outcome (known_by turns)) r.1) r.2
      (subst (IsHearing first commands k (Shows (reply_to (served token first commands k) ask) ∷ turns))
      (sym (reply-heard (known_by turns) r.0 (known_by turns).held (reply_to (served token first commands k) ask) r.1))
      (record { sent = s.hearing.sent; early = s.hearing.early; last = s.hearing.last })))

  accepts-served : (k : ℕ) (turns : List ReplicaTurn) (name : ℕ) → IsServed k turns → IsServed k (and_turn (Accepts name) turns)
  accepts-served k turns name s =
      let r = notes-follow token first commands accepted k (known_by turns) (taken_by (Accepts name) turns) s.following (accepted-taken k turns name s.hearing) in
      and-served k (Accepts name) turns (ap is_no r.1)
      (served-by k (Accepts name ∷ turns) r.0 (ap (after_outcome (known_by turns)) r.1) r.2
      (accepted-hearing k turns name s.hearing r.0.last_note (notes-heard (taken_by (Accepts name) turns) (known_by turns) r.0 r.1)))

  delivers-served : (k : ℕ) (turns : List ReplicaTurn) (note : Note) → Among note (notes_of first (oldest k commands)) → IsServed k turns
      → IsServed k (and_turn (Delivers note) turns)
  delivers-served k turns note here s = by (is_turned_away (arrival note turns)) refl
    where
      r : Follows token first commands k (with_notes (taken_by (Delivers note) turns) (known_by turns))
      r = notes-follow token first commands accepted k (known_by turns) (taken_by (Delivers note) turns) s.following (delivered-taken k turns note here s.following s.hearing)

      by : (b : Bool) → is_turned_away (arrival note turns) ≡ b → IsServed k (and_turn (Delivers note) turns)
      by true e =
          subst (IsServed k) (λ i. cond (sym e i || is_no (with_notes (taken_by (Delivers note) turns) (known_by turns))) turns (Delivers note ∷ turns)) s
      by false e =
          and-served k (Delivers note) turns (λ i. e i || is_no (r.1 i))
          (served-by k (Delivers note ∷ turns) r.0 (ap (after_outcome (known_by turns)) r.1) r.2
          (delivered-hearing k turns note here s.following s.hearing r.0.last_note (notes-heard (taken_by (Delivers note) turns) (known_by turns) r.0 r.1)))

  nothing-served : IsServed 0 []
  nothing-served = record {
    following = record { given = tt; past = inl (omega arith); stage = tt };
    hearing = record {
      sent = λ note a. absurd a;
      early = λ note a. absurd a;
      last = λ seq l. let no : ⊥ = omega (arith, l) in absurd no;
    };
  }

  pub entries-served : (entries : List Entry) → IsGiven token first commands entries → IsServed (latest_length entries) (given_by token first commands entries)
  entries-served [] given = nothing-served
  entries-served (Starts k ∷ older) given =
      let s = served-later (latest_length older) k (given_by token first commands older) given.0 (entries-served older given.2) in
      record {
        following = following-begins token first commands accepted k (known_by (given_by token first commands older)) s.following;
        hearing = record { sent = s.hearing.sent; early = s.hearing.early; last = s.hearing.last };
      }
  entries-served (Asks k ∷ older) given =
      by (next_ask (known_by (given_by token first commands older))) refl (served-later (latest_length older) k (given_by token first commands older) given.0 (entries-served older given.2))
    where
      by : (o : Option Ask) → next_ask (known_by (given_by token first commands older)) ≡ o → IsServed k (given_by token first commands older)
          → IsServed k (asked_at (moment_after token first (oldest k commands)) (given_by token first commands older) o)
      by None e s = s
      by (Some ask) e s = shows-served k (given_by token first commands older) ask s e
  entries-served (Calls k ∷ older) given =
      let s = served-later (latest_length older) k (given_by token first commands older) given.0 (entries-served older given.2) in
      record {
        following = s.following;
        hearing = record { sent = s.hearing.sent; early = λ note a. absurd a; last = s.hearing.last };
      }
  entries-served (Granted k name ∷ older) given =
      accepts-served k (given_by token first commands older) name
      (served-later (latest_length older) k (given_by token first commands older) given.0 (entries-served older given.2))
  entries-served (Denied k ∷ older) given =
      let s = served-later (latest_length older) k (given_by token first commands older) given.0 (entries-served older given.2) in
      record {
        following = s.following;
        hearing = record { sent = s.hearing.sent; early = λ note a. absurd a; last = s.hearing.last };
      }
  entries-served (Gets k note ∷ older) given =
      delivers-served k (given_by token first commands older) note (among-contained (notes_of first (oldest k commands)) note given.1)
      (served-later (latest_length older) k (given_by token first commands older) given.0 (entries-served older given.2))

  -- before an entry
  before-entry : (entry : Entry) (older : List Entry) → IsGiven token first commands (entry ∷ older) → IsServed (length_at entry) (given_by token first commands older)
  before-entry entry older given = served-later (latest_length older) (length_at entry) (given_by token first commands older) given.0 (entries-served older given.2)

  pub entry-taken : (entry : Entry) (older : List Entry) → IsGiven token first commands (entry ∷ older) → IsTaken token first commands entry (given_by token first commands older)
  entry-taken (Starts k) older given = tt
  entry-taken (Asks k) older given = λ ask asks.
      let s = before-entry (Asks k) older given in
      let r = reply-follows token first commands accepted k (known_by (given_by token first commands older)) ask s.following asks in
      (r.0, r.1)
  entry-taken (Calls k) older given = tt
  entry-taken (Granted k name) older given =
      let s = before-entry (Granted k name) older given in
      let turns : List ReplicaTurn = given_by token first commands older in
      let r = notes-follow token first commands accepted k (known_by turns) (taken_by (Accepts name) turns) s.following (accepted-taken k turns name s.hearing) in
      (r.0, r.1)
  entry-taken (Denied k) older given = tt
  entry-taken (Gets k note) older given =
      let s = before-entry (Gets k note) older given in
      let turns : List ReplicaTurn = given_by token first commands older in
      let here = among-contained (notes_of first (oldest k commands)) note given.1 in
      let r = notes-follow token first commands accepted k (known_by turns) (taken_by (Delivers note) turns) s.following (delivered-taken k turns note here s.following s.hearing) in
      (r.0, r.1)

  -- where a replica stands
  pub stood : (k number : ℕ) (turns : List ReplicaTurn) → IsServed k turns → says turns ≡ Stands number
      → (j : ℕ) × (j ≤ k) × (end_of (scans_of first (oldest j commands)) ≡ number) × (copied (known_by turns) ≡ catalog (scans_of first (oldest j commands)))
  stood k number turns s stands = by (missing turns) stands
    where
      Goal : List ObjectRow → Type 0
      Goal rows = (j : ℕ) × (j ≤ k) × (end_of (scans_of first (oldest j commands)) ≡ number) × (rows ≡ catalog (scans_of first (oldest j commands)))

      copy-on : (n : ℕ) (rows : List ObjectRow) → Stage token first commands k (HasCopy n rows) (known_by turns) → (o : Option ℕ) → least_unread (known_by turns).happenings ≡ o
          → copy_says (known_by turns) o ≡ Stands number → Goal (rows_held (HasCopy n rows) (known_by turns).happenings)
      copy-on n rows stage (Some id) e k = absurd (cc)
      copy-on n rows stage None e says = read (nat_lt (position (known_by turns)) (read_up_to (known_by turns).happenings)) refl says
        where
          copy : IsCopy token first commands k n rows (known_by turns).happenings (position (known_by turns))
          copy = stage.1

          read : (b : Bool) → nat_lt (position (known_by turns)) (read_up_to (known_by turns).happenings) ≡ b
              → cond b (BehindVersion (read_up_to (known_by turns).happenings)) (Stands (position (known_by turns))) ≡ Stands number
              → Goal (rows_held (HasCopy n rows) (known_by turns).happenings)
          read true l f = absurd (cc)
          read false l f =
              let most = ltb-false (position (known_by turns)) (read_up_to (known_by turns).happenings) l in
              let is : position (known_by turns) ≡ number = cc in
              let base = stage.0 in (
                copy.at,
                copy.within,
                sym copy.here ∙ is,
                copy-stands token first commands accepted k n rows (known_by turns).happenings (position (known_by turns)) copy e (omega (arith, base)) most,
              )

      on : (held : Held) → Stage token first commands k held (known_by turns) → says_without_gap (known_by turns) held ≡ Stands number → Goal (rows_held held (known_by turns).happenings)
      on Idle stage e = absurd (cc)
      on (Loads load) stage e = absurd (cc)
      on (HasCopy n rows) stage e = copy-on n rows stage (least_unread (known_by turns).happenings) refl e

      by : (o : Option ℕ) → says_of o (known_by turns) ≡ Stands number → Goal (copied (known_by turns))
      by (Some seq) e = absurd (cc)
      by None e = on (known_by turns).held s.following.stage e

pub calls-taken : honest_calls_are_taken
calls-taken token first commands entry older accepted given = entry-taken token first commands accepted entry older given

pub copies-stood : honest_copies_stood
copies-stood token first commands newest older number accepted given stands =
    stood token first commands accepted (length_at newest) number (given_by token first commands (newest ∷ older))
    (entries-served token first commands accepted (newest ∷ older) given) stands
