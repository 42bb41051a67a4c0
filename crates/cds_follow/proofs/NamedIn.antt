-- Names that tell some numbers apart go on to names that tell all numbers apart: those of other numbers are above all of them. So
-- what a replica knows does not depend on the names of the subscriptions in its turns.
use Rattle.std.proofs.Common.{◌≡◌, ◌⊎◌, inl, inr, ◌+◌, ◌-◌, ◌<◌, ◌≤◌, ℕ, suc, max, Bool, true, false, cond, ◌||◌, nat_eq, List, [], ◌∷◌, length, refl, sym, ap, ◌∙◌, arith, eqb-true, eq-eqb, true≢false}
use Rattle.std.specs.List.{AllByRecursion, Contains, list_any}
use Rattle.std.specs.Option.{option_map}
use Rattle.std.specs.Prelude.{Option, Some, None}
use Rattle.cds_load.specs.Server.{Moment, reply_to}
use Rattle.cds_load.specs.declared.exchange.Ask.{Ask}
use Rattle.cds_commands.specs.Commands.{Command, oldest}
use Rattle.cds_commands.specs.Notes.{Note, notes_of}
use Rattle.cds_commands.specs.Subscriptions.{granted}
use Rattle.cds_commands.proofs.Among.{Among, among-contained, among-all, among-row}
use Rattle.cds_commands.proofs.Sent.{Sound, all-sound}
use Rattle.cds_follow.specs.Inbox.{ReplicaTurn, Begins, Shows, Requests, Accepts, Refuses, Delivers, taken_by, arrival}
use Rattle.cds_follow.specs.Follow.{known_by, next_ask, and_turn, is_refused, says, with_notes}
use Rattle.cds_follow.specs.Given.{grants_of, moment_after, Entry, Starts, Asks, Calls, Granted, Denied, Gets, asked_at, given_by, length_before_call, IsGiven}
use Rattle.cds_follow.specs.Named.{TellApart, IsNamedIn, named_note, named_turn, named, KnowsTheSame, names_do_not_matter}
use Rattle.cds_commands.specs.Wire.{on_wire, note_at}
use Rattle.cds_follow.specs.Wire.{place_near, placed, arrival_on_wire}
use Rattle.cds_commands.specs.Places.{seq_at, place_of}
use Rattle.cds_follow.proofs.Came.{contained-among}
use Rattle.cds_follow.proofs.Delivered.{granted-drop}
use Rattle.cds_follow.proofs.Named.{TellAllApart, SameUnder, names-same}

and-named : (numbers : List ℕ) (turn : ReplicaTurn) (turns : List ReplicaTurn) → IsNamedIn numbers turn → AllByRecursion (IsNamedIn numbers) turns →
    AllByRecursion (IsNamedIn numbers) (and_turn turn turns)
and-named numbers turn turns is all = by (is_refused turn turns)
  where
    by : (b : Bool) → AllByRecursion (IsNamedIn numbers) (cond b turns (turn ∷ turns))
    by true = all
    by false = (is, all)

-- ---- names that go on to all numbers

module _ (names : ℕ → ℕ) (numbers : List ℕ) (apart : TellApart names numbers) where
  abbrev has : List ℕ → ℕ → Bool
  has others n = list_any (nat_eq n) others

  has-among : (others : List ℕ) (n : ℕ) → has others n ≡ true → Among n others
  has-among [] n e = absurd (true≢false (sym e))
  has-among (m ∷ others) n e = by (nat_eq n m) refl e (λ f. has-among others n f)
    where
      by : (b : Bool) → nat_eq n m ≡ b → b || list_any (nat_eq n) others ≡ true → (list_any (nat_eq n) others ≡ true → Among n others) → (n ≡ m) ⊎ Among n others
      by true is f r = inl (eqb-true n m is)
      by false is f r = inr (r f)

  among-has : (others : List ℕ) (n : ℕ) → Among n others → has others n ≡ true
  among-has [] n a = absurd a
  among-has (m ∷ others) n a = by a (λ b. among-has others n b)
    where
      or-right : (b : Bool) → b || true ≡ true
      or-right true = refl
      or-right false = refl

      by : (n ≡ m) ⊎ Among n others → (Among n others → list_any (nat_eq n) others ≡ true) → nat_eq n m || list_any (nat_eq n) others ≡ true
      by (inl is) r = ap (λ b. b || list_any (nat_eq n) others) (eq-eqb n m is)
      by (inr in_others) r = ap (λ b. nat_eq n m || b) (r in_others) ∙ or-right (nat_eq n m)

  -- the greatest name of some numbers
  abbrev most : List ℕ → ℕ
  most [] = 0
  most (n ∷ others) = max (names n) (most others)

  most-above : (others : List ℕ) (n : ℕ) → Among n others → names n ≤ most others
  most-above [] n a = absurd a
  most-above (m ∷ others) n a = by a (λ b. most-above others n b)
    where
      by : (n ≡ m) ⊎ Among n others → (Among n others → names n ≤ most others) → names n ≤ max (names m) (most others)
      by (inl is) r = let same : names n ≡ names m = ap names is in omega (arith, same)
      by (inr in_others) r = let low = r in_others in omega (arith, low)

  abbrev wider : ℕ → ℕ
  wider n = cond (has numbers n) (names n) (suc (most numbers) + n)

  wider-is : (n : ℕ) → Contains numbers n → wider n ≡ names n
  wider-is n c = ap (λ b. cond b (names n) (suc (most numbers) + n)) (among-has numbers n (among-contained numbers n c))

  wider-apart : TellAllApart wider
  wider-apart m n e = by (has numbers m) (has numbers n) refl refl e
    where
      low : (k : ℕ) → has numbers k ≡ true → names k ≤ most numbers
      low k is = most-above numbers k (has-among numbers k is)

      in_numbers : (k : ℕ) → has numbers k ≡ true → Contains numbers k
      in_numbers k is = contained-among numbers k (has-among numbers k is)

      by : (b c : Bool) → has numbers m ≡ b → has numbers n ≡ c →
          cond b (names m) (suc (most numbers) + m) ≡ cond c (names n) (suc (most numbers) + n) → m ≡ n
      by true true b c f = apart m n (in_numbers m b) (in_numbers n c) f
      by true false b c f = let l = low m b in absurd (omega (arith, l, f))
      by false true b c f = let l = low n c in absurd (omega (arith, l, f))
      by false false b c f = omega (arith, f)

  note-wider : (note : Note) → Contains numbers note.name → named_note wider note ≡ named_note names note
  note-wider note c = λ i. record { name = wider-is note.name c i; place = note.place; number = note.number; events = note.events }

  turn-wider : (turn : ReplicaTurn) → IsNamedIn numbers turn → named_turn wider turn ≡ named_turn names turn
  turn-wider Begins is = refl
  turn-wider (Shows shown) is = refl
  turn-wider Requests is = refl
  turn-wider (Accepts name) is = ap Accepts (wider-is name is)
  turn-wider Refuses is = refl
  turn-wider (Delivers note) is = ap Delivers (note-wider note is)

  turns-wider : (turns : List ReplicaTurn) → AllByRecursion (IsNamedIn numbers) turns → named wider turns ≡ named names turns
  turns-wider [] all = refl
  turns-wider (turn ∷ older) all = λ i. turn-wider turn all.0 i ∷ turns-wider older all.1 i

  placed-wider : (wrap : ℕ) (note : Note) (turns : List ReplicaTurn) → Contains numbers note.name →
      option_map (named_note wider) (placed wrap (on_wire wrap note) turns) ≡ option_map (named_note names) (placed wrap (on_wire wrap note) turns)
  placed-wider wrap note turns c = by (place_of wrap (place_near note.name turns) (seq_at wrap note.place))
    where
      by : (o : Option ℕ) → option_map (named_note wider) (option_map (note_at (on_wire wrap note)) o) ≡ option_map (named_note names) (option_map (note_at (on_wire wrap note)) o)
      by None = refl
      by (Some place) = ap Some (note-wider (note_at (on_wire wrap note) place) c)

  same-in : (turns : List ReplicaTurn) → AllByRecursion (IsNamedIn numbers) turns → KnowsTheSame names numbers turns
  same-in turns all =
      let same : SameUnder wider turns = names-same wider turns wider-apart in
      let are : named wider turns ≡ named names turns = turns-wider turns all in
      record {
        knows = ap known_by (sym are) ∙ same.knows;
        says_so = ap says (sym are) ∙ same.says_so;
        hears = λ note c. (λ i. arrival (sym (note-wider note c) i) (sym are i)) ∙ same.hears note;
        comes = λ wrap note c. (λ i. placed wrap (on_wire wrap (sym (note-wider note c) i)) (sym are i)) ∙ same.comes wrap note
            ∙ placed-wider wrap note turns c;
        hears_on_wire = λ wrap note c. (λ i. arrival_on_wire wrap (on_wire wrap (sym (note-wider note c) i)) (sym are i)) ∙ same.hears_on_wire wrap note;
        takes = λ turn is. (λ i. with_notes (taken_by (sym (turn-wider turn is) i) (sym are i)) (known_by (sym are i))) ∙ same.takes turn;
        goes_on = λ turn is. (λ i. and_turn (sym (turn-wider turn is) i) (sym are i)) ∙ same.goes_on turn
            ∙ turns-wider (and_turn turn turns) (and-named numbers turn turns is all);
      }

pub names-same-in : names_do_not_matter
names-same-in names numbers turns apart all = same-in names numbers apart turns all

-- ---- the turns that an honest server gives name its grants

in-grants : (commands : List Command) (name : ℕ) → 1 ≤ name → name ≤ granted commands → Contains (grants_of commands) name
in-grants commands name low high = contained-among (grants_of commands) name (among-row 1 (granted commands) name low (omega (arith, high)))

pub sent-in : (first : ℕ) (commands : List Command) (k : ℕ) (note : Note) → Contains (notes_of first (oldest k commands)) note → Contains (grants_of commands) note.name
sent-in first commands k note c =
    let sound : Sound first (oldest k commands) note =
    among-all (Sound first (oldest k commands)) (notes_of first (oldest k commands)) note (all-sound first (oldest k commands)) (among-contained (notes_of first (oldest k commands)) note c) in
    let known = sound.known in
    let more = granted-drop (length commands - k) commands in
    in-grants commands note.name sound.named (omega (arith, known, more))

pub granted-in : (commands : List Command) (k before name : ℕ) → granted (oldest before commands) < name → name ≤ granted (oldest k commands) → Contains (grants_of commands) name
granted-in commands k before name low high =
    let more = granted-drop (length commands - k) commands in
    in-grants commands name (omega (arith, low)) (omega (arith, high, more))

module _ (token : List ℕ) (first : ℕ) (commands : List Command) where
  abbrev Grants : List ℕ
  Grants = grants_of commands

  asked-in : (moment : Moment) (turns : List ReplicaTurn) (o : Option Ask) → AllByRecursion (IsNamedIn Grants) turns → AllByRecursion (IsNamedIn Grants) (asked_at moment turns o)
  asked-in moment turns None all = all
  asked-in moment turns (Some ask) all = and-named Grants (Shows (reply_to moment ask)) turns tt all

  pub given-in : (entries : List Entry) → IsGiven token first commands entries → AllByRecursion (IsNamedIn Grants) (given_by token first commands entries)
  given-in [] given = tt
  given-in (Starts k ∷ older) given = (tt, given-in older given.2)
  given-in (Asks k ∷ older) given =
      asked-in (moment_after token first (oldest k commands)) (given_by token first commands older) (next_ask (known_by (given_by token first commands older))) (given-in older given.2)
  given-in (Calls k ∷ older) given = (tt, given-in older given.2)
  given-in (Granted k name ∷ older) given =
      and-named Grants (Accepts name) (given_by token first commands older) (granted-in commands k (length_before_call older) name given.1.1 given.1.2) (given-in older given.2)
  given-in (Denied k ∷ older) given = (tt, given-in older given.2)
  given-in (Gets k note ∷ older) given =
      and-named Grants (Delivers note) (given_by token first commands older) (sent-in first commands k note given.1) (given-in older given.2)

-- so what a replica knows from these turns is the same under names that tell the grants apart
pub given-same : (token : List ℕ) (names : ℕ → ℕ) (first : ℕ) (commands : List Command) (entries : List Entry) → TellApart names (grants_of commands) →
    IsGiven token first commands entries → KnowsTheSame names (grants_of commands) (given_by token first commands entries)
given-same token names first commands entries apart given =
    names-same-in names (grants_of commands) (given_by token first commands entries) apart (given-in token first commands entries given)
