-- What a replica knows does not depend on the names themselves.
use Rattle.std.proofs.Common.{◌≡◌, ℕ, zero, suc, ◌+◌, ◌-◌, max, Bool, true, false, cond, not, ◌&&◌, ◌||◌, nat_eq, nat_lt, List, [], ◌∷◌, ◌++◌, map, filter, length, Option, Some, None, refl, sym, ap, ◌∙◌, eqb-true, eq-eqb, ne_eqb}
use Rattle.std.specs.Prelude.{nat_le}
use Rattle.std.specs.List.{list_any, filter_map, range_with_len, cons_option}
use Rattle.std.specs.Option.{option_map, option_eq}
use Rattle.std.proofs.lemmas.Bool.{eqb-false}
use Rattle.std.proofs.lemmas.List.{map-append}
use Rattle.cds_catalog.proofs.StepsWithin.{length-map}
use Rattle.cds_object.specs.declared.event.Event.{Event}
use Rattle.cds_commands.specs.Notes.{Note, note_of, notes_from_to, changes_above}
use Rattle.cds_follow.specs.Inbox.{ReplicaTurn, Begins, Shows, Requests, Accepts, Refuses, Delivers, is_out, accepted, is_accepted, is_early, early_notes, received, has_place, least_outside, next_place, missing_of, missing, is_same_note, different, waiting_notes, held_notes, held_limit, taken_by, IsUnknown, IsRepeat, IsTooMany, IsEarly, IsHeld, IsNext, is_repeat, is_next, arrival}
use Rattle.cds_follow.specs.Follow.{Known, position, new_changes, greatest_of, is_drop, load_begun, heard_of, with_changes, with_notes, with_reply, known_by, is_turned_away, is_refused, and_turn, says_of, says}
use Rattle.cds_follow.specs.Named.{named_note, named_turn, named}
use Rattle.cds_commands.specs.Wire.{on_wire, note_at}
use Rattle.cds_follow.specs.Wire.{place_near, is_heard, placed, arrival_by_seq, arrival_of, arrival_on_wire}
use Rattle.cds_commands.specs.Places.{seq_at, place_of}
use Rattle.cds_load.specs.Outcome.{Outcome, Goes, CannotBeRead, Jumps, Tears, after_outcome, is_no}

-- a way to name subscriptions in which no two numbers have one name
abbrev pub TellAllApart : (ℕ → ℕ) → Type 0
TellAllApart names = (m n : ℕ) → names m ≡ names n → m ≡ n

-- what is the same under such names
pub record SameUnder (names : ℕ → ℕ) (turns : List ReplicaTurn) : Type 0 where
  pub knows : known_by (named names turns) ≡ known_by turns
  pub says_so : says (named names turns) ≡ says turns
  pub hears : (note : Note) → arrival (named_note names note) (named names turns) ≡ arrival note turns
  pub nears : (name : ℕ) → place_near (names name) (named names turns) ≡ place_near name turns
  pub is_heard_so : (name : ℕ) → is_heard (names name) (named names turns) ≡ is_heard name turns
  pub comes : (wrap : ℕ) (note : Note) →
      placed wrap (on_wire wrap (named_note names note)) (named names turns) ≡ option_map (named_note names) (placed wrap (on_wire wrap note) turns)
  pub hears_on_wire : (wrap : ℕ) (note : Note) →
      arrival_on_wire wrap (on_wire wrap (named_note names note)) (named names turns) ≡ arrival_on_wire wrap (on_wire wrap note) turns
  pub takes : (turn : ReplicaTurn) →
      with_notes (taken_by (named_turn names turn) (named names turns)) (known_by (named names turns)) ≡ with_notes (taken_by turn turns) (known_by turns)
  pub goes_on : (turn : ReplicaTurn) → and_turn (named_turn names turn) (named names turns) ≡ named names (and_turn turn turns)

module _ (names : ℕ → ℕ) (apart : TellAllApart names) where
  abbrev tell : Note → Note
  tell note = named_note names note

  same-name : (m n : ℕ) → nat_eq (names m) (names n) ≡ nat_eq m n
  same-name m n = by (nat_eq m n) refl
    where
      by : (b : Bool) → nat_eq m n ≡ b → nat_eq (names m) (names n) ≡ nat_eq m n
      by true e = eq-eqb (names m) (names n) (ap names (eqb-true m n e)) ∙ sym e
      by false e = ne_eqb (names m) (names n) (λ f. eqb-false m n e (apart m n f)) ∙ sym e

  -- ---- which name is accepted

  out-same : (turns : List ReplicaTurn) → is_out (named names turns) ≡ is_out turns
  out-same [] = refl
  out-same (Begins ∷ older) = out-same older
  out-same (Shows shown ∷ older) = out-same older
  out-same (Requests ∷ older) = refl
  out-same (Accepts name ∷ older) = refl
  out-same (Refuses ∷ older) = refl
  out-same (Delivers note ∷ older) = out-same older

  accepted-same : (turns : List ReplicaTurn) → accepted (named names turns) ≡ option_map names (accepted turns)
  accepted-same [] = refl
  accepted-same (Begins ∷ older) = accepted-same older
  accepted-same (Shows shown ∷ older) = accepted-same older
  accepted-same (Requests ∷ older) = accepted-same older
  accepted-same (Accepts name ∷ older) = refl
  accepted-same (Refuses ∷ older) = accepted-same older
  accepted-same (Delivers note ∷ older) = accepted-same older

  is_accepted-same : (name : ℕ) (turns : List ReplicaTurn) → is_accepted (names name) (named names turns) ≡ is_accepted name turns
  is_accepted-same name turns = ap (λ o. option_eq nat_eq o (Some (names name))) (accepted-same turns) ∙ by (accepted turns)
    where
      by : (o : Option ℕ) → option_eq nat_eq (option_map names o) (Some (names name)) ≡ option_eq nat_eq o (Some name)
      by None = refl
      by (Some other) = same-name other name

  early-is : (note : Note) (turns : List ReplicaTurn) → is_early (tell note) (named names turns) ≡ is_early note turns
  early-is note turns = λ i. out-same turns i && not (is_accepted-same note.name turns i)

  cond-tell : (b : Bool) (note : Note) (notes : List Note) → cond b (tell note ∷ map tell notes) (map tell notes) ≡ map tell (cond b (note ∷ notes) notes)
  cond-tell true note notes = refl
  cond-tell false note notes = refl

  early-same : (turns : List ReplicaTurn) → early_notes (named names turns) ≡ map tell (early_notes turns)
  early-same [] = refl
  early-same (Begins ∷ older) = early-same older
  early-same (Shows shown ∷ older) = early-same older
  early-same (Requests ∷ older) = refl
  early-same (Accepts name ∷ older) = refl
  early-same (Refuses ∷ older) = refl
  early-same (Delivers note ∷ older) =
      (λ i. cond (early-is note older i) (tell note ∷ early-same older i) (early-same older i)) ∙ cond-tell (is_early note older) note (early_notes older)

  named-filter : (name : ℕ) (notes : List Note)
      → filter (λ (note : Note). nat_eq note.name (names name)) (map tell notes) ≡ map tell (filter (λ (note : Note). nat_eq note.name name) notes)
  named-filter name [] = refl
  named-filter name (note ∷ notes) =
      (λ i. cond (same-name note.name name i) (tell note ∷ named-filter name notes i) (named-filter name notes i))
      ∙ cond-tell (nat_eq note.name name) note (filter (λ (n : Note). nat_eq n.name name) notes)

  received-same : (turns : List ReplicaTurn) → received (named names turns) ≡ map tell (received turns)
  received-same [] = refl
  received-same (Begins ∷ older) = received-same older
  received-same (Shows shown ∷ older) = received-same older
  received-same (Requests ∷ older) = received-same older
  received-same (Accepts name ∷ older) = ap (filter (λ (note : Note). nat_eq note.name (names name))) (early-same older) ∙ named-filter name (early_notes older)
  received-same (Refuses ∷ older) = received-same older
  received-same (Delivers note ∷ older) =
      (λ i. cond (is_accepted-same note.name older i) (tell note ∷ received-same older i) (received-same older i))
      ∙ cond-tell (is_accepted note.name older) note (received older)

  -- ---- the SEQs of notes

  seq-same : (notes : List Note) (seq : ℕ) → has_place (map tell notes) seq ≡ has_place notes seq
  seq-same [] seq = refl
  seq-same (note ∷ notes) seq = ap (λ b. nat_eq note.place seq || b) (seq-same notes seq)

  least-same : (more seq : ℕ) (notes : List Note) → least_outside more seq (map tell notes) ≡ least_outside more seq notes
  least-same zero seq notes = refl
  least-same (suc more) seq notes = λ i. cond (seq-same notes seq i) (least-same more (seq + 1) notes i) seq

  next-same : (turns : List ReplicaTurn) → next_place (named names turns) ≡ next_place turns
  next-same turns =
      ap (λ (notes : List Note). least_outside (length notes) 0 notes) (received-same turns)
      ∙ ap (λ (n : ℕ). least_outside n 0 (map tell (received turns))) (length-map tell (received turns))
      ∙ least-same (length (received turns)) 0 (received turns)

  above-same : (next : ℕ) (notes : List Note)
      → list_any (λ (note : Note). nat_lt next note.place) (map tell notes) ≡ list_any (λ (note : Note). nat_lt next note.place) notes
  above-same next [] = refl
  above-same next (note ∷ notes) = ap (λ b. nat_lt next note.place || b) (above-same next notes)

  missing-same : (turns : List ReplicaTurn) → missing (named names turns) ≡ missing turns
  missing-same turns =
      (λ i. missing_of (received-same turns i) (next-same turns i))
      ∙ ap (λ b. cond b (Some (next_place turns)) None) (above-same (next_place turns) (received turns))

  -- ---- the notes that are taken

  note_of-same : (seq : ℕ) (notes : List Note) → note_of seq (map tell notes) ≡ option_map tell (note_of seq notes)
  note_of-same seq [] = refl
  note_of-same seq (note ∷ notes) = by (note_of seq notes) refl (note_of-same seq notes)
    where
      here : (b : Bool) → cond b (Some (tell note)) None ≡ option_map tell (cond b (Some note) None)
      here true = refl
      here false = refl

      by : (o : Option Note) → note_of seq notes ≡ o → note_of seq (map tell notes) ≡ option_map tell (note_of seq notes)
          → note_of seq (map tell (note ∷ notes)) ≡ option_map tell (note_of seq (note ∷ notes))
      by None e r = rw r (rw e (here (nat_eq note.place seq)))
      by (Some first) e r = rw r (rw e refl)

  from_to-same : (from to : ℕ) (notes : List Note) → notes_from_to from to (map tell notes) ≡ map tell (notes_from_to from to notes)
  from_to-same from to notes = all (range_with_len from (to - from))
    where
      put : (o : Option Note) (rest : List Note) → cons_option (option_map tell o) (map tell rest) ≡ map tell (cons_option o rest)
      put None rest = refl
      put (Some note) rest = refl

      all : (seqs : List ℕ) → filter_map (λ seq. note_of seq (map tell notes)) seqs ≡ map tell (filter_map (λ seq. note_of seq notes) seqs)
      all [] = refl
      all (seq ∷ seqs) = (λ i. cons_option (note_of-same seq notes i) (all seqs i)) ∙ put (note_of seq notes) (filter_map (λ s. note_of s notes) seqs)

  taken-same : (turn : ReplicaTurn) (turns : List ReplicaTurn) → taken_by (named_turn names turn) (named names turns) ≡ map tell (taken_by turn turns)
  taken-same Begins turns = refl
  taken-same (Shows shown) turns = refl
  taken-same Requests turns = refl
  taken-same (Accepts name) turns =
      (λ i. notes_from_to 0 (next-same (Accepts name ∷ turns) i) (received-same (Accepts name ∷ turns) i))
      ∙ from_to-same 0 (next_place (Accepts name ∷ turns)) (received (Accepts name ∷ turns))
  taken-same Refuses turns = refl
  taken-same (Delivers note) turns =
      (λ i. cond (is_accepted-same note.name turns i)
      (notes_from_to (next-same turns i) (next-same (Delivers note ∷ turns) i) (received-same (Delivers note ∷ turns) i)) [])
      ∙ by (is_accepted note.name turns)
    where
      by : (b : Bool) → cond b (notes_from_to (next_place turns) (next_place (Delivers note ∷ turns)) (map tell (received (Delivers note ∷ turns)))) []
          ≡ map tell (cond b (notes_from_to (next_place turns) (next_place (Delivers note ∷ turns)) (received (Delivers note ∷ turns))) [])
      by true = from_to-same (next_place turns) (next_place (Delivers note ∷ turns)) (received (Delivers note ∷ turns))
      by false = refl

  -- ---- what is known

  new-same : (at : ℕ) (notes : List Note) → new_changes at (map tell notes) ≡ new_changes at notes
  new-same at [] = refl
  new-same at (note ∷ notes) = ap (λ (l : List Event). changes_above at note.events ++ l) (new-same (max at note.number) notes)

  greatest-same : (number : ℕ) (notes : List Note) → greatest_of number (map tell notes) ≡ greatest_of number notes
  greatest-same number [] = refl
  greatest-same number (note ∷ notes) = greatest-same (max number note.number) notes

  drop-same : (at : ℕ) (notes : List Note) → is_drop at (map tell notes) ≡ is_drop at notes
  drop-same at [] = refl
  drop-same at (note ∷ notes) = refl

  heard-same : (notes : List Note) (outcome : Outcome Known) → heard_of (map tell notes) outcome ≡ heard_of notes outcome
  heard-same notes (Goes known) = ap (λ (n : ℕ). Goes (record known { last_note = n })) (greatest-same known.last_note notes)
  heard-same notes CannotBeRead = refl
  heard-same notes (Jumps expected first) = refl
  heard-same notes (Tears id) = refl

  notes-same : (notes : List Note) (known : Known) → with_notes (map tell notes) known ≡ with_notes notes known
  notes-same notes known =
      (λ i. heard_of (map tell notes) (with_changes (cond (drop-same (position known) notes i) (load_begun known) known).held
      (cond (drop-same (position known) notes i) (load_begun known) known) (position known) (new-same (position known) notes i)))
      ∙ heard-same notes _

  known-same : (turns : List ReplicaTurn) → known_by (named names turns) ≡ known_by turns
  known-same [] = refl
  known-same (Begins ∷ older) = ap load_begun (known-same older)
  known-same (Shows shown ∷ older) = ap (λ (k : Known). after_outcome k (with_reply k k.held shown)) (known-same older)
  known-same (Requests ∷ older) = known-same older
  known-same (Accepts name ∷ older) =
      (λ i. after_outcome (known-same older i) (with_notes (taken-same (Accepts name) older i) (known-same older i)))
      ∙ ap (after_outcome (known_by older)) (notes-same (taken_by (Accepts name) older) (known_by older))
  known-same (Refuses ∷ older) = known-same older
  known-same (Delivers note ∷ older) =
      (λ i. after_outcome (known-same older i) (with_notes (taken-same (Delivers note) older i) (known-same older i)))
      ∙ ap (after_outcome (known_by older)) (notes-same (taken_by (Delivers note) older) (known_by older))

  -- ---- what becomes of a note

  one-same : (note other : Note) → is_same_note (tell note) (tell other) ≡ is_same_note note other
  one-same note other = ap (λ b. b && nat_eq note.place other.place) (same-name note.name other.name)

  among-same : (note : Note) (notes : List Note) → list_any (is_same_note (tell note)) (map tell notes) ≡ list_any (is_same_note note) notes
  among-same note [] = refl
  among-same note (other ∷ notes) = λ i. one-same note other i || among-same note notes i

  different-same : (notes : List Note) → different (map tell notes) ≡ map tell (different notes)
  different-same [] = refl
  different-same (note ∷ notes) =
      (λ i. cond (among-same note notes i) (different-same notes i) (tell note ∷ different-same notes i)) ∙ by (list_any (is_same_note note) notes)
    where
      by : (b : Bool) → cond b (map tell (different notes)) (tell note ∷ map tell (different notes)) ≡ map tell (cond b (different notes) (note ∷ different notes))
      by true = refl
      by false = refl

  above-filter : (next : ℕ) (notes : List Note)
      → filter (λ (note : Note). nat_lt next note.place) (map tell notes) ≡ map tell (filter (λ (note : Note). nat_lt next note.place) notes)
  above-filter next [] = refl
  above-filter next (note ∷ notes) =
      (λ i. cond (nat_lt next note.place) (tell note ∷ above-filter next notes i) (above-filter next notes i))
      ∙ cond-tell (nat_lt next note.place) note (filter (λ (n : Note). nat_lt next n.place) notes)

  waiting-same : (turns : List ReplicaTurn) → waiting_notes (named names turns) ≡ map tell (waiting_notes turns)
  waiting-same turns =
      (λ i. filter (λ (note : Note). nat_lt (next-same turns i) note.place) (different (received-same turns i)))
      ∙ ap (filter (λ (note : Note). nat_lt (next_place turns) note.place)) (different-same (received turns))
      ∙ above-filter (next_place turns) (different (received turns))

  held-many : (turns : List ReplicaTurn) → length (held_notes (named names turns)) ≡ length (held_notes turns)
  held-many turns =
      (λ i. length (waiting-same turns i ++ different (early-same turns i)))
      ∙ ap (λ (l : List Note). length (map tell (waiting_notes turns) ++ l)) (different-same (early_notes turns))
      ∙ ap length (sym (map-append tell (waiting_notes turns) (different (early_notes turns))))
      ∙ length-map tell (waiting_notes turns ++ different (early_notes turns))

  repeat-same : (note : Note) (turns : List ReplicaTurn) → is_repeat (tell note) (named names turns) ≡ is_repeat note turns
  repeat-same note turns =
      (λ i. cond (is_accepted-same note.name turns i) (has_place (received-same turns i) note.place)
      (out-same turns i && list_any (is_same_note (tell note)) (early-same turns i)))
      ∙ (λ i. cond (is_accepted note.name turns) (seq-same (received turns) note.place i) (is_out turns && among-same note (early_notes turns) i))

  next-is : (note : Note) (turns : List ReplicaTurn) → is_next (tell note) (named names turns) ≡ is_next note turns
  next-is note turns = λ i. is_accepted-same note.name turns i && nat_eq note.place (next-same turns i)

  arrival-same : (note : Note) (turns : List ReplicaTurn) → arrival (tell note) (named names turns) ≡ arrival note turns
  arrival-same note turns =
      λ i. cond (not (is_accepted-same note.name turns i) && not (out-same turns i)) IsUnknown
      (cond (repeat-same note turns i) IsRepeat
      (cond (not (next-is note turns i) && nat_le held_limit (held-many turns i)) (IsTooMany (held-many turns i))
      (cond (not (is_accepted-same note.name turns i)) IsEarly
      (cond (nat_lt (next-same turns i) note.place) (IsHeld (next-same turns i)) IsNext))))

  -- ---- notes on the wire

  near-same : (name : ℕ) (turns : List ReplicaTurn) → place_near (names name) (named names turns) ≡ place_near name turns
  near-same name turns = λ i. cond (is_accepted-same name turns i) (next-same turns i) 0

  is_heard-same : (name : ℕ) (turns : List ReplicaTurn) → is_heard (names name) (named names turns) ≡ is_heard name turns
  is_heard-same name turns = λ i. is_accepted-same name turns i || out-same turns i

  placed-same : (wrap : ℕ) (note : Note) (turns : List ReplicaTurn)
      → placed wrap (on_wire wrap (tell note)) (named names turns) ≡ option_map tell (placed wrap (on_wire wrap note) turns)
  placed-same wrap note turns =
      ap (λ n. option_map (note_at (on_wire wrap (tell note))) (place_of wrap n (seq_at wrap note.place))) (near-same note.name turns)
      ∙ by (place_of wrap (place_near note.name turns) (seq_at wrap note.place))
    where
      by : (o : Option ℕ) → option_map (note_at (on_wire wrap (tell note))) o ≡ option_map tell (option_map (note_at (on_wire wrap note)) o)
      by None = refl
      by (Some place) = refl

  wire-same : (wrap : ℕ) (note : Note) (turns : List ReplicaTurn)
      → arrival_on_wire wrap (on_wire wrap (tell note)) (named names turns) ≡ arrival_on_wire wrap (on_wire wrap note) turns
  wire-same wrap note turns =
      ap (λ (o : Option Note). arrival_of wrap o (named names turns)) (placed-same wrap note turns) ∙ by (placed wrap (on_wire wrap note) turns)
    where
      by : (o : Option Note) → arrival_of wrap (option_map tell o) (named names turns) ≡ arrival_of wrap o turns
      by None = refl
      by (Some other) = ap (arrival_by_seq wrap) (arrival-same other turns)

  outcome-same : (turn : ReplicaTurn) (turns : List ReplicaTurn)
      → with_notes (taken_by (named_turn names turn) (named names turns)) (known_by (named names turns)) ≡ with_notes (taken_by turn turns) (known_by turns)
  outcome-same turn turns = (λ i. with_notes (taken-same turn turns i) (known-same turns i)) ∙ notes-same (taken_by turn turns) (known_by turns)

  refused-same : (turn : ReplicaTurn) (turns : List ReplicaTurn) → is_refused (named_turn names turn) (named names turns) ≡ is_refused turn turns
  refused-same Begins turns = refl
  refused-same (Shows shown) turns = ap (λ (k : Known). is_no (with_reply k k.held shown)) (known-same turns)
  refused-same Requests turns = refl
  refused-same (Accepts name) turns = ap is_no (outcome-same (Accepts name) turns)
  refused-same Refuses turns = refl
  refused-same (Delivers note) turns = λ i. is_turned_away (arrival-same note turns i) || is_no (outcome-same (Delivers note) turns i)

  and-same : (turn : ReplicaTurn) (turns : List ReplicaTurn) → and_turn (named_turn names turn) (named names turns) ≡ named names (and_turn turn turns)
  and-same turn turns = ap (λ b. cond b (named names turns) (named_turn names turn ∷ named names turns)) (refused-same turn turns) ∙ by (is_refused turn turns)
    where
      by : (b : Bool) → cond b (named names turns) (named_turn names turn ∷ named names turns) ≡ named names (cond b turns (turn ∷ turns))
      by true = refl
      by false = refl

pub names-same : (names : ℕ → ℕ) (turns : List ReplicaTurn) → TellAllApart names → SameUnder names turns
names-same names turns apart = record {
  knows = known-same names apart turns;
  says_so = λ i. says_of (missing-same names apart turns i) (known-same names apart turns i);
  hears = λ note. arrival-same names apart note turns;
  nears = λ name. near-same names apart name turns;
  is_heard_so = λ name. is_heard-same names apart name turns;
  comes = λ wrap note. placed-same names apart wrap note turns;
  hears_on_wire = λ wrap note. wire-same names apart wrap note turns;
  takes = λ turn. outcome-same names apart turn turns;
  goes_on = λ turn. and-same names apart turn turns;
}
