-- The notes that were taken since the name was accepted are those of the longest run, each once.
use Rattle.std.proofs.Common.{◌≡◌, ◌⊎◌, inl, inr, ◌+◌, ◌-◌, ◌<◌, ◌≤◌, ℕ, zero, suc, Bool, true, false, cond, ◌||◌, nat_eq, List, [], ◌∷◌, ◌++◌, map, length, Option, Some, refl, sym, ap, ◌∙◌, subst, arith, true≢false}
use Rattle.std.specs.List.{range_with_len, filter_map, cons_option}
use Rattle.std.proofs.lemmas.Bool.{cases_lt}
use Rattle.std.proofs.lemmas.List.{append-nil}
use Rattle.std.proofs.lemmas.List.Elements.{filter_map-append}
use Rattle.cds_load.proofs.Placed.{filter_map-equal}
use Rattle.cds_changes.proofs.Numbers.{range-append}
use Rattle.cds_commands.specs.Notes.{Note, note_of, notes_from_to}
use Rattle.cds_follow.specs.Inbox.{ReplicaTurn, Begins, Shows, Requests, Accepts, Refuses, Delivers, is_accepted, received, has_place, least_outside, next_place, taken_by}
use Rattle.cds_follow.specs.InboxLaws.{taken_since, each_note_is_taken_once}
use Rattle.cds_commands.proofs.Among.{all-among, row-among}
use Rattle.cds_follow.proofs.Received.{longest-run}
use Rattle.cds_commands.proofs.Chain.{note-later, note-among}
use Rattle.cds_follow.proofs.Taken.{has-note}

abbrev run : List Note → ℕ → ℕ → List Note
run notes from n = filter_map (λ (seq : ℕ). note_of seq notes) (range_with_len from n)

-- notes that have all SEQs in a row have them in order
run-seqs : (notes : List Note) (n from : ℕ) → ((seq : ℕ) → from ≤ seq → seq < from + n → (note : Note) × (note_of seq notes ≡ Some note))
    → map (λ (note : Note). note.place) (run notes from n) ≡ range_with_len from n
run-seqs notes zero from have = refl
run-seqs notes (suc n) from have =
    let here = have from (omega arith) (omega arith) in
    let rest = run-seqs notes n (from + 1) (λ seq low high. have seq (omega (arith, low)) (omega (arith, high))) in
    subst (λ (o : Option Note). map (λ (note : Note). note.place) (cons_option o (run notes (from + 1) n)) ≡ from ∷ range_with_len (from + 1) n) (sym here.1)
    (λ i. (note-among from notes here.0 here.1).1 i ∷ rest i)

have-note : (turns : List ReplicaTurn) (seq : ℕ) → seq < next_place turns → (note : Note) × (note_of seq (received turns) ≡ Some note)
have-note turns seq l = has-note seq (received turns) ((longest-run turns).0 seq l)

from-zero : (turns : List ReplicaTurn) → notes_from_to 0 (next_place turns) (received turns) ≡ run (received turns) 0 (next_place turns)
from-zero turns = let all : next_place turns - 0 ≡ next_place turns = omega arith in ap (run (received turns) 0) all

-- a note that is delivered for the accepted name
module _ (note : Note) (older : List ReplicaTurn) (is : is_accepted note.name older ≡ true) where
  abbrev now : List ReplicaTurn
  now = Delivers note ∷ older

  more : received now ≡ note ∷ received older
  more = λ i. cond (is i) (note ∷ received older) (received older)

  pub rises : next_place older ≤ next_place now
  rises = by (cases_lt (next_place now) (next_place older))
    where
      either : (b : Bool) (seq : ℕ) → has_place (received older) seq ≡ true → b || has_place (received older) seq ≡ true
      either true seq h = refl
      either false seq h = h

      by : (next_place now < next_place older) ⊎ (next_place older ≤ next_place now) → next_place older ≤ next_place now
      by (inr l) = l
      by (inl l) =
          let was = either (nat_eq note.place (next_place now)) (next_place now) ((longest-run older).0 (next_place now) l) in
          absurd (true≢false (sym was ∙ sym (ap (λ (notes : List Note). has_place notes (next_place now)) more) ∙ (longest-run now).1))

  -- the notes that were taken before stay
  before : run (received now) 0 (next_place older) ≡ run (received older) 0 (next_place older)
  before =
      filter_map-equal (λ (seq : ℕ). note_of seq (received now)) (λ (seq : ℕ). note_of seq (received older)) (range_with_len 0 (next_place older))
      (all-among (λ (seq : ℕ). note_of seq (received now) ≡ note_of seq (received older)) (range_with_len 0 (next_place older)) (λ seq a.
      let high = (row-among 0 (next_place older) seq a).1 in
      let had = have-note older seq (omega (arith, high)) in
      ap (note_of seq) more ∙ note-later seq note had.0 (received older) had.1 ∙ sym had.1))

  then : taken_by (Delivers note) older ≡ run (received now) (next_place older) (next_place now - next_place older)
  then = λ i. cond (is i) (notes_from_to (next_place older) (next_place now) (received now)) []

  goes-on : taken_since older ≡ run (received older) 0 (next_place older) → taken_since now ≡ run (received now) 0 (next_place now)
  goes-on rest =
      let l = rises in
      let parts : next_place older + (next_place now - next_place older) ≡ next_place now = omega (arith, l) in
      let there : next_place older ≡ 0 + next_place older = omega arith in
      (λ i. (rest ∙ sym before) i ++ then i)
      ∙ ap (λ (n : ℕ). run (received now) 0 (next_place older) ++ run (received now) n (next_place now - next_place older)) there
      ∙ sym (filter_map-append (λ (seq : ℕ). note_of seq (received now)) (range_with_len 0 (next_place older)) (range_with_len (0 + next_place older) (next_place now - next_place older)))
      ∙ ap (filter_map (λ (seq : ℕ). note_of seq (received now))) (sym (range-append 0 (next_place older) (next_place now - next_place older)))
      ∙ ap (run (received now) 0) parts

taken-run : (turns : List ReplicaTurn) → taken_since turns ≡ run (received turns) 0 (next_place turns)
taken-run [] = refl
taken-run (Begins ∷ older) = taken-run older
taken-run (Shows shown ∷ older) = taken-run older
taken-run (Requests ∷ older) = taken-run older
taken-run (Accepts name ∷ older) = from-zero (Accepts name ∷ older)
taken-run (Refuses ∷ older) = taken-run older
taken-run (Delivers note ∷ older) = by (is_accepted note.name older) refl (taken-run older)
  where
    by : (b : Bool) → is_accepted note.name older ≡ b → taken_since older ≡ run (received older) 0 (next_place older)
        → taken_since (Delivers note ∷ older) ≡ run (received (Delivers note ∷ older)) 0 (next_place (Delivers note ∷ older))
    by true e rest = goes-on note older e rest
    by false e rest =
        let same : received (Delivers note ∷ older) ≡ received older = λ i. cond (e i) (note ∷ received older) (received older) in
        (λ i. taken_since older ++ cond (e i) (notes_from_to (next_place older) (next_place (Delivers note ∷ older)) (received (Delivers note ∷ older))) [])
        ∙ append-nil (taken_since older) ∙ rest
        ∙ sym (ap (λ (notes : List Note). run notes 0 (least_outside (length notes) 0 notes)) same)

pub taken-once : each_note_is_taken_once
taken-once turns = (
  ap (map (λ (note : Note). note.place)) (taken-run turns)
      ∙ run-seqs (received turns) (next_place turns) 0 (λ seq low high. have-note turns seq (omega (arith, high))),
  taken-run turns ∙ sym (from-zero turns),
)
