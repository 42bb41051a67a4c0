-- Notes that come are given their own places, or none.
use Rattle.std.proofs.Common.{◌≡◌, ◌⊎◌, inl, inr, ◌+◌, ◌-◌, ◌^◌, ◌<◌, ◌≤◌, ◌||◌, ◌&&◌, ℕ, Bool, true, false, cond, not, nat_lt, nat_le, Option, Some, None, refl, sym, ap, ◌∙◌, arith, List, length}
use Rattle.std.specs.Option.{option_map}
use Rattle.std.proofs.lemmas.Bool.{cases_lt, ltb-true}
use Rattle.cds_catalog.proofs.StepsFind.{none≢some}
use Rattle.cds_load.specs.Outcome.{is_no}
use Rattle.cds_commands.specs.Notes.{Note}
use Rattle.cds_commands.specs.Places.{seq_at, reach, place_of}
use Rattle.cds_commands.proofs.Near.{near}
use Rattle.cds_commands.proofs.Far.{past, old-none, new-none}
use Rattle.cds_follow.specs.Inbox.{ReplicaTurn, Delivers, Arrival, IsUnknown, IsRepeat, IsTooMany, IsEarly, IsHeld, IsNext, is_out, is_accepted, next_place, held_notes, held_limit, is_repeat, is_next, taken_by, arrival}
use Rattle.cds_follow.specs.Follow.{is_turned_away, is_refused, known_by, with_notes}
use Rattle.cds_commands.specs.Wire.{on_wire, note_at}
use Rattle.cds_follow.specs.Wire.{place_near, placed, arrival_by_seq, arrival_of, arrival_on_wire, apart, is_heard, near_notes_are_placed, notes_are_placed_or_unknown}

pub near-placed : near_notes_are_placed
near-placed wrap note turns wide few close =
    ap (option_map (note_at (on_wire wrap note)))
    (near wrap (place_near note.name turns) note.place wide few (omega (arith, close)) (omega (arith, close)))

module _ (wrap n p : ℕ) (wide : 256 ≤ wrap) (less : apart p n < wrap - reach wrap) where
  true-or-none : (place_of wrap n (seq_at wrap p) ≡ Some p) ⊎ (place_of wrap n (seq_at wrap p) ≡ None)
  true-or-none = by (cases_lt n (2 ^ 63)) (cases_lt (p + reach wrap) n) (cases_lt (n + reach wrap) p)
    where
      by : (n < 2 ^ 63) ⊎ (2 ^ 63 ≤ n) → (p + reach wrap < n) ⊎ (n ≤ p + reach wrap) → (n + reach wrap < p) ⊎ (p ≤ n + reach wrap)
          → (place_of wrap n (seq_at wrap p) ≡ Some p) ⊎ (place_of wrap n (seq_at wrap p) ≡ None)
      by (inr l) b c = inr (past wrap n (seq_at wrap p) l)
      by (inl l) (inl b) c = inr (old-none wrap n p wide b (omega (arith, less)))
      by (inl l) (inr b) (inl c) = inr (new-none wrap n p wide c (omega (arith, less)))
      by (inl l) (inr b) (inr c) = inl (near wrap n p wide l b c)

-- a note that is not heard is unknown at whichever place
pub unheard : (note : Note) (turns : List ReplicaTurn) → is_heard note.name turns ≡ false → arrival note turns ≡ IsUnknown
unheard note turns e =
    by (is_accepted note.name turns) (is_out turns) (is_repeat note turns) (not (is_next note turns) && nat_le held_limit (length (held_notes turns)))
    (nat_lt (next_place turns) note.place) e
  where
    by : (a o t m h : Bool) → a || o ≡ false →
        cond (not a && not o) IsUnknown
        (cond t IsRepeat (cond m (IsTooMany (length (held_notes turns))) (cond (not a) IsEarly (cond h (IsHeld (next_place turns)) IsNext)))) ≡ IsUnknown
    by false false t m h e = refl
    by false true t m h e = absurd (cc)
    by true o t m h e = absurd (cc)

-- an unknown one is refused
pub unknown-refused : (note : Note) (turns : List ReplicaTurn) → arrival note turns ≡ IsUnknown → is_refused (Delivers note) turns ≡ true
unknown-refused note turns e = ap (λ (a : Arrival). is_turned_away a || is_no (with_notes (taken_by (Delivers note) turns) (known_by turns))) e

-- each place that a note is given leaves its name
pub given-name : (wrap : ℕ) (note other : Note) (turns : List ReplicaTurn) → placed wrap (on_wire wrap note) turns ≡ Some other → other.name ≡ note.name
given-name wrap note other turns e = by (place_of wrap (place_near note.name turns) (seq_at wrap note.place)) e
  where
    by : (o : Option ℕ) → option_map (note_at (on_wire wrap note)) o ≡ Some other → other.name ≡ note.name
    by None f = none≢some None other refl f
    by (Some place) f = let same : note_at (on_wire wrap note) place ≡ other = cc in ap (λ (n : Note). n.name) (sym same)

pub placed-or-unknown : notes_are_placed_or_unknown
placed-or-unknown wrap note turns wide recent = on (is_heard note.name turns) refl
  where
    Becomes : Type 0
    Becomes =
        (placed wrap (on_wire wrap note) turns ≡ Some note)
        ⊎ ((arrival_on_wire wrap (on_wire wrap note) turns ≡ IsUnknown)
        × ((other : Note) → placed wrap (on_wire wrap note) turns ≡ Some other → is_refused (Delivers other) turns ≡ true))

    -- not heard
    lost : is_heard note.name turns ≡ false → (other : Note) → placed wrap (on_wire wrap note) turns ≡ Some other → arrival other turns ≡ IsUnknown
    lost e other f = unheard other turns (ap (λ name. is_heard name turns) (given-name wrap note other turns f) ∙ e)

    away : is_heard note.name turns ≡ false → (o : Option Note) → placed wrap (on_wire wrap note) turns ≡ o → arrival_of wrap o turns ≡ IsUnknown
    away e None f = refl
    away e (Some other) f = ap (arrival_by_seq wrap) (lost e other f)

    by : (place_of wrap (place_near note.name turns) (seq_at wrap note.place) ≡ Some note.place) ⊎ (place_of wrap (place_near note.name turns) (seq_at wrap note.place) ≡ None)
        → Becomes
    by (inl e) = inl (ap (option_map (note_at (on_wire wrap note))) e)
    by (inr e) =
        let nowhere : placed wrap (on_wire wrap note) turns ≡ None = ap (option_map (note_at (on_wire wrap note))) e in
        inr (ap (λ (o : Option Note). arrival_of wrap o turns) nowhere, λ other f. none≢some (placed wrap (on_wire wrap note) turns) other nowhere f)

    on : (b : Bool) → is_heard note.name turns ≡ b → Becomes
    on false e = inr (away e (placed wrap (on_wire wrap note) turns) refl, λ other f. unknown-refused other turns (lost e other f))
    on true e =
        by (true-or-none wrap (place_near note.name turns) note.place wide
        (ltb-true (apart note.place (place_near note.name turns)) (wrap - reach wrap)
        (sym (ap (λ b. not b || nat_lt (apart note.place (place_near note.name turns)) (wrap - reach wrap)) e) ∙ recent)))
