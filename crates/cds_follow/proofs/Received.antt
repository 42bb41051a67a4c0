-- The longest run of SEQs that were received, and the least one that is missing.
use Rattle.std.proofs.Common.{◌≡◌, ◌⊎◌, inl, inr, ◌+◌, ◌<◌, ◌≤◌, ℕ, zero, suc, Bool, true, false, cond, nat_eq, nat_lt, ◌||◌, List, [], ◌∷◌, map, length, Option, Some, None, refl, sym, ap, ◌∙◌, subst, arith, true≢false, ltb-true, ltb-false, eq-eqb, ne_eqb, eqb-true}
use Rattle.std.specs.Prelude.{unwrap_or}
use Rattle.std.specs.List.{list_any, range_with_len, AllByRecursion, IsDistinct}
use Rattle.std.specs.Cmp.{nat_eq_equiv}
use Rattle.std.proofs.lemmas.Bool.{cases_lt}
use Rattle.std.proofs.lemmas.List.FromFn.{length-range_with_len}
use Rattle.std.proofs.lemmas.Map.Made.{length-le_from_is_member}
use Rattle.cds_catalog.proofs.StepsFind.{none≢some}
use Rattle.cds_commands.specs.Notes.{Note}
use Rattle.cds_follow.specs.Inbox.{ReplicaTurn, received, has_place, least_outside, next_place, missing}

-- ---- numbers in a row

row-apart : (a b n : ℕ) → a < b → AllByRecursion (λ (x : ℕ). nat_eq a x ≡ false) (range_with_len b n)
row-apart a b zero l = tt
row-apart a b (suc n) l = (ne_eqb a b (λ e. omega (arith, l, e)), row-apart a (b + 1) n (omega (arith, l)))

row-distinct : (a n : ℕ) → IsDistinct nat_eq (range_with_len a n)
unfolding IsDistinct
row-distinct a zero = tt
row-distinct a (suc n) = (row-apart a (a + 1) n (omega arith), row-distinct (a + 1) n)

row-below : (a n q : ℕ) → list_any (nat_eq q) (range_with_len a n) ≡ true → q < a + n
row-below a zero q e = absurd (true≢false (sym e))
row-below a (suc n) q e = by (nat_eq q a) refl (row-below (a + 1) n q) e
  where
    by : (b : Bool) → nat_eq q a ≡ b → (list_any (nat_eq q) (range_with_len (a + 1) n) ≡ true → q < a + 1 + n)
        → b || list_any (nat_eq q) (range_with_len (a + 1) n) ≡ true → q < a + suc n
    by true same rest e = let s = eqb-true q a same in omega (arith, s)
    by false same rest e = let r = rest e in omega (arith, r)

-- ---- what is received

seqs : List Note → List ℕ
seqs notes = map (λ (note : Note). note.place) notes

seqs-length : (notes : List Note) → length (seqs notes) ≡ length notes
unfolding seqs
seqs-length [] = refl
seqs-length (note ∷ notes) = ap suc (seqs-length notes)

seq-member : (notes : List Note) (q : ℕ) → has_place notes q ≡ true → list_any (nat_eq q) (seqs notes) ≡ true
unfolding seqs
seq-member [] q e = absurd (true≢false (sym e))
seq-member (note ∷ notes) q e = by (nat_eq note.place q) refl (seq-member notes q) e
  where
    other : (b : Bool) → list_any (nat_eq q) (seqs notes) ≡ true → b || list_any (nat_eq q) (seqs notes) ≡ true
    other true h = refl
    other false h = h

    by : (b : Bool) → nat_eq note.place q ≡ b → (has_place notes q ≡ true → list_any (nat_eq q) (seqs notes) ≡ true)
        → b || has_place notes q ≡ true → nat_eq q note.place || list_any (nat_eq q) (seqs notes) ≡ true
    by true same rest e = (λ i. eq-eqb q note.place (sym (eqb-true note.place q same)) i || list_any (nat_eq q) (seqs notes))
    by false same rest e = other (nat_eq q note.place) (rest e)

-- not all of one more number than there are notes were received
pub not-all : (notes : List Note) → ((q : ℕ) → q < length notes + 1 → has_place notes q ≡ true) → ⊥
not-all notes all =
    let few = length-le_from_is_member nat_eq_equiv (range_with_len 0 (length notes + 1)) (seqs notes) (row-distinct 0 (length notes + 1))
    (λ q e. seq-member notes q (all q (let l = row-below 0 (length notes + 1) q e in omega (arith, l)))) in
    let many = length-range_with_len 0 (length notes + 1) in
    let as_many : length (seqs notes) ≡ length notes = seqs-length notes in
    le-lt-absurd (length notes) (omega (arith, few, many, as_many))
  where
    le-lt-absurd : (n : ℕ) → n + 1 ≤ n → ⊥
    le-lt-absurd n l = omega (arith, l)

-- ---- the least outside

pub below-is_in : (more from : ℕ) (notes : List Note) (q : ℕ) → from ≤ q → q < least_outside more from notes → has_place notes q ≡ true
below-is_in zero from notes q l h =
    let no : ⊥ = omega (arith, l, h) in
    absurd no
below-is_in (suc more) from notes q l h = by (has_place notes from) refl (below-is_in more (from + 1) notes q) h
  where
    by : (b : Bool) → has_place notes from ≡ b → (from + 1 ≤ q → q < least_outside more (from + 1) notes → has_place notes q ≡ true)
        → q < cond b (least_outside more (from + 1) notes) from → has_place notes q ≡ true
    by true e rest h = first (cases_lt from q)
      where
        first : (from < q) ⊎ (q ≤ from) → has_place notes q ≡ true
        first (inl less) = rest (omega (arith, less)) h
        first (inr other) =
            let same : from ≡ q = omega (arith, l, other) in
            subst (λ (x : ℕ). has_place notes x ≡ true) same e
    by false e rest h =
        let no : ⊥ = omega (arith, l, h) in
        absurd no

ends : (more from : ℕ) (notes : List Note) → (has_place notes (least_outside more from notes) ≡ false) ⊎ (least_outside more from notes ≡ from + more)
ends zero from notes = inr (omega arith)
ends (suc more) from notes = by (has_place notes from) refl (ends more (from + 1) notes)
  where
    on : (has_place notes (least_outside more (from + 1) notes) ≡ false) ⊎ (least_outside more (from + 1) notes ≡ from + 1 + more)
        → (has_place notes (least_outside more (from + 1) notes) ≡ false) ⊎ (least_outside more (from + 1) notes ≡ from + suc more)
    on (inl h) = inl h
    on (inr h) = inr (omega (arith, h))

    by : (b : Bool) → has_place notes from ≡ b
        → (has_place notes (least_outside more (from + 1) notes) ≡ false) ⊎ (least_outside more (from + 1) notes ≡ from + 1 + more)
        → (has_place notes (cond b (least_outside more (from + 1) notes) from) ≡ false) ⊎ (cond b (least_outside more (from + 1) notes) from ≡ from + suc more)
    by true e rest = on rest
    by false e rest = inl e

pub next-is_outside : (notes : List Note) → has_place notes (least_outside (length notes) 0 notes) ≡ false
next-is_outside notes = by (has_place notes (least_outside (length notes) 0 notes)) refl (ends (length notes) 0 notes)
  where
    by : (b : Bool) → has_place notes (least_outside (length notes) 0 notes) ≡ b
        → (has_place notes (least_outside (length notes) 0 notes) ≡ false) ⊎ (least_outside (length notes) 0 notes ≡ 0 + length notes)
        → has_place notes (least_outside (length notes) 0 notes) ≡ false
    by false e at = e
    by true e (inl at) = at
    by true e (inr at) = absurd-at (not-all notes all)
      where
        absurd-at : ⊥ → has_place notes (least_outside (length notes) 0 notes) ≡ false
        absurd-at none = absurd none

        all : (q : ℕ) → q < length notes + 1 → has_place notes q ≡ true
        all q l = one (cases_lt q (length notes))
          where
            one : (q < length notes) ⊎ (length notes ≤ q) → has_place notes q ≡ true
            one (inl less) = below-is_in (length notes) 0 notes q (omega arith) (omega (arith, at, less))
            one (inr last) =
                let same : least_outside (length notes) 0 notes ≡ q = omega (arith, at, last, l) in
                subst (λ (x : ℕ). has_place notes x ≡ true) same e

pub longest-run : (turns : List ReplicaTurn)
    → ((seq : ℕ) → seq < next_place turns → has_place (received turns) seq ≡ true) × (has_place (received turns) (next_place turns) ≡ false)
longest-run turns = (
  λ seq l. below-is_in (length (received turns)) 0 (received turns) seq (omega arith) l,
  next-is_outside (received turns),
)

-- ---- what is missing

above : (notes : List Note) (next : ℕ) → list_any (λ (note : Note). nat_lt next note.place) notes ≡ true
    → (more : ℕ) × (next < more) × (has_place notes more ≡ true)
above [] next e = absurd (true≢false (sym e))
above (note ∷ notes) next e = by (nat_lt next note.place) refl (above notes next) e
  where
    either : (b : Bool) (seq : ℕ) → has_place notes seq ≡ true → b || has_place notes seq ≡ true
    either true seq h = refl
    either false seq h = h

    by : (b : Bool) → nat_lt next note.place ≡ b
        → (list_any (λ (note : Note). nat_lt next note.place) notes ≡ true → (more : ℕ) × (next < more) × (has_place notes more ≡ true))
        → b || list_any (λ (note : Note). nat_lt next note.place) notes ≡ true
        → (more : ℕ) × (next < more) × (has_place (note ∷ notes) more ≡ true)
    by true l rest e = (note.place, ltb-true next note.place l, (λ i. eq-eqb note.place note.place refl i || has_place notes note.place))
    by false l rest e = let found = rest e in (found.0, found.1, either (nat_eq note.place found.0) found.0 found.2)

none-above : (notes : List Note) (next q : ℕ) → list_any (λ (note : Note). nat_lt next note.place) notes ≡ false → has_place notes q ≡ true → q ≤ next
none-above [] next q e h = absurd (true≢false (sym h))
none-above (note ∷ notes) next q e h = by (nat_lt next note.place) (nat_eq note.place q) refl refl (none-above notes next q) e h
  where
    by : (b c : Bool) → nat_lt next note.place ≡ b → nat_eq note.place q ≡ c
        → (list_any (λ (note : Note). nat_lt next note.place) notes ≡ false → has_place notes q ≡ true → q ≤ next)
        → b || list_any (λ (note : Note). nat_lt next note.place) notes ≡ false → c || has_place notes q ≡ true → q ≤ next
    by true c l s rest e h = absurd (true≢false e)
    by false true l s rest e h = let less = ltb-false next note.place l in let same = eqb-true note.place q s in omega (arith, less, same)
    by false false l s rest e h = rest e h

pub least-missing : (turns : List ReplicaTurn) (seq : ℕ)
    → (missing turns ≡ Some seq → (has_place (received turns) seq ≡ false) × ((less : ℕ) → less < seq → has_place (received turns) less ≡ true)
    × ((more : ℕ) × (seq < more) × (has_place (received turns) more ≡ true)))
    × (has_place (received turns) seq ≡ false → ((less : ℕ) → less < seq → has_place (received turns) less ≡ true)
    → (more : ℕ) → seq < more → has_place (received turns) more ≡ true → missing turns ≡ Some seq)
least-missing turns seq = (found, least)
  where
    found : missing turns ≡ Some seq → (has_place (received turns) seq ≡ false) × ((less : ℕ) → less < seq → has_place (received turns) less ≡ true)
        × ((more : ℕ) × (seq < more) × (has_place (received turns) more ≡ true))
    found e = by (list_any (λ (note : Note). nat_lt (next_place turns) note.place) (received turns)) refl e
      where
        by : (b : Bool) → list_any (λ (note : Note). nat_lt (next_place turns) note.place) (received turns) ≡ b → cond b (Some (next_place turns)) None ≡ Some seq
            → (has_place (received turns) seq ≡ false) × ((less : ℕ) → less < seq → has_place (received turns) less ≡ true)
            × ((more : ℕ) × (seq < more) × (has_place (received turns) more ≡ true))
        by true any e =
            let same : next_place turns ≡ seq = some-is e in
            subst (λ (x : ℕ). (has_place (received turns) x ≡ false) × ((less : ℕ) → less < x → has_place (received turns) less ≡ true)
            × ((more : ℕ) × (x < more) × (has_place (received turns) more ≡ true))) same
            ((longest-run turns).1, (longest-run turns).0, above (received turns) (next_place turns) any)
          where
            some-is : Some (next_place turns) ≡ Some seq → next_place turns ≡ seq
            some-is e = ap (λ (o : Option ℕ). unwrap_or o 0) e
        by false any e = none≢some None seq refl e

    least : has_place (received turns) seq ≡ false → ((less : ℕ) → less < seq → has_place (received turns) less ≡ true)
        → (more : ℕ) → seq < more → has_place (received turns) more ≡ true → missing turns ≡ Some seq
    least none all more above some = any (list_any (λ (note : Note). nat_lt (next_place turns) note.place) (received turns)) refl
      where
        same : next_place turns ≡ seq
        same = by (cases_lt (next_place turns) seq) (cases_lt seq (next_place turns))
          where
            by : (next_place turns < seq) ⊎ (seq ≤ next_place turns) → (seq < next_place turns) ⊎ (next_place turns ≤ seq) → next_place turns ≡ seq
            by (inl l) m = absurd (true≢false (sym (all (next_place turns) l) ∙ (longest-run turns).1))
            by (inr l) (inl m) = absurd (true≢false (sym ((longest-run turns).0 seq m) ∙ none))
            by (inr l) (inr m) = omega (arith, l, m)

        any : (b : Bool) → list_any (λ (note : Note). nat_lt (next_place turns) note.place) (received turns) ≡ b → cond b (Some (next_place turns)) None ≡ Some seq
        any true e = ap Some same
        any false e =
            let most = none-above (received turns) (next_place turns) more e some in
            let is = same in
            let no : ⊥ = omega (arith, above, most, is) in
            absurd no
