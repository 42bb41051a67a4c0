-- What follows of a note from what becomes of it.
use Rattle.std.proofs.Common.{◌≡◌, ◌<◌, ℕ, Bool, true, false, cond, not, ◌&&◌, ◌||◌, nat_eq, nat_lt, refl, sym, ◌∙◌, arith, true≢false, eq-eqb, ne_eqb, ltb-true, ltb-false}
use Rattle.std.specs.Prelude.{nat_le}
use Rattle.std.specs.List.{list_any}
use Rattle.std.proofs.lemmas.Bool.{leb-false}
use Rattle.cds_commands.specs.Notes.{Note}
use Rattle.cds_follow.specs.Inbox.{has_place, is_same_note, held_limit, Arrival, IsUnknown, IsRepeat, IsTooMany, IsEarly, IsHeld, IsNext}
use Rattle.cds_replica.specs.Inboxed.{KeptInbox, accepts, repeats, follows, held_count, arrival_in}

-- an arrival by its five tests
abbrev arrived : Bool → Bool → Bool → Bool → Bool → ℕ → ℕ → Arrival
arrived a o r t l n m = cond (not a && not o) IsUnknown (cond r IsRepeat (cond t (IsTooMany n) (cond (not a) IsEarly (cond l (IsHeld m) IsNext))))

next-tests : (a o r t l : Bool) (n m : ℕ) → arrived a o r t l n m ≡ IsNext → (a ≡ true) × (r ≡ false) × (l ≡ false)
next-tests true o false false false n m e = (refl, refl, refl)
next-tests true o false false true n m e = let no : ⊥ = cc in absurd no
next-tests true o false true l n m e = let no : ⊥ = cc in absurd no
next-tests true o true t l n m e = let no : ⊥ = cc in absurd no
next-tests false true true t l n m e = let no : ⊥ = cc in absurd no
next-tests false true false true l n m e = let no : ⊥ = cc in absurd no
next-tests false true false false l n m e = let no : ⊥ = cc in absurd no
next-tests false false r t l n m e = let no : ⊥ = cc in absurd no

held-tests : (a o r t l : Bool) (n m k : ℕ) → arrived a o r t l n m ≡ IsHeld k → (a ≡ true) × (t ≡ false) × (l ≡ true)
held-tests true o false false false n m k e = let no : ⊥ = cc in absurd no
held-tests true o false false true n m k e = (refl, refl, refl)
held-tests true o false true l n m k e = let no : ⊥ = cc in absurd no
held-tests true o true t l n m k e = let no : ⊥ = cc in absurd no
held-tests false true true t l n m k e = let no : ⊥ = cc in absurd no
held-tests false true false true l n m k e = let no : ⊥ = cc in absurd no
held-tests false true false false l n m k e = let no : ⊥ = cc in absurd no
held-tests false false r t l n m k e = let no : ⊥ = cc in absurd no

early-tests : (a o r t l : Bool) (n m : ℕ) → arrived a o r t l n m ≡ IsEarly → (a ≡ false) × (t ≡ false)
early-tests true o false false false n m e = let no : ⊥ = cc in absurd no
early-tests true o false false true n m e = let no : ⊥ = cc in absurd no
early-tests true o false true l n m e = let no : ⊥ = cc in absurd no
early-tests true o true t l n m e = let no : ⊥ = cc in absurd no
early-tests false true true t l n m e = let no : ⊥ = cc in absurd no
early-tests false true false true l n m e = let no : ⊥ = cc in absurd no
early-tests false true false false l n m e = (refl, refl)
early-tests false false r t l n m e = let no : ⊥ = cc in absurd no

neither : (a b : Bool) → a || b ≡ false → a ≡ false
neither true b e = e
neither false b e = refl

-- a note that is next follows those that were taken
pub next-follows : (note : Note) (kept : KeptInbox) → arrival_in note kept ≡ IsNext → follows note kept ≡ true
next-follows note kept e =
    let tests = next-tests (accepts note.name kept) kept.out (repeats note kept) (not (follows note kept) && nat_le held_limit (held_count kept)) (nat_lt kept.next note.place) (held_count kept) kept.next e in
    let not-repeat : nat_lt note.place kept.next || has_place kept.waiting note.place ≡ false =
    (λ i. cond (sym tests.0 i) (nat_lt note.place kept.next || has_place kept.waiting note.place) (kept.out && list_any (is_same_note note) kept.early)) ∙ tests.1 in
    let low = ltb-false note.place kept.next (neither (nat_lt note.place kept.next) (has_place kept.waiting note.place) not-repeat) in
    let high = ltb-false kept.next note.place tests.2 in
    (λ i. tests.0 i && eq-eqb note.place kept.next (omega (arith, low, high)) i)

-- where a note does not follow and is not one too many, there is room
room : (f : Bool) (n : ℕ) → f ≡ false → not f && nat_le held_limit n ≡ false → n < held_limit
room true n e t = absurd (true≢false e)
room false n e t = leb-false held_limit n t

-- a note that is held is one of the accepted name, behind the next one, and there is room
pub held-waits : (note : Note) (kept : KeptInbox) (place : ℕ) → arrival_in note kept ≡ IsHeld place
    → (held_count kept < held_limit) × (accepts note.name kept ≡ true) × (kept.next < note.place)
held-waits note kept place e =
    let tests = held-tests (accepts note.name kept) kept.out (repeats note kept) (not (follows note kept) && nat_le held_limit (held_count kept)) (nat_lt kept.next note.place) (held_count kept) kept.next place e in
    let later = ltb-true kept.next note.place tests.2 in
    let apart : nat_eq note.place kept.next ≡ false = ne_eqb note.place kept.next (λ s. omega (arith, s, later)) in (
      room (follows note kept) (held_count kept) (λ i. tests.0 i && apart i) tests.1,
      tests.0,
      later,
    )

-- where a note is early, there is room
pub early-room : (note : Note) (kept : KeptInbox) → arrival_in note kept ≡ IsEarly → held_count kept < held_limit
early-room note kept e =
    let tests = early-tests (accepts note.name kept) kept.out (repeats note kept) (not (follows note kept) && nat_le held_limit (held_count kept)) (nat_lt kept.next note.place) (held_count kept) kept.next e in
    room (follows note kept) (held_count kept) (λ i. tests.0 i && nat_eq note.place kept.next) tests.1
