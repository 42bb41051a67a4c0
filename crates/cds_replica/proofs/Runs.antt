-- Notes without repeats, those of a name, those behind a place, and runs of places among them.
use Rattle.std.proofs.Common.{◌≡◌, ◌⊎◌, inl, inr, ◌+◌, ◌-◌, ◌<◌, ◌≤◌, ℕ, zero, suc, Bool, true, false, cond, ◌&&◌, ◌||◌, nat_eq, nat_lt, List, [], ◌∷◌, map, length, Option, Some, None, refl, sym, ap, ◌∙◌, subst, arith, true≢false, ltb-true, ltb-false, eq-eqb, ne_eqb, eqb-true}
use Rattle.std.specs.List.{list_any, filter_map, cons_option, range_with_len, AllByRecursion}
use Rattle.std.proofs.lemmas.Bool.{cases_lt, eqb-false}
use Rattle.cds_commands.specs.Notes.{Note, note_of, notes_from_to}
use Rattle.cds_follow.specs.Inbox.{has_place, least_outside, is_same_note, different}
use Rattle.cds_follow.proofs.Received.{not-all, below-is_in}
use Rattle.cds_follow.proofs.Taken.{has-note}
use Rattle.cds_commands.proofs.Among.{Among}
use Rattle.cds_commands.proofs.Chain.{note-among, note-later}
use Rattle.cds_replica.specs.Inboxed.{run_end, behind, of_name}

-- a note that is among others has its place among theirs
pub among-has : (q : ℕ) (notes : List Note) (note : Note) → Among note notes → note.place ≡ q → has_place notes q ≡ true
among-has q [] note a e = absurd a
among-has q (other ∷ notes) note a e = by a (λ b. among-has q notes note b e)
  where
    either : (b : Bool) → has_place notes q ≡ true → b || has_place notes q ≡ true
    either true h = refl
    either false h = h

    by : (note ≡ other) ⊎ Among note notes → (Among note notes → has_place notes q ≡ true) → nat_eq other.place q || has_place notes q ≡ true
    by (inl s) rest = (λ i. eq-eqb other.place q (ap (λ (n : Note). n.place) (sym s) ∙ e) i || has_place notes q)
    by (inr b) rest = either (nat_eq other.place q) (rest b)

-- ---- runs

-- notes whose places are lower by a number
shifted : ℕ → List Note → List Note
shifted from notes = map (λ (note : Note). record note { place = note.place - from }) notes

shifted-length : (from : ℕ) (notes : List Note) → length (shifted from notes) ≡ length notes
unfolding shifted
shifted-length from [] = refl
shifted-length from (note ∷ notes) = ap suc (shifted-length from notes)

shifted-has : (from q : ℕ) (notes : List Note) → has_place notes (from + q) ≡ true → has_place (shifted from notes) q ≡ true
unfolding shifted
shifted-has from q [] e = absurd (true≢false (sym e))
shifted-has from q (note ∷ notes) e = by (nat_eq note.place (from + q)) refl (shifted-has from q notes) e
  where
    either : (b : Bool) → has_place (shifted from notes) q ≡ true → b || has_place (shifted from notes) q ≡ true
    either true h = refl
    either false h = h

    by : (b : Bool) → nat_eq note.place (from + q) ≡ b → (has_place notes (from + q) ≡ true → has_place (shifted from notes) q ≡ true)
        → b || has_place notes (from + q) ≡ true → nat_eq (note.place - from) q || has_place (shifted from notes) q ≡ true
    by true s rest e =
        let same = eqb-true note.place (from + q) s in
        let lower : note.place - from ≡ q = omega (arith, same) in
        (λ i. eq-eqb (note.place - from) q lower i || has_place (shifted from notes) q)
    by false s rest e = either (nat_eq (note.place - from) q) (rest e)

-- not all of one more number in a row than there are notes are among their places
pub not-all_from : (from : ℕ) (notes : List Note) → ((q : ℕ) → from ≤ q → q < from + (length notes + 1) → has_place notes q ≡ true) → ⊥
unfolding shifted
not-all_from from notes all =
    not-all (shifted from notes) (λ q l.
    let as_many = shifted-length from notes in
    shifted-has from q notes (all (from + q) (omega arith) (omega (arith, l, as_many))))

ends : (more from : ℕ) (notes : List Note) → (has_place notes (least_outside more from notes) ≡ false) ⊎ (least_outside more from notes ≡ from + more)
ends zero from notes = inr (omega arith)
ends (suc more) from notes = by (has_place notes from) refl (ends more (from + 1) notes)
  where
    on : (has_place notes (least_outside more (from + 1) notes) ≡ false) ⊎ (least_outside more (from + 1) notes ≡ from + 1 + more)
        → (has_place notes (least_outside more (from + 1) notes) ≡ false) ⊎ (least_outside more (from + 1) notes ≡ from + suc more)
    on (inl h) = inl h
    on (inr h) = inr (omega (arith, h))

    by : (b : Bool) → has_place notes from ≡ b
        → (has_place notes (least_outside more (from + 1) notes) ≡ false) ⊎ (least_outside more (from + 1) notes ≡ from + 1 + more)
        → (has_place notes (cond b (least_outside more (from + 1) notes) from) ≡ false) ⊎ (cond b (least_outside more (from + 1) notes) from ≡ from + suc more)
    by true e rest = on rest
    by false e rest = inl e

-- a run ends before a place that is not among them
pub run-outside : (from : ℕ) (notes : List Note) → has_place notes (run_end from notes) ≡ false
run-outside from notes = by (has_place notes (run_end from notes)) refl (ends (length notes) from notes)
  where
    by : (b : Bool) → has_place notes (run_end from notes) ≡ b
        → (has_place notes (run_end from notes) ≡ false) ⊎ (run_end from notes ≡ from + length notes)
        → has_place notes (run_end from notes) ≡ false
    by false e at = e
    by true e (inl at) = at
    by true e (inr at) = absurd-at (not-all_from from notes all)
      where
        absurd-at : ⊥ → has_place notes (run_end from notes) ≡ false
        absurd-at none = absurd none

        all : (q : ℕ) → from ≤ q → q < from + (length notes + 1) → has_place notes q ≡ true
        all q low l = one (cases_lt q (from + length notes))
          where
            one : (q < from + length notes) ⊎ (from + length notes ≤ q) → has_place notes q ≡ true
            one (inl less) = below-is_in (length notes) from notes q low (omega (arith, at, less))
            one (inr last) =
                let same : run_end from notes ≡ q = omega (arith, at, last, l) in
                subst (λ (x : ℕ). has_place notes x ≡ true) same e

pub run-inside : (from q : ℕ) (notes : List Note) → from ≤ q → q < run_end from notes → has_place notes q ≡ true
run-inside from q notes low l = below-is_in (length notes) from notes q low l

least-from : (more from : ℕ) (notes : List Note) → from ≤ least_outside more from notes
least-from zero from notes = omega arith
least-from (suc more) from notes = by (has_place notes from) (least-from more (from + 1) notes)
  where
    by : (b : Bool) → from + 1 ≤ least_outside more (from + 1) notes → from ≤ cond b (least_outside more (from + 1) notes) from
    by true l = omega (arith, l)
    by false l = omega arith

pub run-from : (from : ℕ) (notes : List Note) → from ≤ run_end from notes
run-from from notes = least-from (length notes) from notes

-- where a run ends is settled by what is among them
pub run-is : (from n : ℕ) (notes : List Note) → from ≤ n → ((q : ℕ) → from ≤ q → q < n → has_place notes q ≡ true) → has_place notes n ≡ false → run_end from notes ≡ n
run-is from n notes low all out = by (cases_lt (run_end from notes) n)
  where
    clash : {A : Type 0} → true ≡ false → A
    clash e = absurd (true≢false e)

    other : (n < run_end from notes) ⊎ (run_end from notes ≤ n) → n ≤ run_end from notes → run_end from notes ≡ n
    other (inl l) m = clash (sym (run-inside from n notes low l) ∙ out)
    other (inr l) m = omega (arith, l, m)

    by : (run_end from notes < n) ⊎ (n ≤ run_end from notes) → run_end from notes ≡ n
    by (inl l) = clash (sym (all (run_end from notes) (run-from from notes) l) ∙ run-outside from notes)
    by (inr l) = other (cases_lt n (run_end from notes)) l

pub run-same : (from : ℕ) (xs ys : List Note) → ((q : ℕ) → from ≤ q → has_place xs q ≡ has_place ys q) → run_end from xs ≡ run_end from ys
run-same from xs ys same =
    run-is from (run_end from ys) xs (run-from from ys) (λ q low l. same q low ∙ run-inside from q ys low l)
    (same (run_end from ys) (run-from from ys) ∙ run-outside from ys)

-- ---- notes behind a place

nat_eq-apart : (a b : ℕ) → a < b → nat_eq a b ≡ false
nat_eq-apart a b l = ne_eqb a b (λ e. omega (arith, l, e))

pub behind-has : (next q : ℕ) (notes : List Note) → next < q → has_place (behind next notes) q ≡ has_place notes q
behind-has next q [] l = refl
behind-has next q (note ∷ notes) l = by (nat_lt next note.place) refl (behind-has next q notes l)
  where
    by : (b : Bool) → nat_lt next note.place ≡ b → has_place (behind next notes) q ≡ has_place notes q
        → has_place (cond b (note ∷ behind next notes) (behind next notes)) q ≡ nat_eq note.place q || has_place notes q
    by true e rest = ap (λ b. nat_eq note.place q || b) rest
    by false e rest =
        let low = ltb-false next note.place e in
        rest ∙ (λ i. sym (nat_eq-apart note.place q (omega (arith, low, l))) i || has_place notes q)

pub behind-none : (next q : ℕ) (notes : List Note) → q ≤ next → has_place (behind next notes) q ≡ false
behind-none next q [] l = refl
behind-none next q (note ∷ notes) l = by (nat_lt next note.place) refl (behind-none next q notes l)
  where
    by : (b : Bool) → nat_lt next note.place ≡ b → has_place (behind next notes) q ≡ false
        → has_place (cond b (note ∷ behind next notes) (behind next notes)) q ≡ false
    by true e rest =
        let above = ltb-true next note.place e in
        (λ i. ne_eqb note.place q (λ e. omega (arith, above, l, e)) i || has_place (behind next notes) q) ∙ rest
    by false e rest = rest

-- ---- the note of a place among notes and one more

pub note-here : (q : ℕ) (note : Note) (older : List Note) → note_of q older ≡ None → note_of q (note ∷ older) ≡ cond (nat_eq note.place q) (Some note) None
note-here q note older e = rw e refl

note-on : (q : ℕ) (note : Note) (xs ys : List Note) → note_of q xs ≡ note_of q ys → note_of q (note ∷ xs) ≡ note_of q (note ∷ ys)
note-on q note xs ys e = rw e refl

-- one of another place is passed
pub note-past : (q : ℕ) (note : Note) (older : List Note) → nat_eq note.place q ≡ false → note_of q (note ∷ older) ≡ note_of q older
note-past q note older e = by (note_of q older) refl
  where
    by : (o : Option Note) → note_of q older ≡ o → note_of q (note ∷ older) ≡ note_of q older
    by None k = note-here q note older k ∙ (λ i. cond (e i) (Some note) None) ∙ sym k
    by (Some first) k = note-later q note first older k ∙ sym k

-- one whose place no earlier one has is that of its place
pub note-new : (q : ℕ) (note : Note) (older : List Note) → has_place older q ≡ false → note.place ≡ q → note_of q (note ∷ older) ≡ Some note
note-new q note older out same = by (note_of q older) refl
  where
    has : (first : Note) → note_of q older ≡ Some first → note_of q (note ∷ older) ≡ Some note
    has first k = let a = note-among q older first k in absurd (true≢false (sym (among-has q older first a.0 a.1) ∙ out))

    by : (o : Option Note) → note_of q older ≡ o → note_of q (note ∷ older) ≡ Some note
    by None k = note-here q note older k ∙ (λ i. cond (eq-eqb note.place q same i) (Some note) None)
    by (Some first) k = has first k

-- one whose place an earlier one has, too, is not
pub note-again : (q : ℕ) (note : Note) (older : List Note) → has_place older note.place ≡ true → note_of q (note ∷ older) ≡ note_of q older
note-again q note older have = by (nat_eq note.place q) refl
  where
    by : (b : Bool) → nat_eq note.place q ≡ b → note_of q (note ∷ older) ≡ note_of q older
    by false e = note-past q note older e
    by true e =
        let same = eqb-true note.place q e in
        let found = has-note q older (ap (has_place older) (sym same) ∙ have) in
        note-later q note found.0 older found.1 ∙ sym found.1

pub behind-note : (next q : ℕ) (notes : List Note) → next < q → note_of q (behind next notes) ≡ note_of q notes
behind-note next q [] l = refl
behind-note next q (note ∷ notes) l = by (nat_lt next note.place) refl (behind-note next q notes l)
  where
    by : (b : Bool) → nat_lt next note.place ≡ b → note_of q (behind next notes) ≡ note_of q notes
        → note_of q (cond b (note ∷ behind next notes) (behind next notes)) ≡ note_of q (note ∷ notes)
    by true e rest = note-on q note (behind next notes) notes rest
    by false e rest =
        let low = ltb-false next note.place e in
        rest ∙ sym (note-past q note notes (nat_eq-apart note.place q (omega (arith, low, l))))

pub behind-behind : (m n : ℕ) (notes : List Note) → m ≤ n → behind n (behind m notes) ≡ behind n notes
behind-behind m n [] l = refl
behind-behind m n (note ∷ notes) l = by (nat_lt m note.place) (nat_lt n note.place) refl refl (behind-behind m n notes l)
  where
    by : (b c : Bool) → nat_lt m note.place ≡ b → nat_lt n note.place ≡ c → behind n (behind m notes) ≡ behind n notes
        → behind n (cond b (note ∷ behind m notes) (behind m notes)) ≡ cond c (note ∷ behind n notes) (behind n notes)
    by true c e f rest = (λ i. cond (f i) (note ∷ rest i) (rest i))
    by false true e f rest =
        let low = ltb-false m note.place e in
        let high = ltb-true n note.place f in
        absurd-at (omega (arith, low, high, l))
      where
        absurd-at : ⊥ → behind n (behind m notes) ≡ note ∷ behind n notes
        absurd-at none = absurd none
    by false false e f rest = rest

-- the notes from a place up to another, by the note of each
pub notes-same : (from to : ℕ) (xs ys : List Note) → ((q : ℕ) → from ≤ q → q < to → note_of q xs ≡ note_of q ys) → notes_from_to from to xs ≡ notes_from_to from to ys
notes-same from to xs ys same = on (to - from) from (λ q low l. same q low (omega (arith, low, l)))
  where
    on : (n a : ℕ) → ((q : ℕ) → a ≤ q → q < a + n → note_of q xs ≡ note_of q ys)
        → filter_map (λ (place : ℕ). note_of place xs) (range_with_len a n) ≡ filter_map (λ (place : ℕ). note_of place ys) (range_with_len a n)
    on zero a same = refl
    on (suc n) a same =
        (λ i. cons_option (same a (omega arith) (omega arith) i)
        (on n (a + 1) (λ q low l. same q (omega (arith, low)) (omega (arith, l))) i))

pub notes-more : (from to : ℕ) (notes : List Note) → from < to → notes_from_to from to notes ≡ cons_option (note_of from notes) (notes_from_to (from + 1) to notes)
notes-more from to notes l =
    let long : to - from ≡ suc (to - (from + 1)) = omega (arith, l) in
    ap (λ (n : ℕ). filter_map (λ (place : ℕ). note_of place notes) (range_with_len from n)) long

pub notes-none : (from to : ℕ) (notes : List Note) → to ≤ from → notes_from_to from to notes ≡ []
notes-none from to notes l =
    let none : to - from ≡ 0 = omega (arith, l) in
    ap (λ (n : ℕ). filter_map (λ (place : ℕ). note_of place notes) (range_with_len from n)) none

-- ---- notes without repeats, and those of a name

flip-eq : (a b : ℕ) → nat_eq a b ≡ nat_eq b a
flip-eq a b = by (nat_eq a b) refl
  where
    by : (x : Bool) → nat_eq a b ≡ x → x ≡ nat_eq b a
    by true e = sym (eq-eqb b a (sym (eqb-true a b e)))
    by false e = sym (ne_eqb b a (λ s. eqb-false a b e (sym s)))

pub same-parts : (a b : Note) → is_same_note a b ≡ true → (a.name ≡ b.name) × (a.place ≡ b.place)
same-parts a b e = by (nat_eq a.name b.name) refl (nat_eq a.place b.place) refl e
  where
    by : (x : Bool) → nat_eq a.name b.name ≡ x → (y : Bool) → nat_eq a.place b.place ≡ y → x && y ≡ true → (a.name ≡ b.name) × (a.place ≡ b.place)
    by true f true g e = (eqb-true a.name b.name f, eqb-true a.place b.place g)
    by true f false g e = absurd (true≢false (sym e))
    by false f y g e = absurd (true≢false (sym e))

same-any : (a b : Note) (notes : List Note) → a.name ≡ b.name → a.place ≡ b.place → list_any (is_same_note a) notes ≡ list_any (is_same_note b) notes
same-any a b notes e f = λ i. list_any (λ (other : Note). nat_eq (e i) other.name && nat_eq (f i) other.place) notes

pub different-any : (note : Note) (notes : List Note) → list_any (is_same_note note) (different notes) ≡ list_any (is_same_note note) notes
different-any note [] = refl
different-any note (other ∷ older) = by (list_any (is_same_note other) older) refl (different-any note older)
  where
    found : (b : Bool) → is_same_note note other ≡ b → list_any (is_same_note other) older ≡ true → list_any (is_same_note note) older ≡ b || list_any (is_same_note note) older
    found true e have = let s = same-parts note other e in same-any note other older s.0 s.1 ∙ have
    found false e have = refl

    by : (b : Bool) → list_any (is_same_note other) older ≡ b → list_any (is_same_note note) (different older) ≡ list_any (is_same_note note) older
        → list_any (is_same_note note) (cond b (different older) (other ∷ different older)) ≡ is_same_note note other || list_any (is_same_note note) older
    by true e rest = rest ∙ found (is_same_note note other) refl e
    by false e rest = ap (λ b. is_same_note note other || b) rest

-- all notes are of a name
abbrev pub AreOf : ℕ → List Note → Type 0
AreOf name notes = AllByRecursion (λ (note : Note). note.name ≡ name) notes

pub different-of : (name : ℕ) (notes : List Note) → AreOf name notes → AreOf name (different notes)
different-of name [] all = tt
different-of name (note ∷ older) all = by (list_any (is_same_note note) older) (different-of name older all.1)
  where
    by : (b : Bool) → AreOf name (different older) → AreOf name (cond b (different older) (note ∷ different older))
    by true rest = rest
    by false rest = (all.0, rest)

-- among notes of one name those are the same that have the same place
pub any-has : (note : Note) (notes : List Note) → AreOf note.name notes → list_any (is_same_note note) notes ≡ has_place notes note.place
any-has note [] all = refl
any-has note (other ∷ older) all =
    (λ i. (eq-eqb note.name other.name (sym all.0) i && flip-eq note.place other.place i) || any-has note older all.1 i)

pub different-has : (name q : ℕ) (notes : List Note) → AreOf name notes → has_place (different notes) q ≡ has_place notes q
different-has name q notes all =
    let probe : Note = record { name = name; place = q; number = 0; events = [] } in
    sym (any-has probe (different notes) (different-of name notes all)) ∙ different-any probe notes ∙ any-has probe notes all

pub different-note : (name q : ℕ) (notes : List Note) → AreOf name notes → note_of q (different notes) ≡ note_of q notes
different-note name q [] all = refl
different-note name q (note ∷ older) all = by (list_any (is_same_note note) older) refl (different-note name q older all.1)
  where
    by : (b : Bool) → list_any (is_same_note note) older ≡ b → note_of q (different older) ≡ note_of q older
        → note_of q (cond b (different older) (note ∷ different older)) ≡ note_of q (note ∷ older)
    by true e rest =
        let have = sym (any-has note older (subst (λ (n : ℕ). AreOf n older) (sym all.0) all.1)) ∙ e in
        rest ∙ sym (note-again q note older have)
    by false e rest = note-on q note (different older) older rest

pub of_name-of : (name : ℕ) (notes : List Note) → AreOf name (of_name name notes)
of_name-of name [] = tt
of_name-of name (note ∷ notes) = by (nat_eq note.name name) refl (of_name-of name notes)
  where
    by : (b : Bool) → nat_eq note.name name ≡ b → AreOf name (of_name name notes) → AreOf name (cond b (note ∷ of_name name notes) (of_name name notes))
    by true e rest = (eqb-true note.name name e, rest)
    by false e rest = rest

of_name-any : (name : ℕ) (note : Note) (notes : List Note) → note.name ≡ name → list_any (is_same_note note) (of_name name notes) ≡ list_any (is_same_note note) notes
of_name-any name note [] e = refl
of_name-any name note (other ∷ notes) e = by (nat_eq other.name name) refl (of_name-any name note notes e)
  where
    by : (b : Bool) → nat_eq other.name name ≡ b → list_any (is_same_note note) (of_name name notes) ≡ list_any (is_same_note note) notes
        → list_any (is_same_note note) (cond b (other ∷ of_name name notes) (of_name name notes)) ≡ is_same_note note other || list_any (is_same_note note) notes
    by true f rest = ap (λ b. is_same_note note other || b) rest
    by false f rest =
        let apart : nat_eq note.name other.name ≡ false = ne_eqb note.name other.name (λ s. eqb-false other.name name f (sym s ∙ e)) in
        rest ∙ (λ i. (sym apart i && nat_eq note.place other.place) || list_any (is_same_note note) notes)

pub different-of_name : (name : ℕ) (notes : List Note) → different (of_name name notes) ≡ of_name name (different notes)
different-of_name name [] = refl
different-of_name name (note ∷ older) = by (nat_eq note.name name) refl (list_any (is_same_note note) older) refl (different-of_name name older)
  where
    by : (b : Bool) → nat_eq note.name name ≡ b → (c : Bool) → list_any (is_same_note note) older ≡ c → different (of_name name older) ≡ of_name name (different older)
        → different (cond b (note ∷ of_name name older) (of_name name older)) ≡ of_name name (cond c (different older) (note ∷ different older))
    by true e c f rest =
        (λ i. cond ((of_name-any name note older (eqb-true note.name name e) ∙ f) i) (rest i) (note ∷ rest i)) ∙ out c
      where
        out : (c : Bool) → cond c (of_name name (different older)) (note ∷ of_name name (different older)) ≡ of_name name (cond c (different older) (note ∷ different older))
        out true = refl
        out false = λ i. cond (sym e i) (note ∷ of_name name (different older)) (of_name name (different older))
    by false e true f rest = rest
    by false e false f rest = rest ∙ (λ i. cond (sym e i) (note ∷ of_name name (different older)) (of_name name (different older)))
