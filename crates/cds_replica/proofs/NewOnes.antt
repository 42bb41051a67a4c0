-- Runs of places among notes of a name, and what they tell.
use Rattle.std.proofs.Common.{◌≡◌, ◌⊎◌, inl, inr, ◌+◌, ◌-◌, ◌<◌, ◌≤◌, ℕ, zero, suc, max, Bool, true, false, cond, ◌&&◌, nat_eq, List, [], ◌∷◌, ◌++◌, length, drop, get_or, Option, Some, None, refl, sym, ap, ◌∙◌, subst, arith, append_assoc}
use Rattle.std.specs.Prelude.{is_some, option_copied, IfSome}
use Rattle.std.specs.Borrow.{Bor}
use Rattle.std.specs.List.{filter_map, cons_option, range_with_len}
use Rattle.std.proofs.lemmas.Bool.{cases_lt}
use Rattle.std.proofs.lemmas.List.{append-nil, drop_more, drop_all}
use Rattle.cds_object.specs.declared.event.Event.{Event}
use Rattle.cds_commands.specs.Notes.{Note, note_of, notes_from_to, changes_above}
use Rattle.cds_follow.specs.Inbox.{has_place}
use Rattle.cds_follow.specs.Follow.{new_changes, greatest_of}
use Rattle.cds_follow.proofs.Taken.{has-note}
use Rattle.cds_commands.proofs.Chain.{note-among, note-later}
use Rattle.cds_replica.specs.Inboxed.{run_end, of_name}
use Rattle.cds_replica.specs.NewChanges.{KeptChanges, tells, tells_note}
use Rattle.cds_replica.proofs.Runs.{among-has, note-here, not-all_from, run-is, notes-none}

-- ---- the note of a name and a place

abbrev is_note : ℕ → ℕ → Note → Bool
is_note name place note = nat_eq note.name name && nat_eq note.place place

pub note-place : (place : ℕ) (notes : List Note) (note : Note) → note_of place notes ≡ Some note → note.place ≡ place
note-place place notes note e = (note-among place notes note e).1

-- the one that is found later, or else this one
abbrev pub later_or : Option Note → Option Note → Option Note
later_or None found = found
later_or (Some note) found = Some note

-- one note further
pub note-step : (name place : ℕ) (note : Note) (rest : List Note) (found : Option Note)
    → later_or (note_of place (of_name name (note ∷ rest))) found ≡ later_or (note_of place (of_name name rest)) (cond (is_note name place note) (Some note) found)
note-step name place note rest found = by (nat_eq note.name name)
  where
    or : (b : Bool) → later_or (cond b (Some note) None) found ≡ cond b (Some note) found
    or true = refl
    or false = refl

    on : (o : Option Note) → note_of place (of_name name rest) ≡ o
        → later_or (note_of place (note ∷ of_name name rest)) found ≡ later_or o (cond (nat_eq note.place place) (Some note) found)
    on None e = ap (λ (o : Option Note). later_or o found) (note-here place note (of_name name rest) e) ∙ or (nat_eq note.place place)
    on (Some first) e = ap (λ (o : Option Note). later_or o found) (note-later place note first (of_name name rest) e)

    by : (b : Bool) → later_or (note_of place (cond b (note ∷ of_name name rest) (of_name name rest))) found
        ≡ later_or (note_of place (of_name name rest)) (cond (b && nat_eq note.place place) (Some note) found)
    by true = on (note_of place (of_name name rest)) refl
    by false = refl

-- a round of the search for it
pub note-round : (name place i : ℕ) (notes : List Note) (note : Note) (whole found now : Option Note) (b : Bool) → i < length notes → note ≡ get_or notes i note
    → whole ≡ later_or (note_of place (of_name name (drop i notes))) found → b ≡ is_note name place note → now ≡ cond b (Some note) found
    → whole ≡ later_or (note_of place (of_name name (drop (i + 1) notes))) now
note-round name place i notes note whole found now b within is before test then =
    before
    ∙ ap (λ (l : List Note). later_or (note_of place (of_name name l)) found) (drop_more notes i note within ∙ ap (λ (n : Note). n ∷ drop (i + 1) notes) (sym is))
    ∙ note-step name place note (drop (i + 1) notes) found
    ∙ ap (later_or (note_of place (of_name name (drop (i + 1) notes)))) ((λ j. cond (sym test j) (Some note) found) ∙ sym then)

pub note-rest : (name place i : ℕ) (notes : List Note) (whole found : Option Note) → length notes ≤ i → whole ≡ later_or (note_of place (of_name name (drop i notes))) found → whole ≡ found
note-rest name place i notes whole found past before =
    before ∙ ap (λ (l : List Note). later_or (note_of place (of_name name l)) found) (drop_all i notes past)

pub copied-place : (o : Option (Bor Note)) (place : ℕ) (notes : List Note) → option_copied o ≡ note_of place notes → IfSome o (λ note. note.now.place ≡ place)
copied-place None place notes e = tt
copied-place (Some note) place notes e = note-place place notes note.now (sym e)

pub note-whole : (name place : ℕ) (notes : List Note) → note_of place (of_name name notes) ≡ later_or (note_of place (of_name name notes)) None
note-whole name place notes = by (note_of place (of_name name notes))
  where
    by : (o : Option Note) → o ≡ later_or o None
    by None = refl
    by (Some note) = refl

pub note-has : (place : ℕ) (notes : List Note) (o : Option Note) → note_of place notes ≡ o → is_some o ≡ has_place notes place
note-has place notes None e = by (has_place notes place) refl
  where
    by : (b : Bool) → has_place notes place ≡ b → false ≡ b
    by true h = let found = has-note place notes h in let no : Some found.0 ≡ None = sym found.1 ∙ e in cc
    by false h = refl
note-has place notes (Some note) e = let a = note-among place notes note e in sym (among-has place notes note a.0 a.1)

-- ---- the end of a run

-- from a place on all were found so far
abbrev pub AllFound : List Note → ℕ → ℕ → Type 0
AllFound notes from to = (q : ℕ) → from ≤ q → q < to → has_place notes q ≡ true

pub found-more : (notes : List Note) (from to : ℕ) → AllFound notes from to → has_place notes to ≡ true → AllFound notes from (to + 1)
found-more notes from to all have q low l = by (cases_lt q to)
  where
    by : (q < to) ⊎ (to ≤ q) → has_place notes q ≡ true
    by (inl less) = all q low less
    by (inr least) = let same : to ≡ q = omega (arith, least, l) in subst (λ (x : ℕ). has_place notes x ≡ true) same have

pub found-end : (notes : List Note) (from to : ℕ) → from ≤ to → AllFound notes from to → has_place notes to ≡ false → to ≡ run_end from notes
found-end notes from to low all out = sym (run-is from to notes low all out)

-- as many as there are notes are all
pub found-all : (notes : List Note) (from to : ℕ) → from + length notes ≤ to → AllFound notes from to → to ≡ run_end from notes
found-all notes from to long all = by (has_place notes to) refl
  where
    by : (b : Bool) → has_place notes to ≡ b → to ≡ run_end from notes
    by false out = found-end notes from to (omega (arith, long)) all out
    by true have = none (not-all_from from notes (λ q low l. found-more notes from to all have q low (omega (arith, l, long))))
      where
        none : ⊥ → to ≡ run_end from notes
        none e = absurd e

of_name-length : (name : ℕ) (notes : List Note) → length (of_name name notes) ≤ length notes
of_name-length name [] = omega arith
of_name-length name (note ∷ notes) = by (nat_eq note.name name) (of_name-length name notes)
  where
    by : (b : Bool) → length (of_name name notes) ≤ length notes → length (cond b (note ∷ of_name name notes) (of_name name notes)) ≤ suc (length notes)
    by true l = omega (arith, l)
    by false l = omega (arith, l)

pub found-all_of : (name : ℕ) (notes : List Note) (from to : ℕ) → from + length notes ≤ to → AllFound (of_name name notes) from to → to ≡ run_end from (of_name name notes)
found-all_of name notes from to long all =
    let few = of_name-length name notes in
    found-all (of_name name notes) from to (omega (arith, long, few)) all

-- ---- what notes tell

pub tells-none : (told : KeptChanges) → told ≡ tells [] told
tells-none told = λ i. record { position = told.position; last_note = told.last_note; changes = sym (append-nil told.changes) i }

greatest-append : (n : ℕ) (xs ys : List Note) → greatest_of n (xs ++ ys) ≡ greatest_of (greatest_of n xs) ys
greatest-append n [] ys = refl
greatest-append n (note ∷ xs) ys = greatest-append (max n note.number) xs ys

changes-append : (at : ℕ) (xs ys : List Note) → new_changes at (xs ++ ys) ≡ new_changes at xs ++ new_changes (greatest_of at xs) ys
changes-append at [] ys = refl
changes-append at (note ∷ xs) ys =
    ap (λ (l : List Event). changes_above at note.events ++ l) (changes-append (max at note.number) xs ys)
    ∙ sym (append_assoc (changes_above at note.events) (new_changes (max at note.number) xs) (new_changes (greatest_of (max at note.number) xs) ys))

pub tells-append : (xs ys : List Note) (told : KeptChanges) → tells (xs ++ ys) told ≡ tells ys (tells xs told)
tells-append xs ys told = λ i. record {
  position = greatest-append told.position xs ys i;
  last_note = greatest-append told.last_note xs ys i;
  changes = (ap (λ (l : List Event). told.changes ++ l) (changes-append told.position xs ys)
      ∙ sym (append_assoc told.changes (new_changes told.position xs) (new_changes (greatest_of told.position xs) ys))) i;
}

pub tells-one : (note : Note) (told : KeptChanges) → tells (note ∷ []) told ≡ tells_note note told
tells-one note told = λ i. record {
  position = max told.position note.number;
  last_note = max told.last_note note.number;
  changes = told.changes ++ append-nil (changes_above told.position note.events) i;
}

range-more : (a n : ℕ) → range_with_len a (suc n) ≡ range_with_len a n ++ (a + n) ∷ []
range-more a zero = let same : a ≡ a + 0 = omega arith in ap (λ (x : ℕ). x ∷ []) same
range-more a (suc n) =
    let same : a + 1 + n ≡ a + suc n = omega arith in
    ap (λ (l : List ℕ). a ∷ l) (range-more (a + 1) n ∙ ap (λ (x : ℕ). range_with_len (a + 1) n ++ x ∷ []) same)

map-append : (notes : List Note) (ns ms : List ℕ) → filter_map (λ (place : ℕ). note_of place notes) (ns ++ ms)
    ≡ filter_map (λ (place : ℕ). note_of place notes) ns ++ filter_map (λ (place : ℕ). note_of place notes) ms
map-append notes [] ms = refl
map-append notes (n ∷ ns) ms = by (note_of n notes) (map-append notes ns ms)
  where
    by : (o : Option Note) → filter_map (λ (place : ℕ). note_of place notes) (ns ++ ms)
        ≡ filter_map (λ (place : ℕ). note_of place notes) ns ++ filter_map (λ (place : ℕ). note_of place notes) ms
        → cons_option o (filter_map (λ (place : ℕ). note_of place notes) (ns ++ ms))
        ≡ cons_option o (filter_map (λ (place : ℕ). note_of place notes) ns) ++ filter_map (λ (place : ℕ). note_of place notes) ms
    by None rest = rest
    by (Some note) rest = ap (λ (l : List Note). note ∷ l) rest

-- the notes up to one more place
pub notes-last : (from to : ℕ) (notes : List Note) → from ≤ to → notes_from_to from (to + 1) notes ≡ notes_from_to from to notes ++ cons_option (note_of to notes) []
notes-last from to notes l =
    let long : to + 1 - from ≡ suc (to - from) = omega (arith, l) in
    let last : from + (to - from) ≡ to = omega (arith, l) in
    ap (λ (n : ℕ). filter_map (λ (place : ℕ). note_of place notes) (range_with_len from n)) long
    ∙ ap (filter_map (λ (place : ℕ). note_of place notes)) (range-more from (to - from))
    ∙ map-append notes (range_with_len from (to - from)) ((from + (to - from)) ∷ [])
    ∙ ap (λ (n : ℕ). notes_from_to from to notes ++ cons_option (note_of n notes) []) last

-- one place further, with or without a note
pub tells-run_none : (from to : ℕ) (notes : List Note) (told now : KeptChanges) → from ≤ to → now ≡ tells (notes_from_to from to notes) told → note_of to notes ≡ None
    → now ≡ tells (notes_from_to from (to + 1) notes) told
tells-run_none from to notes told now l is e =
    is ∙ sym (ap (λ (ns : List Note). tells ns told) (notes-last from to notes l ∙ ap (λ (o : Option Note). notes_from_to from to notes ++ cons_option o []) e ∙ append-nil (notes_from_to from to notes)))

pub tells-run_some : (from to : ℕ) (notes : List Note) (note : Note) (told now : KeptChanges) → from ≤ to → now ≡ tells (notes_from_to from to notes) told → note_of to notes ≡ Some note
    → tells_note note now ≡ tells (notes_from_to from (to + 1) notes) told
tells-run_some from to notes note told now l is e =
    ap (tells_note note) is ∙ sym (tells-one note (tells (notes_from_to from to notes) told))
    ∙ sym (ap (λ (ns : List Note). tells ns told) (notes-last from to notes l ∙ ap (λ (o : Option Note). notes_from_to from to notes ++ cons_option o []) e)
    ∙ tells-append (notes_from_to from to notes) (note ∷ []) told)

-- a note that was found is that of its place
pub found-has : (o : Option (Bor Note)) (place : ℕ) (notes : List Note) → option_copied o ≡ note_of place notes → is_some o ≡ has_place notes place
found-has None place notes e = note-has place notes None (sym e)
found-has (Some note) place notes e = note-has place notes (Some note.now) (sym e)

pub found-none : (notes : List Note) (from : ℕ) → AllFound notes from from
found-none notes from q low l = let no : ⊥ = omega (arith, low, l) in absurd no

pub tells-run_start : (from : ℕ) (notes : List Note) (told : KeptChanges) → told ≡ tells (notes_from_to from from notes) told
tells-run_start from notes told = tells-none told ∙ ap (λ (ns : List Note). tells ns told) (sym (notes-none from from notes (omega arith)))

-- all of them, or none where there is none
pub tells-run_all : (from to place : ℕ) (notes : List Note) (told now : KeptChanges) → to ≤ place → (place ≡ from) ⊎ (place ≤ to)
    → now ≡ tells (notes_from_to from place notes) told → now ≡ tells (notes_from_to from to notes) told
tells-run_all from to place notes told now past (inl start) is =
    is ∙ ap (λ (ns : List Note). tells ns told) (notes-none from place notes (omega (arith, start)) ∙ sym (notes-none from to notes (omega (arith, start, past))))
tells-run_all from to place notes told now past (inr within) is =
    let same : place ≡ to = omega (arith, past, within) in
    is ∙ ap (λ (n : ℕ). tells (notes_from_to from n notes) told) same
