-- The notes that wait in an inbox, and what those tell that follow the next one.
use Rattle.std.proofs.Common.{◌≡◌, ◌+◌, ◌<◌, ◌≤◌, ℕ, zero, suc, Bool, true, false, cond, ◌&&◌, ◌||◌, nat_eq, nat_lt, List, [], ◌∷◌, length, Option, Some, None, refl, sym, ap, ◌∙◌, subst, arith, true≢false, eq-eqb, eqb-true, lt-ltb, ltb-true}
use Rattle.std.specs.Option.{option_eq}
use Rattle.std.specs.List.{AllByRecursion, list_any, filter, cons_option}
use Rattle.cds_commands.specs.Notes.{Note, note_of, notes_from_to}
use Rattle.cds_follow.specs.Inbox.{has_place}
use Rattle.cds_follow.specs.Follow.{is_drop}
use Rattle.cds_replica.specs.Inboxed.{KeptInbox, IsInbox, IsWaiting, accepts, follows, run_end, behind, of_name, with_name, run_after, followers, with_next}
use Rattle.cds_replica.specs.NewChanges.{KeptChanges, tells, tells_note, drops_first}
use Rattle.cds_replica.proofs.Runs.{AreOf, run-outside, run-is, notes-more, notes-none, of_name-of}
use Rattle.cds_replica.proofs.NewOnes.{note-place, note-has, tells-append, tells-one}

-- ---- notes of the accepted name

pub accepts-name : (name : ℕ) (accepted : Option ℕ) → option_eq nat_eq accepted (Some name) ≡ true → accepted ≡ Some name
accepts-name name None e = absurd (true≢false (sym e))
accepts-name name (Some other) e = ap (λ (n : ℕ). Some n) (eqb-true other name e)

some-same : (a b : ℕ) → Some a ≡ Some b → a ≡ b
some-same a b e = cc

pub waiting-of : (name next : ℕ) (accepted : Option ℕ) (notes : List Note) → accepted ≡ Some name → AllByRecursion (IsWaiting accepted next) notes → AreOf name notes
waiting-of name next accepted [] e all = tt
waiting-of name next accepted (note ∷ notes) e all = (some-same note.name name (sym all.0.0 ∙ e), waiting-of name next accepted notes e all.1)

pub of_name-same : (name : ℕ) (notes : List Note) → AreOf name notes → of_name name notes ≡ notes
of_name-same name [] all = refl
of_name-same name (note ∷ notes) all =
    (λ i. cond (eq-eqb note.name name all.0 i) (note ∷ of_name-same name notes all.1 i) (of_name-same name notes all.1 i))

pub waiting-name : (name : ℕ) (kept : KeptInbox) → IsInbox kept → accepts name kept ≡ true → of_name name kept.waiting ≡ kept.waiting
waiting-name name kept inbox e = of_name-same name kept.waiting (waiting-of name kept.next kept.accepted kept.waiting (accepts-name name kept.accepted e) inbox.waiting)

pub and-parts : (a b : Bool) → a && b ≡ true → (a ≡ true) × (b ≡ true)
and-parts true b e = (refl, e)
and-parts false b e = absurd (true≢false (sym e))

-- the next note is one of the accepted name and has the next place
pub follows-parts : (note : Note) (kept : KeptInbox) → follows note kept ≡ true → (accepts note.name kept ≡ true) × (note.place ≡ kept.next)
follows-parts note kept e = let parts = and-parts (accepts note.name kept) (nat_eq note.place kept.next) e in (parts.0, eqb-true note.place kept.next parts.1)

-- ---- what the next note and those that follow it tell

pub told-by : (note : Note) (kept : KeptInbox) (to : ℕ) (told : KeptChanges) → IsInbox kept → follows note kept ≡ true → to ≡ run_end (note.place + 1) (of_name note.name kept.waiting)
    → tells (notes_from_to (note.place + 1) to (of_name note.name kept.waiting)) (tells_note note told) ≡ tells (note ∷ followers kept) told
told-by note kept to told inbox e is =
    let parts = follows-parts note kept e in
    let same = waiting-name note.name kept inbox parts.0 in
    (λ i. tells (notes_from_to (parts.1 i + 1) ((is ∙ (λ j. run_end (parts.1 j + 1) (same j))) i) (same i)) (sym (tells-one note told) i))
    ∙ sym (tells-append (note ∷ []) (followers kept) told)

pub run-after : (note : Note) (kept : KeptInbox) → IsInbox kept → follows note kept ≡ true → run_end (note.place + 1) (of_name note.name kept.waiting) ≡ run_after kept
run-after note kept inbox e =
    let parts = follows-parts note kept e in
    let same = waiting-name note.name kept inbox parts.0 in
    (λ i. run_end (parts.1 i + 1) (same i))

-- ---- the first note of a run

pub drop-first : (position : ℕ) (notes : List Note) → is_drop position (notes_from_to 0 (run_end 0 notes) notes) ≡ drops_first position (note_of 0 notes)
drop-first position notes = by (note_of 0 notes) refl
  where
    by : (o : Option Note) → note_of 0 notes ≡ o → is_drop position (notes_from_to 0 (run_end 0 notes) notes) ≡ drops_first position o
    by None e =
        let out = sym (note-has 0 notes None e) in
        let ends = run-is 0 0 notes (omega arith) (λ q low l. none q l) out in
        ap (is_drop position) (notes-none 0 (run_end 0 notes) notes (omega (arith, ends)))
      where
        none : (q : ℕ) → q < 0 → has_place notes q ≡ true
        none q l = let no : ⊥ = omega (arith, l) in absurd no
    by (Some note) e =
        ap (is_drop position) (notes-more 0 (run_end 0 notes) notes (positive (run_end 0 notes) refl) ∙ ap (λ (o : Option Note). cons_option o (notes_from_to (0 + 1) (run_end 0 notes) notes)) e)
        ∙ (λ i. eq-eqb note.place 0 (note-place 0 notes note e) i && nat_lt position note.number)
      where
        positive : (n : ℕ) → run_end 0 notes ≡ n → 0 < n
        positive zero is = let clash : true ≡ false = note-has 0 notes (Some note) e ∙ ap (has_place notes) (sym is) ∙ run-outside 0 notes in absurd (true≢false clash)
        positive (suc n) is = omega arith

-- ---- what holds of an inbox after a step

filter-length : (p : Note → Bool) (notes : List Note) → length (filter p notes) ≤ length notes
filter-length p [] = omega arith
filter-length p (note ∷ notes) = by (p note) (filter-length p notes)
  where
    by : (b : Bool) → length (filter p notes) ≤ length notes → length (cond b (note ∷ filter p notes) (filter p notes)) ≤ suc (length notes)
    by true l = omega (arith, l)
    by false l = omega (arith, l)

-- notes of a name behind a place
pub behind-waiting : (name next : ℕ) (notes : List Note) → AreOf name notes
    → AllByRecursion (IsWaiting (Some name) next) (behind next notes)
behind-waiting name next [] of = tt
behind-waiting name next (note ∷ notes) of = by (nat_lt next note.place) refl (behind-waiting name next notes of.1)
  where
    by : (b : Bool) → nat_lt next note.place ≡ b → AllByRecursion (IsWaiting (Some name) next) (behind next notes)
        → AllByRecursion (IsWaiting (Some name) next) (cond b (note ∷ behind next notes) (behind next notes))
    by true e rest = ((ap (λ (n : ℕ). Some n) (sym of.0), ltb-true next note.place e), rest)
    by false e rest = rest

-- notes that wait are behind the next place
pub waits-any : (accepted : Option ℕ) (next : ℕ) (note : Note) (notes : List Note) → AllByRecursion (IsWaiting accepted next) (note ∷ notes)
    → list_any (λ (n : Note). nat_lt next n.place) (note ∷ notes) ≡ true
waits-any accepted next note notes all = λ i. lt-ltb next note.place all.0.1 i || list_any (λ (n : Note). nat_lt next n.place) notes

-- what holds of an inbox when a name was accepted
pub inbox-named : (name : ℕ) (kept : KeptInbox) → IsInbox kept → IsInbox (with_name name kept)
inbox-named name kept inbox =
    let a = filter-length (λ (note : Note). nat_lt (run_end 0 (of_name name kept.early)) note.place) (of_name name kept.early) in
    let b = filter-length (λ (note : Note). nat_eq note.name name) kept.early in
    let few = inbox.few in
    record {
      wrap = inbox.wrap;
      few = omega (arith, a, b, few);
      waiting = behind-waiting name (run_end 0 (of_name name kept.early)) (of_name name kept.early) (of_name-of name kept.early);
    }

-- what holds of an inbox when the next note was taken
pub inbox-next : (note : Note) (kept : KeptInbox) → IsInbox kept → follows note kept ≡ true → IsInbox (with_next kept)
inbox-next note kept inbox e =
    let parts = follows-parts note kept e in
    let a = filter-length (λ (n : Note). nat_lt (run_after kept) n.place) kept.waiting in
    let few = inbox.few in
    let accepted = accepts-name note.name kept.accepted parts.0 in
    record {
      wrap = inbox.wrap;
      few = omega (arith, a, few);
      waiting = subst (λ (o : Option ℕ). AllByRecursion (IsWaiting o (run_after kept)) (behind (run_after kept) kept.waiting)) (sym accepted)
          (behind-waiting note.name (run_after kept) kept.waiting (waiting-of note.name kept.next kept.accepted kept.waiting accepted inbox.waiting));
    }

-- notes of a name behind a place, by one test
pub behind-name : (name next : ℕ) (notes : List Note) → behind next (of_name name notes) ≡ filter (λ (note : Note). nat_eq note.name name && nat_lt next note.place) notes
behind-name name next [] = refl
behind-name name next (note ∷ notes) = by (nat_eq note.name name) (behind-name name next notes)
  where
    by : (b : Bool) → behind next (of_name name notes) ≡ filter (λ (n : Note). nat_eq n.name name && nat_lt next n.place) notes
        → behind next (cond b (note ∷ of_name name notes) (of_name name notes))
        ≡ cond (b && nat_lt next note.place) (note ∷ filter (λ (n : Note). nat_eq n.name name && nat_lt next n.place) notes) (filter (λ (n : Note). nat_eq n.name name && nat_lt next n.place) notes)
    by true rest = (λ i. cond (nat_lt next note.place) (note ∷ rest i) (rest i))
    by false rest = rest

-- ---- what is kept after a step, by its parts

pub named-next : (name next : ℕ) (kept : KeptInbox) (early : List Note) → next ≡ run_end 0 (of_name name early) → early ≡ kept.early → next ≡ run_end 0 (of_name name kept.early)
named-next name next kept early is same = is ∙ ap (λ (l : List Note). run_end 0 (of_name name l)) same

pub named-waiting : (name next : ℕ) (kept : KeptInbox) (early waiting : List Note) → early ≡ kept.early → next ≡ run_end 0 (of_name name kept.early)
    → waiting ≡ filter (λ (note : Note). nat_eq note.name name && nat_lt next note.place) early → waiting ≡ (with_name name kept).waiting
named-waiting name next kept early waiting same ends is =
    is ∙ sym (behind-name name next early) ∙ (λ i. behind (ends i) (of_name name (same i)))

pub next-waiting : (note : Note) (name next : ℕ) (kept : KeptInbox) (before waiting : List Note) → IsInbox kept → follows note kept ≡ true → name ≡ note.name
    → before ≡ kept.waiting → next ≡ run_after kept → waiting ≡ filter (λ (n : Note). nat_eq n.name name && nat_lt next n.place) before → waiting ≡ (with_next kept).waiting
next-waiting note name next kept before waiting inbox e of same ends is =
    is ∙ sym (behind-name name next before) ∙ (λ i. behind (ends i) (of_name (of i) (same i)))
    ∙ ap (behind (run_after kept)) (waiting-name note.name kept inbox (follows-parts note kept e).0)
