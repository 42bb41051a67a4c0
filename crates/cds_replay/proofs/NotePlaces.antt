-- The place of a note that was sent is how many were sent to its name before; and whether it is recent is told by that.
use Rattle.std.proofs.Common.{◌≡◌, ℕ, zero, suc, ◌+◌, ◌-◌, ◌≤◌, ◌<◌, Bool, true, false, cond, not, ◌||◌, nat_eq, nat_lt, List, [], ◌∷◌, map, filter, take, length, Option, Some, None, refl, ap, sym, subst, ◌∙◌, arith, eqb-true, eq-eqb, ne_eqb}
use Rattle.std.specs.Prelude.{slice_get, option_map}
use Rattle.std.specs.List.{range_with_len}
use Rattle.std.proofs.lemmas.Bool.{eqb-false, lt-ltb}
use Rattle.cds_commands.specs.Commands.{Command}
use Rattle.cds_commands.specs.Notes.{Note, next_place_of, notes_of}
use Rattle.cds_commands.specs.Places.{reach}
use Rattle.cds_commands.proofs.Seqs.{seqs-count}
use Rattle.cds_follow.specs.Inbox.{ReplicaTurn, is_accepted, is_out, next_place}
use Rattle.cds_follow.specs.Named.{named}
use Rattle.cds_follow.specs.Wire.{apart, place_near, is_heard, is_recent}
use Rattle.cds_gena.specs.declared.address.Address.{Address}
use Rattle.cds_gena.specs.declared.sid.Sid.{Sid}
use Rattle.cds_replica.specs.Inboxed.{inbox_of}
use Rattle.cds_script.specs.Report.{is_recent_one, sent_note}
use Rattle.cds_script.proofs.Given.{sent-place}
use Rattle.cds_replay.specs.declared.sent.KeptNote.{KeptNote}
use Rattle.cds_replay.specs.Sending.{SentNote, name_on, named_before, note_at, sent_of}
use Rattle.cds_replay.specs.Session.{AreSentAs, Telling, near_in, is_near_to, script_names, tellings_of}
use Rattle.cds_replay.proofs.Apart.{knows-same, names-apart}
use Rattle.cds_replay.proofs.SentNotes.{IsAt, number-at, tellings-notes, plain}

-- ---- its place

list-head : (x y : ℕ) (xs ys : List ℕ) → x ∷ xs ≡ y ∷ ys → x ≡ y
list-head x y xs ys e = cc

list-tail : (x y : ℕ) (xs ys : List ℕ) → x ∷ xs ≡ y ∷ ys → xs ≡ ys
list-tail x y xs ys e = cc

abbrev places : ℕ → List Note → List ℕ
places name notes = map (λ (note : Note). note.place) (filter (λ (note : Note). nat_eq note.name name) notes)

-- of notes whose places for a name are those from one on, the place of one is how many of its name come before it
place-counts : (a : ℕ) (notes : List Note) (k : ℕ) (note : Note) → slice_get notes k ≡ Some note → places note.name notes ≡ range_with_len a (next_place_of note.name notes) →
    note.place ≡ a + next_place_of note.name (take k notes)
place-counts a [] k note e are = absurd (cc)
place-counts a (first ∷ notes) zero note e are =
    let same : first ≡ note = cc in
    let is : nat_eq first.name note.name ≡ true = eq-eqb first.name note.name (ap (λ (n : Note). n.name) same) in
    let rest : List Note = filter (λ (n : Note). nat_eq n.name note.name) notes in
    let counted : first.place ∷ map (λ (n : Note). n.place) rest ≡ a ∷ range_with_len (a + 1) (length rest) =
    subst (λ (b : Bool). map (λ (n : Note). n.place) (cond b (first ∷ rest) rest) ≡ range_with_len a (length (cond b (first ∷ rest) rest))) is are in
    let head = list-head first.place a (map (λ (n : Note). n.place) rest) (range_with_len (a + 1) (length rest)) counted in
    let place : first.place ≡ note.place = ap (λ (n : Note). n.place) same in omega (arith, head, place)
place-counts a (first ∷ notes) (suc k) note e are =
    by (nat_eq first.name note.name) are (place-counts (a + 1) notes k note e) (place-counts a notes k note e)
  where
    rest : List Note
    rest = filter (λ (n : Note). nat_eq n.name note.name) notes

    before : List Note
    before = filter (λ (n : Note). nat_eq n.name note.name) (take k notes)

    by : (b : Bool) → map (λ (n : Note). n.place) (cond b (first ∷ rest) rest) ≡ range_with_len a (length (cond b (first ∷ rest) rest)) →
        (map (λ (n : Note). n.place) rest ≡ range_with_len (a + 1) (length rest) → note.place ≡ a + 1 + length before) →
        (map (λ (n : Note). n.place) rest ≡ range_with_len a (length rest) → note.place ≡ a + length before) →
        note.place ≡ a + length (cond b (first ∷ before) before)
    by true are later same =
        let is = later (list-tail first.place a (map (λ (n : Note). n.place) rest) (range_with_len (a + 1) (length rest)) are) in omega (arith, is)
    by false are later same = same are

-- ---- by their names on the wire

same-name : (m n : ℕ) → nat_eq (script_names m) (script_names n) ≡ nat_eq m n
same-name m n = by (nat_eq m n) refl
  where
    by : (b : Bool) → nat_eq m n ≡ b → nat_eq (script_names m) (script_names n) ≡ nat_eq m n
    by true e = eq-eqb (script_names m) (script_names n) (ap script_names (eqb-true m n e)) ∙ sym e
    by false e = ne_eqb (script_names m) (script_names n) (λ f. eqb-false m n e (names-apart m n f)) ∙ sym e

abbrev wired : ℕ → List SentNote → ℕ
wired sid sent = length (filter (λ (note : SentNote). nat_eq note.to.sid.0 sid) sent)

wired-counts : (wrap name k : ℕ) (sent : List SentNote) (tellings : List Telling) → AreSentAs wrap sent tellings →
    wired (script_names name) (take k sent) ≡ next_place_of name (take k (plain tellings))
wired-counts wrap name zero sent tellings are = none sent (plain tellings)
  where
    none : (sent : List SentNote) (notes : List Note) → wired (script_names name) (take 0 sent) ≡ next_place_of name (take 0 notes)
    none [] [] = refl
    none [] (note ∷ notes) = refl
    none (s ∷ sent) [] = refl
    none (s ∷ sent) (note ∷ notes) = refl
wired-counts wrap name (suc k) [] [] are = refl
wired-counts wrap name (suc k) [] (telling ∷ tellings) are = absurd are
wired-counts wrap name (suc k) (s ∷ sent) [] are = absurd are
wired-counts wrap name (suc k) (s ∷ sent) (telling ∷ tellings) are =
    ap (λ (b : Bool). length (cond b (s ∷ ones) ones)) (ap (λ sid. nat_eq sid (script_names name)) (ap (λ a. a.sid.0) are.0.to) ∙ same-name telling.note.name name)
    ∙ by (nat_eq telling.note.name name) (wired-counts wrap name k sent tellings are.1)
  where
    ones : List SentNote
    ones = filter (λ (note : SentNote). nat_eq note.to.sid.0 (script_names name)) (take k sent)

    others : List Note
    others = filter (λ (note : Note). nat_eq note.name name) (take k (plain tellings))

    by : (b : Bool) → length ones ≡ length others → length (cond b (s ∷ ones) ones) ≡ length (cond b (telling.note ∷ others) others)
    by true e = ap suc e
    by false e = e

pub place-told : (wrap first number : ℕ) (commands : List Command) (sent : List SentNote) (note : Note) → AreSentAs wrap sent (tellings_of first commands) →
    sent_note number (notes_of first commands) ≡ Some note → named_before (script_names note.name) number sent ≡ note.place
place-told wrap first zero commands sent note are e = absurd (cc)
place-told wrap first (suc k) commands sent note are e =
    let one : suc k - 1 ≡ k = omega arith in
    let there = place-counts 0 (notes_of first commands) k note (sym (sent-place k (notes_of first commands)) ∙ e) (seqs-count first commands note.name) in
    let counted : next_place_of note.name (take k (notes_of first commands)) ≡ note.place = omega (arith, there) in
    ap (λ n. wired (script_names note.name) (take n sent)) one
    ∙ wired-counts wrap note.name k sent (tellings_of first commands) are
    ∙ ap (λ (notes : List Note). next_place_of note.name (take k notes)) (tellings-notes first commands)
    ∙ counted

pub few-before : {X : Type 0} (p : X → Bool) (k : ℕ) (xs : List X) → length (filter p (take k xs)) ≤ k
few-before p zero [] = omega arith
few-before p zero (x ∷ xs) = omega arith
few-before p (suc k) [] = omega arith
few-before {X} p (suc k) (x ∷ xs) = by (p x) (few-before p k xs)
  where
    ones : List X
    ones = filter p (take k xs)

    by : (b : Bool) → length ones ≤ k → length (cond b (x ∷ ones) ones) ≤ suc k
    by true low = omega (arith, low)
    by false low = omega (arith, low)

-- how many went to a name is told without their bodies
pub kept-named : (sid k : ℕ) (bodies : List (List ℕ)) (notes : List KeptNote) →
    length (filter (λ (note : KeptNote). nat_eq note.to.sid.0 sid) (take k notes)) ≡ wired sid (take k (map (note_at bodies) notes))
kept-named sid zero bodies [] = refl
kept-named sid zero bodies (note ∷ notes) = refl
kept-named sid (suc k) bodies [] = refl
kept-named sid (suc k) bodies (note ∷ notes) = by (nat_eq note.to.sid.0 sid) (kept-named sid k bodies notes)
  where
    ones : List KeptNote
    ones = filter (λ (n : KeptNote). nat_eq n.to.sid.0 sid) (take k notes)

    others : List SentNote
    others = filter (λ (n : SentNote). nat_eq n.to.sid.0 sid) (take k (map (note_at bodies) notes))

    by : (b : Bool) → length ones ≡ length others → length (cond b (note ∷ ones) ones) ≡ length (cond b (note_at bodies note ∷ others) others)
    by true e = ap suc e
    by false e = e

-- while both places are low, they are not far from each other
pub near-enough : (sid number near far : ℕ) (sent : List SentNote) → 0 < number → near < far → number ≤ far → nat_lt (apart (named_before sid number sent) near) far ≡ true
near-enough sid number near far sent some low most =
    let few = few-before (λ (note : SentNote). nat_eq note.to.sid.0 sid) (number - 1) sent in
    lt-ltb (apart (named_before sid number sent) near) far (omega (arith, few, some, low, most))

-- ---- whether it is recent

near-told : (a o : Bool) (next : ℕ) → cond a (Some next) (cond o (Some 0) None) ≡ cond (a || o) (Some (cond a next 0)) None
near-told true true next = refl
near-told true false next = refl
near-told false true next = refl
near-told false false next = refl

pub near-is : (wrap name : ℕ) (turns : List ReplicaTurn) →
    near_in (inbox_of wrap (named script_names turns)) (script_names name) ≡ cond (is_heard name turns) (Some (place_near name turns)) None
near-is wrap name turns =
    near-told (is_accepted (script_names name) (named script_names turns)) (is_out (named script_names turns)) (next_place (named script_names turns))
    ∙ (λ i. cond ((knows-same turns).is_heard_so name i) (Some ((knows-same turns).nears name i)) None)

recent-told : (wrap place near : ℕ) (b : Bool) → is_near_to wrap place (cond b (Some near) None) ≡ not b || nat_lt (apart place near) (wrap - reach wrap)
recent-told wrap place near true = refl
recent-told wrap place near false = refl

pub recent-is : (wrap first number : ℕ) (commands : List Command) (sent : List SentNote) (note : Note) (turns : List ReplicaTurn) → AreSentAs wrap sent (tellings_of first commands) →
    sent_note number (notes_of first commands) ≡ Some note →
    is_near_to wrap (named_before (script_names note.name) number sent) (near_in (inbox_of wrap (named script_names turns)) (script_names note.name)) ≡ is_recent wrap note turns
recent-is wrap first number commands sent note turns are e =
    (λ i. is_near_to wrap (place-told wrap first number commands sent note are e i) (near-is wrap note.name turns i))
    ∙ recent-told wrap note.place (place_near note.name turns) (is_heard note.name turns)

-- by the name that it goes to, if it was sent
sent-at : (number : ℕ) (sent : List SentNote) → 0 < number → sent_of number sent ≡ slice_get sent (number - 1)
sent-at number sent some = ap (λ b. cond b None (slice_get sent (number - 1))) (ne_eqb number 0 (λ e. omega (arith, e, some)))

none-of : (o : Option SentNote) (n : Option Note) (wrap : ℕ) → IsAt wrap o n → option_map name_on o ≡ None → n ≡ None
none-of None None wrap at e = refl
none-of None (Some note) wrap at e = absurd at
none-of (Some sent) n wrap at e = absurd (cc)

record Goes (sid : ℕ) (n : Option Note) : Type 0 where
  note : Note
  is : n ≡ Some note
  named : sid ≡ script_names note.name

some-of : (o : Option SentNote) (n : Option Note) (wrap : ℕ) (sid : Sid) → IsAt wrap o n → option_map name_on o ≡ Some sid → Goes sid.0 n
some-of None n wrap sid at e = absurd (cc)
some-of (Some sent) None wrap sid at e = absurd at
some-of (Some sent) (Some note) wrap sid at e =
    let same : sent.to.sid ≡ sid = cc in
    record { note = note; is = refl; named = ap (λ (s : Sid). s.0) (sym same) ∙ ap (λ (a : Address). a.sid.0) at.1.to }

pub unsent-recent : (wrap first number : ℕ) (commands : List Command) (sent : List SentNote) (turns : List ReplicaTurn) → AreSentAs wrap sent (tellings_of first commands) → 0 < number →
    option_map name_on (slice_get sent (number - 1)) ≡ None → is_recent_one wrap (sent_note number (notes_of first commands)) turns ≡ true
unsent-recent wrap first number commands sent turns are some e =
    ap (λ (o : Option Note). is_recent_one wrap o turns)
    (none-of (sent_of number sent) (sent_note number (notes_of first commands)) wrap (number-at wrap sent first commands are number) (ap (option_map name_on) (sent-at number sent some) ∙ e))

pub sent-recent : (wrap first number : ℕ) (sid : Sid) (commands : List Command) (sent : List SentNote) (turns : List ReplicaTurn) → AreSentAs wrap sent (tellings_of first commands) → 0 < number →
    option_map name_on (slice_get sent (number - 1)) ≡ Some sid →
    is_near_to wrap (named_before sid.0 number sent) (near_in (inbox_of wrap (named script_names turns)) sid.0) ≡ is_recent_one wrap (sent_note number (notes_of first commands)) turns
sent-recent wrap first number sid commands sent turns are some e =
    let g = some-of (sent_of number sent) (sent_note number (notes_of first commands)) wrap sid (number-at wrap sent first commands are number) (ap (option_map name_on) (sent-at number sent some) ∙ e) in
    ap (λ s. is_near_to wrap (named_before s number sent) (near_in (inbox_of wrap (named script_names turns)) s)) g.named
    ∙ recent-is wrap first number commands sent g.note turns are g.is
    ∙ sym (ap (λ (o : Option Note). is_recent_one wrap o turns) g.is)
