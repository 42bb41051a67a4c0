-- The notes of one subscription hold every change above its first note's number.
use Rattle.std.proofs.Common.{◌≡◌, ◌⊎◌, inl, inr, ◌+◌, ◌-◌, ◌<◌, ◌≤◌, ℕ, zero, suc, Bool, true, false, cond, ◌&&◌, nat_eq, nat_lt, List, [], ◌∷◌, ◌++◌, map, filter, length, Option, Some, None, refl, sym, ap, ◌∙◌, arith, eq-eqb, eqb-true, ne_eqb, append_assoc}
use Rattle.std.specs.List.{range_with_len, filter_map, cons_option}
use Rattle.std.proofs.lemmas.Bool.{cases_lt}
use Rattle.std.proofs.lemmas.List.{append-nil}
use Rattle.std.proofs.lemmas.List.Elements.{filter-append, filter_map-append}
use Rattle.cds_object.specs.declared.event.Event.{Event}
use Rattle.cds_catalog.specs.History.{end_of}
use Rattle.cds_catalog.proofs.StepsFind.{none≢some}
use Rattle.cds_changes.specs.Events.{events_between}
use Rattle.cds_changes.proofs.Numbers.{range-more}
use Rattle.cds_commands.specs.Commands.{Command, Scans, Grants, Renews, Ends, Ticks, Stops, scans_of}
use Rattle.cds_commands.specs.Releases.{Release, release_at, releases_of}
use Rattle.cds_commands.specs.Subscriptions.{granted, is_alive}
use Rattle.cds_commands.specs.Notes.{Note, next_place_of, alive_names, released_note, released_notes, first_note, sent_by, notes_of, note_of, notes_from_to, changes_above, told_between, sent_to, events_of}
use Rattle.cds_commands.specs.NoteLaws.{notes_hold_every_change}
use Rattle.cds_commands.proofs.Among.{Among, among-all, among-left, among-right, among-filter, filter-among, seq-append}
use Rattle.cds_commands.proofs.Sent.{Sound, all-sound, all-fresh, Follows, follows-all}
use Rattle.cds_commands.proofs.Spanned.{above-told, none-told, told-then-new}
use Rattle.cds_object.specs.Events.{is_change, update_of}

-- ---- the note of a SEQ

pub note-later : (seq : ℕ) (note first : Note) (older : List Note) → note_of seq older ≡ Some first → note_of seq (note ∷ older) ≡ Some first
note-later seq note first older e = rw e refl

note-here : (seq : ℕ) (note : Note) (older : List Note) → note_of seq older ≡ None → note_of seq (note ∷ older) ≡ cond (nat_eq note.place seq) (Some note) None
note-here seq note older e = rw e refl

pub note-among : (seq : ℕ) (notes : List Note) (found : Note) → note_of seq notes ≡ Some found → Among found notes × (found.place ≡ seq)
note-among seq [] found e = none≢some None found refl e
note-among seq (note ∷ older) found e = by (note_of seq older) refl (λ k. note-among seq older found k)
  where
    by : (o : Option Note) → note_of seq older ≡ o → (note_of seq older ≡ Some found → Among found older × (found.place ≡ seq)) → Among found (note ∷ older) × (found.place ≡ seq)
    by (Some first) k r =
        let is : Some first ≡ Some found = sym (note-later seq note first older k) ∙ e in
        let rest = r (k ∙ is) in
        (inr rest.0, rest.1)
    by None k r = here (nat_eq note.place seq) refl (sym (note-here seq note older k) ∙ e)
      where
        here : (b : Bool) → nat_eq note.place seq ≡ b → cond b (Some note) None ≡ Some found → Among found (note ∷ older) × (found.place ≡ seq)
        here true t s =
            let same : note ≡ found = cc in
            (inl (sym same), ap (λ (n : Note). n.place) (sym same) ∙ eqb-true note.place seq t)
        here false t s = none≢some None found refl s

pub among-note : (seq : ℕ) (notes : List Note) (note : Note) → Among note notes → note.place ≡ seq → (found : Note) × (note_of seq notes ≡ Some found)
among-note seq [] note a e = absurd a
among-note seq (other ∷ older) note a e = by (note_of seq older) refl a (λ b. among-note seq older note b e)
  where
    by : (o : Option Note) → note_of seq older ≡ o → (note ≡ other) ⊎ Among note older → (Among note older → (found : Note) × (note_of seq older ≡ Some found))
        → (found : Note) × (note_of seq (other ∷ older) ≡ Some found)
    by (Some first) k b r = (first, note-later seq other first older k)
    by None k (inl s) r = (other, note-here seq other older k ∙ (λ i. cond (eq-eqb other.place seq (ap (λ (n : Note). n.place) (sym s) ∙ e) i) (Some other) None))
    by None k (inr b) r = let found = r b in none≢some (note_of seq older) found.0 k found.1

-- ---- every SEQ below the next one was sent

named-among : (name : ℕ) (notes : List Note) → 1 ≤ next_place_of name notes → (note : Note) × Among note notes × (note.name ≡ name)
named-among name [] l = let no : ⊥ = omega (arith, l) in absurd no
named-among name (note ∷ notes) l = by (nat_eq note.name name) refl l (λ m. named-among name notes m)
  where
    by : (b : Bool) → nat_eq note.name name ≡ b
        → 1 ≤ length (cond b (note ∷ filter (λ (n : Note). nat_eq n.name name) notes) (filter (λ (n : Note). nat_eq n.name name) notes))
        → (1 ≤ next_place_of name notes → (n : Note) × Among n notes × (n.name ≡ name)) → (n : Note) × Among n (note ∷ notes) × (n.name ≡ name)
    by true e l r = (note, inl refl, eqb-true note.name name e)
    by false e l r = let found = r l in (found.0, inr found.1, found.2)

-- of numbers in a row one is a name at most once
row-none : (f : ℕ → Note) → ((n : ℕ) → (f n).name ≡ n) → (p : ℕ → Bool) (a n name : ℕ) → name < a → next_place_of name (map f (filter p (range_with_len a n))) ≡ 0
row-none f named p a zero name l = refl
row-none f named p a (suc n) name l = by (p a) (row-none f named p (a + 1) n name (omega (arith, l)))
  where
    by : (b : Bool) → next_place_of name (map f (filter p (range_with_len (a + 1) n))) ≡ 0
        → next_place_of name (map f (cond b (a ∷ filter p (range_with_len (a + 1) n)) (filter p (range_with_len (a + 1) n)))) ≡ 0
    by true r =
        let is = named a in
        (λ i. length (cond (ne_eqb (f a).name name (λ e. omega (arith, e, is, l)) i) (f a ∷ filter (λ (x : Note). nat_eq x.name name) (map f (filter p (range_with_len (a + 1) n))))
        (filter (λ (x : Note). nat_eq x.name name) (map f (filter p (range_with_len (a + 1) n)))))) ∙ r
    by false r = r

row-once : (f : ℕ → Note) → ((n : ℕ) → (f n).name ≡ n) → (p : ℕ → Bool) (a n name : ℕ) → next_place_of name (map f (filter p (range_with_len a n))) ≤ 1
row-once f named p a zero name = omega arith
row-once f named p a (suc n) name = by (p a) (row-once f named p (a + 1) n name)
  where
    others : List Note
    others = map f (filter p (range_with_len (a + 1) n))

    here : (b : Bool) → nat_eq (f a).name name ≡ b → next_place_of name others ≤ 1
        → length (cond b (f a ∷ filter (λ (x : Note). nat_eq x.name name) others) (filter (λ (x : Note). nat_eq x.name name) others)) ≤ 1
    here true e r =
        let is = named a in
        let same = eqb-true (f a).name name e in
        let none = row-none f named p (a + 1) n name (omega (arith, is, same)) in
        omega (arith, none)
    here false e r = r

    by : (b : Bool) → next_place_of name others ≤ 1 → next_place_of name (map f (cond b (a ∷ filter p (range_with_len (a + 1) n)) (filter p (range_with_len (a + 1) n)))) ≤ 1
    by true r = here (nat_eq (f a).name name) refl r
    by false r = r

pub sent-once : (first : ℕ) (older : List Command) (command : Command) (name : ℕ) → next_place_of name (sent_by first older (notes_of first older) command) ≤ 1
sent-once first older (Scans library) name = omega arith
sent-once first older (Renews moment other seconds) name = omega arith
sent-once first older (Ends moment other) name = omega arith
sent-once first older Stops name = omega arith
sent-once first older (Grants moment callback seconds) name = by (nat_eq (granted older + 1) name)
  where
    by : (b : Bool) → length (cond b (first_note (granted older + 1) (end_of (scans_of first older)) ∷ []) []) ≤ 1
    by true = omega arith
    by false = omega arith
sent-once first older (Ticks moment) name = by (release_at moment (scans_of first older) (releases_of first older))
  where
    by : (o : Option Release) → next_place_of name (released_notes (scans_of first older) o (notes_of first older) (alive_names moment older)) ≤ 1
    by None = omega arith
    by (Some release) =
        row-once (released_note (scans_of first older) release (notes_of first older)) (λ n. refl)
        (λ (n : ℕ). is_alive n moment older) 1 (granted older) name

pub every-seq : (first : ℕ) (commands : List Command) (name seq : ℕ) → seq < next_place_of name (notes_of first commands)
    → (note : Note) × Among note (notes_of first commands) × (note.name ≡ name) × (note.place ≡ seq)
every-seq first [] name seq l = let no : ⊥ = omega (arith, l) in absurd no
every-seq first (command ∷ older) name seq l = by (cases_lt seq (next_place_of name (notes_of first older))) (λ m. every-seq first older name seq m)
  where
    sent : List Note
    sent = sent_by first older (notes_of first older) command

    by : (seq < next_place_of name (notes_of first older)) ⊎ (next_place_of name (notes_of first older) ≤ seq)
        → (seq < next_place_of name (notes_of first older) → (note : Note) × Among note (notes_of first older) × (note.name ≡ name) × (note.place ≡ seq))
        → (note : Note) × Among note (notes_of first older ++ sent) × (note.name ≡ name) × (note.place ≡ seq)
    by (inl m) r = let found = r m in (found.0, among-left (notes_of first older) sent found.0 found.1, found.2, found.3)
    by (inr m) r =
        let more = seq-append name (notes_of first older) sent in
        let once = sent-once first older command name in
        let found = named-among name sent (omega (arith, l, m, more)) in
        let is = (all-fresh first older command found.0 found.1).place ∙ ap (λ (n : ℕ). next_place_of n (notes_of first older)) found.2 in
        (found.0, among-right (notes_of first older) sent found.0 found.1, found.2, omega (arith, is, l, m, more, once))

-- ---- the notes of a name

module _ (first : ℕ) (commands : List Command) (name : ℕ) where
  abbrev notes : List Note
  notes = sent_to name (notes_of first commands)

  of-name : (note : Note) → Among note notes → Among note (notes_of first commands) × (note.name ≡ name)
  of-name note a =
      let f = filter-among (λ (n : Note). nat_eq n.name name) (notes_of first commands) note a in
      (f.0, eqb-true note.name name f.1)

  -- before a note stands one with the SEQ below its own
  note-before : (k : ℕ) (last : Note) → note_of (suc k) notes ≡ Some last → (before : Note) × (note_of k notes ≡ Some before)
  note-before k last e =
      let a = note-among (suc k) notes last e in
      let of = of-name last a.0 in
      let seq = a.1 in
      let counted = (among-all (Sound first commands) (notes_of first commands) last (all-sound first commands) of.0).counted in
      let same = ap (λ (n : ℕ). next_place_of n (notes_of first commands)) of.1 in
      let found = every-seq first commands name k (omega (arith, counted, seq, same)) in
      among-note k notes found.0 (among-filter (λ (n : Note). nat_eq n.name name) (notes_of first commands) found.0 found.1 (eq-eqb found.0.name name found.2)) found.3

  -- a note after another
  follows : (k : ℕ) (before last : Note) → note_of k notes ≡ Some before → note_of (suc k) notes ≡ Some last → Follows first commands before last
  follows k before last e f =
      let a = note-among k notes before e in
      let b = note-among (suc k) notes last f in
      let of = of-name before a.0 in
      let other = of-name last b.0 in
      let seq = a.1 in
      let next = b.1 in
      follows-all first commands before last of.0 other.0 (of.1 ∙ sym other.1) (omega (arith, seq, next))

  events-append : (some others : List Note) → events_of (some ++ others) ≡ events_of some ++ events_of others
  events-append [] others = refl
  events-append (note ∷ some) others =
      ap (λ (l : List Event). note.events ++ l) (events-append some others) ∙ sym (append_assoc note.events (events_of some) (events_of others))

  one-more-note : (k : ℕ) (last : Note) → note_of (suc k) notes ≡ Some last → notes_from_to 1 (suc k + 1) notes ≡ notes_from_to 1 (k + 1) notes ++ last ∷ []
  one-more-note k last e =
      let long : suc k + 1 - 1 ≡ suc k = omega arith in
      let short : k ≡ k + 1 - 1 = omega arith in
      let here : 1 + k ≡ suc k = omega arith in
      ap (λ (n : ℕ). filter_map (λ (seq : ℕ). note_of seq notes) (range_with_len 1 n)) long
      ∙ ap (filter_map (λ (seq : ℕ). note_of seq notes)) (range-more 1 k)
      ∙ filter_map-append (λ (seq : ℕ). note_of seq notes) (range_with_len 1 k) ((1 + k) ∷ [])
      ∙ ap (λ (n : ℕ). filter_map (λ (seq : ℕ). note_of seq notes) (range_with_len 1 k) ++ cons_option (note_of n notes) []) here
      ∙ ap (λ (o : Option Note). filter_map (λ (seq : ℕ). note_of seq notes) (range_with_len 1 k) ++ cons_option o []) e
      ∙ ap (λ (n : ℕ). filter_map (λ (seq : ℕ). note_of seq notes) (range_with_len 1 n) ++ last ∷ []) short

  hold : (begin : Note) → note_of 0 notes ≡ Some begin → (k : ℕ) (last : Note) → note_of k notes ≡ Some last
      → changes_above begin.number (events_of (notes_from_to 1 (k + 1) notes)) ≡ told_between first commands begin.number last.number
  hold begin b zero last e =
      let same : begin ≡ last = cc in
      sym (none-told (scans_of first commands) begin.number last.number (let n = ap (λ (x : Note). x.number) same in omega (arith, n)))
  hold begin b (suc k) last e = on (note-before k last e) (λ before f. hold begin b k before f)
    where
      on : (before : Note) × (note_of k notes ≡ Some before)
          → ((before : Note) → note_of k notes ≡ Some before → changes_above begin.number (events_of (notes_from_to 1 (k + 1) notes)) ≡ told_between first commands begin.number before.number)
          → changes_above begin.number (events_of (notes_from_to 1 (suc k + 1) notes)) ≡ told_between first commands begin.number last.number
      on (before, f) r =
          ap (λ (l : List Note). changes_above begin.number (events_of l)) (one-more-note k last e)
          ∙ ap (changes_above begin.number) (events-append (notes_from_to 1 (k + 1) notes) (last ∷ []) ∙ ap (λ (l : List Event). events_of (notes_from_to 1 (k + 1) notes) ++ l) (append-nil last.events))
          ∙ filter-append (λ (event : Event). is_change event && nat_lt begin.number (update_of event)) (events_of (notes_from_to 1 (k + 1) notes)) last.events
          ∙ ap (λ (l : List Event). l ++ changes_above begin.number last.events) (r before f)
          ∙ ap (λ (l : List Event). told_between first commands begin.number before.number ++ changes_above begin.number l) is.events
          ∙ by is.continues
        where
          is : Follows first commands before last
          is = follows k before last f e

          by : (before.place ≡ 0) ⊎ (is.from ≡ before.number)
              → told_between first commands begin.number before.number ++ changes_above begin.number (events_between (scans_of first commands) is.from last.number)
              ≡ told_between first commands begin.number last.number
          by (inr same) =
              ap (λ (n : ℕ). told_between first commands begin.number before.number ++ changes_above begin.number (events_between (scans_of first commands) n last.number)) same
              ∙ told-then-new (scans_of first commands) begin.number before.number last.number (let ends = is.ends in omega (arith, ends, same))
          by (inl zeroth) =
              let seq = (note-among k notes before f).1 in
              let none : k ≡ 0 = omega (arith, seq, zeroth) in
              let there : Some begin ≡ Some before = sym b ∙ ap (λ (n : ℕ). note_of n notes) (sym none) ∙ f in
              let same : begin ≡ before = cc in
              let number = ap (λ (x : Note). x.number) same in
              let below = is.below in
              ap (λ (l : List Event). l ++ changes_above begin.number (events_between (scans_of first commands) is.from last.number))
              (none-told (scans_of first commands) begin.number before.number (omega (arith, number)))
              ∙ above-told (scans_of first commands) begin.number is.from last.number (omega (arith, below, number))

pub notes-hold : notes_hold_every_change
notes-hold first commands name k begin last b e = hold first commands name begin b k last e
