-- Of the notes that a replica received from an honest server, those that are taken go on from the position.
use Rattle.std.proofs.Common.{◌≡◌, ◌⊎◌, inl, inr, ◌+◌, ◌-◌, ◌<◌, ◌≤◌, ℕ, zero, suc, max, Bool, true, false, ◌&&◌, ◌||◌, nat_eq, nat_lt, List, [], ◌∷◌, length, Option, Some, refl, sym, ap, ◌∙◌, subst, arith, true≢false, eqb-true, ne_eqb, le-ltb}
use Rattle.std.specs.List.{range_with_len, filter_map, cons_option}
use Rattle.std.proofs.lemmas.Bool.{cases_lt, eqb-false}
use Rattle.cds_commands.specs.Commands.{Command, scans_of, oldest}
use Rattle.cds_commands.specs.Notes.{Note, notes_of, note_of, changes_above}
use Rattle.cds_follow.specs.Inbox.{has_place}
use Rattle.cds_follow.specs.Follow.{greatest_of, is_drop}
use Rattle.cds_follow.specs.ServerLaws.{served}
use Rattle.cds_commands.proofs.Among.{Among, among-all}
use Rattle.cds_commands.proofs.Sent.{Sound, all-sound, follows-all}
use Rattle.cds_commands.proofs.Spanned.{above-told, none-told}
use Rattle.cds_commands.proofs.Chain.{note-among, among-note}
use Rattle.cds_follow.proofs.Stages.{greatest-least, AreNext, AreTaken}
use Rattle.cds_commands.proofs.Fewer.{notes-grow, stood-served}

-- ---- notes that are taken

-- a note was sent to a name within some of the commands
abbrev pub IsSent : ℕ → List Command → ℕ → ℕ → Note → Type 0
IsSent first commands k name note = Among note (notes_of first (oldest k commands)) × (note.name ≡ name)

-- before a SEQ: it is the first, or the note before it was sent, and its number is not above a position
abbrev pub IsBefore : ℕ → List Command → ℕ → ℕ → ℕ → ℕ → Type 0
IsBefore first commands k name at seq =
    (seq ≡ 0) ⊎ ((before : Note) × IsSent first commands k name before × (before.place + 1 ≡ seq) × (before.number ≤ at))

module _ (token : List ℕ) (first : ℕ) (commands : List Command) (k name : ℕ) (received : List Note)
    (sent : (note : Note) → Among note received → IsSent first commands k name note) where
  abbrev run : ℕ → ℕ → List Note
  run seq n = filter_map (λ (s : ℕ). note_of s received) (range_with_len seq n)

  in-all : (note : Note) → IsSent first commands k name note → Among note (notes_of first commands)
  in-all note s = notes-grow first (length commands - k) commands note s.0

  stood : (note : Note) → IsSent first commands k name note → (j : ℕ) × (j ≤ k) × (note.number ≡ (served token first commands j).number)
  stood note s =
      stood-served first commands k note.number (among-all (Sound first (oldest k commands)) (notes_of first (oldest k commands)) note (all-sound first (oldest k commands)) s.0).stood

  -- notes that go on from one before them
  run-next : (n seq at : ℕ) → ((s : ℕ) → seq ≤ s → s < seq + n → (note : Note) × (note_of s received ≡ Some note))
      → (before : Note) × IsSent first commands k name before × (before.place + 1 ≡ seq) × (before.number ≤ at) → AreNext token first commands k at (run seq n)
  run-next zero seq at have b = tt
  run-next (suc n) seq at have b =
      let here = have seq (omega arith) (omega arith) in
      on here.0 here.1 (λ note c. run-next n (seq + 1) (max at note.number) (λ s low high. have s (omega (arith, low)) (omega (arith, high))) c)
    where
      on : (note : Note) → note_of seq received ≡ Some note
          → ((m : Note) → (before : Note) × IsSent first commands k name before × (before.place + 1 ≡ seq + 1) × (before.number ≤ max at m.number) → AreNext token first commands k (max at m.number) (run (seq + 1) n))
          → AreNext token first commands k at (run seq (suc n))
      on note e r =
          let a = note-among seq received note e in
          let s = sent note a.0 in
          let is = a.1 in
          let before = b.0 in
          let next = b.2 in
          let low = b.3 in
          let f = follows-all first commands before note (in-all before b.1) (in-all note s) (b.1.1 ∙ sym s.1) (omega (arith, next, is)) in
          subst (λ (o : Option Note). AreNext token first commands k at (cons_option o (run (seq + 1) n))) (sym e) (
            stood note s,
            (λ p l. ap (changes_above p) f.events ∙ above-told (scans_of first commands) p f.from note.number (let below = f.below in omega (arith, below, low, l))),
            r note (note, s, ap (λ (m : ℕ). m + 1) is, omega arith),
          )

  -- the notes that are taken from a SEQ on, so many of them
  pub run-taken : (n seq at : ℕ) → ((s : ℕ) → seq ≤ s → s < seq + n → (note : Note) × (note_of s received ≡ Some note))
      → IsBefore first commands k name at seq → AreTaken token first commands k at (run seq n)
  run-taken zero seq at have b = inl (refl, tt)
  run-taken (suc n) seq at have (inr b) =
      let here = have seq (omega arith) (omega arith) in
      let is = (note-among seq received here.0 here.1).1 in
      let next = b.2 in
      inl (
        (λ i. is_drop at (cons_option (here.1 i) (run (seq + 1) n)))
            ∙ (λ i. ne_eqb here.0.place 0 (λ e. omega (arith, e, is, next)) i && nat_lt at here.0.number),
        run-next (suc n) seq at have b,
      )
  run-taken (suc n) seq at have (inl zeroth) = by (cases_lt at note.number)
    where
      here : (note : Note) × (note_of seq received ≡ Some note)
      here = have seq (omega arith) (omega arith)

      note : Note
      note = here.0

      among : Among note received × (note.place ≡ seq)
      among = note-among seq received here.0 here.1

      s : IsSent first commands k name note
      s = sent note among.0

      none : note.events ≡ []
      none = (among-all (Sound first commands) (notes_of first commands) note (all-sound first commands) (in-all note s)).begins (among.1 ∙ zeroth)

      rest : AreNext token first commands k (max at note.number) (run (seq + 1) n)
      rest = run-next n (seq + 1) (max at note.number) (λ m low high. have m (omega (arith, low)) (omega (arith, high)))
          (note, s, ap (λ (m : ℕ). m + 1) among.1, omega arith)

      by : (at < note.number) ⊎ (note.number ≤ at) → AreTaken token first commands k at (run seq (suc n))
      by (inl above) =
          let most : max at note.number ≡ note.number = omega (arith, above) in
          inr (
            note,
            run (seq + 1) n,
            ap (λ (o : Option Note). cons_option o (run (seq + 1) n)) here.1,
            among.1 ∙ zeroth,
            none,
            above,
            stood note s,
            subst (λ (m : ℕ). AreNext token first commands k m (run (seq + 1) n)) most rest,
          )
      by (inr low) =
          subst (λ (o : Option Note). AreTaken token first commands k at (cons_option o (run (seq + 1) n))) (sym here.1) (inl (
            (λ i. nat_eq note.place 0 && le-ltb at note.number low i) ∙ neither (nat_eq note.place 0),
            (stood note s, (λ p l. ap (changes_above p) none ∙ sym (none-told (scans_of first commands) p note.number (omega (arith, l, low)))), rest),
          ))
        where
          neither : (b : Bool) → b && false ≡ false
          neither true = refl
          neither false = refl

  -- no note that is taken has a number above the greatest
  pub run-heard : (n seq h s : ℕ) (note : Note) → ((t : ℕ) → seq ≤ t → t < seq + n → (m : Note) × (note_of t received ≡ Some m)) → seq ≤ s → s < seq + n
      → note_of s received ≡ Some note → note.number ≤ greatest_of h (run seq n)
  run-heard zero seq h s note have low high e = let no : ⊥ = omega (arith, low, high) in absurd no
  run-heard (suc n) seq h s note have low high e =
      let here = have seq (omega arith) (omega arith) in
      subst (λ (o : Option Note). note.number ≤ greatest_of h (cons_option o (run (seq + 1) n))) (sym here.1)
      (by here.0 here.1 (nat_eq s seq) refl (λ g l. run-heard n (seq + 1) g s note (λ t m o. have t (omega (arith, m)) (omega (arith, o))) l (omega (arith, high)) e))
    where
      apart : (s ≡ seq → ⊥) → seq + 1 ≤ s
      apart d = on (cases_lt seq s)
        where
          on : (seq < s) ⊎ (s ≤ seq) → seq + 1 ≤ s
          on (inl l) = omega (arith, l)
          on (inr l) = let same : s ≡ seq = omega (arith, l, low) in absurd (d same)

      by : (m : Note) → note_of seq received ≡ Some m → (b : Bool) → nat_eq s seq ≡ b → ((g : ℕ) → seq + 1 ≤ s → note.number ≤ greatest_of g (run (seq + 1) n))
          → note.number ≤ greatest_of (max h m.number) (run (seq + 1) n)
      by m f true x r =
          let is : Some note ≡ Some m = sym e ∙ ap (λ (t : ℕ). note_of t received) (eqb-true s seq x) ∙ f in
          let same : note ≡ m = cc in
          let number = ap (λ (y : Note). y.number) same in
          let least = greatest-least (max h m.number) (run (seq + 1) n) in
          omega (arith, number, least)
      by m f false x r = r (max h m.number) (apart (eqb-false s seq x))

-- a SEQ that was received has a note
pub has-note : (seq : ℕ) (notes : List Note) → has_place notes seq ≡ true → (note : Note) × (note_of seq notes ≡ Some note)
has-note seq notes e = let found = any notes e in among-note seq notes found.0 found.1 found.2
  where
    any : (xs : List Note) → has_place xs seq ≡ true → (note : Note) × Among note xs × (note.place ≡ seq)
    any [] h = absurd (true≢false (sym h))
    any (x ∷ xs) h = by (nat_eq x.place seq) refl h (any xs)
      where
        by : (b : Bool) → nat_eq x.place seq ≡ b → b || has_place xs seq ≡ true → (has_place xs seq ≡ true → (note : Note) × Among note xs × (note.place ≡ seq))
            → (note : Note) × Among note (x ∷ xs) × (note.place ≡ seq)
        by true q h r = (x, inl refl, eqb-true x.place seq q)
        by false q h r = let found = r h in (found.0, inr found.1, found.2)
