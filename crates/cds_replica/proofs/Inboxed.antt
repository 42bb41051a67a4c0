-- What is kept of a replica's notes, turn by turn.
use Rattle.std.proofs.Common.{◌≡◌, ◌⊎◌, inl, inr, ◌+◌, ◌<◌, ◌≤◌, ℕ, Bool, true, false, cond, not, ◌&&◌, ◌||◌, nat_eq, nat_lt, nat_le, List, [], ◌∷◌, length, Option, Some, None, refl, sym, ap, ◌∙◌, subst, arith, true≢false, eq-eqb, ne_eqb, eqb-true, lt-ltb, le-ltb, ltb-true, ltb-false, length-append}
use Rattle.std.specs.Option.{option_eq}
use Rattle.std.specs.List.{list_any, cons_option}
use Rattle.std.proofs.lemmas.Bool.{cases_lt}
use Rattle.cds_commands.specs.Notes.{Note, note_of, notes_from_to}
use Rattle.cds_follow.specs.Inbox.{ReplicaTurn, Begins, Shows, Requests, Accepts, Refuses, Delivers, is_out, accepted, is_accepted, is_early, early_notes, received, has_place, next_place, missing, missing_of, is_same_note, different, waiting_notes, held_notes, held_limit, taken_by, is_repeat, is_next, Arrival, IsUnknown, IsRepeat, IsTooMany, IsEarly, IsHeld, IsNext, arrival}
use Rattle.cds_follow.specs.Follow.{is_turned_away}
use Rattle.cds_follow.proofs.Received.{longest-run}
use Rattle.cds_replica.specs.Inboxed.{KeptInbox, inbox_of, repeats, held_count, arrival_in, run_end, behind, of_name, with_name, taken_early, run_after, with_note, taken_in}
use Rattle.cds_replica.proofs.Runs.{AreOf, same-parts, run-outside, run-inside, run-from, run-is, run-same, behind-has, behind-none, behind-note, behind-behind, note-past, note-new, notes-same, notes-more, notes-none, different-any, different-has, different-note, any-has, of_name-of, different-of_name}

-- ---- the received notes are those of the accepted name

some-same : (a b : ℕ) → Some a ≡ Some b → a ≡ b
some-same a b e = cc

-- the name of a note that is accepted
accepted-name : (name : ℕ) (turns : List ReplicaTurn) → is_accepted name turns ≡ true → accepted turns ≡ Some name
accepted-name name turns e = by (accepted turns) refl e
  where
    by : (o : Option ℕ) → accepted turns ≡ o → option_eq nat_eq o (Some name) ≡ true → accepted turns ≡ Some name
    by None k f = absurd (true≢false (sym f))
    by (Some other) k f = k ∙ ap (λ (n : ℕ). Some n) (eqb-true other name f)

received-of : (name : ℕ) (turns : List ReplicaTurn) → accepted turns ≡ Some name → AreOf name (received turns)
received-of name [] e = tt
received-of name (Begins ∷ older) e = received-of name older e
received-of name (Shows shown ∷ older) e = received-of name older e
received-of name (Requests ∷ older) e = received-of name older e
received-of name (Accepts other ∷ older) e = subst (λ (n : ℕ). AreOf n (of_name other (early_notes older))) (some-same other name e) (of_name-of other (early_notes older))
received-of name (Refuses ∷ older) e = received-of name older e
received-of name (Delivers note ∷ older) e = by (is_accepted note.name older) refl (received-of name older e)
  where
    by : (b : Bool) → is_accepted note.name older ≡ b → AreOf name (received older) → AreOf name (cond b (note ∷ received older) (received older))
    by true f rest = (some-same note.name name (sym (accepted-name note.name older f) ∙ e), rest)
    by false f rest = rest

-- ---- which notes were received, by what is kept

-- a place of the received notes is below the next one, or waits
has-kept : (name q : ℕ) (turns : List ReplicaTurn) → accepted turns ≡ Some name
    → has_place (received turns) q ≡ nat_lt q (next_place turns) || has_place (waiting_notes turns) q
has-kept name q turns e = by (cases_lt q (next_place turns))
  where
    later : (q < next_place turns) ⊎ (next_place turns ≤ q) → (next_place turns < q) ⊎ (q ≤ next_place turns)
        → has_place (received turns) q ≡ nat_lt q (next_place turns) || has_place (waiting_notes turns) q
    later (inl l) m = (longest-run turns).0 q l ∙ (λ i. sym (lt-ltb q (next_place turns) l) i || has_place (waiting_notes turns) q)
    later (inr l) (inl m) =
        sym (different-has name q (received turns) (received-of name turns e))
        ∙ sym (behind-has (next_place turns) q (different (received turns)) m)
        ∙ (λ i. sym (le-ltb q (next_place turns) l) i || has_place (waiting_notes turns) q)
    later (inr l) (inr m) =
        let same : q ≡ next_place turns = omega (arith, l, m) in
        ap (has_place (received turns)) same ∙ (longest-run turns).1
        ∙ sym (behind-none (next_place turns) q (different (received turns)) m)
        ∙ (λ i. sym (le-ltb q (next_place turns) l) i || has_place (waiting_notes turns) q)

    by : (q < next_place turns) ⊎ (next_place turns ≤ q) → has_place (received turns) q ≡ nat_lt q (next_place turns) || has_place (waiting_notes turns) q
    by l = later l (cases_lt (next_place turns) q)

repeat-kept : (wrap : ℕ) (note : Note) (turns : List ReplicaTurn) → is_repeat note turns ≡ repeats note (inbox_of wrap turns)
repeat-kept wrap note turns = by (is_accepted note.name turns) refl
  where
    by : (b : Bool) → is_accepted note.name turns ≡ b
        → cond b (has_place (received turns) note.place) (is_out turns && list_any (is_same_note note) (early_notes turns))
        ≡ cond b (nat_lt note.place (next_place turns) || has_place (waiting_notes turns) note.place) (is_out turns && list_any (is_same_note note) (different (early_notes turns)))
    by true e = has-kept note.name note.place turns (accepted-name note.name turns e)
    by false e = ap (λ b. is_out turns && b) (sym (different-any note (early_notes turns)))

pub held-kept : (wrap : ℕ) (turns : List ReplicaTurn) → length (held_notes turns) ≡ held_count (inbox_of wrap turns)
held-kept wrap turns = length-append {A = Note} (waiting_notes turns) (different (early_notes turns))

-- what becomes of a note is settled by what is kept
pub arrival-kept : (wrap : ℕ) (note : Note) (turns : List ReplicaTurn) → arrival note turns ≡ arrival_in note (inbox_of wrap turns)
arrival-kept wrap note turns = λ i.
    cond (not (is_accepted note.name turns) && not (is_out turns)) IsUnknown
    (cond (repeat-kept wrap note turns i) IsRepeat
    (cond (not (is_next note turns) && nat_le held_limit (held-kept wrap turns i)) (IsTooMany (held-kept wrap turns i))
    (cond (not (is_accepted note.name turns)) IsEarly
    (cond (nat_lt (next_place turns) note.place) (IsHeld (next_place turns)) IsNext))))

-- the place that is missing, by what is kept: the next one, where a note waits
any-behind : (next : ℕ) (notes : List Note) → list_any (λ (note : Note). nat_lt next note.place) notes ≡ list_any (λ (note : Note). nat_lt next note.place) (behind next notes)
any-behind next [] = refl
any-behind next (note ∷ notes) = by (nat_lt next note.place) refl (any-behind next notes)
  where
    by : (b : Bool) → nat_lt next note.place ≡ b → list_any (λ (n : Note). nat_lt next n.place) notes ≡ list_any (λ (n : Note). nat_lt next n.place) (behind next notes)
        → b || list_any (λ (n : Note). nat_lt next n.place) notes ≡ list_any (λ (n : Note). nat_lt next n.place) (cond b (note ∷ behind next notes) (behind next notes))
    by true e rest = λ i. sym e i || list_any (λ (n : Note). nat_lt next n.place) (behind next notes)
    by false e rest = rest

any-later : (next : ℕ) (note : Note) (notes : List Note) → list_any (is_same_note note) notes ≡ true → nat_lt next note.place ≡ true
    → list_any (λ (n : Note). nat_lt next n.place) notes ≡ true
any-later next note [] e l = absurd (true≢false (sym e))
any-later next note (other ∷ notes) e l = by (is_same_note note other) refl e (λ f. any-later next note notes f l)
  where
    or : (b : Bool) → list_any (λ (n : Note). nat_lt next n.place) notes ≡ true → b || list_any (λ (n : Note). nat_lt next n.place) notes ≡ true
    or true h = refl
    or false h = h

    by : (b : Bool) → is_same_note note other ≡ b → b || list_any (is_same_note note) notes ≡ true
        → (list_any (is_same_note note) notes ≡ true → list_any (λ (n : Note). nat_lt next n.place) notes ≡ true)
        → nat_lt next other.place || list_any (λ (n : Note). nat_lt next n.place) notes ≡ true
    by true s e rest = λ i. (ap (nat_lt next) (sym (same-parts note other s).1) ∙ l) i || list_any (λ (n : Note). nat_lt next n.place) notes
    by false s e rest = or (nat_lt next other.place) (rest e)

any-different : (next : ℕ) (notes : List Note) → list_any (λ (note : Note). nat_lt next note.place) (different notes) ≡ list_any (λ (note : Note). nat_lt next note.place) notes
any-different next [] = refl
any-different next (note ∷ older) = by (list_any (is_same_note note) older) refl (any-different next older)
  where
    drops : list_any (is_same_note note) older ≡ true → (b : Bool) → nat_lt next note.place ≡ b
        → list_any (λ (n : Note). nat_lt next n.place) older ≡ b || list_any (λ (n : Note). nat_lt next n.place) older
    drops e true l = any-later next note older e l
    drops e false l = refl

    by : (b : Bool) → list_any (is_same_note note) older ≡ b → list_any (λ (n : Note). nat_lt next n.place) (different older) ≡ list_any (λ (n : Note). nat_lt next n.place) older
        → list_any (λ (n : Note). nat_lt next n.place) (cond b (different older) (note ∷ different older)) ≡ nat_lt next note.place || list_any (λ (n : Note). nat_lt next n.place) older
    by true e rest = rest ∙ drops e (nat_lt next note.place) refl
    by false e rest = ap (λ b. nat_lt next note.place || b) rest

pub missing-kept : (turns : List ReplicaTurn) → missing turns ≡ missing_of (waiting_notes turns) (next_place turns)
missing-kept turns = λ i. cond ((sym (any-different (next_place turns) (received turns)) ∙ any-behind (next_place turns) (different (received turns))) i) (Some (next_place turns)) None

-- ---- a name is accepted

pub accepted-kept : (wrap name : ℕ) (older : List ReplicaTurn) → inbox_of wrap (Accepts name ∷ older) ≡ with_name name (inbox_of wrap older)
accepted-kept wrap name older = λ i. record {
  wrap = wrap;
  accepted = Some name;
  out = false;
  next = ends i;
  waiting = behind (ends i) (different-of_name name (early_notes older) i);
  early = [];
}
  where
    named : AreOf name (of_name name (early_notes older))
    named = of_name-of name (early_notes older)

    ends : run_end 0 (of_name name (early_notes older)) ≡ run_end 0 (of_name name (different (early_notes older)))
    ends =
        run-same 0 (of_name name (early_notes older)) (different (of_name name (early_notes older))) (λ q l. sym (different-has name q (of_name name (early_notes older)) named))
        ∙ ap (run_end 0) (different-of_name name (early_notes older))

pub accepted-taken : (wrap name : ℕ) (older : List ReplicaTurn) → taken_by (Accepts name) older ≡ taken_early name (inbox_of wrap older)
accepted-taken wrap name older =
    notes-same 0 (next_place (Accepts name ∷ older)) (of_name name (early_notes older)) (different (of_name name (early_notes older)))
    (λ q m l. sym (different-note name q (of_name name (early_notes older)) (of_name-of name (early_notes older))))
    ∙ (λ i. notes_from_to 0 (ap (λ (kept : KeptInbox). kept.next) (accepted-kept wrap name older) i) (different-of_name name (early_notes older) i))

-- ---- a note is delivered

-- what is owed of an arrival
abbrev IsKept : ℕ → Note → List ReplicaTurn → Arrival → Type 0
IsKept wrap note older arrives = is_turned_away arrives ≡ false →
    (inbox_of wrap (Delivers note ∷ older) ≡ with_note arrives note (inbox_of wrap older))
    × (taken_by (Delivers note) older ≡ taken_in arrives note (inbox_of wrap older))

-- a note of the accepted name
module _ (wrap : ℕ) (note : Note) (older : List ReplicaTurn) (e : is_accepted note.name older ≡ true) where
  abbrev R : List Note
  R = received older

  abbrev W : List Note
  W = waiting_notes older

  abbrev E : ℕ
  E = run_after (inbox_of wrap older)

  abbrev now : ℕ → List Note → KeptInbox
  now next waiting = record { wrap = wrap; accepted = accepted older; out = is_out older; next = next; waiting = waiting; early = different (early_notes older) }

  named : AreOf note.name R
  named = received-of note.name older (accepted-name note.name older e)

  not-early : is_early note older ≡ false
  not-early = by (is_out older)
    where
      by : (b : Bool) → b && not (is_accepted note.name older) ≡ false
      by true = ap not e
      by false = refl

  inbox : inbox_of wrap (Delivers note ∷ older) ≡ now (run_end 0 (note ∷ R)) (behind (run_end 0 (note ∷ R)) (different (note ∷ R)))
  inbox = λ i. record {
    wrap = wrap;
    accepted = accepted older;
    out = is_out older;
    next = run_end 0 (cond (e i) (note ∷ R) R);
    waiting = behind (run_end 0 (cond (e i) (note ∷ R) R)) (different (cond (e i) (note ∷ R) R));
    early = different (cond (not-early i) (note ∷ early_notes older) (early_notes older));
  }

  taken : taken_by (Delivers note) older ≡ notes_from_to (next_place older) (run_end 0 (note ∷ R)) (note ∷ R)
  taken = λ i. cond (e i) (notes_from_to (next_place older) (run_end 0 (cond (e i) (note ∷ R) R)) (cond (e i) (note ∷ R) R)) []

  -- a repeat
  again : has_place R note.place ≡ true → IsKept wrap note older IsRepeat
  again have away = (
    inbox ∙ (λ i. now (ends i) (behind (ends i) (differ i))),
    taken ∙ notes-none (next_place older) (run_end 0 (note ∷ R)) (note ∷ R) (omega (arith, ends)),
  )
    where
      has : (q : ℕ) (b : Bool) → nat_eq note.place q ≡ b → b || has_place R q ≡ has_place R q
      has q true s = sym (ap (has_place R) (sym (eqb-true note.place q s)) ∙ have)
      has q false s = refl

      ends : run_end 0 (note ∷ R) ≡ next_place older
      ends = run-same 0 (note ∷ R) R (λ q l. has q (nat_eq note.place q) refl)

      differ : different (note ∷ R) ≡ different R
      differ = λ i. cond ((any-has note R named ∙ have) i) (different R) (note ∷ different R)

  -- one that was not received before
  module _ (new : has_place R note.place ≡ false) where
    differ : different (note ∷ R) ≡ note ∷ different R
    differ = λ i. cond ((any-has note R named ∙ new) i) (different R) (note ∷ different R)

    -- behind the next one
    later : next_place older < note.place → (place : ℕ) → IsKept wrap note older (IsHeld place)
    later l place away = (
      inbox ∙ (λ i. now (ends i) (behind (ends i) (differ i))) ∙ (λ i. now (next_place older) (cond (lt-ltb (next_place older) note.place l i) (note ∷ waiting_notes older) (waiting_notes older))),
      taken ∙ notes-none (next_place older) (run_end 0 (note ∷ R)) (note ∷ R) (omega (arith, ends)),
    )
      where
        or : (b : Bool) (q : ℕ) → has_place R q ≡ true → b || has_place R q ≡ true
        or true q h = refl
        or false q h = h

        ends : run_end 0 (note ∷ R) ≡ next_place older
        ends =
            run-is 0 (next_place older) (note ∷ R) (omega arith) (λ q m n. or (nat_eq note.place q) q ((longest-run older).0 q n))
            ((λ i. ne_eqb note.place (next_place older) (λ s. omega (arith, s, l)) i || has_place R (next_place older)) ∙ (longest-run older).1)

    -- the next one
    here : note.place ≡ next_place older → IsKept wrap note older IsNext
    here same away = (
      inbox ∙ (λ i. now (ends i) (behind (ends i) (differ i))) ∙ (λ i. now E (left i)),
      taken ∙ ap (λ (n : ℕ). notes_from_to (next_place older) n (note ∷ R)) ends
          ∙ notes-more (next_place older) E (note ∷ R) (omega (arith, above))
          ∙ (λ i. cons_option (note-new (next_place older) note R (longest-run older).1 same i)
          (notes-same (next_place older + 1) E (note ∷ R) W (λ q low high. of-waiting q low) i)),
    )
      where
        above : next_place older + 1 ≤ E
        above = run-from (next_place older + 1) W

        waits : (q : ℕ) → next_place older < q → has_place W q ≡ has_place R q
        waits q l = behind-has (next_place older) q (different R) l ∙ different-has note.name q R named

        apart : (q : ℕ) → next_place older < q → nat_eq note.place q ≡ false
        apart q l = ne_eqb note.place q (λ s. omega (arith, s, l, same))

        inside : (q : ℕ) → q < E → nat_eq note.place q || has_place R q ≡ true
        inside q l = by (cases_lt q (next_place older)) (cases_lt (next_place older) q)
          where
            or : (b : Bool) → has_place R q ≡ true → b || has_place R q ≡ true
            or true h = refl
            or false h = h

            by : (q < next_place older) ⊎ (next_place older ≤ q) → (next_place older < q) ⊎ (q ≤ next_place older) → nat_eq note.place q || has_place R q ≡ true
            by (inl m) n = or (nat_eq note.place q) ((longest-run older).0 q m)
            by (inr m) (inl n) = or (nat_eq note.place q) (sym (waits q n) ∙ run-inside (next_place older + 1) q W (omega (arith, n)) l)
            by (inr m) (inr n) =
                let is : note.place ≡ q = omega (arith, m, n, same) in
                (λ i. eq-eqb note.place q is i || has_place R q)

        ends : run_end 0 (note ∷ R) ≡ E
        ends =
            run-is 0 E (note ∷ R) (omega arith) (λ q m n. inside q n)
            ((λ i. apart E (omega (arith, above)) i || has_place R E) ∙ sym (waits E (omega (arith, above))) ∙ run-outside (next_place older + 1) W)

        left : behind E (note ∷ different R) ≡ behind E W
        left =
            (λ i. cond (le-ltb E note.place (omega (arith, above, same)) i) (note ∷ behind E (different R)) (behind E (different R)))
            ∙ sym (behind-behind (next_place older) E (different R) (omega (arith, above)))

        of-waiting : (q : ℕ) → next_place older + 1 ≤ q → note_of q (note ∷ R) ≡ note_of q W
        of-waiting q l =
            note-past q note R (apart q (omega (arith, l))) ∙ sym (different-note note.name q R named)
            ∙ sym (behind-note (next_place older) q (different R) (omega (arith, l)))

-- a note of another name, while a request is out
module _ (wrap : ℕ) (note : Note) (older : List ReplicaTurn) (e : is_accepted note.name older ≡ false) (o : is_out older ≡ true) where
  other-inbox : (b : Bool) → list_any (is_same_note note) (early_notes older) ≡ b
      → inbox_of wrap (Delivers note ∷ older) ≡ record (inbox_of wrap older) { early = cond b (different (early_notes older)) (note ∷ different (early_notes older)) }
  other-inbox b f = λ i. record {
    wrap = wrap;
    accepted = accepted older;
    out = is_out older;
    next = run_end 0 (cond (e i) (note ∷ received older) (received older));
    waiting = behind (run_end 0 (cond (e i) (note ∷ received older) (received older))) (different (cond (e i) (note ∷ received older) (received older)));
    early = (ap (λ (b : Bool). different (cond b (note ∷ early_notes older) (early_notes older))) is-early
        ∙ ap (λ (b : Bool). cond b (different (early_notes older)) (note ∷ different (early_notes older))) f) i;
  }
    where
      is-early : is_early note older ≡ true
      is-early = λ i. o i && not (e i)

  other-taken : taken_by (Delivers note) older ≡ []
  other-taken = λ i. cond (e i) (notes_from_to (next_place older) (next_place (Delivers note ∷ older)) (received (Delivers note ∷ older))) []

-- what is kept after a note that is not turned away, and which notes it lets the replica take
pub delivered-kept : (wrap : ℕ) (note : Note) (older : List ReplicaTurn) → IsKept wrap note older (arrival note older)
delivered-kept wrap note older = by (is_accepted note.name older) refl (is_repeat note older) refl
  where
    is-false : {A : Type 0} → true ≡ false → A
    is-false e = absurd (true≢false e)

    by : (a : Bool) → is_accepted note.name older ≡ a → (r : Bool) → is_repeat note older ≡ r
        → IsKept wrap note older (cond (not a && not (is_out older)) IsUnknown
        (cond r IsRepeat
        (cond (not (a && nat_eq note.place (next_place older)) && nat_le held_limit (length (held_notes older))) (IsTooMany (length (held_notes older)))
        (cond (not a) IsEarly (cond (nat_lt (next_place older) note.place) (IsHeld (next_place older)) IsNext)))))
    by true e true f = again wrap note older e ((λ i. cond (sym e i) (has_place (received older) note.place) (is_out older && list_any (is_same_note note) (early_notes older))) ∙ f)
    by true e false f = full (not (nat_eq note.place (next_place older)) && nat_le held_limit (length (held_notes older)))
      where
        new : has_place (received older) note.place ≡ false
        new = (λ i. cond (sym e i) (has_place (received older) note.place) (is_out older && list_any (is_same_note note) (early_notes older))) ∙ f

        at : (b : Bool) → nat_lt (next_place older) note.place ≡ b → IsKept wrap note older (cond b (IsHeld (next_place older)) IsNext)
        at true l = later wrap note older e new (ltb-true (next_place older) note.place l) (next_place older)
        at false l = least (cases_lt note.place (next_place older))
          where
            least : (note.place < next_place older) ⊎ (next_place older ≤ note.place) → IsKept wrap note older IsNext
            least (inl m) = is-false (sym ((longest-run older).0 note.place m) ∙ new)
            least (inr m) = let n = ltb-false (next_place older) note.place l in here wrap note older e new (omega (arith, m, n))

        full : (b : Bool) → IsKept wrap note older (cond b (IsTooMany (length (held_notes older))) (cond (nat_lt (next_place older) note.place) (IsHeld (next_place older)) IsNext))
        full true = λ away. is-false away
        full false = at (nat_lt (next_place older) note.place) refl
    by false e r f = out (is_out older) refl r f
      where
        out : (o : Bool) → is_out older ≡ o → (r : Bool) → is_repeat note older ≡ r
            → IsKept wrap note older (cond (not o) IsUnknown
            (cond r IsRepeat
            (cond (nat_le held_limit (length (held_notes older))) (IsTooMany (length (held_notes older))) IsEarly)))
        out false o r f = λ away. is-false away
        out true o true f = λ away. (other-inbox wrap note older e o true (any true f), other-taken wrap note older e o)
          where
            any : (r : Bool) → is_repeat note older ≡ r → list_any (is_same_note note) (early_notes older) ≡ r
            any r f =
                (λ i. cond (sym e i) (has_place (received older) note.place) (sym o i && list_any (is_same_note note) (early_notes older))) ∙ f
        out true o false f = full (nat_le held_limit (length (held_notes older)))
          where
            any : list_any (is_same_note note) (early_notes older) ≡ false
            any = (λ i. cond (sym e i) (has_place (received older) note.place) (sym o i && list_any (is_same_note note) (early_notes older))) ∙ f

            full : (b : Bool) → IsKept wrap note older (cond b (IsTooMany (length (held_notes older))) IsEarly)
            full true = λ away. is-false away
            full false = λ away. (other-inbox wrap note older e o false any, other-taken wrap note older e o)
