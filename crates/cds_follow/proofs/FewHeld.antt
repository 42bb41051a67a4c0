-- At most 64 notes are held.
use Rattle.std.proofs.Common.{◌≡◌, ◌⊎◌, inl, inr, ◌+◌, ◌<◌, ◌≤◌, ℕ, Bool, true, false, cond, not, ◌&&◌, ◌||◌, nat_eq, nat_lt, nat_le, List, [], ◌∷◌, filter, length, Option, Some, None, refl, sym, ap, ◌∙◌, arith, true≢false, eq-eqb, eqb-true, ltb-true, lt-ltb, le-ltb, leb-false, length-append}
use Rattle.std.specs.List.{list_any}
use Rattle.std.specs.Option.{option_eq}
use Rattle.cds_commands.specs.Notes.{Note}
use Rattle.cds_follow.specs.Inbox.{ReplicaTurn, Begins, Shows, Requests, Accepts, Refuses, Delivers, is_out, accepted, is_accepted, early_notes, received, has_place, least_outside, next_place, is_same_note, different, waiting_notes, held_notes, held_limit, IsUnknown, IsRepeat, IsTooMany, IsEarly, IsHeld, IsNext, is_repeat, is_next, arrival, taken_by}
use Rattle.cds_follow.specs.Follow.{is_turned_away, with_notes, known_by}
use Rattle.cds_follow.specs.KnownLaws.{at_most_64_are_held}
use Rattle.cds_commands.proofs.Among.{Among, filter-among}
use Rattle.cds_commands.proofs.Chain.{note-among}
use Rattle.cds_follow.proofs.Taken.{has-note}
use Rattle.cds_follow.proofs.TakenOnce.{rises}
use Rattle.cds_load.specs.Outcome.{is_no}

-- ---- different notes

any-among : {X : Type 0} (test : X → Bool) (xs : List X) (x : X) → Among x xs → test x ≡ true → list_any test xs ≡ true
any-among test [] x a e = absurd a
any-among {X} test (y ∷ ys) x a e = by a (λ b. any-among test ys x b e)
  where
    either : (b : Bool) → list_any test ys ≡ true → b || list_any test ys ≡ true
    either true h = refl
    either false h = h

    by : (x ≡ y) ⊎ Among x ys → (Among x ys → list_any test ys ≡ true) → test y || list_any test ys ≡ true
    by (inl s) r = λ i. (ap test (sym s) ∙ e) i || list_any test ys
    by (inr b) r = either (test y) (r b)

-- more notes pass a weaker test
filter-weaker : (p q : Note → Bool) → ((note : Note) → p note ≡ true → q note ≡ true) → (notes : List Note) → length (filter p notes) ≤ length (filter q notes)
filter-weaker p q f [] = omega arith
filter-weaker p q f (note ∷ notes) = by (p note) (q note) refl refl (filter-weaker p q f notes)
  where
    by : (b c : Bool) → p note ≡ b → q note ≡ c → length (filter p notes) ≤ length (filter q notes)
        → length (cond b (note ∷ filter p notes) (filter p notes)) ≤ length (cond c (note ∷ filter q notes) (filter q notes))
    by true true e g l = omega (arith, l)
    by true false e g l = absurd (true≢false (sym (f note e) ∙ g))
    by false true e g l = omega (arith, l)
    by false false e g l = l

filter-less : (p : Note → Bool) (notes : List Note) → length (filter p notes) ≤ length notes
filter-less p [] = omega arith
filter-less p (note ∷ notes) = by (p note) (filter-less p notes)
  where
    by : (b : Bool) → length (filter p notes) ≤ length notes → length (cond b (note ∷ filter p notes) (filter p notes)) ≤ length (note ∷ notes)
    by true l = omega (arith, l)
    by false l = omega (arith, l)

-- among notes of one name, those are different which are different among all
same-stays : (name : ℕ) (note : Note) (notes : List Note) → nat_eq note.name name ≡ true → list_any (is_same_note note) notes ≡ true
    → list_any (is_same_note note) (filter (λ (n : Note). nat_eq n.name name) notes) ≡ true
same-stays name note [] e h = h
same-stays name note (other ∷ notes) e h = by (nat_eq note.name other.name) (nat_eq note.place other.place) (nat_eq other.name name) refl refl refl h (same-stays name note notes e)
  where
    either : (b c : Bool) → list_any (is_same_note note) (filter (λ (n : Note). nat_eq n.name name) notes) ≡ true
        → list_any (is_same_note note) (cond c (other ∷ filter (λ (n : Note). nat_eq n.name name) notes) (filter (λ (n : Note). nat_eq n.name name) notes)) ≡ true
    either b true k = other-or (is_same_note note other) k
      where
        other-or : (d : Bool) → list_any (is_same_note note) (filter (λ (n : Note). nat_eq n.name name) notes) ≡ true
            → d || list_any (is_same_note note) (filter (λ (n : Note). nat_eq n.name name) notes) ≡ true
        other-or true k = refl
        other-or false k = k
    either b false k = k

    by : (a s b : Bool) → nat_eq note.name other.name ≡ a → nat_eq note.place other.place ≡ s → nat_eq other.name name ≡ b
        → (a && s) || list_any (is_same_note note) notes ≡ true
        → (list_any (is_same_note note) notes ≡ true → list_any (is_same_note note) (filter (λ (n : Note). nat_eq n.name name) notes) ≡ true)
        → list_any (is_same_note note) (cond b (other ∷ filter (λ (n : Note). nat_eq n.name name) notes) (filter (λ (n : Note). nat_eq n.name name) notes)) ≡ true
    by true true true x y z h r = λ i. (x i && y i) || list_any (is_same_note note) (filter (λ (n : Note). nat_eq n.name name) notes)
    by true true false x y z h r =
        let same : other.name ≡ name = sym (eqb-true note.name other.name x) ∙ eqb-true note.name name e in
        absurd (true≢false (sym (eq-eqb other.name name same) ∙ z))
    by true false b x y z h r = either true b (r h)
    by false s b x y z h r = either true b (r h)

different-less : (name : ℕ) (notes : List Note) → length (different (filter (λ (n : Note). nat_eq n.name name) notes)) ≤ length (different notes)
different-less name [] = omega arith
different-less name (note ∷ notes) = by (nat_eq note.name name) refl (different-less name notes)
  where
    named : List Note
    named = filter (λ (n : Note). nat_eq n.name name) notes

    on : nat_eq note.name name ≡ true → (b c : Bool) → list_any (is_same_note note) named ≡ b → list_any (is_same_note note) notes ≡ c
        → length (different named) ≤ length (different notes)
        → length (cond b (different named) (note ∷ different named)) ≤ length (cond c (different notes) (note ∷ different notes))
    on e true true f g l = l
    on e true false f g l = omega (arith, l)
    on e false true f g l = absurd (true≢false (sym (same-stays name note notes e g) ∙ f))
    on e false false f g l = omega (arith, l)

    more : (c : Bool) → length (different named) ≤ length (different notes) → length (different named) ≤ length (cond c (different notes) (note ∷ different notes))
    more true l = l
    more false l = omega (arith, l)

    by : (b : Bool) → nat_eq note.name name ≡ b → length (different named) ≤ length (different notes)
        → length (different (cond b (note ∷ named) named)) ≤ length (cond (list_any (is_same_note note) notes) (different notes) (note ∷ different notes))
    by true e l = on e (list_any (is_same_note note) named) (list_any (is_same_note note) notes) refl refl l
    by false e l = more (list_any (is_same_note note) notes) l

-- ---- the notes that are received have the accepted name

is-name : (name : ℕ) (o : Option ℕ) → option_eq nat_eq o (Some name) ≡ true → o ≡ Some name
is-name name None e = absurd (true≢false (sym e))
is-name name (Some other) e = ap Some (eqb-true other name e)

received-named : (turns : List ReplicaTurn) (note : Note) → Among note (received turns) → accepted turns ≡ Some note.name
received-named [] note a = absurd a
received-named (Begins ∷ older) note a = received-named older note a
received-named (Shows shown ∷ older) note a = received-named older note a
received-named (Requests ∷ older) note a = received-named older note a
received-named (Accepts name ∷ older) note a =
    ap Some (sym (eqb-true note.name name (filter-among (λ (n : Note). nat_eq n.name name) (early_notes older) note a).1))
received-named (Refuses ∷ older) note a = received-named older note a
received-named (Delivers other ∷ older) note a = by (is_accepted other.name older) refl a (λ b. received-named older note b)
  where
    by : (b : Bool) → is_accepted other.name older ≡ b → Among note (cond b (other ∷ received older) (received older)) → (Among note (received older) → accepted older ≡ Some note.name)
        → accepted older ≡ Some note.name
    by true e (inl s) r = is-name other.name (accepted older) e ∙ ap (λ (n : Note). Some n.name) (sym s)
    by true e (inr b) r = r b
    by false e b r = r b

-- one whose SEQ was received is the same as another
same-received : (turns : List ReplicaTurn) (note : Note) → is_accepted note.name turns ≡ true → has_place (received turns) note.place ≡ true
    → list_any (is_same_note note) (received turns) ≡ true
same-received turns note e h =
    let found = has-note note.place (received turns) h in
    let a = note-among note.place (received turns) found.0 found.1 in
    let both : Some note.name ≡ Some found.0.name = sym (is-name note.name (accepted turns) e) ∙ received-named turns found.0 a.0 in
    let name : note.name ≡ found.0.name = cc in
    any-among (is_same_note note) (received turns) found.0 a.0 (λ i. eq-eqb note.name found.0.name name i && eq-eqb note.place found.0.place (sym a.1) i)

-- ---- one note more

-- a note that is no repeat and not the next one had room
module _ (note : Note) (older : List ReplicaTurn) (room : is_turned_away (arrival note older) ≡ false) where
  few-before : is_accepted note.name older || is_out older ≡ true → is_repeat note older ≡ false → is_next note older ≡ false → length (held_notes older) < held_limit
  few-before known again next = by (nat_le held_limit (length (held_notes older))) refl
    where
      unknown : (a o : Bool) → a || o ≡ true → not a && not o ≡ false
      unknown true o e = refl
      unknown false true e = refl
      unknown false false e = absurd (true≢false (sym e))

      is : (b : Bool) → nat_le held_limit (length (held_notes older)) ≡ b
          → arrival note older ≡ cond b (IsTooMany (length (held_notes older)))
          (cond (not (is_accepted note.name older)) IsEarly (cond (nat_lt (next_place older) note.place) (IsHeld (next_place older)) IsNext))
      is b e = λ i.
          cond (unknown (is_accepted note.name older) (is_out older) known i) IsUnknown
          (cond (again i) IsRepeat
          (cond (not (next i) && e i) (IsTooMany (length (held_notes older)))
          (cond (not (is_accepted note.name older)) IsEarly (cond (nat_lt (next_place older) note.place) (IsHeld (next_place older)) IsNext))))

      by : (b : Bool) → nat_le held_limit (length (held_notes older)) ≡ b → length (held_notes older) < held_limit
      by true e = absurd (true≢false (sym (ap is_turned_away (is true e)) ∙ room))
      by false e = leb-false held_limit (length (held_notes older)) e

  abbrev waits : ℕ → List Note → List Note
  waits next notes = filter (λ (n : Note). nat_lt next n.place) notes

  waits-less : (low high : ℕ) → low ≤ high → (notes : List Note) → length (waits high notes) ≤ length (waits low notes)
  waits-less low high l notes =
      filter-weaker (λ (n : Note). nat_lt high n.place) (λ (n : Note). nat_lt low n.place)
      (λ n e. let above = ltb-true high n.place e in lt-ltb low n.place (omega (arith, above, l))) notes

  abbrev few : ℕ → ℕ → Type 0
  few waiting early = waiting + early ≤ held_limit

  held-length : (turns : List ReplicaTurn) → length (held_notes turns) ≡ length (waiting_notes turns) + length (different (early_notes turns))
  held-length turns = length-append (waiting_notes turns) (different (early_notes turns))

  -- of the accepted name
  named-few : is_accepted note.name older ≡ true → length (held_notes older) ≤ held_limit → few (length (waiting_notes (Delivers note ∷ older))) (length (different (early_notes older)))
  named-few named before = by (list_any (is_same_note note) (received older)) refl
    where
      now : ℕ
      now = next_place (Delivers note ∷ older)

      up : next_place older ≤ now
      up = rises note older named

      more : received (Delivers note ∷ older) ≡ note ∷ received older
      more = λ i. cond (named i) (note ∷ received older) (received older)

      -- where it is the next one it does not wait
      past : note.place ≡ next_place older → nat_lt now note.place ≡ false
      past same =
          let rise = up in
          le-ltb now note.place (omega (arith, rise, same))

      on : (b : Bool) → list_any (is_same_note note) (received older) ≡ b → waiting_notes (Delivers note ∷ older) ≡ waits now (cond b (different (received older)) (note ∷ different (received older)))
      on b e = ap (λ (notes : List Note). waits now (different notes)) more ∙ (λ i. waits now (cond (e i) (different (received older)) (note ∷ different (received older))))

      held : length (waits (next_place older) (different (received older))) + length (different (early_notes older)) ≤ held_limit
      held = let is = held-length older in omega (arith, is, before)

      by : (b : Bool) → list_any (is_same_note note) (received older) ≡ b → few (length (waiting_notes (Delivers note ∷ older))) (length (different (early_notes older)))
      by true e =
          let is = ap length (on true e) in
          let less = waits-less (next_place older) now up (different (received older)) in
          let most = held in
          omega (arith, is, less, most)
      by false e = waiting (nat_lt now note.place) refl
        where
          waiting : (c : Bool) → nat_lt now note.place ≡ c → few (length (waiting_notes (Delivers note ∷ older))) (length (different (early_notes older)))
          waiting false f =
              let is = ap length (on false e ∙ (λ i. cond (f i) (note ∷ waits now (different (received older))) (waits now (different (received older))))) in
              let less = waits-less (next_place older) now up (different (received older)) in
              let most = held in
              omega (arith, is, less, most)
          waiting true f =
              let is = ap length (on false e ∙ (λ i. cond (f i) (note ∷ waits now (different (received older))) (waits now (different (received older))))) in
              let less = waits-less (next_place older) now up (different (received older)) in
              let room_before = few-before (λ i. named i || is_out older) again next in
              let parts = held-length older in
              omega (arith, is, less, room_before, parts)
            where
              not-seq : (b : Bool) → has_place (received older) note.place ≡ b → has_place (received older) note.place ≡ false
              not-seq true h = absurd (true≢false (sym (same-received older note named h) ∙ e))
              not-seq false h = h

              again : is_repeat note older ≡ false
              again = (λ i. cond (named i) (has_place (received older) note.place) (is_out older && list_any (is_same_note note) (early_notes older))) ∙ not-seq (has_place (received older) note.place) refl

              apart : (b : Bool) → nat_eq note.place (next_place older) ≡ b → nat_eq note.place (next_place older) ≡ false
              apart true h = absurd (true≢false (sym f ∙ past (eqb-true note.place (next_place older) h)))
              apart false h = h

              next : is_next note older ≡ false
              next = λ i. named i && apart (nat_eq note.place (next_place older)) refl i

  -- of another name
  other-few : is_accepted note.name older ≡ false → length (held_notes older) ≤ held_limit → few (length (waiting_notes older)) (length (different (early_notes (Delivers note ∷ older))))
  other-few other before = by (is_out older) (list_any (is_same_note note) (early_notes older)) refl refl
    where
      held : length (waiting_notes older) + length (different (early_notes older)) ≤ held_limit
      held = let is = held-length older in omega (arith, is, before)

      early : (o : Bool) → is_out older ≡ o → early_notes (Delivers note ∷ older) ≡ cond o (note ∷ early_notes older) (early_notes older)
      early true e = λ i. cond (e i && not (other i)) (note ∷ early_notes older) (early_notes older)
      early false e = λ i. cond (e i && not (other i)) (note ∷ early_notes older) (early_notes older)

      by : (o s : Bool) → is_out older ≡ o → list_any (is_same_note note) (early_notes older) ≡ s
          → few (length (waiting_notes older)) (length (different (early_notes (Delivers note ∷ older))))
      by false s e f = let is = ap (λ (notes : List Note). length (different notes)) (early false e) in let most = held in omega (arith, is, most)
      by true true e f =
          let is = ap (λ (notes : List Note). length (different notes)) (early true e) ∙ (λ i. length (cond (f i) (different (early_notes older)) (note ∷ different (early_notes older)))) in
          let most = held in
          omega (arith, is, most)
      by true false e f =
          let is = ap (λ (notes : List Note). length (different notes)) (early true e) ∙ (λ i. length (cond (f i) (different (early_notes older)) (note ∷ different (early_notes older)))) in
          let room_before = few-before (λ i. other i || e i) (λ i. cond (other i) (has_place (received older) note.place) (e i && f i)) (λ i. other i && nat_eq note.place (next_place older)) in
          let parts = held-length older in
          omega (arith, is, room_before, parts)

  pub delivered-few : length (held_notes older) ≤ held_limit → length (held_notes (Delivers note ∷ older)) ≤ held_limit
  delivered-few before = by (is_accepted note.name older) refl
    where
      by : (b : Bool) → is_accepted note.name older ≡ b → length (held_notes (Delivers note ∷ older)) ≤ held_limit
      by true e =
          let is = held-length (Delivers note ∷ older) in
          let early = ap (λ (notes : List Note). length (different notes)) (stay (is_out older) e) in
          let most = named-few e before in
          omega (arith, is, early, most)
        where
          stay : (o : Bool) → is_accepted note.name older ≡ true → cond (o && not (is_accepted note.name older)) (note ∷ early_notes older) (early_notes older) ≡ early_notes older
          stay true e = λ i. cond (not (e i)) (note ∷ early_notes older) (early_notes older)
          stay false e = refl
      by false e =
          let is = held-length (Delivers note ∷ older) in
          let same : received (Delivers note ∷ older) ≡ received older = λ i. cond (e i) (note ∷ received older) (received older) in
          let waiting = ap (λ (notes : List Note). length (filter (λ (n : Note). nat_lt (least_outside (length notes) 0 notes) n.place) (different notes))) same in
          let most = other-few e before in
          omega (arith, is, waiting, most)

no-refusal : (a b : Bool) → a || b ≡ false → a ≡ false
no-refusal true b e = absurd (true≢false e)
no-refusal false b e = refl

pub few-held : at_most_64_are_held
few-held [] none = omega arith
few-held (Begins ∷ older) none = few-held older none.1
few-held (Shows shown ∷ older) none = few-held older none.1
few-held (Requests ∷ older) none =
    let rest = few-held older none.1 in
    let was = length-append (waiting_notes older) (different (early_notes older)) in
    let is = length-append (waiting_notes older) [] in
    omega (arith, rest, was, is)
few-held (Accepts name ∷ older) none =
    let rest = few-held older none.1 in
    let was = length-append (waiting_notes older) (different (early_notes older)) in
    let is = length-append (waiting_notes (Accepts name ∷ older)) [] in
    let some = filter-less (λ (n : Note). nat_lt (next_place (Accepts name ∷ older)) n.place) (different (received (Accepts name ∷ older))) in
    let less = different-less name (early_notes older) in
    omega (arith, rest, was, is, some, less)
few-held (Refuses ∷ older) none =
    let rest = few-held older none.1 in
    let was = length-append (waiting_notes older) (different (early_notes older)) in
    let is = length-append (waiting_notes older) [] in
    omega (arith, rest, was, is)
few-held (Delivers note ∷ older) none =
    delivered-few note older (no-refusal (is_turned_away (arrival note older)) (is_no (with_notes (taken_by (Delivers note) older) (known_by older))) none.0) (few-held older none.1)
