-- The notes that are received are those that were delivered since their name was accepted, or early for the request before it.
use Rattle.std.proofs.Common.{◌≡◌, ◌⊎◌, inl, inr, ℕ, suc, Bool, true, false, cond, nat_eq, List, [], ◌∷◌, ◌++◌, refl, sym, ap, ◌∙◌, subst, arith, true≢false, eq-eqb, eqb-true, append_assoc}
use Rattle.std.specs.List.{AllByRecursion, Contains}
use Rattle.cds_commands.specs.Notes.{Note}
use Rattle.cds_follow.specs.Inbox.{ReplicaTurn, Begins, Shows, Requests, Accepts, Refuses, Delivers, is_accepted, is_early, early_notes, received}
use Rattle.cds_follow.specs.InboxLaws.{accepts_name, is_call, CameFor, received_notes_came}
use Rattle.cds_commands.proofs.Among.{Among, among-contained, among-filter, filter-among}

pub contained-among : {X : Type 0} (xs : List X) (x : X) → Among x xs → Contains xs x
contained-among [] x a = absurd a
contained-among {X} (y ∷ ys) x a = by a (λ b. contained-among ys x b)
  where
    by : (x ≡ y) ⊎ Among x ys → (Among x ys → Contains ys x) → Contains (y ∷ ys) x
    by (inl e) r = (0, omega arith, sym e)
    by (inr b) r = let found = r b in let low = found.1 in (suc found.0, omega (arith, low), found.2)

module _ (note : Note) where
  abbrev Quiet : List ReplicaTurn → Type 0
  Quiet = AllByRecursion (λ turn. is_call turn ≡ false)

  abbrev Still : List ReplicaTurn → Type 0
  Still = AllByRecursion (λ turn. accepts_name turn ≡ false)

  -- ---- early notes

  abbrev Came : List ReplicaTurn → Type 0
  Came turns = (between : List ReplicaTurn) × (older : List ReplicaTurn) × (turns ≡ between ++ Delivers note ∷ older) × Quiet between × (is_early note older ≡ true)

  one-more : (turn : ReplicaTurn) (turns : List ReplicaTurn) → is_call turn ≡ false → Came turns → Came (turn ∷ turns)
  one-more turn turns e (between, older, is, quiet, early) = (turn ∷ between, older, ap (λ (l : List ReplicaTurn). turn ∷ l) is, (e, quiet), early)

  early-came : (turns : List ReplicaTurn) → Among note (early_notes turns) → Came turns
  early-came [] a = absurd a
  early-came (Begins ∷ older) a = one-more Begins older refl (early-came older a)
  early-came (Shows shown ∷ older) a = one-more (Shows shown) older refl (early-came older a)
  early-came (Requests ∷ older) a = absurd a
  early-came (Accepts name ∷ older) a = absurd a
  early-came (Refuses ∷ older) a = absurd a
  early-came (Delivers other ∷ older) a = by (is_early other older) refl a (λ b. one-more (Delivers other) older refl (early-came older b))
    where
      by : (b : Bool) → is_early other older ≡ b → Among note (cond b (other ∷ early_notes older) (early_notes older)) → (Among note (early_notes older) → Came (Delivers other ∷ older))
          → Came (Delivers other ∷ older)
      by true e (inl s) r =
          ([], older, ap (λ (n : Note). Delivers n ∷ older) (sym s), tt, ap (λ (n : Note). is_early n older) s ∙ e)
      by true e (inr b) r = r b
      by false e b r = r b

  more-early : (b : Bool) (other : Note) (notes : List Note) → Among note notes → Among note (cond b (other ∷ notes) notes)
  more-early true other notes a = inr a
  more-early false other notes a = a

  came-early : (between older : List ReplicaTurn) → Quiet between → is_early note older ≡ true → Among note (early_notes (between ++ Delivers note ∷ older))
  came-early [] older quiet e = subst (λ (b : Bool). Among note (cond b (note ∷ early_notes older) (early_notes older))) (sym e) (inl refl)
  came-early (Begins ∷ between) older quiet e = came-early between older quiet.1 e
  came-early (Shows shown ∷ between) older quiet e = came-early between older quiet.1 e
  came-early (Requests ∷ between) older quiet e = absurd (true≢false quiet.0)
  came-early (Accepts name ∷ between) older quiet e = absurd (true≢false quiet.0)
  came-early (Refuses ∷ between) older quiet e = absurd (true≢false quiet.0)
  came-early (Delivers other ∷ between) older quiet e =
      more-early (is_early other (between ++ Delivers note ∷ older)) other (early_notes (between ++ Delivers note ∷ older)) (came-early between older quiet.1 e)

  -- ---- received notes

  abbrev WasFor : List ReplicaTurn → Type 0
  WasFor turns = (newer : List ReplicaTurn) × (older : List ReplicaTurn) × (turns ≡ newer ++ Delivers note ∷ older) × CameFor note newer older

  one-later : (turn : ReplicaTurn) (turns : List ReplicaTurn) → accepts_name turn ≡ false → WasFor turns → WasFor (turn ∷ turns)
  one-later turn turns e (newer, older, is, inl (named, still)) = (turn ∷ newer, older, ap (λ (l : List ReplicaTurn). turn ∷ l) is, inl (named, (e, still)))
  one-later turn turns e (newer, older, is, inr (since, between, parts, still, quiet, early)) = (
    turn ∷ newer,
    older,
    ap (λ (l : List ReplicaTurn). turn ∷ l) is,
    inr (turn ∷ since, between, ap (λ (l : List ReplicaTurn). turn ∷ l) parts, (e, still), quiet, early),
  )

  received-came : (turns : List ReplicaTurn) → Among note (received turns) → WasFor turns
  received-came [] a = absurd a
  received-came (Begins ∷ older) a = one-later Begins older refl (received-came older a)
  received-came (Shows shown ∷ older) a = one-later (Shows shown) older refl (received-came older a)
  received-came (Requests ∷ older) a = one-later Requests older refl (received-came older a)
  received-came (Accepts name ∷ older) a =
      let f = filter-among (λ (n : Note). nat_eq n.name name) (early_notes older) note a in
      on (eqb-true note.name name f.1) (early-came older f.0)
    where
      on : note.name ≡ name → Came older → WasFor (Accepts name ∷ older)
      on same (between, before, is, quiet, early) = (
        Accepts name ∷ between,
        before,
        ap (λ (l : List ReplicaTurn). Accepts name ∷ l) is,
        inr ([], between, ap (λ (n : ℕ). Accepts n ∷ between) (sym same), tt, quiet, early),
      )
  received-came (Refuses ∷ older) a = one-later Refuses older refl (received-came older a)
  received-came (Delivers other ∷ older) a = by (is_accepted other.name older) refl a (λ b. one-later (Delivers other) older refl (received-came older b))
    where
      by : (b : Bool) → is_accepted other.name older ≡ b → Among note (cond b (other ∷ received older) (received older)) → (Among note (received older) → WasFor (Delivers other ∷ older))
          → WasFor (Delivers other ∷ older)
      by true e (inl s) r =
          ([], older, ap (λ (n : Note). Delivers n ∷ older) (sym s), inl (ap (λ (n : Note). is_accepted n.name older) s ∙ e, tt))
      by true e (inr b) r = r b
      by false e b r = r b

  -- turns that accept no name keep what is received
  still-received : (newer older : List ReplicaTurn) → Still newer → Among note (received older) → Among note (received (newer ++ older))
  still-received [] older still a = a
  still-received (Begins ∷ newer) older still a = still-received newer older still.1 a
  still-received (Shows shown ∷ newer) older still a = still-received newer older still.1 a
  still-received (Requests ∷ newer) older still a = still-received newer older still.1 a
  still-received (Accepts name ∷ newer) older still a = absurd (true≢false still.0)
  still-received (Refuses ∷ newer) older still a = still-received newer older still.1 a
  still-received (Delivers other ∷ newer) older still a =
      more-early (is_accepted other.name (newer ++ older)) other (received (newer ++ older)) (still-received newer older still.1 a)

  came-received : (turns : List ReplicaTurn) → WasFor turns → Among note (received turns)
  came-received turns (newer, older, is, inl (named, still)) =
      subst (λ (l : List ReplicaTurn). Among note (received l)) (sym is)
      (still-received newer (Delivers note ∷ older) still
      (subst (λ (b : Bool). Among note (cond b (note ∷ received older) (received older))) (sym named) (inl refl)))
  came-received turns (newer, older, is, inr (since, between, parts, still, quiet, early)) =
      subst (λ (l : List ReplicaTurn). Among note (received l))
      (sym (is ∙ ap (λ (l : List ReplicaTurn). l ++ Delivers note ∷ older) parts ∙ append_assoc since (Accepts note.name ∷ between) (Delivers note ∷ older)))
      (still-received since (Accepts note.name ∷ (between ++ Delivers note ∷ older)) still
      (among-filter (λ (n : Note). nat_eq n.name note.name) (early_notes (between ++ Delivers note ∷ older)) note (came-early between older quiet early)
      (eq-eqb note.name note.name refl)))

pub notes-came : received_notes_came
notes-came turns note = (
  λ c. received-came note turns (among-contained (received turns) note c),
  λ w. contained-among (received turns) note (came-received note turns w),
)
