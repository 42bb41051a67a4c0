-- Elements of lists, and how many notes have a name.
use Rattle.std.proofs.Common.{◌≡◌, ◌⊎◌, inl, inr, ◌+◌, ◌<◌, ◌≤◌, ℕ, zero, suc, Bool, true, false, cond, nat_eq, List, [], ◌∷◌, ◌++◌, map, filter, length, refl, sym, ap, ◌∙◌, subst, arith, true≢false, eq-eqb, eqb-true, length-append}
use Rattle.std.specs.List.{AllByRecursion, Contains, slice_index_or, range_with_len}
use Rattle.std.proofs.lemmas.Bool.{cases_lt, eqb-false}
use Rattle.std.proofs.lemmas.List.Elements.{filter-append}
use Rattle.cds_commands.specs.Notes.{Note, next_place_of}

abbrev pub Among : {X : Type 0} → X → List X → Type 0
Among x [] = ⊥
Among x (y ∷ ys) = (x ≡ y) ⊎ Among x ys

pub among-contained : {X : Type 0} (xs : List X) (x : X) → Contains xs x → Among x xs
among-contained [] x c = absurd (none c.0 c.1)
  where
    none : (k : ℕ) → k < 0 → ⊥
    none k l = omega (arith, l)
among-contained {X} (y ∷ ys) x c = by c.0 c.1 c.2 (λ d. among-contained ys x d)
  where
    by : (k : ℕ) → k < length (y ∷ ys) → slice_index_or (y ∷ ys) k x ≡ x → (Contains ys x → Among x ys) → (x ≡ y) ⊎ Among x ys
    by zero l e r = inl (sym e)
    by (suc k) l e r = inr (r (k, omega (arith, l), e))

pub among-all : {X : Type 0} (P : X → Type 0) (xs : List X) (x : X) → AllByRecursion P xs → Among x xs → P x
among-all P [] x all a = absurd a
among-all {X} P (y ∷ ys) x all a = by a (λ b. among-all P ys x all.1 b)
  where
    by : (x ≡ y) ⊎ Among x ys → (Among x ys → P x) → P x
    by (inl e) r = subst P (sym e) all.0
    by (inr b) r = r b

pub all-among : {X : Type 0} (P : X → Type 0) (xs : List X) → ((x : X) → Among x xs → P x) → AllByRecursion P xs
all-among P [] h = tt
all-among P (y ∷ ys) h = (h y (inl refl), all-among P ys (λ x a. h x (inr a)))

pub among-left : {X : Type 0} (xs ys : List X) (x : X) → Among x xs → Among x (xs ++ ys)
among-left [] ys x a = absurd a
among-left {X} (z ∷ xs) ys x a = by a (λ b. among-left xs ys x b)
  where
    by : (x ≡ z) ⊎ Among x xs → (Among x xs → Among x (xs ++ ys)) → (x ≡ z) ⊎ Among x (xs ++ ys)
    by (inl e) r = inl e
    by (inr b) r = inr (r b)

pub among-right : {X : Type 0} (xs ys : List X) (x : X) → Among x ys → Among x (xs ++ ys)
among-right [] ys x a = a
among-right (z ∷ xs) ys x a = inr (among-right xs ys x a)

pub among-append : {X : Type 0} (xs ys : List X) (x : X) → Among x (xs ++ ys) → Among x xs ⊎ Among x ys
among-append [] ys x a = inr a
among-append {X} (z ∷ xs) ys x a = by a (λ b. among-append xs ys x b)
  where
    by : (x ≡ z) ⊎ Among x (xs ++ ys) → (Among x (xs ++ ys) → Among x xs ⊎ Among x ys) → Among x (z ∷ xs) ⊎ Among x ys
    by (inl e) r = inl (inl e)
    by (inr b) r = or (r b)
      where
        or : Among x xs ⊎ Among x ys → Among x (z ∷ xs) ⊎ Among x ys
        or (inl c) = inl (inr c)
        or (inr c) = inr c

pub among-map : {X Y : Type 0} (f : X → Y) (xs : List X) (x : X) → Among x xs → Among (f x) (map f xs)
among-map f [] x a = absurd a
among-map {X} {Y} f (z ∷ xs) x a = by a (λ b. among-map f xs x b)
  where
    by : (x ≡ z) ⊎ Among x xs → (Among x xs → Among (f x) (map f xs)) → (f x ≡ f z) ⊎ Among (f x) (map f xs)
    by (inl e) r = inl (ap f e)
    by (inr b) r = inr (r b)

pub among-filter : {X : Type 0} (p : X → Bool) (xs : List X) (x : X) → Among x xs → p x ≡ true → Among x (filter p xs)
among-filter p [] x a h = absurd a
among-filter {X} p (z ∷ xs) x a h = by (p z) refl a (λ b. among-filter p xs x b h)
  where
    by : (t : Bool) → p z ≡ t → (x ≡ z) ⊎ Among x xs → (Among x xs → Among x (filter p xs)) → Among x (cond t (z ∷ filter p xs) (filter p xs))
    by true e (inl s) r = inl s
    by true e (inr b) r = inr (r b)
    by false e (inl s) r = absurd (true≢false (sym h ∙ ap p s ∙ e))
    by false e (inr b) r = r b

pub filter-among : {X : Type 0} (p : X → Bool) (xs : List X) (x : X) → Among x (filter p xs) → Among x xs × (p x ≡ true)
filter-among p [] x a = absurd a
filter-among {X} p (z ∷ xs) x a = by (p z) refl a (λ b. filter-among p xs x b)
  where
    on : Among x xs × (p x ≡ true) → Among x (z ∷ xs) × (p x ≡ true)
    on b = (inr b.0, b.1)

    by : (t : Bool) → p z ≡ t → Among x (cond t (z ∷ filter p xs) (filter p xs)) → (Among x (filter p xs) → Among x xs × (p x ≡ true)) → Among x (z ∷ xs) × (p x ≡ true)
    by true e (inl s) r = (inl s, ap p s ∙ e)
    by true e (inr b) r = on (r b)
    by false e b r = on (r b)

-- numbers in a row
pub among-row : (a n x : ℕ) → a ≤ x → x < a + n → Among x (range_with_len a n)
among-row a zero x l h = let no : ⊥ = omega (arith, l, h) in absurd no
among-row a (suc n) x l h = by (nat_eq x a) refl (λ m. among-row (a + 1) n x m (omega (arith, h)))
  where
    by : (t : Bool) → nat_eq x a ≡ t → (a + 1 ≤ x → Among x (range_with_len (a + 1) n)) → (x ≡ a) ⊎ Among x (range_with_len (a + 1) n)
    by true e r = inl (eqb-true x a e)
    by false e r = inr (r (let d = eqb-false x a e in more d))
      where
        more : (x ≡ a → ⊥) → a + 1 ≤ x
        more d = apart (cases_lt a x)
          where
            apart : (a < x) ⊎ (x ≤ a) → a + 1 ≤ x
            apart (inl m) = omega (arith, m)
            apart (inr m) = absurd (d (omega (arith, l, m)))

pub row-among : (a n x : ℕ) → Among x (range_with_len a n) → (a ≤ x) × (x < a + n)
row-among a zero x m = absurd m
row-among a (suc n) x m = by m (λ b. row-among (a + 1) n x b)
  where
    by : (x ≡ a) ⊎ Among x (range_with_len (a + 1) n) → (Among x (range_with_len (a + 1) n) → (a + 1 ≤ x) × (x < a + 1 + n)) → (a ≤ x) × (x < a + suc n)
    by (inl e) r = (omega (arith, e), omega (arith, e))
    by (inr b) r = let s = r b in let low = s.0 in let high = s.1 in (omega (arith, low), omega (arith, high))

-- ---- notes of a name

pub seq-append : (name : ℕ) (notes others : List Note) → next_place_of name (notes ++ others) ≡ next_place_of name notes + next_place_of name others
seq-append name notes others =
    ap length (filter-append (λ (note : Note). nat_eq note.name name) notes others)
    ∙ length-append (filter (λ (note : Note). nat_eq note.name name) notes) (filter (λ (note : Note). nat_eq note.name name) others)

pub seq-among : (notes : List Note) (note : Note) → Among note notes → 1 ≤ next_place_of note.name notes
seq-among notes note a =
    some (filter (λ (other : Note). nat_eq other.name note.name) notes) (among-filter (λ (other : Note). nat_eq other.name note.name) notes note a (eq-eqb note.name note.name refl))
  where
    some : (found : List Note) → Among note found → 1 ≤ length found
    some [] b = absurd b
    some (other ∷ found) b = omega arith

-- where no note has a name there is none of it
pub seq-none : (name : ℕ) (notes : List Note) → ((note : Note) → Among note notes → note.name ≡ name → ⊥) → next_place_of name notes ≡ 0
seq-none name [] h = refl
seq-none name (note ∷ notes) h = by (nat_eq note.name name) refl (seq-none name notes (λ n a e. h n (inr a) e))
  where
    by : (t : Bool) → nat_eq note.name name ≡ t → next_place_of name notes ≡ 0
        → length (cond t (note ∷ filter (λ (other : Note). nat_eq other.name name) notes) (filter (λ (other : Note). nat_eq other.name name) notes)) ≡ 0
    by true e r = absurd (h note (inl refl) (eqb-true note.name name e))
    by false e r = r
