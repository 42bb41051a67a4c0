-- Items put into a list in ascending order of keys: what two tests leave of a list that rises, put together, is what
-- either leaves.
use Rattle.std.proofs.Common.{◌≡◌, ℕ, ◌<◌, List, [], ◌∷◌, Bool, true, false, cond, ◌||◌, ◌&&◌, refl, ap, sym, subst, ◌∙◌, arith, Option, Some, None}
use Rattle.std.proofs.lemmas.Bool.{lt-ltb, le-ltb}
use Rattle.std.specs.List.{AllByRecursion, filter, filter_map, cons_option}
use Rattle.cds_load.specs.Stages.{put_by, puts_by}

-- keys rise strictly along a list
abbrev pub Rises : {X : Type 0} → (X → ℕ) → List X → Type 0
Rises key [] = Unit {0}
Rises key (x ∷ xs) = AllByRecursion (λ y. key x < key y) xs × Rises key xs

-- an item below all others goes first
pub put_by-first : {X : Type 0} (key : X → ℕ) (x : X) (ys : List X) → AllByRecursion (λ y. key x < key y) ys → put_by key x ys ≡ x ∷ ys
put_by-first key x [] below = refl
put_by-first key x (y ∷ ys) below = ap (λ b. cond b (x ∷ y ∷ ys) (y ∷ put_by key x ys)) (lt-ltb (key x) (key y) below.0)

-- items above the first go behind it
pub put_by-past : {X : Type 0} (key : X → ℕ) (x y : X) (ys : List X) → key y < key x → put_by key x (y ∷ ys) ≡ y ∷ put_by key x ys
put_by-past key x y ys above =
    ap (λ b. cond b (x ∷ y ∷ ys) (y ∷ put_by key x ys)) (le-ltb (key x) (key y) (omega arith))

pub puts_by-past : {X : Type 0} (key : X → ℕ) (xs : List X) (y : X) (ys : List X) → AllByRecursion (λ x. key y < key x) xs →
    puts_by key xs (y ∷ ys) ≡ y ∷ puts_by key xs ys
puts_by-past key [] y ys above = refl
puts_by-past key (x ∷ xs) y ys above =
    ap (puts_by key xs) (put_by-past key x y ys above.0) ∙ puts_by-past key xs y (put_by key x ys) above.1

-- what holds of each holds of those that pass a test
pub filter-all : {X : Type 0} (P : X → Type 0) (test : X → Bool) (xs : List X) → AllByRecursion P xs → AllByRecursion P (filter test xs)
filter-all P test [] all = tt
filter-all P test (x ∷ xs) all = by (test x) (filter-all P test xs all.1)
  where
    by : (b : Bool) → AllByRecursion P (filter test xs) → AllByRecursion P (cond b (x ∷ filter test xs) (filter test xs))
    by true rest = (all.0, rest)
    by false rest = rest

-- no item passes both tests
abbrev pub Apart : {X : Type 0} → (X → Bool) → (X → Bool) → List X → Type 0
Apart p q = AllByRecursion (λ x. (p x && q x) ≡ false)

-- what is made of an item has the item's key
abbrev pub KeepsKey : {X Y : Type 0} → (X → Option Y) → (X → ℕ) → (Y → ℕ) → Type 0
KeepsKey {X} {Y} h key made_key = (x : X) (y : Y) → h x ≡ Some y → made_key y ≡ key x

-- what is made of items above a key is above it
pub made-above : {X Y : Type 0} (h : X → Option Y) (key : X → ℕ) (made_key : Y → ℕ) → KeepsKey h key made_key →
    (n : ℕ) (xs : List X) → AllByRecursion (λ x. n < key x) xs → AllByRecursion (λ y. n < made_key y) (filter_map h xs)
made-above h key made_key keeps n [] above = tt
made-above h key made_key keeps n (x ∷ xs) above = by (h x) refl (made-above h key made_key keeps n xs above.1)
  where
    by : (o : Option _) → h x ≡ o → AllByRecursion (λ y. n < made_key y) (filter_map h xs) →
        AllByRecursion (λ y. n < made_key y) (cons_option o (filter_map h xs))
    by None e rest = rest
    by (Some y) e rest = (subst (λ k. n < k) (sym (keeps x y e)) above.0, rest)

module _ {Y : Type 0} (made_key : Y → ℕ) where
  -- one item, if it is there, before others that are put among those that follow it
  cons-past : (o : Option Y) (xs ys rest : List Y) → ((y : Y) → o ≡ Some y → AllByRecursion (λ x. made_key y < made_key x) xs) →
      puts_by made_key xs ys ≡ rest → puts_by made_key xs (cons_option o ys) ≡ cons_option o rest
  cons-past None xs ys rest above e = e
  cons-past (Some y) xs ys rest above e = puts_by-past made_key xs y ys (above y refl) ∙ ap (λ zs. y ∷ zs) e

  -- one item, if it is there, and others put among those that follow it
  cons-first : (o : Option Y) (xs ys rest : List Y) → ((y : Y) → o ≡ Some y → AllByRecursion (λ x. made_key y < made_key x) xs) →
      ((y : Y) → o ≡ Some y → AllByRecursion (λ x. made_key y < made_key x) ys) →
      puts_by made_key xs ys ≡ rest → puts_by made_key (cons_option o xs) ys ≡ cons_option o rest
  cons-first None xs ys rest above below e = e
  cons-first (Some y) xs ys rest above below e =
      ap (puts_by made_key xs) (put_by-first made_key y ys (below y refl)) ∙ puts_by-past made_key xs y ys (above y refl) ∙ ap (λ zs. y ∷ zs) e

pub merged : {X Y : Type 0} (h : X → Option Y) (key : X → ℕ) (made_key : Y → ℕ) → KeepsKey h key made_key →
    (p q : X → Bool) (xs : List X) → Rises key xs → Apart p q xs →
    puts_by made_key (filter_map h (filter q xs)) (filter_map h (filter p xs)) ≡ filter_map h (filter (λ x. p x || q x) xs)
merged h key made_key keeps p q [] rises apart = refl
merged h key made_key keeps p q (x ∷ xs) rises apart =
    by (p x) (q x) apart.0 (above q) (above p) (merged h key made_key keeps p q xs rises.1 apart.1)
  where
    above : (test : _ → Bool) (y : _) → h x ≡ Some y → AllByRecursion (λ z. made_key y < made_key z) (filter_map h (filter test xs))
    above test y e =
        subst (λ k. AllByRecursion (λ z. k < made_key z) (filter_map h (filter test xs))) (sym (keeps x y e))
        (made-above h key made_key keeps (key x) (filter test xs) (filter-all _ test xs rises.0))

    by : (b c : Bool) → (b && c) ≡ false →
        ((y : _) → h x ≡ Some y → AllByRecursion (λ z. made_key y < made_key z) (filter_map h (filter q xs))) →
        ((y : _) → h x ≡ Some y → AllByRecursion (λ z. made_key y < made_key z) (filter_map h (filter p xs))) →
        puts_by made_key (filter_map h (filter q xs)) (filter_map h (filter p xs)) ≡ filter_map h (filter (λ y. p y || q y) xs) →
        puts_by made_key (filter_map h (cond c (x ∷ filter q xs) (filter q xs))) (filter_map h (cond b (x ∷ filter p xs) (filter p xs)))
        ≡ filter_map h (cond (b || c) (x ∷ filter (λ y. p y || q y) xs) (filter (λ y. p y || q y) xs))
    by true true both fq fp rest = absurd (cc)
    by true false both fq fp rest = cons-past made_key (h x) _ _ _ fq rest
    by false true both fq fp rest = cons-first made_key (h x) _ _ _ fq fp rest
    by false false both fq fp rest = rest
