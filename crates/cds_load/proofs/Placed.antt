-- Items put by their keys among items that rise: what holds of their keys, what is made of them, and what they add up to.
use Rattle.std.proofs.Common.{◌≡◌, ℕ, suc, ◌+◌, ◌<◌, ◌≤◌, List, [], ◌∷◌, ◌++◌, length, map, Bool, true, false, cond, not, ◌&&◌, ◌||◌, nat_lt, nat_eq, refl, ap, sym, subst, ◌∙◌, arith, Option, Some, None}
use Rattle.std.specs.List.{AllByRecursion, filter_map, cons_option, list_any, sum_by, count_by}
use Rattle.std.proofs.lemmas.Bool.{and_parts, ltb-true, ltb-false, eqb-false}
use Rattle.std.proofs.lemmas.List.Sums.{sum_by-cons}
use Rattle.cds_object.specs.Object.{ObjectRow}
use Rattle.cds_load.specs.Stages.{put_by, puts_by, all_new}
use Rattle.cds_load.proofs.Merge.{Rises, KeepsKey, put_by-first, made-above}
use Rattle.cds_load.proofs.Trees.{id_of, all-map}

-- whether a number is among some
abbrev pub is_among : ℕ → List ℕ → Bool
is_among n ids = list_any (λ id. nat_eq n id) ids

-- of two tests neither of which passes, each does not
pub or-none : (a b : Bool) → (a || b) ≡ false → (a ≡ false) × (b ≡ false)
or-none true b e = absurd (cc)
or-none false b e = (refl, e)

or-swap : (a b c : Bool) → (a || (b || c)) ≡ (b || (a || c))
or-swap true true c = refl
or-swap true false c = refl
or-swap false true c = refl
or-swap false false c = refl

or-shift : (a b c : Bool) → (a || (b || c)) ≡ ((b || a) || c)
or-shift true true c = refl
or-shift true false c = refl
or-shift false true c = refl
or-shift false false c = refl

pub or-left : (a b : Bool) → a ≡ true → (a || b) ≡ true
or-left true b e = refl
or-left false b e = absurd (cc)

pub or-right : (a b : Bool) → b ≡ true → (a || b) ≡ true
or-right true b e = refl
or-right false b e = e

not-false : (b : Bool) → not b ≡ true → b ≡ false
not-false true e = absurd (cc)
not-false false e = refl

-- what is put in two parts
pub puts-append : {X : Type 0} (key : X → ℕ) (xs ys zs : List X) → puts_by key (xs ++ ys) zs ≡ puts_by key ys (puts_by key xs zs)
puts-append key [] ys zs = refl
puts-append key (x ∷ xs) ys zs = puts-append key xs ys (put_by key x zs)

-- what holds of all of an item and others
put-all : {X : Type 0} (P : X → Type 0) (key : X → ℕ) (x : X) (ys : List X) → P x → AllByRecursion P ys → AllByRecursion P (put_by key x ys)
put-all P key x [] this those = (this, tt)
put-all P key x (y ∷ ys) this those = by (nat_lt (key x) (key y)) (put-all P key x ys this those.1)
  where
    by : (b : Bool) → AllByRecursion P (put_by key x ys) → AllByRecursion P (cond b (x ∷ y ∷ ys) (y ∷ put_by key x ys))
    by true rest = (this, those)
    by false rest = (those.0, rest)

put-all_back : {X : Type 0} (P : X → Type 0) (key : X → ℕ) (x : X) (ys : List X) → AllByRecursion P (put_by key x ys) → AllByRecursion P ys
put-all_back P key x [] all = tt
put-all_back P key x (y ∷ ys) all = by (nat_lt (key x) (key y)) all (put-all_back P key x ys)
  where
    by : (b : Bool) → AllByRecursion P (cond b (x ∷ y ∷ ys) (y ∷ put_by key x ys)) → (AllByRecursion P (put_by key x ys) → AllByRecursion P ys) →
        AllByRecursion P (y ∷ ys)
    by true all rest = all.1
    by false all rest = (all.0, rest all.1)

-- whether a key passes a test
any-put : {X : Type 0} (key : X → ℕ) (q : ℕ → Bool) (x : X) (ys : List X) → list_any q (map key (put_by key x ys)) ≡ (q (key x) || list_any q (map key ys))
any-put key q x [] = refl
any-put key q x (y ∷ ys) = by (nat_lt (key x) (key y)) (any-put key q x ys)
  where
    by : (b : Bool) → list_any q (map key (put_by key x ys)) ≡ (q (key x) || list_any q (map key ys)) →
        list_any q (map key (cond b (x ∷ y ∷ ys) (y ∷ put_by key x ys))) ≡ (q (key x) || (q (key y) || list_any q (map key ys)))
    by true rest = refl
    by false rest = ap (λ b. q (key y) || b) rest ∙ or-swap (q (key y)) (q (key x)) (list_any q (map key ys))

pub any-puts : {X : Type 0} (key : X → ℕ) (q : ℕ → Bool) (xs ys : List X) →
    list_any q (map key (puts_by key xs ys)) ≡ (list_any q (map key xs) || list_any q (map key ys))
any-puts key q [] ys = refl
any-puts key q (x ∷ xs) ys =
    any-puts key q xs (put_by key x ys)
    ∙ ap (λ b. list_any q (map key xs) || b) (any-put key q x ys)
    ∙ or-shift (list_any q (map key xs)) (q (key x)) (list_any q (map key ys))

-- whether rows are new is a matter of which ids are known
pub new-same : (known other : List ℕ) (rows : List ObjectRow) → ((n : ℕ) → is_among n known ≡ is_among n other) → all_new known rows ≡ all_new other rows
new-same known other [] same = refl
new-same known other (row ∷ rows) same =
    λ i. not (same row.id i) && new-same (row.id ∷ known) (row.id ∷ other) rows (λ n. ap (λ b. nat_eq n row.id || b) (same n)) i

-- none of new rows has a known id
pub new-each : (known : List ℕ) (rows : List ObjectRow) → all_new known rows ≡ true → AllByRecursion (λ (row : ObjectRow). is_among row.id known ≡ false) rows
new-each known [] new = tt
new-each known (row ∷ rows) new = (
  not-false _ (and_parts _ _ new).0,
  all-map (λ (other : ObjectRow) none. (or-none (nat_eq other.id row.id) (is_among other.id known) none).1) rows
      (new-each (row.id ∷ known) rows (and_parts _ _ new).1),
)

-- a new item among items that rise
put-rises : {X : Type 0} (key : X → ℕ) (x : X) (ys : List X) → Rises key ys → is_among (key x) (map key ys) ≡ false → Rises key (put_by key x ys)
put-rises key x [] rises new = (tt, tt)
put-rises key x (y ∷ ys) rises new = by (nat_lt (key x) (key y)) refl (put-rises key x ys rises.1 apart.1)
  where
    apart : (nat_eq (key x) (key y) ≡ false) × (is_among (key x) (map key ys) ≡ false)
    apart = or-none (nat_eq (key x) (key y)) (is_among (key x) (map key ys)) new

    by : (b : Bool) → nat_lt (key x) (key y) ≡ b → Rises key (put_by key x ys) → Rises key (cond b (x ∷ y ∷ ys) (y ∷ put_by key x ys))
    by true e rest =
        let low : key x < key y = ltb-true (key x) (key y) e in
        ((low, all-map (λ z above. omega (arith, above, low)) ys rises.0), rises)
    by false e rest =
        let high : key y ≤ key x = ltb-false (key x) (key y) e in
        let other = eqb-false (key x) (key y) apart.0 in
        (put-all (λ z. key y < key z) key x ys (omega (arith, high, other)) rises.0, rest)

pub puts-rises : (known : List ℕ) (rows others : List ObjectRow) → Rises id_of others → all_new known rows ≡ true →
    ((n : ℕ) → is_among n known ≡ false → is_among n (map id_of others) ≡ false) → Rises id_of (puts_by id_of rows others)
puts-rises known [] others rises new within = rises
puts-rises known (row ∷ rows) others rises new within =
    puts-rises (row.id ∷ known) rows (put_by id_of row others)
    (put-rises id_of row others rises (within row.id (not-false _ (and_parts _ _ new).0)))
    (and_parts _ _ new).1
    (λ n none. any-put id_of (λ id. nat_eq n id) row others
    ∙ (let parts = or-none (nat_eq n row.id) (is_among n known) none in λ i. parts.0 i || within n parts.1 i))

put-rises_back : {X : Type 0} (key : X → ℕ) (x : X) (ys : List X) → Rises key (put_by key x ys) → Rises key ys
put-rises_back key x [] rises = tt
put-rises_back key x (y ∷ ys) rises = by (nat_lt (key x) (key y)) rises (put-rises_back key x ys)
  where
    by : (b : Bool) → Rises key (cond b (x ∷ y ∷ ys) (y ∷ put_by key x ys)) → (Rises key (put_by key x ys) → Rises key ys) → Rises key (y ∷ ys)
    by true rises rest = rises.1
    by false rises rest = (put-all_back (λ z. key y < key z) key x ys rises.0, rest rises.1)

puts-rises_back : {X : Type 0} (key : X → ℕ) (xs ys : List X) → Rises key (puts_by key xs ys) → Rises key ys
puts-rises_back key [] ys rises = rises
puts-rises_back key (x ∷ xs) ys rises = put-rises_back key x ys (puts-rises_back key xs (put_by key x ys) rises)

-- an item, if it is one, put among others
abbrev put_option : {Y : Type 0} → (Y → ℕ) → Option Y → List Y → List Y
put_option key None ys = ys
put_option key (Some y) ys = put_by key y ys

module _ {X Y : Type 0} (h : X → Option Y) (key : X → ℕ) (made_key : Y → ℕ) (keeps : KeepsKey h key made_key) where
  -- what is made of an item put among items that rise is put among what is made of these
  make-put : (x : X) (ys : List X) → Rises key ys → filter_map h (put_by key x ys) ≡ put_option made_key (h x) (filter_map h ys)
  make-put x [] rises = by (h x)
    where
      by : (o : Option Y) → cons_option o [] ≡ put_option made_key o []
      by None = refl
      by (Some v) = refl
  make-put x (y ∷ ys) rises = by (nat_lt (key x) (key y)) refl (make-put x ys rises.1)
    where
      zs : List Y
      zs = filter_map h ys

      first : key x < key y → (o : Option Y) → h x ≡ o → cons_option o (filter_map h (y ∷ ys)) ≡ put_option made_key o (filter_map h (y ∷ ys))
      first low None e = refl
      first low (Some v) e =
          sym (put_by-first made_key v (filter_map h (y ∷ ys))
          (subst (λ n. AllByRecursion (λ z. n < made_key z) (filter_map h (y ∷ ys))) (sym (keeps x v e))
          (made-above h key made_key keeps (key x) (y ∷ ys) (low, all-map (λ z above. omega (arith, above, low)) ys rises.0))))

      past : nat_lt (key x) (key y) ≡ false → (p : Option Y) → h y ≡ p → (o : Option Y) → h x ≡ o →
          cons_option p (put_option made_key o zs) ≡ put_option made_key o (cons_option p zs)
      past high None ey o ex = refl
      past high (Some w) ey None ex = refl
      past high (Some w) ey (Some v) ex =
          sym (ap (λ b. cond b (v ∷ w ∷ zs) (w ∷ put_by made_key v zs)) ((λ i. nat_lt (keeps x v ex i) (keeps y w ey i)) ∙ high))

      by : (b : Bool) → nat_lt (key x) (key y) ≡ b → filter_map h (put_by key x ys) ≡ put_option made_key (h x) zs →
          filter_map h (cond b (x ∷ y ∷ ys) (y ∷ put_by key x ys)) ≡ put_option made_key (h x) (cons_option (h y) zs)
      by true e rest = first (ltb-true (key x) (key y) e) (h x) refl
      by false e rest = ap (cons_option (h y)) rest ∙ past e (h y) refl (h x) refl

  pub make-puts : (xs ys : List X) → Rises key (puts_by key xs ys) → filter_map h (puts_by key xs ys) ≡ puts_by made_key (filter_map h xs) (filter_map h ys)
  make-puts [] ys rises = refl
  make-puts (x ∷ xs) ys rises =
      make-puts xs (put_by key x ys) rises
      ∙ ap (puts_by made_key (filter_map h xs)) (make-put x ys (put-rises_back key x ys (puts-rises_back key xs (put_by key x ys) rises)))
      ∙ join (h x)
    where
      join : (o : Option Y) → puts_by made_key (filter_map h xs) (put_option made_key o (filter_map h ys)) ≡ puts_by made_key (cons_option o (filter_map h xs)) (filter_map h ys)
      join None = refl
      join (Some v) = refl

-- two functions that make the same of each item
pub filter_map-equal : {X Y : Type 0} (h g : X → Option Y) (xs : List X) → AllByRecursion (λ x. h x ≡ g x) xs → filter_map h xs ≡ filter_map g xs
filter_map-equal h g [] same = refl
filter_map-equal h g (x ∷ xs) same = λ i. cons_option (same.0 i) (filter_map-equal h g xs same.1 i)

-- what items add up to, wherever they are put
sum-put : {X : Type 0} (f : X → ℕ) (key : X → ℕ) (x : X) (ys : List X) → sum_by f (put_by key x ys) ≡ f x + sum_by f ys
sum-put f key x [] = sum_by-cons f x []
sum-put f key x (y ∷ ys) = by (nat_lt (key x) (key y)) (sum-put f key x ys)
  where
    by : (b : Bool) → sum_by f (put_by key x ys) ≡ f x + sum_by f ys → sum_by f (cond b (x ∷ y ∷ ys) (y ∷ put_by key x ys)) ≡ f x + sum_by f (y ∷ ys)
    by true rest = sum_by-cons f x (y ∷ ys)
    by false rest =
        let one : sum_by f (y ∷ put_by key x ys) ≡ f y + sum_by f (put_by key x ys) = sum_by-cons f y (put_by key x ys) in
        let two : sum_by f (y ∷ ys) ≡ f y + sum_by f ys = sum_by-cons f y ys in
        omega (arith, one, two, rest)

pub sum-puts : {X : Type 0} (f : X → ℕ) (key : X → ℕ) (xs ys : List X) → sum_by f (puts_by key xs ys) ≡ sum_by f xs + sum_by f ys
sum-puts f key [] ys = omega arith
sum-puts f key (x ∷ xs) ys =
    let rest : sum_by f (puts_by key xs (put_by key x ys)) ≡ sum_by f xs + sum_by f (put_by key x ys) = sum-puts f key xs (put_by key x ys) in
    let one : sum_by f (put_by key x ys) ≡ f x + sum_by f ys = sum-put f key x ys in
    let all : sum_by f (x ∷ xs) ≡ f x + sum_by f xs = sum_by-cons f x xs in
    omega (arith, rest, one, all)

-- how many of items pass a test that none passes, or all
pub count-none : {X : Type 0} (p : X → Bool) (xs : List X) → AllByRecursion (λ x. p x ≡ false) xs → count_by p xs ≡ 0
count-none p [] none = refl
count-none p (x ∷ xs) none =
    sum_by-cons (λ y. cond (p y) 1 0) x xs ∙ (λ i. cond (none.0 i) 1 0 + count-none p xs none.1 i)

pub count-all : {X : Type 0} (p : X → Bool) (xs : List X) → AllByRecursion (λ x. p x ≡ true) xs → count_by p xs ≡ length xs
count-all p [] all = refl
count-all p (x ∷ xs) all =
    sum_by-cons (λ y. cond (p y) 1 0) x xs ∙ (λ i. cond (all.0 i) 1 0 + count-all p xs all.1 i) ∙ (let e : 1 + length xs ≡ suc (length xs) = omega arith in e)
