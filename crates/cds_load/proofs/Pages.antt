-- A page of a tree's children fits the listing that asks for it.
use Rattle.std.proofs.Common.{◌≡◌, ℕ, zero, suc, ◌+◌, ◌<◌, ◌≤◌, nat_eq, List, [], ◌∷◌, ◌++◌, length, take, drop, map, Bool, true, false, cond, not, ◌&&◌, refl, ap, sym, ◌∙◌, arith}
use Rattle.std.proofs.lemmas.Bool.{ne_eqb, or_from, and_from}
use Rattle.std.specs.List.{AllByRecursion, filter, list_all, list_any}
use Rattle.cds_object.specs.Object.{ObjectRow}
use Rattle.cds_load.specs.Stages.{all_new}
use Rattle.cds_load.proofs.Merge.{Rises, filter-all}
use Rattle.cds_load.proofs.Trees.{id_of, all-map, all-map_two}

-- what holds of each holds of each of a front, and of each of what follows it
pub take-all : {X : Type 0} (P : X → Type 0) (n : ℕ) (xs : List X) → AllByRecursion P xs → AllByRecursion P (take n xs)
take-all P zero xs all = tt
take-all P (suc n) [] all = tt
take-all P (suc n) (x ∷ xs) all = (all.0, take-all P n xs all.1)

pub drop-all : {X : Type 0} (P : X → Type 0) (n : ℕ) (xs : List X) → AllByRecursion P xs → AllByRecursion P (drop n xs)
drop-all P zero xs all = all
drop-all P (suc n) [] all = tt
drop-all P (suc n) (x ∷ xs) all = drop-all P n xs all.1

pub take-rises : {X : Type 0} (key : X → ℕ) (n : ℕ) (xs : List X) → Rises key xs → Rises key (take n xs)
take-rises key zero xs rises = tt
take-rises key (suc n) [] rises = tt
take-rises key (suc n) (x ∷ xs) rises = (take-all _ n xs rises.0, take-rises key n xs rises.1)

pub drop-rises : {X : Type 0} (key : X → ℕ) (n : ℕ) (xs : List X) → Rises key xs → Rises key (drop n xs)
drop-rises key zero xs rises = rises
drop-rises key (suc n) [] rises = tt
drop-rises key (suc n) (x ∷ xs) rises = drop-rises key n xs rises.1

pub filter-rises : {X : Type 0} (key : X → ℕ) (test : X → Bool) (xs : List X) → Rises key xs → Rises key (filter test xs)
filter-rises key test [] rises = tt
filter-rises key test (x ∷ xs) rises = by (test x) (filter-rises key test xs rises.1)
  where
    by : (b : Bool) → Rises key (filter test xs) → Rises key (cond b (x ∷ filter test xs) (filter test xs))
    by true rest = (filter-all _ test xs rises.0, rest)
    by false rest = rest

-- a front of a list that rises is below what follows it
pub front-below : {X : Type 0} (key : X → ℕ) (n : ℕ) (xs : List X) → Rises key xs →
    AllByRecursion (λ x. AllByRecursion (λ y. key x < key y) (drop n xs)) (take n xs)
front-below key zero xs rises = tt
front-below key (suc n) [] rises = tt
front-below key (suc n) (x ∷ xs) rises = (drop-all _ n xs rises.0, front-below key n xs rises.1)

pub passes-all : {X : Type 0} (test : X → Bool) (xs : List X) → AllByRecursion (λ x. test x ≡ true) (filter test xs)
passes-all test [] = tt
passes-all test (x ∷ xs) = by (test x) refl (passes-all test xs)
  where
    by : (b : Bool) → test x ≡ b → AllByRecursion (λ y. test y ≡ true) (filter test xs) → AllByRecursion (λ y. test y ≡ true) (cond b (x ∷ filter test xs) (filter test xs))
    by true e rest = (e, rest)
    by false e rest = rest

pub all-list_all : {X : Type 0} (test : X → Bool) (xs : List X) → AllByRecursion (λ x. test x ≡ true) xs → list_all test xs ≡ true
all-list_all test [] all = refl
all-list_all test (x ∷ xs) all = and_from _ _ all.0 (all-list_all test xs all.1)

-- ids that are all others than one
pub others-not_any : (id : ℕ) (ids : List ℕ) → AllByRecursion (λ other. id ≡ other → ⊥) ids → list_any (λ other. nat_eq id other) ids ≡ false
others-not_any id [] all = refl
others-not_any id (other ∷ ids) all = or_from _ _ (ne_eqb id other all.0) (others-not_any id ids all.1)

-- rows that rise, none of which has a known id, are new
pub rising-new : (ids : List ℕ) (rows : List ObjectRow) → Rises id_of rows →
    AllByRecursion (λ (row : ObjectRow). AllByRecursion (λ other. row.id ≡ other → ⊥) ids) rows → all_new ids rows ≡ true
rising-new ids [] rises others = refl
rising-new ids (row ∷ rows) rises others =
    and_from _ _ (ap not (others-not_any row.id ids others.0))
    (rising-new (row.id ∷ ids) rows rises.1
    (all-map_two (λ (r : ObjectRow) above apart. ((λ e. absurd (omega (arith, above, e))), apart)) rows rises.0 others.1))

-- what holds of the ids of rows, one list after another
pub ids-all : (P : ℕ → Type 0) (xs ys : List ObjectRow) → AllByRecursion (λ (row : ObjectRow). P row.id) xs → AllByRecursion (λ (row : ObjectRow). P row.id) ys →
    AllByRecursion P (map (λ (row : ObjectRow). row.id) (xs ++ ys))
ids-all P [] [] first second = tt
ids-all P [] (y ∷ ys) first second = (second.0, ids-all P [] ys first second.1)
ids-all P (x ∷ xs) ys first second = (first.0, ids-all P xs ys first.1 second)

-- rows of a list that rises of which one passes a test and the other does not have different ids
pub tests-part : (p q : ObjectRow → Bool) (rows : List ObjectRow) → Rises id_of rows → AllByRecursion (λ row. (p row && q row) ≡ false) rows →
    AllByRecursion (λ (a : ObjectRow). AllByRecursion (λ (b : ObjectRow). a.id ≡ b.id → ⊥) (filter p rows)) (filter q rows)
tests-part p q [] rises apart = tt
tests-part p q (row ∷ rows) rises apart = by (p row) (q row) apart.0 (tests-part p q rows rises.1 apart.1)
  where
    above : (test : ObjectRow → Bool) → AllByRecursion (λ (b : ObjectRow). row.id < b.id) (filter test rows)
    above test = filter-all _ test rows rises.0

    by : (b c : Bool) → (b && c) ≡ false →
        AllByRecursion (λ (x : ObjectRow). AllByRecursion (λ (y : ObjectRow). x.id ≡ y.id → ⊥) (filter p rows)) (filter q rows) →
        AllByRecursion (λ (x : ObjectRow). AllByRecursion (λ (y : ObjectRow). x.id ≡ y.id → ⊥) (cond b (row ∷ filter p rows) (filter p rows)))
        (cond c (row ∷ filter q rows) (filter q rows))
    by true true both rest = absurd (cc)
    by true false both rest = all-map_two (λ (x : ObjectRow) low others. ((λ e. absurd (omega (arith, low, e))), others)) (filter q rows) (above q) rest
    by false true both rest = (all-map {Q = λ (y : ObjectRow). row.id ≡ y.id → ⊥} (λ (y : ObjectRow) low e. absurd (omega (arith, low, e))) (filter p rows) (above p), rest)
    by false false both rest = rest

pub take-none : {X : Type 0} (n : ℕ) → take n (let none : List X = [] in none) ≡ []
take-none zero = refl
take-none (suc n) = refl

-- a page after a front of a list is a longer front
pub front-and-page : {X : Type 0} (k n : ℕ) (xs : List X) → take k xs ++ take n (drop k xs) ≡ take (k + n) xs
front-and-page zero n xs = ap (λ j. take j xs) (let e : n ≡ 0 + n = omega arith in e)
front-and-page (suc k) n [] = take-none n ∙ sym (take-none (suc k + n))
front-and-page (suc k) n (x ∷ xs) =
    ap (λ ys. x ∷ ys) (front-and-page k n xs) ∙ ap (λ j. take j (x ∷ xs)) (let e : suc (k + n) ≡ suc k + n = omega arith in e)

-- a front that is as long as the list is the list
pub front-whole : {X : Type 0} (n : ℕ) (xs : List X) → length xs ≤ n → take n xs ≡ xs
front-whole n [] long = take-none n
front-whole zero (x ∷ xs) long = absurd (omega (arith, long))
front-whole (suc n) (x ∷ xs) long = ap (λ ys. x ∷ ys) (front-whole n xs (omega (arith, long)))
