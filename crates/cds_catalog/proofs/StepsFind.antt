-- Looking up in entries with places that differ.
use Rattle.std.proofs.Common.{◌≡◌, ◌+◌, ◌<◌, ℕ, Bool, true, false, cond, not, filter, map, List, [], ◌∷◌, ◌++◌, Option, Some, None, refl, sym, ◌∙◌, ap, subst, arith, true≢false}
use Rattle.std.specs.List.{AllByRecursion, count_by}
use Rattle.std.proofs.lemmas.List.Sums.{sum_by-cons}
use Rattle.std.proofs.lemmas.Bool.{false_from_ne_true}
use Rattle.cds_object.specs.Path.{same_path}
use Rattle.cds_object.specs.declared.content.Content.{Content}
use Rattle.cds_catalog.specs.Library.{FolderMap}
use Rattle.cds_catalog.proofs.Paths.{same_path_is, same_path_itself}
pub use Rattle.cds_catalog.proofs.Maps.{Entry}
use Rattle.cds_catalog.proofs.StepsPaths.{Place}

-- what stands at a place
abbrev pub find_in : FolderMap → Place → Option Content
find_in [] p = None
find_in (e ∷ es) p = cond (same_path p e.0) (Some e.1) (find_in es p)

-- no place stands twice
abbrev pub Apart : FolderMap → Type 0
Apart [] = Unit {0}
Apart (e ∷ es) = AllByRecursion (λ o. same_path e.0 o.0 ≡ false) es × Apart es

-- a number of places rises strictly
abbrev pub Rising : (Place → ℕ) → FolderMap → Type 0
Rising f [] = Unit {0}
Rising f (e ∷ es) = AllByRecursion (λ o. f e.0 < f o.0) es × Rising f es

abbrev pub removed : Place → FolderMap → FolderMap
removed p es = filter (λ e. not (same_path p e.0)) es

-- ---- what holds of each

pub each-weaker : {X : Type 0} (P Q : X → Type 0) → ((x : X) → P x → Q x) → (xs : List X) → AllByRecursion P xs → AllByRecursion Q xs
each-weaker P Q f [] h = tt
each-weaker P Q f (x ∷ xs) h = (f x h.0, each-weaker P Q f xs h.1)

pub each-all : {X : Type 0} (P : X → Type 0) → ((x : X) → P x) → (xs : List X) → AllByRecursion P xs
each-all P f [] = tt
each-all P f (x ∷ xs) = (f x, each-all P f xs)

pub each-append : {X : Type 0} (P : X → Type 0) (xs ys : List X) → AllByRecursion P xs → AllByRecursion P ys → AllByRecursion P (xs ++ ys)
each-append P [] ys h k = k
each-append P (x ∷ xs) ys h k = (h.0, each-append P xs ys h.1 k)

pub each-filter : {X : Type 0} (P : X → Type 0) (test : X → Bool) (xs : List X) → AllByRecursion P xs → AllByRecursion P (filter test xs)
each-filter P test [] h = tt
each-filter {X} P test (x ∷ xs) h = by (test x) (each-filter P test xs h.1)
  where
    by : (b : Bool) → AllByRecursion P (filter test xs) → AllByRecursion P (cond b (x ∷ filter test xs) (filter test xs))
    by true k = (h.0, k)
    by false k = k

pub each-map : {X Y : Type 0} (P : Y → Type 0) (f : X → Y) (xs : List X) → AllByRecursion (λ x. P (f x)) xs → AllByRecursion P (map f xs)
each-map P f [] h = tt
each-map P f (x ∷ xs) h = (h.0, each-map P f xs h.1)

pub each-both : {X : Type 0} (P Q : X → Type 0) (xs : List X) → AllByRecursion P xs → AllByRecursion Q xs → AllByRecursion (λ x. P x × Q x) xs
each-both P Q [] h k = tt
each-both P Q (x ∷ xs) h k = ((h.0, k.0), each-both P Q xs h.1 k.1)

-- maps by two functions that agree on each
pub map-agree : {X Y : Type 0} (f g : X → Y) (xs : List X) → AllByRecursion (λ x. f x ≡ g x) xs → map f xs ≡ map g xs
map-agree f g [] h = refl
map-agree f g (x ∷ xs) h = λ i. h.0 i ∷ map-agree f g xs h.1 i

-- ---- looking up

pub none≢some : {X : Type 0} {Y : Type 0} (o : Option X) (x : X) → o ≡ None → o ≡ Some x → Y
none≢some o x e k = cc

pub away_from_none : (es : FolderMap) (p : Place) → find_in es p ≡ None → AllByRecursion (λ o. same_path p o.0 ≡ false) es
away_from_none [] p h = tt
away_from_none (e ∷ es) p h = by (same_path p e.0) refl h (away_from_none es p)
  where
    by : (b : Bool) → same_path p e.0 ≡ b → cond b (Some e.1) (find_in es p) ≡ None
        → (find_in es p ≡ None → AllByRecursion (λ o. same_path p o.0 ≡ false) es) → AllByRecursion (λ o. same_path p o.0 ≡ false) (e ∷ es)
    by true q k r = none≢some (Some e.1) e.1 k refl
    by false q k r = (q, r k)

pub none_from_away : (es : FolderMap) (p : Place) → AllByRecursion (λ o. same_path p o.0 ≡ false) es → find_in es p ≡ None
none_from_away [] p h = refl
none_from_away (e ∷ es) p h = (λ i. cond (h.0 i) (Some e.1) (find_in es p)) ∙ none_from_away es p h.1

-- what holds of each entry holds of what was found
pub found_holds : (P : Entry → Type 0) (es : FolderMap) (p : Place) (c : Content) → AllByRecursion P es → find_in es p ≡ Some c → P (p, c)
found_holds P [] p c h f = none≢some None c refl f
found_holds P (e ∷ es) p c h f = by (same_path p e.0) refl f (found_holds P es p c h.1)
  where
    by : (b : Bool) → same_path p e.0 ≡ b → cond b (Some e.1) (find_in es p) ≡ Some c → (find_in es p ≡ Some c → P (p, c)) → P (p, c)
    by true q k r =
        let a : e.0 ≡ p = sym (same_path_is p e.0 q) in
        let d : e.1 ≡ c = cc in
        subst P (λ i. (a i, d i)) h.0
    by false q k r = r k

-- what holds of all that is found holds of each entry
pub each_from_found : (P : Entry → Type 0) (es : FolderMap) → Apart es → ((p : Place) (c : Content) → find_in es p ≡ Some c → P (p, c)) → AllByRecursion P es
each_from_found P [] a h = tt
each_from_found P (e ∷ es) a h = (h e.0 e.1 (λ i. cond (same_path_itself e.0 i) (Some e.1) (find_in es e.0)), each_from_found P es a.1 rest)
  where
    rest : (p : Place) (c : Content) → find_in es p ≡ Some c → P (p, c)
    rest p c f = by (same_path p e.0) refl
      where
        by : (b : Bool) → same_path p e.0 ≡ b → P (p, c)
        by true q =
            let n : find_in es e.0 ≡ None = none_from_away es e.0 a.0 in
            none≢some (find_in es p) c (ap (find_in es) (same_path_is p e.0 q) ∙ n) f
        by false q = h p c ((λ i. cond (q i) (Some e.1) (find_in es p)) ∙ f)

pub Apart_from_Rising : (f : Place → ℕ) (es : FolderMap) → Rising f es → Apart es
Apart_from_Rising f [] h = tt
Apart_from_Rising f (e ∷ es) h = (each-weaker (λ o. f e.0 < f o.0) (λ o. same_path e.0 o.0 ≡ false) differs es h.0, Apart_from_Rising f es h.1)
  where
    differs : (o : Entry) → f e.0 < f o.0 → same_path e.0 o.0 ≡ false
    differs o l = false_from_ne_true _ (λ s. let q : f e.0 ≡ f o.0 = ap f (same_path_is e.0 o.0 s) in absurd (omega arith))

-- ---- without a place

pub find_removed : (es : FolderMap) (p q : Place) → find_in (removed p es) q ≡ cond (same_path q p) None (find_in es q)
find_removed [] p q = by (same_path q p)
  where
    by : (b : Bool) → find_in [] q ≡ cond b None (find_in [] q)
    by true = refl
    by false = refl
find_removed (e ∷ es) p q = by (same_path p e.0) (same_path q p) (same_path q e.0) refl refl refl (find_removed es p q)
  where
    by : (b c d : Bool) → same_path p e.0 ≡ b → same_path q p ≡ c → same_path q e.0 ≡ d → find_in (removed p es) q ≡ cond (same_path q p) None (find_in es q)
        → find_in (cond (not b) (e ∷ removed p es) (removed p es)) q ≡ cond c None (cond d (Some e.1) (find_in es q))
    by true true d x y z r = r ∙ (λ i. cond (y i) None (find_in es q))
    by true false true x y z r = absurd (true≢false (sym z ∙ sym (ap (same_path q) (same_path_is p e.0 x)) ∙ y))
    by true false false x y z r = r ∙ (λ i. cond (y i) None (find_in es q))
    by false true true x y z r = absurd (true≢false (sym z ∙ (λ i. same_path (same_path_is q p y i) e.0) ∙ x))
    by false false true x y z r = λ i. cond (z i) (Some e.1) (find_in (removed p es) q)
    by false true false x y z r = (λ i. cond (z i) (Some e.1) (find_in (removed p es) q)) ∙ r ∙ (λ i. cond (y i) None (find_in es q))
    by false false false x y z r = (λ i. cond (z i) (Some e.1) (find_in (removed p es) q)) ∙ r ∙ (λ i. cond (y i) None (find_in es q))

-- nothing is removed where the place stands not
pub removed_away : (es : FolderMap) (p : Place) → AllByRecursion (λ o. same_path p o.0 ≡ false) es → removed p es ≡ es
removed_away [] p h = refl
removed_away (e ∷ es) p h = (λ i. cond (not (h.0 i)) (e ∷ removed p es) (removed p es)) ∙ ap (λ l. e ∷ l) (removed_away es p h.1)

pub Rising-removed : (f : Place → ℕ) (p : Place) (es : FolderMap) → Rising f es → Rising f (removed p es)
Rising-removed f p [] h = tt
Rising-removed f p (e ∷ es) h = by (same_path p e.0) (Rising-removed f p es h.1)
  where
    by : (b : Bool) → Rising f (removed p es) → Rising f (cond (not b) (e ∷ removed p es) (removed p es))
    by true r = r
    by false r = (each-filter (λ o. f e.0 < f o.0) (λ o. not (same_path p o.0)) es h.0, r)

pub Apart-removed : (p : Place) (es : FolderMap) → Apart es → Apart (removed p es)
Apart-removed p [] h = tt
Apart-removed p (e ∷ es) h = by (same_path p e.0) (Apart-removed p es h.1)
  where
    by : (b : Bool) → Apart (removed p es) → Apart (cond (not b) (e ∷ removed p es) (removed p es))
    by true r = r
    by false r = (each-filter (λ o. same_path e.0 o.0 ≡ false) (λ o. not (same_path p o.0)) es h.0, r)

-- what is away from a place is away from one that is the same
pub away_along : (p q : Place) (es : FolderMap) → same_path p q ≡ true → AllByRecursion (λ o. same_path q o.0 ≡ false) es → AllByRecursion (λ o. same_path p o.0 ≡ false) es
away_along p q es e = subst (λ x. AllByRecursion (λ o. same_path x o.0 ≡ false) es) (sym (same_path_is p q e))

-- ---- entries that answer alike

pub rest_same : (e : Entry) (es fs : FolderMap) → AllByRecursion (λ o. same_path e.0 o.0 ≡ false) es
    → ((p : Place) → find_in (e ∷ es) p ≡ find_in fs p) → (q : Place) → find_in es q ≡ find_in (removed e.0 fs) q
rest_same e es fs a h q = by (same_path q e.0) refl ∙ sym (find_removed fs e.0 q)
  where
    by : (b : Bool) → same_path q e.0 ≡ b → find_in es q ≡ cond (same_path q e.0) None (find_in fs q)
    by true x = ap (find_in es) (same_path_is q e.0 x) ∙ none_from_away es e.0 a ∙ sym (λ i. cond (x i) None (find_in fs q))
    by false x = sym (λ i. cond (x i) (Some e.1) (find_in es q)) ∙ h q ∙ sym (λ i. cond (x i) None (find_in fs q))

pub found_first : (e : Entry) (es : FolderMap) → find_in (e ∷ es) e.0 ≡ Some e.1
found_first e es = λ i. cond (same_path_itself e.0 i) (Some e.1) (find_in es e.0)

pub nothing_found : (fs : FolderMap) → ((p : Place) → None ≡ find_in fs p) → fs ≡ []
nothing_found [] h = refl
nothing_found (e ∷ es) h = none≢some None e.1 refl (h e.0 ∙ found_first e es)

-- ---- counts

pub count_by-cons : {X : Type 0} (t : X → Bool) (x : X) (xs : List X) → count_by t (x ∷ xs) ≡ cond (t x) 1 0 + count_by t xs
count_by-cons t x xs = sum_by-cons (λ x. cond (t x) 1 0) x xs

abbrev pub count_places : (Place → Bool) → FolderMap → ℕ
count_places t es = count_by (λ e. t e.0) es

pub count_removed : (t : Place → Bool) (es : FolderMap) (p : Place) (c : Content) → Apart es → find_in es p ≡ Some c
    → count_places t es ≡ cond (t p) 1 0 + count_places t (removed p es)
count_removed t [] p c a f = none≢some None c refl f
count_removed t (e ∷ es) p c a f = by (same_path p e.0) refl f (count_removed t es p c a.1)
  where
    by : (b : Bool) → same_path p e.0 ≡ b → cond b (Some e.1) (find_in es p) ≡ Some c
        → (find_in es p ≡ Some c → count_places t es ≡ cond (t p) 1 0 + count_places t (removed p es))
        → count_places t (e ∷ es) ≡ cond (t p) 1 0 + count_places t (cond (not b) (e ∷ removed p es) (removed p es))
    by true x k r =
        count_by-cons (λ e. t e.0) e es
        ∙ (λ i. cond (t (sym (same_path_is p e.0 x) i)) 1 0 + count_places t (sym (removed_away es p (away_along p e.0 es x a.0)) i))
    by false x k r =
        let one = count_by-cons (λ e. t e.0) e es in
        let two = count_by-cons (λ e. t e.0) e (removed p es) in
        let three = r k in
        omega arith

pub count_same : (t : Place → Bool) (es fs : FolderMap) → Apart es → Apart fs → ((p : Place) → find_in es p ≡ find_in fs p)
    → count_places t es ≡ count_places t fs
count_same t [] fs a b h = ap (count_places t) (sym (nothing_found fs h))
count_same t (e ∷ es) fs a b h =
    let f : find_in fs e.0 ≡ Some e.1 = sym (h e.0) ∙ found_first e es in
    count_by-cons (λ e. t e.0) e es
    ∙ ap (λ n. cond (t e.0) 1 0 + n) (count_same t es (removed e.0 fs) a.1 (Apart-removed e.0 fs b) (rest_same e es fs a.0 h))
    ∙ sym (count_removed t fs e.0 e.1 b f)
