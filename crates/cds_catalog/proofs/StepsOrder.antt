-- Rows put in order of ids: however the same entries come, the rows are those of the entries whose ids rise.
use Rattle.std.proofs.Common.{◌≡◌, ◌<◌, ℕ, suc, Bool, true, false, cond, not, map, nat_lt, List, [], ◌∷◌, length, Some, None, refl, sym, ◌∙◌, ap, arith, lt-ltb, le-ltb}
use Rattle.std.specs.List.{AllByRecursion}
use Rattle.cds_object.specs.Path.{same_path}
use Rattle.cds_catalog.specs.Library.{FolderMap}
use Rattle.cds_catalog.specs.Catalog.{PlacedRow, put_row, in_order}
use Rattle.cds_catalog.proofs.Paths.{same_path_is}
use Rattle.cds_catalog.proofs.StepsPaths.{Place}
use Rattle.cds_catalog.proofs.StepsFind.{Entry, find_in, Apart, Rising, removed, each-map, each-weaker, none≢some, found_holds, removed_away, away_along, Apart_from_Rising, Rising-removed, rest_same, found_first, nothing_found}

put_first : (x : PlacedRow) (xs : List PlacedRow) → AllByRecursion (λ y. x.1.id < y.1.id) xs → put_row x xs ≡ x ∷ xs
put_first x [] h = refl
put_first x (y ∷ ys) h = λ i. cond (lt-ltb x.1.id y.1.id h.0 i) (x ∷ y ∷ ys) (y ∷ put_row x ys)

pub each-put_row : (P : PlacedRow → Type 0) (x : PlacedRow) (xs : List PlacedRow) → P x → AllByRecursion P xs → AllByRecursion P (put_row x xs)
each-put_row P x [] h k = (h, tt)
each-put_row P x (y ∷ ys) h k = by (nat_lt x.1.id y.1.id) (each-put_row P x ys h k.1)
  where
    by : (b : Bool) → AllByRecursion P (put_row x ys) → AllByRecursion P (cond b (x ∷ y ∷ ys) (y ∷ put_row x ys))
    by true r = (h, k)
    by false r = (k.0, r)

pub each-in_order : (P : PlacedRow → Type 0) (xs : List PlacedRow) → AllByRecursion P xs → AllByRecursion P (in_order xs)
each-in_order P [] h = tt
each-in_order P (x ∷ xs) h = each-put_row P x (in_order xs) h.0 (each-in_order P xs h.1)

length-put_row : (x : PlacedRow) (xs : List PlacedRow) → length (put_row x xs) ≡ suc (length xs)
length-put_row x [] = refl
length-put_row x (y ∷ ys) = by (nat_lt x.1.id y.1.id) (length-put_row x ys)
  where
    by : (b : Bool) → length (put_row x ys) ≡ suc (length ys) → length (cond b (x ∷ y ∷ ys) (y ∷ put_row x ys)) ≡ suc (suc (length ys))
    by true r = refl
    by false r = ap suc r

pub length-in_order : (xs : List PlacedRow) → length (in_order xs) ≡ length xs
length-in_order [] = refl
length-in_order (x ∷ xs) = length-put_row x (in_order xs) ∙ ap suc (length-in_order xs)

module _ (f : Place → ℕ) (row : Entry → PlacedRow) (ids : (e : Entry) → (row e).1.id ≡ f e.0) where
  -- the row of an entry goes to its place among those of the others
  put_found : (es : FolderMap) (e : Entry) → Rising f es → find_in es e.0 ≡ Some e.1 → put_row (row e) (map row (removed e.0 es)) ≡ map row es
  put_found [] e h k = none≢some None e.1 refl k
  put_found (y ∷ es) e h k = by (same_path e.0 y.0) refl k (put_found es e h.1)
    where
      lower : (o : Entry) → f y.0 < f o.0 → (row y).1.id < (row o).1.id
      lower o l = let a = ids y in let b = ids o in omega arith

      away : AllByRecursion (λ o. same_path y.0 o.0 ≡ false) es
      away = (Apart_from_Rising f (y ∷ es) h).0

      by : (b : Bool) → same_path e.0 y.0 ≡ b → cond b (Some y.1) (find_in es e.0) ≡ Some e.1
          → (find_in es e.0 ≡ Some e.1 → put_row (row e) (map row (removed e.0 es)) ≡ map row es)
          → put_row (row e) (map row (cond (not b) (y ∷ removed e.0 es) (removed e.0 es))) ≡ row y ∷ map row es
      by true x k r =
          let a : e.0 ≡ y.0 = same_path_is e.0 y.0 x in
          let d : e.1 ≡ y.1 = cc in
          let same : e ≡ y = λ i. (a i, d i) in
          (λ i. put_row (row (same i)) (map row (removed_away es e.0 (away_along e.0 y.0 es x away) i)))
          ∙ put_first (row y) (map row es) (each-map (λ r. (row y).1.id < r.1.id) row es (each-weaker (λ o. f y.0 < f o.0) (λ o. (row y).1.id < (row o).1.id) lower es h.0))
      by false x k r =
          let l : f y.0 < f e.0 = found_holds (λ o. f y.0 < f o.0) es e.0 e.1 h.0 k in
          let a = ids e in
          let b = ids y in
          let no = le-ltb (row e).1.id (row y).1.id (omega arith) in
          (λ i. cond (no i) (row e ∷ row y ∷ map row (removed e.0 es)) (row y ∷ put_row (row e) (map row (removed e.0 es))))
          ∙ ap (λ l. row y ∷ l) (r k)

  pub order_same : (es fs : FolderMap) → Apart es → Rising f fs → ((p : Place) → find_in es p ≡ find_in fs p) → in_order (map row es) ≡ map row fs
  order_same [] fs a h k = ap (map row) (sym (nothing_found fs k))
  order_same (e ∷ es) fs a h k =
      let found : find_in fs e.0 ≡ Some e.1 = sym (k e.0) ∙ found_first e es in
      ap (put_row (row e)) (order_same es (removed e.0 fs) a.1 (Rising-removed f e.0 fs h) (rest_same e es fs a.0 k))
      ∙ put_found fs e h found
