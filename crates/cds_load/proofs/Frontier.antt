-- What a load knows of a tree once every container below some id is listed: the rows whose parent is below it, and the
-- containers among them that are not below it, which wait.
use Rattle.std.proofs.Common.{◌≡◌, ℕ, zero, suc, ◌<◌, ◌≤◌, nat_eq, List, [], ◌∷◌, Bool, true, false, cond, ◌&&◌, nat_lt, refl, ap, sym, subst, ◌∙◌, arith, Option, Some, None, inl, inr}
use Rattle.std.specs.Prelude.{MatchOption, nat_le, is_some, ◌⊎◌}
use Rattle.std.proofs.lemmas.Bool.{lt-ltb, le-ltb, ltb-true, ltb-false, le-leb, and_from}
use Rattle.std.specs.List.{AllByRecursion, filter, filter_map, cons_option}
use Rattle.std.specs.Option.{option_map}
use Rattle.cds_object.specs.Object.{ObjectRow, IsRow, is_folder}
use Rattle.cds_object.specs.Tree.{row_of, is_container_row, IsHeld, IsTree}
use Rattle.cds_object.specs.declared.row.Trackers.{Trackers}
use Rattle.cds_load.specs.Stages.{Waiting, waiting_of}
use Rattle.cds_load.proofs.Trees.{all-map, ascend-rises, each-found, found-id, all-at, folder-found}

-- whether a row's parent is below an id; the root has none
abbrev pub below : ℕ → Option ℕ → Bool
below at None = true
below at (Some parent) = nat_lt parent at

abbrev pub known : ℕ → ObjectRow → Bool
known at row = below at row.parent

-- whether a known row is not below the id itself, so that it waits if it is a container's
abbrev pub waits : ℕ → ObjectRow → Bool
waits at row = known at row && nat_le at row.id

-- what waits at an id
abbrev pub waiting_at : ℕ → List ObjectRow → List Waiting
waiting_at at rows = filter_map waiting_of (filter (waits at) rows)

-- two tests that differ at no item of which something is made leave what makes the same
pub filter_map-same : {X Y : Type 0} (h : X → Option Y) (p q : X → Bool) (xs : List X) →
    AllByRecursion (λ x. (h x ≡ None) ⊎ (p x ≡ q x)) xs → filter_map h (filter p xs) ≡ filter_map h (filter q xs)
filter_map-same h p q [] all = refl
filter_map-same h p q (x ∷ xs) all = by all.0 (filter_map-same h p q xs all.1)
  where
    none : (b : Bool) → (test : _ → Bool) → h x ≡ None → filter_map h (cond b (x ∷ filter test xs) (filter test xs)) ≡ filter_map h (filter test xs)
    none true test e = ap (λ o. cons_option o (filter_map h (filter test xs))) e
    none false test e = refl

    same : (b : Bool) → filter_map h (filter p xs) ≡ filter_map h (filter q xs) →
        filter_map h (cond b (x ∷ filter p xs) (filter p xs)) ≡ filter_map h (cond b (x ∷ filter q xs) (filter q xs))
    same true rest = ap (cons_option (h x)) rest
    same false rest = rest

    by : (h x ≡ None) ⊎ (p x ≡ q x) → filter_map h (filter p xs) ≡ filter_map h (filter q xs) →
        filter_map h (filter p (x ∷ xs)) ≡ filter_map h (filter q (x ∷ xs))
    by (inl e) rest = none (p x) p e ∙ rest ∙ sym (none (q x) q e)
    by (inr e) rest = same (p x) rest ∙ ap (λ b. filter_map h (cond b (x ∷ filter q xs) (filter q xs))) e

-- two tests that agree at each item leave the same
pub filter-same : {X : Type 0} (p q : X → Bool) (xs : List X) → AllByRecursion (λ x. p x ≡ q x) xs → filter p xs ≡ filter q xs
filter-same p q [] all = refl
filter-same p q (x ∷ xs) all = by (p x) all.0 (filter-same p q xs all.1)
  where
    by : (b : Bool) → b ≡ q x → filter p xs ≡ filter q xs → cond b (x ∷ filter p xs) (filter p xs) ≡ filter q (x ∷ xs)
    by b e rest = (λ i. cond b (x ∷ rest i) (rest i)) ∙ ap (λ c. cond c (x ∷ filter q xs) (filter q xs)) e

pub filter-everything : {X : Type 0} (p : X → Bool) (xs : List X) → AllByRecursion (λ x. p x ≡ true) xs → filter p xs ≡ xs
filter-everything p [] all = refl
filter-everything p (x ∷ xs) all = (ap (λ b. cond b (x ∷ filter p xs) (filter p xs)) all.0) ∙ ap (λ ys. x ∷ ys) (filter-everything p xs all.1)

-- what holds of all that is made holds of what is made of an item that is found and passes
pub made-at : (P : Waiting → Type 0) (test : ObjectRow → Bool) (id : ℕ) (rows : List ObjectRow) (row : ObjectRow) (w : Waiting) →
    row_of id rows ≡ Some row → test row ≡ true → waiting_of row ≡ Some w → AllByRecursion P (filter_map waiting_of (filter test rows)) → P w
made-at P test id [] row w found passes made all = absurd (cc)
made-at P test id (next ∷ rows) row w found passes made all =
    by (nat_eq next.id id) found all (made-at P test id rows row w)
  where
    head : (b : Bool) (o : Option Waiting) → b ≡ true → o ≡ Some w →
        AllByRecursion P (filter_map waiting_of (cond b (next ∷ filter test rows) (filter test rows))) → o ≡ waiting_of next → P w
    head true o b e all is = let P' : List Waiting → Type 0 = λ ws. AllByRecursion P ws in
        (subst P' (ap (λ v. cons_option v (filter_map waiting_of (filter test rows))) (sym is ∙ e)) all).0
    head false o b e all is = absurd (cc)

    tail : (b : Bool) → AllByRecursion P (filter_map waiting_of (cond b (next ∷ filter test rows) (filter test rows))) →
        AllByRecursion P (filter_map waiting_of (filter test rows))
    tail true all = of_option (waiting_of next) all
      where
        of_option : (o : Option Waiting) → AllByRecursion P (cons_option o (filter_map waiting_of (filter test rows))) →
            AllByRecursion P (filter_map waiting_of (filter test rows))
        of_option None all = all
        of_option (Some v) all = all.1
    tail false all = all

    by : (b : Bool) → cond b (Some next) (row_of id rows) ≡ Some row →
        AllByRecursion P (filter_map waiting_of (filter test (next ∷ rows))) →
        (row_of id rows ≡ Some row → test row ≡ true → waiting_of row ≡ Some w → AllByRecursion P (filter_map waiting_of (filter test rows)) → P w) → P w
    by true is all rest = let same : next ≡ row = cc in
        head (test next) (waiting_of next) (ap test same ∙ passes) (ap waiting_of same ∙ made) all refl
    by false is all rest = rest is passes made (tail (test next) all)

-- a folder's row waits as its id and its child count
pub folder-waits : (rows : List ObjectRow) (row : ObjectRow) → IsRow row → is_folder row.content ≡ true →
    (t : Trackers) × (row.trackers ≡ Some t) × (waiting_of row ≡ Some (record { id = row.id; children = t.child_count }))
folder-waits rows row is folder = by row.trackers refl (is.tracked ∙ folder)
  where
    by : (o : Option Trackers) → row.trackers ≡ o → is_some o ≡ true →
        (t : Trackers) × (row.trackers ≡ Some t) × (waiting_of row ≡ Some (record { id = row.id; children = t.child_count }))
    by None e some = absurd (cc)
    by (Some t) e some = (t, e, ap (option_map (λ (t : Trackers). let w : Waiting = record { id = row.id; children = t.child_count } in w)) e)

-- a track does not wait
pub track-waits_not : (row : ObjectRow) → IsRow row → is_folder row.content ≡ false → waiting_of row ≡ None
track-waits_not row is track = by row.trackers refl (is.tracked ∙ track)
  where
    by : (o : Option Trackers) → row.trackers ≡ o → is_some o ≡ false → waiting_of row ≡ None
    by None e some = ap (option_map (λ (t : Trackers). let w : Waiting = record { id = row.id; children = t.child_count } in w)) e
    by (Some t) e some = absurd (cc)

module _ (rows : List ObjectRow) (tree : IsTree rows) where
  -- a folder that is not below one id is not below another, if nothing that waits at the first is
  pub descends : (at low : ℕ) → AllByRecursion (λ (w : Waiting). low ≤ w.id) (waiting_at at rows) →
      (n : ℕ) (row : ObjectRow) → row.id ≤ n → row_of row.id rows ≡ Some row → is_folder row.content ≡ true → at ≤ row.id → low ≤ row.id
  descends at low all zero row fuel found folder above = known_or_not (known at row) refl
    where
      held : IsHeld rows row
      held = all-at (IsHeld rows) row.id rows row tree.held found

      of_parent : (o : Option ℕ) → MatchOption o (row.id ≡ 0) (λ parent. (parent < row.id) × (is_container_row (row_of parent rows) ≡ true)) →
          below at o ≡ false → low ≤ row.id
      of_parent None h unknown = absurd (cc)
      of_parent (Some parent) h unknown = absurd (omega (arith, h.0, fuel))

      known_or_not : (b : Bool) → known at row ≡ b → low ≤ row.id
      known_or_not true is_known =
          let w = folder-waits rows row (all-at IsRow row.id rows row tree.each found) folder in
          made-at (λ (w : Waiting). low ≤ w.id) (waits at) row.id rows row (record { id = row.id; children = w.0.child_count })
          found (and_from _ _ is_known (le-leb at row.id above)) w.2 all
      known_or_not false unknown = of_parent row.parent held unknown
  descends at low all (suc n) row fuel found folder above = known_or_not (known at row) refl (descends at low all n)
    where
      held : IsHeld rows row
      held = all-at (IsHeld rows) row.id rows row tree.held found

      of_parent : (o : Option ℕ) → MatchOption o (row.id ≡ 0) (λ parent. (parent < row.id) × (is_container_row (row_of parent rows) ≡ true)) →
          below at o ≡ false →
          ((next : ObjectRow) → next.id ≤ n → row_of next.id rows ≡ Some next → is_folder next.content ≡ true → at ≤ next.id → low ≤ next.id) → low ≤ row.id
      of_parent None h unknown rest = absurd (cc)
      of_parent (Some parent) h unknown rest =
          let q = folder-found (row_of parent rows) h.1 in
          let id : q.0.id ≡ parent = found-id parent rows q.0 q.1 in
          let past : at ≤ parent = ltb-false parent at unknown in
          let low_enough : low ≤ q.0.id = rest q.0 (omega (arith, id, h.0, fuel)) (ap (λ k. row_of k rows) id ∙ q.1) q.2 (omega (arith, id, past)) in
          omega (arith, id, h.0, low_enough)

      known_or_not : (b : Bool) → known at row ≡ b →
          ((next : ObjectRow) → next.id ≤ n → row_of next.id rows ≡ Some next → is_folder next.content ≡ true → at ≤ next.id → low ≤ next.id) → low ≤ row.id
      known_or_not true is_known rest =
          let w = folder-waits rows row (all-at IsRow row.id rows row tree.each found) folder in
          made-at (λ (w : Waiting). low ≤ w.id) (waits at) row.id rows row (record { id = row.id; children = w.0.child_count })
          found (and_from _ _ is_known (le-leb at row.id above)) w.2 all
      known_or_not false unknown rest = of_parent row.parent held unknown rest

  -- the same, said of each row
  pub all-descend : (at low : ℕ) → AllByRecursion (λ (w : Waiting). low ≤ w.id) (waiting_at at rows) →
      AllByRecursion (λ (row : ObjectRow). is_folder row.content ≡ true → at ≤ row.id → low ≤ row.id) rows
  all-descend at low all = all-map (λ row found folder above. descends at low all row.id row (omega arith) found folder above) rows (each-found rows (ascend-rises rows tree.ascending))

  -- a parent that is not below one id is not below the other
  parent-descends : (at low : ℕ) → AllByRecursion (λ (w : Waiting). low ≤ w.id) (waiting_at at rows) → at ≤ low →
      (row : ObjectRow) → IsHeld rows row → known at row ≡ known low row
  parent-descends at low all above row held = of_parent row.parent held
    where
      of_parent : (o : Option ℕ) → MatchOption o (row.id ≡ 0) (λ parent. (parent < row.id) × (is_container_row (row_of parent rows) ≡ true)) →
          below at o ≡ below low o
      of_parent None h = refl
      of_parent (Some parent) h = by (nat_lt parent at) refl
        where
          by : (b : Bool) → nat_lt parent at ≡ b → nat_lt parent at ≡ nat_lt parent low
          by true is_known = is_known ∙ sym (lt-ltb parent low (omega (arith, ltb-true parent at is_known, above)))
          by false unknown =
              let q = folder-found (row_of parent rows) h.1 in
              let id : q.0.id ≡ parent = found-id parent rows q.0 q.1 in
              let past : at ≤ parent = ltb-false parent at unknown in
              let low_enough : low ≤ q.0.id = descends at low all q.0.id q.0 (omega arith) (ap (λ k. row_of k rows) id ∙ q.1) q.2 (omega (arith, id, past)) in
              unknown ∙ sym (le-ltb parent low (omega (arith, id, low_enough)))

  pub all-known_alike : (at low : ℕ) → AllByRecursion (λ (w : Waiting). low ≤ w.id) (waiting_at at rows) → at ≤ low →
      AllByRecursion (λ (row : ObjectRow). known at row ≡ known low row) rows
  all-known_alike at low all above = all-map (parent-descends at low all above) rows tree.held
