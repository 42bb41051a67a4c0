-- A whole listing of the first container that waits: its children join the known rows, and its folders those that wait.
use Rattle.std.proofs.Common.{◌≡◌, ℕ, ◌+◌, ◌<◌, ◌≤◌, nat_eq, List, [], ◌∷◌, Bool, true, false, cond, ◌||◌, ◌&&◌, nat_lt, refl, ap, sym, subst, ◌∙◌, arith, Option, Some, None}
use Rattle.std.specs.Prelude.{MatchOption, nat_le}
use Rattle.std.proofs.lemmas.Bool.{ltb-true, ltb-false, le-leb, lt-leb, and_from, and_left, and_right}
use Rattle.std.proofs.lemmas.Bool.Decides.{nat_tests}
use Rattle.std.specs.List.{AllByRecursion, filter, filter_map, cons_option}
use Rattle.std.specs.Option.{option_eq}
use Rattle.cds_object.specs.Object.{ObjectRow}
use Rattle.cds_object.specs.Tree.{row_of, is_child_of, children_of, is_container_row, IsHeld, IsTree}
use Rattle.cds_load.specs.Stages.{Waiting, waiting_of, put_rows, put_containers}
use Rattle.cds_load.proofs.Merge.{Rises, merged, filter-all, made-above}
use Rattle.cds_load.proofs.Trees.{id_of, all-map, ascend-rises}
use Rattle.cds_load.proofs.Frontier.{below, known, waits, waiting_at, filter-same}
use Rattle.cds_load.proofs.Advance.{waiting_id, waiting-keeps}

-- whether a row that passes a test is above an id
abbrev pub later : (ObjectRow → Bool) → ℕ → ObjectRow → Bool
later test at row = test row && nat_le (at + 1) row.id

abbrev pub from : (ObjectRow → Bool) → ℕ → ObjectRow → Bool
from test at row = test row && nat_le at row.id

-- above rows that are not below an id both tests are one
from-later : (test : ObjectRow → Bool) (at n : ℕ) → at ≤ n → (rows : List ObjectRow) → AllByRecursion (λ (r : ObjectRow). n < r.id) rows →
    filter (from test at) rows ≡ filter (later test at) rows
from-later test at n low rows above = filter-same (from test at) (later test at) rows
    (all-map (λ row past. ap (λ b. test row && b) (le-leb at row.id (omega (arith, past, low)) ∙ sym (le-leb (at + 1) row.id (omega (arith, past, low))))) rows above)

-- without the first, what waits from its id on is what waits above it
pub drop-first : (test : ObjectRow → Bool) (at : ℕ) (rows : List ObjectRow) → Rises id_of rows → (w : Waiting) (ws : List Waiting) →
    filter_map waiting_of (filter (from test at) rows) ≡ w ∷ ws → w.id ≡ at → ws ≡ filter_map waiting_of (filter (later test at) rows)
drop-first test at [] rises w ws is id = absurd (cc)
drop-first test at (row ∷ rows) rises w ws is id = by (nat_lt row.id at) refl (drop-first test at rows rises.1 w ws)
  where
    skip : (keep : ObjectRow → Bool) → keep row ≡ false → filter (keep) (row ∷ rows) ≡ filter keep rows
    skip keep e = ap (λ b. cond b (row ∷ filter keep rows) (filter keep rows)) e

    made : (keep : ObjectRow → Bool) → keep row ≡ true → filter_map waiting_of (filter keep (row ∷ rows)) ≡ cons_option (waiting_of row) (filter_map waiting_of (filter keep rows))
    made keep e = ap (λ b. filter_map waiting_of (cond b (row ∷ filter keep rows) (filter keep rows))) e

    -- the first cannot come of the rows behind this one
    behind : at ≤ row.id → filter_map waiting_of (filter (from test at) rows) ≡ w ∷ ws → ⊥
    behind low e =
        let all : AllByRecursion (λ (v : Waiting). row.id < v.id) (w ∷ ws) =
        subst (AllByRecursion (λ (v : Waiting). row.id < v.id)) e
        (made-above waiting_of id_of waiting_id waiting-keeps row.id (filter (from test at) rows) (filter-all _ (from test at) rows rises.0)) in
        omega (arith, all.0, id, low)

    here : at ≤ row.id → test row ≡ true → (o : Option Waiting) → waiting_of row ≡ o →
        cons_option o (filter_map waiting_of (filter (from test at) rows)) ≡ w ∷ ws → ws ≡ filter_map waiting_of (filter (later test at) (row ∷ rows))
    here low passes None e is = absurd (behind low is)
    here low passes (Some v) e is =
        let same : v ≡ w = cc in
        let rest : filter_map waiting_of (filter (from test at) rows) ≡ ws = cc in
        let own : row.id ≡ at = sym (waiting-keeps row v e) ∙ ap waiting_id same ∙ id in
        let out : later test at row ≡ false = and_right _ _ (lt-leb (at + 1) row.id (omega (arith, own))) in
        sym rest ∙ ap (filter_map waiting_of) (from-later test at row.id low rows rises.0 ∙ sym (skip (later test at) out))

    of_test : at ≤ row.id → (b : Bool) → test row ≡ b → ws ≡ filter_map waiting_of (filter (later test at) (row ∷ rows))
    of_test low true e = here low e (waiting_of row) refl (sym (made (from test at) (and_from _ _ e (le-leb at row.id low))) ∙ is)
    of_test low false e = absurd (behind low (sym (ap (filter_map waiting_of) (skip (from test at) (and_left _ _ e))) ∙ is))

    by : (b : Bool) → nat_lt row.id at ≡ b →
        (filter_map waiting_of (filter (from test at) rows) ≡ w ∷ ws → w.id ≡ at → ws ≡ filter_map waiting_of (filter (later test at) rows)) →
        ws ≡ filter_map waiting_of (filter (later test at) (row ∷ rows))
    by true e rest =
        let low : row.id < at = ltb-true row.id at e in
        let out : from test at row ≡ false = and_right _ _ (lt-leb at row.id low) in
        let out_later : later test at row ≡ false = and_right _ _ (lt-leb (at + 1) row.id (omega (arith, low))) in
        rest (sym (ap (filter_map waiting_of) (skip (from test at) out)) ∙ is) id ∙ sym (ap (filter_map waiting_of) (skip (later test at) out_later))
    by false e rest = of_test (ltb-false row.id at e) (test row) refl

-- everything is made of what is taken as it is
pub filter_map-Some : {X : Type 0} (xs : List X) → filter_map Some xs ≡ xs
filter_map-Some [] = refl
filter_map-Some (x ∷ xs) = ap (λ ys. x ∷ ys) (filter_map-Some xs)

-- a child of an id is not known below it, and both are known one further
pub apart-child : (at : ℕ) (row : ObjectRow) → (known at row && is_child_of at row) ≡ false
apart-child at row = by row.parent
  where
    by : (o : Option ℕ) → (below at o && option_eq nat_eq o (Some at)) ≡ false
    by None = refl
    by (Some parent) = grind (arith, nat_tests)

pub known-next : (at : ℕ) (row : ObjectRow) → (known at row || is_child_of at row) ≡ known (at + 1) row
known-next at row = by row.parent
  where
    by : (o : Option ℕ) → (below at o || option_eq nat_eq o (Some at)) ≡ below (at + 1) o
    by None = refl
    by (Some parent) = grind (arith, nat_tests)

pub all-of : {X : Type 0} (P : X → Type 0) → ((x : X) → P x) → (xs : List X) → AllByRecursion P xs
all-of P f [] = tt
all-of P f (x ∷ xs) = (f x, all-of P f xs)

module _ (rows : List ObjectRow) (tree : IsTree rows) where
  pub rows-after : (at : ℕ) → put_rows (children_of at rows) (filter (known at) rows) ≡ filter (known (at + 1)) rows
  rows-after at =
      sym (λ i. put_rows (filter_map-Some (children_of at rows) i) (filter_map-Some (filter (known at) rows) i))
      ∙ merged Some id_of id_of (λ x y e. let same : x ≡ y = cc in ap id_of (sym same)) (known at) (is_child_of at) rows
      (ascend-rises rows tree.ascending) (all-of _ (apart-child at) rows)
      ∙ filter_map-Some _
      ∙ filter-same _ (known (at + 1)) rows (all-of _ (known-next at) rows)

  pub waiting-after : (at : ℕ) (w : Waiting) (ws : List Waiting) → waiting_at at rows ≡ w ∷ ws → w.id ≡ at →
      put_containers (children_of at rows) ws ≡ waiting_at (at + 1) rows
  waiting-after at w ws is id =
      ap (put_containers (children_of at rows)) (drop-first (known at) at rows (ascend-rises rows tree.ascending) w ws is id)
      ∙ merged waiting_of id_of waiting_id waiting-keeps (later (known at) at) (is_child_of at) rows (ascend-rises rows tree.ascending)
      (all-of _ apart rows)
      ∙ ap (filter_map waiting_of) (filter-same _ (waits (at + 1)) rows (all-map next rows tree.held))
    where
      apart : (row : ObjectRow) → (later (known at) at row && is_child_of at row) ≡ false
      apart row = by (known at row) (is_child_of at row) (nat_le (at + 1) row.id) (apart-child at row)
        where
          by : (a b c : Bool) → (a && b) ≡ false → ((a && c) && b) ≡ false
          by true true true e = e
          by true true false e = refl
          by true false c e = grind arith
          by false b c e = refl

      next : (row : ObjectRow) → IsHeld rows row → (later (known at) at row || is_child_of at row) ≡ waits (at + 1) row
      next row held = of_parent row.parent held
        where
          of_parent : (o : Option ℕ) → MatchOption o (row.id ≡ 0) (λ parent. (parent < row.id) × (is_container_row (row_of parent rows) ≡ true)) →
              ((below at o && nat_le (at + 1) row.id) || option_eq nat_eq o (Some at)) ≡ (below (at + 1) o && nat_le (at + 1) row.id)
          of_parent None h = by (nat_le (at + 1) row.id)
            where
              by : (b : Bool) → ((true && b) || false) ≡ (true && b)
              by true = refl
              by false = refl
          of_parent (Some parent) h = let low : parent < row.id = h.0 in grind (arith, nat_tests)
