-- How many pages are left in a tree from an id on.
use Rattle.std.proofs.Common.{◌≡◌, ℕ, ◌+◌, ◌/◌, ◌<◌, ◌≤◌, nat_eq, List, [], ◌∷◌, length, Bool, true, false, cond, refl, ap, sym, subst, ◌∙◌, arith, Option, Some, None}
use Rattle.std.specs.Prelude.{MatchOption, nat_le, max, is_some}
use Rattle.std.proofs.lemmas.Bool.{le-leb, lt-leb, leb-true, leb-false}
use Rattle.std.proofs.lemmas.List.Sums.{length-filter, sum_by-cons}
use Rattle.std.specs.List.{AllByRecursion, sum_by, count_by}
use Rattle.cds_object.specs.Object.{ObjectRow, IsRow, is_folder}
use Rattle.cds_object.specs.Tree.{row_of, is_child_of, children_of, IsTree, CountsChildren}
use Rattle.cds_object.specs.declared.row.Trackers.{Trackers}
use Rattle.cds_load.specs.Loads.{pages_for}
use Rattle.cds_load.specs.Stages.{Waiting}
use Rattle.cds_load.proofs.Merge.{Rises}
use Rattle.cds_load.proofs.Trees.{id_of, all-map, all-map_two, ascend-rises, each-found, all-at}
use Rattle.cds_load.proofs.Frontier.{waiting_at, folder-waits, all-descend, descends}
use Rattle.cds_load.proofs.Advance.{first-is_least, first-stands}

-- the pages of a row that is not below an id
abbrev pub pages_past : ℕ → ObjectRow → ℕ
pages_past at row = cond (nat_le at row.id) (pages_for row.trackers) 0

abbrev pub pages_from : ℕ → List ObjectRow → ℕ
pages_from at rows = sum_by (pages_past at) rows

sums-same : (f g : ObjectRow → ℕ) (rows : List ObjectRow) → AllByRecursion (λ row. f row ≡ g row) rows → sum_by f rows ≡ sum_by g rows
sums-same f g [] all = refl
sums-same f g (row ∷ rows) all = sum_by-cons f row rows ∙ (λ i. all.0 i + sums-same f g rows all.1 i) ∙ sym (sum_by-cons g row rows)

sums-none : (f : ObjectRow → ℕ) (rows : List ObjectRow) → AllByRecursion (λ row. f row ≡ 0) rows → sum_by f rows ≡ 0
sums-none f [] all = refl
sums-none f (row ∷ rows) all = sum_by-cons f row rows ∙ (λ i. all.0 i + sums-none f rows all.1 i)

-- from the first id on there are all pages
pub from-first : (rows : List ObjectRow) → pages_from 0 rows ≡ sum_by (λ (row : ObjectRow). pages_for row.trackers) rows
from-first [] = refl
from-first (row ∷ rows) =
    sum_by-cons (pages_past 0) row rows
    ∙ (λ i. (ap (λ b. cond b (pages_for row.trackers) 0) (le-leb 0 row.id (omega arith))) i + from-first rows i)
    ∙ sym (sum_by-cons (λ (r : ObjectRow). pages_for r.trackers) row rows)

-- a track has no page
track-pages : (row : ObjectRow) → IsRow row → is_folder row.content ≡ false → pages_for row.trackers ≡ 0
track-pages row is track = by row.trackers (is.tracked ∙ track)
  where
    by : (o : Option Trackers) → is_some o ≡ false → pages_for o ≡ 0
    by None e = refl
    by (Some t) e = absurd (cc)

-- two ids that no folder stands between have the same pages
same-past : (at low : ℕ) (row : ObjectRow) → at ≤ low → IsRow row → (is_folder row.content ≡ true → at ≤ row.id → low ≤ row.id) → pages_past at row ≡ pages_past low row
same-past at low row under is descent = by (is_folder row.content) refl
  where
    level : is_folder row.content ≡ true → (b : Bool) → nat_le at row.id ≡ b → nat_le at row.id ≡ nat_le low row.id
    level folder true e = e ∙ sym (le-leb low row.id (descent folder (leb-true at row.id e)))
    level folder false e = e ∙ sym (lt-leb low row.id (let l : row.id < at = leb-false at row.id e in omega (arith, l, under)))

    nothing : (b : Bool) (n : ℕ) → n ≡ 0 → cond b n 0 ≡ 0
    nothing true n e = e
    nothing false n e = refl

    by : (b : Bool) → is_folder row.content ≡ b → pages_past at row ≡ pages_past low row
    by true folder = ap (λ b. cond b (pages_for row.trackers) 0) (level folder (nat_le at row.id) refl)
    by false track = nothing (nat_le at row.id) (pages_for row.trackers) (track-pages row is track) ∙ sym (nothing (nat_le low row.id) (pages_for row.trackers) (track-pages row is track))

-- above a row all others have the same pages from its id on and from the next
above-past : (n : ℕ) (rows : List ObjectRow) → AllByRecursion (λ (r : ObjectRow). n < r.id) rows → sum_by (pages_past n) rows ≡ sum_by (pages_past (n + 1)) rows
above-past n rows above = sums-same (pages_past n) (pages_past (n + 1)) rows
    (all-map (λ row past. ap (λ b. cond b (pages_for row.trackers) 0) (le-leb n row.id (omega (arith, past)) ∙ sym (le-leb (n + 1) row.id (omega (arith, past))))) rows above)

-- the pages from a row's id on are its own and those from the next id on
pub pages-here : (rows : List ObjectRow) → Rises id_of rows → (row : ObjectRow) → row_of row.id rows ≡ Some row →
    pages_from row.id rows ≡ pages_for row.trackers + pages_from (row.id + 1) rows
pages-here [] rises row found = absurd (cc)
pages-here (next ∷ rows) rises row found = by (nat_eq next.id row.id) refl found (pages-here rows rises.1 row)
  where
    by : (b : Bool) → nat_eq next.id row.id ≡ b → cond b (Some next) (row_of row.id rows) ≡ Some row →
        (row_of row.id rows ≡ Some row → pages_from row.id rows ≡ pages_for row.trackers + pages_from (row.id + 1) rows) →
        pages_from row.id (next ∷ rows) ≡ pages_for row.trackers + pages_from (row.id + 1) (next ∷ rows)
    by true e is rest =
        let same : next ≡ row = cc in
        let id : next.id ≡ row.id = ap id_of same in
        let above : AllByRecursion (λ (r : ObjectRow). row.id < r.id) rows = subst (λ k. AllByRecursion (λ (r : ObjectRow). k < r.id) rows) id rises.0 in
        let own : pages_past row.id next ≡ pages_for row.trackers =
        ap (λ b. cond b (pages_for next.trackers) 0) (le-leb row.id next.id (omega (arith, id))) ∙ ap (λ (r : ObjectRow). pages_for r.trackers) same in
        let gone : pages_past (row.id + 1) next ≡ 0 = ap (λ b. cond b (pages_for next.trackers) 0) (lt-leb (row.id + 1) next.id (omega (arith, id))) in
        omega (arith, own, gone, above-past row.id rows above, sum_by-cons (pages_past row.id) next rows, sum_by-cons (pages_past (row.id + 1)) next rows)
    by false e is rest =
        let low : next.id < row.id = all-at (λ (r : ObjectRow). next.id < r.id) row.id rows row rises.0 is in
        let here : pages_past row.id next ≡ 0 = ap (λ b. cond b (pages_for next.trackers) 0) (lt-leb row.id next.id low) in
        let there : pages_past (row.id + 1) next ≡ 0 = ap (λ b. cond b (pages_for next.trackers) 0) (lt-leb (row.id + 1) next.id (omega (arith, low))) in
        omega (arith, here, there, rest is, sum_by-cons (pages_past row.id) next rows, sum_by-cons (pages_past (row.id + 1)) next rows)

module _ (rows : List ObjectRow) (tree : IsTree rows) where
  -- the pages from an id on are those from the first that waits there
  pub pages-first : (at : ℕ) (w : Waiting) (ws : List Waiting) → waiting_at at rows ≡ w ∷ ws → pages_from at rows ≡ pages_from w.id rows
  pages-first at w ws is = sums-same (pages_past at) (pages_past w.id) rows
      (all-map_two (λ row descent isrow. same-past at w.id row (first-stands rows tree at w ws is).past isrow descent) rows
      (all-descend rows tree at w.id (first-is_least rows tree at w ws is)) tree.each)

  -- where nothing waits no page is left
  pub pages-none : (at : ℕ) → waiting_at at rows ≡ [] → pages_from at rows ≡ 0
  pages-none at none = sums-none (pages_past at) rows
      (all-map_two (λ row found isrow. one row found isrow) rows (each-found rows (ascend-rises rows tree.ascending)) tree.each)
    where
      one : (row : ObjectRow) → row_of row.id rows ≡ Some row → IsRow row → pages_past at row ≡ 0
      one row found isrow = by (is_folder row.content) refl (nat_le at row.id) refl
        where
          by : (f : Bool) → is_folder row.content ≡ f → (b : Bool) → nat_le at row.id ≡ b → cond b (pages_for row.trackers) 0 ≡ 0
          by f e false le = refl
          by false track true le = track-pages row isrow track
          by true folder true le =
              let nobody : AllByRecursion (λ (w : Waiting). row.id + 1 ≤ w.id) (waiting_at at rows) =
              subst (λ ws. AllByRecursion (λ (w : Waiting). row.id + 1 ≤ w.id) ws) (sym none) tt in
              let low : row.id + 1 ≤ row.id = descends rows tree at (row.id + 1) nobody row.id row (omega arith) found folder (leb-true at row.id le) in
              absurd (omega (arith, low))

  -- a container's own pages, by how many children it has
  pub own-pages : (row : ObjectRow) → row_of row.id rows ≡ Some row → is_folder row.content ≡ true →
      pages_for row.trackers ≡ max 1 ((length (children_of row.id rows) + 255) / 256)
  own-pages row found folder =
      let t = folder-waits rows row (all-at IsRow row.id rows row tree.each found) folder in
      let counts : CountsChildren rows row = all-at (CountsChildren rows) row.id rows row tree.counted found in
      let count : t.0.child_count ≡ count_by (is_child_of row.id) rows =
      subst (λ o. MatchOption o (Unit {0}) (λ s. s.child_count ≡ count_by (is_child_of row.id) rows)) t.1 counts in
      ap pages_for t.1 ∙ ap (λ n. max 1 ((n + 255) / 256)) (count ∙ sym (length-filter (is_child_of row.id) rows))
