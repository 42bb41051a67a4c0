-- What a server has at a moment, where all of it is plain, it may show.
use Rattle.std.proofs.Common.{◌≡◌, ℕ, ◌<◌, ◌^◌, nat_eq, Bool, true, false, cond, Option, Some, None, is_some, List, [], ◌∷◌, length, take, drop, filter, refl, ◌∙◌, arith}
use Rattle.std.specs.Prelude.{IfSome, MatchOption}
use Rattle.std.specs.List.{AllByRecursion, count_by}
use Rattle.std.proofs.lemmas.List.{length-take}
use Rattle.std.proofs.lemmas.List.Sums.{length-filter}
use Rattle.cds_object.specs.declared.row.Trackers.{Trackers}
use Rattle.cds_object.specs.Object.{ObjectRow, is_folder}
use Rattle.cds_object.specs.Tree.{row_of, children_of, is_child_of, CountsChildren}
use Rattle.cds_didl.specs.ReadBack.{AreCounts}
use Rattle.cds_load.specs.declared.exchange.Ask.TheVariants.{Token, Number as AskNumber, Metadata, Children}
use Rattle.cds_load.specs.declared.exchange.Shown.TheVariants.{Page, Fault}
use Rattle.cds_object.specs.Updates.{container_update_of, holder_of, told_of}
use Rattle.cds_load.specs.Server.{Moment, page_size, update_of, metadata_reply, children_reply}
use Rattle.cds_load.proofs.Pages.{take-all, drop-all}
use Rattle.cds_load.proofs.Trees.{all-at}
use Rattle.cds_exchange.specs.Honest.{IsPlainRow, IsPlainPage, CanBeShownTo, IsPlainMoment}
use Rattle.cds_exchange.specs.Laws.{MomentsCanBeShown}

-- ---- numbers

pick-fits : (b : Bool) (x y : ℕ) → x < 2 ^ 32 → y < 2 ^ 32 → cond b x y < 2 ^ 32
pick-fits true x y h k = h
pick-fits false x y h k = k

counts-fit : (row : ObjectRow) (trackers : Option Trackers) → IfSome trackers AreCounts → container_update_of (Some (record row { trackers = trackers })) < 2 ^ 32
counts-fit row None h = omega arith
counts-fit row (Some t) h = h.container_update

module _ (moment : Moment) (plain : IsPlainMoment moment) where
  -- the row of an id is plain
  found-plain : (id : ℕ) (found : Option ObjectRow) → row_of id moment.rows ≡ found → IfSome found IsPlainRow
  found-plain id None e = tt
  found-plain id (Some row) e = all-at IsPlainRow id moment.rows row plain.each e

  container-fits : (found : Option ObjectRow) → IfSome found IsPlainRow → container_update_of found < 2 ^ 32
  container-fits None is = omega arith
  container-fits (Some row) is = counts-fit row row.trackers is.ranges.trackers

  told-plain : (row : ObjectRow) → IsPlainRow row → IfSome (told_of row moment.rows) IsPlainRow
  told-plain row is = by (is_folder row.content) row.parent
    where
      by : (folder : Bool) (parent : Option ℕ) → IfSome (cond folder (Some row) (holder_of parent moment.rows)) IsPlainRow
      by true parent = is
      by false None = tt
      by false (Some parent) = found-plain parent (row_of parent moment.rows) refl

  update-fits : (row : ObjectRow) → IsPlainRow row → update_of moment row < 2 ^ 32
  update-fits row is =
      pick-fits (nat_eq row.id 0) moment.number (container_update_of (told_of row moment.rows)) plain.number
      (container-fits (told_of row moment.rows) (told-plain row is))

  -- ---- an object's own row

  metadata-can : (id : ℕ) (found : Option ObjectRow) → IfSome found IsPlainRow → CanBeShownTo (Metadata id) (metadata_reply moment found)
  metadata-can id None is = refl
  metadata-can id (Some row) is = record { each = (is, tt); few = omega arith; total_fits = omega arith; update_fits = update-fits row is }

  -- ---- its children

  filtered : (P : ObjectRow → Type 0) (test : ObjectRow → Bool) (rows : List ObjectRow) → AllByRecursion P rows → AllByRecursion P (filter test rows)
  filtered P test [] each = tt
  filtered P test (row ∷ rows) each = by (test row) (filtered P test rows each.1) where
    by : (t : Bool) → AllByRecursion P (filter test rows) → AllByRecursion P (cond t (row ∷ filter test rows) (filter test rows))
    by true more = (each.0, more)
    by false more = more

  total-fits : (n : ℕ) (trackers : Option Trackers) → is_some trackers ≡ true → IfSome trackers AreCounts → MatchOption trackers (Unit {0}) (λ t. t.child_count ≡ n) → n < 2 ^ 32
  total-fits n None some counts counted = absurd (cc)
  total-fits n (Some t) some counts counted = let low = counts.child_count in omega (arith, low, counted)

  page-can : (start : ℕ) (row : ObjectRow) → IsPlainRow row → CountsChildren moment.rows row → is_folder row.content ≡ true
      → IsPlainPage (take page_size (drop start (children_of row.id moment.rows))) (length (children_of row.id moment.rows)) (update_of moment row)
  page-can start row is counted folder =
      let rows = children_of row.id moment.rows in
      let long = length-filter (is_child_of row.id) moment.rows in
      let few = length-take page_size (drop start rows) in
      let ranges = is.ranges in
      let low = total-fits (count_by (is_child_of row.id) moment.rows) row.trackers (ranges.is.tracked ∙ folder) ranges.trackers counted in
      record {
        each = take-all IsPlainRow page_size (drop start rows) (drop-all IsPlainRow start rows (filtered IsPlainRow (is_child_of row.id) moment.rows plain.each));
        few = omega (arith, few);
        total_fits = omega (arith, long, low);
        update_fits = update-fits row is;
      }

  children-can : (id start : ℕ) (found : Option ObjectRow) → row_of id moment.rows ≡ found → CanBeShownTo (Children id start) (children_reply moment start found)
  children-can id start None e = refl
  children-can id start (Some row) e =
      by (is_folder row.content) (page-can start row (all-at IsPlainRow id moment.rows row plain.each e) (all-at (CountsChildren moment.rows) id moment.rows row plain.tree.counted e))
    where
      by : (t : Bool)
          → (t ≡ true → IsPlainPage (take page_size (drop start (children_of row.id moment.rows))) (length (children_of row.id moment.rows)) (update_of moment row))
          → CanBeShownTo (Children id start)
          (cond t (Page (take page_size (drop start (children_of row.id moment.rows))) (length (children_of row.id moment.rows)) (update_of moment row)) (Fault 710))
      by true can = can refl
      by false can = refl

pub moments-can-be-shown : MomentsCanBeShown
moments-can-be-shown moment Token plain = plain.token
moments-can-be-shown moment AskNumber plain = plain.number
moments-can-be-shown moment (Metadata id) plain = metadata-can moment plain id (row_of id moment.rows) (found-plain moment plain id (row_of id moment.rows) refl)
moments-can-be-shown moment (Children id start) plain = children-can moment plain id start (row_of id moment.rows) refl
