-- The ids of the children among some rows: there are at most as many as rows, and a page of them is that of the rows.
use Rattle.std.proofs.Common.{◌≡◌, ◌∙◌, ap, ℕ, ◌≤◌, List, ◌++◌, length, map, take, drop, arith}
use Rattle.std.proofs.lemmas.List.{take-map, drop-map, length-map}
use Rattle.std.proofs.lemmas.List.Sums.{length-filter, count_by-le-length}
use Rattle.cds_object.specs.Object.{ObjectRow}
use Rattle.cds_object.specs.Tree.{children_of, is_child_of}
use Rattle.cds_catalog.specs.Catalog.{PlacedRow}
use Rattle.cds_store.specs.Rows.{rows_of}

pub ids_are_few : (id : ℕ) (rows : List PlacedRow) (ids : List ℕ) → ids ≡ map (λ (r : ObjectRow). r.id) (children_of id (rows_of rows)) →
    length ids ≤ length rows
ids_are_few id rows ids is =
    let rows' : List ObjectRow = rows_of rows in
    let a = ap length is in
    let b = length-map (children_of id rows') (λ (r : ObjectRow). r.id) in
    let c = length-filter (is_child_of id) rows' in
    let d = count_by-le-length (is_child_of id) rows' in
    let e = length-map rows (λ (placed : PlacedRow). placed.1) in
    omega (arith, a, b, c, d, e)

pub page_of_ids : (out new page ids : List ℕ) (start count : ℕ) (children : List ObjectRow) →
    new ≡ out ++ page → page ≡ take count (drop start ids) → ids ≡ map (λ (r : ObjectRow). r.id) children →
    new ≡ out ++ map (λ (r : ObjectRow). r.id) (take count (drop start children))
page_of_ids out new page ids start count children n p i =
    let f : ObjectRow → ℕ = λ r. r.id in
    n ∙ ap (λ x. out ++ x) (p ∙ ap (λ x. take count (drop start x)) i ∙ ap (take count) (drop-map f start children) ∙ take-map f count (drop start children))
