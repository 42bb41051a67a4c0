-- Rows that are a tree, by look-ups of their ids.
use Rattle.std.proofs.Common.{◌≡◌, ℕ, ◌<◌, nat_eq, List, [], ◌∷◌, Bool, true, false, cond, refl, ap, sym, subst, ◌∙◌, arith, Option, Some, None}
use Rattle.std.proofs.lemmas.Bool.{eq-eqb, ne_eqb, eqb-true}
use Rattle.std.specs.List.{AllByRecursion}
use Rattle.cds_object.specs.Object.{ObjectRow, is_folder}
use Rattle.cds_object.specs.Tree.{row_of, is_container_row, IdsAscend}
use Rattle.cds_load.proofs.Merge.{Rises}

abbrev pub id_of : ObjectRow → ℕ
id_of row = row.id

-- what holds of each leads to what holds of each
pub all-map : {X : Type 0} {P Q : X → Type 0} → ((x : X) → P x → Q x) → (xs : List X) → AllByRecursion P xs → AllByRecursion Q xs
all-map f [] all = tt
all-map f (x ∷ xs) all = (f x all.0, all-map f xs all.1)

pub all-map_two : {X : Type 0} {P Q R : X → Type 0} → ((x : X) → P x → Q x → R x) → (xs : List X) →
    AllByRecursion P xs → AllByRecursion Q xs → AllByRecursion R xs
all-map_two f [] all more = tt
all-map_two f (x ∷ xs) all more = (f x all.0 more.0, all-map_two f xs all.1 more.1)

-- rows whose ids rise one by one rise above each that came before
pub below-all : (n : ℕ) (row : ObjectRow) (rows : List ObjectRow) → n < row.id → IdsAscend (row ∷ rows) → AllByRecursion (λ (r : ObjectRow). n < r.id) rows
below-all n row [] below ascends = tt
below-all n row (next ∷ rows) below ascends =
    let above : n < next.id = omega (arith, ascends.0) in (above, below-all n next rows above ascends.1)

pub ascend-rises : (rows : List ObjectRow) → IdsAscend rows → Rises id_of rows
ascend-rises [] ascends = tt
ascend-rises (row ∷ []) ascends = (tt, tt)
ascend-rises (row ∷ next ∷ rows) ascends = ((ascends.0, below-all row.id next rows ascends.0 ascends.1), ascend-rises (next ∷ rows) ascends.1)

-- each row is found by its id
pub each-found : (rows : List ObjectRow) → Rises id_of rows → AllByRecursion (λ (r : ObjectRow). row_of r.id rows ≡ Some r) rows
each-found [] rises = tt
each-found (row ∷ rows) rises = (
  ap (λ b. cond b (Some row) (row_of row.id rows)) (eq-eqb row.id row.id refl),
  all-map_two (λ r above found. ap (λ b. cond b (Some row) (row_of r.id rows)) (ne_eqb row.id r.id (λ e. absurd (omega (arith, above, e)))) ∙ found)
      rows rises.0 (each-found rows rises.1),
)

-- a row that is found has the id, and what holds of each row
pub found-id : (id : ℕ) (rows : List ObjectRow) (row : ObjectRow) → row_of id rows ≡ Some row → row.id ≡ id
found-id id [] row found = cc
found-id id (next ∷ rows) row found = by (nat_eq next.id id) refl found (found-id id rows row)
  where
    by : (b : Bool) → nat_eq next.id id ≡ b → cond b (Some next) (row_of id rows) ≡ Some row → (row_of id rows ≡ Some row → row.id ≡ id) → row.id ≡ id
    by true e is rest = let same : next ≡ row = cc in ap id_of (sym same) ∙ eqb-true next.id id e
    by false e is rest = rest is

pub all-at : (P : ObjectRow → Type 0) (id : ℕ) (rows : List ObjectRow) (row : ObjectRow) → AllByRecursion P rows → row_of id rows ≡ Some row → P row
all-at P id [] row all found = absurd (cc)
all-at P id (next ∷ rows) row all found = by (nat_eq next.id id) found (all-at P id rows row all.1)
  where
    by : (b : Bool) → cond b (Some next) (row_of id rows) ≡ Some row → (row_of id rows ≡ Some row → P row) → P row
    by true is rest = let same : next ≡ row = cc in subst P same all.0
    by false is rest = rest is

-- a container that is looked up is a folder's row
pub folder-found : (o : Option ObjectRow) → is_container_row o ≡ true → (row : ObjectRow) × (o ≡ Some row) × (is_folder row.content ≡ true)
folder-found None e = absurd (cc)
folder-found (Some row) e = (row, refl, e)
