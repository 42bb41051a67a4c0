-- Loops over the rows of a copy, and what is decided before changes are counted.
use Rattle.std.proofs.Common.{◌≡◌, ◌+◌, ◌<◌, ℕ, Bool, true, false, cond, ◌||◌, nat_eq, List, [], ◌∷◌, ◌++◌, map, length, take, drop, get_or, Option, Some, None, refl, sym, ap, ◌∙◌, arith}
use Rattle.std.proofs.lemmas.Bool.{eqb-false}
use Rattle.std.proofs.Math.ListN.{set}
use Rattle.std.proofs.lemmas.List.{take-append-drop, take-set, drop-set, drop_more}
use Rattle.std.proofs.lemmas.List.Edits.{map_over_more}
use Rattle.std.specs.List.{AllByRecursion}
use Rattle.cds_object.specs.declared.event.Event.{Event}
use Rattle.cds_object.specs.declared.event.Event.TheVariants.{ObjAdd, ObjMod, ObjDel, StDone}
use Rattle.cds_catalog.proofs.StepsFind.{none≢some}
use Rattle.cds_follow.specs.Copy.{Version, KnownRow, changed, cannot_be}
use Rattle.cds_replica.specs.CopyState.{KeptRow, KeptCopy, bare_rows}
use Rattle.cds_replica.specs.CopySteps.{read_of_row, rows_read, rows_changed_by, AddsNoRoot, cannot_come, first_cannot, judged_count, count_from, leap_from}
use Rattle.cds_replica.specs.Outlines.{outlines_of, outlines_cannot}
use Rattle.cds_replica.specs.declared.outline.Outline.{Outline}
use Rattle.cds_replica.specs.declared.count_error.CountError.TheVariants.{Jump}
use Rattle.cds_replica.proofs.KeptOutlines.{outlined-cannot}
use Rattle.cds_object.specs.Events.{update_of, object_of}
use Rattle.cds_load.specs.Outcome.{Goes, Jumps, Tears}

-- a loop that changes each item of a list in its place
pub one_more_changed : {X : Type 0} (f : X → X) (xs ys : List X) (i : ℕ) (x : X) → i < length xs →
    ys ≡ map f (take i xs) ++ drop i xs → x ≡ get_or ys i x →
    set ys i (f (get_or ys i x)) ≡ map f (take (i + 1) xs) ++ drop (i + 1) xs
one_more_changed f xs ys i x within so_far is = ap (λ y. set ys i (f y)) (sym is) ∙ map_over_more f xs ys i x within so_far is

-- an item put in the place of another
set-parts : {X : Type 0} (xs : List X) (i : ℕ) (y : X) → i < length xs → set xs i y ≡ take i xs ++ y ∷ drop (i + 1) xs
set-parts xs i y within =
    sym (take-append-drop i (set xs i y)) ∙ (λ j. take-set xs i y j ++ drop-set xs i y within j)

-- the row of an object is found, and read
pub read-here : (id : ℕ) (v : Version) (rows : List KeptRow) (i : ℕ) (row : KeptRow) → i < length rows → row ≡ get_or rows i row → nat_eq id row.row.id ≡ true
    → set rows i (read_of_row v row) ≡ take i rows ++ rows_read id v (drop i rows)
read-here id v rows i row within is e =
    set-parts rows i (read_of_row v row) within
    ∙ ap (λ (rest : List KeptRow). take i rows ++ rest) (
    (λ j. cond (sym e j) (read_of_row v row ∷ drop (i + 1) rows) (row ∷ rows_read id v (drop (i + 1) rows)))
    ∙ ap (rows_read id v) (ap (λ (x : KeptRow). x ∷ drop (i + 1) rows) is ∙ sym (drop_more rows i row within)))

-- ---- what is decided before changes are counted

module _ (copy : KeptCopy) (at : ℕ) where
  leaps-not : (event : Event) (events : List Event) → leap_from at (event ∷ events) ≡ None → nat_eq (update_of event) (at + 1) ≡ true
  leaps-not event events e = by (nat_eq (update_of event) (at + 1)) e
    where
      by : (b : Bool) → cond b None (Some (Jump (at + 1) (update_of event))) ≡ None → b ≡ true
      by true f = refl
      by false f = none≢some None (Jump (at + 1) (update_of event)) refl (sym f)

  pub count-torn : (events : List Event) (id : ℕ) → leap_from at events ≡ None → first_cannot (bare_rows copy) events ≡ Some id → count_from copy at events ≡ Tears id
  count-torn [] id e f = none≢some None id refl f
  count-torn (event ∷ events) id e f =
      (λ i. cond (leaps-not event events e i) (judged_count copy (event ∷ events) (f i)) (Jumps (at + 1) (update_of event)))

  pub count-counts : (events : List Event) → leap_from at events ≡ None → first_cannot (bare_rows copy) events ≡ None
      → count_from copy at events ≡ Goes (record { rows = rows_changed_by copy.rows events; read_up_to = copy.read_up_to })
  count-counts [] e f = refl
  count-counts (event ∷ events) e f =
      (λ i. cond (leaps-not event events e i) (judged_count copy (event ∷ events) (f i)) (Jumps (at + 1) (update_of event)))

-- what was decided in outline
pub decided : (copy : KeptCopy) (events : List Event) (outlines : List Outline) (found o : Option ℕ) → outlines ≡ outlines_of copy.rows
    → found ≡ outlines_cannot outlines events → found ≡ o → first_cannot (bare_rows copy) events ≡ o
decided copy events outlines found o same is e =
    sym (outlined-cannot copy.rows events) ∙ ap (λ (l : List Outline). outlines_cannot l events) (sym same) ∙ sym is ∙ e

-- what can be adds no root
positive : (n : ℕ) → nat_eq n 0 ≡ false → 0 < n
positive n e = let apart = eqb-false n 0 e in omega (arith, apart)

come-no-root : (rows : List KnownRow) (event : Event) → cannot_come rows event ≡ false → AddsNoRoot event
come-no-root rows (ObjAdd id number st parent class) e = positive id (left (nat_eq id 0) (cannot_be rows (ObjAdd id number st parent class)) e)
  where
    left : (a b : Bool) → a || b ≡ false → a ≡ false
    left true b f = f
    left false b f = refl
come-no-root rows (ObjMod id number st) e = tt
come-no-root rows (ObjDel id number st) e = tt
come-no-root rows (StDone id number) e = tt

pub no-root : (rows : List KnownRow) (events : List Event) → first_cannot rows events ≡ None → AllByRecursion AddsNoRoot events
no-root rows [] e = tt
no-root rows (event ∷ events) e = by (cannot_come rows event) refl e (λ f. no-root (changed rows event) events f)
  where
    by : (b : Bool) → cannot_come rows event ≡ b → cond b (Some (object_of event)) (first_cannot (changed rows event) events) ≡ None
        → (first_cannot (changed rows event) events ≡ None → AllByRecursion AddsNoRoot events) → AllByRecursion AddsNoRoot (event ∷ events)
    by true x f r = none≢some None (object_of event) refl (sym f)
    by false x f r = (come-no-root rows event x, r f)
