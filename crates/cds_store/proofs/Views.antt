-- What holds of the rows that a store shows.
use Rattle.std.proofs.Common.{◌≡◌, ◌+◌, ◌<◌, ◌^◌, length, refl, sym, ap, subst, arith}
use Rattle.std.proofs.lemmas.List.{length-map}
use Rattle.cds_catalog.specs.Catalog.{PlacedRow, catalog}
use Rattle.cds_catalog.specs.History.{end_of, changes_of}
use Rattle.cds_catalog.specs.Laws.{IsWithin}
use Rattle.cds_catalog.specs.Steps.{Standing, standing_of}
use Rattle.cds_catalog.proofs.StepsFind.{each-weaker}
use Rattle.cds_catalog.proofs.StepsWithin.{rows_are_within-proof}
use Rattle.cds_store.specs.Rows.{rows_of}
use Rattle.cds_store.specs.Laws.{stores_show_their_catalogs}
use Rattle.cds_store.specs.Stands.{Stored, IsStore}
use Rattle.cds_store.specs.Views.{IdsFit, IsView}
use Rattle.cds_store.proofs.Ascending.{rows_ascend}

ids_fit : (store : Stored) → IsStore store → store.standing.number < 2 ^ 32 → IdsFit (rows_of store.standing.rows)
ids_fit store is fits =
    let within = rows_are_within-proof is.history is.stands.0 in
    let number : store.standing.number ≡ end_of is.history = ap (λ (s : Standing). s.number) is.stands.1 in
    subst (λ (s : Standing). IdsFit (rows_of s.rows)) (sym is.stands.1)
    (each-weaker (IsWithin (standing_of is.history)) (λ row. row.id < 2 ^ 32)
    (λ row w. let id = w.id in let drawn = within.1 in let many : end_of is.history ≡ is.history.first + length (changes_of is.history.maps) = refl in omega (arith, id, drawn, many, number, fits))
    (catalog is.history) within.0)

pub is_view : (store : Stored) → IsStore store → store.standing.number < 2 ^ 32 → IsView (rows_of store.standing.rows)
is_view store is fits = record {
  ascending = rows_ascend store is;
  fit = ids_fit store is fits;
  few = let some = is.few in let same = length-map store.standing.rows (λ (placed : PlacedRow). placed.1) in omega (arith, some, same);
}

-- what a store shows of the history that it stands for
pub shown : stores_show_their_catalogs
shown store history stands = (ap (λ (s : Standing). s.number) stands.1, ap (λ (s : Standing). rows_of s.rows) stands.1)
