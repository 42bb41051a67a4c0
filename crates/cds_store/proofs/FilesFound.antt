-- The files of tracks, found by ids.
use Rattle.std.proofs.Common.{◌≡◌, ◌<◌, ℕ, true, cond, nat_eq, List, [], ◌∷◌, ◌++◌, get_or, Some, None, refl, sym, ◌∙◌, ap, arith}
use Rattle.std.proofs.lemmas.Bool.Decides.{nat_tests}
use Rattle.cds_catalog.specs.Catalog.{PlacedRow}
use Rattle.cds_store.specs.Files.{file_in, file_under}
use Rattle.cds_store.specs.Found.{HasNone, IsPlaceOf}
use Rattle.cds_store.proofs.RowsFound.{is_here}

pub no_file : (id : ℕ) (rows : List PlacedRow) → HasNone id rows → file_under id rows ≡ None
no_file id [] none = refl
no_file id (p ∷ rows) none = (λ i. cond (none.0 i) (file_in p.0 p.1.content) (file_under id rows)) ∙ no_file id rows none.1

itself : (a b : ℕ) → a ≡ b → nat_eq a b ≡ true
itself a b e = grind (arith, nat_tests)

past_front : (id : ℕ) (front : List PlacedRow) (here : PlacedRow) (back : List PlacedRow) → HasNone id front → here.1.id ≡ id
    → file_under id (front ++ here ∷ back) ≡ file_in here.0 here.1.content
past_front id [] here back none is = ap (λ b. cond b (file_in here.0 here.1.content) (file_under id back)) (itself here.1.id id is)
past_front id (p ∷ front) here back none is =
    (λ i. cond (none.0 i) (file_in p.0 p.1.content) (file_under id (front ++ here ∷ back))) ∙ past_front id front here back none.1 is

pub file_found : (id at : ℕ) (rows : List PlacedRow) (x : PlacedRow) → IsPlaceOf id rows at → x ≡ get_or rows at x
    → file_in x.0 x.1.content ≡ file_under id rows
file_found id at rows x place is =
    ap (λ (q : PlacedRow). file_in q.0 q.1.content) (is_here id at rows x place is)
    ∙ sym (ap (λ l. file_under id l) place.parts ∙ past_front id place.front place.here place.back place.before place.is)
