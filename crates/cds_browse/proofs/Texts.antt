-- The text of rows, one more at a time.
use Rattle.std.proofs.Common.{◌≡◌, ◌+◌, ◌<◌, ℕ, zero, suc, ◌++◌, List, [], ◌∷◌, Some, None, length, take, sym, ◌∙◌, ap, arith}
use Rattle.std.specs.Prelude.{slice_get}
use Rattle.std.proofs.lemmas.List.{take_more}
use Rattle.std.proofs.lemmas.List.Concat.{flat_map-append}
use Rattle.std.proofs.lemmas.Option.{slice_get_within, get_or_from_slice_get}
use Rattle.cds_object.specs.Object.{ObjectRow}
use Rattle.cds_object.specs.Fragment.{fragment, full_text}

pub text_more : (rows : List ObjectRow) (k : ℕ) (row : ObjectRow) → slice_get rows k ≡ Some row → full_text (take k rows) ++ full_text (row ∷ []) ≡ full_text (take (k + 1) rows)
text_more rows k row is =
    sym (flat_map-append (λ (r : ObjectRow). fragment r ++ 10 ∷ []) (take k rows) (row ∷ []))
    ∙ ap full_text (sym (take_more rows k row (slice_get_within rows k row is) ∙ ap (λ (r : ObjectRow). take k rows ++ r ∷ []) (get_or_from_slice_get rows k row row is)))

-- within the rows there is one at each place
pub some_row : (rows : List ObjectRow) (k : ℕ) (P : Type 0) → k < length rows → slice_get rows k ≡ None → P
some_row [] k P within none = absurd (omega (arith, within))
some_row (row ∷ rows) zero P within none = absurd (cc)
some_row (row ∷ rows) (suc k) P within none = some_row rows k P (omega (arith, within)) none
