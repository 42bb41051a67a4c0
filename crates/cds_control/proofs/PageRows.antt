-- The rows of a page, one by one.
use Rattle.std.proofs.Common.{◌≡◌, ◌+◌, ◌<◌, ◌++◌, ℕ, List, [], ◌∷◌, take, get_or, length, sym, ◌∙◌, ap}
use Rattle.std.proofs.lemmas.List.{take_more}
use Rattle.std.proofs.lemmas.List.Elements.{filter_map-append}
use Rattle.cds_object.specs.Object.{ObjectRow}
use Rattle.cds_object.specs.Tree.{row_of}
use Rattle.cds_control.specs.Answering.{rows_with}

-- the rows of the ids up to a place, and the one there
pub next-copied : (rows : List ObjectRow) (ids : List ℕ) (at id d : ℕ) (so_far after : List ObjectRow) → at < length ids → id ≡ get_or ids at d
    → so_far ≡ rows_with (take at ids) rows → after ≡ so_far ++ rows_with (id ∷ []) rows → after ≡ rows_with (take (at + 1) ids) rows
next-copied rows ids at id d so_far after in_range is now next =
    next ∙ ap (λ t. t ++ rows_with (id ∷ []) rows) now ∙ sym (filter_map-append (λ i. row_of i rows) (take at ids) (id ∷ []))
    ∙ ap (λ t. rows_with t rows) (sym (take_more ids at d in_range ∙ ap (λ x. take at ids ++ x ∷ []) (sym is)))
