-- Which ids were shown before.
use Rattle.std.specs.Prelude.{ℕ, Bool, nat_eq, List, ◌||◌}
use Rattle.std.specs.List.{list_any}
use Rattle.cds_object.specs.Object.{ObjectRow}

-- whether a row has this id
abbrev pub has_id : ℕ → ObjectRow → Bool
has_id id row = nat_eq id row.id

-- whether an id was shown before: in whole listings, in the part of one, or earlier in the page
abbrev pub was_shown : ℕ → List ObjectRow → List ObjectRow → List ObjectRow → Bool
was_shown id rows part earlier = list_any (has_id id) rows || list_any (has_id id) part || list_any (has_id id) earlier
