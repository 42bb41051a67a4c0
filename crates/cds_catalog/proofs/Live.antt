-- What stands after changes, as a list.
use Rattle.std.specs.Prelude.{ℕ, cond, not, filter, map, List, [], ◌∷◌, ◌++◌}
use Rattle.cds_object.specs.Path.{same_path}
use Rattle.cds_object.specs.declared.content.Content.{Content}
use Rattle.cds_catalog.specs.declared.change.Change.{Change}
use Rattle.cds_catalog.specs.declared.change.Change.TheVariants.{Deletion, Addition, Modification}

-- all that stands after changes, in the order of additions
abbrev pub live : List Change → List (List (List ℕ) × Content)
live [] = []
live (Deletion at ∷ older) = filter (λ entry. not (same_path at entry.0)) (live older)
live (Addition at content ∷ older) = live older ++ (at, content) ∷ []
live (Modification at content ∷ older) = map (λ entry. cond (same_path at entry.0) (entry.0, content) entry) (live older)
