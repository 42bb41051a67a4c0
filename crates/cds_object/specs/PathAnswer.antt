-- The answers to reading the text of a path.
use Rattle.std.specs.Prelude.{◌≡◌, ℕ, List, Result, Ok, Err}
use Rattle.cds_object.specs.Path.{path_read}
use Rattle.cds_object.specs.declared.error.PathError.{PathError}
use Rattle.cds_object.specs.declared.error.PathError.TheVariants.{BadPath, Mem}

-- the names that the text is, or the place at which it is no path, exactly as the reading says; memory may run out
abbrev pub IsPathAnswer : List ℕ → Result (List (List ℕ)) PathError → Type 0
IsPathAnswer text (Ok path) = path_read text ≡ Ok path
IsPathAnswer text (Err (BadPath at)) = path_read text ≡ Err at
IsPathAnswer text (Err Mem) = Unit {0}
