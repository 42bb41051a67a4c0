-- A lemma on the entries that a folder gave.
use Rattle.std.proofs.Common.{◌≡◌, ℕ, true, false, ◌||◌, List, [], ◌∷◌, ◌++◌, ◌∙◌, ap}
use Rattle.std.specs.List.{list_any}
use Rattle.std.specs.Cmp.Lexicographic.{nat_list_eq_equiv}
use Rattle.std.proofs.lemmas.List.Folds.{list_any-append}
use Rattle.std.proofs.Math.Bool.{or-true}
use Rattle.cds_outside.specs.declared.folder.Entry.{Entry}
use Rattle.cds_outside.specs.declared.folder.Entry.TheVariants.{File}
use Rattle.cds_outside.specs.Entries.{is_file_at}

-- a file that was given last stands among the entries given
pub just_given : (given : List Entry) (path : List ℕ) (size : ℕ) → list_any (is_file_at path) (given ++ File path size ∷ []) ≡ true
just_given given path size =
    list_any-append (is_file_at path) given (File path size ∷ [])
    ∙ ap (λ b. list_any (is_file_at path) given || (b || false)) (nat_list_eq_equiv.refl path)
    ∙ or-true (list_any (is_file_at path) given)
