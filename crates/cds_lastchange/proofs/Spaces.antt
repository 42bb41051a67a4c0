-- White space in the parts of a document.
use Rattle.std.proofs.Common.{◌≡◌, ℕ, ◌+◌, Bool, true, false, ◌&&◌, cond, Option, Some, None, List, [], ◌∷◌, refl}
use Rattle.std.specs.List.{list_all}
use Rattle.cds_base.specs.Characters.{is_blank}
use Rattle.cds_markup.specs.Parts.{first_non_blank}

pub non-blank-none : (at : ℕ) (text : List ℕ) → list_all is_blank text ≡ true → first_non_blank at text ≡ None
non-blank-none at [] e = refl
non-blank-none at (b ∷ rest) e = by (is_blank b) e (λ d. non-blank-none (at + 1) rest d) where
  by : (t : Bool) → (t && list_all is_blank rest) ≡ true → (list_all is_blank rest ≡ true → first_non_blank (at + 1) rest ≡ None) → cond t (first_non_blank (at + 1) rest) (Some at) ≡ None
  by true d go = go d
  by false d go = let no : false ≡ true = d in cc

pub none-non-blank : (at : ℕ) (text : List ℕ) → first_non_blank at text ≡ None → list_all is_blank text ≡ true
none-non-blank at [] e = refl
none-non-blank at (b ∷ rest) e = by (is_blank b) e (λ d. none-non-blank (at + 1) rest d) where
  by : (t : Bool) → cond t (first_non_blank (at + 1) rest) (Some at) ≡ None → (first_non_blank (at + 1) rest ≡ None → list_all is_blank rest ≡ true) → (t && list_all is_blank rest) ≡ true
  by true d go = go d
  by false d go = let no : ◌≡◌ {A = Option ℕ} (Some at) None = d in cc

pub and-first : (s t : Bool) → (s && t) ≡ true → s ≡ true
and-first true t e = refl
and-first false t e = let no : false ≡ true = e in cc

pub and-second : (s t : Bool) → (s && t) ≡ true → t ≡ true
and-second true t e = e
and-second false t e = let no : false ≡ true = e in cc
