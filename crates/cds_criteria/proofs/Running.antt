-- The tokens of criteria lead the reading from its start to them.
use Rattle.std.proofs.Common.{◌≡◌, ◌++◌, ℕ, suc, zero, List, [], ◌∷◌, Option, Some, None, refl, ap, ◌∙◌, append_assoc}
use Rattle.cds_criteria.specs.Criteria.{AnyOf, AllOf, Factor, Token}
use Rattle.cds_criteria.specs.Criteria.{First, Or, Single, And, Compare, Exists, Group}
use Rattle.cds_criteria.specs.Criteria.{Close, AndWord, OrWord}
use Rattle.cds_criteria.specs.Criteria.{any_tokens, all_tokens, factor_tokens, AnyFits, AllFits, FactorFits}
use Rattle.cds_criteria.specs.Reading.{Reading, Level, Inside, Term, Joint, no_level, after_factor, level_any, next}

-- a reading over tokens
abbrev pub run : Reading → List Token → Option Reading
run reading [] = Some reading
run reading (token ∷ tokens) = elim (next reading token) [ None ↦ None | Some further ↦ run further tokens ]

-- the level at which criteria are read
abbrev pub level_of : AnyOf → Level
level_of (First all) = record { before = None; factors = Some all }
level_of (Or any all) = record { before = Some any; factors = Some all }

pub any-of-level : (any : AnyOf) → level_any (level_of any) ≡ Some any
any-of-level (First all) = refl
any-of-level (Or any all) = refl

at_or : (any : AnyOf) (room : ℕ) (outer : List Level) (tokens : List Token)
    → run (Inside Joint room (level_of any) outer) (OrWord ∷ tokens) ≡ run (Inside Term room (record { before = Some any; factors = None }) outer) tokens
at_or (First all) room outer tokens = refl
at_or (Or any all) room outer tokens = refl

at_close : (any : AnyOf) (room : ℕ) (level : Level) (outer : List Level) (tokens : List Token)
    → run (Inside Joint room (level_of any) (level ∷ outer)) (Close ∷ tokens) ≡ run (after_factor (Group any) (suc room) level outer) tokens
at_close (First all) room level outer tokens = refl
at_close (Or any all) room level outer tokens = refl

mutual
  pub run-any : (any : AnyOf) (room : ℕ) → AnyFits room any → (outer : List Level) (rest : List Token)
      → run (Inside Term room no_level outer) (any_tokens any ++ rest) ≡ run (Inside Joint room (level_of any) outer) rest
  run-any (First all) room fits outer rest = run-all all room fits None outer rest
  run-any (Or any all) room fits outer rest =
      ap (run (Inside Term room no_level outer)) (append_assoc (any_tokens any) (OrWord ∷ all_tokens all) rest)
      ∙ (run-any any room fits.0 outer (OrWord ∷ all_tokens all ++ rest)
      ∙ (at_or any room outer (all_tokens all ++ rest) ∙ run-all all room fits.1 (Some any) outer rest))

  pub run-all : (all : AllOf) (room : ℕ) → AllFits room all → (before : Option AnyOf) (outer : List Level) (rest : List Token)
      → run (Inside Term room (record { before = before; factors = None }) outer) (all_tokens all ++ rest)
      ≡ run (Inside Joint room (record { before = before; factors = Some all }) outer) rest
  run-all (Single factor) room fits before outer rest = run-factor factor room fits (record { before = before; factors = None }) outer rest
  run-all (And all factor) room fits before outer rest =
      ap (run (Inside Term room (record { before = before; factors = None }) outer)) (append_assoc (all_tokens all) (AndWord ∷ factor_tokens factor) rest)
      ∙ (run-all all room fits.0 before outer (AndWord ∷ factor_tokens factor ++ rest)
      ∙ run-factor factor room fits.1 (record { before = before; factors = Some all }) outer rest)

  pub run-factor : (factor : Factor) (room : ℕ) → FactorFits room factor → (level : Level) (outer : List Level) (rest : List Token)
      → run (Inside Term room level outer) (factor_tokens factor ++ rest) ≡ run (after_factor factor room level outer) rest
  run-factor (Compare property operator value) room fits level outer rest = refl
  run-factor (Exists property there) room fits level outer rest = refl
  run-factor (Group any) zero fits level outer rest = absurd fits
  run-factor (Group any) (suc room) fits level outer rest =
      ap (run (Inside Term room no_level (level ∷ outer))) (append_assoc (any_tokens any) (Close ∷ []) rest)
      ∙ (run-any any room fits (level ∷ outer) (Close ∷ rest) ∙ at_close any room level outer rest)
