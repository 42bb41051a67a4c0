-- Criteria as lists of marks, each before the marks of what it has. A proof tells criteria apart by these.
use Rattle.std.specs.Prelude.{◌≡◌, ◌⊎◌, ℕ, Bool, true, false, List, [], ◌∷◌, refl}
use Rattle.std.specs.Coded.{Coded, code_by, coded×, coded⊎, coded_list, coded_ℕ, coded_bool}
use base.Stored.{coded_unit}
use mathlib.Core.Logic.{inl, inr}
use Rattle.std.proofs.Common.{ap, ◌∙◌, get_or}
use Rattle.cds_criteria.specs.Criteria.{Property, Operator, AnyOf, AllOf, Factor, Criteria}
use Rattle.cds_criteria.specs.Criteria.{Id, ParentId, Title, Class, Artist, Album, Genre, TrackNumber, ObjectUpdate, ContainerUpdate, Size, Duration}
use Rattle.cds_criteria.specs.Criteria.{Equals, Differs, Below, AtMost, Above, AtLeast, Contains, DoesNotContain, DerivedFrom}
use Rattle.cds_criteria.specs.Criteria.{First, Or, Single, And, Compare, Exists, Group, Everything, Where}

abbrev pub property_number : Property → ℕ
property_number Id = 0
property_number ParentId = 1
property_number Title = 2
property_number Class = 3
property_number Artist = 4
property_number Album = 5
property_number Genre = 6
property_number TrackNumber = 7
property_number ObjectUpdate = 8
property_number ContainerUpdate = 9
property_number Size = 10
property_number Duration = 11

abbrev pub property_at : ℕ → Property
property_at n =
    get_or (Id ∷ ParentId ∷ Title ∷ Class ∷ Artist ∷ Album ∷ Genre ∷ TrackNumber ∷ ObjectUpdate ∷ ContainerUpdate ∷ Size ∷ Duration ∷ []) n Id

pub property-back : (property : Property) → property_at (property_number property) ≡ property
property-back Id = refl
property-back ParentId = refl
property-back Title = refl
property-back Class = refl
property-back Artist = refl
property-back Album = refl
property-back Genre = refl
property-back TrackNumber = refl
property-back ObjectUpdate = refl
property-back ContainerUpdate = refl
property-back Size = refl
property-back Duration = refl

abbrev pub operator_number : Operator → ℕ
operator_number Equals = 0
operator_number Differs = 1
operator_number Below = 2
operator_number AtMost = 3
operator_number Above = 4
operator_number AtLeast = 5
operator_number Contains = 6
operator_number DoesNotContain = 7
operator_number DerivedFrom = 8

abbrev pub operator_at : ℕ → Operator
operator_at n = get_or (Equals ∷ Differs ∷ Below ∷ AtMost ∷ Above ∷ AtLeast ∷ Contains ∷ DoesNotContain ∷ DerivedFrom ∷ []) n Equals

pub operator-back : (operator : Operator) → operator_at (operator_number operator) ≡ operator
operator-back Equals = refl
operator-back Differs = refl
operator-back Below = refl
operator-back AtMost = refl
operator-back Above = refl
operator-back AtLeast = refl
operator-back Contains = refl
operator-back DoesNotContain = refl
operator-back DerivedFrom = refl

-- a mark: one of the four ways in which alternatives and lists of factors begin, a comparison, a question for existence, or
-- parentheses
abbrev pub Mark : Type 0
Mark = (Bool × Bool) ⊎ ((ℕ × (ℕ × List ℕ)) ⊎ ((ℕ × Bool) ⊎ Unit {0}))

abbrev pub mark_code : Coded Mark
mark_code =
    coded⊎ (coded× coded_bool coded_bool) (coded⊎ (coded× coded_ℕ (coded× coded_ℕ (coded_list coded_ℕ))) (coded⊎ (coded× coded_ℕ coded_bool) coded_unit))

abbrev mutual
  pub any_marks : AnyOf → List Mark → List Mark
  any_marks (First all) rest = inl (false, false) ∷ all_marks all rest
  any_marks (Or any all) rest = inl (false, true) ∷ any_marks any (all_marks all rest)

  pub all_marks : AllOf → List Mark → List Mark
  all_marks (Single factor) rest = inl (true, false) ∷ factor_marks factor rest
  all_marks (And all factor) rest = inl (true, true) ∷ all_marks all (factor_marks factor rest)

  pub factor_marks : Factor → List Mark → List Mark
  factor_marks (Compare property operator value) rest = inr (inl (property_number property, (operator_number operator, value))) ∷ rest
  factor_marks (Exists property there) rest = inr (inr (inl (property_number property, there))) ∷ rest
  factor_marks (Group any) rest = inr (inr (inr tt)) ∷ any_marks any rest

-- what marks give back, that of the first mark on top
pub data Given : Type 0 where
  Any : AnyOf → Given
  All : AllOf → Given
  One : Factor → Given

abbrev pub with_first : List Given → List Given
with_first [] = []
with_first (Any any ∷ given) = given
with_first (All all ∷ given) = Any (First all) ∷ given
with_first (One factor ∷ given) = given

abbrev pub or_with : AnyOf → List Given → List Given
or_with any [] = []
or_with any (Any other ∷ given) = given
or_with any (All all ∷ given) = Any (Or any all) ∷ given
or_with any (One factor ∷ given) = given

abbrev pub with_or : List Given → List Given
with_or [] = []
with_or (Any any ∷ given) = or_with any given
with_or (All all ∷ given) = given
with_or (One factor ∷ given) = given

abbrev pub with_single : List Given → List Given
with_single [] = []
with_single (Any any ∷ given) = given
with_single (All all ∷ given) = given
with_single (One factor ∷ given) = All (Single factor) ∷ given

abbrev pub and_with : AllOf → List Given → List Given
and_with all [] = []
and_with all (Any any ∷ given) = given
and_with all (All other ∷ given) = given
and_with all (One factor ∷ given) = All (And all factor) ∷ given

abbrev pub with_and : List Given → List Given
with_and [] = []
with_and (Any any ∷ given) = given
with_and (All all ∷ given) = and_with all given
with_and (One factor ∷ given) = given

abbrev pub with_group : List Given → List Given
with_group [] = []
with_group (Any any ∷ given) = One (Group any) ∷ given
with_group (All all ∷ given) = given
with_group (One factor ∷ given) = given

abbrev pub with_joint : Bool → Bool → List Given → List Given
with_joint false false given = with_first given
with_joint false true given = with_or given
with_joint true false given = with_single given
with_joint true true given = with_and given

abbrev pub read_mark : Mark → List Given → List Given
read_mark (inl joint) given = with_joint joint.0 joint.1 given
read_mark (inr (inl test)) given = One (Compare (property_at test.0) (operator_at test.1.0) test.1.1) ∷ given
read_mark (inr (inr (inl there))) given = One (Exists (property_at there.0) there.1) ∷ given
read_mark (inr (inr (inr group))) given = with_group given

abbrev pub unmarked : List Mark → List Given
unmarked [] = []
unmarked (mark ∷ marks) = read_mark mark (unmarked marks)

mutual
  pub any-read : (any : AnyOf) (rest : List Mark) → unmarked (any_marks any rest) ≡ Any any ∷ unmarked rest
  any-read (First all) rest = ap with_first (all-read all rest)
  any-read (Or any all) rest = ap with_or (any-read any (all_marks all rest)) ∙ ap (or_with any) (all-read all rest)

  pub all-read : (all : AllOf) (rest : List Mark) → unmarked (all_marks all rest) ≡ All all ∷ unmarked rest
  all-read (Single factor) rest = ap with_single (factor-read factor rest)
  all-read (And all factor) rest = ap with_and (all-read all (factor_marks factor rest)) ∙ ap (and_with all) (factor-read factor rest)

  pub factor-read : (factor : Factor) (rest : List Mark) → unmarked (factor_marks factor rest) ≡ One factor ∷ unmarked rest
  factor-read (Compare property operator value) rest =
      ap (λ p. One (Compare p (operator_at (operator_number operator)) value) ∷ unmarked rest) (property-back property)
      ∙ ap (λ o. One (Compare property o value) ∷ unmarked rest) (operator-back operator)
  factor-read (Exists property there) rest = ap (λ p. One (Exists p there) ∷ unmarked rest) (property-back property)
  factor-read (Group any) rest = ap with_group (any-read any rest)

abbrev pub no_factor : Factor
no_factor = Exists Id true

abbrev pub first_any : List Given → AnyOf
first_any [] = First (Single no_factor)
first_any (Any any ∷ given) = any
first_any (All all ∷ given) = First all
first_any (One factor ∷ given) = First (Single factor)

abbrev pub first_all : List Given → AllOf
first_all [] = Single no_factor
first_all (Any any ∷ given) = Single (Group any)
first_all (All all ∷ given) = all
first_all (One factor ∷ given) = Single factor

abbrev pub first_factor : List Given → Factor
first_factor [] = no_factor
first_factor (Any any ∷ given) = Group any
first_factor (All all ∷ given) = no_factor
first_factor (One factor ∷ given) = factor

abbrev pub any_code : Coded AnyOf
any_code = code_by (List Mark) (coded_list mark_code) (λ any. any_marks any []) (λ marks. first_any (unmarked marks)) (λ any. ap first_any (any-read any []))

abbrev pub all_code : Coded AllOf
all_code = code_by (List Mark) (coded_list mark_code) (λ all. all_marks all []) (λ marks. first_all (unmarked marks)) (λ all. ap first_all (all-read all []))

abbrev pub factor_code : Coded Factor
factor_code =
    code_by (List Mark) (coded_list mark_code) (λ factor. factor_marks factor []) (λ marks. first_factor (unmarked marks)) (λ factor. ap first_factor (factor-read factor []))

abbrev pub criteria_marks : Criteria → List Mark
criteria_marks Everything = []
criteria_marks (Where any) = any_marks any []

abbrev pub criteria_of_given : List Given → Criteria
criteria_of_given [] = Everything
criteria_of_given (given ∷ others) = Where (first_any (given ∷ others))

pub criteria-read : (criteria : Criteria) → criteria_of_given (unmarked (criteria_marks criteria)) ≡ criteria
criteria-read Everything = refl
criteria-read (Where any) = ap criteria_of_given (any-read any [])

abbrev pub criteria_code : Coded Criteria
criteria_code = code_by (List Mark) (coded_list mark_code) criteria_marks (λ marks. criteria_of_given (unmarked marks)) criteria-read
