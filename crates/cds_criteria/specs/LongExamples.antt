-- Texts at the limit of 4,096 bytes, evaluated from the definitions.
use Rattle.std.specs.Prelude.{◌≡◌, ℕ, zero, suc, List, [], ◌∷◌, ◌++◌, codes, Ok, Err}
use Rattle.cds_criteria.specs.Criteria.{Everything}
use Rattle.cds_criteria.specs.Reading.{criteria_read}
use Rattle.cds_criteria.specs.Sorting.{keys_read}

abbrev spaces : ℕ → List ℕ
spaces zero = []
spaces (suc n) = 32 ∷ spaces n

abbrev pub LongTexts : Type 0
LongTexts =
    (criteria_read (codes "*" ++ spaces 4095) ≡ Ok Everything)
    × (criteria_read (codes "*" ++ spaces 4096) ≡ Err 4096)
    × (criteria_read (codes "=" ++ spaces 4096) ≡ Err 4096)
    × (criteria_read (spaces 4096) ≡ Err 4096)
    × (keys_read (codes "=" ++ spaces 4095) ≡ Err 0)
    × (keys_read (codes "=" ++ spaces 4096) ≡ Err 4096)
