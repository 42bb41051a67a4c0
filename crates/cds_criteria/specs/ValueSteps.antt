-- What a byte is in a value.
use Rattle.std.specs.Prelude.{◌==◌, ◌||◌, ℕ, Bool, true, false, cond}
use Rattle.cds_criteria.specs.declared.token.ValueStep.{ValueStep}
use Rattle.cds_criteria.specs.declared.token.ValueStep.TheVariants.{Ends, Strays, Escapes, Grows}

-- by whether a `\` stands before the byte
abbrev pub value_step : Bool → ℕ → ValueStep
value_step false b = cond (b == 34) Ends (cond (b == 92) Escapes Grows)
value_step true b = cond (b == 34 || b == 92) Grows Strays
