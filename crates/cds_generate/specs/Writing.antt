-- What became of a piece of a script that was to be written.
use Rattle.std.specs.Prelude.{◌≡◌, ◌≤◌, ℕ, List, ◌++◌, Some, Result, OnOk, OnErr, IfErr}
use Rattle.cds_outside.specs.Outside.{HoldsPart, Rose, SinkTold, Told}
use Rattle.cds_generate.specs.declared.error.GenerateError.{GenerateError}
use Rattle.cds_generate.specs.declared.error.GenerateError.TheVariants.{WriteFault, Mem}

-- what holds if a write failed
abbrev pub OnWriteFault : GenerateError → Type 0 → Type 0
OnWriteFault WriteFault P = P
OnWriteFault Mem P = Unit {0}

-- a sink took a text, or after an error a prefix of it. A write that failed shows in the sink's count
pub record Took (result : Result (Unit {0}) GenerateError) (old : SinkTold) (text : List ℕ) (new : SinkTold) : Type 0 where
  pub whole : OnOk result (Told old.holds (λ before. new.holds ≡ Some (before ++ text)))
  pub part : OnErr result (Told old.holds (λ before. HoldsPart before text new.holds))
  pub rose : IfErr result (λ e. OnWriteFault e (Rose old.faults new.faults))
  pub never_falls : old.faults ≤ new.faults
