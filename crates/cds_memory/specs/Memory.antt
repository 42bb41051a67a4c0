-- What callers see of the streams in memory.
use Rattle.std.specs.Prelude.{◌==◌, ℕ, Bool, Some, List}
use Rattle.std.specs.List.{list_any}
use Rattle.cds_outside.specs.Outside.{SinkTold, SourceTold, raised}

-- A source in memory.
pub record SourceState : Type 0 where
  -- the bytes that are left
  pub left : List ℕ
  -- how many bytes it gave
  pub moved : ℕ
  -- how many calls it answered
  pub calls : ℕ
  -- how many of them failed
  pub faults : ℕ
  -- the numbers, counted from 1, of the calls that are to fail
  pub fails : List ℕ

-- What a source in memory tells of itself.
abbrev pub source_told : SourceState → SourceTold
source_told source = record { left = Some source.left; moved = source.moved; faults = source.faults }

-- A sink in memory.
pub record SinkState : Type 0 where
  -- the bytes that it holds
  pub holds : List ℕ
  -- how many more bytes it takes
  pub room : ℕ
  pub calls : ℕ
  pub faults : ℕ
  pub fails : List ℕ

-- What a sink in memory tells of itself.
abbrev pub sink_told : SinkState → SinkTold
sink_told sink = record { holds = Some sink.holds; faults = sink.faults }

-- Whether the next call is one of those that are to fail.
abbrev pub next_fails : List ℕ → ℕ → Bool
next_fails fails calls = list_any (λ number. number == raised calls 1) fails
