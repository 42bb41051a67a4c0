-- What callers see of the clocks in memory.
use Rattle.std.specs.Prelude.{ℕ, Some, List, [], ◌∷◌, max}
use Rattle.cds_outside.specs.Told.{ClockTold}

-- A clock in memory.
pub record ClockState : Type 0 where
  -- the moments that are left, the next one first
  pub moments : List ℕ
  -- the last moment that it gave, 0 before the first
  pub last : ℕ
  -- the moments that it gave
  pub gave : List ℕ
  -- how many calls of `now` it answered, and how many of them failed
  pub calls : ℕ
  pub faults : ℕ
  -- the numbers, counted from 1, of the calls of `now` that are to fail
  pub fails : List ℕ

-- The moment that comes next: the first that is left, or the last one again. The last one comes if none is left or if the moment
-- would fall.
abbrev pub moment_after : List ℕ → ℕ → ℕ
moment_after [] last = last
moment_after (moment ∷ moments) last = max last moment

-- The same clock before anything was asked of it.
abbrev pub fresh_clock : ClockState → ClockState
fresh_clock clock = record { moments = clock.moments; last = 0; gave = []; calls = 0; faults = 0; fails = clock.fails }

-- What a clock in memory tells of itself.
abbrev pub clock_told : ClockState → ClockTold
clock_told clock = record { last = clock.last; gave = Some clock.gave; faults = clock.faults }
