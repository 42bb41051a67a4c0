-- What callers see of the datagrams in memory.
use Rattle.std.specs.Prelude.{ℕ, Some, List, []}
use Rattle.cds_outside.specs.declared.datagrams.DatagramReply.{DatagramReply}
use Rattle.cds_outside.specs.Datagrams.{DatagramsTold}

-- Datagrams in memory.
pub record DatagramsState : Type 0 where
  -- the datagrams that are left, the next one first
  pub left : List (List ℕ)
  -- the replies that were to be sent
  pub sent : List DatagramReply
  -- how many datagrams were given
  pub given : ℕ
  -- how many calls were answered, and how many of them failed
  pub calls : ℕ
  pub faults : ℕ
  -- the numbers, counted from 1, of the calls that are to fail
  pub fails : List ℕ

-- The same datagrams before anything was asked of them.
abbrev pub fresh_datagrams : DatagramsState → DatagramsState
fresh_datagrams datagrams = record { left = datagrams.left; sent = []; given = 0; calls = 0; faults = 0; fails = datagrams.fails }

-- What datagrams in memory tell of themselves.
abbrev pub datagrams_told : DatagramsState → DatagramsTold
datagrams_told datagrams = record {
  left = Some datagrams.left;
  sent = Some datagrams.sent;
  given = datagrams.given;
  faults = datagrams.faults;
}
