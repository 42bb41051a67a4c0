-- What callers see of the links in memory.
use Rattle.std.specs.Prelude.{ℕ, Some, List, []}
use Rattle.cds_outside.specs.declared.link.LinkRequest.{LinkRequest}
use Rattle.cds_outside.specs.Links.{LinkTold}

-- A link in memory.
pub record LinkState : Type 0 where
  -- the replies that it has left, the next one first
  pub replies : List (List ℕ)
  -- the requests that it took
  pub requests : List LinkRequest
  -- how many calls it answered, and how many faults there were
  pub calls : ℕ
  pub faults : ℕ
  -- the numbers, counted from 1, of the calls that are to fail
  pub fails : List ℕ

-- The same link before anything was asked of it.
abbrev pub fresh_link : LinkState → LinkState
fresh_link link = record { replies = link.replies; requests = []; calls = 0; faults = 0; fails = link.fails }

-- What a link in memory tells of itself.
abbrev pub link_told_of : LinkState → LinkTold
link_told_of link = record { requests = Some link.requests; replies = Some link.replies; faults = link.faults }
