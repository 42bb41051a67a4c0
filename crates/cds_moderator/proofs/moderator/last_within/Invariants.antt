use Rattle.std.proofs.Common.{◌≡◌, drop}
use Rattle.cds_moderator.specs.Moderating.{last_within}
use Rattle.cds_moderator.proofs.moderator.last_within.Given as goal

-- the last among the spans so far is where the rest goes on
abbrev pub invariant-loop-span : goal.invariant-loop-span
invariant-loop-span l = last_within l.most l.last (drop l.span-index l.spans) ≡ last_within l.most l.fn.before l.spans
