use Rattle.std.proofs.Common.{ℕ, length}
use Rattle.cds_markup.proofs.Terms.{name_bytes, StandsUpTo}
use Rattle.cds_markup.proofs.end_tag.place_behind.Given as goal

abbrev pub invariant-loop-first : goal.invariant-loop-first
invariant-loop-first l = (place : ℕ) → StandsUpTo (name_bytes l.name) l.at l.left place → StandsUpTo (name_bytes l.name) l.initial.at l.bytes place

abbrev pub decreases-loop-first : goal.decreases-loop-first
decreases-loop-first l = length l.left
