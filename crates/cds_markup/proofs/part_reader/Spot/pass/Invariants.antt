use Rattle.std.proofs.Common.{length}
use Rattle.cds_markup.specs.Tellings.{told, telling_of}
use Rattle.cds_markup.proofs.ToldBytes.{SoFar}
use Rattle.cds_markup.proofs.part_reader.Spot.pass.Given as goal

abbrev pub invariant-loop-first : goal.invariant-loop-first
invariant-loop-first g l = SoFar g.S.PartSink.took g.S.PartSink.enough l.initial.to (told (telling_of l.initial.self) l.piece) l.to (telling_of l.self) l.left

abbrev pub decreases-loop-first : goal.decreases-loop-first
decreases-loop-first g l = length l.left
