use Rattle.std.proofs.Common.{arith}
use Rattle.cds_markup.specs.Reads.{reading_of}
use Rattle.cds_markup.proofs.Quiet.{begin_run}
use Rattle.cds_markup.proofs.part_reader.Spot.begin_run.Goals as goal

pub returns-then-count-gt0 : goal.returns-then-count-gt0
returns-then-count-gt0 c =
    let s = c.args.self.now in
    rw c.in-Some.ensures.cases.0
    (begin_run (reading_of s.cursor.machine) s.marks s.cursor.at c.in-Some.first.now c.in_ok-count.count c.in-Some._behind.now c.run.new.self c.requires.takes c.requires.none (rw c.in-Some.ensures.cases.0 at c.requires.room)
    (rw (c.in-Some.ensures.cases.0, c.before-text.ensures) at c.in_ok-count.ensures) (omega (arith, c.if-count-gt0.true)))
