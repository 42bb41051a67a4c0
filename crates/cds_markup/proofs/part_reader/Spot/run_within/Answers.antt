use Rattle.std.proofs.Common.{sym, ◌∙◌}
use Rattle.cds_markup.specs.Reads.{reading_of}
use Rattle.cds_markup.proofs.Quiet.{text_run}
use Rattle.cds_markup.proofs.part_reader.Spot.run_within.Goals as goal

pub returns-then-takes_run : goal.returns-then-takes_run
returns-then-takes_run c =
    let s = c.args.self.now in
    text_run (reading_of s.cursor.machine) s.marks s.cursor.at c.in_ok-count.count c.args.bytes.now c.in-Some.text c.run.new.self (sym c.takes_run.ensures ∙ c.if-takes_run.true) c.in-Some.is c.requires c.in_ok-count.ensures
