use Rattle.std.proofs.Common.{[], refl}
use Rattle.cds_summary.specs.Tally.{counts_of}
use Rattle.cds_summary.proofs.Counting.{tally-begin}
use Rattle.cds_summary.proofs.tally.Tally.new.Goals as goal

pub returns : goal.returns
returns c = tally-begin (record { counts = counts_of []; partial = c.new.result }) refl c.new.ensures.items
