use Rattle.std.proofs.Common.{refl}
use Rattle.cds_summary.proofs.Counting.{tally-keep}
use Rattle.cds_summary.proofs.tally.Tally.keep.Goals as goal

pub returns : goal.returns
returns c = λ report is.
    tally-keep c.args.self.now (record { counts = c.args.self.now.counts; partial = c.extend_from_slice.new.self }) report c.args.rest.now is c.requires refl
    c.in_ok-extend_from_slice.ensures.items
