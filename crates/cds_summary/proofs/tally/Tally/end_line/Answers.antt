use Rattle.std.proofs.Common.{ap, ◌∙◌}
use Rattle.cds_summary.specs.Tally.{and_line}
use Rattle.cds_summary.proofs.Counting.{tally-line}
use Rattle.cds_summary.proofs.tally.Tally.end_line.Goals as goal

pub returns : goal.returns
returns c = λ report is.
    tally-line c.args.self.now (record { counts = c.and_line-self.result; partial = c.clear.new.self }) report c.args.line.now is c.requires
    (c.and_line-self.ensures ∙ ap (λ bytes. and_line bytes c.args.self.now.counts) (c.as_slice.ensures.value ∙ c.in_ok-extend_from_slice.ensures.items))
    c.clear.ensures.items
