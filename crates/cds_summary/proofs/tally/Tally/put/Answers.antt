use Rattle.std.proofs.Common.{◌++◌, ap, ◌∙◌, string_bytes}
use Rattle.std.proofs.lemmas.Result.{on_ok_weaker}
use Rattle.cds_script.specs.Lines.{lines_of}
use Rattle.cds_summary.specs.Tally.{counts_text}
use Rattle.cds_summary.proofs.Counting.{text-is}
use Rattle.cds_summary.proofs.tally.Tally.put.Goals as goal

pub returns : goal.returns
returns c = λ report is.
    on_ok_weaker c.put_counts.result
    (λ e. e ∙ ap (λ text. string_bytes c.args.out.now ++ text) (ap counts_text (c.counts_of_all.ensures report is) ∙ text-is (lines_of report)))
    c.put_counts.ensures
