-- What the tally puts is what the sink takes.
use Rattle.std.proofs.Common.{◌++◌, None, ap, subst, ◌∙◌}
use Rattle.cds_summary.specs.Summary.{summary_text}
use Rattle.cds_replay.specs.Replay.{Holds}
use Rattle.cds_replay.proofs.Writing.{written-ok}
use Rattle.cds_replay.proofs.summing.write_counts.Goals as goal

pub returns-clause-held : goal.returns-clause-held
returns-clause-held g c = λ report is.
    written-ok c.write_out.result None (Holds (g.K.Sink.told c.args.sink.now).holds (summary_text report) (g.K.Sink.told c.write_out.new.sink).holds) c.write_out.ensures.answer
    (λ none same.
    subst (λ text. Holds (g.K.Sink.told c.args.sink.now).holds text (g.K.Sink.told c.write_out.new.sink).holds)
    (c.as_bytes.ensures.value ∙ c.in_ok-put.ensures report is ∙ ap (λ text. text ++ summary_text report) c.new-out.ensures.bytes)
    (c.write_out.ensures.held same))
