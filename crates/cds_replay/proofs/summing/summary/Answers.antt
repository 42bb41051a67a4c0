-- What was counted is written, or the last line of a script that stops.
use Rattle.std.proofs.lemmas.Result.{on_ok_weaker}
use Rattle.cds_replay.specs.Summing.{Sums}
use Rattle.cds_replay.proofs.Playing.{ok-told}
use Rattle.cds_replay.proofs.Tallied.{sums-well}
use Rattle.cds_replay.proofs.Halting.{halts-limit, halts-line, halts-number}
use Rattle.cds_replay.proofs.summing.summary.Goals as goal

pub returns-in-Ok-clause-ok : goal.returns-in-Ok-clause-ok
returns-in-Ok-clause-ok g c =
    ok-told c.write_counts.result (g.S.Source.told c.args.source.now).left (Sums 0 (g.K.Sink.told c.args.sink.now).holds (g.K.Sink.told c.write_counts.new.sink).holds)
    (λ bytes told.
    let counted = c.in-Ok.ensures.counted bytes told in
    on_ok_weaker c.write_counts.result
    (sums-well c.count_source.new.tally (g.K.Sink.told c.args.sink.now).holds (g.K.Sink.told c.write_counts.new.sink).holds bytes counted)
    (c.write_counts.ensures.held counted.report counted.counted))

pub returns-in-Err-Line-clause-line : goal.returns-in-Err-Line-clause-line
returns-in-Err-Line-clause-line g c =
    halts-line c.write_halt.result (g.S.Source.told c.args.source.now).left (g.K.Sink.told c.args.sink.now).holds (g.K.Sink.told c.write_halt.new.sink).holds c.in-Err-Line.line
    c.write_halt.ensures.answer (rw c.in-Err-Line.field-0-is at c.in-Err-Line.ensures.halted) c.write_halt.ensures.held

pub returns-in-Err-Line-clause-line_number : goal.returns-in-Err-Line-clause-line_number
returns-in-Err-Line-clause-line_number g c =
    halts-number c.write_halt.result (g.S.Source.told c.args.source.now).left (g.K.Sink.told c.args.sink.now).holds (g.K.Sink.told c.write_halt.new.sink).holds c.in-Err-Line.line
    c.write_halt.ensures.answer (rw c.in-Err-Line.field-0-is at c.in-Err-Line.ensures.halted)

pub returns-in-Err-Limit-clause-limit : goal.returns-in-Err-Limit-clause-limit
returns-in-Err-Limit-clause-limit g c =
    halts-limit c.write_halt-in-Err-Limit.result (g.S.Source.told c.args.source.now).left (g.K.Sink.told c.args.sink.now).holds (g.K.Sink.told c.write_halt-in-Err-Limit.new.sink).holds
    c.write_halt-in-Err-Limit.ensures.answer (rw c.in-Err-Limit.field-0-is at c.in-Err-Limit.ensures.halted) c.write_halt-in-Err-Limit.ensures.held
