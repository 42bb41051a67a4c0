-- What the end of a script adds to the text is counted.
use Rattle.std.proofs.Common.{refl, string_bytes}
use Rattle.cds_replay.proofs.Tallied.{at-limit, counts-end, counts-end-stop, own}
use Rattle.cds_replay.proofs.summing.count_end.Goals as goal

pub returns-clause-ends : goal.returns-clause-ends
returns-clause-ends c = λ before counting.
    counts-end c.count_out.result c.in_ok-stop.stop c.args.script.now c.args.tally.now c.count_out.new.tally before (string_bytes c.new-out.result) (string_bytes c.finish.new.out) c.as_bytes.result.now
    c.count_out.ensures.answer c.new-out.ensures.bytes c.as_bytes.ensures.value counting
    (c.in_ok-stop.ensures.meaning before counting.written counting.goes) c.count_out.ensures.counted

pub returns-clause-stops : goal.returns-clause-stops
returns-clause-stops c = λ before counting.
    counts-end-stop c.count_out.result c.in_ok-stop.stop before counting.written (string_bytes c.new-out.result) (string_bytes c.finish.new.out)
    c.count_out.ensures.answer (c.in_ok-stop.ensures.meaning before counting.written counting.goes)

pub returns-clause-no_limit : goal.returns-clause-no_limit
returns-clause-no_limit c = at-limit c.count_out.result c.in_ok-stop.stop _ c.count_out.ensures.answer c.in_ok-stop.ensures.no_limit

pub returns-clause-own : goal.returns-clause-own
returns-clause-own c = own c.count_out.result c.in_ok-stop.stop c.count_out.ensures.answer (c.in_ok-stop.ensures.straight (λ bytes. refl))
