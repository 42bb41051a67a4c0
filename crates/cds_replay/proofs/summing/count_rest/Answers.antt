-- What a limit adds to the text is not counted, and nothing else is added.
use Rattle.std.proofs.Common.{string_bytes}
use Rattle.cds_replay.specs.Summing.{straight}
use Rattle.cds_replay.proofs.Tallied.{counts-on, counts-stop, own}
use Rattle.cds_replay.proofs.summing.count_rest.Goals as goal

pub returns-clause-goes : goal.returns-clause-goes
returns-clause-goes c = λ before counting.
    counts-on c.count_out.result c.in_ok-stop.stop c.args.script.now c.keep.new.self c.args.tally.now c.count_out.new.tally before c.args.rest.now (string_bytes c.new-out.result) (string_bytes c.keep.new.out) c.as_bytes.result.now
    c.count_out.ensures.answer c.new-out.ensures.bytes c.as_bytes.ensures.value counting
    (c.in_ok-stop.ensures.meaning straight before counting.written counting.goes) c.count_out.ensures.counted

pub returns-clause-stops : goal.returns-clause-stops
returns-clause-stops c = λ before more counting.
    counts-stop c.count_out.result c.in_ok-stop.stop c.keep.new.self before counting.written c.args.rest.now more (string_bytes c.new-out.result) (string_bytes c.keep.new.out)
    c.count_out.ensures.answer (c.in_ok-stop.ensures.meaning straight before counting.written counting.goes)

pub returns-clause-own : goal.returns-clause-own
returns-clause-own c = own c.count_out.result c.in_ok-stop.stop c.count_out.ensures.answer c.in_ok-stop.ensures.not_refused
