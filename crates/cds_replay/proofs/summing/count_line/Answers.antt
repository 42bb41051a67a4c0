-- What a line adds to the text is counted.
use Rattle.std.proofs.Common.{◌++◌, ◌∷◌, [], refl, string_bytes}
use Rattle.cds_replay.proofs.Tallied.{counts-on, counts-stop, own}
use Rattle.cds_replay.proofs.summing.count_line.Goals as goal

pub returns-clause-goes : goal.returns-clause-goes
returns-clause-goes c = λ before counting.
    counts-on c.count_out.result c.in_ok-stop.stop c.args.script.now c.end_line.new.self c.args.tally.now c.count_out.new.tally before (c.args.line.now ++ 10 ∷ []) (string_bytes c.new-out.result) (string_bytes c.end_line.new.out) c.as_bytes.result.now
    c.count_out.ensures.answer c.new-out.ensures.bytes c.as_bytes.ensures.value counting
    (c.in_ok-stop.ensures.meaning before counting.written counting.goes) c.count_out.ensures.counted

pub returns-clause-stops : goal.returns-clause-stops
returns-clause-stops c = λ before more counting.
    counts-stop c.count_out.result c.in_ok-stop.stop c.end_line.new.self before counting.written (c.args.line.now ++ 10 ∷ []) more (string_bytes c.new-out.result) (string_bytes c.end_line.new.out)
    c.count_out.ensures.answer (c.in_ok-stop.ensures.meaning before counting.written counting.goes)

pub returns-clause-own : goal.returns-clause-own
returns-clause-own c = own c.count_out.result c.in_ok-stop.stop c.count_out.ensures.answer (c.in_ok-stop.ensures.straight (λ bytes. refl))
