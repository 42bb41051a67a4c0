-- What the end of a script adds to the text is what the sink takes.
use Rattle.std.proofs.Common.{[], None, subst, string_bytes}
use Rattle.cds_replay.specs.Script.{Finished, stop_status, stop_text, stop_refused}
use Rattle.cds_replay.proofs.Writing.{written-ok, written-stops, written-no-limit, written-unrefused, closes}
use Rattle.cds_replay.proofs.play.finish.Goals as goal

pub returns-clause-well : goal.returns-clause-well
returns-clause-well g c = λ before written goes.
    written-ok c.write_out.result c.in_ok-stop.stop _ c.write_out.ensures.answer
    (λ none is.
    closes (g.W.Wire.carried c.args.wire.now) before written None 0 [] c.as_bytes.result.now (string_bytes c.new-out.result) (string_bytes c.finish.new.out) _ _
    (subst (λ stop. Finished (g.W.Wire.carried c.args.wire.now) stop before written (string_bytes c.new-out.result) (string_bytes c.finish.new.out)) none
    (c.in_ok-stop.ensures.meaning before written goes))
    c.new-out.ensures.bytes c.as_bytes.ensures.value (c.write_out.ensures.held is))

pub returns-clause-stops : goal.returns-clause-stops
returns-clause-stops g c = λ before written goes.
    written-stops (g.W.Wire.carried c.args.wire.now) c.write_out.result c.in_ok-stop.stop before written _ _ c.write_out.ensures.answer
    (λ by some is.
    closes (g.W.Wire.carried c.args.wire.now) before written (stop_refused by) (stop_status by) (stop_text by) c.as_bytes.result.now (string_bytes c.new-out.result) (string_bytes c.finish.new.out) _ _
    (subst (λ stop. Finished (g.W.Wire.carried c.args.wire.now) stop before written (string_bytes c.new-out.result) (string_bytes c.finish.new.out)) some
    (c.in_ok-stop.ensures.meaning before written goes))
    c.new-out.ensures.bytes c.as_bytes.ensures.value (c.write_out.ensures.held is))

pub returns-clause-no_limit : goal.returns-clause-no_limit
returns-clause-no_limit g c = written-no-limit c.write_out.result c.in_ok-stop.stop c.write_out.ensures.answer c.in_ok-stop.ensures.no_limit

pub returns-clause-straight : goal.returns-clause-straight
returns-clause-straight g c = λ same. written-unrefused c.write_out.result c.in_ok-stop.stop c.write_out.ensures.answer (c.in_ok-stop.ensures.straight same)
