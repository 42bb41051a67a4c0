-- What a limit adds to the text is what the sink takes.
use Rattle.std.proofs.Common.{◌++◌, subst, ap, ◌∙◌, string_bytes}
use Rattle.cds_replay.specs.Script.{Fed, stop_status, stop_text, stop_refused}
use Rattle.cds_replay.specs.Replay.{Holds}
use Rattle.cds_replay.proofs.Writing.{written-ok, written-stops, written-unrefused, closes}
use Rattle.cds_replay.proofs.play.keep_rest.Goals as goal

pub returns-clause-goes : goal.returns-clause-goes
returns-clause-goes g c = λ before written goes.
    written-ok c.write_out.result c.in_ok-stop.stop _ c.write_out.ensures.answer
    (λ none is.
    let went =
    subst (λ stop. Fed (g.W.Wire.carried c.args.wire.now) stop before written c.args.rest.now (string_bytes c.new-out.result) (string_bytes c.keep.new.out) c.keep.new.self) none
    (c.in_ok-stop.ensures.meaning (g.W.Wire.carried c.args.wire.now) before written goes) in
    record {
      added = went.added;
      goes = went.goes;
      holds = subst (λ text. Holds (g.K.Sink.told c.args.sink.now).holds text (g.K.Sink.told c.write_out.new.sink).holds)
          (c.as_bytes.ensures.value ∙ went.out ∙ ap (λ text. text ++ went.added) c.new-out.ensures.bytes)
          (c.write_out.ensures.held is);
    })

pub returns-clause-stops : goal.returns-clause-stops
returns-clause-stops g c = λ before written more goes.
    written-stops (g.W.Wire.carried c.args.wire.now) c.write_out.result c.in_ok-stop.stop ((before ++ c.args.rest.now) ++ more) written _ _ c.write_out.ensures.answer
    (λ by some is.
    closes (g.W.Wire.carried c.args.wire.now) ((before ++ c.args.rest.now) ++ more) written (stop_refused by) (stop_status by) (stop_text by) c.as_bytes.result.now (string_bytes c.new-out.result) (string_bytes c.keep.new.out) _ _
    (subst (λ stop. Fed (g.W.Wire.carried c.args.wire.now) stop before written c.args.rest.now (string_bytes c.new-out.result) (string_bytes c.keep.new.out) c.keep.new.self) some
    (c.in_ok-stop.ensures.meaning (g.W.Wire.carried c.args.wire.now) before written goes) more)
    c.new-out.ensures.bytes c.as_bytes.ensures.value (c.write_out.ensures.held is))

pub returns-clause-straight : goal.returns-clause-straight
returns-clause-straight g c = λ same. written-unrefused c.write_out.result c.in_ok-stop.stop c.write_out.ensures.answer c.in_ok-stop.ensures.not_refused
