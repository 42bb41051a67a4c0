-- A line means nothing, or a turn, or is outside the grammar.
use Rattle.std.proofs.Common.{◌≡◌, sym, ◌∙◌, string_bytes}
use Rattle.cds_script.specs.Script.{meaning_of}
use Rattle.cds_script.specs.declared.turn.Meaning.TheVariants.{Nothing, Outside}
use Rattle.cds_replay.proofs.Answering.{line-nothing, line-outside, outside-read}
use Rattle.cds_replay.proofs.script.answer_line.Goals as goal

pub returns-in-Nothing-clause-meaning : goal.returns-in-Nothing-clause-meaning
returns-in-Nothing-clause-meaning g c = λ steps after.
    let is : meaning_of c.args.line.now ≡ Nothing = sym c.in_ok-read_line.ensures ∙ c.in-Nothing.is in
    line-nothing (g.W.Wire.carried c.args.wire.now) steps (meaning_of c.args.line.now) c.args.number (string_bytes c.args.out.now) c.args.session.now is after

pub returns-in-Outside-clause-meaning : goal.returns-in-Outside-clause-meaning
returns-in-Outside-clause-meaning g c = λ steps after.
    let is : meaning_of c.args.line.now ≡ Outside = sym c.in_ok-read_line.ensures ∙ c.in-Outside.is in
    outside-read (g.W.Wire.carried c.args.wire.now) steps (meaning_of c.args.line.now) c.args.number (string_bytes c.args.out.now) (string_bytes c.write_outside.new.out) c.args.session.now
    c.write_outside.result c.write_outside.ensures.stop c.write_outside.ensures.written
    (line-outside (g.W.Wire.carried c.args.wire.now) steps (meaning_of c.args.line.now) c.args.number (string_bytes c.args.out.now) (string_bytes c.write_outside.new.out) is)
