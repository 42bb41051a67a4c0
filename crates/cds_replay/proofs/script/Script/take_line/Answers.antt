-- A whole line is answered, or passes a limit.
use Rattle.std.proofs.Common.{◌<◌, ◌≤◌, ◌+◌, length, ◌⊎◌, inl, inr, arith, refl}
use Rattle.cds_script.specs.Lines.{line_limit}
use Rattle.cds_replay.proofs.Scripts.{line-stops, line-fed}
use Rattle.cds_replay.proofs.script.Script.take_line.Goals as goal
use Rattle.cds_replay.proofs.script.Script.take_line.Goals.{then-self-line-via-then-self-line, then-self-line-via-else-self-line+then-line-gt-LINE_LIMIT}

pub returns-then-self-line-clause-meaning : goal.returns-then-self-line-clause-meaning
returns-then-self-line-clause-meaning g c = λ before written goes.
    let past : (c.args.self.now.room ≤ length c.args.line.now) ⊎ (line_limit < length c.args.line.now) =
    elim c.then-self-line.branch [
      | then-self-line-via-then-self-line w ↦ inl (omega arith)
      | then-self-line-via-else-self-line+then-line-gt-LINE_LIMIT w ↦ inr (omega arith)
    ] in
    line-stops (g.W.Wire.carried c.args.wire.now) c.args.self.now before written c.args.line.now _ _ goes c.requires.none c.requires.whole past c.in_ok-write_stop.ensures

pub returns-clause-meaning : goal.returns-clause-meaning
returns-clause-meaning g c = λ before written goes.
    let room : length c.args.line.now + 1 ≤ c.args.self.now.room = omega arith in
    let short : length c.args.line.now ≤ line_limit = omega arith in
    line-fed (g.W.Wire.carried c.args.wire.now) c.in_ok-stop.stop c.args.self.now _ before written c.args.line.now _ _ goes c.requires.none c.requires.whole room short
    c.requires.none refl refl (c.in_ok-stop.ensures.meaning goes.steps goes.after)
