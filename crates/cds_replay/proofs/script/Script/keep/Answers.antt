-- Bytes that are kept stand behind those of the last line, or pass a limit.
use Rattle.std.proofs.Common.{◌<◌, ◌-◌, length, ◌⊎◌, inl, inr, arith, refl}
use Rattle.cds_script.specs.Lines.{line_limit}
use Rattle.cds_replay.proofs.Scripts.{kept-stops, kept-goes}
use Rattle.cds_replay.proofs.script.Script.keep.Goals as goal
use Rattle.cds_replay.proofs.script.Script.keep.Goals.{then-left-rest-via-then-left-rest, then-left-rest-via-else-left-rest+then-len-rest}

pub returns-then-left-rest-clause-meaning : goal.returns-then-left-rest-clause-meaning
returns-then-left-rest-clause-meaning c = λ carried before written goes.
    let script = c.args.self.now in
    let past : (script.room - length script.partial.items < length c.args.rest.now) ⊎ (line_limit - length script.partial.items < length c.args.rest.now) =
    elim c.then-left-rest.branch [
      | then-left-rest-via-then-left-rest w ↦ inl (omega arith)
      | then-left-rest-via-else-left-rest+then-len-rest w ↦ inr (omega arith)
    ] in
    kept-stops carried script before written c.args.rest.now _ _ goes c.requires.kept c.requires.whole past c.requires.within c.requires.short
    c.in_ok-write_stop.ensures

pub returns-clause-meaning : goal.returns-clause-meaning
returns-clause-meaning c = λ carried before written goes. kept-goes carried c.args.self.now _ before written c.args.rest.now _ goes refl refl refl c.in_ok-extend_from_slice.ensures.items

pub returns-then-left-rest-clause-limit : goal.returns-then-left-rest-clause-limit
returns-then-left-rest-clause-limit c =
    elim c.then-left-rest.branch [
      | then-left-rest-via-then-left-rest w ↦ omega arith
      | then-left-rest-via-else-left-rest+then-len-rest w ↦ omega arith
    ]
