-- What the bytes of a source mean as a script over the wire is what the replay of them does.
use Rattle.std.proofs.Common.{◌+◌, ◌-◌, ◌≤◌, [], Some, None, IfErr, subst}
use Rattle.std.proofs.lemmas.Result.{on_ok_weaker}
use Rattle.cds_outside.specs.Outside.{raised}
use Rattle.cds_script.specs.Lines.{line_limit, script_limit}
use Rattle.cds_replay.specs.Replay.{OnLimit}
use Rattle.cds_replay.specs.Script.{stop_text}
use Rattle.cds_replay.specs.declared.script.ScriptStop.TheVariants.{Outside, Limit as PastLimit, Refused as RefusedAt}
use Rattle.cds_replay.proofs.Playing.{ok-told, line-told, limit-told, refused-told, reported, ends-with}
use Rattle.cds_replay.proofs.play.replay_by.Goals as goal

pub play_on-requires-clause-sound : goal.play_on-requires-clause-sound
play_on-requires-clause-sound g c = c.in_ok-script.ensures.sound (g.W.Wire.carried c.args.wire.now)

pub returns-clause-ok : goal.returns-clause-ok
returns-clause-ok g c =
    ok-told c.play_on.result _ _
    (λ bytes told.
    on_ok_weaker c.play_on.result (reported (g.W.Wire.carried c.args.wire.now) bytes None 0 [] (g.K.Sink.told c.args.sink.now).holds (g.K.Sink.told c.play_on.new.sink).holds)
    (c.play_on.ensures.well bytes (c.in_ok-script.ensures.goes (g.W.Wire.carried c.args.wire.now)) told))

pub returns-clause-ok_end : goal.returns-clause-ok_end
returns-clause-ok_end g c =
    ok-told c.play_on.result _ _
    (λ bytes told. c.play_on.ensures.end bytes (c.in_ok-script.ensures.goes (g.W.Wire.carried c.args.wire.now)) told)

pub returns-clause-line_report : goal.returns-clause-line_report
returns-clause-line_report g c =
    line-told (g.W.Wire.carried c.args.wire.now) c.play_on.result _ _ _ _
    (λ bytes told. c.play_on.ensures.stops bytes (c.in_ok-script.ensures.goes (g.W.Wire.carried c.args.wire.now)) told)
    (λ line bytes stops. reported (g.W.Wire.carried c.args.wire.now) bytes None 1 (stop_text (Outside line)) (g.K.Sink.told c.args.sink.now).holds (g.K.Sink.told c.play_on.new.sink).holds stops)

pub returns-clause-line_number : goal.returns-clause-line_number
returns-clause-line_number g c =
    line-told (g.W.Wire.carried c.args.wire.now) c.play_on.result _ _ _ _
    (λ bytes told. c.play_on.ensures.stops bytes (c.in_ok-script.ensures.goes (g.W.Wire.carried c.args.wire.now)) told)
    (λ line bytes stops. ends-with (g.W.Wire.carried c.args.wire.now) bytes None 1 (stop_text (Outside line)) (g.K.Sink.told c.args.sink.now).holds (g.K.Sink.told c.play_on.new.sink).holds stops)

pub returns-clause-limit_report : goal.returns-clause-limit_report
returns-clause-limit_report g c =
    limit-told (g.W.Wire.carried c.args.wire.now) c.play_on.result _ _ _ _
    (λ bytes told. c.play_on.ensures.stops bytes (c.in_ok-script.ensures.goes (g.W.Wire.carried c.args.wire.now)) told)
    (λ bytes stops. reported (g.W.Wire.carried c.args.wire.now) bytes None 6 (stop_text PastLimit) (g.K.Sink.told c.args.sink.now).holds (g.K.Sink.told c.play_on.new.sink).holds stops)

pub returns-clause-refused_report : goal.returns-clause-refused_report
returns-clause-refused_report g c =
    refused-told (g.W.Wire.carried c.args.wire.now) c.play_on.result _ _ _ _
    (λ bytes told. c.play_on.ensures.stops bytes (c.in_ok-script.ensures.goes (g.W.Wire.carried c.args.wire.now)) told)
    (λ line bytes stops. reported (g.W.Wire.carried c.args.wire.now) bytes (Some line) 0 (stop_text (RefusedAt line)) (g.K.Sink.told c.args.sink.now).holds (g.K.Sink.told c.play_on.new.sink).holds stops)

pub returns-clause-limit_moved : goal.returns-clause-limit_moved
returns-clause-limit_moved g c =
    subst (λ n. IfErr c.play_on.result (λ e. OnLimit e (raised (g.S.Source.told c.args.source.now).moved (n + line_limit + 1 - script_limit) ≤ (g.S.Source.told c.play_on.new.source).moved)))
    c.in_ok-script.ensures.left c.play_on.ensures.limit

pub returns-clause-asks : goal.returns-clause-asks
returns-clause-asks g c = λ bytes told ending ends. c.asks_write_what_was_left.ensures ending.steps

pub returns-in_err-script-clause-asks : goal.returns-in_err-script-clause-asks
returns-in_err-script-clause-asks g c = λ bytes told ending ends. c.asks_write_what_was_left.ensures ending.steps

pub returns-in_err-buffer-clause-asks : goal.returns-in_err-buffer-clause-asks
returns-in_err-buffer-clause-asks g c = λ bytes told ending ends. c.asks_write_what_was_left.ensures ending.steps

pub returns-clause-once : goal.returns-clause-once
returns-clause-once g c = λ bytes told. c.wires_end_once.ensures (g.W.Wire.carried c.args.wire.now) bytes

pub returns-in_err-script-clause-once : goal.returns-in_err-script-clause-once
returns-in_err-script-clause-once g c = λ bytes told. c.wires_end_once.ensures (g.W.Wire.carried c.args.wire.now) bytes

pub returns-in_err-buffer-clause-once : goal.returns-in_err-buffer-clause-once
returns-in_err-buffer-clause-once g c = λ bytes told. c.wires_end_once.ensures (g.W.Wire.carried c.args.wire.now) bytes

pub returns-clause-reported : goal.returns-clause-reported
returns-clause-reported g c = λ bytes told. c.wires_report_steps.ensures (g.W.Wire.carried c.args.wire.now) bytes

pub returns-clause-straight_report : goal.returns-clause-straight_report
returns-clause-straight_report g c = λ same bytes told ending ends.
    let law = c.straight_reports_are_the_scripts.ensures (g.W.Wire.carried c.args.wire.now) bytes ending same ends in
    record { none = law.0; ends = law.1 }

pub returns-in_err-script-clause-reported : goal.returns-in_err-script-clause-reported
returns-in_err-script-clause-reported g c = λ bytes told. c.wires_report_steps.ensures (g.W.Wire.carried c.args.wire.now) bytes

pub returns-in_err-script-clause-straight_report : goal.returns-in_err-script-clause-straight_report
returns-in_err-script-clause-straight_report g c = λ same bytes told ending ends.
    let law = c.straight_reports_are_the_scripts.ensures (g.W.Wire.carried c.args.wire.now) bytes ending same ends in
    record { none = law.0; ends = law.1 }

pub returns-in_err-buffer-clause-reported : goal.returns-in_err-buffer-clause-reported
returns-in_err-buffer-clause-reported g c = λ bytes told. c.wires_report_steps.ensures (g.W.Wire.carried c.args.wire.now) bytes

pub returns-in_err-buffer-clause-straight_report : goal.returns-in_err-buffer-clause-straight_report
returns-in_err-buffer-clause-straight_report g c = λ same bytes told ending ends.
    let law = c.straight_reports_are_the_scripts.ensures (g.W.Wire.carried c.args.wire.now) bytes ending same ends in
    record { none = law.0; ends = law.1 }
