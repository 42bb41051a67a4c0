-- Over a wire that leaves all as it is the report is that of the script.
use Rattle.std.proofs.Common.{refl}
use Rattle.cds_script.specs.Played.{script_turns}
use Rattle.cds_replay.proofs.Reported.{ok-status, ok-report, line-status, line-report, line-number, limit-status, limit-report}
use Rattle.cds_replay.proofs.play.replay.Goals as goal

pub returns-clause-ok_status : goal.returns-clause-ok_status
returns-clause-ok_status g c =
    ok-status c.straight_reports_are_the_scripts.ensures (λ bytes. bytes) (λ bytes. refl) (g.S.Source.told c.args.source.now).left (g.K.Sink.told c.args.sink.now).holds (g.K.Sink.told c.replay_by.new.sink).holds
    c.replay_by.result c.replay_by.ensures.ok

pub returns-clause-ok_report : goal.returns-clause-ok_report
returns-clause-ok_report g c =
    ok-report c.straight_reports_are_the_scripts.ensures (λ bytes. bytes) (λ bytes. refl) (g.S.Source.told c.args.source.now).left (g.K.Sink.told c.args.sink.now).holds (g.K.Sink.told c.replay_by.new.sink).holds
    c.replay_by.result c.replay_by.ensures.ok

pub returns-clause-line_status : goal.returns-clause-line_status
returns-clause-line_status g c =
    line-status c.straight_reports_are_the_scripts.ensures (λ bytes. bytes) (λ bytes. refl) (g.S.Source.told c.args.source.now).left (g.K.Sink.told c.args.sink.now).holds (g.K.Sink.told c.replay_by.new.sink).holds
    c.replay_by.result c.replay_by.ensures.line_report

pub returns-clause-line_report : goal.returns-clause-line_report
returns-clause-line_report g c =
    line-report c.straight_reports_are_the_scripts.ensures (λ bytes. bytes) (λ bytes. refl) (g.S.Source.told c.args.source.now).left (g.K.Sink.told c.args.sink.now).holds (g.K.Sink.told c.replay_by.new.sink).holds
    c.replay_by.result c.replay_by.ensures.line_report

pub returns-clause-line_number : goal.returns-clause-line_number
returns-clause-line_number g c =
    line-number c.straight_reports_are_the_scripts.ensures (λ bytes. bytes) (λ bytes. refl) (g.S.Source.told c.args.source.now).left (g.K.Sink.told c.args.sink.now).holds (g.K.Sink.told c.replay_by.new.sink).holds
    c.replay_by.result c.replay_by.ensures.line_number

pub returns-clause-limit_status : goal.returns-clause-limit_status
returns-clause-limit_status g c =
    limit-status c.straight_reports_are_the_scripts.ensures (λ bytes. bytes) (λ bytes. refl) (g.S.Source.told c.args.source.now).left (g.K.Sink.told c.args.sink.now).holds (g.K.Sink.told c.replay_by.new.sink).holds
    c.replay_by.result c.replay_by.ensures.limit_report

pub returns-clause-limit_report : goal.returns-clause-limit_report
returns-clause-limit_report g c =
    limit-report c.straight_reports_are_the_scripts.ensures (λ bytes. bytes) (λ bytes. refl) (g.S.Source.told c.args.source.now).left (g.K.Sink.told c.args.sink.now).holds (g.K.Sink.told c.replay_by.new.sink).holds
    c.replay_by.result c.replay_by.ensures.limit_report

pub returns-clause-never_refused : goal.returns-clause-never_refused
returns-clause-never_refused g c = c.replay_by.ensures.straight (λ bytes. refl)

pub returns-clause-load_bound : goal.returns-clause-load_bound
returns-clause-load_bound g c = λ bytes told. c.all_turns_bound_loads.ensures (script_turns bytes) (c.script_turns_may_be.ensures bytes)

pub returns-clause-stands : goal.returns-clause-stands
returns-clause-stands g c = λ bytes told. c.all_turns_stand_at_scan_ends.ensures (script_turns bytes) (c.script_turns_may_be.ensures bytes)

pub returns-clause-complete : goal.returns-clause-complete
returns-clause-complete g c = λ bytes told. c.all_answers_are_complete.ensures (script_turns bytes) (c.script_turns_may_be.ensures bytes)
