-- The counting begins with nothing.
use Rattle.std.proofs.Common.{◌+◌, ◌-◌, ◌≤◌, [], IfErr, subst}
use Rattle.cds_outside.specs.Outside.{raised}
use Rattle.cds_script.specs.Lines.{line_limit, script_limit}
use Rattle.cds_replay.specs.Replay.{OnLimit}
use Rattle.cds_replay.specs.Summing.{straight}
use Rattle.cds_replay.proofs.summing.count_source.Goals as goal

pub count_on-requires-clause-sound : goal.count_on-requires-clause-sound
count_on-requires-clause-sound g c = c.in_ok-script.ensures.sound straight

pub count_on-requires-clause-fresh : goal.count_on-requires-clause-fresh
count_on-requires-clause-fresh g c = record { written = []; goes = c.in_ok-script.ensures.goes straight; counted = c.requires }

pub returns-clause-limit : goal.returns-clause-limit
returns-clause-limit g c =
    subst (λ n. IfErr c.count_on.result (λ e. OnLimit e (raised (g.S.Source.told c.args.source.now).moved (n + line_limit + 1 - script_limit) ≤ (g.S.Source.told c.count_on.new.source).moved)))
    c.in_ok-script.ensures.left c.count_on.ensures.limit
