-- Nothing of the script has come.
use Rattle.std.proofs.Common.{[]}
use Rattle.cds_replay.specs.Wire.{EndsOver}
use Rattle.cds_replay.proofs.script.Script.new.Goals as goal

pub returns-clause-goes : goal.returns-clause-goes
unfolding EndsOver
returns-clause-goes c = λ carried.
    record { front = []; parts = (cc); steps = []; after = c.in_ok-session.ensures; goes = λ more later ends. ends }
