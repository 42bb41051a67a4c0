-- The end is judged behind what came before it.
use Rattle.std.proofs.Common.{ap, subst, ◌∙◌}
use Rattle.cds_lastchange.specs.Judged.{ended_so}
use Rattle.cds_lastchange.specs.Feeding.{Came, came, Finished}
use Rattle.cds_lastchange.proofs.Feeding.{finishes}
use Rattle.cds_lastchange.proofs.reader.StateReader.finish.Goals as goal

pub returns-clause-finished : goal.returns-clause-finished
returns-clause-finished c =
    subst (λ (now : Came). Finished now c.ended.result) c.self.view_is
    (finishes (came c.self.inside.parts c.self.inside.judging c.self.inside.blank) c.finish.result c.ended.result
    (c.ended.ensures ∙ ap (ended_so c.finish.result c.self.inside.blank) c.into_said.ensures) c.finish.ensures.ends)
