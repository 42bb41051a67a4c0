use Rattle.std.proofs.Common.{subst}
use Rattle.cds_http.specs.declared.reader.Stage.{Stage}
use Rattle.cds_http.specs.Reading.{StageOf}
use Rattle.cds_http.proofs.StageForms.{finishes_whole}
use Rattle.cds_http.proofs.reader.end_stage.Goals as goal

pub returns-in-AtEnd-clause-ends : goal.returns-in-AtEnd-clause-ends
returns-in-AtEnd-clause-ends c side bytes stands =
    finishes_whole side bytes c.in-AtEnd.message (subst (λ (s : Stage). StageOf side s bytes) c.in-AtEnd.is stands)
