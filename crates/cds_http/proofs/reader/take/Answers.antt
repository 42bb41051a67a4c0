use Rattle.std.proofs.Common.{subst}
use Rattle.cds_http.specs.declared.reader.Stage.{Stage}
use Rattle.cds_http.specs.Reading.{StageOf}
use Rattle.cds_http.proofs.StageForms.{stays_whole}
use Rattle.cds_http.proofs.reader.take.Goals as goal

pub returns-in-AtEnd-clause-takes : goal.returns-in-AtEnd-clause-takes
returns-in-AtEnd-clause-takes c bytes stands =
    stays_whole c.args.side bytes c.args.piece.now c.in-AtEnd.message (subst (λ (s : Stage). StageOf c.args.side s bytes) c.in-AtEnd.is stands)
