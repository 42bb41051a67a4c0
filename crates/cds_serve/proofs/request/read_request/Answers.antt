-- Nothing is read where there is no memory to begin.
use Rattle.std.proofs.Common.{◌∙◌}
use Rattle.cds_serve.proofs.Coming.{none-read}
use Rattle.cds_serve.proofs.request.read_request.Goals as goal

pub returns-in-Err-clause-read : goal.returns-in-Err-clause-read
returns-in-Err-clause-read g c = λ bytes told. none-read bytes _ _ (c.in-Err.ensures.unread ∙ told) tt
