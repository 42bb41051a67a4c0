use Rattle.std.proofs.Common.{Some, ap, ◌∙◌}
use Rattle.cds_outside.specs.Links.{requests_after}
use Rattle.cds_serve.proofs.Sends.{after-fault}
use Rattle.cds_serve.proofs.sending.sent.Goals as goal

pub returns-in-Ok : goal.returns-in-Ok
returns-in-Ok c = λ request before after told list is. told list is ∙ ap (λ r. Some (requests_after r request list)) c.in-Ok.is

pub returns-in-Err : goal.returns-in-Err
returns-in-Err c = λ request before after told.
    c.lost.ensures request before after (λ list is. told list is ∙ ap Some (after-fault _ _ request list c.in-Err.is))
