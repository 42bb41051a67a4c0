use Rattle.std.proofs.Common.{sym, subst}
use Rattle.cds_serve.specs.Requested.{IsFilled, IsLastBy}
use Rattle.cds_serve.proofs.Coming.{caused, no-failure, reads-as}
use Rattle.cds_serve.proofs.request.request_of.Goals as goal

pub returns-in-Done-clause-request : goal.returns-in-Done-clause-request
returns-in-Done-clause-request c bytes filled known d =
    c.finish.ensures.request bytes (subst (λ f. IsFilled f bytes c.args.reader) c.in-Done.is filled) known d

pub returns-in-Refused-clause-request : goal.returns-in-Refused-clause-request
returns-in-Refused-clause-request c bytes filled known d =
    caused bytes c.in-Refused.refusal c.refused.result (subst (λ f. IsFilled f bytes c.args.reader) c.in-Refused.is filled)
    (λ memory. c.refused.ensures.starved (sym memory)) c.refused.ensures.refused known d

pub returns-in-Done-clause-read : goal.returns-in-Done-clause-read
returns-in-Done-clause-read c bytes left read = reads-as bytes left _ _ (λ piece last. no-failure c.finish.result piece c.finish.ensures.rose) read

pub returns-in-Refused-clause-read : goal.returns-in-Refused-clause-read
returns-in-Refused-clause-read c bytes left read = reads-as bytes left _ _ (λ piece last. no-failure c.refused.result piece c.refused.ensures.rose) read

pub returns-in-Broken-clause-read : goal.returns-in-Broken-clause-read
returns-in-Broken-clause-read c bytes left read =
    reads-as bytes left _ _ (λ piece last. subst (λ f. IsLastBy f piece) c.in-Broken.is last) read
