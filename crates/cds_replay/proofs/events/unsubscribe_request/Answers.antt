use Rattle.std.proofs.Common.{◌++◌, ◌∙◌}
use Rattle.cds_gena.specs.Written.{unsubscribe_text}
use Rattle.cds_replay.proofs.EventUrls.{event-is}
use Rattle.cds_replay.proofs.events.unsubscribe_request.Goals as goal

pub returns : goal.returns
returns c =
    c.in_ok-write_unsubscribe.ensures.ok
    ∙ (λ i. c.new-request.ensures.items i ++ unsubscribe_text (event-is c.in_ok-url.url c.in_ok-url.ensures i) c.args.sid.0)
