use Rattle.std.proofs.Common.{◌++◌, ap, ◌∙◌}
use Rattle.cds_gena.specs.Asked.{is_deliverable}
use Rattle.cds_gena.specs.Written.{subscribe_text}
use Rattle.cds_replay.proofs.EventUrls.{event-is, event-goes, callback-is, callback-goes}
use Rattle.cds_replay.proofs.events.subscribe_request.Goals as goal

pub write_subscribe-requires-clause-address : goal.write_subscribe-requires-clause-address
write_subscribe-requires-clause-address c = ap is_deliverable (event-is c.in_ok-url.url c.in_ok-url.ensures) ∙ event-goes

pub write_subscribe-requires-clause-delivered : goal.write_subscribe-requires-clause-delivered
write_subscribe-requires-clause-delivered c = ap is_deliverable (callback-is c.in_ok-callback.callback c.in_ok-callback.ensures) ∙ callback-goes

pub returns : goal.returns
returns c =
    c.in_ok-write_subscribe.ensures.ok
    ∙ (λ i. c.new-request.ensures.items i ++ subscribe_text (event-is c.in_ok-url.url c.in_ok-url.ensures i) (callback-is c.in_ok-callback.callback c.in_ok-callback.ensures i))
