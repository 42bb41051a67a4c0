-- The request is the one of the ask.
use Rattle.std.proofs.Common.{◌++◌, ap, ◌∙◌}
use Rattle.url.specs.Parts.{Parts}
use Rattle.cds_exchange.specs.Asking.{action_of}
use Rattle.cds_soap.specs.Written.{written_action}
use Rattle.cds_replay.proofs.control.request_of.Goals as goal

pub ask_bytes-requires : goal.ask_bytes-requires
ask_bytes-requires c = record { http = ap (λ (p : Parts). p.scheme) c.in_ok-url.ensures }

pub returns : goal.returns
returns c =
    c.in_ok-ask_bytes.ensures.ok
    ∙ (λ i. c.new-request.ensures.items i ++ written_action (action_of c.args.ask) (c.in_ok-url.ensures i))
