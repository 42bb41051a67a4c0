use Rattle.std.proofs.Common.{subst}
use Rattle.cds_http.specs.declared.message.Side.TheVariants.{Reply}
use Rattle.cds_ssdp.specs.Messages.{IsMessageIn}
use Rattle.cds_ssdp.proofs.Answering.{tells-all, tells-nothing}
use Rattle.cds_ssdp.proofs.finding.found_of.Goals as goal

pub returns-in-Some : goal.returns-in-Some
returns-in-Some c =
    let datagram = c.args.datagram.now in
    tells-all datagram c.in-Some.message c.found_in.result (subst (λ f. IsMessageIn Reply datagram f) c.in-Some.is c.in_ok-message.ensures) c.found_in.ensures

pub returns-in-None : goal.returns-in-None
returns-in-None c =
    let datagram = c.args.datagram.now in
    tells-nothing datagram (subst (λ f. IsMessageIn Reply datagram f) c.in-None.is c.in_ok-message.ensures)
