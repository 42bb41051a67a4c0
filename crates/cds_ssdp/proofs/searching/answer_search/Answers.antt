use Rattle.std.proofs.Common.{None, map, subst, sym, append-nil, Vec, Global, ℕ}
use Rattle.cds_http.specs.declared.message.Side.TheVariants.{Request}
use Rattle.cds_ssdp.specs.Messages.{IsMessageIn}
use Rattle.cds_ssdp.specs.Search.{asked_by}
use Rattle.cds_ssdp.proofs.Answering.{asks-for, asks-nothing, on-ok}
use Rattle.cds_ssdp.proofs.searching.answer_search.Goals as goal

pub returns-in-Some-clause-ok : goal.returns-in-Some-clause-ok
returns-in-Some-clause-ok c =
    let datagram = c.args.datagram.now in
    let message = c.in-Some.message in
    let asks = asks-for datagram message (subst (λ f. IsMessageIn Request datagram f) c.in-Some.is c.in_ok-message.ensures) in
    on-ok c.answer_message.result _ _ (λ after. (asked_by message, asks, after)) c.answer_message.ensures.ok

pub returns-in-None-clause-ok : goal.returns-in-None-clause-ok
returns-in-None-clause-ok c =
    let datagram = c.args.datagram.now in (
      None,
      asks-nothing datagram (subst (λ f. IsMessageIn Request datagram f) c.in-None.is c.in_ok-message.ensures),
      sym (append-nil (map (λ (v : Vec ℕ Global). v.items) c.args.out.now.items)),
    )
