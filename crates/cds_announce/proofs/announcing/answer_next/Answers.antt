-- A datagram was answered, or none came, or memory ran out after it came.
use Rattle.std.proofs.Common.{List, ℕ, [], ◌∷◌, ◌++◌, Vec, Global, Some, ap, subst, ◌∙◌, arith}
use Rattle.cds_ssdp.specs.Search.{AnswersSearch}
use Rattle.cds_announce.proofs.Answered.{came-alone, came-answered, none-came, replies-of, texts}
use Rattle.cds_announce.proofs.announcing.answer_next.Goals as goal

pub returns-in-Ok-replies_to : goal.returns-in-Ok-replies_to
returns-in-Ok-replies_to g c =
    let device = c.args.device.now in
    let mid = g.U.Datagrams.told c.next.new.self in
    let replies = texts c.in-Ok-replies_to.replies.items in
    came-answered device (g.U.Datagrams.told c.args.datagrams.now) mid (g.U.Datagrams.told c.send_all.new.datagrams) c.in-Ok.datagram.items replies
    c.in-Ok.ensures.datagram c.in-Ok.ensures.given c.in-Ok.ensures.sent_stays c.in-Ok.ensures.never_falls
    (subst (λ (d : List ℕ). AnswersSearch device d [] replies) c.as_slice.ensures.value c.in-Ok-replies_to.ensures)
    (λ list had. c.send_all.ensures.sent list had ∙ ap (λ (a : List (Vec ℕ Global)). Some (list ++ replies-of mid.given a)) c.as_slice-in-Ok-replies_to.ensures.value)
    c.send_all.ensures.others_stay c.send_all.ensures.never_falls

pub returns-in-Ok : goal.returns-in-Ok
returns-in-Ok g c = (
  [],
  c.in-Ok.datagram.items ∷ [],
  came-alone c.args.device.now (g.U.Datagrams.told c.args.datagrams.now) (g.U.Datagrams.told c.next.new.self) c.in-Ok.datagram.items
      c.in-Ok.ensures.datagram c.in-Ok.ensures.given c.in-Ok.ensures.sent_stays c.in-Ok.ensures.never_falls,
  omega arith,
  omega arith,
)

pub returns : goal.returns
returns g c =
    none-came c.args.device.now (g.U.Datagrams.told c.args.datagrams.now) (g.U.Datagrams.told c.next.new.self) c.next.result c.in-Err.fault c.in-Err.is
    c.next.ensures.rose c.next.ensures.others_stay c.next.ensures.never_falls
