-- Nothing is added where nothing is sent.
use Rattle.std.proofs.Common.{◌≡◌, ◌++◌, sym, subst}
use Rattle.std.specs.Prelude.{IfSome, OnOk}
use Rattle.std.proofs.lemmas.List.{append-nil}
use Rattle.cds_server.specs.Due.{AllGoOut}
use Rattle.cds_replay.specs.Sending.{sent_notes}
use Rattle.cds_replay.proofs.sent.Sent.send_due.Goals as goal

pub send-requires : goal.send-requires
send-requires c = record { delivered = subst (λ o. IfSome o AllGoOut) c.in-Some.is c.requires }

pub returns-in-None : goal.returns-in-None
returns-in-None c = subst (λ o. c.args.self.now ≡ c.args.self.now ++ sent_notes o) (sym c.in-None.is) (sym (append-nil c.args.self.now))

pub returns-in-Some : goal.returns-in-Some
returns-in-Some c = subst (λ o. OnOk c.send.result (c.send.new.self ≡ c.args.self.now ++ sent_notes o)) (sym c.in-Some.is) c.send.ensures.sent
