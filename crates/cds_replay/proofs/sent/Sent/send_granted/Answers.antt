-- Nothing is added where nothing was granted.
use Rattle.std.proofs.Common.{◌≡◌, ◌++◌, sym, subst}
use Rattle.std.specs.Prelude.{OnOk}
use Rattle.std.proofs.lemmas.List.{append-nil}
use Rattle.cds_server.specs.Outcome.{GoesOut}
use Rattle.cds_replay.specs.Sending.{first_sent}
use Rattle.cds_replay.proofs.sent.Sent.send_granted.Goals as goal

pub send_first-requires : goal.send_first-requires
send_first-requires c = record { delivered = subst GoesOut c.in-Some.is c.requires }

pub returns-in-None : goal.returns-in-None
returns-in-None c = subst (λ o. c.args.self.now ≡ c.args.self.now ++ first_sent c.args.number o) (sym c.in-None.is) (sym (append-nil c.args.self.now))

pub returns-in-Some : goal.returns-in-Some
returns-in-Some c = subst (λ o. OnOk c.send_first.result (c.send_first.new.self ≡ c.args.self.now ++ first_sent c.args.number o)) (sym c.in-Some.is) c.send_first.ensures.sent
