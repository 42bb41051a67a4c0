-- A load begins.
use Rattle.std.proofs.Common.{sym, subst}
use Rattle.cds_replay.specs.Session.{Playing, IsAfter}
use Rattle.cds_replay.proofs.Turns.{load-after}
use Rattle.cds_replay.proofs.session.Session.load.Goals as goal

pub returns : goal.returns
returns c = record {
  after = λ steps after.
      let was : Playing = record { server = c.self.inside.server; replica = c.self.inside.replica; sent = c.self.inside.sent; found = c.self.inside.found; clock = c.self.inside.clock; reply = c.self.inside.reply; last = c.self.inside.last; wrap = c.self.inside.wrap } in
      load-after was c.begin_load.new.self steps (subst (λ p. IsAfter p steps) (sym c.self.view_is) after) c.begin_load.ensures.stands;
}
