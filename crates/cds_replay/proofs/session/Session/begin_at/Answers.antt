-- The server begins again.
use Rattle.std.proofs.Common.{◌≡◌, ◌≤◌, ◌∷◌, sym, subst, arith}
use Rattle.cds_script.specs.declared.turn.ScriptTurn.TheVariants.{First}
use Rattle.cds_replay.specs.Session.{Playing, IsAfter, quiet}
use Rattle.cds_replay.specs.declared.last.Last.TheVariants.{NoTurn, OfFirst}
use Rattle.cds_replay.proofs.Turns.{begin-after}
use Rattle.cds_replay.proofs.session.Session.begin_at.Goals as goal

pub returns : goal.returns
returns c = record {
  after = λ steps after.
      let was : Playing = record { server = c.self.inside.server; replica = c.self.inside.replica; sent = c.self.inside.sent; found = c.self.inside.found; clock = c.self.inside.clock; reply = c.self.inside.reply; last = c.self.inside.last; wrap = c.self.inside.wrap } in
      let low : c.args.number ≤ 4294967295 = omega arith in
      subst (λ s. IsAfter (record was { server = s; last = OfFirst c.args.number }) (quiet (First c.args.number) ∷ steps)) (sym c.replace.ensures.after)
      (begin-after was c.in_ok-server.server c.args.number steps (subst (λ p. IsAfter p steps) (sym c.self.view_is) after)
      (subst (λ (p : Playing). p.last ≡ NoTurn) (sym c.self.view_is) c.requires) low c.in_ok-server.ensures);
}
